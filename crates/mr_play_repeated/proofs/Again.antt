-- The script of a run's events is played to the same run.
use Rattle.std.proofs.Common.{◌≡◌, ℕ, ◌+◌, Bool, true, false, cond, ◌==◌, List, [], ◌∷◌, ◌++◌, Option, Some, None, refl, sym, ap, subst, ◌∙◌, append-nil, append_assoc}
use Rattle.std.specs.Option.{option_and_then}
use Rattle.mr_packet.specs.declared.packet.ContainerId.{ContainerId}
use Rattle.mr_script.specs.Lines.{after, before, lines_of}
use Rattle.mr_script.specs.Script.{AreCommands}
use Rattle.mr_script_writer.specs.Laws.{CanBeSaid, numbered}
use Rattle.mr_script_writer.specs.Repeating.{said_by}
use Rattle.mr_script_writer.proofs.Reading.{scripts_are_read_back_law}
use Rattle.mr_world_model.specs.Packets.{Config}
use Rattle.mr_world_model.specs.World.{Event, Start, Crash, Duty, LaunchOn, Deliver, ContainerStep, Compute, Die, NodeRestart, Expire}
use Rattle.mr_world_model.specs.Claims.{Limits}
use Rattle.mr_world_model.specs.Sequential.{Job}
use Rattle.mr_world.specs.Applying.{CanHappen}
use Rattle.mr_world.specs.Journal.{run_of}
use Rattle.mr_world.specs.Limits.{within}
use Rattle.mr_sim_commands.specs.declared.job.submission.Submission.{Submission}
use Rattle.mr_sim_commands.specs.job.Text.{submission_of}
use Rattle.mr_play.specs.Played.{Played, begun, made, obeyed, played, stepped_by, unless_refused}
use Rattle.mr_play.specs.Text.{config_of, job_as, job_line, played_of, script_by, script_lines}
use Rattle.mr_play.specs.WorldText.{world_text}
use Rattle.mr_play_repeated.proofs.Worded.{runs_can_be_said_law}
use Rattle.mr_play_repeated.specs.Repeated.{AreRepeatable, IsRepeatable, IsScriptOf, RunsAreRepeated, behind_job}

-- ---- the text

job_again : (input rest : List ℕ) → job_line (job_line input ++ 10 ∷ rest) ≡ job_line input
job_again [] rest = refl
job_again (x ∷ input) rest = by (x == 10) refl (job_again input rest)
  where
    by : (b : Bool) → (x == 10) ≡ b → before 10 (before 10 input ++ 10 ∷ rest) ≡ before 10 input → before 10 (cond b [] (x ∷ before 10 input) ++ 10 ∷ rest) ≡ cond b [] (x ∷ before 10 input)
    by true is e = refl
    by false is e = ap (λ t. cond t [] (x ∷ before 10 (before 10 input ++ 10 ∷ rest))) is ∙ ap (λ xs. x ∷ xs) e

script_again : (input rest : List ℕ) → after 10 (job_line input ++ 10 ∷ rest) ≡ Some rest
script_again [] rest = refl
script_again (x ∷ input) rest = by (x == 10) refl (script_again input rest)
  where
    by : (b : Bool) → (x == 10) ≡ b → after 10 (before 10 input ++ 10 ∷ rest) ≡ Some rest → after 10 (cond b [] (x ∷ before 10 input) ++ 10 ∷ rest) ≡ Some rest
    by true is e = refl
    by false is e = ap (λ t. cond t (Some (before 10 input ++ 10 ∷ rest)) (after 10 (before 10 input ++ 10 ∷ rest))) is ∙ e

module _ (sub : Submission) where
  abbrev job : Job
  job = job_as sub.job

  abbrev cfg : Config
  cfg = config_of sub

  abbrev lim : Limits
  lim = within cfg

  -- ---- what is read

  read : (input script : List ℕ) (es : List Event) → CanBeSaid sub.id es → IsScriptOf es script → AreCommands sub.id 2 (script_lines (behind_job input script)) (numbered 2 es)
  read input script es said (notes, is) =
      let all : AreCommands sub.id 2 (lines_of script) (numbered 2 es) =
      subst (λ z. AreCommands sub.id 2 (lines_of z) (numbered 2 es)) (sym is) (scripts_are_read_back_law sub.id 2 es notes said) in
      subst (λ o. AreCommands sub.id 2 (lines_of (script_by o)) (numbered 2 es)) (sym (script_again input script)) all

  -- ---- one event

  abbrev with_event : Event → Option ContainerId → Played → Played
  with_event e last s = record s { events = s.events ++ e ∷ []; stepped = last }

  abbrev Can : Played → Event → Type 0
  Can s e = CanHappen (record { config = cfg; events = s.events }) e

  made_is : (line : ℕ) (e : Event) (last : Option ContainerId) (s : Played) → Can s e → made job cfg lim line e last s ≡ Some (with_event e last s)
  made_is line e last s can = ap (unless_refused job cfg lim line e last s) can.now ∙ ap (λ b. cond b (Some (with_event e last s)) None) can.fits

  -- who has stepped last then
  abbrev stepped_then : Event → Option ContainerId → Option ContainerId
  stepped_then (Compute c bytes) last = Some c
  stepped_then e last = stepped_by job cfg lim e last

  one : (line : ℕ) (s : Played) (e : Event) → IsRepeatable sub s.events e → obeyed job cfg lim line (said_by e) s ≡ Some (with_event e (stepped_then e s.stepped) s)
  one line s (Start k kept) h = made_is line (Start k kept) _ s h.can
  one line s (Crash k kept) h = made_is line (Crash k kept) _ s h.can
  one line s (Duty k f) h = made_is line (Duty k f) _ s h.can
  one line s (LaunchOn k t n) h = made_is line (LaunchOn k t n) _ s h.can
  one line s (Deliver i) h = made_is line (Deliver i) _ s h.can
  one line s (ContainerStep c f) h = made_is line (ContainerStep c f) _ s h.can
  one line s (Compute c bytes) h = ap (option_and_then (λ e. made job cfg lim line e (Some c) s)) h.computed ∙ made_is line (Compute c bytes) (Some c) s h.can
  one line s (Die c) h = made_is line (Die c) _ s h.can
  one line s (NodeRestart n) h = made_is line (NodeRestart n) _ s h.can
  one line s (Expire k n) h = made_is line (Expire k n) _ s h.can

  -- ---- all of them

  pub record ComesTo (n : ℕ) (es : List Event) (s : Played) : Type 0 where
    pub left : Played
    pub comes : played job cfg lim (numbered n es) s ≡ Some left
    pub events : left.events ≡ s.events ++ es
    pub told : left.told ≡ s.told

  comes_to : (n : ℕ) (es : List Event) (s : Played) → AreRepeatable sub s.events es → ComesTo n es s
  comes_to n [] s h = record { left = s; comes = refl; events = sym (append-nil s.events); told = refl }
  comes_to n (e ∷ es) s h =
      let behind = with_event e (stepped_then e s.stepped) s in
      let rest = comes_to (n + 1) es behind h.1 in
      record {
        left = rest.left;
        comes = ap (option_and_then (played job cfg lim (numbered (n + 1) es))) (one n s e h.0) ∙ rest.comes;
        events = rest.events ∙ append_assoc s.events (e ∷ []) es;
        told = rest.told;
      }

pub runs_are_repeated_law : RunsAreRepeated
unfolding played_of
runs_are_repeated_law input script sub es is h repeats =
    let all = comes_to sub 2 es begun h in
    let whole : all.left.events ≡ es = all.events in
    record {
      prints = record {
        job = sub;
        said = ap submission_of (job_again input script) ∙ is;
        commands = numbered 2 es;
        read = read sub input script es (runs_can_be_said_law (job_line input) sub es is h) repeats;
        left = all.left;
        comes = all.comes;
        is = λ i. sym all.told i ++ world_text (config_of sub) (run_of (config_of sub) (sym whole i));
      };
      journal = ap (λ fs. record { config = config_of sub; events = fs }) whole;
    }
