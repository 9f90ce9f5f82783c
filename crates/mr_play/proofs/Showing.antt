-- What is shown beside what is printed.
use Rattle.std.proofs.Common.{◌≡◌, ℕ, suc, Bool, List, ◌++◌, None, Ok, refl, sym, ap, subst, ◌∙◌, append_assoc}
use Rattle.mr_history.specs.Reading.{records_of}
use Rattle.mr_script.specs.declared.command.Command.{Command}
use Rattle.mr_script.specs.Script.{AreCommands}
use Rattle.mr_world.specs.Histories.{stable_bytes}
use Rattle.mr_world.specs.Journal.{Journal, history_in, run_of, world_in}
use Rattle.mr_world.specs.Limits.{within}
use Rattle.mr_play.specs.declared.shown.Shown.{Shown}
use Rattle.mr_play.specs.declared.player.Player.{Player}
use Rattle.mr_sim_commands.specs.declared.job.submission.Submission.{Submission}
use Rattle.mr_play.specs.declared.fault.PlayerFault.{PlayerFault}
use Rattle.mr_play.specs.declared.fault.PlayerFault.TheVariants as fault
use Rattle.mr_sim_commands.specs.job.Text.{submission_of}
use Rattle.mr_play.specs.Text.{job_line, script_lines, played_of, IsAsExpected, PlayFails}
use Rattle.mr_play.specs.WorldText.{world_text}
use Rattle.mr_play.specs.Players.{state_in, sim_fault, FullWhere}
use Rattle.mr_play.specs.inner.PlaySteps.{HasPlayed}
use Rattle.mr_play.specs.Played.{Played}
use Rattle.mr_play.proofs.Playing.{one_end}
use Rattle.mr_play.specs.Shown.{AddsSegments, Draws, HasPrinted, IsSegment, segment_text, text_in}

-- one segment more was written
pub adds-one : (j : Journal) (n k : ℕ) (old mid new bytes : List ℕ) → k ≡ suc n → AddsSegments j n old mid → bytes ≡ stable_bytes (history_in j) k → records_of bytes ≡ ((world_in j).history k).stable → new ≡ mid ++ segment_text k bytes → AddsSegments j k old new
adds-one j n k old mid new bytes is (more, are, so) all tells written =
    let text = segment_text k (stable_bytes (history_in j) k) in
    let told = subst (λ xs. records_of xs ≡ ((world_in j).history k).stable) all tells in
    let says = ap (λ xs. mid ++ segment_text k xs) all in
    subst (λ i. AddsSegments j i old new) (sym is)
    (more ++ text, (more, text, are, subst (λ i. IsSegment j i text) is (record { tells = told; is = refl }), refl), written ∙ says ∙ ap (λ xs. xs ++ text) so ∙ append_assoc old more text)

-- what is printed of a player that has played what an input says
pub printed : (input : List ℕ) (job : Submission) (commands : List (ℕ × Command)) (p : Player) → submission_of (job_line input) ≡ Ok job → AreCommands job.id 2 (script_lines input) commands → HasPlayed job commands p → HasPrinted input p
printed input job commands p said read h = record {
  prints = record {
    job = job;
    said = said;
    commands = commands;
    read = read;
    left = state_in p;
    comes = h.comes;
    is = ap (λ cfg. p.told.items ++ world_text cfg (run_of cfg p.world.events)) h.config;
  };
  kind = sym h.kind;
  state = refl;
  met = refl;
  cluster = ap (λ cfg. run_of cfg p.world.events) (sym h.config);
  journal = ap (λ cfg. record { config = cfg; events = p.world.events }) (sym h.config);
  noted = h.noted;
}

-- why a player that could not be played is told
pub full_fails : (input : List ℕ) (job : Submission) (commands : List (ℕ × Command)) (f : PlayerFault) → submission_of (job_line input) ≡ Ok job → AreCommands job.id 2 (script_lines input) commands
    → FullWhere f (played_of within job commands ≡ None) → PlayFails within input (sim_fault f)
full_fails input job commands fault.NoMemory said read h = tt
full_fails input job commands fault.Full said read h = record { job = job; said = said; commands = commands; read = read; full = h }

pub draws : (input : List ℕ) (p : Player) → HasPrinted input p → Draws within input
draws input p is = (text_in p, is.prints)

-- and what it knows of the script's expectations is so
pub as_expected : (input : List ℕ) (p : Player) (met : Bool) → met ≡ p.met → HasPrinted input p → IsAsExpected within input met
as_expected input p met known is text q = ap (λ (left : Played). left.met) (one_end within input text (text_in p) q is.prints) ∙ is.met ∙ sym known
