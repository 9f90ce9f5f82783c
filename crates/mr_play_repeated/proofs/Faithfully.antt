-- A faithful journal can be repeated.
use Rattle.std.proofs.Common.{◌≡◌, ◌≤◌, ℕ, Bool, true, false, cond, nat_le, List, [], ◌∷◌, ◌++◌, length, Option, Some, None, refl, sym, ap, ◌∙◌, append_assoc}
use Rattle.std.proofs.lemmas.Bool.{le-leb}
use Rattle.std.specs.List.{AllByRecursion}
use Rattle.std.specs.Option.{option_and_then}
use Rattle.std.specs.Prelude.{◌&&◌, is_none, nat_lt}
use Rattle.mr_packet.specs.declared.packet.ContainerId.{ContainerId}
use Rattle.mr_world_events.specs.declared.why.Why.{Why}
use Rattle.mr_world_model.specs.Packets.{Config}
use Rattle.mr_world_model.specs.World.{World, Event, Start, Crash, Duty, LaunchOn, Deliver, ContainerStep, Compute, Die, NodeRestart, Expire}
use Rattle.mr_world_model.specs.Effect.{not_now, unless}
use Rattle.mr_world_model.specs.Claims.{Limits}
use Rattle.mr_world_model.specs.Sequential.{CarriesDefinition, Input, IsFaithful, Job, input_of, is_taken, made_of, most_output}
use Rattle.mr_world.specs.declared.limits.TheConstants.{MAX_EVENTS}
use Rattle.mr_world.specs.Applying.{CanHappen}
use Rattle.mr_world.specs.Journal.{run_of}
use Rattle.mr_world.specs.Limits.{within}
use Rattle.mr_world.specs.Repeating.{CanFollow}
use Rattle.mr_sim_commands.specs.declared.job.submission.Submission.{Submission}
use Rattle.mr_play.specs.Played.{computed_of, computing, result_of}
use Rattle.mr_play.specs.Text.{config_of, job_as}
use Rattle.mr_play_repeated.specs.Repeated.{AreRepeatable, FaithfulRunsAreRepeatable, IsComputed, IsShort, KeepsFew}

none_is : {A : Type 0} (x : A) → None ≡ Some x → ⊥
none_is x e = cc

not_some : {A : Type 0} (x : A) → Some x ≡ None → ⊥
not_some x e = cc

unless_none : (b : Bool) (reason : Why) (rest : Option Why) → unless b reason rest ≡ None → (b ≡ true) × (rest ≡ None)
unless_none true reason rest e = (refl, e)
unless_none false reason rest e = absurd (not_some reason e)

both_true : (a b : Bool) → a && b ≡ true → b ≡ true
both_true true b e = e
both_true false b e = absurd (cc e)

module _ (sub : Submission) where
  abbrev job : Job
  job = job_as sub.job

  abbrev cfg : Config
  cfg = config_of sub

  abbrev lim : Limits
  lim = within cfg

  alive : (w : World) (c : ContainerId) (bytes : List ℕ) → not_now cfg w (Compute c bytes) ≡ None → w.is_alive c ≡ true
  unfolding not_now
  alive w c bytes now = (unless_none (w.is_alive c) _ _ now).0

  -- the definition's bytes are what is computed
  computing_is : (w : World) (c : ContainerId) (bytes : List ℕ) → w.is_alive c ≡ true → option_and_then (made_of job cfg) (input_of cfg w c) ≡ Some bytes → length bytes ≤ most_output → computing job cfg lim w c ≡ Some (Compute c bytes)
  computing_is w c bytes lives gives short = ap (λ b. computed_of job cfg lim c (cond b (input_of cfg w c) None)) lives ∙ by (input_of cfg w c) gives
    where
      fits : nat_le (length bytes) most_output ≡ true
      fits = le-leb (length bytes) most_output short

      by : (o : Option Input) → option_and_then (made_of job cfg) o ≡ Some bytes → computed_of job cfg lim c o ≡ Some (Compute c bytes)
      by None g = absurd (none_is bytes g)
      by (Some input) g = ap (result_of job cfg lim c) g ∙ ap (λ b. cond b (Some (Compute c bytes)) None) fits

  computed : (w : World) (e : Event) → not_now cfg w e ≡ None → CarriesDefinition job cfg w e → IsShort e → IsComputed sub w e
  computed w (Compute c bytes) now gives short = computing_is w c bytes (alive w c bytes now) gives short
  computed w (Start k kept) now gives short = tt
  computed w (Crash k kept) now gives short = tt
  computed w (Duty k f) now gives short = tt
  computed w (LaunchOn k t n) now gives short = tt
  computed w (Deliver i) now gives short = tt
  computed w (ContainerStep c f) now gives short = tt
  computed w (Die c) now gives short = tt
  computed w (NodeRestart n) now gives short = tt
  computed w (Expire k n) now gives short = tt

  is_taken_then : (before : List Event) (e : Event) → CanHappen (record { config = cfg; events = before }) e → is_taken cfg lim (run_of cfg before) e ≡ true
  is_taken_then before e can =
      ap (λ o. is_none o && within cfg (run_of cfg before) e) can.now ∙ both_true (nat_lt (length before) MAX_EVENTS) (within cfg (run_of cfg before) e) can.fits

  repeatable : (all before es : List Event) → all ≡ before ++ es → IsFaithful job cfg lim all → CanFollow cfg before es → AllByRecursion IsShort es → AllByRecursion KeepsFew es → AreRepeatable sub before es
  repeatable all before [] is faithful follow short few = tt
  repeatable all before (e ∷ es) is faithful follow short few =
      let carries = faithful before es e is (is_taken_then before e follow.0) in (
        record { can = follow.0; computed = computed (run_of cfg before) e follow.0.now carries short.0; few = few.0 },
        repeatable all (before ++ e ∷ []) es (is ∙ sym (append_assoc before (e ∷ []) es)) faithful follow.1 short.1 few.1,
      )

pub faithful_runs_are_repeatable_law : FaithfulRunsAreRepeatable
faithful_runs_are_repeatable_law sub es follow faithful short few = repeatable sub es [] es refl faithful follow short few
