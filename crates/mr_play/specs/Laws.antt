-- Laws of what `play` prints.
use Rattle.std.specs.Prelude.{◌≡◌, ◌⊎◌, ℕ, List, ◌++◌, Some, ◌<◌, false, None}
use Rattle.mr_ids.specs.Attempt.{Attempt}
use Rattle.mr_master_model.specs.declared.phase.DutyName.{DutyName}
use Rattle.mr_container.specs.declared.wish.Wish.{Wish}
use Rattle.mr_script.specs.declared.command.Command.{Command}
use Rattle.mr_script.specs.declared.event_name.EventName.{EventName}
use Rattle.mr_script.specs.declared.event_name.EventName.TheVariants as name
use Rattle.mr_world_model.specs.Ids.{TaskId}
use Rattle.mr_world_model.specs.Packets.{Config}
use Rattle.mr_world_model.specs.World.{Event}
use Rattle.mr_world_model.specs.Claims.{Limits, IsMarked, LooksTheSame, winner}
use Rattle.mr_world_model.specs.Effect.{not_now}
use Rattle.mr_world_model.specs.Sequential.{Job, JobLaws}
use Rattle.mr_sim_commands.specs.declared.fault.JobTextFault.{JobTextFault}
use Rattle.mr_play.specs.EventNames.{duty_event, wish_event}
use Rattle.mr_play.specs.Played.{Played, Next, cursor_at, is_through, next_of, played, world}
use Rattle.mr_play.specs.Text.{PrintsPlay, IsBadPlayJob, IsBadPlayLine, IsFullPlay}

-- each name of a script but `launch` and `step` is that of a duty or of a wish, and no two duties have one name
pub record NamesAreOfDutiesAndWishes : Type 0 where
  pub every : (n : EventName) → (n ≡ name.Launch) ⊎ ((n ≡ name.Step) ⊎ (((d : DutyName) × (duty_event d ≡ n)) ⊎ ((w : Wish) × (wish_event w ≡ Some n))))
  pub apart : (d e : DutyName) → duty_event d ≡ duty_event e → d ≡ e

-- `play` prints at most one text for an input, and none where the input is refused
pub record OnePlayText : Type 0 where
  pub one : (within : Config → Limits) (input text other : List ℕ) → PrintsPlay within input text → PrintsPlay within input other → text ≡ other
  pub not_bad_job : (within : Config → Limits) (input text : List ℕ) (e : JobTextFault) → PrintsPlay within input text → IsBadPlayJob input e → ⊥
  pub not_bad_line : (within : Config → Limits) (input text : List ℕ) (n : ℕ) → PrintsPlay within input text → IsBadPlayLine input n → ⊥
  pub not_full : (within : Config → Limits) (input text : List ℕ) → PrintsPlay within input text → IsFullPlay within input → ⊥

-- What stays while a script goes on: its events, each winner, and, once the marker is there, the marker and all that a reader sees.
pub record GoesOn (job : Job) (cfg : Config) (within : Limits) (s t : Played) : Type 0 where
  pub events : (more : List Event) × (t.events ≡ s.events ++ more)
  pub winners : (r : TaskId) (a : Attempt) → winner (world job cfg within s) r ≡ Some a → winner (world job cfg within t) r ≡ Some a
  pub marked : IsMarked (world job cfg within s) → IsMarked (world job cfg within t) × LooksTheSame (world job cfg within s) (world job cfg within t)

-- so it is, whatever commands follow others
abbrev pub ScriptsGoOn : Type 0
ScriptsGoOn =
    (job : Job) (cfg : Config) (within : Limits) (cs ds : List (ℕ × Command)) (begin s t : Played) →
    played job cfg within cs begin ≡ Some s → played job cfg within (cs ++ ds) begin ≡ Some t → GoesOn job cfg within s t

-- What a calm makes next is permitted, where the job keeps its laws and there is a node. So a calm ends by its own rules, or at a limit.
abbrev pub CalmsArePermitted : Type 0
CalmsArePermitted =
    (job : Job) (cfg : Config) (within : Limits) → JobLaws job cfg → 0 < cfg.nodes → (s : Played) (k : ℕ) (next : Next) (e : Event) →
    is_through cfg (world job cfg within s) k ≡ false → next_of job cfg within (world job cfg within s) k s.stepped (cursor_at (world job cfg within s) s.dropped s.cursor) ≡ Some next → next.event ≡ Some e →
    not_now cfg (world job cfg within s) e ≡ None
