-- What a few scripts make of a cluster, worked out: what the definitions come to.
use Rattle.std.specs.Prelude.{◌≡◌, ℕ, true, List, [], ◌∷◌, ◌++◌, Some, None, codes}
use Rattle.mr_ids.specs.declared.id.TaskKind.TheVariants.{Map}
use Rattle.mr_world_events.specs.declared.why.Why.TheVariants.{WrongGeneration, NoMaster, NotRunning, NoPacket, NoDuty}
use Rattle.mr_script.specs.declared.command.Command.{Command}
use Rattle.mr_script.specs.declared.command.Command.TheVariants as command
use Rattle.mr_script.specs.declared.command.Until.TheVariants.{Most, Before, Through}
use Rattle.mr_script.specs.declared.event_name.EventName.TheVariants as name
use Rattle.mr_world_model.specs.Packets.{Config}
use Rattle.mr_world_model.specs.World.{Event, Start, Crash, Duty, LaunchOn, Deliver, Calm, Unavailable}
use Rattle.mr_world_model.specs.Claims.{Limits}
use Rattle.mr_world_model.specs.Sequential.{Job}
use Rattle.mr_play.specs.Played.{begun, played, refused_line}

-- a job of one map and one reduce on one node
abbrev pub small : Config
small = record { job = record { start = 200707121733; number = 3 }; splits = codes "a b a" ∷ []; reduces = 1; nodes = 1; limit = 4; v2_from = 1 }

-- limits that refuse nothing
abbrev pub any : Limits
any w e = true

-- commands lead to these events and print these refusals. No calm has passed a packet, no packet was dropped, no
-- container has stepped last, and nothing was expected
abbrev pub LeadTo : List (ℕ × Command) → List Event → List ℕ → Type 0
LeadTo cs events refused = (job : Job) → played job small any cs begun ≡ Some (record { events = events; cursor = 0; dropped = []; stepped = None; told = refused; met = true })

pub record PlayedRows : Type 0 where
  -- a master starts twice, one that never did is called, a task is launched while it opens, no packet is there, and it crashed
  pub refused : LeadTo
      ((2, command.Makes (Start 1 0)) ∷ (3, command.Makes (Start 1 0)) ∷ (4, command.Makes (Duty 2 Calm)) ∷ (5, command.Makes (LaunchOn 1 (record { job = small.job; kind = Map; number = 0 }) 0))
      ∷ (6, command.Makes (Deliver 0)) ∷ (7, command.Makes (Crash 1 0)) ∷ (8, command.Makes (Duty 1 Calm)) ∷ [])
      (Start 1 0 ∷ Crash 1 0 ∷ [])
      (refused_line 3 WrongGeneration ++ refused_line 4 NoMaster ++ refused_line 5 NotRunning ++ refused_line 6 NoPacket ++ refused_line 8 NoMaster)
  -- a calm stops before the event that it is told
  pub stops : LeadTo ((2, command.Makes (Start 1 0)) ∷ (3, command.Calm 1 (Before name.Marks)) ∷ []) (Start 1 0 ∷ []) []
  -- a calm of a master that is not there makes nothing, also one that goes through, and so does a calm of a master that has stopped
  pub absent : LeadTo ((2, command.Calm 1 Most) ∷ []) [] []
  pub absent_through : LeadTo ((2, command.Calm 1 Through) ∷ []) [] []
  pub stopped : LeadTo ((2, command.Makes (Start 1 0)) ∷ (3, command.Makes (Duty 1 Unavailable)) ∷ (4, command.Calm 1 Most) ∷ (6, command.Makes (Duty 1 Calm)) ∷ [])
      (Start 1 0 ∷ Duty 1 Unavailable ∷ []) (refused_line 6 NoDuty)
