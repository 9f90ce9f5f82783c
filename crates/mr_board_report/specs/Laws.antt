-- What a run that is as planned is, in plain words (our own profile): laws over whole runs.
use Rattle.std.specs.Prelude.{◌≡◌, ◌⊎◌, ◌<◌, ◌≤◌, ℕ, Bool, true, nat_eq, List, [], ◌∷◌, ◌++◌, length, map, take, slice_get, Some, Err}
use Rattle.std.specs.List.{All, flat_map}
use Rattle.mr_world_events.specs.declared.event.Event.{Event}
use Rattle.mr_world_events.specs.declared.event.Event.TheVariants as event
use Rattle.mr_world_events.specs.declared.plan.PlanAct.{PlanAct}
use Rattle.mr_world_events.specs.declared.plan.PlanAct.TheVariants as act
use Rattle.mr_world_events.specs.declared.plan.PlanFault.{PlanFault}
use Rattle.mr_world_events.specs.declared.why.Why.{Why}
use Rattle.mr_world_model.specs.Effect.{is_calm, not_now}
use Rattle.mr_board.specs.mr_world.specs.Journal.{Journal, world_in}
use Rattle.mr_board.specs.Boards.{Done, Seated}
use Rattle.mr_board_report.specs.Following.{Planned, event_of}
use Rattle.mr_board_report.specs.Runs.{HandsIn, MakesDue, MakesPlanned, Running}
use Rattle.mr_board_report.specs.declared.fault.DriveFault.{DriveFault}

-- ---- what is planned happens

-- Of a fault: at a place of the journal where it was due, it is the next event, or the world there refuses it.
pub record MadeOrRefused (f : PlanFault) (j : Journal) : Type 0 where
  pub before : Journal
  pub behind : List Event
  pub is : j ≡ record { config = before.config; events = before.events ++ behind }
  pub due : f.after ≤ length before.events
  pub made : ((rest : List Event) × (behind ≡ event_of (world_in before).fence f.act ∷ rest)) ⊎ ((why : Why) × (not_now before.config (world_in before) (event_of (world_in before).fence f.act) ≡ Some why))

-- each fault that came was made or refused
abbrev pub FaultsAreMadeOrRefused : Type 0
FaultsAreMadeOrRefused = (faults : List PlanFault) (came : ℕ) (j : Journal) → Planned faults came j → (i : ℕ) (f : PlanFault) → i < came → slice_get faults i ≡ Some f → MadeOrRefused f j

-- ---- and nothing else

-- what an event does of what a plan may ask for
abbrev pub acts_of : Event → List PlanAct
acts_of (event.Start k kept) = []
acts_of (event.Crash k kept) = act.Master kept ∷ []
acts_of (event.Duty k w) = []
acts_of (event.LaunchOn k t n) = []
acts_of (event.Deliver i) = []
acts_of (event.ContainerStep c w) = []
acts_of (event.Computed c bytes) = []
acts_of (event.Die c) = []
acts_of (event.NodeRestart n) = act.Node n ∷ []
acts_of (event.Expire k n) = act.Expire n ∷ []

-- the first list is the second without some of its items
pub data IsPartOf {A : Type 0} : List A → List A → Type 0 where
  Empty : IsPartOf [] []
  Without : (xs ys : List A) (y : A) → IsPartOf xs ys → IsPartOf xs (ys ++ y ∷ [])
  With : (xs ys : List A) (y : A) → IsPartOf xs ys → IsPartOf (xs ++ y ∷ []) (ys ++ y ∷ [])

-- no start keeps anything of the unflushed history, and no store call is disturbed
abbrev pub is_quiet : Event → Bool
is_quiet (event.Start k kept) = nat_eq kept 0
is_quiet (event.Crash k kept) = true
is_quiet (event.Duty k w) = is_calm w
is_quiet (event.LaunchOn k t n) = true
is_quiet (event.Deliver i) = true
is_quiet (event.ContainerStep c w) = is_calm w
is_quiet (event.Computed c bytes) = true
is_quiet (event.Die c) = true
is_quiet (event.NodeRestart n) = true
is_quiet (event.Expire k n) = true

-- crashes, restarts and expiries are, in order, some of the plan's; all else is quiet
abbrev pub OnlyPlannedFaultsHappen : Type 0
OnlyPlannedFaultsHappen = (faults : List PlanFault) (came : ℕ) (j : Journal) → Planned faults came j →
    IsPartOf (flat_map acts_of j.events) (map (λ (f : PlanFault). f.act) (take came faults)) × All (λ e. is_quiet e ≡ true) j.events

-- ---- what is refused

-- where a call of a run is refused, the run and the seat are as before
pub record RefusalsChangeNothing : Type 0 where
  pub make : (r r' : Running) (s s' : Seated) (e : Event) (f : DriveFault) → MakesPlanned r s e (Err f) r' s' → (r' ≡ r) × (s' ≡ s)
  pub hand_in : (r r' : Running) (s s' : Seated) (d : Done) (f : DriveFault) → HandsIn r s d (Err f) r' s' → (r' ≡ r) × (s' ≡ s)
  pub make_due : (r r' : Running) (s s' : Seated) (f : DriveFault) → MakesDue r s (Err f) r' s' → (r' ≡ r) × (s' ≡ s)
