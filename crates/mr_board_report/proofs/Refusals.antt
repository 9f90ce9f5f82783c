-- What a run's call refuses changes neither the run nor the seat.
use Rattle.std.proofs.Common.{◌≡◌, ◌⊎◌, Bool, true, false, Option, Some, None, Result, Ok, Err, nat_eq, refl, subst, inl, inr}
use Rattle.mr_world_events.specs.declared.event.Event.{Event}
use Rattle.mr_world_events.specs.declared.event.Event.TheVariants as event
use Rattle.mr_world_events.specs.declared.plan.PlanFault.{PlanFault}
use Rattle.mr_board.specs.mr_world.specs.Journal.{world_in}
use Rattle.mr_board.specs.mr_world.specs.declared.took.Took.{Took}
use Rattle.mr_board.specs.mr_world_state.specs.declared.fault.WorldFault.{WorldFault}
use Rattle.mr_board.specs.mr_world_state.specs.declared.fault.WorldFault.TheVariants as world
use Rattle.mr_board.specs.Boards.{Applies, Done, Hands, IsDue, Noted, Seated, is_computed}
use Rattle.mr_board_report.specs.Following.{due, event_of, has_crashed}
use Rattle.mr_board_report.specs.Laws.{RefusalsChangeNothing}
use Rattle.mr_board_report.specs.Runs.{Comes, HandsIn, MakesNext, MakesPlanned, Running, Steps, board_of, came_of, is_free, is_held, next_generation, told_of}
use Rattle.mr_board_report.specs.declared.fault.DriveFault.{DriveFault}
use Rattle.mr_board_report.proofs.Deciding.{due-or-not}

-- a fault that is told is one of the board's
refused-by : (answer : Result Took WorldFault) (f : DriveFault) → Err f ≡ told_of answer → (g : WorldFault) × (answer ≡ Err g)
refused-by (Ok took) f e = absurd (cc e)
refused-by (Err (world.NotNow why)) f e = absurd (cc e)
refused-by (Err world.Full) f e = (world.Full, refl)
refused-by (Err world.NoMemory) f e = (world.NoMemory, refl)

come-by : (answer : Result Took WorldFault) (f : DriveFault) → Err f ≡ came_of answer → (g : WorldFault) × (answer ≡ Err g)
come-by (Ok took) f e = absurd (cc e)
come-by (Err (world.NotNow why)) f e = absurd (cc e)
come-by (Err world.Full) f e = (world.Full, refl)
come-by (Err world.NoMemory) f e = (world.NoMemory, refl)

-- a board's refusal changes nothing
applied : (b b' : Noted) (s s' : Seated) (e : Event) (g : WorldFault) → Applies b s e (Err g) b' s' → (b' ≡ b) × (s' ≡ s)
applied b b' s s' e g applies = by (is_computed e) refl where
  by : (computed : Bool) → is_computed e ≡ computed → (b' ≡ b) × (s' ≡ s)
  by true is = ((applies.1 is).1, (applies.1 is).2)
  by false is = (applies.0 is).1

handed : (b b' : Noted) (s s' : Seated) (d : Done) (g : WorldFault) → Hands b s d (Err g) b' s' → (b' ≡ b) × (s' ≡ s)
handed b b' s s' d g hands = by (due-or-not b.world d) where
  by : IsDue b.world d ⊎ (¬ IsDue b.world d) → (b' ≡ b) × (s' ≡ s)
  by (inl is) = (hands.0 is).1
  by (inr other) = ((hands.1 other).1, (hands.1 other).2)

same-run : (r r' : Running) → board_of r' ≡ board_of r → r'.faults ≡ r.faults → r'.came ≡ r.came → r' ≡ r
same-run r r' board faults came = λ i. record { number = (board i).number; world = (board i).world; by = (board i).by; faults = faults i; came = came i }

-- a step of the board that is refused
module _ (step : Result Took WorldFault → Noted → Type 0) (r r' : Running) (s s' : Seated) (f : DriveFault) (still : (g : WorldFault) → step (Err g) (board_of r') → (board_of r' ≡ board_of r) × (s' ≡ s)) where
  stepped : Steps step r (Err f) r' → (r' ≡ r) × (s' ≡ s)
  stepped steps =
      let by = refused-by steps.answer f steps.says in
      let both = still by.0 (subst (λ (a : Result Took WorldFault). step a (board_of r')) by.1 steps.board) in
      (same-run r r' both.0 steps.faults steps.came, both.1)

  came : Comes step r (Err f) r' → (r' ≡ r) × (s' ≡ s)
  came comes =
      let by = come-by comes.answer f comes.says in
      let both = still by.0 (subst (λ (a : Result Took WorldFault). step a (board_of r')) by.1 comes.board) in
      (same-run r r' both.0 comes.faults comes.came, both.1)

event-applied : (r r' : Running) (s s' : Seated) (e : Event) (g : WorldFault) → Applies (board_of r) s e (Err g) (board_of r') s' → (board_of r' ≡ board_of r) × (s' ≡ s)
event-applied r r' s s' e g applies = applied (board_of r) (board_of r') s s' e g applies

make : (r r' : Running) (s s' : Seated) (e : Event) (f : DriveFault) → MakesPlanned r s e (Err f) r' s' → (r' ≡ r) × (s' ≡ s)
make r r' s s' e f h = by (is_free r e) refl where
  by : (free : Bool) → is_free r e ≡ free → (r' ≡ r) × (s' ≡ s)
  by true is = stepped (λ a b. Applies (board_of r) s e a b s') r r' s s' f (event-applied r r' s s' e) (h.0 is)
  by false is = ((h.1 is).1, (h.1 is).2)

hand_in : (r r' : Running) (s s' : Seated) (d : Done) (f : DriveFault) → HandsIn r s d (Err f) r' s' → (r' ≡ r) × (s' ≡ s)
hand_in r r' s s' d f h = by (is_held r) refl where
  by : (held : Bool) → is_held r ≡ held → (r' ≡ r) × (s' ≡ s)
  by true is = ((h.1 is).1, (h.1 is).2)
  by false is = stepped (λ a b. Hands (board_of r) s d a b s') r r' s s' f (λ g hands. handed (board_of r) (board_of r') s s' d g hands) (h.0 is)

next : (crashed : Bool) (o : Option PlanFault) (none : Bool) (r r' : Running) (s s' : Seated) (f : DriveFault) → MakesNext crashed o none r s (Err f) r' s' → (r' ≡ r) × (s' ≡ s)
next true o none r r' s s' f h = let e = event.Start (next_generation (world_in r.world).fence) 0 in stepped (λ a b. Applies (board_of r) s e a b s') r r' s s' f (event-applied r r' s s' e) h
next false (Some p) none r r' s s' f h = let e = event_of (world_in r.world).fence p.act in came (λ a b. Applies (board_of r) s e a b s') r r' s s' f (event-applied r r' s s' e) h
next false None true r r' s s' f h = make r r' s s' (event.Start 1 0) f h
next false None false r r' s s' f h = (h.1, h.2)

pub refusals : RefusalsChangeNothing
refusals = record {
  make = make;
  hand_in = hand_in;
  make_due = λ r r' s s' f h. next (has_crashed (world_in r.world)) (due r.faults r.came r.world) (nat_eq (world_in r.world).fence 0) r r' s s' f h;
}
