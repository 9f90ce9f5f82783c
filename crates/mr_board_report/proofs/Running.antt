-- A run of a plan goes on: it stays as planned.
use Rattle.std.proofs.Common.{◌≡◌, ◌⊎◌, ℕ, suc, ◌+◌, Bool, true, false, not, ◌||◌, List, [], Option, Some, None, Result, Ok, Err, is_none, is_some, if◌then◌else◌, nat_eq, refl, sym, ap, subst, inl, inr, arith, ◌∙◌}
use Rattle.mr_world_events.specs.declared.event.Event.{Event}
use Rattle.mr_world_events.specs.declared.event.Event.TheVariants as event
use Rattle.mr_world_events.specs.declared.plan.PlanAct.{PlanAct}
use Rattle.mr_world_events.specs.declared.plan.PlanAct.TheVariants as act
use Rattle.mr_world_events.specs.declared.plan.PlanFault.{PlanFault}
use Rattle.mr_world_events.specs.declared.why.Why.{Why}
use Rattle.mr_world_events.specs.declared.why.Why.TheVariants.{WrongGeneration}
use Rattle.mr_world_model.specs.Effect.{not_now, unless}
use Rattle.mr_board.specs.mr_world.specs.Applying.{IsRefused}
use Rattle.mr_board.specs.mr_world.specs.Journal.{Journal, fits, fits_first, world_in}
use Rattle.mr_board.specs.mr_world.specs.Standing.{Refuses}
use Rattle.mr_board.specs.mr_world.specs.declared.took.Took.{Took}
use Rattle.mr_board.specs.mr_world_state.specs.declared.fault.WorldFault.{WorldFault}
use Rattle.mr_board.specs.mr_world_state.specs.declared.fault.WorldFault.TheVariants as fault
use Rattle.mr_board.specs.Boards.{Applies, Done, Hands, IsDue, Makes, Noted, Seated, is_computed}
use Rattle.mr_board_report.specs.Following.{Made, Opens, Planned, Refused, Started, Went, comes_by_itself, due, event_of, has_crashed, with_event}
use Rattle.mr_board_report.specs.Runs.{Running, is_held}
use Rattle.mr_board_report.proofs.Deciding.{due-or-not}
use Rattle.mr_board_report.proofs.Success.{numbers-decide}

-- ---- what is due

-- who has no phase is no master
pub no_phase : {A : Type 0} (here : Bool) (a : A) → is_none (if here then Some a else None) ≡ not here
no_phase true a = refl
no_phase false a = refl

-- nothing is due
pub not_held : (crashed : Bool) (o : Option PlanFault) → (crashed || is_some o) ≡ false → (crashed ≡ false) × (o ≡ None)
not_held false None e = (refl, refl)
not_held false (Some f) e = absurd (cc e)
not_held true o e = absurd (cc e)

-- ---- it stays as planned

pub opens : (faults : List PlanFault) (j : Journal) → j.events ≡ [] → Planned faults 0 j
opens faults j none = let is : record { config = j.config; events = [] } ≡ j = λ i. record { config = j.config; events = sym none i } in subst (Planned faults 0) is (Opens j.config)

still : (faults : List PlanFault) (came : ℕ) (w w' : Journal) → Planned faults came w → w' ≡ w → Planned faults came w'
still faults came w w' planned is = subst (Planned faults came) (sym is) planned

makes-calm : (faults : List PlanFault) (came : ℕ) (b b' : Noted) (s s' : Seated) (e : Event) (r : Result Took WorldFault) → Planned faults came b.world → has_crashed (world_in b.world) ≡ false → due faults came b.world ≡ None
    → comes_by_itself e ≡ true → Makes b s e r b' s' → Planned faults came b'.world
makes-calm faults came b b' s s' e (Ok took) planned living none calm makes = subst (Planned faults came) (sym makes.0.journal) (Went came b.world e planned living none calm)
makes-calm faults came b b' s s' e (Err f) planned living none calm makes = still faults came b.world b'.world planned makes.0.1

-- an event that comes by itself
pub went : (faults : List PlanFault) (came : ℕ) (b b' : Noted) (s s' : Seated) (e : Event) (r : Result Took WorldFault) → Planned faults came b.world → (has_crashed (world_in b.world) || is_some (due faults came b.world)) ≡ false
    → comes_by_itself e ≡ true → Applies b s e r b' s' → Planned faults came b'.world
went faults came b b' s s' e r planned free calm applies = by (is_computed e) refl
  where
    nothing : (has_crashed (world_in b.world) ≡ false) × (due faults came b.world ≡ None)
    nothing = not_held (has_crashed (world_in b.world)) (due faults came b.world) free

    by : (computed : Bool) → is_computed e ≡ computed → Planned faults came b'.world
    by true is = still faults came b.world b'.world planned (ap (λ (x : Noted). x.world) (applies.1 is).1)
    by false is = makes-calm faults came b b' s s' e r planned nothing.0 nothing.1 calm (applies.0 is)

-- what a work gave
pub handed : (faults : List PlanFault) (came : ℕ) (b b' : Noted) (s s' : Seated) (d : Done) (r : Result Took WorldFault) → Planned faults came b.world → (has_crashed (world_in b.world) || is_some (due faults came b.world)) ≡ false
    → Hands b s d r b' s' → Planned faults came b'.world
handed faults came b b' s s' d r planned free hands = by (due-or-not b.world d)
  where
    nothing : (has_crashed (world_in b.world) ≡ false) × (due faults came b.world ≡ None)
    nothing = not_held (has_crashed (world_in b.world)) (due faults came b.world) free

    by : IsDue b.world d ⊎ (¬ IsDue b.world d) → Planned faults came b'.world
    by (inl is) = makes-calm faults came b b' s s' (event.Computed d.container d.bytes) r planned nothing.0 nothing.1 refl (hands.0 is)
    by (inr other) = still faults came b.world b'.world planned (ap (λ (x : Noted). x.world) (hands.1 other).1)

-- the start behind a crash
passed : (b : Bool) (why : Why) → unless b why None ≡ None → b ≡ true
passed true why e = refl
passed false why e = absurd (cc e)

starts-next : (j : Journal) (k : ℕ) → not_now j.config (world_in j) (event.Start k 0) ≡ None → k ≡ (world_in j).fence + 1
unfolding not_now
starts-next j k now = let e = (numbers-decide k (suc (world_in j).fence)).0 (passed (nat_eq k (suc (world_in j).fence)) WrongGeneration now) in omega (arith, e)

makes-start : (faults : List PlanFault) (came : ℕ) (b b' : Noted) (s s' : Seated) (k : ℕ) (r : Result Took WorldFault) → Planned faults came b.world → has_crashed (world_in b.world) ≡ true → Makes b s (event.Start k 0) r b' s'
    → Planned faults came b'.world
makes-start faults came b b' s s' k (Ok took) planned crashed makes =
    subst (Planned faults came) (sym makes.0.journal) (subst (λ (n : ℕ). Planned faults came (with_event b.world (event.Start n 0))) (sym (starts-next b.world k makes.0.could.now)) (Started came b.world planned crashed))
makes-start faults came b b' s s' k (Err f) planned crashed makes = still faults came b.world b'.world planned makes.0.1

pub started : (faults : List PlanFault) (came : ℕ) (b b' : Noted) (s s' : Seated) (k : ℕ) (r : Result Took WorldFault) → Planned faults came b.world → has_crashed (world_in b.world) ≡ true → Applies b s (event.Start k 0) r b' s'
    → Planned faults came b'.world
started faults came b b' s s' k r planned crashed applies = makes-start faults came b b' s s' k r planned crashed (applies.0 refl)

-- the fault that is due
hands-nothing-in : (newest : ℕ) (a : PlanAct) → is_computed (event_of newest a) ≡ false
hands-nothing-in newest (act.Node node) = refl
hands-nothing-in newest (act.Master kept) = refl
hands-nothing-in newest (act.Expire node) = refl

refused-so : (o : Option Why) (fit at_once : Bool) (why : Why) → Refuses o fit at_once (fault.NotNow why) → (w : Why) × (o ≡ Some w)
refused-so (Some w) fit at_once why refuses = (w, refl)
refused-so None true at_once why refuses = absurd (cc refuses)
refused-so None false false why refuses = absurd (cc refuses)
refused-so None false true why (inl full) = absurd (cc full)
refused-so None false true why (inr memory) = absurd (cc memory)

-- a run of this board
abbrev pub running : Noted → List PlanFault → ℕ → Running
running b faults came = record { number = b.number; world = b.world; by = b.by; faults = faults; came = came }

module _ (v : Running) (b b' : Noted) (s s' : Seated) (faults : List PlanFault) (came : ℕ) (f : PlanFault) (newest : ℕ) (e : Event) (is : running b faults came ≡ v) (planned : Planned faults came b.world) (newest-is : newest ≡ (world_in v.world).fence) (living : has_crashed (world_in v.world) ≡ false) (comes : due v.faults v.came v.world ≡ Some f) (e-is : e ≡ event_of newest f.act) where
  living-there : has_crashed (world_in b.world) ≡ false
  living-there = ap (λ (x : Running). has_crashed (world_in x.world)) is ∙ living

  comes-there : due faults came b.world ≡ Some f
  comes-there = ap (λ (x : Running). due x.faults x.came x.world) is ∙ comes

  the-event : e ≡ event_of (world_in b.world).fence f.act
  the-event = e-is ∙ ap (λ n. event_of n f.act) (newest-is ∙ ap (λ (x : Running). (world_in x.world).fence) (sym is))

  makes : (r : Result Took WorldFault) → Applies b s e r b' s' → Makes b s (event_of (world_in b.world).fence f.act) r b' s'
  makes r applies = (subst (λ (x : Event). Applies b s x r b' s') the-event applies).0 (hands-nothing-in (world_in b.world).fence f.act)

  pub fault-made : (took : Took) → Applies b s e (Ok took) b' s' → Planned faults (came + 1) b'.world
  fault-made took applies = subst (Planned faults (came + 1)) (sym (makes (Ok took) applies).0.journal) (Made came b.world f planned living-there comes-there)

  pub fault-refused : (g : WorldFault) (why : Why) → g ≡ fault.NotNow why → Applies b s e (Err g) b' s' → Planned faults (came + 1) b'.world
  fault-refused g why not-now applies =
      let m = makes (Err g) applies in
      let there = event_of (world_in b.world).fence f.act in
      let refused = refused-so (not_now b.world.config (world_in b.world) there) (fits b.world there) (fits_first b.world there) why (subst (IsRefused b.world there) not-now m.0.0) in
      still faults (came + 1) b.world b'.world (Refused came b.world f refused.0 planned living-there comes-there refused.1) m.0.1

  pub fault-full : (g : WorldFault) → Applies b s e (Err g) b' s' → Planned faults came b'.world
  fault-full g applies = still faults came b.world b'.world planned (makes (Err g) applies).0.1

-- what is due of a run is what is due of its parts
pub free-of : (v : Running) (b : Noted) (faults : List PlanFault) (came : ℕ) (held : Bool) → running b faults came ≡ v → held ≡ is_held v → held ≡ false → (has_crashed (world_in b.world) || is_some (due faults came b.world)) ≡ false
free-of v b faults came held is same free = ap is_held is ∙ (sym same ∙ free)
