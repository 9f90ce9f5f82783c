-- What the calls of a run say: each is a step of its board, or nothing.
use Rattle.std.proofs.Common.{◌≡◌, ◌<◌, ◌≤◌, ℕ, zero, suc, Bool, true, false, not, ◌&&◌, List, Option, Some, None, Result, Ok, Err, nat_eq, refl, sym, ap, subst, arith, ◌∙◌}
use Rattle.mr_world_events.specs.declared.event.Event.{Event}
use Rattle.mr_world_events.specs.declared.event.Event.TheVariants as event
use Rattle.mr_world_events.specs.declared.plan.PlanFault.{PlanFault}
use Rattle.mr_board.specs.mr_world.specs.Journal.{world_in}
use Rattle.mr_board.specs.mr_world.specs.declared.took.Took.{Took}
use Rattle.mr_board.specs.mr_world_state.specs.declared.fault.WorldFault.{WorldFault}
use Rattle.mr_board.specs.Boards.{Applies, Done, Hands, Noted, Seated}
use Rattle.mr_board_report.specs.Following.{comes_by_itself, due, event_of, has_crashed}
use Rattle.mr_board_report.specs.Runs.{Comes, HandsIn, MakesDue, MakesNext, MakesPlanned, Running, Steps, board_of, came_behind, came_of, is_free, is_held, next_generation, told_of}
use Rattle.mr_board_report.specs.declared.fault.DriveFault.{DriveFault}
use Rattle.mr_board_report.specs.declared.fault.DriveFault.TheVariants as drive
use Rattle.mr_board_report.proofs.Running.{running}
use Rattle.mr_board_report.proofs.Success.{numbers-decide}

both-free : (a b : Bool) → a ≡ false → b ≡ true → (not a && b) ≡ true
both-free true b p q = absurd (cc p)
both-free false true p q = refl
both-free false false p q = absurd (cc q)

held-first : (a b : Bool) → a ≡ true → (not a && b) ≡ false
held-first true b p = refl
held-first false b p = absurd (cc p)

no-calm : (a b : Bool) → b ≡ false → (not a && b) ≡ false
no-calm true b q = refl
no-calm false true q = absurd (cc q)
no-calm false false q = refl

not-both : (b : Bool) → b ≡ true → b ≡ false → ⊥
not-both b is isnt = cc (sym is ∙ isnt)

-- what is not planned now
unplanned : (v : Running) (s : Seated) (e : Event) → is_free v e ≡ false → MakesPlanned v s e (Err drive.JournalMismatch) v s
unplanned v s e other = ((λ free. absurd (not-both (is_free v e) free other)), (λ no. (refl, refl, refl)))

pub while-held : (v : Running) (s : Seated) (e : Event) → is_held v ≡ true → MakesPlanned v s e (Err drive.JournalMismatch) v s
while-held v s e held = unplanned v s e (held-first (is_held v) (comes_by_itself e) held)

pub not-by-itself : (v : Running) (s : Seated) (e : Event) → comes_by_itself e ≡ false → MakesPlanned v s e (Err drive.JournalMismatch) v s
not-by-itself v s e other = unplanned v s e (no-calm (is_held v) (comes_by_itself e) other)

pub hands-nothing : (v : Running) (s : Seated) (d : Done) → is_held v ≡ true → HandsIn v s d (Err drive.JournalMismatch) v s
hands-nothing v s d held = ((λ free. absurd (not-both (is_held v) held free)), (λ no. (refl, refl, refl)))

-- a step of the board
module _ (v : Running) (b b' : Noted) (s s' : Seated) (faults : List PlanFault) (came : ℕ) (is : running b faults came ≡ v) where
  there : b ≡ board_of v
  there = ap board_of is

  pub steps : (e : Event) (answer : Result Took WorldFault) (told : Result Bool DriveFault) → told ≡ told_of answer → Applies b s e answer b' s' → Steps (λ a x. Applies (board_of v) s e a x s') v told (running b' faults came)
  steps e answer told says applies = record {
    answer = answer;
    board = subst (λ (x : Noted). Applies x s e answer b' s') there applies;
    says = says;
    faults = ap (λ (x : Running). x.faults) is;
    came = ap (λ (x : Running). x.came) is;
  }

  pub steps_calm : (e : Event) (answer : Result Took WorldFault) (told : Result Bool DriveFault) → is_held v ≡ false → comes_by_itself e ≡ true → told ≡ told_of answer → Applies b s e answer b' s' → MakesPlanned v s e told (running b' faults came) s'
  steps_calm e answer told free calm says applies =
      ((λ planned. steps e answer told says applies), (λ no. absurd (not-both (is_free v e) (both-free (is_held v) (comes_by_itself e) free calm) no)))

  pub steps_hand : (d : Done) (answer : Result Took WorldFault) (told : Result Bool DriveFault) → is_held v ≡ false → told ≡ told_of answer → Hands b s d answer b' s' → HandsIn v s d told (running b' faults came) s'
  steps_hand d answer told free says hands = (
    (λ planned. record {
      answer = answer;
      board = subst (λ (x : Noted). Hands x s d answer b' s') there hands;
      says = says;
      faults = ap (λ (x : Running). x.faults) is;
      came = ap (λ (x : Running). x.came) is;
    }),
    (λ held. absurd (not-both (is_held v) held free)),
  )

  -- the fault that is due came
  pub comes_so : (e there-is : Event) (answer : Result Took WorldFault) (told : Result Bool DriveFault) (n : ℕ) → e ≡ there-is → told ≡ came_of answer → n ≡ came_behind came told → Applies b s e answer b' s'
      → Comes (λ a x. Applies (board_of v) s there-is a x s') v told (running b' faults n)
  comes_so e there-is answer told n same says counted applies = record {
    answer = answer;
    board = subst (λ (x : Noted). Applies x s there-is answer b' s') there (subst (λ (x : Event). Applies b s x answer b' s') same applies);
    says = says;
    faults = ap (λ (x : Running). x.faults) is;
    came = counted ∙ ap (λ (x : Running). came_behind x.came told) is;
  }

-- what is due
module _ (v r' : Running) (s s' : Seated) (told : Result Bool DriveFault) where
  next-is : (crashed none : Bool) (o : Option PlanFault) → has_crashed (world_in v.world) ≡ crashed → due v.faults v.came v.world ≡ o → nat_eq (world_in v.world).fence 0 ≡ none → MakesNext crashed o none v s told r' s' → MakesDue v s told r' s'
  next-is crashed none o is-crashed is-due is-none h =
      subst (λ (c : Bool). MakesNext c (due v.faults v.came v.world) (nat_eq (world_in v.world).fence 0) v s told r' s') (sym is-crashed)
      (subst (λ (p : Option PlanFault). MakesNext crashed p (nat_eq (world_in v.world).fence 0) v s told r' s') (sym is-due) (subst (λ (n : Bool). MakesNext crashed o n v s told r' s') (sym is-none) h))

  pub due-start : (k newest : ℕ) → has_crashed (world_in v.world) ≡ true → newest ≡ (world_in v.world).fence → k ≡ next_generation newest → Steps (λ a x. Applies (board_of v) s (event.Start k 0) a x s') v told r' → MakesDue v s told r' s'
  due-start k newest crashed is-newest is-next h =
      next-is true (nat_eq (world_in v.world).fence 0) (due v.faults v.came v.world) crashed refl refl
      (subst (λ (n : ℕ). Steps (λ a x. Applies (board_of v) s (event.Start n 0) a x s') v told r') (is-next ∙ ap next_generation is-newest) h)

  pub due-fault : (f : PlanFault) (newest : ℕ) → has_crashed (world_in v.world) ≡ false → due v.faults v.came v.world ≡ Some f → newest ≡ (world_in v.world).fence → Comes (λ a x. Applies (board_of v) s (event_of newest f.act) a x s') v told r' → MakesDue v s told r' s'
  due-fault f newest living comes is-newest h =
      next-is false (nat_eq (world_in v.world).fence 0) (Some f) living comes refl (subst (λ (n : ℕ). Comes (λ a x. Applies (board_of v) s (event_of n f.act) a x s') v told r') is-newest h)

  pub due-first : has_crashed (world_in v.world) ≡ false → due v.faults v.came v.world ≡ None → nat_eq (world_in v.world).fence 0 ≡ true → MakesPlanned v s (event.Start 1 0) told r' s' → MakesDue v s told r' s'
  due-first living none first h = next-is false true None living none first h

  pub due-none : has_crashed (world_in v.world) ≡ false → due v.faults v.came v.world ≡ None → nat_eq (world_in v.world).fence 0 ≡ false → told ≡ Ok false → r' ≡ v → s' ≡ s → MakesDue v s told r' s'
  due-none living none later says same-run same-seat = next-is false false None living none later (says, same-run, same-seat)

-- a number that is above zero, or not
pub some-master : (k newest : ℕ) → newest ≡ k → 0 < newest → nat_eq k 0 ≡ false
some-master k newest is above = by (nat_eq k 0) refl where
  by : (none : Bool) → nat_eq k 0 ≡ none → nat_eq k 0 ≡ false
  by false e = e
  by true e = let zero-is = (numbers-decide k 0).0 e in absurd (omega (arith, is, above, zero-is))

pub no-master : (k newest : ℕ) → newest ≡ k → newest ≤ 0 → nat_eq k 0 ≡ true
no-master zero newest is below = refl
no-master (suc k) newest is below = absurd (omega (arith, is, below))
