-- An event that is made from a seat: what a board is then, whether it was taken or not.
use Rattle.std.proofs.Common.{◌≡◌, ℕ, ◌+◌, true, List, [], ◌∷◌, ◌++◌, length, length-append, None, Result, Ok, Err, IsErrAnd, refl, sym, ap, subst, arith, ◌∙◌}
use Rattle.std.proofs.lemmas.Result.{err_from_is_err_and}
use Rattle.mr_world_events.specs.declared.event.Event.{Event}
use Rattle.mr_world_model.specs.Effect.{not_now}
use Rattle.mr_world_model.specs.Sequential.{CarriesDefinition, Job}
use Rattle.mr_world.specs.mr_world_state.specs.declared.fault.WorldFault.{WorldFault}
use Rattle.mr_world.specs.mr_world_state.specs.declared.fault.WorldFault.TheVariants as fault
use Rattle.mr_world.specs.declared.took.Took.{Took}
use Rattle.mr_world.specs.Applying.{CanHappen, IsRefused, Takes}
use Rattle.mr_world.specs.Journal.{Journal, fits, fits_first, world_in}
use Rattle.mr_world.specs.Standing.{Refuses}
use Rattle.mr_board.specs.Boards.{Makes, Noted, Seated}
use Rattle.mr_board.proofs.Faithful.{FaithfulFor, faithful-on}

-- ---- what a board always is

-- where nothing was taken
pub kept-still : (job : Job) (old new : Journal) (by by' : List ℕ) → FaithfulFor job old × (length by ≡ length old.events) → new ≡ old → by' ≡ by → FaithfulFor job new × (length by' ≡ length new.events)
kept-still job old new by by' k is same = (subst (FaithfulFor job) (sym is) k.0, ap length same ∙ (k.1 ∙ ap (λ (j : Journal). length j.events) (sym is)))

-- an event more, and a number more
pub kept-on : (job : Job) (old new : Journal) (e : Event) (by by' by'' : List ℕ) (n : ℕ) → FaithfulFor job old × (length by ≡ length old.events) → CarriesDefinition job old.config (world_in old) e
    → new ≡ record { config = old.config; events = old.events ++ e ∷ [] } → by' ≡ by → by'' ≡ by' ++ n ∷ [] → FaithfulFor job new × (length by'' ≡ length new.events)
kept-on job old new e by by' by'' n k carries is same more = (faithful-on job old new e k.0 carries is, lengths)
  where
    longer : length by'' ≡ length by + 1
    longer = ap length more ∙ (length-append by' (n ∷ []) ∙ ap (λ xs. length xs + 1) same)

    taken : length new.events ≡ length old.events + 1
    taken = ap (λ (j : Journal). length j.events) is ∙ length-append old.events (e ∷ [])

    lengths : length by'' ≡ length new.events
    lengths = longer ∙ (ap (λ k. k + 1) k.1 ∙ sym taken)

-- ---- what a call says of it

abbrev seated : ℕ → ℕ → List Event → Seated
seated of number made = record { board = of; number = number; made = made }

-- the fields of a board and of a seat, and what contracts see of them
module _ (own : ℕ) (w : Journal) (by : List ℕ) (of n : ℕ) (made : List Event) (b : Noted) (s : Seated) (board : record { number = own; world = w; by = by } ≡ b) (seat : record { board = of; number = n; made = made } ≡ s) where
  -- nothing was taken
  pub makes-none : (e : Event) (f : WorldFault) (w' : Journal) (by' : List ℕ) (made' : List Event) → IsRefused w e f → w' ≡ w → by' ≡ by → made' ≡ made
      → Makes b s e (Err f) (record { number = own; world = w'; by = by' }) (record { board = of; number = n; made = made' })
  makes-none e f w' by' made' refused is same-by same-made =
      let to-board : record { number = own; world = w'; by = by' } ≡ b = (λ i. record { number = own; world = is i; by = same-by i }) ∙ board in
      let to-seat : record { board = of; number = n; made = made' } ≡ s = (λ i. record { board = of; number = n; made = same-made i }) ∙ seat in
      ((subst (λ (x : Noted). IsRefused x.world e f) board refused, ap (λ (x : Noted). x.world) to-board), (to-board, to-seat))

  -- what the exit of a `?` answers
  pub makes-refused : (e : Event) (r : Result Took WorldFault) (f : WorldFault) (w' : Journal) (by' : List ℕ) (made' : List Event) → IsErrAnd r (λ g. g ≡ f) → IsRefused w e f → w' ≡ w → by' ≡ by → made' ≡ made
      → Makes b s e r (record { number = own; world = w'; by = by' }) (record { board = of; number = n; made = made' })
  makes-refused e r f w' by' made' g refused is same-by same-made =
      let z = err_from_is_err_and r g in
      subst (λ (x : Result Took WorldFault). Makes b s e x (record { number = own; world = w'; by = by' }) (record { board = of; number = n; made = made' })) (sym z.1)
      (subst (λ h. Makes b s e (Err h) (record { number = own; world = w'; by = by' }) (record { board = of; number = n; made = made' })) (sym z.2) (makes-none e f w' by' made' refused is same-by same-made))

  -- the event was taken, and noted
  pub makes-one : (e copy : Event) (took : Took) (w' : Journal) (by' by'' : List ℕ) (made' made'' : List Event) → Takes w e took w' → by' ≡ by → by'' ≡ by' ++ n ∷ [] → made' ≡ made → copy ≡ e → made'' ≡ made' ++ copy ∷ []
      → Makes b s e (Ok took) (record { number = own; world = w'; by = by'' }) (record { board = of; number = n; made = made'' })
  makes-one e copy took w' by' by'' made' made'' takes same-by more-by same-made is more-made = (
    subst (λ (x : Noted). Takes x.world e took w') board takes,
    (
      ap (λ (x : Noted). x.number) board,
      more-by ∙ (ap (λ ks. ks ++ n ∷ []) (same-by ∙ ap (λ (x : Noted). x.by) board) ∙ ap (λ (x : Seated). b.by ++ x.number ∷ []) seat),
      noted,
    ),
  )
    where
      list : made'' ≡ made ++ e ∷ []
      list = more-made ∙ (ap (λ es. es ++ copy ∷ []) same-made ∙ ap (λ x. made ++ x ∷ []) is)

      noted : seated of n made'' ≡ seated s.board s.number (s.made ++ e ∷ [])
      noted = ap (seated of n) list ∙ ap (λ (x : Seated). seated x.board x.number (x.made ++ e ∷ [])) seat

-- an event that can happen is refused for want of memory alone
pub wants-memory : (j : Journal) (e : Event) → CanHappen j e → IsRefused j e fault.NoMemory
wants-memory j e c = by (not_now j.config (world_in j) e) (fits j e) c.now c.fits where
  by : (o : _) (b : _) → o ≡ None → b ≡ true → Refuses o b (fits_first j e) fault.NoMemory
  by o b none fit = rw (none, fit) refl
