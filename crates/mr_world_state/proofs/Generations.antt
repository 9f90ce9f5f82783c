-- The places of masters, by generation.
use Rattle.std.proofs.Common.{◌≡◌, ℕ, zero, suc, refl, sym, ◌∙◌, ap, Bool, true, false, List, [], ◌∷◌, ◌++◌, Option, Some, None, if◌then◌else◌, nat_eq, length, slice_get, slice_set, ◌<◌, ◌≤◌, ◌-◌, get_or, nat_lt, length-append, arith}
use Rattle.std.proofs.lemmas.Bool.{eq-eqb, eqb-true, ltb-true, ltb-false}
use Rattle.std.proofs.lemmas.Option.{slice_get_read, slice_get_past}
use Rattle.std.proofs.lemmas.List.{length-set}
use Rattle.std.proofs.lemmas.Bool.Decides.{nat_tests}
use Rattle.std.specs.Option.{option_and_then}
use Rattle.mr_master.specs.State.{Master}
use Rattle.mr_world_actors.proofs.Slots.{slice_last}
use Rattle.mr_world_state.specs.declared.masters.Masters.{Masters}
use Rattle.mr_world_state.specs.Machines.{master_of, master_count}
use Rattle.mr_world_state.specs.inner.Masters.{SameMasters, Begins, ChangesMaster, Returns}

next-eq : (a b : ℕ) → nat_eq (suc a) (suc b) ≡ nat_eq a b
next-eq a b = grind (arith, nat_tests)

not-first : (b : ℕ) → nat_eq 0 (suc b) ≡ false
not-first b = grind (arith, nat_tests)

push-in : (b : Bool) (m : Master) (o : Option (Option Master)) → option_and_then (λ m. m) (if b then Some (Some m) else o) ≡ (if b then Some m else option_and_then (λ m. m) o)
push-in true m o = refl
push-in false m o = refl

pub begun : (old : Masters) (m : Master) (new : Masters) → new.machines.items ≡ old.machines.items ++ Some m ∷ [] → Begins old m new
unfolding master_of master_count
begun old m new e = record { count = omega (arith, ap length e, length-append old.machines.items (Some m ∷ [])); kept = kept }
  where
    kept : (j : ℕ) → master_of new j ≡ (if nat_eq j (suc (master_count old)) then Some m else master_of old j)
    kept zero = ap (λ (b : Bool). if b then Some m else None) (sym (not-first (length old.machines.items)))
    kept (suc n) = ap (λ xs. option_and_then (λ m. m) (slice_get xs n)) e ∙ (ap (option_and_then (λ m. m)) (slice_last old.machines.items (Some m) n)
        ∙ (push-in (nat_eq n (length old.machines.items)) m (slice_get old.machines.items n) ∙ ap (λ (b : Bool). if b then Some m else option_and_then (λ m. m) (slice_get old.machines.items n)) (sym (next-eq n (length old.machines.items)))))

-- ---- one place is written

first-eq : nat_eq 0 0 ≡ true
first-eq = eq-eqb 0 0 refl

not-zero : (n : ℕ) → nat_eq (suc n) 0 ≡ false
not-zero n = grind (arith, nat_tests)

set-at : (xs : List (Option Master)) (i : ℕ) (v : Option Master) (n : ℕ) → i < length xs → slice_get (slice_set xs i v) n ≡ (if nat_eq n i then Some v else slice_get xs n)
set-at [] i v n l = absurd (omega arith)
set-at (x ∷ xs) zero v zero l = ap (λ (b : Bool). if b then Some v else Some x) (sym first-eq)
set-at (x ∷ xs) zero v (suc n) l = ap (λ (b : Bool). if b then Some v else slice_get xs n) (sym (not-zero n))
set-at (x ∷ xs) (suc i) v zero l = ap (λ (b : Bool). if b then Some v else Some x) (sym (not-first i))
set-at (x ∷ xs) (suc i) v (suc n) l = set-at xs i v n (omega arith) ∙ ap (λ (b : Bool). if b then Some v else slice_get xs n) (sym (next-eq n i))

write-in : (b : Bool) (v : Option Master) (o : Option (Option Master)) → option_and_then (λ m. m) (if b then Some v else o) ≡ (if b then v else option_and_then (λ m. m) o)
write-in true v o = refl
write-in false v o = refl

pub written : (old new : Masters) (i k : ℕ) (v : Option Master) → k ≡ suc i → i < length old.machines.items → new.machines.items ≡ slice_set old.machines.items i v → ChangesMaster old k v new
unfolding master_of
written old new i k v at l e = kept
  where
    kept-by : (j : ℕ) → master_of new j ≡ (if nat_eq j (suc i) then v else master_of old j)
    kept-by zero = ap (λ (b : Bool). if b then v else None) (sym (not-first i))
    kept-by (suc n) = ap (λ xs. option_and_then (λ m. m) (slice_get xs n)) e ∙ (ap (option_and_then (λ m. m)) (set-at old.machines.items i v n l)
        ∙ (write-in (nat_eq n i) v (slice_get old.machines.items n) ∙ ap (λ (b : Bool). if b then v else option_and_then (λ m. m) (slice_get old.machines.items n)) (sym (next-eq n i))))

    kept : (j : ℕ) → master_of new j ≡ (if nat_eq j k then v else master_of old j)
    kept j = kept-by j ∙ ap (λ z. if nat_eq j z then v else master_of old j) (sym at)

pub written-count : (old new : Masters) (i : ℕ) (v : Option Master) → new.machines.items ≡ slice_set old.machines.items i v → master_count new ≡ master_count old
unfolding master_count
written-count old new i v e = ap length e ∙ length-set old.machines.items i v

-- what is kept of the master of generation k stands at place i
pub record IsPlace (masters : Masters) (i k : ℕ) (place : Option Master) : Type 0 where
  pub next : k ≡ suc i
  pub within : i < length masters.machines.items
  pub at : master_of masters k ≡ place

pub is-place : (masters : Masters) (i k : ℕ) (place : Option Master) → (1 ≤ k) × (i ≡ k - 1) → true ≡ nat_lt i (length masters.machines.items) → place ≡ get_or masters.machines.items i place → IsPlace masters i k place
unfolding master_of
is-place masters i k place low test is =
    let next : k ≡ suc i = omega (arith, low.0, low.1) in
    let within = ltb-true _ _ (sym test) in
    record { next = next; within = within; at = ap (master_of masters) next ∙ ap (option_and_then (λ m. m)) (slice_get_read masters.machines.items _ i place refl within is) }

-- of a generation that has no place nothing is kept
pub no-place : (masters : Masters) (i k : ℕ) → (1 ≤ k) × (i ≡ k - 1) → false ≡ nat_lt i (length masters.machines.items) → None ≡ master_of masters k
unfolding master_of
no-place masters i k low test =
    let next : k ≡ suc i = omega (arith, low.0, low.1) in
    sym (ap (master_of masters) next ∙ ap (option_and_then (λ m. m)) (slice_get_past masters.machines.items i (ltb-false _ _ (sym test))))

pub no-generation : (masters : Masters) (k : ℕ) → (1 ≤ k → ⊥) → None ≡ master_of masters k
unfolding master_of
no-generation masters zero none = refl
no-generation masters (suc n) none = absurd (none (omega arith))

-- the same stands there
pub same-again : (old new : Masters) (i k : ℕ) (place : Option Master) → IsPlace old i k place → new.machines.items ≡ slice_set old.machines.items i place → SameMasters old new
same-again old new i k place x e = record { count = written-count old new i place e; kept = λ j. written old new i k place x.next x.within e j ∙ by j (nat_eq j k) refl }
  where
    by : (j : ℕ) (b : Bool) → nat_eq j k ≡ b → (if b then place else master_of old j) ≡ master_of old j
    by j true is = sym x.at ∙ ap (master_of old) (sym (eqb-true j k is))
    by j false is = refl

-- another machine stands there
pub returned : (old new : Masters) (i k : ℕ) (before after : Option Master) (m : Master) → IsPlace old i k before → after ≡ Some m → new.machines.items ≡ slice_set old.machines.items i after → Returns old k m new
returned old new i k before after m x is e =
    let f = e ∙ ap (slice_set old.machines.items i) is in
    record { count = written-count old new i (Some m) f; kept = written old new i k (Some m) x.next x.within f }
