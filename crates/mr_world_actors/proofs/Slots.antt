-- A list that grows by one at its end, seen by place.
use Rattle.std.proofs.Common.{ℕ, zero, suc, ◌+◌, ◌≡◌, refl, sym, ◌∙◌, ap, Bool, true, false, List, [], ◌∷◌, ◌++◌, Option, Some, None, if◌then◌else◌, nat_eq, nat_lt, length, slice_get, length-append, arith}
use Rattle.std.specs.Option.{option_map}
use Rattle.std.proofs.lemmas.Bool.{eqb-true, lt-ltb}
use Rattle.std.proofs.lemmas.Bool.Decides.{nat_tests}
use Rattle.mr_node.specs.Readings.{opening}
use Rattle.mr_node.specs.State.{Node}

pub slice_last : {A : Type 0} (xs : List A) (e : A) (n : ℕ) → slice_get (xs ++ e ∷ []) n ≡ (if nat_eq n (length xs) then Some e else slice_get xs n)
slice_last [] e zero = refl
slice_last [] e (suc n) = ap (λ (b : Bool). if b then Some e else None) (sym (more n))
  where
    more : (n : ℕ) → nat_eq (suc n) 0 ≡ false
    more n = grind (arith, nat_tests)
slice_last (x ∷ xs) e zero = ap (λ (b : Bool). if b then Some e else Some x) (sym (less (length xs)))
  where
    less : (n : ℕ) → nat_eq 0 (suc n) ≡ false
    less n = grind (arith, nat_tests)
slice_last (x ∷ xs) e (suc n) = slice_last xs e n ∙ ap (λ (b : Bool). if b then Some e else slice_get xs n) (sym (both n (length xs)))
  where
    both : (m n : ℕ) → nat_eq (suc m) (suc n) ≡ nat_eq m n
    both m n = grind (arith, nat_tests)

-- the first n nodes, as they begin
abbrev pub Begun : ℕ → List Node → ℕ → Type 0
Begun reduces nodes n = (length nodes ≡ n) × ((k : ℕ) → slice_get nodes k ≡ (if nat_lt k n then Some (record { number = k; seen = opening reduces }) else None))

pub none_begun : (reduces : ℕ) → Begun reduces [] 0
none_begun reduces = (refl, λ k. let e : nat_lt k 0 ≡ false = grind (arith, nat_tests) in rw e refl)

pub one_more : (reduces : ℕ) (nodes : List Node) (n : ℕ) → Begun reduces nodes n → Begun reduces (nodes ++ record { number = n; seen = opening reduces } ∷ []) (n + 1)
one_more reduces nodes n b = (omega (arith, b.0, length-append nodes (record { number = n; seen = opening reduces } ∷ [])), λ k. slice_last nodes _ k ∙ (ap (λ z. if z then Some (record { number = n; seen = opening reduces }) else slice_get nodes k) (ap (nat_eq k) b.0) ∙ by k (nat_eq k n) refl))
  where
    same : (k : ℕ) → nat_eq k n ≡ false → nat_lt k n ≡ nat_lt k (n + 1)
    same k e = grind (arith, nat_tests)

    by : (k : ℕ) (t : Bool) → t ≡ nat_eq k n → (if t then Some (record { number = n; seen = opening reduces }) else slice_get nodes k) ≡ (if nat_lt k (n + 1) then Some (record { number = k; seen = opening reduces }) else None)
    by k true e = let is : k ≡ n = eqb-true k n (sym e) in ap (λ (b : Bool). if b then Some (record { number = n; seen = opening reduces }) else None) (sym (lt-ltb k (n + 1) (omega arith)))
        ∙ ap (λ (m : ℕ). if nat_lt k (n + 1) then Some (record { number = m; seen = opening reduces }) else None) (sym is)
    by k false e = b.1 k ∙ ap (λ (b : Bool). if b then Some (record { number = k; seen = opening reduces }) else None) (same k (sym e))

-- where nothing stands at a place, a step there changes nothing
pub none_there : {A : Type 0} (f : A → A) (o : ℕ → Option A) (n : ℕ) → o n ≡ None → (k : ℕ) → o k ≡ (if nat_eq k n then option_map f (o n) else o k)
none_there {A} f o n e k = by (nat_eq k n) refl
  where
    by : (t : Bool) → t ≡ nat_eq k n → o k ≡ (if t then option_map f (o n) else o k)
    by true is = ap o (eqb-true k n (sym is)) ∙ (e ∙ sym (ap (option_map f) e))
    by false is = refl
