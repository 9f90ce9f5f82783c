-- Two lists of incarnations know each node in the same one where they do so of each node that one of them names.
use Rattle.std.proofs.Common.{◌≡◌, ◌||◌, ℕ, Bool, true, false, cond, nat_eq, get_or, List, [], ◌∷◌, Some, refl, sym, ap, ◌∙◌, subst}
use Rattle.std.proofs.lemmas.Bool.Decides.{Decides-eqb}
use Rattle.std.proofs.lemmas.List.Elements.{recursion_from_All}
use Rattle.std.specs.List.{All, AllByRecursion, list_any}
use Rattle.std.specs.Map.{keys_of, lookup}
use Rattle.std.specs.Option.{unwrap_or}
use Rattle.mr_master_tables.specs.Nodes.{known_in}

-- a node that no entry names is known in its first incarnation
unnamed : (m : List (ℕ × ℕ)) (k : ℕ) → list_any (nat_eq k) (keys_of m) ≡ false → known_in m k ≡ 1
unnamed [] k h = refl
unnamed (e ∷ es) k h = by (nat_eq k e.0) refl h (unnamed es k)
  where
    by : (b : Bool) → nat_eq k e.0 ≡ b → (b || list_any (nat_eq k) (keys_of es)) ≡ false → (list_any (nat_eq k) (keys_of es) ≡ false → known_in es k ≡ 1) → known_in (e ∷ es) k ≡ 1
    by true q g go = absurd (cc)
    by false q g go = ap (λ (t : Bool). unwrap_or (cond t (Some e.1) (lookup (nat_eq k) es)) 1) q ∙ go g

-- what holds of each node in a list holds of one that is in it
named : (P : ℕ → Type 0) (ks : List ℕ) (k : ℕ) → AllByRecursion P ks → list_any (nat_eq k) ks ≡ true → P k
named P [] k each h = absurd (cc)
named P (x ∷ xs) k each h = by (nat_eq k x) refl h (named P xs k each.1)
  where
    by : (b : Bool) → nat_eq k x ≡ b → (b || list_any (nat_eq k) xs) ≡ true → (list_any (nat_eq k) xs ≡ true → P k) → P k
    by true q g go = subst P (sym ((Decides-eqb k x).0 q)) each.0
    by false q g go = go g

abbrev pub Agree : List (ℕ × ℕ) → List (ℕ × ℕ) → ℕ → Type 0
Agree m n k = known_in m k ≡ known_in n k

-- those of each that are named agree: then all do
pub all_agree : (m n : List (ℕ × ℕ)) (ks ls : List ℕ) → ks ≡ keys_of m → ls ≡ keys_of n → All (Agree m n) ks → All (Agree m n) ls → (k : ℕ) → Agree m n k
all_agree m n ks ls first second each other k = by (list_any (nat_eq k) (keys_of m)) refl (list_any (nat_eq k) (keys_of n)) refl
  where
    by : (b : Bool) → list_any (nat_eq k) (keys_of m) ≡ b → (c : Bool) → list_any (nat_eq k) (keys_of n) ≡ c → Agree m n k
    by true p c q = named (Agree m n) ks k (recursion_from_All (Agree m n) ks each) (ap (list_any (nat_eq k)) first ∙ p)
    by false p true q = named (Agree m n) ls k (recursion_from_All (Agree m n) ls other) (ap (list_any (nat_eq k)) second ∙ q)
    by false p false q = unnamed m k p ∙ sym (unnamed n k q)

pub agree_each : (m n : List (ℕ × ℕ)) (ks : List ℕ) → ((k : ℕ) → Agree m n k) → All (Agree m n) ks
agree_each m n ks h = λ i d within. h (get_or ks i d)
