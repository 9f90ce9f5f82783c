-- A node's incarnation is noted.
use Rattle.std.proofs.Common.{ℕ, ◌≡◌, refl, sym, ◌∙◌, ap, Bool, true, false, List, [], ◌∷◌, Some, cond, nat_eq, true≢false}
use Rattle.std.specs.Map.{lookup}
use Rattle.std.specs.Option.{unwrap_or}
use Rattle.std.proofs.lemmas.Bool.{eqb-true, eq-eqb}
use Rattle.indexmap.specs.IndexMap.{insert_entry}
use Rattle.mr_master_tables.specs.Nodes.{known_in}

found-again : (es : List (ℕ × ℕ)) (k v n : ℕ) → lookup (nat_eq n) (insert_entry nat_eq es k v) ≡ cond (nat_eq n k) (Some v) (lookup (nat_eq n) es)
found-again [] k v n = refl
found-again (e ∷ es) k v n = by (nat_eq k e.0) refl (found-again es k v n)
  where
    same : (b : Bool) → k ≡ e.0 → nat_eq n k ≡ b → cond (nat_eq n e.0) (Some v) (lookup (nat_eq n) es) ≡ cond b (Some v) (cond (nat_eq n e.0) (Some e.1) (lookup (nat_eq n) es))
    same true p q = let r : nat_eq n e.0 ≡ true = ap (λ x. nat_eq n x) (sym p) ∙ q in ap (λ c. cond c (Some v) (lookup (nat_eq n) es)) r
    same false p q = let r : nat_eq n e.0 ≡ false = ap (λ x. nat_eq n x) (sym p) ∙ q in
        ap (λ c. cond c (Some v) (lookup (nat_eq n) es)) r ∙ sym (ap (λ c. cond c (Some e.1) (lookup (nat_eq n) es)) r)

    apart : (b c : Bool) → nat_eq k e.0 ≡ false → nat_eq n e.0 ≡ b → nat_eq n k ≡ c → lookup (nat_eq n) (insert_entry nat_eq es k v) ≡ cond (nat_eq n k) (Some v) (lookup (nat_eq n) es)
        → cond b (Some e.1) (lookup (nat_eq n) (insert_entry nat_eq es k v)) ≡ cond c (Some v) (cond b (Some e.1) (lookup (nat_eq n) es))
    apart true true f p q rest = let x : n ≡ e.0 = eqb-true _ _ p in let y : n ≡ k = eqb-true _ _ q in absurd (true≢false (sym (eq-eqb k e.0 (sym y ∙ x)) ∙ f))
    apart true false f p q rest = refl
    apart false true f p q rest = rest ∙ ap (λ b. cond b (Some v) (lookup (nat_eq n) es)) q
    apart false false f p q rest = rest ∙ ap (λ b. cond b (Some v) (lookup (nat_eq n) es)) q

    by : (b : Bool) → nat_eq k e.0 ≡ b → lookup (nat_eq n) (insert_entry nat_eq es k v) ≡ cond (nat_eq n k) (Some v) (lookup (nat_eq n) es)
        → lookup (nat_eq n) (cond b ((e.0, v) ∷ es) (e ∷ insert_entry nat_eq es k v)) ≡ cond (nat_eq n k) (Some v) (lookup (nat_eq n) (e ∷ es))
    by true f rest = same (nat_eq n k) (eqb-true k e.0 f) refl
    by false f rest = apart (nat_eq n e.0) (nat_eq n k) f refl refl rest

pub noted : (es : List (ℕ × ℕ)) (k v n : ℕ) → known_in (insert_entry nat_eq es k v) n ≡ cond (nat_eq n k) v (known_in es n)
noted es k v n = ap (λ o. unwrap_or o 1) (found-again es k v n) ∙ by (nat_eq n k)
  where
    by : (b : Bool) → unwrap_or (cond b (Some v) (lookup (nat_eq n) es)) 1 ≡ cond b v (known_in es n)
    by true = refl
    by false = refl
