-- A run is noted: its end has a row, or is new.
use Rattle.std.proofs.Common.{◌≡◌, ◌<◌, ◌≤◌, ◌+◌, ℕ, Bool, true, false, List, [], ◌∷◌, ◌++◌, length, length-append, map, Option, Some, None, Result, Ok, Err, OnOk, OnErr, get_or, set, refl, sym, ap, ◌∙◌, arith}
use Rattle.std.proofs.lemmas.List.{get_or_at, set-get_or, set_at}
use Rattle.std.specs.Prelude.{if◌then◌else◌}
use Rattle.mr_explore_ends.specs.declared.row.Row.{Row}
use Rattle.mr_explore_ends.specs.Outcomes.{same_outcome}
use Rattle.mr_explore_ends.specs.Rows.{as_end}
use Rattle.mr_explore_ends.specs.Table.{Reached, End, met, noted_in, opened}
use Rattle.mr_explore_ends.specs.inner.Rows.{place_from}

not_some : (k : ℕ) → None ≡ Some k → ⊥
not_some k e = cc

pub some_is : (k i : ℕ) → Some k ≡ Some i → k ≡ i
some_is k i e = cc

pub mapped : (xs ys : List Row) → map as_end (xs ++ ys) ≡ map as_end xs ++ map as_end ys
mapped [] ys = refl
mapped (x ∷ xs) ys = ap (λ zs. as_end x ∷ zs) (mapped xs ys)

-- the end of a run, where it is compared with that of the first row
abbrev if_same : Reached → Row → List Row → Bool → List End
if_same c r rs b = if b then met c.faults c.stalled c.events (as_end r) ∷ map as_end rs else as_end r ∷ noted_in c (map as_end rs)

-- where its row stands, and what stands before and behind it
record IsAt (c : Reached) (k : ℕ) (rows : List Row) (i : ℕ) : Type 0 where
  pub front : List Row
  pub row : Row
  pub back : List Row
  pub are : rows ≡ front ++ row ∷ back
  pub place : i ≡ k + length front
  pub noted : noted_in c (map as_end rows) ≡ map as_end front ++ met c.faults c.stalled c.events (as_end row) ∷ map as_end back

found_at : (c : Reached) (k : ℕ) (rows : List Row) (i : ℕ) → place_from c.end k rows ≡ Some i → IsAt c k rows i
found_at c k [] i e = absurd (not_some i e)
found_at c k (r ∷ rs) i e = by (same_outcome r.end c.end) refl e (found_at c (k + 1) rs i) where
  goes : IsAt c (k + 1) rs i → same_outcome r.end c.end ≡ false → IsAt c k (r ∷ rs) i
  goes at other =
      let place = at.place in
      record { front = r ∷ at.front; row = at.row; back = at.back; are = ap (λ xs. r ∷ xs) at.are; place = omega (arith, place); noted = ap (if_same c r rs) other ∙ ap (λ xs. as_end r ∷ xs) at.noted }

  by : (b : Bool) → same_outcome r.end c.end ≡ b → (if b then Some k else place_from c.end (k + 1) rs) ≡ Some i → (place_from c.end (k + 1) rs ≡ Some i → IsAt c (k + 1) rs i) → IsAt c k (r ∷ rs) i
  by true same here more = let place = some_is k i here in record { front = []; row = r; back = rs; are = refl; place = omega (arith, place); noted = ap (if_same c r rs) same }
  by false other here more = goes (more here) other

pub is_within : (c : Reached) (rows : List Row) (i : ℕ) → place_from c.end 0 rows ≡ Some i → i < length rows
is_within c rows i e =
    let at = found_at c 0 rows i e in
    let place = at.place in
    let all = ap length at.are ∙ length-append at.front (at.row ∷ at.back) in
    omega (arith, place, all)

-- the row met the run
pub met_at : (c : Reached) (rows new : List Row) (i : ℕ) (row d : Row) → place_from c.end 0 rows ≡ Some i → new ≡ set rows i row → as_end row ≡ met c.faults c.stalled c.events (as_end (get_or rows i d)) → map as_end new ≡ noted_in c (map as_end rows)
met_at c rows new i row d e is says =
    let at = found_at c 0 rows i e in
    let place : length at.front ≡ i = let p = at.place in omega (arith, p) in
    let was : get_or rows i d ≡ at.row = ap (λ xs. get_or xs i d) at.are ∙ get_or_at at.front at.row at.back d i place in
    let now : new ≡ at.front ++ row ∷ at.back = is ∙ (ap (λ xs. set xs i row) at.are ∙ set_at at.front at.row at.back row i place) in
    ap (map as_end) now ∙ (mapped at.front (row ∷ at.back) ∙ (ap (λ x. map as_end at.front ++ x ∷ map as_end at.back) (says ∙ ap (λ x. met c.faults c.stalled c.events (as_end x)) was) ∙ sym at.noted))

-- the end is new
none_from : (c : Reached) (k : ℕ) (rows : List Row) → place_from c.end k rows ≡ None → noted_in c (map as_end rows) ≡ map as_end rows ++ opened c ∷ []
none_from c k [] e = refl
none_from c k (r ∷ rs) e = by (same_outcome r.end c.end) refl e (none_from c (k + 1) rs) where
  by : (b : Bool) → same_outcome r.end c.end ≡ b → (if b then Some k else place_from c.end (k + 1) rs) ≡ None → (place_from c.end (k + 1) rs ≡ None → noted_in c (map as_end rs) ≡ map as_end rs ++ opened c ∷ []) →
      noted_in c (map as_end (r ∷ rs)) ≡ map as_end (r ∷ rs) ++ opened c ∷ []
  by true same here more = absurd (not_some k (sym here))
  by false other here more = ap (if_same c r rs) other ∙ ap (λ xs. as_end r ∷ xs) (more here)

pub opened_behind : (c : Reached) (rows new : List Row) (row : Row) → place_from c.end 0 rows ≡ None → new ≡ rows ++ row ∷ [] → as_end row ≡ opened c → map as_end new ≡ noted_in c (map as_end rows)
opened_behind c rows new row e is says =
    ap (map as_end) is ∙ (mapped rows (row ∷ []) ∙ (ap (λ x. map as_end rows ++ x ∷ []) says ∙ sym (none_from c 0 rows e)))

-- ---- what is said where there was memory, or none

pub on_ok : {A B : Type 0} (r : Result A B) (P Q : Type 0) → OnOk r P → (P → Q) → OnOk r Q
on_ok (Ok a) P Q h f = f h
on_ok (Err b) P Q h f = h

pub on_err : {A B : Type 0} (r : Result A B) (P Q : Type 0) → OnErr r P → (P → Q) → OnErr r Q
on_err (Ok a) P Q h f = h
on_err (Err b) P Q h f = f h

-- a row that is put back leaves the rows as they were
pub put_back : (rows : List Row) (i : ℕ) (row d : Row) → d ≡ get_or rows i d → row ≡ d → set rows i row ≡ rows
put_back rows i row d is same = ap (set rows i) (same ∙ is) ∙ set-get_or rows i d
