-- Where a row is taken out, and where one is put.
use Rattle.std.proofs.Common.{◌≡◌, ◌<◌, ◌≤◌, ◌+◌, ℕ, suc, Bool, true, false, List, [], ◌∷◌, ◌++◌, length, length-append, map, take, drop, Some, None, refl, sym, ap, ◌∙◌, arith}
use Rattle.std.proofs.Math.Seq.{drop-append-add, drop-append_seam, take-append_seam}
use Rattle.std.specs.Prelude.{if◌then◌else◌}
use Rattle.std.specs.List.{insert, remove}
use Rattle.mr_explore_ends.specs.Outcomes.{Outcome, same_outcome}
use Rattle.mr_explore_least.specs.declared.least.Least.{Least}
use Rattle.mr_explore_least.specs.Rows.{as_arrival}
use Rattle.mr_explore_least.specs.Table.{Arrival, all_noted, earlier, noted, placed, without}
use Rattle.mr_explore_least.specs.inner.Places.{behind_from, place_from}

some_is : (k i : ℕ) → Some k ≡ Some i → k ≡ i
some_is k i e = cc

not_some : (k : ℕ) → None ≡ Some k → ⊥
not_some k e = cc

mapped : (xs ys : List Least) → map as_arrival (xs ++ ys) ≡ map as_arrival xs ++ map as_arrival ys
mapped [] ys = refl
mapped (x ∷ xs) ys = ap (λ zs. as_arrival x ∷ zs) (mapped xs ys)

-- ---- the row of an end

record IsAt (end : Outcome) (k : ℕ) (rows : List Least) (i : ℕ) : Type 0 where
  pub front : List Least
  pub row : Least
  pub back : List Least
  pub are : rows ≡ front ++ row ∷ back
  pub place : i ≡ k + length front
  pub rest : without end (map as_arrival rows) ≡ map as_arrival front ++ map as_arrival back

found_at : (end : Outcome) (k : ℕ) (rows : List Least) (i : ℕ) → place_from end k (map as_arrival rows) ≡ Some i → IsAt end k rows i
found_at end k [] i e = absurd (not_some i e)
found_at end k (r ∷ rs) i e = by (same_outcome r.end end) refl e (found_at end (k + 1) rs i) where
  goes : IsAt end (k + 1) rs i → same_outcome r.end end ≡ false → IsAt end k (r ∷ rs) i
  goes at other =
      let place = at.place in
      record { front = r ∷ at.front; row = at.row; back = at.back; are = ap (λ xs. r ∷ xs) at.are; place = omega (arith, place); rest = ap (λ b. if b then map as_arrival rs else as_arrival r ∷ without end (map as_arrival rs)) other ∙ ap (λ xs. as_arrival r ∷ xs) at.rest }

  by : (b : Bool) → same_outcome r.end end ≡ b → (if b then Some k else place_from end (k + 1) (map as_arrival rs)) ≡ Some i → (place_from end (k + 1) (map as_arrival rs) ≡ Some i → IsAt end (k + 1) rs i) → IsAt end k (r ∷ rs) i
  by true same here more = let place = some_is k i here in record { front = []; row = r; back = rs; are = refl; place = omega (arith, place); rest = ap (λ b. if b then map as_arrival rs else as_arrival r ∷ without end (map as_arrival rs)) same }
  by false other here more = goes (more here) other

pub is_within : (end : Outcome) (rows : List Least) (i : ℕ) → place_from end 0 (map as_arrival rows) ≡ Some i → i < length rows
is_within end rows i e =
    let at = found_at end 0 rows i e in
    let place = at.place in
    let all = ap length at.are ∙ length-append at.front (at.row ∷ at.back) in
    omega (arith, place, all)

removed : (front back : List Least) (row : Least) (i : ℕ) → i ≡ length front → remove (front ++ row ∷ back) i ≡ front ++ back
removed front back row i e =
    let next : suc i ≡ length front + 1 = omega (arith, e) in
    ap (λ n. take n (front ++ row ∷ back) ++ drop (suc i) (front ++ row ∷ back)) e
    ∙ (ap (λ xs. xs ++ drop (suc i) (front ++ row ∷ back)) (take-append_seam front (row ∷ back))
    ∙ ap (λ xs. front ++ xs) (ap (λ n. drop n (front ++ row ∷ back)) next ∙ drop-append-add front (row ∷ back) 1))

-- it is taken out
pub taken_out : (end : Outcome) (rows new : List Least) (i : ℕ) → place_from end 0 (map as_arrival rows) ≡ Some i → new ≡ remove rows i → map as_arrival new ≡ without end (map as_arrival rows)
taken_out end rows new i e is =
    let at = found_at end 0 rows i e in
    let place : i ≡ length at.front = let p = at.place in omega (arith, p) in
    ap (map as_arrival) (is ∙ (ap (λ xs. remove xs i) at.are ∙ removed at.front at.back at.row i place)) ∙ (mapped at.front at.back ∙ sym at.rest)

-- there is none
none_from : (end : Outcome) (k : ℕ) (rows : List Arrival) → place_from end k rows ≡ None → without end rows ≡ rows
none_from end k [] e = refl
none_from end k (r ∷ rs) e = by (same_outcome r.end end) refl e (none_from end (k + 1) rs) where
  by : (b : Bool) → same_outcome r.end end ≡ b → (if b then Some k else place_from end (k + 1) rs) ≡ None → (place_from end (k + 1) rs ≡ None → without end rs ≡ rs) → without end (r ∷ rs) ≡ r ∷ rs
  by true same here more = absurd (not_some k (sym here))
  by false other here more = ap (λ b. if b then rs else r ∷ without end rs) other ∙ ap (λ xs. r ∷ xs) (more here)

pub none_out : (end : Outcome) (rows : List Least) → place_from end 0 (map as_arrival rows) ≡ None → map as_arrival rows ≡ without end (map as_arrival rows)
none_out end rows e = sym (none_from end 0 (map as_arrival rows) e)

-- ---- the place of a run

record IsBehind (a : Arrival) (k : ℕ) (rows : List Least) : Type 0 where
  pub front : List Least
  pub back : List Least
  pub are : rows ≡ front ++ back
  pub place : behind_from a k (map as_arrival rows) ≡ k + length front
  pub puts : placed a (map as_arrival rows) ≡ map as_arrival front ++ a ∷ map as_arrival back

behind : (a : Arrival) (k : ℕ) (rows : List Least) → IsBehind a k rows
behind a k [] = record { front = []; back = []; are = refl; place = omega arith; puts = refl }
behind a k (r ∷ rs) = by (earlier (as_arrival r) a) refl (behind a (k + 1) rs) where
  by : (b : Bool) → earlier (as_arrival r) a ≡ b → IsBehind a (k + 1) rs → IsBehind a k (r ∷ rs)
  by true e at =
      let there = at.place in
      let place : behind_from a (k + 1) (map as_arrival rs) ≡ k + suc (length at.front) = omega (arith, there) in
      record {
        front = r ∷ at.front;
        back = at.back;
        are = ap (λ xs. r ∷ xs) at.are;
        place = ap (λ b. if b then behind_from a (k + 1) (map as_arrival rs) else k) e ∙ place;
        puts = ap (λ b. if b then as_arrival r ∷ placed a (map as_arrival rs) else a ∷ as_arrival r ∷ map as_arrival rs) e ∙ ap (λ xs. as_arrival r ∷ xs) at.puts;
      }
  by false e at =
      let place : k ≡ k + 0 = omega arith in
      record {
        front = [];
        back = r ∷ rs;
        are = refl;
        place = ap (λ b. if b then behind_from a (k + 1) (map as_arrival rs) else k) e ∙ place;
        puts = ap (λ b. if b then as_arrival r ∷ placed a (map as_arrival rs) else a ∷ as_arrival r ∷ map as_arrival rs) e;
      }

pub is_place : (a : Arrival) (rows : List Least) (i : ℕ) → i ≡ behind_from a 0 (map as_arrival rows) → i ≤ length rows
is_place a rows i e =
    let at = behind a 0 rows in
    let place = e ∙ at.place in
    let all = ap length at.are ∙ length-append at.front at.back in
    omega (arith, place, all)

inserted : (front back : List Least) (row : Least) (i : ℕ) → i ≡ length front → insert (front ++ back) i row ≡ front ++ row ∷ back
inserted front back row i e =
    ap (λ n. take n (front ++ back) ++ row ∷ drop n (front ++ back)) e
    ∙ (ap (λ xs. xs ++ row ∷ drop (length front) (front ++ back)) (take-append_seam front back) ∙ ap (λ xs. front ++ row ∷ xs) (drop-append_seam front back))

-- it is put there
pub put_there : (row : Least) (rows new : List Least) (i : ℕ) → i ≡ behind_from (as_arrival row) 0 (map as_arrival rows) → new ≡ insert rows i row → map as_arrival new ≡ placed (as_arrival row) (map as_arrival rows)
put_there row rows new i e is =
    let at = behind (as_arrival row) 0 rows in
    let place : i ≡ length at.front = let p = e ∙ at.place in omega (arith, p) in
    ap (map as_arrival) (is ∙ (ap (λ xs. insert xs i row) at.are ∙ inserted at.front at.back row i place)) ∙ (mapped at.front (row ∷ at.back) ∙ sym at.puts)

-- ---- rows that are joined in turn

pub all_noted_last : (xs : List Arrival) (a : Arrival) (rows : List Arrival) → all_noted (xs ++ a ∷ []) rows ≡ noted a (all_noted xs rows)
all_noted_last [] a rows = refl
all_noted_last (x ∷ xs) a rows = all_noted_last xs a (noted x rows)

pub one_joined : (xs : List Least) (r : Least) (start mid new : List Arrival) → mid ≡ all_noted (map as_arrival xs) start → new ≡ noted (as_arrival r) mid → new ≡ all_noted (map as_arrival (xs ++ r ∷ [])) start
one_joined xs r start mid new a b = b ∙ (ap (noted (as_arrival r)) a ∙ (sym (all_noted_last (map as_arrival xs) (as_arrival r) start) ∙ ap (λ ys. all_noted ys start) (sym (mapped xs (r ∷ [])))))
