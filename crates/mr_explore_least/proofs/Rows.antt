-- Rows that are looked at in turn.
use Rattle.std.proofs.Common.{◌≡◌, ◌<◌, ◌+◌, ℕ, suc, Bool, true, false, Option, Some, List, ◌∷◌, ◌++◌, append_assoc, length, map, drop, get_or, drop-cons, sym, ap, ◌∙◌, arith}
use Rattle.std.specs.List.{flat_map, list_all}
use Rattle.std.proofs.lemmas.List.Folds.{list_all-map}
use Rattle.std.specs.Prelude.{if◌then◌else◌}
use Rattle.mr_script.specs.declared.expectation.Expectation.{Expectation}
use Rattle.mr_explore_ends.specs.Goals.{meets}
use Rattle.mr_explore_ends.specs.Text.{Sequential}
use Rattle.mr_explore_least.specs.declared.least.Least.{Least}
use Rattle.mr_explore_least.specs.Rows.{as_arrival}
use Rattle.mr_explore_least.specs.Table.{Arrival, least_of}
use Rattle.mr_explore_least.specs.Text.{is_sequential_if_marked, marked_are_sequential}

-- the row at this place is looked at next
pub next_row : (rows : List Least) (i : ℕ) (row : Least) → i < length rows → row ≡ get_or rows i row → map as_arrival (drop i rows) ≡ as_arrival row ∷ map as_arrival (drop (i + 1) rows)
next_row rows i row few is =
    ap (map as_arrival) (drop-cons rows i row few) ∙ (ap (λ x. as_arrival x ∷ map as_arrival (drop (suc i) rows)) (sym is) ∙ ap (λ j. as_arrival row ∷ map as_arrival (drop j rows)) (let e : suc i ≡ i + 1 = omega arith in e))

-- the next row is the first that meets a goal, where none so far does
pub first_found : (goal : List Expectation) (rows : List Least) (i : ℕ) (row : Least) (all : Option Arrival) → i < length rows → row ≡ get_or rows i row → meets goal row.end ≡ true → least_of goal (map as_arrival (drop i rows)) ≡ all → Some (as_arrival row) ≡ all
first_found goal rows i row all few is met before =
    sym (ap (λ b. if b then Some (as_arrival row) else least_of goal (map as_arrival (drop (i + 1) rows))) met) ∙ (sym (ap (least_of goal) (next_row rows i row few is)) ∙ before)

-- it is none
pub first_passed : (goal : List Expectation) (rows : List Least) (i : ℕ) (row : Least) (all : Option Arrival) → i < length rows → row ≡ get_or rows i row → meets goal row.end ≡ false → least_of goal (map as_arrival (drop i rows)) ≡ all → least_of goal (map as_arrival (drop (i + 1) rows)) ≡ all
first_passed goal rows i row all few is met before =
    sym (ap (λ b. if b then Some (as_arrival row) else least_of goal (map as_arrival (drop (i + 1) rows))) met) ∙ (sym (ap (least_of goal) (next_row rows i row few is)) ∙ before)

-- what is written of the rows in turn
pub rows_go : (f : Arrival → List ℕ) (rows : List Least) (i : ℕ) (row : Least) (out new all : List ℕ) → i < length rows → row ≡ get_or rows i row → new ≡ out ++ f (as_arrival row) →
    out ++ flat_map f (map as_arrival (drop i rows)) ≡ all → new ++ flat_map f (map as_arrival (drop (i + 1) rows)) ≡ all
rows_go f rows i row out new all few is written before =
    ap (λ xs. xs ++ flat_map f (map as_arrival (drop (i + 1) rows))) written
    ∙ (append_assoc out (f (as_arrival row)) (flat_map f (map as_arrival (drop (i + 1) rows)))
    ∙ (ap (λ es. out ++ flat_map f es) (sym (next_row rows i row few is)) ∙ before))

-- each row in its turn, as the run that it tells of
pub all_marked : (s : Sequential) (rows : List Least) (arrivals : List Arrival) (b : Bool) → map as_arrival rows ≡ arrivals → b ≡ list_all (λ row. is_sequential_if_marked s (as_arrival row)) rows → b ≡ marked_are_sequential s arrivals
all_marked s rows arrivals b are is = is ∙ (sym (list_all-map (is_sequential_if_marked s) as_arrival rows) ∙ ap (list_all (is_sequential_if_marked s)) are)
