-- No member of an end's object is a float, and the object is put together in two parts.
use Rattle.std.proofs.Common.{◌≡◌, ◌<◌, ◌+◌, ◌∷◌, [], ◌++◌, ℕ, suc, List, false, length, map, drop, drop-cons, get_or, Option, Some, None, refl, sym, ap, ◌∙◌, append_assoc, arith}
use Rattle.mr_ids.specs.Attempt.{Attempt}
use Rattle.mr_explore_ends.specs.Table.{End}
use Rattle.mr_explore_ends.specs.Text.{Found, Sequential}
use Rattle.serde_json.specs.Data.{Data, Members, no_members, object}
use Rattle.serde_json.specs.View.{items_of, view}
use Rattle.serde_json.specs.Written.{has_float, items_have_float}
use Rattle.serde_json.specs.declared.value.Value.{Value}
use Rattle.mr_sim_json.specs.Members.{object_of, with_all}
use Rattle.mr_explore_ends.specs.JsonLines.{end_object, read_members, runs_members, shortest_members, winner_data}
use Rattle.mr_sim_json.proofs.Members.{have_float, neither, plain_object, with_append}

plain_winner : (won : Option Attempt) → has_float (winner_data won) ≡ false
plain_winner None = refl
plain_winner (Some a) = refl

pub plain_winners : (all : List (Option Attempt)) → items_have_float (items_of (map winner_data all)) ≡ false
plain_winners [] = refl
plain_winners (won ∷ all) = neither (has_float (winner_data won)) (items_have_float (items_of (map winner_data all))) (plain_winner won) (plain_winners all)

plain_end : (s : Sequential) (e : End) → has_float (end_object s e) ≡ false
plain_end s e =
    plain_object (read_members s e.end ++ shortest_members e) (neither (items_have_float (items_of (map winner_data e.end.winners))) false (plain_winners e.end.winners) refl)

pub end_is_plain : (v : Value) (s : Sequential) (e : End) → view v ≡ end_object s e → has_float (view v) ≡ false
end_is_plain v s e is = ap has_float is ∙ plain_end s e

pub runs_are_plain : (v : Value) (s : Sequential) (f : Found) → view v ≡ object_of (runs_members s f) → has_float (view v) ≡ false
runs_are_plain v s f is = ap has_float is ∙ plain_object (runs_members s f) refl

-- its members were put in two parts
pub end_is : (s : Sequential) (e : End) (v : Data) (mid all : Members) → mid ≡ with_all (read_members s e.end) no_members → all ≡ with_all (shortest_members e) mid → v ≡ object all → v ≡ end_object s e
end_is s e v mid all first second is = is ∙ ap object (second ∙ (ap (with_all (shortest_members e)) first ∙ sym (with_append (read_members s e.end) (shortest_members e) no_members)))

-- one more winner
mapped : (xs ys : List Value) → map view (xs ++ ys) ≡ map view xs ++ map view ys
mapped [] ys = refl
mapped (x ∷ xs) ys = ap (λ zs. view x ∷ zs) (mapped xs ys)

pub one_winner : (winners : List (Option Attempt)) (i : ℕ) (won : Option Attempt) (all new : List Value) (v : Value) (every : List Data) → i < length winners → won ≡ get_or winners i won → view v ≡ winner_data won → new ≡ all ++ v ∷ [] →
    map view all ++ map winner_data (drop i winners) ≡ every → map view new ++ map winner_data (drop (i + 1) winners) ≡ every
one_winner winners i won all new v every few at one is before =
    let rest = map winner_data (drop (suc i) winners) in
    ap (λ xs. xs ++ map winner_data (drop (i + 1) winners)) (ap (map view) is ∙ mapped all (v ∷ []))
    ∙ (append_assoc (map view all) (view v ∷ []) (map winner_data (drop (i + 1) winners))
    ∙ (ap (λ j. map view all ++ view v ∷ map winner_data (drop j winners)) (let e : i + 1 ≡ suc i = omega arith in e)
    ∙ (ap (λ d. map view all ++ d ∷ rest) (one ∙ ap winner_data at)
    ∙ (ap (λ ws. map view all ++ map winner_data ws) (sym (drop-cons winners i won few)) ∙ before))))
