-- No member of an object here is a float, and the object is put together in two parts.
use Rattle.std.proofs.Common.{◌≡◌, ◌∷◌, [], ◌++◌, ℕ, List, Bool, true, false, map, Option, Some, None, refl, sym, ap, ◌∙◌}
use Rattle.std.specs.Prelude.{if◌then◌else◌, ◌||◌}
use Rattle.serde_json.specs.Data.{Data, Members, no_members, object, string}
use Rattle.serde_json.specs.View.{items_of, view}
use Rattle.serde_json.specs.Written.{has_float, items_have_float}
use Rattle.serde_json.specs.declared.value.Value.{Value}
use Rattle.mr_sim_json.specs.Members.{object_of, with_all}
use Rattle.mr_sim_json.proofs.Members.{have_float, neither, plain_append, plain_object, with_append}
use Rattle.mr_out_check.specs.Seen.{Noted, Seen}
use Rattle.mr_out_check.specs.Verdicts.{premises, same_standing, standing}
use Rattle.mr_out_check.specs.Report.{first_double, first_missing, premise_word}
use Rattle.mr_out_check.specs.Json.{answer_members, note_object, number_or_null, seen_members, words_at}
use Rattle.mr_out_check.specs.declared.premise.Premise.{Premise}
use Rattle.mr_out_check.specs.declared.premise.Standing.{Standing}
use Rattle.mr_out_check.specs.declared.premise.Standing.TheVariants.{Open, Broken}
use Rattle.mr_out_check.specs.declared.told.Told.{Told}

plain_if : (b : Bool) (d : Data) (rest : List Data) → has_float d ≡ false → items_have_float (items_of rest) ≡ false → items_have_float (items_of (if b then d ∷ rest else rest)) ≡ false
plain_if true d rest h g = neither (has_float d) (items_have_float (items_of rest)) h g
plain_if false d rest h g = g

plain_words : (at : Standing) (s : Seen) (t : Told) (ps : List Premise) → items_have_float (items_of (words_at at s t ps)) ≡ false
plain_words at s t [] = refl
plain_words at s t (p ∷ ps) = plain_if (same_standing (standing p s t) at) (string (premise_word p)) (words_at at s t ps) refl (plain_words at s t ps)

plain_notes : (ns : List Noted) → items_have_float (items_of (map note_object ns)) ≡ false
plain_notes [] = refl
plain_notes (n ∷ ns) = neither (has_float (note_object n)) (items_have_float (items_of (map note_object ns))) refl (plain_notes ns)

plain_number : (n : Option ℕ) → has_float (number_or_null n) ≡ false
plain_number None = refl
plain_number (Some n) = refl

plain_answer : (dir : List ℕ) (s : Seen) (t : Told) → have_float (answer_members dir s t) ≡ false
plain_answer dir s t =
    neither (items_have_float (items_of (words_at Broken s t premises))) (items_have_float (items_of (words_at Open s t premises)) || false) (plain_words Broken s t premises)
    (neither (items_have_float (items_of (words_at Open s t premises))) false (plain_words Open s t premises) refl)

plain_seen : (s : Seen) (t : Told) → have_float (seen_members s t) ≡ false
plain_seen s t =
    neither (items_have_float (items_of (map note_object s.notes))) (has_float (number_or_null (first_missing t.tasks s.tally)) || (has_float (number_or_null (first_double 0 s.tally)) || false)) (plain_notes s.notes)
    (neither (has_float (number_or_null (first_missing t.tasks s.tally))) (has_float (number_or_null (first_double 0 s.tally)) || false) (plain_number (first_missing t.tasks s.tally))
    (neither (has_float (number_or_null (first_double 0 s.tally))) false (plain_number (first_double 0 s.tally)) refl))

pub report_is_plain : (d : Data) (dir : List ℕ) (s : Seen) (t : Told) → d ≡ object_of (answer_members dir s t ++ seen_members s t) → has_float d ≡ false
report_is_plain d dir s t is = ap has_float is ∙ plain_object (answer_members dir s t ++ seen_members s t) (plain_append (answer_members dir s t) (seen_members s t) (plain_answer dir s t) (plain_seen s t))

-- its members were put in two parts
pub report_is : (dir : List ℕ) (s : Seen) (t : Told) (d : Data) (mid all : Members) → mid ≡ with_all (answer_members dir s t) no_members → all ≡ with_all (seen_members s t) mid → d ≡ object all → d ≡ object_of (answer_members dir s t ++ seen_members s t)
report_is dir s t d mid all first second is = is ∙ ap object (second ∙ (ap (with_all (seen_members s t)) first ∙ sym (with_append (answer_members dir s t) (seen_members s t) no_members)))
