-- No member of an object here is a float.
use Rattle.std.proofs.Common.{◌≡◌, ◌∷◌, [], ℕ, List, Bool, true, false, map, refl, ap, ◌∙◌}
use Rattle.std.specs.Prelude.{if◌then◌else◌, ◌||◌}
use Rattle.serde_json.specs.Data.{Data, string}
use Rattle.serde_json.specs.View.{items_of}
use Rattle.serde_json.specs.Written.{has_float, items_have_float}
use Rattle.mr_sim_json.specs.Members.{object_of}
use Rattle.mr_sim_json.proofs.Members.{have_float, neither, plain_object}
use Rattle.mr_out_winners.specs.Findings.{Found}
use Rattle.mr_out_winners.specs.Printed.{answer_members, came, found_object, trouble_word, troubles, words_of}
use Rattle.mr_out_winners.specs.declared.trouble.Trouble.{Trouble}

plain_if : (b : Bool) (d : Data) (rest : List Data) → has_float d ≡ false → items_have_float (items_of rest) ≡ false → items_have_float (items_of (if b then d ∷ rest else rest)) ≡ false
plain_if true d rest h g = neither (has_float d) (items_have_float (items_of rest)) h g
plain_if false d rest h g = g

plain_words : (fs : List Found) (ts : List Trouble) → items_have_float (items_of (words_of fs ts)) ≡ false
plain_words fs [] = refl
plain_words fs (t ∷ ts) = plain_if (came fs t) (string (trouble_word t)) (words_of fs ts) refl (plain_words fs ts)

plain_found : (fs : List Found) → items_have_float (items_of (map found_object fs)) ≡ false
plain_found [] = refl
plain_found (f ∷ fs) = neither (has_float (found_object f)) (items_have_float (items_of (map found_object fs))) refl (plain_found fs)

plain_answer : (dir : List ℕ) (fs : List Found) → have_float (answer_members dir fs) ≡ false
plain_answer dir fs =
    let found = items_have_float (items_of (map found_object fs)) in
    neither (items_have_float (items_of (words_of fs troubles))) (found || false) (plain_words fs troubles) (neither found false (plain_found fs) refl)

pub report_is_plain : (d : Data) (dir : List ℕ) (fs : List Found) → d ≡ object_of (answer_members dir fs) → has_float d ≡ false
report_is_plain d dir fs is = ap has_float is ∙ plain_object (answer_members dir fs) (plain_answer dir fs)
