-- What is printed of a directory as a line of JSON (RFC 8259). Our own profile.
use Rattle.std.specs.Prelude.{ℕ, List, [], ◌∷◌, ◌++◌, codes, map, Option, Some, None, if◌then◌else◌}
use Rattle.serde_json.specs.Data.{Data, null, string}
use Rattle.mr_sim_json.specs.Members.{Member, count, line_of, list, object_of, text}
use Rattle.mr_out_check.specs.Seen.{Noted, Seen}
use Rattle.mr_out_check.specs.Verdicts.{answer, premises, same_standing, standing}
use Rattle.mr_out_check.specs.Report.{answer_word, class_words, first_double, first_missing, premise_word}
use Rattle.mr_out_check.specs.declared.told.Told.{Told}
use Rattle.mr_out_check.specs.declared.premise.Premise.{Premise}
use Rattle.mr_out_check.specs.declared.premise.Standing.{Standing}
use Rattle.mr_out_check.specs.declared.premise.Standing.TheVariants.{Open, Broken}

-- the premises that stand so, in order
abbrev pub words_at : Standing → Seen → Told → List Premise → List Data
words_at at s t [] = []
words_at at s t (p ∷ ps) = if same_standing (standing p s t) at then string (premise_word p) ∷ words_at at s t ps else words_at at s t ps

abbrev pub standing_words : Standing → Seen → Told → Data
standing_words at s t = list (words_at at s t premises)

abbrev pub number_or_null : Option ℕ → Data
number_or_null None = null
number_or_null (Some n) = count n

-- how many of a class came, and the first
abbrev pub note_object : Noted → Data
note_object n = object_of ((codes "class", string (class_words n.class)) ∷ (codes "count", count n.count) ∷ (codes "first", text n.first) ∷ [])

-- the answer, and the premises that are not met
abbrev pub answer_members : List ℕ → Seen → Told → List Member
answer_members dir s t =
    (codes "answer", string (answer_word (answer s t)))
    ∷ (codes "dir", text dir)
    ∷ (codes "broken", standing_words Broken s t)
    ∷ (codes "open", standing_words Open s t)
    ∷ []

-- what was seen
abbrev pub seen_members : Seen → Told → List Member
seen_members s t =
    (codes "seen", list (map note_object s.notes))
    ∷ (codes "missing", number_or_null (first_missing t.tasks s.tally))
    ∷ (codes "twice", number_or_null (first_double 0 s.tally))
    ∷ []

abbrev pub report_json : List ℕ → Seen → Told → List ℕ
report_json dir s t = line_of (object_of (answer_members dir s t ++ seen_members s t))
