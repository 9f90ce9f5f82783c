-- What reading a text gives. That a text has one reading, and which fault is told first, is our own profile.
use Rattle.std.specs.Prelude.{◌≡◌, ℕ, List, [], ◌++◌, Option, Some, None, Result, Ok, Err, IfOk, IfErr}
use Rattle.std.specs.List.{slice_split}
use Rattle.std.specs.Borrow.{Bor}
use Rattle.mr_ids.specs.declared.fault.IdFault.{IdFault}
use Rattle.mr_ids.specs.Text.{is_bar}
use Rattle.mr_ids.specs.Faults.{Place, first_fault}

-- what `parse` gives for a text: an identifier exactly where the text is its text, and else the first fault
pub record Reads {V : Type 0} (text_of : V → List ℕ) (IsIn : V → Type 0) (places : List Place) (text : List ℕ) (result : Result V IdFault) : Type 0 where
  pub found : IfOk result (λ v. text ≡ text_of v)
  pub ranges : IfOk result IsIn
  pub only : (v : V) → IsIn v → text ≡ text_of v → result ≡ Ok v
  pub exact : IfErr result (λ f. first_fault places (slice_split is_bar text) ≡ Some f)

-- the fields of the text that is left, if any is
abbrev pub fields_left : Option (Bor (List ℕ)) → List (List ℕ)
fields_left None = []
fields_left (Some text) = slice_split is_bar text.now

-- what reading some places gives: what the first fields spell, which have no fault, and the fields that are left; or the fault
abbrev pub Takes : {X : Type 0} → List Place → (X → List (List ℕ)) → (X → List (List ℕ)) → List (List ℕ) → Result X IdFault → Type 0
Takes places spelled left fields (Ok x) = (fields ≡ spelled x ++ left x) × ((more : List Place) → first_fault (places ++ more) fields ≡ first_fault more (left x))
Takes places spelled left fields (Err f) = (more : List Place) → first_fault (places ++ more) fields ≡ Some f

-- what reading all places of a text gives: what its fields spell; or the first fault
abbrev pub TakesAll : {X : Type 0} → List Place → (X → List (List ℕ)) → List (List ℕ) → Result X IdFault → Type 0
TakesAll places spelled fields (Ok x) = fields ≡ spelled x
TakesAll places spelled fields (Err f) = first_fault places fields ≡ Some f
