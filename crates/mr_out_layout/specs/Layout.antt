-- Which path each name of an output directory has, from the directory itself. Part files and the marker have the names that Hadoop's OutputFormat and
-- committer give them; the others are our own.
use Rattle.std.specs.Prelude.{◌≡◌, ℕ, Bool, true, ◌==◌, ◌||◌, ◌&&◌, nat_le, List, [], ◌∷◌, ◌++◌, length, decimal, codes}
use Rattle.std.specs.List.{list_all}
use Rattle.std.specs.Char.{is_ascii_alphanumeric}
use Rattle.mr_ids.specs.Attempt.{Attempt}
use Rattle.mr_ids.specs.Text.{numeral, attempt_text, IsAttempt}
use Rattle.mr_out_disk.specs.declared.place.Place.{Place}
use Rattle.mr_out_disk.specs.declared.place.Place.TheVariants.{Part, Marker, Kept, Work, Decision, Home}

-- a task's part file, by what ends its name
abbrev pub part_name : List ℕ → ℕ → List ℕ
part_name suffix n = codes "part-r-" ++ (numeral 5 n ++ suffix)

abbrev pub kept_path : Attempt → List ℕ
kept_path a = codes "_mrout/kept/" ++ attempt_text a

abbrev pub work_folder : Attempt → List ℕ
work_folder a = codes "_mrout/work/" ++ attempt_text a

abbrev pub work_path : List ℕ → Attempt → List ℕ
work_path suffix a = codes "_mrout/work/" ++ (attempt_text a ++ (codes "/" ++ part_name suffix a.task.number))

-- the note of the boot in which an attempt was begun, beside its folder
abbrev pub boot_path : Attempt → List ℕ
boot_path a = codes "_mrout/work/" ++ (attempt_text a ++ codes ".boot")

-- the name that tells how long the file is that an attempt handed in, and where it stands
abbrev pub length_name : Attempt → ℕ → List ℕ
length_name a len = attempt_text a ++ (codes "." ++ decimal len)

abbrev pub length_path : Attempt → ℕ → List ℕ
length_path a len = codes "_mrout/kept/" ++ (attempt_text a ++ (codes "." ++ decimal len))

-- a segment of the history, from 1
abbrev pub segment_name : ℕ → List ℕ
segment_name n = codes "history." ++ decimal n

abbrev pub segment_path : ℕ → List ℕ
segment_path n = codes "_mrout/history." ++ decimal n

abbrev pub path_of : List ℕ → Place → List ℕ
path_of suffix (Part n) = part_name suffix n
path_of suffix Marker = codes "_SUCCESS"
path_of suffix (Kept a) = kept_path a
path_of suffix (Work a) = work_path suffix a
path_of suffix Decision = codes "_mrout/publish"
path_of suffix Home = codes "_mrout"

-- an attempt's numbers are in range
abbrev pub InRange : Place → Type 0
InRange (Work a) = IsAttempt a
InRange _ = Unit {0}

-- No two names have one path, so that each is by itself, as in the model.
abbrev pub PathsAreApart : Type 0
PathsAreApart = (suffix : List ℕ) (p q : Place) → InRange p → InRange q → path_of suffix p ≡ path_of suffix q → p ≡ q

-- ---- what may end the name of a part file: so it stays in the directory

abbrev pub is_suffix_byte : ℕ → Bool
is_suffix_byte b = ((is_ascii_alphanumeric b || (b == 46)) || (b == 45)) || (b == 95)

-- such bytes alone
abbrev pub IsPlain : List ℕ → Type 0
IsPlain text = list_all is_suffix_byte text ≡ true

abbrev pub begins_well : List ℕ → Bool
begins_well [] = true
begins_well (b ∷ rest) = b == 46

abbrev pub is_suffix : List ℕ → Bool
is_suffix text = (begins_well text && nat_le (length text) 64) && list_all is_suffix_byte text
