-- Which path each name of an output directory with a log has, from the directory itself. Part files and the marker have the names that Hadoop's
-- OutputFormat and committer give them; the others are our own.
use Rattle.std.specs.Prelude.{◌≡◌, ◌<◌, ◌^◌, ◌==◌, ◌||◌, ◌&&◌, ℕ, Bool, true, nat_le, List, [], ◌∷◌, ◌++◌, length, decimal, codes}
use Rattle.std.specs.List.{list_all}
use Rattle.std.specs.Char.{is_ascii_alphanumeric}
use Rattle.mr_ids.specs.Attempt.{Attempt}
use Rattle.mr_ids.specs.Text.{numeral, attempt_text}
use Rattle.mr_log_entries.specs.Numerals.{number_text}

-- a task's name for readers where it has none of its own, by what ends it
abbrev pub part_name : List ℕ → ℕ → List ℕ
part_name suffix n = codes "part-r-" ++ (numeral 5 n ++ suffix)

-- an entry of the log, from 1
abbrev pub entry_path : ℕ → List ℕ
entry_path n = codes "_mrout/log/" ++ numeral 8 n

-- the texts of entries up to this one
abbrev pub summary_path : ℕ → List ℕ
summary_path n = codes "_mrout/log/upto." ++ decimal n

-- what a boot's short form stands for
abbrev pub boot_path : ℕ → List ℕ
boot_path boot = codes "_mrout/boots/" ++ number_text 16 boot

-- where an attempt writes
abbrev pub work_path : Attempt → List ℕ
work_path a = codes "_mrout/work/" ++ attempt_text a

-- what it handed in
abbrev pub kept_path : Attempt → List ℕ
kept_path a = codes "_mrout/kept/" ++ attempt_text a

-- the list of that, by the id of the entry that records it
abbrev pub list_path : Attempt → ℕ → List ℕ
list_path a id = codes "_mrout/kept/" ++ (attempt_text a ++ (codes "." ++ number_text 16 id))

-- the note that it is being synced
abbrev pub sync_path : Attempt → List ℕ
sync_path a = codes "_mrout/kept/" ++ (attempt_text a ++ codes ".sync")

-- a path below one of these folders
abbrev pub path_below : List ℕ → List ℕ → List ℕ
path_below folder path = folder ++ (codes "/" ++ path)

-- ---- no two have one path

pub data Name : Type 0 where
  job : Name
  names : Name
  marker : Name
  entry : ℕ → Name
  summary : ℕ → Name
  boot : ℕ → Name
  work : Attempt → Name
  kept : Attempt → Name
  listing : Attempt → ℕ → Name
  sync : Attempt → Name

abbrev pub path_of : Name → List ℕ
path_of job = codes "_mrout/job"
path_of names = codes "_mrout/names"
path_of marker = codes "_mrout/marker"
path_of (entry n) = entry_path n
path_of (summary n) = summary_path n
path_of (boot b) = boot_path b
path_of (work a) = work_path a
path_of (kept a) = kept_path a
path_of (listing a id) = list_path a id
path_of (sync a) = sync_path a

-- a summary's number is in range
abbrev pub InRange : Name → Type 0
InRange (summary n) = n < 2 ^ 32
InRange _ = Unit {0}

abbrev pub PathsAreApart : Type 0
PathsAreApart = (m n : Name) → InRange m → InRange n → path_of m ≡ path_of n → m ≡ n

-- ---- what may end the name of a part file: so it stays in the directory

abbrev pub is_suffix_byte : ℕ → Bool
is_suffix_byte b = ((is_ascii_alphanumeric b || (b == 46)) || (b == 45)) || (b == 95)

abbrev pub begins_well : List ℕ → Bool
begins_well [] = true
begins_well (b ∷ rest) = b == 46

abbrev pub is_suffix : List ℕ → Bool
is_suffix text = (begins_well text && nat_le (length text) 64) && list_all is_suffix_byte text
