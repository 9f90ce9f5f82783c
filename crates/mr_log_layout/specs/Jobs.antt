-- The file that tells a job: one line of JSON, with no space and its keys in order. Our own.
use Rattle.std.specs.Prelude.{◌≡◌, ◌≢◌, ◌≤◌, ◌<◌, ◌^◌, ◌⊎◌, ℕ, true, List, [], ◌∷◌, ◌++◌, codes, Option, Some, None, if◌then◌else◌, option_and_then, nat_eq, IsUtf8}
use Rattle.std.specs.String.{string_bytes}
use Rattle.serde_json.specs.Data.{Data, null, boolean, number, unsigned, string, object, member, no_members}
use Rattle.serde_json.specs.Find.{get, as_number, as_u64}
use Rattle.serde_json.specs.Read.{read}
use Rattle.serde_json.specs.Written.{compact_text}
use Rattle.mr_ids.specs.Text.{job_text, IsJob}
use Rattle.mr_log_layout.specs.declared.fault.JobFault.{JobFault}
use Rattle.mr_log_layout.specs.declared.fault.JobFault.TheVariants.{FirstForm, OtherVersion, Damaged}
use Rattle.mr_log_layout.specs.declared.job.Job.{Job}
use Rattle.mr_log_layout.specs.Paths.{is_suffix}

abbrev pub limit_data : Option ℕ → Data
limit_data None = null
limit_data (Some n) = number (unsigned n)

-- the job as an object
abbrev pub data_of : Job → Data
data_of job = object
    (member (codes "folders") (boolean job.folders)
    (member (codes "hold") (boolean job.hold)
    (member (codes "job") (string (job_text job.id))
    (member (codes "limit") (limit_data job.limit)
    (member (codes "shared") (boolean job.shared)
    (member (codes "suffix") (string (string_bytes job.suffix))
    (member (codes "tasks") (number (unsigned job.tasks))
    (member (codes "uid") (number (unsigned job.uid))
    (member (codes "version") (number (unsigned 2)) no_members)))))))))

-- the line, with its line feed
unfoldable pub job_line : Data → List ℕ
job_line job = compact_text job ++ 10 ∷ []

abbrev pub IsLimit : Option ℕ → Type 0
IsLimit None = Unit {0}
IsLimit (Some n) = (1 ≤ n) × (n ≤ 100)

-- what has a line that is read back
pub record IsTold (job : Job) : Type 0 where
  pub id : IsJob job.id
  pub uid : job.uid < 2 ^ 32
  pub some : 1 ≤ job.tasks
  pub few : job.tasks ≤ 100000
  pub limit : IsLimit job.limit
  pub suffix : is_suffix (string_bytes job.suffix) ≡ true

-- ---- why a file is refused

abbrev pub version_of : Data → Option ℕ
version_of value = option_and_then as_u64 (option_and_then as_number (get (codes "version") value))

-- the first form of the directory has version 1, this one version 2
abbrev pub fault_of_version : Option ℕ → JobFault
fault_of_version None = Damaged
fault_of_version (Some n) = if nat_eq n 1 then FirstForm else (if nat_eq n 2 then Damaged else OtherVersion)

-- of what was read of the line: nothing, where it is no JSON
abbrev pub fault_in : Option Data → JobFault
fault_in None = Damaged
fault_in (Some value) = fault_of_version (version_of value)

-- of a line, which other programs may have written: it may be no text
abbrev pub IsFaultOf : List ℕ → JobFault → Type 0
IsFaultOf line fault = (IsUtf8 line → fault ≡ fault_in (read line)) × (¬ (IsUtf8 line) → fault ≡ Damaged)

-- the file without its line feed
abbrev pub IsLineIn : List ℕ → List ℕ → Type 0
IsLineIn bytes line = (bytes ≡ line ++ 10 ∷ []) ⊎ ((bytes ≡ line) × ((front : List ℕ) → bytes ≢ front ++ 10 ∷ []))
