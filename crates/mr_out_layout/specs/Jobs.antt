-- What the file of a job tells: an object of JSON. Our own.
use Rattle.std.specs.Prelude.{◌≡◌, ℕ, Bool, true, ◌&&◌, nat_le, List, ◌++◌, codes, decimal, Option, Some, None, option_and_then, if◌then◌else◌}
use Rattle.std.specs.String.{string_bytes}
use Rattle.serde_json.specs.Data.{Data}
use Rattle.serde_json.specs.Find.{get, as_str, as_bool, as_number, as_u64}
use Rattle.mr_ids.specs.declared.id.JobId.{JobId}
use Rattle.mr_ids.specs.Text.{job_text}
use Rattle.mr_out_layout.specs.declared.job.Job.{Job}
use Rattle.mr_out_layout.specs.Layout.{is_suffix}

abbrev pub text_at : List ℕ → Data → Option (List ℕ)
text_at key value = option_and_then as_str (get key value)

abbrev pub flag_at : List ℕ → Data → Option Bool
flag_at key value = option_and_then as_bool (get key value)

abbrev pub in_range : ℕ → ℕ → ℕ → Option ℕ
in_range low high n = if nat_le low n && nat_le n high then Some n else None

-- a number that is in range
abbrev pub number_at : List ℕ → ℕ → ℕ → Data → Option ℕ
number_at key low high value = option_and_then (in_range low high) (option_and_then as_u64 (option_and_then as_number (get key value)))

-- ---- the line that tells it

abbrev pub limit_text : Option ℕ → List ℕ
limit_text None = codes "null"
limit_text (Some n) = decimal n

abbrev pub flag_text : Bool → List ℕ
flag_text flag = if flag then codes "true" else codes "false"

-- what stands before the suffix, and what from there on
unfoldable pub line_front : JobId → ℕ → List ℕ → List ℕ
line_front id tasks limit = codes "{\"version\":1,\"job\":\"" ++ (job_text id ++ (codes "\",\"tasks\":" ++ (decimal tasks ++ (codes ",\"limit\":" ++ limit))))

unfoldable pub line_back : List ℕ → Bool → List ℕ → List ℕ
line_back suffix hold host = codes ",\"suffix\":\"" ++ (suffix ++ (codes "\",\"hold\":" ++ (flag_text hold ++ (codes ",\"host\":\"" ++ (host ++ codes "\"}\n")))))

abbrev pub job_line : Job → List ℕ
job_line job = line_front job.id job.tasks (limit_text job.limit) ++ line_back (string_bytes job.suffix) job.hold (string_bytes job.host)

-- ---- what is read of it

pub record IsJobOf (value : Data) (job : Job) : Type 0 where
  pub version : number_at (codes "version") 1 1 value ≡ Some 1
  pub id : text_at (codes "job") value ≡ Some (job_text job.id)
  pub tasks : number_at (codes "tasks") 1 1000 value ≡ Some job.tasks
  -- one that is out of range is none
  pub limit : number_at (codes "limit") 1 100 value ≡ job.limit
  pub suffix : text_at (codes "suffix") value ≡ Some (string_bytes job.suffix)
  pub suits : is_suffix (string_bytes job.suffix) ≡ true
  pub hold : flag_at (codes "hold") value ≡ Some job.hold
  pub host : text_at (codes "host") value ≡ Some (string_bytes job.host)

-- some file tells this job
abbrev pub IsTold : Job → Type 0
IsTold job = (value : Data) × IsJobOf value job
