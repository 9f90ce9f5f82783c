-- What is printed of a directory, in each form, and with which status the program ends. Our own profile.
use Rattle.std.specs.Prelude.{ℕ, List, []}
use Rattle.mr_out_check.specs.Seen.{Seen}
use Rattle.mr_out_check.specs.Report.{answer_line, report}
use Rattle.mr_out_check.specs.Json.{report_json}
use Rattle.mr_out_check.specs.declared.shape.Shape as shape
use Rattle.mr_out_check.specs.declared.shape.Shape.TheVariants.{Report, Line, Json, Quiet}
use Rattle.mr_out_check.specs.declared.told.Told.{Told}
use Rattle.mr_out_check.specs.declared.verdict.Answer.{Answer}
use Rattle.mr_out_check.specs.declared.verdict.Answer.TheVariants.{Yes, No, ItDepends}

abbrev pub printed : shape.Shape → List ℕ → Seen → Told → List ℕ
printed Report dir s t = report dir s t
printed Line dir s t = answer_line dir s t
printed Json dir s t = report_json dir s t
printed Quiet dir s t = []

abbrev pub status_of : Answer → ℕ
status_of Yes = 0
status_of No = 1
status_of ItDepends = 8

-- of several directories: no where one is, else it depends where one does
abbrev pub worse : Answer → Answer → Answer
worse No b = No
worse Yes b = b
worse ItDepends Yes = ItDepends
worse ItDepends No = No
worse ItDepends ItDepends = ItDepends
