use Rattle.std.proofs.Common.{◌≡◌, codes, Some, ap}
use Rattle.serde_json.specs.Find.{get}
use Rattle.mr_log_layout.proofs.job.flags_in.Goals as goal

pub returns-in_err-hold : goal.returns-in_err-hold
returns-in_err-hold c job e = let read = c.in_err-hold.ensures job.hold (ap (get (codes "hold")) e) in absurd (cc)

pub returns-in_err-folders : goal.returns-in_err-folders
returns-in_err-folders c job e = let read = c.in_err-folders.ensures job.folders (ap (get (codes "folders")) e) in absurd (cc)

pub returns-in_err-shared : goal.returns-in_err-shared
returns-in_err-shared c job e = let read = c.in_err-shared.ensures job.shared (ap (get (codes "shared")) e) in absurd (cc)

pub returns : goal.returns
returns c job e =
    let one = c.in_ok-hold.ensures job.hold (ap (get (codes "hold")) e) in
    let two = c.in_ok-folders.ensures job.folders (ap (get (codes "folders")) e) in
    let three = c.in_ok-shared.ensures job.shared (ap (get (codes "shared")) e) in
    let hold : c.in_ok-hold.hold ≡ job.hold = cc in
    let folders : c.in_ok-folders.folders ≡ job.folders = cc in
    let shared : c.in_ok-shared.shared ≡ job.shared = cc in
    λ i. Some (record { hold = hold i; folders = folders i; shared = shared i })
