use Rattle.std.proofs.Common.{◌≡◌, codes, ap, ◌∙◌}
use Rattle.std.specs.String.{string_bytes}
use Rattle.serde_json.specs.Data.{boolean, number, unsigned, string, object, member, no_members}
use Rattle.serde_json.specs.Find.{get}
use Rattle.mr_ids.specs.Text.{job_text}
use Rattle.mr_log_layout.specs.Jobs.{limit_data}
use Rattle.mr_log_layout.proofs.job.job_in.Goals as goal

pub returns-in_default-clause-only : goal.returns-in_default-clause-only
returns-in_default-clause-only c job is e = let read = c.in_default.ensures.only job.id is.id (ap (get (codes "job")) e) in absurd (cc)

pub returns-in_default-numbers_in-clause-only : goal.returns-in_default-numbers_in-clause-only
returns-in_default-numbers_in-clause-only c job is e = let read = c.in_default-numbers_in.ensures.only job is e in absurd (cc)

pub returns-in_default-flags_in-clause-only : goal.returns-in_default-flags_in-clause-only
returns-in_default-flags_in-clause-only c job is e = let read = c.in_default-flags_in.ensures job e in absurd (cc)

pub returns-in_default-suffix_in-clause-only : goal.returns-in_default-suffix_in-clause-only
returns-in_default-suffix_in-clause-only c job is e = let read = c.in_default-suffix_in.ensures.only (string_bytes job.suffix) is.suffix (ap (get (codes "suffix")) e) in absurd (cc)

pub returns-clause-only : goal.returns-clause-only
returns-clause-only c job is e =
    let one = c.in-Some.ensures.only job.id is.id (ap (get (codes "job")) e) in
    let two = c.in-Some-numbers_in.ensures.only job is e in
    let three = c.in-Some-flags_in.ensures job e in
    let four = c.in-Some-suffix_in.ensures.only (string_bytes job.suffix) is.suffix (ap (get (codes "suffix")) e) in
    let id : c.in-Some.id ≡ job.id = cc in
    let numbers : c.in-Some-numbers_in.numbers ≡ record { uid = job.uid; tasks = job.tasks; limit = job.limit } = cc in
    let flags : c.in-Some-flags_in.flags ≡ record { hold = job.hold; folders = job.folders; shared = job.shared } = cc in
    let told : c.in-Some-suffix_in.suffix.now ≡ string_bytes job.suffix = cc in
    let suffix : string_bytes c.in_ok-suffix.suffix ≡ string_bytes job.suffix = c.in_ok-suffix.ensures.ok ∙ told in
    λ i. object
    (member (codes "folders") (boolean (flags i).folders)
    (member (codes "hold") (boolean (flags i).hold)
    (member (codes "job") (string (job_text (id i)))
    (member (codes "limit") (limit_data (numbers i).limit)
    (member (codes "shared") (boolean (flags i).shared)
    (member (codes "suffix") (string (suffix i))
    (member (codes "tasks") (number (unsigned (numbers i).tasks))
    (member (codes "uid") (number (unsigned (numbers i).uid))
    (member (codes "version") (number (unsigned 2)) no_members)))))))))
