use Rattle.std.proofs.Common.{◌≡◌, codes, Some, ap, arith}
use Rattle.serde_json.specs.Find.{get}
use Rattle.mr_log_layout.proofs.job.numbers_in.Goals as goal

pub returns-in_err-uid-clause-only : goal.returns-in_err-uid-clause-only
returns-in_err-uid-clause-only c job is e =
    let small = is.uid in
    let read = c.in_err-uid.ensures.only job.uid (omega arith) (omega arith) (ap (get (codes "uid")) e) in
    absurd (cc)

pub returns-in_err-tasks-clause-only : goal.returns-in_err-tasks-clause-only
returns-in_err-tasks-clause-only c job is e =
    let read = c.in_err-tasks.ensures.only job.tasks is.some is.few (ap (get (codes "tasks")) e) in
    absurd (cc)

pub returns-in_err-limit-clause-only : goal.returns-in_err-limit-clause-only
returns-in_err-limit-clause-only c job is e =
    let read = c.in_err-limit.ensures.only job.limit is.limit (ap (get (codes "limit")) e) in
    absurd (cc)

pub returns-clause-only : goal.returns-clause-only
returns-clause-only c job is e =
    let small = is.uid in
    let one = c.in_ok-uid.ensures.only job.uid (omega arith) (omega arith) (ap (get (codes "uid")) e) in
    let two = c.in_ok-tasks.ensures.only job.tasks is.some is.few (ap (get (codes "tasks")) e) in
    let three = c.in_ok-limit.ensures.only job.limit is.limit (ap (get (codes "limit")) e) in
    let uid : c.in_ok-uid.uid ≡ job.uid = cc in
    let tasks : c.in_ok-tasks.tasks ≡ job.tasks = cc in
    let limit : c.in_ok-limit.limit ≡ job.limit = cc in
    λ i. Some (record { uid = uid i; tasks = tasks i; limit = limit i })
