use Rattle.std.proofs.Common.{ap, sym, ◌∙◌}
use Rattle.std.proofs.lemmas.Result.{err_from_is_err_and}
use Rattle.mr_commit.specs.Line.{sought, measured}
use Rattle.mr_commit.proofs.Rules.{follows, plain_told, needs_told, needs_missing, merge_told, merge_wants, each_told, tasks_told, each_wants, tasks_wants, told_by, why_by, length_why}
use Rattle.mr_commit.proofs.line.Rule.lines_after.Goals as goal

pub returns-in-Plain-clause-lines : goal.returns-in-Plain-clause-lines
returns-in-Plain-clause-lines c = plain_told c.args.self.now c.args.answer.now c.new-in-Plain.result c.in-Plain.is c.new-in-Plain.ensures

pub returns-in-Some-clause-lines : goal.returns-in-Some-clause-lines
returns-in-Some-clause-lines c = needs_told c.args.self.now c.args.answer.now c.found.result _ c.new.result c.in-Needed.is c.found.ensures c.in-Some.is c.new.ensures

pub returns-in-None-clause-fault : goal.returns-in-None-clause-fault
returns-in-None-clause-fault c = needs_missing c.args.self.now c.args.answer.now c.found.result c.in-Needed.is c.found.ensures c.in-None.is

pub returns-in_ok-merging-in-Merge-clause-lines : goal.returns-in_ok-merging-in-Merge-clause-lines
returns-in_ok-merging-in-Merge-clause-lines c = merge_told c.args.self.now _ _ _ c.args.answer.now _ _ c.in-Merge.is c.found-in-Merge.ensures c.in_ok-merging-in-Merge.ensures

pub returns-in_err-merging-in-Merge-clause-fault : goal.returns-in_err-merging-in-Merge-clause-fault
returns-in_err-merging-in-Merge-clause-fault c =
    let p = err_from_is_err_and c.from_residual.result c.from_residual.ensures.1 in
    rw (p.1, p.2) (merge_wants c.args.self.now _ _ _ c.args.answer.now c.in-Merge.is)

pub returns-in_ok-merging_children-in-MergeEach-clause-lines : goal.returns-in_ok-merging_children-in-MergeEach-clause-lines
returns-in_ok-merging_children-in-MergeEach-clause-lines c = each_told c.args.self.now _ _ c.args.answer.now _ _ c.in-MergeEach.is c.listed.ensures c.in_ok-merging_children-in-MergeEach.ensures.lines

pub returns-in_err-merging_children-in-MergeEach-clause-fault : goal.returns-in_err-merging_children-in-MergeEach-clause-fault
returns-in_err-merging_children-in-MergeEach-clause-fault c =
    let p = err_from_is_err_and c.from_residual-in_err-merging_children-in-MergeEach.result c.from_residual-in_err-merging_children-in-MergeEach.ensures.1 in
    rw (p.1, p.2) (each_wants c.args.self.now _ _ c.args.answer.now _ c.in-MergeEach.is c.listed.ensures c.in_err-merging_children-in-MergeEach.ensures.memory)

pub returns-in_ok-merging_tasks-in-MergeTasks-clause-lines : goal.returns-in_ok-merging_tasks-in-MergeTasks-clause-lines
returns-in_ok-merging_tasks-in-MergeTasks-clause-lines c = tasks_told c.args.self.now _ _ c.args.answer.now _ _ c.in-MergeTasks.is c.listed-in-MergeTasks.ensures c.in_ok-merging_tasks-in-MergeTasks.ensures.lines

pub returns-in_err-merging_tasks-in-MergeTasks-clause-fault : goal.returns-in_err-merging_tasks-in-MergeTasks-clause-fault
returns-in_err-merging_tasks-in-MergeTasks-clause-fault c =
    let p = err_from_is_err_and c.from_residual-in_err-merging_tasks-in-MergeTasks.result c.from_residual-in_err-merging_tasks-in-MergeTasks.ensures.1 in
    rw (p.1, p.2) (tasks_wants c.args.self.now _ _ c.args.answer.now _ c.in-MergeTasks.is c.listed-in-MergeTasks.ensures c.in_err-merging_tasks-in-MergeTasks.ensures.memory)

pub returns-in-Seek-clause-lines : goal.returns-in-Seek-clause-lines
returns-in-Seek-clause-lines c =
    let s = c.in-Seek in
    told_by c.args.self.now c.args.answer.now (sought s.layout.dest s.task s.bytes s.k s.j c.found-in-Seek.result) c.sought.result (λ call. ap (λ r. follows r c.args.answer.now call) s.is ∙ ap (sought s.layout.dest s.task s.bytes s.k s.j) (sym c.found-in-Seek.ensures)) c.sought.ensures.lines

pub returns-in-Seek-clause-fault : goal.returns-in-Seek-clause-fault
returns-in-Seek-clause-fault c =
    let s = c.in-Seek in
    why_by c.args.self.now c.args.answer.now (sought s.layout.dest s.task s.bytes s.k s.j c.found-in-Seek.result) c.sought.result (λ call. ap (λ r. follows r c.args.answer.now call) s.is ∙ ap (sought s.layout.dest s.task s.bytes s.k s.j) (sym c.found-in-Seek.ensures)) c.sought.ensures.fault

pub returns-in-Measure-clause-lines : goal.returns-in-Measure-clause-lines
returns-in-Measure-clause-lines c =
    told_by c.args.self.now c.args.answer.now (measured c.in-Measure.bytes c.bytes_read.result.now) c.measured.result (λ call. ap (λ r. follows r c.args.answer.now call) c.in-Measure.is ∙ ap (measured c.in-Measure.bytes) (sym c.bytes_read.ensures)) c.measured.ensures.lines

pub returns-in-Measure-clause-fault : goal.returns-in-Measure-clause-fault
returns-in-Measure-clause-fault c =
    length_why c.args.self.now c.args.answer.now (measured c.in-Measure.bytes c.bytes_read.result.now) c.measured.result (λ call. ap (λ r. follows r c.args.answer.now call) c.in-Measure.is ∙ ap (measured c.in-Measure.bytes) (sym c.bytes_read.ensures)) c.measured.ensures.fault
