use Rattle.std.proofs.Common.{◌∙◌, sym, ap₂, Some, ◌+◌, subst}
use Rattle.mr_history.proofs.Replays.{Reads, start, more, stops, takes, ends}
use Rattle.mr_history.proofs.Told.{told_short}
use Rattle.std.proofs.lemmas.Result.{err_from_is_err_and}
use Rattle.mr_history.proofs.reading.replay.Goals as goal

pub loop-line-init : goal.loop-line-init
loop-line-init c = subst (Reads c.split_head-version.result.0 c.split_head-version.result.1.now c.split_head-version.result.1.now) (sym c.new-records.ensures) (start c.split_head-version.result.0 c.split_head-version.result.1.now)

pub returns-in_default-record_of : goal.returns-in_default-record_of
returns-in_default-record_of c =
    let none = sym c.in_default-record_of.is ∙ c.record_of.ensures in
    stops c.split_head-version.result.0 c.args.bytes.now c.split_head-version.result.1.now c.loop-line.rest.now c.in-Some.line.now c.in-Some.after.now c.loop-line.records c.split_head-version.ensures.range c.split_head-version.ensures.version c.split_head-version.ensures.rest c.loop-line.invariant c.in-Some.ensures.some.0 c.in-Some.ensures.some.1 none
    ∙ ap₂ (λ n k. Some (n + k + 1)) (sym c.len.ensures) (sym c.lines_before-before.ensures)

pub loop-line-preserved : goal.loop-line-preserved
loop-line-preserved c =
    let is = sym c.in-Some-record_of.is ∙ c.record_of.ensures in
    subst (Reads c.split_head-version.result.0 c.split_head-version.result.1.now c.in-Some.after.now) (sym c.in_ok-push.ensures.ok)
    (more c.split_head-version.result.0 c.split_head-version.result.1.now c.loop-line.rest.now c.in-Some.line.now c.in-Some.after.now c.loop-line.records c.in-Some-record_of.record c.loop-line.invariant c.in-Some.ensures.some.0 c.in-Some.ensures.some.1 is)

pub returns : goal.returns
returns c = ends c.split_head-version.result.0 c.args.bytes.now c.split_head-version.result.1.now c.loop-line.rest.now c.loop-line.records c.split_head-version.ensures.range c.split_head-version.ensures.version c.split_head-version.ensures.rest c.loop-line.invariant c.in_default.ensures.none

pub returns-in_err-push : goal.returns-in_err-push
returns-in_err-push c =
    let p = err_from_is_err_and c.from_residual.result c.from_residual.ensures.1 in
    let is = sym c.in-Some-record_of.is ∙ c.record_of.ensures in
    let short = told_short c.split_head-version.result.0 c.in-Some.line.now c.in-Some-record_of.record (sym is) in
    let t = takes c.split_head-version.result.0 c.args.bytes.now c.split_head-version.result.1.now c.loop-line.rest.now c.in-Some.line.now c.in-Some.after.now c.loop-line.records c.split_head-version.ensures.range c.split_head-version.ensures.version c.split_head-version.ensures.rest c.loop-line.invariant c.in-Some.ensures.some.0 c.in-Some.ensures.some.1 short in
    rw (p.1, p.2) t
