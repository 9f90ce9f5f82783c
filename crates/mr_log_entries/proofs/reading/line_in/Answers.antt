use Rattle.std.proofs.Common.{Some, sym, ap, ◌∙◌}
use Rattle.mr_log_entries.proofs.Words.{only_started, only_won, only_failed, only_interrupted, only_decided, unsuccessful, publish, published}
use Rattle.mr_log_entries.proofs.reading.line_in.Goals as goal

pub returns-in-Some-clause-only : goal.returns-in-Some-clause-only
returns-in-Some-clause-only c line of e =
    let o = only_started c.args.job.now c.in-Some.rest.now line of (sym c.in-Some.ensures ∙ e) in
    c.started.ensures.only o.attempt o.of o.text ∙ ap Some (sym o.is)

pub returns-in-Some-after-clause-only : goal.returns-in-Some-after-clause-only
returns-in-Some-after-clause-only c line of e =
    let o = only_won c.args.job.now c.in-Some-after.rest.now line of (sym c.in-Some-after.ensures ∙ e) in
    c.won.ensures.only o.attempt o.handed o.of o.fits o.text ∙ ap Some (sym o.is)

pub returns-in-Some-after-2-clause-only : goal.returns-in-Some-after-2-clause-only
returns-in-Some-after-2-clause-only c line of e =
    let o = only_failed c.args.job.now c.in-Some-after-2.rest.now line of (sym c.in-Some-after-2.ensures ∙ e) in
    c.failed.ensures.only o.attempt o.of o.text ∙ ap Some (sym o.is)

pub returns-in-Some-after-3-clause-only : goal.returns-in-Some-after-3-clause-only
returns-in-Some-after-3-clause-only c line of e =
    let o = only_interrupted c.args.job.now c.in-Some-after-3.rest.now line of (sym c.in-Some-after-3.ensures ∙ e) in
    c.interrupted.ensures.only o.attempt o.of o.text ∙ ap Some (sym o.is)

pub returns-in_default-after-3-clause-only : goal.returns-in_default-after-3-clause-only
returns-in_default-after-3-clause-only c line of e = elim (only_decided c.args.text.now line c.in_default.ensures c.in_default-after.ensures c.in_default-after-2.ensures c.in_default-after-3.ensures e) [
  | unsuccessful is text ↦ c.decided.ensures.unsuccessful text ∙ ap Some (sym is)
  | publish is text ↦ c.decided.ensures.publish text ∙ ap Some (sym is)
  | published is text ↦ c.decided.ensures.published text ∙ ap Some (sym is)
]
