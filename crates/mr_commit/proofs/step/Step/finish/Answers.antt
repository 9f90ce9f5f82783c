use Rattle.std.proofs.Common.{◌≡◌, sym, ◌∙◌, true, false, refl, true≢false}
use Rattle.std.proofs.lemmas.Result.{err_from_is_err_and}
use denote.Enum.Bare.{sameb}
use Rattle.mr_commit.specs.contracts.fault.StepDone.{the_type}
use Rattle.mr_commit.specs.declared.fault.StepDone.{StepDone}
use Rattle.mr_commit.specs.declared.fault.StepDone.TheVariants as done
use Rattle.mr_commit.proofs.Wholes.{going_first, going_further, fewer_left, effect_last, effect_by, made_by}
use Rattle.mr_commit.proofs.step.Step.finish.Goals as goal

is_more : (d : StepDone) → sameb the_type d done.More ≡ true → d ≡ done.More
is_more done.More e = refl
is_more done.Finished e = absurd (true≢false (sym e))

is_finished : (d : StepDone) → sameb the_type d done.More ≡ false → d ≡ done.Finished
is_finished done.More e = absurd (true≢false e)
is_finished done.Finished e = refl

pub calls-init : goal.calls-init
calls-init c = going_first c.args.self.now c.args.names.now c.args.caller c.requires.settles

pub returns-in_err-next-clause-effect : goal.returns-in_err-next-clause-effect
returns-in_err-next-clause-effect c =
    let p = err_from_is_err_and c.from_residual.result c.from_residual.ensures.1 in
    rw (p.1, p.2) (effect_by c.args.self.now c.calls.self c.next.new.self c.args.names.now c.calls.names c.next.new.names c.args.caller _ c.calls.invariant (c.in_err-next.ensures))

pub returns-in_err-next-clause-made : goal.returns-in_err-next-clause-made
returns-in_err-next-clause-made c =
    let p = err_from_is_err_and c.from_residual.result c.from_residual.ensures.1 in
    rw (p.1, p.2) (made_by c.args.self.now c.calls.self c.next.new.self c.args.names.now c.calls.names c.next.new.names c.args.caller _ c.calls.invariant (c.in_err-next.ensures))

pub calls-smaller : goal.calls-smaller
calls-smaller c =
    let more = is_more c.in_ok-next.field-0 (sym c.eq.ensures ∙ c.if-eq.true) in
    let step = rw more at (c.in_ok-next.ensures) in
    fewer_left c.args.self.now c.calls.self c.next.new.self c.args.names.now c.calls.names c.next.new.names c.args.caller c.calls.invariant step

pub calls-preserved : goal.calls-preserved
calls-preserved c =
    let more = is_more c.in_ok-next.field-0 (sym c.eq.ensures ∙ c.if-eq.true) in
    let step = rw more at (c.in_ok-next.ensures) in
    going_further c.args.self.now c.calls.self c.next.new.self c.args.names.now c.calls.names c.next.new.names c.args.caller c.calls.invariant step

pub returns-clause-effect : goal.returns-clause-effect
returns-clause-effect c =
    let last = is_finished c.in_ok-next.field-0 (sym c.eq.ensures ∙ c.if-eq.false) in
    let step = rw last at (c.in_ok-next.ensures) in
    effect_last c.args.self.now c.calls.self c.next.new.self c.args.names.now c.calls.names c.next.new.names c.args.caller c.calls.invariant step

pub returns-clause-made : goal.returns-clause-made
returns-clause-made c =
    let last = is_finished c.in_ok-next.field-0 (sym c.eq.ensures ∙ c.if-eq.false) in
    let step = rw last at (c.in_ok-next.ensures) in
    (c.calls.self, c.calls.names, c.calls.invariant.reached, (c.next.new.self, step))
