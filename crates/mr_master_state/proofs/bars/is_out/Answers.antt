use Rattle.std.proofs.Common.{◌≡◌, Bool, true, false, ◌&&◌, not, Some, None, Option, if◌then◌else◌, refl, sym, ap, ◌∙◌}
use Rattle.mr_attempt.specs.Table as table
use Rattle.mr_attempt.specs.declared.state.AttemptState.{AttemptState}
use Rattle.mr_grant.specs.Attempts.{has}
use Rattle.mr_task.specs.Readings.{seen, state_of}
use Rattle.mr_master_state.proofs.Past_bars.{out-told}
use Rattle.mr_master_state.proofs.bars.is_out.Goals as goal

some-both : (b : Bool) (x y : AttemptState) → Some x ≡ (if b then Some y else None) → (b ≡ true) × (x ≡ y)
some-both true x y e = (refl, cc)
some-both false x y e = cc

not-there : (b : Bool) (y : AttemptState) → ◌≡◌ {A = Option AttemptState} None (if b then Some y else None) → b ≡ false
not-there true y e = cc
not-there false y e = refl

pub returns-in-Some : goal.returns-in-Some
returns-in-Some c = λ t k calls st.
    let a = c.args.attempt in
    let state = state_of t k calls a in
    let e = some-both (has (seen t k calls).arrived a) c.in-Some.state state (c.in-Some.ensures t k calls st) in
    ap (λ b. not b) (c.is_live.ensures ∙ ap table.is_live e.1) ∙ ap (λ b. b && not (table.is_live state)) (sym e.0) ∙ sym (out-told t k calls a)

pub returns-in-None : goal.returns-in-None
returns-in-None c = λ t k calls st.
    let a = c.args.attempt in
    let state = state_of t k calls a in
    ap (λ b. b && not (table.is_live state)) (sym (not-there (has (seen t k calls).arrived a) state (c.in-None.ensures t k calls st))) ∙ sym (out-told t k calls a)
