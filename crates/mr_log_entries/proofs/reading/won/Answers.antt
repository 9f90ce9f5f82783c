use Rattle.std.proofs.Common.{◌≡◌, ◌≢◌, Some, sym, ap₂, ◌∙◌, subst, arith}
use Rattle.std.proofs.lemmas.List.Elements.{recursion_from_All}
use Rattle.mr_history.proofs.Cuts.{Lacks, no_cut, same_cut}
use Rattle.mr_log_entries.specs.declared.line.Line.TheVariants.{Won}
use Rattle.mr_log_entries.specs.Texts.{attempt_name, handed_text}
use Rattle.mr_log_entries.proofs.Lacking.{name_lacks, blank}
use Rattle.mr_log_entries.proofs.reading.won.Goals as goal

pub returns-in_err-name-clause-only : goal.returns-in_err-name-clause-only
returns-in_err-name-clause-only c a h of fits e =
    let lacks = recursion_from_All (λ b. b ≢ 32) c.args.rest.now c.in_err-name.ensures.none in
    absurd (no_cut 32 (attempt_name a) (handed_text h) (subst (Lacks 32) e lacks))

pub returns-in_err-attempt-clause-only : goal.returns-in_err-attempt-clause-only
returns-in_err-attempt-clause-only c a h of fits e =
    let cut = c.in_ok-name.ensures.some in
    let p = same_cut 32 c.in_ok-name.name.now (attempt_name a) c.in_ok-name.rest.now (handed_text h) (recursion_from_All (λ b. b ≢ 32) c.in_ok-name.name.now cut.0) (name_lacks 32 a blank (λ i. omega (arith, i))) (sym cut.1 ∙ e) in
    let read = c.in_err-attempt.ensures.only a of p.0 in
    absurd (cc)

pub returns-in_err-handed-clause-only : goal.returns-in_err-handed-clause-only
returns-in_err-handed-clause-only c a h of fits e =
    let cut = c.in_ok-name.ensures.some in
    let p = same_cut 32 c.in_ok-name.name.now (attempt_name a) c.in_ok-name.rest.now (handed_text h) (recursion_from_All (λ b. b ≢ 32) c.in_ok-name.name.now cut.0) (name_lacks 32 a blank (λ i. omega (arith, i))) (sym cut.1 ∙ e) in
    let read = c.in_err-handed.ensures.only h fits p.1 in
    absurd (cc)

pub returns-clause-only : goal.returns-clause-only
returns-clause-only c a h of fits e =
    let cut = c.in_ok-name.ensures.some in
    let p = same_cut 32 c.in_ok-name.name.now (attempt_name a) c.in_ok-name.rest.now (handed_text h) (recursion_from_All (λ b. b ≢ 32) c.in_ok-name.name.now cut.0) (name_lacks 32 a blank (λ i. omega (arith, i))) (sym cut.1 ∙ e) in
    let one = c.in_ok-attempt.ensures.only a of p.0 in
    let two = c.in_ok-handed.ensures.only h fits p.1 in
    let same : c.in_ok-attempt.attempt ≡ a = cc in
    let handed : c.in_ok-handed.handed ≡ h = cc in
    ap₂ (λ x y. Some (Won x y)) same handed
