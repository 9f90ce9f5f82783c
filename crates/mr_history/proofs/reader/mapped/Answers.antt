use Rattle.std.proofs.Common.{◌≡◌, ◌++◌, ◌∷◌, codes, decimal, Some, sym, subst, ap, ap₂, ◌∙◌, refl, rules}
use Rattle.std.specs.Prelude.{◌≢◌}
use Rattle.std.proofs.lemmas.List.Elements.{recursion_from_All}
use Rattle.mr_history.specs.declared.record.Record.TheVariants.{MapSucceeded}
use Rattle.mr_history.proofs.Cuts.{Lacks, no_cut, same_cut, decimal_lacks_comma}
use Rattle.mr_history.proofs.Endings.{only_mapped}
use Rattle.mr_history.proofs.reader.mapped.Goals as goal

pub returns-in_default-clause-only : goal.returns-in_default-clause-only
returns-in_default-clause-only c r h e =
    let o = only_mapped c.args.attempt c.args.text.now r h e in
    let lacks = recursion_from_All (λ b. b ≢ 44) c.args.text.now c.in_default.ensures.none in
    absurd (no_cut 44 (decimal o.incarnation) _ (subst (Lacks 44) o.text_is lacks))

pub returns-in_default-number-clause-only : goal.returns-in_default-number-clause-only
returns-in_default-number-clause-only c r h e =
    let o = only_mapped c.args.attempt c.args.text.now r h e in
    let cut = c.in-Some.ensures.some in
    let p = same_cut 44 c.in-Some.first.now (decimal o.incarnation) c.in-Some.rest.now _ (recursion_from_All (λ b. b ≢ 44) c.in-Some.first.now cut.0) (decimal_lacks_comma o.incarnation o.few) (sym cut.1 ∙ o.text_is) in
    let read = c.in_default-number.ensures.only o.incarnation o.few p.0 in
    absurd (cc)

pub returns-in_default-node_in-clause-only : goal.returns-in_default-node_in-clause-only
returns-in_default-node_in-clause-only c r h e =
    let o = only_mapped c.args.attempt c.args.text.now r h e in
    let cut = c.in-Some.ensures.some in
    let p = same_cut 44 c.in-Some.first.now (decimal o.incarnation) c.in-Some.rest.now _ (recursion_from_All (λ b. b ≢ 44) c.in-Some.first.now cut.0) (decimal_lacks_comma o.incarnation o.few) (sym cut.1 ∙ o.text_is) in
    let read = c.in_default-node_in.ensures.only o.node o.small p.1 in
    absurd (cc)

pub returns-clause-found : goal.returns-clause-found
returns-clause-found c =
    let cut = c.in-Some.ensures.some in (
      (search rules, c.in-Some-node_in.ensures.found.0, c.in-Some-number.ensures.found.0),
      (refl, ap (λ l. codes ",\"event\":\"map\",\"incarnation\":" ++ l) (cut.1 ∙ ap₂ (λ l m. l ++ 44 ∷ m) c.in-Some-number.ensures.found.1 c.in-Some-node_in.ensures.found.1)),
    )

pub returns-clause-only : goal.returns-clause-only
returns-clause-only c r h e =
    let o = only_mapped c.args.attempt c.args.text.now r h e in
    let cut = c.in-Some.ensures.some in
    let p = same_cut 44 c.in-Some.first.now (decimal o.incarnation) c.in-Some.rest.now _ (recursion_from_All (λ b. b ≢ 44) c.in-Some.first.now cut.0) (decimal_lacks_comma o.incarnation o.few) (sym cut.1 ∙ o.text_is) in
    let one = c.in-Some-number.ensures.only o.incarnation o.few p.0 in
    let two = c.in-Some-node_in.ensures.only o.node o.small p.1 in
    let same : c.in-Some-number.incarnation ≡ o.incarnation = cc in
    let node : c.in-Some-node_in.node ≡ o.node = cc in
    ap₂ (λ n i. Some (MapSucceeded c.args.attempt n i)) node same ∙ ap Some (sym o.is)
