use Rattle.std.proofs.Common.{◌≡◌, ◌∙◌, ℕ, List, Ok, ap, sym, subst}
use Rattle.std.specs.Prelude.{⊤}
use Rattle.std.proofs.lemmas.Result.{IfOk-weaker}
use Rattle.mr_user.specs.Computation.{computation}
use Rattle.mr_user.specs.Groups.{groups_of}
use Rattle.mr_user.specs.Sequential.{text_of}
use Rattle.mr_mapside.specs.declared.fault.WorkFault.TheVariants as work
use Rattle.mr_shuffle.specs.Part.{result_map, pairs_of_all}
use Rattle.mr_shuffle.specs.inner.Fault.{ReadFaultIs}
use Rattle.mr_shuffle.proofs.AllPieces.{err_weaker, full_fault, handed_on, work_fault}
use Rattle.mr_shuffle.proofs.Opening.{part_from_groups}
use Rattle.mr_shuffle.proofs.work.reduce_bytes.Goals as goal

pub returns-in-Ok-clause-text : goal.returns-in-Ok-clause-text
returns-in-Ok-clause-text g c =
    let all = computation g.J.Key.Ord.cmp g.J.Key.Wire.codec g.J.Value.Wire.codec g.J.Job.functions in
    let groups : result_map (groups_of all.cmp) (pairs_of_all all c.args.pieces.now) ≡ Ok c.in-Ok.groups = subst (λ (pieces : List (List ℕ)). result_map (groups_of all.cmp) (pairs_of_all all pieces) ≡ Ok c.in-Ok.groups) c.in_ok-lent.ensures c.in-Ok.ensures.groups in
    let whole = part_from_groups all (pairs_of_all all c.args.pieces.now) c.in-Ok.groups groups in
    IfOk-weaker c.merged_text.result _ _ (λ text h. whole ∙ ap Ok (sym h)) c.merged_text.ensures.text

pub returns-in-Ok-clause-fault : goal.returns-in-Ok-clause-fault
returns-in-Ok-clause-fault g c =
    let all = computation g.J.Key.Ord.cmp g.J.Key.Wire.codec g.J.Value.Wire.codec g.J.Job.functions in
    let groups : result_map (groups_of all.cmp) (pairs_of_all all c.args.pieces.now) ≡ Ok c.in-Ok.groups = subst (λ (pieces : List (List ℕ)). result_map (groups_of all.cmp) (pairs_of_all all pieces) ≡ Ok c.in-Ok.groups) c.in_ok-lent.ensures c.in-Ok.ensures.groups in
    let whole = part_from_groups all (pairs_of_all all c.args.pieces.now) c.in-Ok.groups groups in
    err_weaker c.merged_text.result _ _ (λ fault h. full_fault _ ⊤ _ _ fault tt whole h) c.merged_text.ensures.fault

pub returns-in_err-enter-clause-fault : goal.returns-in_err-enter-clause-fault
returns-in_err-enter-clause-fault g c = handed_on c.from_residual.result (work.Gate c.in_err-enter.field-0.0) _ c.from_residual.ensures.1 c.in_err-enter.ensures

pub returns-in-Err-clause-fault : goal.returns-in-Err-clause-fault
returns-in-Err-clause-fault g c =
    let all = computation g.J.Key.Ord.cmp g.J.Key.Wire.codec g.J.Value.Wire.codec g.J.Job.functions in
    let read : ReadFaultIs c.in-Err.fault (pairs_of_all all c.args.pieces.now) = subst (λ (pieces : List (List ℕ)). ReadFaultIs c.in-Err.fault (pairs_of_all all pieces)) c.in_ok-lent.ensures c.in-Err.ensures.fault in
    work_fault _ ⊤ (text_of all) (pairs_of_all all c.args.pieces.now) _ c.in-Err.fault c.in_work.result c.in_work.ensures tt read
