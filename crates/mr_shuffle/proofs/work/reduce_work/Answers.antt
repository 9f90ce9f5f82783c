use Rattle.std.proofs.Common.{◌∙◌, Ok, ap, sym}
use Rattle.std.proofs.lemmas.Result.{IfOk-weaker}
use Rattle.mr_user.specs.Computation.{computation}
use Rattle.mr_user.specs.Sequential.{text_of}
use Rattle.mr_mapside.specs.declared.fault.WorkFault.TheVariants as work
use Rattle.mr_shuffle.specs.Part.{pairs_of_all}
use Rattle.mr_shuffle.specs.Work.{bytes_of, ArePiecesOf}
use Rattle.mr_shuffle.proofs.AllPieces.{ok_always, err_weaker, full_fault, handed_on, work_fault}
use Rattle.mr_shuffle.proofs.Opening.{part_from_groups}
use Rattle.mr_shuffle.proofs.work.reduce_work.Goals as goal

pub returns-in-Ok-clause-in_place : goal.returns-in-Ok-clause-in_place
returns-in-Ok-clause-in_place g c = let right : ArePiecesOf c.args.reduce c.args.parts.now = c.are_pieces_of.ensures.0 c.if-not-are_pieces_of.false in ok_always c.merged_text.result _ right

pub returns-in-Ok-clause-text : goal.returns-in-Ok-clause-text
returns-in-Ok-clause-text g c =
    let all = computation g.J.Key.Ord.cmp g.J.Key.Wire.codec g.J.Value.Wire.codec g.J.Job.functions in
    let whole = part_from_groups all (pairs_of_all all (bytes_of c.args.parts.now)) c.in-Ok.groups c.in-Ok.ensures.groups in
    IfOk-weaker c.merged_text.result _ _ (λ text h. whole ∙ ap Ok (sym h)) c.merged_text.ensures.text

pub returns-in-Ok-clause-fault : goal.returns-in-Ok-clause-fault
returns-in-Ok-clause-fault g c =
    let all = computation g.J.Key.Ord.cmp g.J.Key.Wire.codec g.J.Value.Wire.codec g.J.Job.functions in
    let whole = part_from_groups all (pairs_of_all all (bytes_of c.args.parts.now)) c.in-Ok.groups c.in-Ok.ensures.groups in
    let right : ArePiecesOf c.args.reduce c.args.parts.now = c.are_pieces_of.ensures.0 c.if-not-are_pieces_of.false in
    err_weaker c.merged_text.result _ _ (λ fault h. full_fault _ (ArePiecesOf c.args.reduce c.args.parts.now) _ _ fault right whole h) c.merged_text.ensures.fault

pub returns-in_err-enter-clause-fault : goal.returns-in_err-enter-clause-fault
returns-in_err-enter-clause-fault g c = handed_on c.from_residual.result (work.Gate c.in_err-enter.field-0.0) _ c.from_residual.ensures.1 c.in_err-enter.ensures

pub returns-in-Err-clause-fault : goal.returns-in-Err-clause-fault
returns-in-Err-clause-fault g c =
    let all = computation g.J.Key.Ord.cmp g.J.Key.Wire.codec g.J.Value.Wire.codec g.J.Job.functions in
    let right : ArePiecesOf c.args.reduce c.args.parts.now = c.are_pieces_of.ensures.0 c.if-not-are_pieces_of.false in
    work_fault _ (ArePiecesOf c.args.reduce c.args.parts.now) (text_of all) (pairs_of_all all (bytes_of c.args.parts.now)) _ c.in-Err.fault c.in_work.result c.in_work.ensures right c.in-Err.ensures.fault
