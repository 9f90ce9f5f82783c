use Rattle.std.proofs.Common.{sym, ◌∙◌, ap, [], ◌≡◌, true, if◌then◌else◌}
use Rattle.std.specs.List.{list_any}
use Rattle.mr_commit.specs.Tables.{setup_job}
use Rattle.mr_master_model.specs.Past.{SetsUp, Fails}
use Rattle.mr_master_model.specs.declared.store.StoreAnswer.{StoreAnswer}
use Rattle.mr_master_model.specs.declared.store.StoreAnswer.TheVariants as answer
use Rattle.mr_master_model.specs.Answered.{read_by, with_earlier, is_unsuccessful}
use Rattle.mr_master_state.specs.declared.change.Change.TheVariants as change
use Rattle.mr_master_state.proofs.Keeping.{held}
use Rattle.mr_master_state.proofs.Made.{plan-as}
use Rattle.mr_master_state.specs.mr_master_phase.proofs.Steps.{told-is, unread, read-is, read-seen, read-sends}
use Rattle.mr_master_calls.proofs.reading.ready_read.Goals as goal

pub returns : goal.returns
returns c =
    plan-as [] (change.HasRead c.in_ok-earlier.earlier c.in_ok-next.next) c.silent-2.ensures tt
    (λ w s keeps. read-sends w s c.args.answer (sym keeps.work ∙ read-is _ c.requires))
    (λ w s keeps. let k = held c.master.view_is keeps in
    let rs = c.in-Some.records in
    let e = sym keeps.work ∙ read-is _ c.requires in
    let a = told-is c.args.answer rs (sym c.in-Some.is ∙ c.records_in.ensures) in
    let next : c.in_ok-next.next ≡ read_by w (answer.Told rs) = c.in_ok-next.ensures ∙ (λ i. if list_any is_unsuccessful ((c.as_slice.ensures ∙ c.in_ok-read.ensures) i) then Fails true else SetsUp (setup_job (k.setting i).layout.dest (k.setting i).app)) in
    (λ i. record s { earlier = (c.in_ok-earlier.ensures ∙ c.in_ok-read.ensures) i; work = next i }) ∙ ap (λ (x : StoreAnswer). record (with_earlier s x) { work = read_by w x }) a ∙ read-seen w s c.args.answer e)

pub returns-in_default : goal.returns-in_default
returns-in_default c =
    plan-as [] (change.Becomes c.stopped.result) c.silent.ensures tt
    (λ w s keeps. read-sends w s c.args.answer (sym keeps.work ∙ read-is _ c.requires))
    (λ w s keeps.
    let e = sym keeps.work ∙ read-is _ c.requires in
    let u = unread w s c.args.answer (sym c.in_default.is ∙ c.records_in.ensures) in
    (λ i. record (u.0 i) { work = (c.stopped.ensures ∙ u.1) i }) ∙ read-seen w s c.args.answer e)
