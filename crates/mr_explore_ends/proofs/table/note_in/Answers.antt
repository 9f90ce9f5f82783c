use Rattle.std.proofs.Common.{◌≡◌, ◌<◌, Some, None, length, refl, sym, ap, ◌∙◌, arith}
use Rattle.mr_explore_ends.specs.Rows.{as_end}
use Rattle.mr_explore_ends.specs.Table.{Reached, met}
use Rattle.mr_explore_ends.specs.inner.Rows.{place_from}
use Rattle.mr_explore_ends.proofs.Noting.{is_within, met_at, on_err, on_ok, opened_behind, put_back}
use Rattle.mr_explore_ends.proofs.table.note_in.Goals as goal

pub index_mut-requires : goal.index_mut-requires
index_mut-requires c =
    let run : Reached = record { end = c.args.end; faults = c.args.faults; stalled = c.args.stalled; events = c.args.events.now } in
    let found = (λ i. place_from c.args.end 0 (sym c.deref.ensures.value i)) ∙ (sym c.place_of.ensures ∙ c.in-Some.is) in
    let within = is_within run c.args.rows.now.items c.in-Some.place found in
    let all = ap length (sym c.deref.ensures.value) ∙ c.deref.ensures.len in
    omega (arith, within, all)

pub returns-in-Some-clause-noted : goal.returns-in-Some-clause-noted
returns-in-Some-clause-noted c =
    let run : Reached = record { end = c.args.end; faults = c.args.faults; stalled = c.args.stalled; events = c.args.events.now } in
    let found = (λ i. place_from c.args.end 0 (sym c.deref.ensures.value i)) ∙ (sym c.place_of.ensures ∙ c.in-Some.is) in
    on_ok c.meet.result _ _ c.meet.ensures.met
    (λ h. met_at run c.args.rows.now.items _ c.in-Some.place c.meet.new.self c.index_mut.result.now found refl
    (h ∙ ap (λ r. met c.args.faults c.args.stalled c.args.events.now (as_end r)) c.index_mut.ensures.value))

pub returns-in-Some-clause-stays : goal.returns-in-Some-clause-stays
returns-in-Some-clause-stays c =
    on_err c.meet.result _ _ c.meet.ensures.stays
    (λ h. put_back c.args.rows.now.items c.in-Some.place c.meet.new.self c.index_mut.result.now c.index_mut.ensures.value h)

pub returns-in_ok-push-in-None-clause-noted : goal.returns-in_ok-push-in-None-clause-noted
returns-in_ok-push-in-None-clause-noted c =
    let run : Reached = record { end = c.args.end; faults = c.args.faults; stalled = c.args.stalled; events = c.args.events.now } in
    let none = (λ i. place_from c.args.end 0 (sym c.deref.ensures.value i)) ∙ (sym c.place_of.ensures ∙ c.in-None.is) in
    opened_behind run c.args.rows.now.items c.push.new.self.items c.in_ok-new-in-None.field-0 none c.in_ok-push-in-None.ensures.items c.in_ok-new-in-None.ensures
