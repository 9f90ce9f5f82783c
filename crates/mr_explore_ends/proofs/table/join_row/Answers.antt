use Rattle.std.proofs.Common.{◌≡◌, ◌<◌, false, [], Some, None, length, refl, sym, ap, ◌∙◌, arith}
use Rattle.mr_explore_ends.specs.Rows.{as_end}
use Rattle.mr_explore_ends.specs.Table.{Reached}
use Rattle.mr_explore_ends.specs.inner.Joined.{joined}
use Rattle.mr_explore_ends.specs.inner.Rows.{place_from}
use Rattle.mr_explore_ends.proofs.Joining.{joins_at, joins_behind}
use Rattle.mr_explore_ends.proofs.Noting.{is_within}
use Rattle.mr_explore_ends.proofs.table.join_row.Goals as goal

pub index_mut-requires : goal.index_mut-requires
index_mut-requires c =
    let run : Reached = record { end = c.args.row.end; faults = 0; stalled = false; events = [] } in
    let found = (λ i. place_from c.args.row.end 0 (sym c.deref.ensures.value i)) ∙ (sym c.place_of.ensures ∙ c.in-Some.is) in
    let within = is_within run c.args.rows.now.items c.in-Some.place found in
    let all = ap length (sym c.deref.ensures.value) ∙ c.deref.ensures.len in
    omega (arith, within, all)

pub returns-in-Some : goal.returns-in-Some
returns-in-Some c =
    let found = (λ i. place_from c.args.row.end 0 (sym c.deref.ensures.value i)) ∙ (sym c.place_of.ensures ∙ c.in-Some.is) in
    joins_at (as_end c.args.row) c.args.rows.now.items _ c.in-Some.place c.join.new.self c.index_mut.result.now found refl
    (c.join.ensures ∙ ap (λ r. joined (as_end r) (as_end c.args.row)) c.index_mut.ensures.value)

pub returns-in_ok-push-in-None : goal.returns-in_ok-push-in-None
returns-in_ok-push-in-None c =
    let none = (λ i. place_from c.args.row.end 0 (sym c.deref.ensures.value i)) ∙ (sym c.place_of.ensures ∙ c.in-None.is) in
    joins_behind c.args.rows.now.items c.push.new.self.items c.args.row none c.in_ok-push-in-None.ensures.items
