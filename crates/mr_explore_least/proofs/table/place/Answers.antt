use Rattle.std.proofs.Common.{map, length, sym, ap, ◌∙◌, arith}
use Rattle.std.specs.Prelude.{if◌then◌else◌}
use Rattle.std.specs.List.{insert}
use Rattle.mr_explore_least.specs.Rows.{as_arrival}
use Rattle.mr_explore_least.specs.inner.Places.{behind_from}
use Rattle.mr_explore_least.proofs.Places.{is_place, put_there}
use Rattle.mr_explore_least.proofs.table.place.Goals as goal

pub insert-requires : goal.insert-requires
insert-requires c =
    let there = c.place_behind-place.ensures ∙ (λ i. behind_from (as_arrival c.args.row) 0 (map as_arrival (c.deref.ensures.value i))) in
    let within = is_place (as_arrival c.args.row) c.args.rows.now.items c.place_behind-place.result there in
    let all = ap length (sym c.deref.ensures.value) ∙ c.deref.ensures.len in
    omega (arith, within, all)

pub returns : goal.returns
returns c =
    let there = c.place_behind-place.ensures ∙ (λ i. behind_from (as_arrival c.args.row) 0 (map as_arrival (c.deref.ensures.value i))) in
    put_there c.args.row c.args.rows.now.items c.insert.new.self.items c.place_behind-place.result there
    (c.insert.ensures.items ∙ ap (λ b. if b then insert c.args.rows.now.items c.place_behind-place.result c.args.row else c.args.rows.now.items) (c.insert.ensures.succeeds c.requires))
