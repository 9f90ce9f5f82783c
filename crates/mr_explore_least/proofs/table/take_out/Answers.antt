use Rattle.std.proofs.Common.{map, length, sym, ap, ◌∙◌, arith}
use Rattle.mr_explore_least.specs.Rows.{as_arrival}
use Rattle.mr_explore_least.specs.inner.Places.{place_from}
use Rattle.mr_explore_least.proofs.Places.{is_within, none_out, taken_out}
use Rattle.mr_explore_least.proofs.table.take_out.Goals as goal

pub remove-requires : goal.remove-requires
remove-requires c =
    let found = (λ i. place_from c.args.end.now 0 (map as_arrival (sym c.deref.ensures.value i))) ∙ (sym c.place_of.ensures ∙ c.in-Some.is) in
    let within = is_within c.args.end.now c.args.rows.now.items c.in-Some.place found in
    let all = ap length (sym c.deref.ensures.value) ∙ c.deref.ensures.len in
    omega (arith, within, all)

pub returns-in-Some-clause-rows : goal.returns-in-Some-clause-rows
returns-in-Some-clause-rows c =
    let found = (λ i. place_from c.args.end.now 0 (map as_arrival (sym c.deref.ensures.value i))) ∙ (sym c.place_of.ensures ∙ c.in-Some.is) in
    taken_out c.args.end.now c.args.rows.now.items c.remove.new.self.items c.in-Some.place found c.remove.ensures.items

pub returns-in_default-clause-rows : goal.returns-in_default-clause-rows
returns-in_default-clause-rows c =
    none_out c.args.end.now c.args.rows.now.items ((λ i. place_from c.args.end.now 0 (map as_arrival (sym c.deref.ensures.value i))) ∙ sym c.in_default.ensures)
