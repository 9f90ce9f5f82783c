use Rattle.std.proofs.Common.{◌≡◌, ◌<◌, Some, None, length, refl, sym, ap, ◌∙◌, arith, rules}
use Rattle.mr_out_check.specs.Seen.{as_noted, counted}
use Rattle.mr_out_check.specs.inner.Notes.{place_from}
use Rattle.mr_out_check.proofs.Noting.{is_within, counted_at, opened_behind}
use Rattle.mr_out_check.proofs.seen.take_note.Goals as goal

pub index_mut-requires : goal.index_mut-requires
index_mut-requires c =
    let found = ap (place_from c.args.class 0) (sym c.deref.ensures.value) ∙ (sym c.place_of.ensures ∙ c.in-Some.is) in
    let within = is_within c.args.class c.args.notes.now.items c.in-Some.place found in
    let all = ap length (sym c.deref.ensures.value) ∙ c.deref.ensures.len in
    omega (arith, within, all)

pub returns-in-Some : goal.returns-in-Some
returns-in-Some c =
    let found = ap (place_from c.args.class 0) (sym c.deref.ensures.value) ∙ (sym c.place_of.ensures ∙ c.in-Some.is) in
    counted_at c.args.class c.args.name.now c.args.notes.now.items _ c.in-Some.place c.count_one.new.self c.index_mut.result.now found refl
    (c.count_one.ensures ∙ ap (λ n. counted (as_noted n)) c.index_mut.ensures.value)

pub returns-in_ok-push-in-None : goal.returns-in_ok-push-in-None
returns-in_ok-push-in-None c =
    let none = ap (place_from c.args.class 0) (sym c.deref.ensures.value) ∙ (sym c.place_of.ensures ∙ c.in-None.is) in
    opened_behind c.args.class c.args.name.now c.args.notes.now.items c.push.new.self.items _ none c.in_ok-push-in-None.ensures.items (search rules)
