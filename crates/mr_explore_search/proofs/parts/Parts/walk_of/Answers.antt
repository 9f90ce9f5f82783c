use Rattle.std.proofs.Common.{◌≡◌, length, slice_get, Some, refl, sym, ap, ◌∙◌}
use Rattle.std.specs.Option.{option_map}
use Rattle.std.proofs.lemmas.Option.{slice_get-map, slice_get_past, slice_get_read}
use Rattle.mr_explore_search.specs.Parting.{Parted}
use Rattle.mr_explore_search.specs.inner.Stack.{left_of}
use Rattle.mr_explore_search.proofs.parts.Parts.walk_of.Goals as goal

pub returns-in_ok-walk-in-Some-clause-is : goal.returns-in_ok-walk-in-Some-clause-is
returns-in_ok-walk-in-Some-clause-is g c =
    let look = c.in-Some.ensures.lookup in
    let left = left_of g.R.Run.steps c.self.inside.most in
    let level = c.in-Some.level.now in
    let there = slice_get_read c.deref.result.now (length c.deref.result.now) c.args.place level refl look.3.0 look.1 in
    let taken : slice_get c.self.inside.parts.items c.args.place ≡ Some level = ap (λ xs. slice_get xs c.args.place) (sym c.deref.ensures.value) ∙ there in
    ap (λ w. Some w) c.in_ok-walk-in-Some.ensures.is
    ∙ sym (ap (λ (p : Parted _). slice_get p.parts c.args.place) (sym c.self.view_is) ∙ (slice_get-map left c.self.inside.parts.items c.args.place ∙ ap (option_map left) taken))

pub returns-in-None-clause-is : goal.returns-in-None-clause-is
returns-in-None-clause-is g c =
    let look = c.in-None.ensures.lookup in
    let left = left_of g.R.Run.steps c.self.inside.most in
    let none = slice_get_past c.deref.result.now c.args.place look.3 in
    sym (ap (λ (p : Parted _). slice_get p.parts c.args.place) (sym c.self.view_is)
    ∙ (slice_get-map left c.self.inside.parts.items c.args.place ∙ ap (option_map left) (ap (λ xs. slice_get xs c.args.place) (sym c.deref.ensures.value) ∙ none)))
