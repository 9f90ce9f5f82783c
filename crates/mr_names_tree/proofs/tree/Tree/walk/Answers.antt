use Rattle.std.proofs.Common.{◌≡◌, ◌∙◌, ◌++◌, ℕ, refl, length, arith, List, [], Some, is_some, true≢false, ap, sym, subst, map, reverse}
use Rattle.std.specs.List.Sorted.{IsStrictlySortedBy}
use Rattle.std.specs.Cmp.Lexicographic.{slice_cmp}
use Rattle.std.specs.Ordering.{nat_cmp}
use Rattle.std.specs.Option.{option_copied, option_map}
use Rattle.slab.specs.Slab.{get}
use Rattle.mr_names_tree.specs.declared.place.Place.{Place}
use Rattle.mr_names_tree.specs.declared.walk.Found.{Found}
use Rattle.mr_names_tree.specs.inner.Tree.{links_by, ahead_of}
use Rattle.mr_names_tree.specs.Walk.{walk}
use Rattle.mr_names_tree.proofs.Visiting.{Visits, visits_first, visits_on, visits_live, visits_done}
use Rattle.mr_names_tree.proofs.tree.Tree.walk.Goals as goal

pub loop-next-init : goal.loop-next-init
loop-next-init c =
    subst (λ f. Visits c.self.inside.nodes c.self.inside.root c.self.inside.held.0 c.self.inside.held.1 f c.in_ok-ahead.ahead.items) (sym c.new-found.ensures)
    (subst (Visits c.self.inside.nodes c.self.inside.root c.self.inside.held.0 c.self.inside.held.1 []) (sym c.in_ok-ahead.ensures.items)
    (visits_first c.self.inside.nodes c.self.inside.root c.self.inside.held.0 c.self.inside.held.1 _ c.root.ensures refl))

pub unreachable-requires : goal.unreachable-requires
unreachable-requires c =
    absurd (true≢false (sym (visits_live c.self.inside.nodes c.self.inside.root c.self.inside.held.0 c.self.inside.held.1 c.loop-next.found c.loop-next.ahead.items c.pop.new.self.items c.in-Some.next c.loop-next.invariant c.in-Some.ensures.items)
    ∙ ap (λ o. is_some (option_map (λ (p : Place). p.node) o)) (sym c.get.ensures ∙ ap option_copied c.in_default-get.is)))

pub loop-next-smaller : goal.loop-next-smaller
loop-next-smaller c =
    let there : Some c.in-Some-get.place.now ≡ get c.self.inside.nodes c.in-Some.next.at = sym (ap option_copied c.in-Some-get.is) ∙ c.get.ensures in
    let shown : ◌≡◌ {A = Found} (record { path = c.in-Some.next.path; length = c.length.result }) _ = λ i. record { path = c.in-Some.next.path; length = c.length.ensures i } in
    (visits_on c.self.inside.nodes c.self.inside.root c.self.inside.held.0 c.self.inside.held.1 c.loop-next.found c.loop-next.ahead.items c.pop.new.self.items c.push_ahead.new.ahead.items c.in-Some.next c.in-Some-get.place.now.node
    (record { path = c.in-Some.next.path; length = c.length.result }) c.loop-next.invariant c.in-Some.ensures.items
    (sym (ap (option_map (λ (p : Place). p.node)) there))
    (subst (λ o. IsStrictlySortedBy (slice_cmp nat_cmp) (map (λ (e : List ℕ × ℕ). e.0) (links_by o))) there c.in_ok-push_ahead.ensures.rising)
    (c.in_ok-push_ahead.ensures.pushed ∙ ap (λ o. c.pop.new.self.items ++ map (ahead_of c.in-Some.next.path) (reverse (links_by o))) there)
    shown).1

pub loop-next-preserved : goal.loop-next-preserved
loop-next-preserved c =
    let there : Some c.in-Some-get.place.now ≡ get c.self.inside.nodes c.in-Some.next.at = sym (ap option_copied c.in-Some-get.is) ∙ c.get.ensures in
    let shown : ◌≡◌ {A = Found} (record { path = c.in-Some.next.path; length = c.length.result }) _ = λ i. record { path = c.in-Some.next.path; length = c.length.ensures i } in
    subst (λ f. Visits c.self.inside.nodes c.self.inside.root c.self.inside.held.0 c.self.inside.held.1 f c.push_ahead.new.ahead.items) (sym c.in_ok-push.ensures.ok)
    (visits_on c.self.inside.nodes c.self.inside.root c.self.inside.held.0 c.self.inside.held.1 c.loop-next.found c.loop-next.ahead.items c.pop.new.self.items c.push_ahead.new.ahead.items c.in-Some.next c.in-Some-get.place.now.node
    (record { path = c.in-Some.next.path; length = c.length.result }) c.loop-next.invariant c.in-Some.ensures.items
    (sym (ap (option_map (λ (p : Place). p.node)) there))
    (subst (λ o. IsStrictlySortedBy (slice_cmp nat_cmp) (map (λ (e : List ℕ × ℕ). e.0) (links_by o))) there c.in_ok-push_ahead.ensures.rising)
    (c.in_ok-push_ahead.ensures.pushed ∙ ap (λ o. c.pop.new.self.items ++ map (ahead_of c.in-Some.next.path) (reverse (links_by o))) there)
    shown).0

pub returns : goal.returns
returns c =
    let none : length c.loop-next.ahead.items ≡ 0 = omega (arith, c.loop-next.ahead.ok.0, c.in_default.ensures.cases.0) in
    visits_done c.self.inside.nodes c.self.inside.root c.self.inside.held.0 c.self.inside.held.1 c.loop-next.found c.loop-next.ahead.items none c.loop-next.invariant
    ∙ ap walk c.self.view_is
