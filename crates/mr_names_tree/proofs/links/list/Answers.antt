use Rattle.std.proofs.Common.{ℕ, List, map, sym, ap, ◌∙◌, subst}
use Rattle.std.specs.List.Sorted.{IsStrictlySortedBy}
use Rattle.std.specs.Cmp.Lexicographic.{slice_cmp}
use Rattle.std.specs.Ordering.{nat_cmp}
use Rattle.std.specs.Option.{option_copied}
use Rattle.mr_names_tree.specs.inner.Tree.{links_by}
use Rattle.mr_names_tree.proofs.NodeLines.{empty_sorted}
use Rattle.mr_names_tree.proofs.links.list.Goals.{in-Some+in-None, in_default}
use Rattle.mr_names_tree.proofs.links.list.Goals as goal

pub returns-clause-rising : goal.returns-clause-rising
returns-clause-rising c =
    elim c.match-get.branch [
      | in-Some+in-None w ↦
          subst (λ o. IsStrictlySortedBy (slice_cmp nat_cmp) (map (λ (e : List ℕ × ℕ). e.0) (links_by o))) (sym (ap option_copied w.in-Some.is) ∙ c.get.ensures) w.iter-name-items.ensures.ordered
      | in_default w ↦
          subst (λ o. IsStrictlySortedBy (slice_cmp nat_cmp) (map (λ (e : List ℕ × ℕ). e.0) (links_by o))) (sym (ap option_copied w.in_default.is) ∙ c.get.ensures) empty_sorted
    ]
