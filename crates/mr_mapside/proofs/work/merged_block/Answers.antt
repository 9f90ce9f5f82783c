use Rattle.std.proofs.Common.{◌≡◌, ◌≢◌, ◌∙◌, ◌++◌, ◌∷◌, [], ℕ, List, sym, ap, subst, append_assoc}
use Rattle.std.proofs.lemmas.List.Concat.{flat_map-append}
use Rattle.std.specs.List.{flat_map, AllByRecursion}
use Rattle.mr_user.specs.Computation.{Computation, computation}
use Rattle.mr_mapside.specs.Block.{combined_group, spelled_pair, spelled}
use Rattle.mr_mapside.specs.Runs.{merged, pairs_in_all}
use Rattle.mr_mapside.proofs.Giving.{fewer_left, first_given}
use Rattle.mr_mapside.proofs.Keeping.{groups_some}
use Rattle.mr_mapside.proofs.Spelling.{group_some}
use Rattle.mr_mapside.proofs.work.merged_block.Goals as goal

-- The pairs of one group more are spelled.
spelled_more : {K V : Type 0} (job : Computation K V) (all was now : List ℕ) (groups after : List (K × List V)) (group : K × List V) → all ≡ was ++ spelled job (flat_map (combined_group job) groups) → groups ≡ group ∷ after →
    now ≡ was ++ spelled job (combined_group job group) → all ≡ now ++ spelled job (flat_map (combined_group job) after)
spelled_more job all was now groups after group so_far first is =
    let rest = spelled job (flat_map (combined_group job) after) in
    so_far
    ∙ ap (λ gs. was ++ spelled job (flat_map (combined_group job) gs)) first
    ∙ ap (λ w. was ++ w) (flat_map-append (spelled_pair job) (combined_group job group) (flat_map (combined_group job) after))
    ∙ sym (append_assoc was (spelled job (combined_group job group)) rest)
    ∙ ap (λ w. w ++ rest) (sym is)

pub loop-name-init : goal.loop-name-init
loop-name-init g c =
    let all = computation g.J.Key.Ord.cmp g.J.Key.Wire.codec g.J.Value.Wire.codec g.J.Job.functions in
    let same = c.in_ok-groups.ensures ∙ ap (merged all) c.in_ok-lent.ensures in
    record {
      block = ap (λ gs. spelled all (flat_map (combined_group all) gs)) (sym same) ∙ ap (λ bytes. bytes ++ spelled all (flat_map (combined_group all) c.in_ok-groups.groups)) (sym c.clear.ensures.items);
      some = subst (AllByRecursion (λ g. g.1 ≢ [])) (sym same) (groups_some all g.met.J.Key.Ord.total g.met.J.Job.laws.same_key (pairs_in_all all c.args.runs.now));
    }

pub spell_group-requires : goal.spell_group-requires
spell_group-requires g c =
    let first = first_given (λ values. values.items) c.loop-name.groups c.next_group.new.self c.in_ok-key.field-0 (c.in-Some.key, c.in-Some.values) c.in-Some.is c.in_ok-key.ensures.gives in
    subst (λ (values : List g.row.J-Value.Denot). values ≢ []) (sym c.deref.ensures.value) (group_some c.loop-name.groups c.next_group.new.self c.in-Some.key c.in-Some.values.items first c.loop-name.invariant.some).0

pub loop-name-smaller : goal.loop-name-smaller
loop-name-smaller g c =
    fewer_left c.loop-name.groups c.next_group.new.self (c.in-Some.key, c.in-Some.values.items)
    (first_given (λ values. values.items) c.loop-name.groups c.next_group.new.self c.in_ok-key.field-0 (c.in-Some.key, c.in-Some.values) c.in-Some.is c.in_ok-key.ensures.gives)

pub loop-name-preserved : goal.loop-name-preserved
loop-name-preserved g c =
    let all = computation g.J.Key.Ord.cmp g.J.Key.Wire.codec g.J.Value.Wire.codec g.J.Job.functions in
    let first = first_given (λ values. values.items) c.loop-name.groups c.next_group.new.self c.in_ok-key.field-0 (c.in-Some.key, c.in-Some.values) c.in-Some.is c.in_ok-key.ensures.gives in
    record {
      block = spelled_more all _ c.loop-name.block.items c.spell_group.new.out.items c.loop-name.groups c.next_group.new.self (c.in-Some.key, c.in-Some.values.items) c.loop-name.invariant.block first
          (c.in_ok-spell_group.ensures ∙ ap (λ (values : List g.row.J-Value.Denot). c.loop-name.block.items ++ spelled all (combined_group all (c.in-Some.key, values))) c.deref.ensures.value);
      some = (group_some c.loop-name.groups c.next_group.new.self c.in-Some.key c.in-Some.values.items first c.loop-name.invariant.some).1;
    }
