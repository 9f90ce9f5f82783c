use Rattle.std.proofs.Common.{◌≡◌, ◌∙◌, ◌+◌, ◌*◌, ◌||◌, false, length-set, slice_index_or, get_or-set_other, get_or-set_same, arith, rules}
use Rattle.std.proofs.lemmas.Grind.{common_steps}
use Rattle.mr_master_tables.proofs.Marking.{place-written, node-written, place-kept}
use Rattle.mr_master_tables.proofs.marks.mark.Goals as goal

pub loop-node-init : goal.loop-node-init
loop-node-init c =
    let t = c.args.tree.now.items in
    let n = c.args.size in
    let leaf = c.args.size + c.args.place in
    let within = c.requires.within in
    let count = c.requires.count in
    record {
      count = length-set t leaf c.args.on;
      low = omega arith;
      nodes = place-written t n leaf c.args.on c.requires.nodes (omega arith);
      here = get_or-set_same t leaf c.args.on false (omega arith);
      others = λ j low ne. get_or-set_other t leaf j c.args.on false ne;
    }

pub loop-node-preserved : goal.loop-node-preserved
loop-node-preserved c =
    let t = c.loop-node.tree.items in
    let n = c.args.size in
    let node = c.loop-node.node in
    let marked = c.if-index.marked in
    let so-far = c.loop-node.invariant in
    let low = so-far.low in
    let is : marked ≡ (slice_index_or t (2 * node) false || slice_index_or t (2 * node + 1) false) = first_of (search rules, grind (arith, common_steps)) in
    record {
      count = length-set t node marked ∙ so-far.count;
      low = omega arith;
      nodes = node-written t n node marked so-far.nodes c.loop-node-test.true low (so-far.count ∙ c.requires.count) is;
      here = place-kept t n node marked (n + c.args.place) low (omega arith) ∙ so-far.here;
      others = λ j up ne. place-kept t n node marked j low up ∙ so-far.others j up ne;
    }
