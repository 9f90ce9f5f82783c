use Rattle.std.proofs.Common.{sym}
use Rattle.mr_names_tree.specs.inner.Tree.{first_edge}
use Rattle.mr_names_tree.proofs.Deleting.{opt_none, cutting_down, cutting_up, cutting_done}
use Rattle.mr_names_tree.proofs.links.cut_on.Goals as goal

pub loop-turn-preserved-in-Some : goal.loop-turn-preserved-in-Some
loop-turn-preserved-in-Some c = cutting_down c.args.nodes.now c.loop-turn.nodes c.args.top c.args.start c.loop-turn.at c.in-Some.next c.loop-turn.invariant (sym c.in-Some.ensures)

pub returns-then-at-top : goal.returns-then-at-top
returns-then-at-top c = cutting_done c.args.nodes.now c.loop-turn.nodes c.args.top c.args.start c.loop-turn.at c.loop-turn.invariant

pub returns-in_default-first_above : goal.returns-in_default-first_above
returns-in_default-first_above c = cutting_done c.args.nodes.now c.loop-turn.nodes c.args.top c.args.start c.loop-turn.at c.loop-turn.invariant

pub loop-turn-preserved : goal.loop-turn-preserved
loop-turn-preserved c =
    cutting_up c.args.nodes.now c.loop-turn.nodes c.cut_first.new.nodes c.args.top c.args.start c.loop-turn.at c.in-Some-first_above.up c.loop-turn.invariant c.if-at-top.false c.in-Some-first_above.ensures
    (opt_none (first_edge c.loop-turn.nodes c.loop-turn.at) (sym c.in_default.ensures)) c.cut_first.ensures

pub returns : goal.returns
returns c = cutting_done c.args.nodes.now c.loop-turn.nodes c.args.top c.args.start c.loop-turn.at c.loop-turn.invariant
