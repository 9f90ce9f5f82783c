use Rattle.std.proofs.Common.{◌≡◌, ◌++◌, map, reverse}
use Rattle.mr_names_tree.specs.inner.Tree.{ahead_of}
use Rattle.mr_names_tree.proofs.links.push_ahead.Given as goal

-- what is ahead so far, and then those of the edges that are left from the last on
abbrev pub invariant-loop-name : goal.invariant-loop-name
invariant-loop-name l =
    l.ahead.items ++ map (ahead_of l.path) (reverse l.name-iterator.iter) ≡ l.initial.ahead.items ++ map (ahead_of l.path) (reverse l.initial.name-iterator.iter)
