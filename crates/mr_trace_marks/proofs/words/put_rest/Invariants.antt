use Rattle.std.proofs.Common.{◌≡◌, ◌++◌, ◌∷◌, take}
use Rattle.std.specs.List.{flat_map}
use Rattle.mr_trace_marks.specs.Words.{clause_text}
use Rattle.mr_trace_marks.proofs.words.put_rest.Given as goal

abbrev pub invariant-loop-mark : goal.invariant-loop-mark
invariant-loop-mark l = l.out.items ≡ l.fn.out.items ++ flat_map (λ m. 32 ∷ clause_text m) (take l.mark-index l.marks)
