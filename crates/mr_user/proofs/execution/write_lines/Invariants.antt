use Rattle.std.proofs.Common.{◌≡◌, ◌++◌, ◌∷◌, [], map, take}
use Rattle.std.specs.List.{flat_map}
use Rattle.mr_user.proofs.execution.write_lines.Given as goal

abbrev pub invariant-loop-value : goal.invariant-loop-value
invariant-loop-value g l = l.out.items ≡ l.fn.out.items ++ flat_map (λ text. l.name.items ++ 9 ∷ text ++ 10 ∷ []) (map (λ text. text.items) (take l.value-index l.value-items))
