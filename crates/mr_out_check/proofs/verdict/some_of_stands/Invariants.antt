use Rattle.std.proofs.Common.{◌≡◌, drop, map, ◌++◌, Bool, not}
use Rattle.std.specs.List.{list_any}
use Rattle.mr_out_check.specs.Verdicts.{same_standing, standing}
use Rattle.mr_out_check.proofs.verdict.some_of_stands.Given as goal

abbrev pub invariant-loop-premise : goal.invariant-loop-premise
invariant-loop-premise l = list_any (λ p. same_standing (standing p l.seen l.told) l.at) (drop l.premise-index l.premises) ≡ list_any (λ p. same_standing (standing p l.seen l.told) l.at) l.premises
