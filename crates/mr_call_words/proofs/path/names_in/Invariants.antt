use Rattle.std.proofs.Common.{◌≡◌, map, List, ℕ, Bor}
use Rattle.mr_call_words.specs.Words.{IsPath}
use Rattle.mr_call_words.proofs.path.names_in.Given as goal

abbrev pub invariant-loop-name : goal.invariant-loop-name
invariant-loop-name l = record {
  parts : l.path ≡ map (λ (name : Bor (List ℕ)). name.now) l.yielded;
  fits : IsPath l.path;
}
