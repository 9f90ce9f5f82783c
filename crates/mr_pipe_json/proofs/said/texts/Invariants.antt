use Rattle.std.proofs.Common.{◌≡◌, map, List, ℕ, Bor}
use Rattle.serde_json.specs.View.{view}
use Rattle.mr_sim_json.specs.Members.{text}
use Rattle.mr_pipe_json.proofs.said.texts.Given as goal

abbrev pub invariant-loop-word : goal.invariant-loop-word
invariant-loop-word l = map view l.all.items ≡ map text (map (λ (word : Bor (List ℕ)). word.now) l.yielded)
