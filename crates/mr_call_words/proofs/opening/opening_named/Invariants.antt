use Rattle.std.proofs.Common.{◌≡◌, ◌<◌}
use Rattle.mr_call_words.specs.declared.opening.Opening.{Opening}
use Rattle.mr_call_words.specs.inner.Opening.{opening_text}
use Rattle.mr_call_words.proofs.Openings.{place_of}
use Rattle.mr_call_words.proofs.opening.opening_named.Given as goal

abbrev pub invariant-loop-opening : goal.invariant-loop-opening
invariant-loop-opening l = (o : Opening) → place_of o < l.opening-index → l.word ≡ opening_text o → ⊥
