use Rattle.std.proofs.Common.{◌≡◌, ◌∷◌, ◌++◌, take}
use Rattle.std.specs.List.{flat_map}
use Rattle.mr_call_words.specs.Words.{entry_text, word}
use Rattle.mr_call_words.proofs.answer.put_entries.Given as goal

abbrev pub invariant-loop-entry : goal.invariant-loop-entry
invariant-loop-entry l = l.out.items ≡ l.initial.out.items ++ flat_map (λ e. 32 ∷ word (entry_text e)) (take l.entry-index l.entries)
