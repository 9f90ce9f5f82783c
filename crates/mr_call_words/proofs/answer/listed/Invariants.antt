use Rattle.std.proofs.Common.{◌≡◌, List, ◌++◌, drop, map, All}
use Rattle.mr_names_tree.specs.declared.node.Entry.{Entry}
use Rattle.mr_call_words.specs.Words.{IsEntry, entry_text}
use Rattle.mr_call_words.proofs.answer.listed.Given as goal

-- of all entries that have these words, the rest have those that are left
abbrev pub invariant-loop-word : goal.invariant-loop-word
invariant-loop-word l = record {
  fits : All IsEntry l.entries;
  only : (entries : List Entry) → All IsEntry entries → l.words ≡ map entry_text entries → (rest : List Entry) × (entries ≡ l.entries ++ rest) × (drop l.word-index l.words ≡ map entry_text rest) × All IsEntry rest;
}
