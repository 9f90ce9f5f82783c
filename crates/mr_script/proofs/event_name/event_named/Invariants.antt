use Rattle.std.proofs.Common.{◌≡◌, ◌<◌}
use Rattle.mr_script.specs.declared.event_name.EventName.{EventName}
use Rattle.mr_script.specs.Names.{name_text}
use Rattle.mr_script.proofs.Spellings.{name_place}
use Rattle.mr_script.proofs.event_name.event_named.Given as goal

abbrev pub invariant-loop-name : goal.invariant-loop-name
invariant-loop-name l = (n : EventName) → name_place n < l.name-index → l.word ≡ name_text n → ⊥
