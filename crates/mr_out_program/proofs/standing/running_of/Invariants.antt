use Rattle.std.proofs.Common.{◌≡◌, drop}
use Rattle.std.specs.List.{fold, filter_map}
use Rattle.std.specs.String.{string_bytes}
use Rattle.mr_out_program.specs.Shown.{started_alive, running_text}
use Rattle.mr_out_program.specs.inner.Running.{with_more}
use Rattle.mr_out_program.proofs.standing.running_of.Given as goal

-- those so far, and what is left
abbrev pub invariant-loop-told : goal.invariant-loop-told
invariant-loop-told l = fold (with_more l.json) (string_bytes l.text) (filter_map (started_alive l.records l.task) (drop l.told-index l.records)) ≡ running_text l.json (filter_map (started_alive l.records l.task) l.records)
