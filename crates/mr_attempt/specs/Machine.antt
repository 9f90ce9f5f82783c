-- One attempt and its state: what a contract sees of an attempt machine. Our own: where code and definitions meet.
use Rattle.std.specs.Prelude.{is_some, if◌then◌else◌}
use Rattle.mr_ids.specs.declared.id.TaskKind.{TaskKind}
use Rattle.mr_ids.specs.Attempt.{Attempt}
use Rattle.mr_attempt.specs.declared.state.AttemptState.{AttemptState}
use Rattle.mr_attempt.specs.declared.state.AttemptState.TheVariants.{New}
use Rattle.mr_attempt.specs.declared.state.AttemptEvent.{AttemptEvent}
use Rattle.mr_attempt.specs.declared.state.Reaction.{Reaction}
use Rattle.mr_attempt.specs.declared.state.Reaction.TheVariants.{Moved, Ignored}
use Rattle.mr_attempt.specs.Table.{next, after}

pub record Machine : Type 0 where
  pub attempt : Attempt
  pub state : AttemptState

abbrev pub new_machine : Attempt → Machine
new_machine a = record { attempt = a; state = New }

abbrev pub kind_of : Machine → TaskKind
kind_of m = m.attempt.task.kind

-- the machine after an event: the table's next state, and else as before
abbrev pub machine_after : Machine → AttemptEvent → Machine
machine_after m event = record { attempt = m.attempt; state = after (kind_of m) m.state event }

-- whether the event moves it
abbrev pub reaction_to : Machine → AttemptEvent → Reaction
reaction_to m event = if is_some (next (kind_of m) m.state event) then Moved else Ignored
