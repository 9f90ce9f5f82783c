-- The words of a command, one space between. Our own format.
use Rattle.std.specs.Prelude.{ℕ, List, [], ◌∷◌, ◌++◌, Option, Some, None, codes, decimal}
use Rattle.mr_ids.specs.Attempt.{Attempt}
use Rattle.mr_ids.specs.Text.{attempt_text}
use Rattle.mr_ids.specs.declared.id.TaskId.{TaskId}
use Rattle.mr_ids.specs.declared.id.TaskKind.{TaskKind}
use Rattle.mr_ids.specs.declared.id.TaskKind.TheVariants.{Map, Reduce}
use Rattle.mr_packet.specs.declared.packet.ContainerId.{ContainerId}
use Rattle.mr_world_events.specs.declared.event.Weather.{Weather}
use Rattle.mr_world_events.specs.declared.event.Weather.TheVariants.{Calm, Unavailable, Unanswered}
use Rattle.mr_script.specs.declared.command.Until.{Until}
use Rattle.mr_script.specs.declared.command.Until.TheVariants.{Most, Before, Through}
use Rattle.mr_script.specs.declared.event_name.EventName.{EventName}
use Rattle.mr_script.specs.Names.{name_text}

-- one word, a space, and what follows
abbrev pub with_word : List ℕ → List ℕ → List ℕ
with_word word rest = word ++ 32 ∷ rest

-- the letter m, the letter r
abbrev pub kind_word : TaskKind → List ℕ
kind_word Map = 109 ∷ []
kind_word Reduce = 114 ∷ []

-- the generation of its master, a full stop, and its number
abbrev pub container_word : ContainerId → List ℕ
container_word c = decimal c.app ++ 46 ∷ decimal c.number

-- a word, and behind it more, if there is more
abbrev pub and_words : List ℕ → Option (List ℕ) → List ℕ
and_words word None = word
and_words word (Some rest) = with_word word rest

-- how the store fares, if not well
abbrev pub fault_word : Weather → Option (List ℕ)
fault_word Calm = None
fault_word Unavailable = Some (codes "unavailable")
fault_word Unanswered = Some (codes "unanswered")

-- before which event a calm stops
abbrev pub name_words : EventName → List ℕ
name_words n = with_word (codes "before") (name_text n)

-- how far a calm goes, if it is told
abbrev pub until_words : Until → Option (List ℕ)
until_words Most = None
until_words (Before n) = Some (name_words n)
until_words Through = Some (codes "all")

abbrev pub task_words : TaskId → List ℕ → List ℕ
task_words t rest = with_word (kind_word t.kind) (with_word (decimal t.number) rest)

-- the word that names an attempt: its canonical spelling
unfoldable pub attempt_word : Attempt → List ℕ
attempt_word a = attempt_text a
