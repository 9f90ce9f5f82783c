-- Scripts of a run: one command per line, of words with one space between. The commands are our own.
use Rattle.std.specs.Prelude.{◌≡◌, ◌≤◌, ◌<◌, ◌^◌, ℕ, List, [], Option, Some, None, decimal}
use Rattle.mr_ids.specs.declared.id.JobId.{JobId}
use Rattle.mr_ids.specs.declared.id.TaskId.{TaskId}
use Rattle.mr_packet.specs.declared.packet.ContainerId.{ContainerId}
use Rattle.mr_world_events.specs.declared.event.Event.TheVariants as event
use Rattle.mr_script.specs.declared.command.Command.{Command}
use Rattle.mr_script.specs.declared.command.Command.TheVariants as command
use Rattle.mr_script.specs.declared.line.Verb.{Verb}
use Rattle.mr_script.specs.Expected.{expected_words, IsExpectation}
use Rattle.mr_script.specs.Lines.{IsNoLine, AreLines, IsFirstNoLine}
use Rattle.mr_script.specs.Verb.{text_of, verb_of}
use Rattle.mr_script.specs.Words.{with_word, task_words, container_word, and_words, fault_word, until_words}

-- ---- commands

-- what stands after the first word and its space
abbrev pub rest_of : Command → List ℕ
rest_of (command.Makes (event.Start k kept)) = with_word (decimal k) (decimal kept)
rest_of (command.Makes (event.Crash k kept)) = with_word (decimal k) (decimal kept)
rest_of (command.Makes (event.Duty k fault)) = and_words (decimal k) (fault_word fault)
rest_of (command.Makes (event.LaunchOn k t n)) = with_word (decimal k) (task_words t (decimal n))
rest_of (command.Makes (event.Deliver i)) = decimal i
rest_of (command.Makes (event.ContainerStep c fault)) = and_words (container_word c) (fault_word fault)
rest_of (command.Makes (event.Computed c bytes)) = []
rest_of (command.Makes (event.Die c)) = container_word c
rest_of (command.Makes (event.NodeRestart n)) = decimal n
rest_of (command.Makes (event.Expire k n)) = with_word (decimal k) (decimal n)
rest_of (command.Compute c) = container_word c
rest_of (command.Calm k until) = and_words (decimal k) (until_words until)
rest_of (command.Drop i) = decimal i
rest_of (command.Expect e) = expected_words e

-- the line that the command is written as
abbrev pub line_by : Option Verb → List ℕ → List ℕ
line_by None rest = []
line_by (Some v) rest = with_word (text_of v) rest

abbrev pub line_of : Command → List ℕ
line_of c = line_by (verb_of c) (rest_of c)

-- a generation of the master
abbrev pub IsGeneration : ℕ → Type 0
IsGeneration k = (1 ≤ k) × (k ≤ 1000)

abbrev pub IsContainer : ContainerId → Type 0
IsContainer c = IsGeneration c.app × (c.number < 2 ^ 32)

-- a task of the job
abbrev pub IsTaskOf : JobId → TaskId → Type 0
IsTaskOf job t = (t.job ≡ job) × (t.number < 2 ^ 32)

-- what a command of a script for a run of the job may name: no computed bytes
abbrev pub IsCommand : JobId → Command → Type 0
IsCommand job (command.Makes (event.Start k kept)) = IsGeneration k × (kept < 2 ^ 64)
IsCommand job (command.Makes (event.Crash k kept)) = IsGeneration k × (kept < 2 ^ 64)
IsCommand job (command.Makes (event.Duty k fault)) = IsGeneration k
IsCommand job (command.Makes (event.LaunchOn k t n)) = IsGeneration k × (IsTaskOf job t × (n < 2 ^ 32))
IsCommand job (command.Makes (event.Deliver i)) = i < 2 ^ 64
IsCommand job (command.Makes (event.ContainerStep c fault)) = IsContainer c
IsCommand job (command.Makes (event.Computed c bytes)) = ⊥
IsCommand job (command.Makes (event.Die c)) = IsContainer c
IsCommand job (command.Makes (event.NodeRestart n)) = n < 2 ^ 32
IsCommand job (command.Makes (event.Expire k n)) = IsGeneration k × (n < 2 ^ 32)
IsCommand job (command.Compute c) = IsContainer c
IsCommand job (command.Calm k until) = IsGeneration k
IsCommand job (command.Drop i) = i < 2 ^ 64
IsCommand job (command.Expect e) = IsExpectation e

-- the line is the command
abbrev pub IsLine : JobId → List ℕ → Command → Type 0
IsLine job line c = IsCommand job c × (line ≡ line_of c)

-- the line is no command
abbrev pub IsBad : JobId → List ℕ → Type 0
IsBad job line = IsNoLine (IsLine job) line

-- The lines, numbered from n on, are these commands: an empty line is counted and skipped.
abbrev pub AreCommands : JobId → ℕ → List (List ℕ) → List (ℕ × Command) → Type 0
AreCommands job n lines cs = AreLines (IsLine job) n lines cs

-- Line k is the first that is not empty and is no command, where the lines are numbered from n on.
abbrev pub IsFirstBad : JobId → ℕ → List (List ℕ) → ℕ → Type 0
IsFirstBad job n lines k = IsFirstNoLine (IsLine job) n lines k
