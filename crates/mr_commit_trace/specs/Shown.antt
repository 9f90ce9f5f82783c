-- How the calls of a script are written, as text or as lines of JSON: our own format. The line of a call is that of a store's trace, as `judge` reads it.
use Rattle.std.specs.Prelude.{◌≡◌, ℕ, List, [], ◌∷◌, ◌++◌, Option, Some, None, codes, decimal}
use Rattle.std.specs.List.{flat_map}
use Rattle.mr_ids.specs.Attempt.{Attempt}
use Rattle.mr_script.specs.Lines.{lines_of}
use Rattle.mr_script.specs.Words.{attempt_word}
use Rattle.serde_json.specs.Data.{Data}
use Rattle.mr_sim_json.specs.Members.{Member, count, line_of, object_of, text}
use Rattle.mr_call_words.specs.Words.{call_line}
use Rattle.mr_pipe.specs.declared.form.Form.{Form}
use Rattle.mr_pipe.specs.declared.form.Form.TheVariants.{Text, Json}
use Rattle.mr_judge.specs.declared.line.Told.{Told}
use Rattle.mr_judge.specs.declared.line.Told.TheVariants.{Raised, Called}
use Rattle.mr_judge.specs.Trace.{told_line}
use Rattle.mr_sim_commands.specs.declared.committer.command.ScriptCommand.{ScriptCommand}
use Rattle.mr_sim_commands.specs.declared.committer.command.ScriptCommand.TheVariants.{As, Raise, Check, Setup, Write, Needs, Commit, Abort, Recover, CommitJob, AbortJob, Bar, By}
use Rattle.mr_sim_commands.specs.committer.Effect.{out, start}
use Rattle.mr_sim_commands.specs.committer.Script.{AreCommands}
use Rattle.mr_commit_trace.specs.Seen.{SeesAll}

-- the word of a command
abbrev pub name_of : ScriptCommand → List ℕ
name_of (As k) = codes "as"
name_of (Raise k) = codes "raise"
name_of Check = codes "check"
name_of Setup = codes "setup"
name_of (Write a written) = codes "write"
name_of (Needs a) = codes "needs"
name_of (Commit a) = codes "commit"
name_of (Abort a) = codes "abort"
name_of (Recover t bytes) = codes "recover"
name_of CommitJob = codes "commitjob"
name_of AbortJob = codes "abortjob"
name_of (Bar a) = codes "bar"
name_of (By who) = codes "by"

-- ---- as text

abbrev pub told_text : Told → List ℕ
told_text told = told_line told ++ 10 ∷ []

-- a comment with the line and the word of the command, and then its calls
abbrev pub command_text : (ℕ × ScriptCommand) × List Told → List ℕ
command_text seen = codes "# line " ++ decimal seen.0.0 ++ codes ": " ++ name_of seen.0.1 ++ 10 ∷ flat_map told_text seen.1

-- ---- as JSON

-- who makes a call beside its master
abbrev pub who_members : Option Attempt → List Member
who_members None = []
who_members (Some a) = (codes "attempt", text (attempt_word a)) ∷ []

abbrev pub told_members : Told → List Member
told_members (Raised k) = (codes "fence", count k) ∷ []
told_members (Called caller call answer) = (codes "generation", count caller.app) ∷ (codes "call", text (call_line call)) ∷ (codes "answer", text answer) ∷ who_members caller.attempt

-- a call, with the line and the word of its command
abbrev pub told_object : ℕ × ScriptCommand → Told → Data
told_object c told = object_of ((codes "line", count c.0) ∷ (codes "command", text (name_of c.1)) ∷ told_members told)

abbrev pub command_json : (ℕ × ScriptCommand) × List Told → List ℕ
command_json seen = flat_map (λ told. line_of (told_object seen.0 told)) seen.1

-- ---- the whole

abbrev pub command_shown : Form → (ℕ × ScriptCommand) × List Told → List ℕ
command_shown Text seen = command_text seen
command_shown Json seen = command_json seen

-- a script, what the store sees of its commands, and the text of that
pub record PrintsTrace (form : Form) (input written : List ℕ) : Type 0 where
  pub commands : List (ℕ × ScriptCommand)
  pub read : AreCommands 1 (lines_of input) commands
  pub all : List ((ℕ × ScriptCommand) × List Told)
  pub sees : SeesAll out commands start all
  pub is : written ≡ flat_map (command_shown form) all
