-- The first word of a command, and what stands after it.
use Rattle.std.specs.Prelude.{ℕ, List, ◌∷◌, ◌++◌, codes, decimal, Option, Some, None}
use Rattle.mr_sim_commands.specs.declared.committer.command.Verb.{Verb}
use Rattle.mr_sim_commands.specs.declared.committer.command.Verb.TheVariants as verb
use Rattle.mr_sim_commands.specs.declared.committer.command.ScriptCommand.{ScriptCommand}
use Rattle.mr_sim_commands.specs.declared.committer.command.ScriptCommand.TheVariants.{As, Raise, Check, Setup, Write, Needs, Commit, Abort, Recover, CommitJob, AbortJob, Bar, By}
use Rattle.mr_script.specs.Words.{attempt_word}
use Rattle.mr_sim_commands.specs.committer.Script.{recovery_words, caller_word}

abbrev pub verb_text : Verb → List ℕ
verb_text verb.As = codes "as"
verb_text verb.Raise = codes "raise"
verb_text verb.Check = codes "check"
verb_text verb.Setup = codes "setup"
verb_text verb.Write = codes "write"
verb_text verb.Needs = codes "needs"
verb_text verb.Commit = codes "commit"
verb_text verb.Abort = codes "abort"
verb_text verb.Recover = codes "recover"
verb_text verb.CommitJob = codes "commitjob"
verb_text verb.AbortJob = codes "abortjob"
verb_text verb.Bar = codes "bar"
verb_text verb.By = codes "by"

abbrev pub verb_of : ScriptCommand → Verb
verb_of (As k) = verb.As
verb_of (Raise k) = verb.Raise
verb_of Check = verb.Check
verb_of Setup = verb.Setup
verb_of (Write a text) = verb.Write
verb_of (Needs a) = verb.Needs
verb_of (Commit a) = verb.Commit
verb_of (Abort a) = verb.Abort
verb_of (Recover t bytes) = verb.Recover
verb_of CommitJob = verb.CommitJob
verb_of AbortJob = verb.AbortJob
verb_of (Bar a) = verb.Bar
verb_of (By who) = verb.By

-- what stands after the first space, if there is one
abbrev pub rest_of : ScriptCommand → Option (List ℕ)
rest_of (As k) = Some (decimal k)
rest_of (Raise k) = Some (decimal k)
rest_of Check = None
rest_of Setup = None
rest_of (Write a text) = Some (attempt_word a ++ 32 ∷ text)
rest_of (Needs a) = Some (attempt_word a)
rest_of (Commit a) = Some (attempt_word a)
rest_of (Abort a) = Some (attempt_word a)
rest_of (Recover t bytes) = Some (recovery_words t bytes)
rest_of CommitJob = None
rest_of AbortJob = None
rest_of (Bar a) = Some (attempt_word a)
rest_of (By who) = Some (caller_word who)
