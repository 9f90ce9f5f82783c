-- The first word of a command's line is its verb.
use Rattle.std.proofs.Common.{◌≡◌, ℕ, List, Some, refl, sym, ap, ◌∙◌}
use Rattle.mr_ids.specs.declared.id.JobId.{JobId}
use Rattle.mr_world_events.specs.declared.event.Event.TheVariants as event
use Rattle.mr_script.specs.declared.command.Command.{Command}
use Rattle.mr_script.specs.declared.command.Command.TheVariants as command
use Rattle.mr_script.specs.declared.line.Verb.{Verb}
use Rattle.mr_script.specs.declared.line.Verb.TheVariants as verb
use Rattle.mr_script.specs.Lines.{before}
use Rattle.mr_script.specs.Script.{line_of, IsCommand, IsBad}
use Rattle.mr_script.specs.Verb.{text_of, verb_of}

pub record Spelled (c : Command) : Type 0 where
  pub verb : Verb
  pub is : verb_of c ≡ Some verb
  pub first : before 32 (line_of c) ≡ text_of verb

pub spelled : (job : JobId) (c : Command) → IsCommand job c → Spelled c
spelled job (command.Makes (event.Start k kept)) h = record { verb = verb.Start; is = refl; first = refl }
spelled job (command.Makes (event.Crash k kept)) h = record { verb = verb.Crash; is = refl; first = refl }
spelled job (command.Makes (event.Duty k fault)) h = record { verb = verb.Duty; is = refl; first = refl }
spelled job (command.Makes (event.LaunchOn k t n)) h = record { verb = verb.Launch; is = refl; first = refl }
spelled job (command.Makes (event.Deliver i)) h = record { verb = verb.Deliver; is = refl; first = refl }
spelled job (command.Makes (event.ContainerStep c fault)) h = record { verb = verb.Step; is = refl; first = refl }
spelled job (command.Makes (event.Computed c bytes)) h = absurd h
spelled job (command.Makes (event.Die c)) h = record { verb = verb.Die; is = refl; first = refl }
spelled job (command.Makes (event.NodeRestart n)) h = record { verb = verb.Restart; is = refl; first = refl }
spelled job (command.Makes (event.Expire k n)) h = record { verb = verb.Expire; is = refl; first = refl }
spelled job (command.Compute c) h = record { verb = verb.Compute; is = refl; first = refl }
spelled job (command.Calm k until) h = record { verb = verb.Calm; is = refl; first = refl }
spelled job (command.Drop i) h = record { verb = verb.Drop; is = refl; first = refl }
spelled job (command.Expect e) h = record { verb = verb.Expect; is = refl; first = refl }

-- a line whose first word is no verb
pub no-verb : (job : JobId) (line word : List ℕ) → before 32 line ≡ word → ((v : Verb) → word ≡ text_of v → ⊥) → IsBad job line
no-verb job line word w none = λ c h. let s = spelled job c h.0 in none s.verb (sym w ∙ ap (before 32) h.1 ∙ s.first)
