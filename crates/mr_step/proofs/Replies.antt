-- What was said of a line.
use Rattle.std.proofs.Common.{◌≡◌, ℕ, List, Option, Some, None, Result, refl, sym, subst}
use Rattle.mr_names.specs.declared.fault.NameFault.{NameFault}
use Rattle.mr_names.specs.declared.op.Answer.{Answer}
use Rattle.mr_commit.specs.declared.fault.CommitFault.{CommitFault}
use Rattle.mr_commit.specs.declared.fault.StepDone.{StepDone}
use Rattle.mr_commit.specs.Recovery.{Recovery, HearsOf}
use Rattle.mr_call_words.specs.Words.{ReadsAnswer}
use Rattle.mr_pipe_json.specs.Form.{told_as}
use Rattle.mr_pipe.specs.declared.form.Form.{Form}
use Rattle.mr_pipe_json.specs.declared.key.Key.TheVariants as key
use Rattle.mr_step.specs.Talk.{Follows, HearsLine, Next, ReadsTold, Takes, no_answer}
use Rattle.mr_step.specs.Talk.Next.{GoesOn}

pub taken : (form : Form) (moves left : Recovery) (answer : Result Answer NameFault) (done : Result StepDone CommitFault) (said : List ℕ) (next : Next) → HearsOf moves answer done left → Follows form done left said next → Takes form moves answer said next
taken form moves left answer done said next hears follows = (done, left, hears, follows)

pub is_answer : (form : Form) (moves : Recovery) (n : ℕ) (line : List ℕ) (answer : Result Answer NameFault) (said : List ℕ) (next : Next) → ReadsTold (told_as form key.Answer line) (Some answer) → Takes form moves answer said next → HearsLine form moves n line said next
is_answer form moves n line answer said next reads takes = (Some answer, reads, takes)

pub is_none : (form : Form) (moves : Recovery) (n : ℕ) (line said : List ℕ) (next : Next) → ReadsTold (told_as form key.Answer line) None → said ≡ no_answer form n → next ≡ GoesOn moves → HearsLine form moves n line said next
is_none form moves n line said next reads is on = (None, reads, (is, on))

-- what is told in a form is read as the line that it tells
pub told : (form : Form) (line text : List ℕ) (found : Option (Result Answer NameFault)) → told_as form key.Answer line ≡ Some text → ReadsAnswer text found → ReadsTold (told_as form key.Answer line) found
told form line text found is reads = subst (λ t. ReadsTold t found) (sym is) reads

pub nothing_told : (form : Form) (line : List ℕ) → told_as form key.Answer line ≡ None → ReadsTold (told_as form key.Answer line) None
nothing_told form line is = subst (λ t. ReadsTold t None) (sym is) refl
