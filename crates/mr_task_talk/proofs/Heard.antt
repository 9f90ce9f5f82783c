-- What the machine of a task answers, and the calls that it stands for then.
use Rattle.std.proofs.Common.{◌≡◌, ℕ, Bool, false, List, ◌∷◌, ◌++◌, Option, Some, None, Result, Ok, Err, codes, decimal, IfSome, IfNone, refl, sym, ap, subst, ◌∙◌, unwrap_or}
use Rattle.std.specs.Prelude.{⊤}
use Rattle.mr_ids.specs.Attempt.{Attempt}
use Rattle.mr_script.specs.Lines.{IsNoLine}
use Rattle.mr_task.specs.Calls.{TaskCall, Launches, Asks, Reports, Fails, Ends, Dies, Records, Loses}
use Rattle.mr_task.specs.Readings.{is_named, launch_refusal, next_attempt, seen}
use Rattle.mr_task.specs.State.{Answers, Stands, StandsFor, done_answer, fault_or, known, launch_answer, refusal_or}
use Rattle.mr_task.specs.Steps.{Task}
use Rattle.mr_task.specs.declared.fault.TaskFault.{TaskFault}
use Rattle.mr_task.specs.declared.fault.TaskFault.TheVariants.{NoMemory}
use Rattle.mr_task.specs.declared.reply.DoneReply.{DoneReply}
use Rattle.mr_pipe_json.specs.Form.{said_as, told_as}
use Rattle.mr_pipe.specs.declared.form.Form.{Form}
use Rattle.mr_pipe_json.specs.declared.key.Key.TheVariants as key
use Rattle.mr_task_talk.specs.Line.{IsLine}
use Rattle.mr_task_talk.specs.Talk.{Reads, ReadsTold, done_words, launch_words, noted_words, poll_words, refused, with_ask, with_launch}
use Rattle.mr_task_talk.specs.declared.line.Line.{Line}
use Rattle.mr_task_talk.specs.declared.line.Line.TheVariants.{Launch, Of}
use Rattle.mr_task_talk.specs.declared.line.Verb.TheVariants as verb
use Rattle.mr_task_talk.specs.inner.Turns.{Hears, HearsLine}

-- ---- a launch

not_refused : (r : Option TaskFault) (a b : Attempt) → Ok a ≡ refusal_or r b → r ≡ None
not_refused None a b e = refl
not_refused (Some f) a b e = absurd (cc)

refused_by : (r : Option TaskFault) (f : TaskFault) → (f ≡ NoMemory → ⊥) → f ≡ unwrap_or r NoMemory → r ≡ Some f
refused_by None f other e = absurd (other e)
refused_by (Some g) f other e = ap (λ x. Some x) (sym e)

pub launched : (old new : Task) (a : Attempt) (text : List ℕ) → Answers old launch_answer (Ok a) → Stands old Launches new → text ≡ launch_words (Ok a) → Hears old Launch text new
launched old new a text answers stands is t k calls h = (
  is ∙ ap (λ r. launch_words r) (answers t k calls h),
  subst (λ r. StandsFor new t k (with_launch r calls)) (sym (not_refused (launch_refusal (seen t k calls)) a (next_attempt t k (seen t k calls)) (answers t k calls h))) (stands t k calls h),
)

pub launch_refused : (old new : Task) (f : TaskFault) (text : List ℕ) → (f ≡ NoMemory → ⊥) → Answers old (λ t k calls. unwrap_or (launch_refusal (seen t k calls)) NoMemory) f → new ≡ old →
    text ≡ refused f → Hears old Launch text new
launch_refused old new f text other answers same is t k calls h =
    let why = refused_by (launch_refusal (seen t k calls)) f other (answers t k calls h) in (
      is ∙ ap (λ r. launch_words (refusal_or r (next_attempt t k (seen t k calls)))) (sym why),
      subst (λ r. StandsFor new t k (with_launch r calls)) (sym why) (subst (λ m. StandsFor m t k calls) (sym same) h),
    )

-- ---- an attempt asks

unknown_by : (r : Result ⊤ TaskFault) (f : TaskFault) → (f ≡ NoMemory → ⊥) → f ≡ fault_or r NoMemory → r ≡ Err f
unknown_by (Ok x) f other e = absurd (other e)
unknown_by (Err g) f other e = ap (λ x. Err x) (sym e)

pub asked : (old new : Task) (a : Attempt) (text : List ℕ) → Answers old (known a) (Ok tt) → Stands old (Asks a) new → text ≡ codes "noted" → Hears old (Of verb.Pending a) text new
asked old new a text answers stands is t k calls h = (
  is ∙ ap (λ r. noted_words r) (answers t k calls h),
  subst (λ r. StandsFor new t k (with_ask r a calls)) (answers t k calls h) (stands t k calls h),
)

pub ask_refused : (old new : Task) (a : Attempt) (f : TaskFault) (text : List ℕ) → (f ≡ NoMemory → ⊥) → Answers old (λ t k calls. fault_or (known a t k calls) NoMemory) f → new ≡ old →
    text ≡ refused f → Hears old (Of verb.Pending a) text new
ask_refused old new a f text other answers same is t k calls h =
    let why = unknown_by (known a t k calls) f other (answers t k calls h) in (
      is ∙ ap (λ r. noted_words r) (sym why),
      subst (λ r. StandsFor new t k (with_ask r a calls)) (sym why) (subst (λ m. StandsFor m t k calls) (sym same) h),
    )

-- ---- what else is said of an attempt

pub polled : (m : Task) (a : Attempt) (may : Bool) (text : List ℕ) → Answers m (λ t k calls. is_named (seen t k calls) a) may → text ≡ poll_words may → Hears m (Of verb.Poll a) text m
polled m a may text answers is t k calls h = (is ∙ ap (λ b. poll_words b) (answers t k calls h), h)

pub reported : (old new : Task) (a : Attempt) (told : Result DoneReply TaskFault) (text : List ℕ) → Answers old (done_answer a) told → Stands old (Reports a) new → text ≡ done_words told →
    Hears old (Of verb.Done a) text new
reported old new a told text answers stands is t k calls h = (is ∙ ap (λ r. done_words r) (answers t k calls h), stands t k calls h)

pub was_recorded : (old new : Task) (a : Attempt) (told : Result ⊤ TaskFault) (text : List ℕ) → Answers old (known a) told → Stands old (Records a) new → text ≡ noted_words told →
    Hears old (Of verb.Recorded a) text new
was_recorded old new a told text answers stands is t k calls h = (is ∙ ap (λ r. noted_words r) (answers t k calls h), stands t k calls h)

pub has_failed : (old new : Task) (a : Attempt) (told : Result ⊤ TaskFault) (text : List ℕ) → Answers old (known a) told → Stands old (Fails a) new → text ≡ noted_words told →
    Hears old (Of verb.Failed a) text new
has_failed old new a told text answers stands is t k calls h = (is ∙ ap (λ r. noted_words r) (answers t k calls h), stands t k calls h)

pub has_ended : (old new : Task) (a : Attempt) (told : Result ⊤ TaskFault) (text : List ℕ) → Answers old (known a) told → Stands old (Ends a false) new → text ≡ noted_words told →
    Hears old (Of verb.Ended a) text new
has_ended old new a told text answers stands is t k calls h = (is ∙ ap (λ r. noted_words r) (answers t k calls h), stands t k calls h)

pub was_killed : (old new : Task) (a : Attempt) (told : Result ⊤ TaskFault) (text : List ℕ) → Answers old (known a) told → Stands old (Dies a) new → text ≡ noted_words told →
    Hears old (Of verb.Killed a) text new
was_killed old new a told text answers stands is t k calls h = (is ∙ ap (λ r. noted_words r) (answers t k calls h), stands t k calls h)

pub was_lost : (old new : Task) (a : Attempt) (told : Result ⊤ TaskFault) (text : List ℕ) → Answers old (known a) told → Stands old (Loses a) new → text ≡ noted_words told →
    Hears old (Of verb.Lost a) text new
was_lost old new a told text answers stands is t k calls h = (is ∙ ap (λ r. noted_words r) (answers t k calls h), stands t k calls h)

-- ---- a line

pub is_line : (form : Form) (old new : Task) (n : ℕ) (line text : List ℕ) (said : Line) (words : List ℕ) → ReadsTold (told_as form key.Event line) (Some said) → Hears old said words new →
    text ≡ said_as form key.Answer words → HearsLine form old n line text new
is_line form old new n line text said words reads hears is = (
  Some said,
  reads,
  λ t k calls h. let heard = hears t k calls h in (is ∙ ap (said_as form key.Answer) heard.0, heard.1),
)

pub is_none : (form : Form) (m : Task) (n : ℕ) (line text : List ℕ) → ReadsTold (told_as form key.Event line) None → text ≡ said_as form key.Error (codes "no line " ++ decimal n) → HearsLine form m n line text m
is_none form m n line text reads is = (None, reads, λ t k calls h. (is, h))

-- ---- in a form

reads_as : (text : List ℕ) (found : Option Line) → IfSome found (IsLine text) → IfNone found (IsNoLine IsLine text) → Reads text found
reads_as text None some none = none
reads_as text (Some said) some none = some

pub told : (form : Form) (line text : List ℕ) (found : Option Line) → told_as form key.Event line ≡ Some text → IfSome found (IsLine text) → IfNone found (IsNoLine IsLine text) →
    ReadsTold (told_as form key.Event line) found
told form line text found is some none = subst (λ t. ReadsTold t found) (sym is) (reads_as text found some none)

pub nothing_told : (form : Form) (line : List ℕ) → told_as form key.Event line ≡ None → ReadsTold (told_as form key.Event line) None
nothing_told form line is = subst (λ t. ReadsTold t None) (sym is) refl
