-- The step of a step value, from its call and from what was heard.
use Rattle.std.proofs.Common.{◌≡◌, Bool, true, false, List, [], ◌∷◌, refl, sym, ap, ◌∙◌, Option, Some, None, Result, Ok, Err, ◌||◌, if◌then◌else◌}
use Rattle.mr_names.specs.declared.op.Caller.{Caller}
use Rattle.mr_names.specs.declared.fault.NameFault.{NameFault}
use Rattle.mr_names.specs.declared.fault.NameFault.TheVariants as names
use Rattle.mr_names.specs.declared.op.Op.{Op}
use Rattle.mr_names.specs.declared.op.Answer.{Answer}
use Rattle.mr_names_tree.specs.declared.node.Kind.{Kind}
use Rattle.mr_names.specs.Calls.{State, call_of, refused, settled, answer, effect, barred_after, may_want_memory}
use Rattle.mr_commit.specs.declared.fault.CommitFault.{CommitFault}
use Rattle.mr_commit.specs.declared.fault.CommitFault.TheVariants as fault
use Rattle.mr_commit.specs.declared.fault.StepDone.{StepDone}
use Rattle.mr_commit.specs.Line.{Line, op_of, is_answer_to, lines_follow, replaced, needed, is_no_file, fault_at, fault_of}
use Rattle.mr_commit.specs.Line.Line.{Does, Clears, Needs, Merges, MergesEach, MergesTasks, Seeks, Measures}
use Rattle.mr_commit.specs.Steps.{next_call, heard, step_of, Hears, Steps}
use Rattle.mr_commit.proofs.Calls.{Made, made, as_call, no_memory, is_want}

-- a line has a fault of its own only where there is no file
pub fault_at-own : (line : Line) (f : NameFault) → is_no_file f ≡ false → fault_at line f ≡ fault_of f
fault_at-own (Does call) f e = refl
fault_at-own (Clears path) f e = refl
fault_at-own (Needs path) f e = refl
fault_at-own (Merges taken from to) f e = refl
fault_at-own (MergesEach from to) f e = refl
fault_at-own (MergesTasks from to) f e = refl
fault_at-own (Seeks dest task bytes k j) f e = refl
fault_at-own (Measures path n) f e = rw e refl

or_right : (a : Bool) → (a || true) ≡ true
or_right true = refl
or_right false = refl

-- whether lines may follow a line at all
abbrev may_bring : Line → Bool
may_bring (Does call) = false
may_bring (Clears path) = false
may_bring (Needs path) = false
may_bring (Merges taken from to) = true
may_bring (MergesEach from to) = true
may_bring (MergesTasks from to) = true
may_bring (Seeks dest task bytes k j) = true
may_bring (Measures path bytes) = false

abbrev taken_on : Bool → Result (List Line) CommitFault → Result (List Line) CommitFault
taken_on b lines = if b then lines else Err fault.WrongAnswer

abbrev no_lines : Result (List Line) CommitFault
no_lines = Ok []

abbrev no_match : CommitFault → Result (List Line) CommitFault
no_match f = Err f

nothing : (b : Bool) → lines_follow (taken_on b no_lines) ≡ true → false ≡ true
nothing true e = e
nothing false e = e

needs_nothing : (b : Bool) (there : Option Kind) → lines_follow (taken_on b (needed there)) ≡ true → false ≡ true
needs_nothing true None e = e
needs_nothing true (Some there) e = e
needs_nothing false there e = e

measures_nothing : (b c : Bool) → lines_follow (taken_on b (if c then no_lines else no_match fault.WrongLength)) ≡ true → false ≡ true
measures_nothing true true e = e
measures_nothing true false e = e
measures_nothing false c e = e

brings : (line : Line) (a : Answer) → lines_follow (replaced line (Ok a)) ≡ true → may_bring line ≡ true
brings (Does call) a e = nothing (is_answer_to call a) e
brings (Clears path) a e = nothing _ e
brings (Needs path) a e = needs_nothing _ _ e
brings (Merges taken from to) a e = refl
brings (MergesEach from to) a e = refl
brings (MergesTasks from to) a e = refl
brings (Seeks dest task bytes k j) a e = refl
brings (Measures path bytes) a e = measures_nothing _ _ e

-- a call that changes nothing leaves the namespace, and its answer is the one that stands there
record Looked (s : State) (caller : Caller) (call : Op) (a : Answer) (t : State) : Type 0 where
  same : t ≡ s
  passes : refused s caller call ≡ None
  told : a ≡ answer s.content call

abbrev call_ok : Answer → Result Answer NameFault
call_ok a = Ok a

looks : (call : Op) (s : State) (caller : Caller) (a : Answer) (t : State) → effect s.content call ≡ s.content → barred_after s.barred call ≡ s.barred → call_of s caller call ≡ (Ok a, t) → Looked s caller call a t
looks call s caller a t c b e = by (refused s caller call) refl e
  where
    by : (o : Option NameFault) → refused s caller call ≡ o → settled o s call ≡ (Ok a, t) → Looked s caller call a t
    by None r h = record { same = sym (ap (λ p. p.1) h) ∙ rw (c, b) refl; passes = r; told = let y : call_ok (answer s.content call) ≡ call_ok a = ap (λ p. p.0) h in cc }
    by (Some f) r h = let y : Err f ≡ Ok a = ap (λ p. p.0) h in absurd cc

-- a line whose answer may bring more lines changes nothing
unchanged : (line : Line) (s : State) (caller : Caller) (a : Answer) (t : State) → may_bring line ≡ true → call_of s caller (op_of line) ≡ (Ok a, t) → Looked s caller (op_of line) a t
unchanged (Does call) s caller a t k e = absurd cc
unchanged (Clears path) s caller a t k e = absurd cc
unchanged (Needs path) s caller a t k e = absurd cc
unchanged (Measures path n) s caller a t k e = absurd cc
unchanged (Merges taken from to) s caller a t k e = looks _ s caller a t refl refl e
unchanged (MergesEach from to) s caller a t k e = looks _ s caller a t refl refl e
unchanged (MergesTasks from to) s caller a t k e = looks _ s caller a t refl refl e
unchanged (Seeks dest task bytes to j) s caller a t k e = looks _ s caller a t refl refl e

heard_step : (line : Line) (rest left : List Line) (s t : State) (caller : Caller) (answer : Result Answer NameFault) (r : Result StepDone CommitFault) → call_of s caller (op_of line) ≡ (answer, t) → heard (line ∷ rest) answer ≡ (r, left) → step_of (line ∷ rest) s caller ≡ ((r, left), t)
heard_step line rest left s t caller answer r e h = rw e (ap (λ x. (x, t)) h)

-- a function that made the call as the call does
as_called : (line : Line) (rest : List Line) (s : State) (caller : Caller) (answer : Result Answer NameFault) (r : Result StepDone CommitFault) (left : List Line) (t : State) → call_of s caller (op_of line) ≡ (answer, t) → is_want answer ≡ false → Hears (line ∷ rest) answer r left → Steps (line ∷ rest) s caller r left t
as_called line rest s caller answer (Ok d) left t e own h = heard_step line rest left s t caller answer _ e h
as_called line rest s caller answer (Err (fault.Names f)) left t e own h = heard_step line rest left s t caller answer _ e h
as_called line rest s caller answer (Err fault.OutputMissing) left t e own h = heard_step line rest left s t caller answer _ e h
as_called line rest s caller answer (Err fault.WrongLength) left t e own h = heard_step line rest left s t caller answer _ e h
as_called line rest s caller answer (Err fault.DestinationExists) left t e own h = heard_step line rest left s t caller answer _ e h
as_called line rest s caller answer (Err fault.WrongAnswer) left t e own h = heard_step line rest left s t caller answer _ e h
as_called line rest s caller answer (Err fault.Over) left t e own h = heard_step line rest left s t caller answer _ e h
as_called line rest s caller (Ok a) (Err fault.NoMemory) left t e own h =
    let u = unchanged line s caller a t (brings line a h.1) e in
    (h.0, u.same, (u.passes, ap (λ b. may_want_memory s (op_of line) || b) (ap (λ a. lines_follow (replaced line (Ok a))) (sym u.told) ∙ h.1) ∙ or_right (may_want_memory s (op_of line))))
as_called line rest s caller (Err f) (Err fault.NoMemory) left t e own h = let own2 : is_want (Err names.NoMemory) ≡ false = rw h.1 at own in absurd cc

abbrev told : CommitFault → Result StepDone CommitFault
told f = Err f

no_memory_heard : (line : Line) (rest : List Line) → (heard (line ∷ rest) (Err names.NoMemory)).0 ≡ told fault.NoMemory
no_memory_heard line rest = rw (fault_at-own line names.NoMemory refl) refl

-- a function that had no memory for the call
had_none : (line : Line) (rest : List Line) (s : State) (caller : Caller) (r : Result StepDone CommitFault) (left : List Line) (t : State) → t ≡ s → refused s caller (op_of line) ≡ None → may_want_memory s (op_of line) ≡ true → Hears (line ∷ rest) (Err names.NoMemory) r left → Steps (line ∷ rest) s caller r left t
had_none line rest s caller (Err fault.NoMemory) left t same none takes h = (h.0, same, (none, rw takes refl))
had_none line rest s caller (Ok d) left t same none takes h = let y : told fault.NoMemory ≡ Ok d = sym (no_memory_heard line rest) ∙ ap (λ p. p.0) h in absurd cc
had_none line rest s caller (Err (fault.Names f)) left t same none takes h = let y : told fault.NoMemory ≡ told (fault.Names f) = sym (no_memory_heard line rest) ∙ ap (λ p. p.0) h in absurd cc
had_none line rest s caller (Err fault.OutputMissing) left t same none takes h = let y : told fault.NoMemory ≡ told fault.OutputMissing = sym (no_memory_heard line rest) ∙ ap (λ p. p.0) h in absurd cc
had_none line rest s caller (Err fault.WrongLength) left t same none takes h = let y : told fault.NoMemory ≡ told fault.WrongLength = sym (no_memory_heard line rest) ∙ ap (λ p. p.0) h in absurd cc
had_none line rest s caller (Err fault.DestinationExists) left t same none takes h = let y : told fault.NoMemory ≡ told fault.DestinationExists = sym (no_memory_heard line rest) ∙ ap (λ p. p.0) h in absurd cc
had_none line rest s caller (Err fault.WrongAnswer) left t same none takes h = let y : told fault.NoMemory ≡ told fault.WrongAnswer = sym (no_memory_heard line rest) ∙ ap (λ p. p.0) h in absurd cc
had_none line rest s caller (Err fault.Over) left t same none takes h = let y : told fault.NoMemory ≡ told fault.Over = sym (no_memory_heard line rest) ∙ ap (λ p. p.0) h in absurd cc

pub step_from_took : (lines : List Line) (s : State) (caller : Caller) (call : Op) (answer : Result Answer NameFault) (r : Result StepDone CommitFault) (left : List Line) (t : State) → next_call lines ≡ Some call → Made s caller call answer t → Hears lines answer r left → Steps lines s caller r left t
step_from_took [] s caller call answer r left t is m h = absurd cc
step_from_took (line ∷ rest) s caller call answer r left t is m h = by call (let y : op_of line ≡ call = cc in y) m
  where
    by : (call : Op) → op_of line ≡ call → Made s caller call answer t → Steps (line ∷ rest) s caller r left t
    by call e (as_call made own) = as_called line rest s caller answer r left t (rw e made) own h
    by call e (no_memory want same none takes) = had_none line rest s caller r left t same (rw e none) (rw e takes) (rw (← want) h)
