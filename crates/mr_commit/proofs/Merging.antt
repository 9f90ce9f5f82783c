-- The lines that follow from an answer: of a merge, and by the rule of a line.
use Rattle.std.proofs.Common.{◌≡◌, ◌<◌, ℕ, zero, suc, Bool, true, false, cond, List, [], ◌∷◌, filter, length, get_or, refl, sym, ap, ◌∙◌, Ok, Err, Result, subst, arith}
use Rattle.std.specs.Prelude.{IfOk, IfErr}
use Rattle.mr_names_tree.specs.declared.node.Entry.{Entry}
use Rattle.mr_commit.specs.declared.fault.CommitFault.{CommitFault}
use Rattle.mr_commit.specs.declared.fault.CommitFault.TheVariants as fault
use Rattle.mr_commit.specs.declared.line.Rule.{Rule}
use Rattle.mr_names.specs.declared.op.Op.{Op}
use Rattle.mr_names.specs.declared.op.Answer.{Answer}
use Rattle.mr_commit.specs.Line.{Line, op_of, is_answer_to, answered, replaced, is_task}
use Rattle.mr_commit.specs.Steps.{IsFault}
use Rattle.mr_commit.specs.inner.TableLine.{line_by, IsWhy}

-- an entry among them that is a task
pub some-task : (es : List Entry) (i : ℕ) (e : Entry) → i < length es → e ≡ get_or es i e → is_task e ≡ true → 0 < length (filter is_task es)
some-task [] i e less is task = absurd (omega arith)
some-task (x ∷ es) zero e less is task = let own : is_task x ≡ true = ap is_task (sym is) ∙ task in rw own (omega arith)
some-task (x ∷ es) (suc i) e less is task = by (is_task x) (some-task es i e (omega arith) is task)
  where
    by : (b : Bool) → 0 < length (filter is_task es) → 0 < length (cond b (x ∷ filter is_task es) (filter is_task es))
    by true rest = omega arith
    by false rest = rest

-- ---- by the rule

replaced_is : (line : Line) (a : Answer) → is_answer_to (op_of line) a ≡ true → replaced line (Ok a) ≡ answered line a
replaced_is line a own = rw own refl

is_fault : (line : Line) (a : Answer) (f : CommitFault) → IsWhy (replaced line (Ok a)) f → IsFault line (Ok a) f
is_fault line a (fault.Names f) why = why
is_fault line a fault.OutputMissing why = why
is_fault line a fault.WrongLength why = why
is_fault line a fault.DestinationExists why = why
is_fault line a fault.WrongAnswer why = why
is_fault line a fault.Over why = why
is_fault line a fault.NoMemory why = why

-- what follows by the rule of a line follows from an answer of its call
pub lines_told : (line : Line) (call : Op) (rule : Rule) (a : Answer) (r : Result (List Line) CommitFault) → line_by call rule ≡ line → is_answer_to (op_of line) a ≡ true → IfOk r (λ lines. (o : Op) → answered (line_by o rule) a ≡ Ok lines) → IfOk r (λ lines. replaced line (Ok a) ≡ Ok lines)
lines_told line call rule a (Ok lines) is own told = replaced_is line a own ∙ ap (λ l. answered l a) (sym is) ∙ told call
lines_told line call rule a (Err f) is own told = tt

pub fault_told : (line : Line) (call : Op) (rule : Rule) (a : Answer) (r : Result (List Line) CommitFault) → line_by call rule ≡ line → is_answer_to (op_of line) a ≡ true → IfErr r (λ f. (o : Op) → IsWhy (answered (line_by o rule) a) f) → IfErr r (λ f. IsFault line (Ok a) f)
fault_told line call rule a (Ok lines) is own told = tt
fault_told line call rule a (Err f) is own told = is_fault line a f (subst (λ lines. IsWhy lines f) (ap (λ l. answered l a) is ∙ sym (replaced_is line a own)) (told call))
