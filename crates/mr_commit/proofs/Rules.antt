-- What follows from an answer by each rule of a line.
use Rattle.std.proofs.Common.{◌≡◌, ◌<◌, ℕ, true, List, [], ◌∷◌, map, filter, length, Option, Some, None, Result, Ok, Err, refl, sym, ap, ◌∙◌, subst, ◌⊎◌, ⊎_elim, arith}
use Rattle.std.specs.Prelude.{IfOk, IfErr}
use Rattle.mr_names_tree.specs.declared.node.Entry.{Entry}
use Rattle.mr_names_tree.specs.declared.node.Kind.{Kind}
use Rattle.mr_names_tree.specs.declared.node.Kind.TheVariants as kind
use Rattle.mr_names.specs.declared.op.Op.{Op}
use Rattle.mr_names.specs.declared.op.Answer.{Answer}
use Rattle.mr_commit.specs.declared.fault.CommitFault.{CommitFault}
use Rattle.mr_commit.specs.declared.fault.CommitFault.TheVariants as fault
use Rattle.mr_commit.specs.declared.line.Rule.{Rule}
use Rattle.mr_commit.specs.declared.line.Rule.TheVariants as rule
use Rattle.mr_commit.specs.Line.{Line, answered, found, listed, needed, merging, merging_child, merging_task, is_task, lines_follow}
use Rattle.mr_commit.specs.inner.TableLine.{line_by, IsWhy}

abbrev pub follows : Rule → Answer → Op → Result (List Line) CommitFault
follows r a call = answered (line_by call r) a

abbrev lines_ok : List Line → Result (List Line) CommitFault
lines_ok lines = Ok lines

-- ---- no more lines, and what has to be there

pub plain_told : (r : Rule) (a : Answer) (lines : List Line) → (r ≡ rule.Plain) ⊎ (r ≡ rule.MissingPasses) → lines ≡ [] → (call : Op) → follows r a call ≡ Ok lines
plain_told r a lines is e call = ⊎_elim (λ p. ap (λ r. follows r a call) p ∙ ap lines_ok (sym e)) (λ p. ap (λ r. follows r a call) p ∙ ap lines_ok (sym e)) is

pub needs_told : (r : Rule) (a : Answer) (there : Option Kind) (k : Kind) (lines : List Line) → r ≡ rule.Needed → there ≡ found a → there ≡ Some k → lines ≡ [] → (call : Op) → follows r a call ≡ Ok lines
needs_told r a there k lines is f some e call = ap (λ r. follows r a call) is ∙ ap needed (sym f ∙ some) ∙ ap lines_ok (sym e)

pub needs_missing : (r : Rule) (a : Answer) (there : Option Kind) → r ≡ rule.Needed → there ≡ found a → there ≡ None → (call : Op) → follows r a call ≡ Err fault.OutputMissing
needs_missing r a there is f none call = ap (λ r. follows r a call) is ∙ ap needed (sym f ∙ none)

-- ---- a merge

pub merge_told : (r : Rule) (taken : Kind) (from to : List (List ℕ)) (a : Answer) (there : Option Kind) (lines : List Line) → r ≡ rule.Merge taken from to → there ≡ found a → lines ≡ merging taken from to there → (call : Op) → follows r a call ≡ Ok lines
merge_told r taken from to a there lines is f e call = ap (λ r. follows r a call) is ∙ ap lines_ok (ap (merging taken from to) (sym f) ∙ sym e)

merging_some : (taken : Kind) (from to : List (List ℕ)) (there : Option Kind) → lines_follow (Ok (merging taken from to there)) ≡ true
merging_some kind.File from to None = refl
merging_some kind.File from to (Some kind.File) = refl
merging_some kind.File from to (Some kind.Dir) = refl
merging_some kind.Dir from to None = refl
merging_some kind.Dir from to (Some kind.File) = refl
merging_some kind.Dir from to (Some kind.Dir) = refl

pub merge_wants : (r : Rule) (taken : Kind) (from to : List (List ℕ)) (a : Answer) → r ≡ rule.Merge taken from to → (call : Op) → lines_follow (follows r a call) ≡ true
merge_wants r taken from to a is call = ap (λ r. lines_follow (follows r a call)) is ∙ merging_some taken from to (found a)

-- ---- the entries of a listing

pub each_told : (r : Rule) (from to : List (List ℕ)) (a : Answer) (es : List Entry) (lines : List Line) → r ≡ rule.MergeEach from to → es ≡ listed a → lines ≡ map (merging_child from to) es → (call : Op) → follows r a call ≡ Ok lines
each_told r from to a es lines is f e call = ap (λ r. follows r a call) is ∙ ap lines_ok (ap (map (merging_child from to)) (sym f) ∙ sym e)

pub tasks_told : (r : Rule) (from to : List (List ℕ)) (a : Answer) (es : List Entry) (lines : List Line) → r ≡ rule.MergeTasks from to → es ≡ listed a → lines ≡ map (merging_task from to) (filter is_task es) → (call : Op) → follows r a call ≡ Ok lines
tasks_told r from to a es lines is f e call = ap (λ r. follows r a call) is ∙ ap lines_ok (ap (λ es. map (merging_task from to) (filter is_task es)) (sym f) ∙ sym e)

mapped_some : (f : Entry → Line) (es : List Entry) → 0 < length es → lines_follow (Ok (map f es)) ≡ true
mapped_some f [] some = absurd (omega arith)
mapped_some f (x ∷ es) some = refl

pub each_wants : (r : Rule) (from to : List (List ℕ)) (a : Answer) (es : List Entry) → r ≡ rule.MergeEach from to → es ≡ listed a → 0 < length es → (call : Op) → lines_follow (follows r a call) ≡ true
each_wants r from to a es is f some call = ap (λ r. lines_follow (follows r a call)) is ∙ ap (λ es. lines_follow (Ok (map (merging_child from to) es))) (sym f) ∙ mapped_some (merging_child from to) es some

pub tasks_wants : (r : Rule) (from to : List (List ℕ)) (a : Answer) (es : List Entry) → r ≡ rule.MergeTasks from to → es ≡ listed a → 0 < length (filter is_task es) → (call : Op) → lines_follow (follows r a call) ≡ true
tasks_wants r from to a es is f some call = ap (λ r. lines_follow (follows r a call)) is ∙ ap (λ es. lines_follow (Ok (map (merging_task from to) (filter is_task es)))) (sym f) ∙ mapped_some (merging_task from to) (filter is_task es) some

-- ---- what a function gives that was asked for the lines

pub told_by : (r : Rule) (a : Answer) (given q : Result (List Line) CommitFault) → ((call : Op) → follows r a call ≡ given) → IfOk q (λ lines. given ≡ Ok lines) → IfOk q (λ lines. (call : Op) → follows r a call ≡ Ok lines)
told_by r a given (Ok lines) is told = λ call. is call ∙ told
told_by r a given (Err f) is told = tt

pub why_by : (r : Rule) (a : Answer) (given q : Result (List Line) CommitFault) → ((call : Op) → follows r a call ≡ given) → IfErr q (λ f. IsWhy given f) → IfErr q (λ f. (call : Op) → IsWhy (follows r a call) f)
why_by r a given (Ok lines) is why = tt
why_by r a given (Err f) is why = λ call. subst (λ l. IsWhy l f) (sym (is call)) why

pub length_why : (r : Rule) (a : Answer) (given q : Result (List Line) CommitFault) → ((call : Op) → follows r a call ≡ given) → IfErr q (λ f. (f ≡ fault.WrongLength) × (given ≡ Err fault.WrongLength)) → IfErr q (λ f. (call : Op) → IsWhy (follows r a call) f)
length_why r a given (Ok lines) is why = tt
length_why r a given (Err f) is why = λ call. subst (λ f. IsWhy (follows r a call) f) (sym why.0) (is call ∙ why.1)
