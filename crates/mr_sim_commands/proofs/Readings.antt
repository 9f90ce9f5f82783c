-- A line is at most one command, and a script at most one list of them.
use Rattle.std.proofs.Common.{◌≡◌, false, ℕ, List, ◌∷◌, ◌++◌, Some, None, decimal, codes, sym, refl, ap, ap₂, ◌∙◌, arith}
use Rattle.std.proofs.lemmas.Fmt.{decimal_injective}
use Rattle.mr_sim_commands.specs.declared.committer.command.ScriptCommand.{ScriptCommand}
use Rattle.mr_sim_commands.specs.declared.committer.command.ScriptCommand.TheVariants.{As, Raise, Check, Setup, Write, Needs, Commit, Abort, Recover, CommitJob, AbortJob, Bar, By}
use Rattle.mr_script.specs.Lines.{before, after, is_comment, lines_of}
use Rattle.mr_script.specs.Words.{attempt_word}
use Rattle.mr_sim_commands.specs.committer.Script.{task_word, line_of, IsCommand, IsLine}
use Rattle.mr_sim_commands.specs.inner.Verb.{verb_of, rest_of}
use Rattle.mr_sim_commands.specs.Laws.{OneReading, ReadOrBad, OneFirstBad, CommentsAreNoCommands}
use Rattle.mr_script.proofs.Lines.{same-lines, not-both, same-first}
use Rattle.mr_script.proofs.Words.{before-by, after-by, none-after}
use Rattle.mr_script.proofs.Attempts.{no_space-attempt_word, attempt_word-injective, attempt_word-none}
use Rattle.mr_sim_commands.proofs.committer.Tasks.{no_space-task_word, task_word-injective}
use Rattle.mr_sim_commands.proofs.committer.Verbs.{first-line_of, rest-line_of, verb_text-injective}

some_inj : (a b : List ℕ) → Some a ≡ Some b → a ≡ b
some_inj a b e = cc

same_parts : (o p : ScriptCommand) → IsCommand o → IsCommand p → verb_of o ≡ verb_of p → rest_of o ≡ rest_of p → o ≡ p
same_parts (As k) (As m) g h v r = ap As (decimal_injective k m (omega arith) (omega arith) (some_inj (decimal k) (decimal m) r))
same_parts (Raise k) (Raise m) g h v r = ap Raise (decimal_injective k m (omega arith) (omega arith) (some_inj (decimal k) (decimal m) r))
same_parts Check Check g h v r = refl
same_parts Setup Setup g h v r = refl
same_parts (Write a t) (Write b u) g h v r =
    let rest = some_inj (attempt_word a ++ 32 ∷ t) (attempt_word b ++ 32 ∷ u) r in
    let word = sym (before-by 32 (attempt_word a) t (no_space-attempt_word a)) ∙ ap (before 32) rest ∙ before-by 32 (attempt_word b) u (no_space-attempt_word b) in
    let text = some_inj t u (sym (after-by 32 (attempt_word a) t (no_space-attempt_word a)) ∙ ap (after 32) rest ∙ after-by 32 (attempt_word b) u (no_space-attempt_word b)) in
    ap₂ Write (attempt_word-injective a b word) text
same_parts (Needs a) (Needs b) g h v r = ap Needs (attempt_word-injective a b (some_inj (attempt_word a) (attempt_word b) r))
same_parts (Commit a) (Commit b) g h v r = ap Commit (attempt_word-injective a b (some_inj (attempt_word a) (attempt_word b) r))
same_parts (Abort a) (Abort b) g h v r = ap Abort (attempt_word-injective a b (some_inj (attempt_word a) (attempt_word b) r))
same_parts (Recover t None) (Recover u None) g h v r = ap (λ x. Recover x None) (task_word-injective t u (some_inj (task_word t) (task_word u) r))
same_parts (Recover t None) (Recover u (Some n)) g h v r =
    let rest = some_inj (task_word t) (task_word u ++ 32 ∷ decimal n) r in
    let clash : None ≡ Some (decimal n) = sym (none-after 32 (task_word t) (no_space-task_word t)) ∙ ap (after 32) rest ∙ after-by 32 (task_word u) (decimal n) (no_space-task_word u) in
    absurd (cc)
same_parts (Recover t (Some m)) (Recover u None) g h v r =
    let rest = some_inj (task_word t ++ 32 ∷ decimal m) (task_word u) r in
    let clash : Some (decimal m) ≡ None = sym (after-by 32 (task_word t) (decimal m) (no_space-task_word t)) ∙ ap (after 32) rest ∙ none-after 32 (task_word u) (no_space-task_word u) in
    absurd (cc)
same_parts (Recover t (Some m)) (Recover u (Some n)) g h v r =
    let rest = some_inj (task_word t ++ 32 ∷ decimal m) (task_word u ++ 32 ∷ decimal n) r in
    let word = sym (before-by 32 (task_word t) (decimal m) (no_space-task_word t)) ∙ ap (before 32) rest ∙ before-by 32 (task_word u) (decimal n) (no_space-task_word u) in
    let length = some_inj (decimal m) (decimal n) (sym (after-by 32 (task_word t) (decimal m) (no_space-task_word t)) ∙ ap (after 32) rest ∙ after-by 32 (task_word u) (decimal n) (no_space-task_word u)) in
    let low = g.1 in
    let high = h.1 in
    ap₂ (λ x (b : ℕ). Recover x (Some b)) (task_word-injective t u word) (decimal_injective m n (omega arith) (omega arith) length)
same_parts CommitJob CommitJob g h v r = refl
same_parts AbortJob AbortJob g h v r = refl
same_parts (Bar a) (Bar b) g h v r = ap Bar (attempt_word-injective a b (some_inj (attempt_word a) (attempt_word b) r))
same_parts (By None) (By None) g h v r = refl
same_parts (By None) (By (Some b)) g h v r = absurd (attempt_word-none b (sym (some_inj (codes "none") (attempt_word b) r)))
same_parts (By (Some a)) (By None) g h v r = absurd (attempt_word-none a (some_inj (attempt_word a) (codes "none") r))
same_parts (By (Some a)) (By (Some b)) g h v r = ap (λ x. By (Some x)) (attempt_word-injective a b (some_inj (attempt_word a) (attempt_word b) r))
same_parts o p g h v r = absurd (cc)

same_command : (line : List ℕ) (o p : ScriptCommand) → IsLine line o → IsLine line p → o ≡ p
same_command line o p x y =
    let e : line_of o ≡ line_of p = sym x.1 ∙ y.1 in
    same_parts o p x.0 y.0
    (verb_text-injective (verb_of o) (verb_of p) (sym (first-line_of o) ∙ ap (before 32) e ∙ first-line_of p))
    (sym (rest-line_of o) ∙ ap (after 32) e ∙ rest-line_of p)

pub one_reading_law : OneReading
one_reading_law = λ bytes os ps. same-lines IsLine same_command 1 (lines_of bytes) os ps

pub read_or_bad_law : ReadOrBad
read_or_bad_law = λ bytes os k. not-both IsLine 1 (lines_of bytes) os k

pub one_first_bad_law : OneFirstBad
one_first_bad_law = λ bytes j k. same-first IsLine 1 (lines_of bytes) j k

no_comment : (o : ScriptCommand) → is_comment (line_of o) ≡ false
no_comment (As k) = refl
no_comment (Raise k) = refl
no_comment Check = refl
no_comment Setup = refl
no_comment (Write a text) = refl
no_comment (Needs a) = refl
no_comment (Commit a) = refl
no_comment (Abort a) = refl
no_comment (Recover t bytes) = refl
no_comment CommitJob = refl
no_comment AbortJob = refl
no_comment (Bar a) = refl
no_comment (By who) = refl

pub comments_are_no_commands_law : CommentsAreNoCommands
comments_are_no_commands_law = λ line o h. ap is_comment h.1 ∙ no_comment o
