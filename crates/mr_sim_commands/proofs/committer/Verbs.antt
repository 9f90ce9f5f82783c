-- The verbs, and the two parts of a command's line.
use Rattle.std.specs.List.{slice_index_or}
use Rattle.std.proofs.Math.Nat.{eq-or-lt_of_le}
use Rattle.std.proofs.Common.{inl, inr, ◌≡◌, ◌<◌, ◌≤◌, ◌+◌, ◌∷◌, [], rules, arith, ℕ, List, length, cond, eqb, slice_index, IfNone, Some, None, Option, refl, sym, ap, ◌∙◌}
use Rattle.mr_sim_commands.specs.declared.committer.command.Verb.{Verb}
use Rattle.mr_sim_commands.specs.declared.committer.command.Verb.TheVariants as verb
use Rattle.mr_script.specs.Lines.{before, after}
use Rattle.mr_sim_commands.specs.declared.committer.command.ScriptCommand.{ScriptCommand}
use Rattle.mr_sim_commands.specs.declared.committer.command.ScriptCommand.TheVariants.{As, Raise, Check, Setup, Write, Needs, Commit, Abort, Recover, CommitJob, AbortJob, Bar, By}
use Rattle.mr_sim_commands.specs.committer.Script.{line_of, IsCommand, IsBad}
use Rattle.mr_sim_commands.specs.inner.Verb.{verb_text, verb_of, rest_of}

pub first-line_of : (o : ScriptCommand) → before 32 (line_of o) ≡ verb_text (verb_of o)
first-line_of (As k) = refl
first-line_of (Raise k) = refl
first-line_of Check = refl
first-line_of Setup = refl
first-line_of (Write a text) = refl
first-line_of (Needs a) = refl
first-line_of (Commit a) = refl
first-line_of (Abort a) = refl
first-line_of (Recover t bytes) = refl
first-line_of CommitJob = refl
first-line_of AbortJob = refl
first-line_of (Bar a) = refl
first-line_of (By who) = refl

pub rest-line_of : (o : ScriptCommand) → after 32 (line_of o) ≡ rest_of o
rest-line_of (As k) = refl
rest-line_of (Raise k) = refl
rest-line_of Check = refl
rest-line_of Setup = refl
rest-line_of (Write a text) = refl
rest-line_of (Needs a) = refl
rest-line_of (Commit a) = refl
rest-line_of (Abort a) = refl
rest-line_of (Recover t bytes) = refl
rest-line_of CommitJob = refl
rest-line_of AbortJob = refl
rest-line_of (Bar a) = refl
rest-line_of (By who) = refl

-- no two verbs have one text
verb_back : List ℕ → Verb
verb_back w =
    cond (eqb (length w) 2) (cond (eqb (slice_index w 0) 97) verb.As verb.By)
    (cond (eqb (length w) 3) verb.Bar
    (cond (eqb (length w) 6) verb.Commit
    (cond (eqb (length w) 7) verb.Recover
    (cond (eqb (length w) 8) verb.AbortJob
    (cond (eqb (length w) 9) verb.CommitJob
    (cond (eqb (slice_index w 0) 114) verb.Raise
    (cond (eqb (slice_index w 0) 99) verb.Check
    (cond (eqb (slice_index w 0) 115) verb.Setup
    (cond (eqb (slice_index w 0) 97) verb.Abort
    (cond (eqb (slice_index w 0) 119) verb.Write verb.Needs))))))))))

back : (v : Verb) → verb_back (verb_text v) ≡ v
unfolding verb_back
back verb.As = refl
back verb.Raise = refl
back verb.Check = refl
back verb.Setup = refl
back verb.Write = refl
back verb.Needs = refl
back verb.Commit = refl
back verb.Abort = refl
back verb.Recover = refl
back verb.CommitJob = refl
back verb.AbortJob = refl
back verb.Bar = refl
back verb.By = refl

pub verb_text-injective : (v w : Verb) → verb_text v ≡ verb_text w → v ≡ w
verb_text-injective v w e = sym (back v) ∙ ap verb_back e ∙ back w

-- what is not the command of a line's verb and rest is no command of the line
pub bad_from_rest : {A : Type 0} (r : Option A) (line : List ℕ) (v : Verb) (rest : Option (List ℕ)) → before 32 line ≡ verb_text v → after 32 line ≡ rest
    → IfNone r ((o : ScriptCommand) → IsCommand o → verb_of o ≡ v → rest_of o ≡ rest → ⊥) → IfNone r (IsBad line)
bad_from_rest None line v rest w r none = λ o h.
    none o h.0 (verb_text-injective (verb_of o) v (sym (first-line_of o) ∙ ap (before 32) (sym h.1) ∙ w)) (sym (rest-line_of o) ∙ ap (after 32) (sym h.1) ∙ r)
bad_from_rest (Some x) line v rest w r none = tt

-- a line whose first word is no verb
pub bad_from_word : (line word : List ℕ) → before 32 line ≡ word → ((v : Verb) → word ≡ verb_text v → ⊥) → IsBad line
bad_from_word line word w none = λ o h. none (verb_of o) (sym w ∙ ap (before 32) h.1 ∙ first-line_of o)

-- the place of a verb among all verbs
abbrev pub place_of : Verb → ℕ
place_of verb.As = 0
place_of verb.Raise = 1
place_of verb.Check = 2
place_of verb.Setup = 3
place_of verb.Write = 4
place_of verb.Needs = 5
place_of verb.Commit = 6
place_of verb.Abort = 7
place_of verb.Recover = 8
place_of verb.CommitJob = 9
place_of verb.AbortJob = 10
place_of verb.Bar = 11
place_of verb.By = 12

abbrev pub verbs : List Verb
verbs = verb.As ∷ verb.Raise ∷ verb.Check ∷ verb.Setup ∷ verb.Write ∷ verb.Needs ∷ verb.Commit ∷ verb.Abort ∷ verb.Recover ∷ verb.CommitJob ∷ verb.AbortJob ∷ verb.Bar ∷ verb.By ∷ []

pub at_place : (v d : Verb) → v ≡ slice_index_or verbs (place_of v) d
at_place verb.As d = refl
at_place verb.Raise d = refl
at_place verb.Check d = refl
at_place verb.Setup d = refl
at_place verb.Write d = refl
at_place verb.Needs d = refl
at_place verb.Commit d = refl
at_place verb.Abort d = refl
at_place verb.Recover d = refl
at_place verb.CommitJob d = refl
at_place verb.AbortJob d = refl
at_place verb.Bar d = refl
at_place verb.By d = refl

pub placed : (v : Verb) → place_of v < 13
placed verb.As = search rules
placed verb.Raise = search rules
placed verb.Check = search rules
placed verb.Setup = search rules
placed verb.Write = search rules
placed verb.Needs = search rules
placed verb.Commit = search rules
placed verb.Abort = search rules
placed verb.Recover = search rules
placed verb.CommitJob = search rules
placed verb.AbortJob = search rules
placed verb.Bar = search rules
placed verb.By = search rules

-- a word that is none of the first verbs, nor the next one, is none of these
pub other_place : (i : ℕ) (word next : List ℕ) (d : Verb) → ((v : Verb) → place_of v < i → word ≡ verb_text v → ⊥) → next ≡ verb_text (slice_index_or verbs i d) → (word ≡ next → ⊥) →
    (v : Verb) → place_of v < i + 1 → word ≡ verb_text v → ⊥
other_place i word next d earlier is differs v below e =
    let most : place_of v ≤ i = omega arith in
    elim (eq-or-lt_of_le most) [
      | inl same ↦ differs (e ∙ ap verb_text (at_place v d) ∙ ap (λ k. verb_text (slice_index_or verbs k d)) same ∙ sym is)
      | inr less ↦ earlier v less e
    ]
