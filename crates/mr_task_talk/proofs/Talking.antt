-- Turn after turn.
use Rattle.std.specs.Prelude.{⊤}
use Rattle.std.proofs.Common.{◌≡◌, ℕ, suc, Bool, true, false, List, [], ◌++◌, Option, Some, None, IfSome, refl, sym, ap, subst, append_assoc}
use Rattle.std.specs.Io.KnownBytes.{Appends}
use Rattle.mr_ids.specs.declared.id.TaskId.{TaskId}
use Rattle.mr_task.specs.Calls.{TaskCall}
use Rattle.mr_task.specs.State.{StandsFor}
use Rattle.mr_task.specs.Steps.{Task}
use Rattle.mr_pipe.specs.Stream.{GivesLine, lines_in}
use Rattle.mr_pipe.specs.declared.form.Form.{Form}
use Rattle.mr_pipe.proofs.Appending.{in_turn, nothing}
use Rattle.mr_task_talk.specs.Talk.{Talks, past_behind}
use Rattle.mr_task_talk.specs.inner.Turns.{HearsLine, TalksFor, Turns}

-- ---- one turn

pub end_turns : (form : Form) (m : Task) (n : ℕ) (line : List ℕ) (before after sent : Option (List ℕ)) → GivesLine false line before after → Turns form false m m n before after sent sent
end_turns form m n line None after sent gives = tt
end_turns form m n line (Some before) after sent gives = (gives.2, nothing sent)

pub line_turns : (form : Form) (old new : Task) (n : ℕ) (line text : List ℕ) (before after sent now : Option (List ℕ)) → GivesLine true line before after → HearsLine form old n line text new → Appends sent now text →
    Turns form true old new n before after sent now
line_turns form old new n line text None after sent now gives hears sends = tt
line_turns form old new n line text (Some before) after sent now gives hears sends = (gives.0, line, text, gives.1, gives.2, sends, hears)

-- ---- all turns

-- what was said so far, in front of what the rest would be, is the whole; the machine stands for the calls so far
abbrev pub Kept : Form → TaskId → ℕ → (input was : Option (List ℕ)) → Task → ℕ → (left now : Option (List ℕ)) → Type 0
Kept form t k None was m n left now = ⊤
Kept form t k (Some input) was m n left now =
    (rest : List ℕ) × (calls : List TaskCall) × (said : List ℕ) × (left ≡ Some rest) × StandsFor m t k calls × Appends was now said
    × ((more : List ℕ) → Talks form t k calls n (lines_in rest) more → Talks form t k [] 1 (lines_in input) (said ++ more))

abbrev pub KeptFor : Form → Task → (input was : Option (List ℕ)) → Task → ℕ → (left now : Option (List ℕ)) → Type 0
KeptFor form first input was m n left now = (t : TaskId) (k : ℕ) → StandsFor first t k [] → Kept form t k input was m n left now

pub kept_first : (form : Form) (first : Task) (input was : Option (List ℕ)) → KeptFor form first input was first 1 input was
kept_first form first None was t k h = tt
kept_first form first (Some input) was t k h = (input, [], [], refl, h, nothing was, λ more talks. talks)

more_of : (form : Form) (t : TaskId) (k : ℕ) (input was : Option (List ℕ)) (m new : Task) (n : ℕ) (left now after then : Option (List ℕ)) → Kept form t k input was m n left now → Turns form true m new n left after now then → Kept form t k input was new (suc n) after then
more_of form t k None was m new n left now after then kept turns = tt
more_of form t k (Some input) was m new n left now after then kept turns =
    let turn = subst (λ l. Turns form true m new n l after now then) kept.3 turns in
    let heard = turn.6.2 t k kept.1 kept.4 in (
      turn.0,
      past_behind t k kept.1 turn.6.0,
      kept.2 ++ turn.2,
      turn.3,
      heard.1,
      in_turn was now then kept.2 turn.2 kept.5 turn.5,
      λ more talks.
          subst (λ text. Talks form t k [] 1 (lines_in input) text) (sym (append_assoc kept.2 turn.2 more)) (
          kept.6 (turn.2 ++ more) (
          subst (λ lines. Talks form t k kept.1 n lines (turn.2 ++ more)) (sym turn.4) (turn.6.0, more, turn.6.1, ap (λ x. x ++ more) heard.0, talks))),
    )

pub kept_more : (form : Form) (first m new : Task) (input was : Option (List ℕ)) (n : ℕ) (left now after then : Option (List ℕ)) (goes_on : Bool) → KeptFor form first input was m n left now →
    Turns form goes_on m new n left after now then → goes_on ≡ true → KeptFor form first input was new (suc n) after then
kept_more form first m new input was n left now after then goes_on kept turns is t k h =
    more_of form t k input was m new n left now after then (kept t k h) (subst (λ g. Turns form g m new n left after now then) is turns)

end_of : (form : Form) (t : TaskId) (k : ℕ) (input was : Option (List ℕ)) (m new : Task) (n : ℕ) (left now after then : Option (List ℕ)) → Kept form t k input was m n left now → Turns form false m new n left after now then →
    IfSome input (λ input. (said : List ℕ) × Appends was then said × Talks form t k [] 1 (lines_in input) said)
end_of form t k None was m new n left now after then kept turns = tt
end_of form t k (Some input) was m new n left now after then kept turns =
    let turn = subst (λ l. Turns form false m new n l after now then) kept.3 turns in
    (kept.2 ++ [], in_turn was now then kept.2 [] kept.5 turn.1, kept.6 [] (subst (λ lines. Talks form t k kept.1 n lines []) (sym turn.0) refl))

pub kept_end : (form : Form) (first m new : Task) (input was : Option (List ℕ)) (n : ℕ) (left now after then : Option (List ℕ)) (goes_on : Bool) → KeptFor form first input was m n left now →
    Turns form goes_on m new n left after now then → goes_on ≡ false → TalksFor form first input was then
kept_end form first m new input was n left now after then goes_on kept turns is t k h =
    end_of form t k input was m new n left now after then (kept t k h) (subst (λ g. Turns form g m new n left after now then) is turns)

-- of one task of one generation
pub talks_at : (form : Form) (first : Task) (input was now : Option (List ℕ)) (t : TaskId) (k : ℕ) → TalksFor form first input was now → StandsFor first t k [] →
    IfSome input (λ input. (said : List ℕ) × Appends was now said × Talks form t k [] 1 (lines_in input) said)
talks_at form first input was now t k talks h = talks t k h
