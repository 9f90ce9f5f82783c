-- Turn after turn.
use Rattle.std.specs.Prelude.{⊤}
use Rattle.std.proofs.Common.{◌≡◌, ℕ, suc, true, false, List, [], ◌++◌, Option, Some, None, IfSome, refl, sym, ap, subst, ◌∙◌, append_assoc, append-nil}
use Rattle.std.specs.Io.KnownBytes.{Appends}
use Rattle.mr_commit.specs.Recovery.{Recovery}
use Rattle.mr_pipe.specs.declared.form.Form.{Form}
use Rattle.mr_step.specs.declared.ending.Ending.{Ending}
use Rattle.mr_step.specs.declared.ending.Ending.TheVariants.{Cut}
use Rattle.mr_pipe.specs.Stream.{GivesLine, lines_in}
use Rattle.mr_pipe.proofs.Appending.{in_turn, nothing}
use Rattle.mr_step.specs.Talk.{Begins, HearsLine, Says, Talks}
use Rattle.mr_step.specs.Talk.Next.{Ends, GoesOn}
use Rattle.mr_step.specs.inner.Said.{GoesTo, Leads, next_at}

-- ---- one turn

pub cut_leads : (form : Form) (old new : Recovery) (n : ℕ) (line : List ℕ) (before after sent : Option (List ℕ)) → GivesLine false line before after → Leads form (Some Cut) old new n before after sent sent
cut_leads form old new n line None after sent gives = tt
cut_leads form old new n line (Some before) after sent gives = ([], nothing sent, subst (λ lines. Talks form (GoesOn old) n lines [] Cut) (sym gives.2) (refl, refl))

pub turn_leads : (form : Form) (ending : Option Ending) (old new : Recovery) (n : ℕ) (line text : List ℕ) (before after sent now : Option (List ℕ)) → GivesLine true line before after →
    HearsLine form old n line text (next_at ending new) → Appends sent now text → Leads form ending old new n before after sent now
turn_leads form None old new n line text None after sent now gives hears sends = tt
turn_leads form (Some ending) old new n line text None after sent now gives hears sends = tt
turn_leads form None old new n line text (Some before) after sent now gives hears sends = (
  gives.0,
  gives.1,
  text,
  sends,
  λ more ending talks.
      subst (λ lines. Talks form (GoesOn old) n lines (text ++ more) ending) (sym gives.2) (text, more, GoesOn new, refl, hears, talks),
)
turn_leads form (Some ending) old new n line text (Some before) after sent now gives hears sends =
    (text, sends, subst (λ lines. Talks form (GoesOn old) n lines text ending) (sym gives.2) (text, [], Ends ending, sym (append-nil text), hears, (refl, refl)))

-- ---- all turns

-- what was said so far, in front of what the rest would be, is the whole
abbrev pub Kept : Form → Recovery → (input was : Option (List ℕ)) → Recovery → ℕ → (left now : Option (List ℕ)) → Type 0
Kept form first None was moves n left now = ⊤
Kept form first (Some input) was moves n left now =
    (rest : List ℕ) × (left ≡ Some rest) × (said : List ℕ) × Appends was now said × GoesTo form first 1 (lines_in input) said moves n (lines_in rest)

pub kept_first : (form : Form) (first : Recovery) (input was : Option (List ℕ)) → Kept form first input was first 1 input was
kept_first form first None was = tt
kept_first form first (Some input) was = (input, refl, [], nothing was, λ more ending talks. talks)

pub kept_more : (form : Form) (first moves new : Recovery) (input was : Option (List ℕ)) (n : ℕ) (left now after then : Option (List ℕ)) → Kept form first input was moves n left now → Leads form None moves new n left after now then → Kept form first input was new (suc n) after then
kept_more form first moves new None was n left now after then kept leads = tt
kept_more form first moves new (Some input) was n left now after then kept leads =
    let one = subst (λ l. Leads form None moves new n l after now then) kept.1 leads in (
      one.0,
      one.1,
      kept.2 ++ one.2,
      in_turn was now then kept.2 one.2 kept.3 one.3,
      λ more ending talks.
          subst (λ text. Talks form (GoesOn first) 1 (lines_in input) text ending) (sym (append_assoc kept.2 one.2 more)) (kept.4 (one.2 ++ more) ending (one.4 more ending talks)),
    )

pub kept_end : (form : Form) (first moves new : Recovery) (input was : Option (List ℕ)) (n : ℕ) (left now after then : Option (List ℕ)) (ending : Ending) → Kept form first input was moves n left now → Leads form (Some ending) moves new n left after now then →
    IfSome input (λ input. (said : List ℕ) × Appends was then said × Talks form (GoesOn first) 1 (lines_in input) said ending)
kept_end form first moves new None was n left now after then ending kept leads = tt
kept_end form first moves new (Some input) was n left now after then ending kept leads =
    let one = subst (λ l. Leads form (Some ending) moves new n l after now then) kept.1 leads in
    (kept.2 ++ one.0, in_turn was now then kept.2 one.0 kept.3 one.1, kept.4 one.0 ending one.2)

-- ---- from the first call on

pub says : (form : Form) (first now : Recovery) (text : List ℕ) (input was mid then : Option (List ℕ)) (ending : Ending) → Begins form first text (GoesOn now) → Appends was mid text →
    IfSome input (λ input. (said : List ℕ) × Appends mid then said × Talks form (GoesOn now) 1 (lines_in input) said ending) → IfSome input (λ input. (said : List ℕ) × Appends was then said × Says form first (lines_in input) said ending)
says form first now text None was mid then ending begins sends goes = tt
says form first now text (Some input) was mid then ending begins sends goes =
    (text ++ goes.0, in_turn was mid then text goes.0 sends goes.1, (text, goes.0, GoesOn now, refl, begins, goes.2))

pub says_at_once : (form : Form) (first : Recovery) (text : List ℕ) (input was then : Option (List ℕ)) (ending : Ending) → Begins form first text (Ends ending) → Appends was then text →
    IfSome input (λ input. (said : List ℕ) × Appends was then said × Says form first (lines_in input) said ending)
says_at_once form first text None was then ending begins sends = tt
says_at_once form first text (Some input) was then ending begins sends =
    (text, sends, (text, [], Ends ending, sym (append-nil text), begins, (refl, refl)))
