use Rattle.std.proofs.Common.{◌≡◌, ◌∙◌, ℕ, List, sym, subst, None}
use Rattle.mr_jobs.specs.MaxByKey.{number_of}
use Rattle.mr_jobs.proofs.Numbers.{not_utf8, not_parsed}
use Rattle.mr_jobs.proofs.max_by_key.number_of.Goals as goal

pub returns-in_default : goal.returns-in_default
returns-in_default c = not_utf8 c.args.word.now c.in_default.ensures.cases.0

pub returns-in-Err : goal.returns-in-Err
returns-in-Err c =
    subst (λ (word : List ℕ). None ≡ number_of word) c.in-Ok.ensures.cases.0 (not_parsed c.in-Ok.text.now c.in-Err.field-0 c.in-Err.ensures.value.0 (sym c.is_digits.ensures ∙ c.if-not-is_digits.false))
