use Rattle.std.proofs.Common.{◌≡◌, ◌≢◌, Some, ◌∙◌}
use Rattle.std.proofs.lemmas.List.Elements.{All-from_recursion}
use Rattle.mr_log_entries.specs.Texts.{origin_text}
use Rattle.mr_log_entries.proofs.Lacking.{origin_lacks}
use Rattle.mr_log_entries.proofs.entry.Entry.read.Goals as goal

pub returns-in_default-clause-only : goal.returns-in_default-clause-only
returns-in_default-clause-only c e of is =
    let h = c.in_ok-lines.ensures.only e.lines (origin_text e.origin) of.lines (All-from_recursion (λ b. b ≢ 59) (origin_text e.origin) (origin_lacks e.origin)) is in
    absurd (rw c.in_default.is at h)

pub returns-in_default-origin_in-clause-only : goal.returns-in_default-origin_in-clause-only
returns-in_default-origin_in-clause-only c e of is =
    let h = c.in_ok-lines.ensures.only e.lines (origin_text e.origin) of.lines (All-from_recursion (λ b. b ≢ 59) (origin_text e.origin) (origin_lacks e.origin)) is in
    let p = rw c.in-Some.is at h in
    let read = c.in_default-origin_in.ensures.only e.origin of.origin p.1 in
    absurd (cc)

pub returns-clause-only : goal.returns-clause-only
returns-clause-only c e of is =
    let h = c.in_ok-lines.ensures.only e.lines (origin_text e.origin) of.lines (All-from_recursion (λ b. b ≢ 59) (origin_text e.origin) (origin_lacks e.origin)) is in
    let p = rw c.in-Some.is at h in
    let read = c.in-Some-origin_in.ensures.only e.origin of.origin p.1 in
    let lines = c.from_vec.ensures ∙ p.0 in
    let origin : c.in-Some-origin_in.origin ≡ e.origin = cc in
    λ i. Some (record { lines = lines i; origin = origin i })
