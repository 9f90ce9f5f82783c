use Rattle.std.proofs.Common.{◌≡◌, ◌++◌, ◌∷◌, Some}
use Rattle.mr_log_entries.specs.Numerals.{number_text}
use Rattle.mr_log_entries.specs.Texts.{origin_text}
use Rattle.mr_log_entries.proofs.reading.origin_in.Goals as goal

pub returns-in_err-boot-clause-only : goal.returns-in_err-boot-clause-only
unfolding origin_text
returns-in_err-boot-clause-only c o h e = absurd (c.in_err-boot.ensures.only o.boot (number_text 64 o.time ++ 32 ∷ number_text 64 o.id) h.boot e)

pub returns-in_err-time-clause-only : goal.returns-in_err-time-clause-only
unfolding origin_text
returns-in_err-time-clause-only c o h e =
    let first = c.in_ok-boot.ensures.only o.boot (number_text 64 o.time ++ 32 ∷ number_text 64 o.id) h.boot e in
    absurd (c.in_err-time.ensures.only o.time (number_text 64 o.id) h.time first.1)

pub returns-in_err-id-clause-only : goal.returns-in_err-id-clause-only
unfolding origin_text
returns-in_err-id-clause-only c o h e =
    let first = c.in_ok-boot.ensures.only o.boot (number_text 64 o.time ++ 32 ∷ number_text 64 o.id) h.boot e in
    let second = c.in_ok-time.ensures.only o.time (number_text 64 o.id) h.time first.1 in
    let read = c.in_err-id.ensures.only o.id h.id second.1 in
    absurd (cc)

pub returns-clause-only : goal.returns-clause-only
unfolding origin_text
returns-clause-only c o h e =
    let first = c.in_ok-boot.ensures.only o.boot (number_text 64 o.time ++ 32 ∷ number_text 64 o.id) h.boot e in
    let second = c.in_ok-time.ensures.only o.time (number_text 64 o.id) h.time first.1 in
    let read = c.in_ok-id.ensures.only o.id h.id second.1 in
    let same : c.in_ok-id.id ≡ o.id = cc in
    λ i. Some (record { boot = first.0 i; time = second.0 i; id = same i })
