-- Which phases may follow those in which no success will come.
use Rattle.std.proofs.Common.{ℕ, ◌≡◌, refl, Bool, true, false, Some, None, if◌then◌else◌}
use Rattle.std.proofs.lemmas.Bool.{false≢true}
use Rattle.mr_world_model.specs.Ids.{Path}
use Rattle.mr_world_model.specs.Packets.{Store, Reply, Records, Found}
use Rattle.mr_world_model.specs.Hearing.{Seen, Phase, Opening, Setting_up, Recovering, Running, Committing, Failing, Finished, Stopped, List_job, Merging, Cleaning, Marking, Succeeding, Failing_mark, Aborting}
use Rattle.mr_world_model.specs.Duties.{phase_told, is_read, looked, was_read, is_unsuccessful, is_superseded}
use Rattle.mr_world_model.proofs.Basic.{if_cases}
use Rattle.mr_world_model.proofs.Mild.{is_bad, failing-bad}
use Rattle.mr_world_model.proofs.Merge.{created_by, is_created, is_merging}

-- The phases in which no success will come: their calls reach nothing outside the staging folder
abbrev pub is_still : Phase → Bool
is_still (Opening n) = true
is_still (Failing f) = true
is_still (Finished b) = true
is_still Stopped = true
is_still (Committing Aborting) = true
is_still _ = false

pub still-free : (p : Phase) → is_still p ≡ true → ((d : Path) → is_created (created_by p) d ≡ false) × (is_merging p ≡ false)
still-free (Opening n) s = (λ d. refl, refl)
still-free (Failing f) s = (λ d. refl, refl)
still-free (Finished b) s = (λ d. refl, refl)
still-free Stopped s = (λ d. refl, refl)
still-free (Committing Aborting) s = (λ d. refl, refl)
still-free (Committing List_job) s = absurd (false≢true s)
still-free (Committing (Merging ms)) s = absurd (false≢true s)
still-free (Committing Cleaning) s = absurd (false≢true s)
still-free (Committing Marking) s = absurd (false≢true s)
still-free (Committing Succeeding) s = absurd (false≢true s)
still-free (Committing Failing_mark) s = absurd (false≢true s)
still-free p s = absurd (false≢true s)

-- what a still phase may become
abbrev pub may_still : Phase → Bool
may_still Setting_up = true
may_still p = is_still p

pub still-may : (p : Phase) → is_still p ≡ true → may_still p ≡ true
still-may (Committing at) s = s
still-may (Opening n) s = s
still-may (Failing f) s = s
still-may (Finished b) s = s
still-may Stopped s = s
still-may Setting_up s = refl
still-may (Recovering ws at) s = absurd (false≢true s)
still-may Running s = absurd (false≢true s)

pub bad-may : (p : Phase) → is_bad p ≡ true → may_still p ≡ true
bad-may (Failing f) s = refl
bad-may (Finished b) s = refl
bad-may Stopped s = refl
bad-may p s = absurd (false≢true s)

pub open-may : (n : ℕ) (call : Store) (r : Reply) → may_still (if is_read call then was_read r else looked n r) ≡ true
open-may n call r = if_cases (λ p. may_still p ≡ true) (is_read call) _ _ (λ t. read r) (λ t. look r)
  where
    read : (r : Reply) → may_still (was_read r) ≡ true
    read (Records rs) = if_cases (λ p. may_still p ≡ true) (is_unsuccessful rs) _ _ (λ t. refl) (λ t. refl)
    read _ = refl

    look : (r : Reply) → may_still (looked n r) ≡ true
    look (Found (Some k)) = refl
    look (Found None) = refl
    look _ = refl

pub told-may : (k : ℕ) (s : Seen) (p : Phase) (call : Store) (r : Reply) → is_still p ≡ true → may_still (phase_told k s p call r) ≡ true
unfolding phase_told
told-may k s (Opening n) call r t = open-may n call r
told-may k s (Failing f) call r t = bad-may _ (failing-bad f s.tail call r)
told-may k s (Finished b) call r t = refl
told-may k s Stopped call r t = refl
told-may k s (Committing Aborting) call r t = if_cases (λ p. may_still p ≡ true) (is_superseded r) _ _ (λ q. refl) (λ q. refl)
told-may k s (Committing List_job) call r t = absurd (false≢true t)
told-may k s (Committing (Merging ms)) call r t = absurd (false≢true t)
told-may k s (Committing Cleaning) call r t = absurd (false≢true t)
told-may k s (Committing Marking) call r t = absurd (false≢true t)
told-may k s (Committing Succeeding) call r t = absurd (false≢true t)
told-may k s (Committing Failing_mark) call r t = absurd (false≢true t)
told-may k s Setting_up call r t = absurd (false≢true t)
told-may k s (Recovering ws at) call r t = absurd (false≢true t)
told-may k s Running call r t = absurd (false≢true t)
