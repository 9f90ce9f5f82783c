-- Which calls of a master reach the mark of a begun commit, and which phases follow.
use Rattle.std.proofs.Common.{ℕ, zero, suc, ◌≡◌, refl, sym, subst, Bool, true, false, List, [], ◌∷◌, Option, Some, None, nat_le, ◌⊎◌, inl, inr}
use Rattle.mr_world_model.specs.Ids.{Attempt, Path, job_attempt, commit_started, commit_success, commit_fail, marker, temporary, committed}
use Rattle.mr_world_model.specs.Records.{Record}
use Rattle.mr_world_model.specs.Packets.{Config, Store, Reply, Names, Append_record, Flush, Read_history, Found, Bytes, Entries, Refused}
use Rattle.mr_world_model.specs.Content.{Superseded, Entry, entry_at, Op, Create, Delete, Rename, MkDirs}
use Rattle.mr_world_model.specs.Hearing.{Seen, Phase, Opening, Setting_up, Recovering, Running, Committing, Failing, Finished, Stopped, Commit_step, List_job, Merging, Cleaning, Marking, Succeeding, Failing_mark, Aborting, Merge_step, Look_at, List_into, Delete_then, Move_to, Recover_step, Measure, Look_below, Clear_own, Move_from, Todo_winner}
use Rattle.mr_world_model.specs.Duties.{right_length, bar_call, first_bar, is_fine, is_cleared, is_superseded, recover_rest, recovering, committing, merging, refused, duty_of}
use Rattle.mr_world_model.specs.World.{World}
use Rattle.mr_world_model.proofs.Basic.{if_cases}
use Rattle.mr_world_model.proofs.Lists.{Each}
use Rattle.mr_world_model.proofs.Mild.{OurMerge, OurStep, Ours}
use Rattle.mr_world_model.proofs.Regions.{AwayFrom}
use Rattle.mr_world_model.proofs.Apart.{Diverge, elsewhere-away}
use Rattle.mr_world_model.specs.Duties.{mark_at, record_call, recover_call, merge_call, commit_call, all_won, wants_flush}

abbrev pub Started : World → Option Entry
Started w = entry_at w.content commit_started

-- which calls reach the mark
abbrev pub Reaches : Phase → Op → Type 0
Reaches p op = AwayFrom op commit_started ⊎ ((p ≡ Running) × (op ≡ Create commit_started true))

abbrev pub CallReaches : Phase → Option Store → Type 0
CallReaches p None = Unit {0}
CallReaches p (Some (Names op)) = Reaches p op
CallReaches p (Some (Append_record r)) = Unit {0}
CallReaches p (Some Flush) = Unit {0}
CallReaches p (Some Read_history) = Unit {0}

pub mark-reaches : (p : Phase) (n : ℕ) → CallReaches p (Some (mark_at n))
mark-reaches p zero = inl (λ x. tt)
mark-reaches p (suc zero) = inl (λ x. tt)
mark-reaches p (suc (suc zero)) = inl (λ x. tt)
mark-reaches p (suc (suc (suc n))) = tt

pub record-reaches : (p : Phase) (due tail : List Record) (o : Option Store) → CallReaches p o → CallReaches p (record_call due tail o)
record-reaches p (r ∷ due) tail o q = tt
record-reaches p [] tail o q = if_cases (CallReaches p) (wants_flush tail) _ _ (λ t. tt) (λ t. q)

pub bar-reaches : (p : Phase) (m : Option Attempt) (o : Option Store) → CallReaches p o → CallReaches p (bar_call m o)
bar-reaches p None o q = q
bar-reaches p (Some a) o q = inl (λ x. tt)

pub recover-reaches : (p : Phase) (k : ℕ) (ws : List Todo_winner) (at : Recover_step) → CallReaches p (recover_call k ws at)
recover-reaches p k [] at = tt
recover-reaches p k (x ∷ ws) (Look_below j) = inl (λ x. tt)
recover-reaches p k (x ∷ ws) (Measure j) = inl (λ x. tt)
recover-reaches p k (x ∷ ws) (Clear_own j) = inl (λ y. elsewhere-away (Delete (committed k x.task)) commit_started y (inl refl))
recover-reaches p k (x ∷ ws) (Move_from j) = inl (λ y. elsewhere-away (Rename (committed j x.task) (committed k x.task)) commit_started y (inl refl, inl refl))

pub ours-away : (q : Path) → Ours q → Diverge q commit_started
ours-away q o = subst (λ z. Diverge z commit_started) (sym o.1) (inl refl)

pub merge-reaches : (p : Phase) (ms : List Merge_step) → Each OurStep ms → CallReaches p (merge_call ms)
merge-reaches p [] o = tt
merge-reaches p (Look_at f t d ∷ ms) o = inl (λ x. tt)
merge-reaches p (List_into f t ∷ ms) o = inl (λ x. tt)
merge-reaches p (Delete_then f t ∷ ms) o = inl (λ y. elsewhere-away (Delete t) commit_started y (ours-away t o.0.1))
merge-reaches p (Move_to f t ∷ ms) o = inl (λ y. elsewhere-away (Rename f t) commit_started y (ours-away f o.0.0, ours-away t o.0.1))

pub commit-reaches : (p : Phase) (k : ℕ) (at : Commit_step) → OurMerge (Committing at) → CallReaches p (commit_call k at)
commit-reaches p k List_job o = inl (λ x. tt)
commit-reaches p k (Merging ms) o = merge-reaches p ms o
commit-reaches p k Cleaning o = inl (λ y. elsewhere-away (Delete temporary) commit_started y (inl refl))
commit-reaches p k Marking o = inl (λ y. elsewhere-away (Create marker true) commit_started y (inl refl))
commit-reaches p k Succeeding o = inl (λ y. elsewhere-away (Create commit_success true) commit_started y (inr (inl refl)))
commit-reaches p k Failing_mark o = inl (λ y. elsewhere-away (Create commit_fail true) commit_started y (inr (inl refl)))
commit-reaches p k Aborting o = inl (λ y. elsewhere-away (Delete temporary) commit_started y (inl refl))

pub duty-reaches : (cfg : Config) (k : ℕ) (s : Seen) (p : Phase) → OurMerge p → CallReaches p (duty_of cfg k s p)
unfolding duty_of
duty-reaches cfg k s (Opening n) o = mark-reaches (Opening n) n
duty-reaches cfg k s Setting_up o = inl (λ y. elsewhere-away (MkDirs (job_attempt k)) commit_started y (inl refl))
duty-reaches cfg k s (Recovering ws at) o = recover-reaches (Recovering ws at) k ws at
duty-reaches cfg k s Running o = bar-reaches Running (first_bar s s.bars) _ (record-reaches Running s.due s.tail _ (if_cases (CallReaches Running) (all_won s.recorded s.winners cfg.job cfg.reduces) _ _ (λ t. inr (refl, refl)) (λ t. tt)))
duty-reaches cfg k s (Failing f) o = record-reaches (Failing f) s.due s.tail _ (if_cases (CallReaches (Failing f)) f _ _ (λ t. inl (λ y. elsewhere-away (Delete temporary) commit_started y (inl refl))) (λ t. tt))
duty-reaches cfg k s (Committing at) o = commit-reaches (Committing at) k at o
duty-reaches cfg k s (Finished b) o = tt
duty-reaches cfg k s Stopped o = tt

-- Phases that follow

abbrev pub is_settled : Phase → Bool
is_settled (Committing at) = true
is_settled (Finished b) = true
is_settled Stopped = true
is_settled _ = false

abbrev pub may_run : Phase → Bool
may_run (Recovering ws at) = true
may_run Running = true
may_run Stopped = true
may_run _ = false

pub refused-settled : (r : Reply) → is_settled (refused r) ≡ true
refused-settled (Refused (Superseded f)) = refl
refused-settled _ = refl

pub merging-settled : (ms : List Merge_step) (r : Reply) (ok : Commit_step) → is_settled (merging ms r ok) ≡ true
merging-settled [] r ok = refused-settled r
merging-settled (Look_at f t d ∷ ms) (Found None) ok = refl
merging-settled (Look_at f t d ∷ ms) (Found (Some k)) ok = refl
merging-settled (Look_at f t d ∷ ms) (Refused (Superseded g)) ok = refl
merging-settled (Look_at f t d ∷ ms) _ ok = refl
merging-settled (List_into f t ∷ ms) (Entries es) ok = refl
merging-settled (List_into f t ∷ ms) (Refused (Superseded g)) ok = refl
merging-settled (List_into f t ∷ ms) _ ok = refl
merging-settled (Delete_then f t ∷ ms) r ok = if_cases (λ q. is_settled q ≡ true) (is_fine r) _ _ (λ t. refl) (λ t. refused-settled r)
merging-settled (Move_to f t ∷ ms) r ok = if_cases (λ q. is_settled q ≡ true) (is_fine r) _ _ (λ t. refl) (λ t. refused-settled r)

pub committing-settled : (k : ℕ) (at : Commit_step) (r : Reply) → is_settled (committing k at r) ≡ true
committing-settled k List_job (Entries es) = refl
committing-settled k List_job (Refused (Superseded g)) = refl
committing-settled k List_job _ = refl
committing-settled k (Merging ms) r = merging-settled ms r _
committing-settled k Cleaning r = if_cases (λ q. is_settled q ≡ true) (is_cleared r) _ _ (λ t. refl) (λ t. refused-settled r)
committing-settled k Marking r = if_cases (λ q. is_settled q ≡ true) (is_fine r) _ _ (λ t. refl) (λ t. refused-settled r)
committing-settled k Succeeding r = if_cases (λ q. is_settled q ≡ true) (is_fine r) _ _ (λ t. refl) (λ t. refl)
committing-settled k Failing_mark r = if_cases (λ q. is_settled q ≡ true) (is_fine r) _ _ (λ t. refl) (λ t. refl)
committing-settled k Aborting r = if_cases (λ q. is_settled q ≡ true) (is_superseded r) _ _ (λ t. refl) (λ t. refl)

pub rest-runs : (k : ℕ) (ws : List Todo_winner) → may_run (recover_rest k ws) ≡ true
rest-runs k [] = refl
rest-runs k (w ∷ ws) = if_cases (λ q. may_run q ≡ true) (nat_le k 1) _ _ (λ t. refl) (λ t. refl)

pub recovering-runs : (k : ℕ) (ws : List Todo_winner) (at : Recover_step) (r : Reply) → may_run (recovering k ws at r) ≡ true
recovering-runs k ws (Look_below j) (Found (Some kind)) = refl
recovering-runs k ws (Look_below j) (Found None) = if_cases (λ q. may_run q ≡ true) (nat_le j 1) _ _ (λ t. refl) (λ t. refl)
recovering-runs k ws (Look_below j) _ = refl
recovering-runs k ws (Measure j) (Bytes bs) = if_cases (λ q. may_run q ≡ true) (right_length ws bs) _ _ (λ t. refl) (λ t. refl)
recovering-runs k ws (Measure j) _ = refl
recovering-runs k ws (Clear_own j) r = if_cases (λ q. may_run q ≡ true) (is_cleared r) _ _ (λ t. refl) (λ t. refl)
recovering-runs k [] (Move_from j) r = refl
recovering-runs k (w ∷ ws) (Move_from j) r = if_cases (λ q. may_run q ≡ true) (is_fine r) _ _ (λ t. rest-runs k ws) (λ t. refl)
