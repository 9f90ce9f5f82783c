-- A superseded master is answered that it is superseded or a fault, so it stops, fails to commit, or ends a job that it was aborting.
use Rattle.std.proofs.Common.{ℕ, ◌≡◌, refl, Bool, true, false, List, [], ◌∷◌, nat_lt}
use Rattle.mr_world_model.specs.Content.{Superseded}
use Rattle.mr_world_model.specs.Packets.{Store, Reply, Names, Append_record, Flush, Read_history, Refused, Fault}
use Rattle.mr_world_model.specs.Hearing.{Seen, Phase, Opening, Setting_up, Recovering, Running, Committing, Failing, Finished, Stopped, Commit_step, List_job, Merging, Cleaning, Marking, Succeeding, Failing_mark, Aborting, Merge_step, Look_at, List_into, Delete_then, Move_to, Recover_step, Look_below, Measure, Clear_own, Move_from, Todo_winner}
use Rattle.mr_world_model.specs.Duties.{phase_told, recovering, running, failing, committing, merging, is_read}
use Rattle.mr_world_model.specs.Records.{Record}
use Rattle.mr_world_model.specs.World.{World, Weather, Calm, Unavailable, Unanswered, reply_of, reply_under}
use Rattle.mr_world_model.proofs.Basic.{if_cases}

pub data IsLate : Reply → Type 0 where
  superseded : (f : ℕ) → IsLate (Refused (Superseded f))
  faulty : IsLate Fault

pub late-reply : (w : World) (k : ℕ) (call : Store) (g : Weather) → nat_lt k w.fence ≡ true → IsLate (reply_under g (reply_of w k call))
unfolding reply_of
late-reply w k call Unavailable l = faulty
late-reply w k call Unanswered l = faulty
late-reply w k call Calm l = rw l (superseded w.fence)

pub data Late (p q : Phase) : Type 0 where
  stops : q ≡ Stopped → Late p q
  fails : q ≡ Committing Failing_mark → Late p q
  ends : p ≡ Committing Aborting → q ≡ Finished false → Late p q
  rests : (b : Bool) → p ≡ Finished b → q ≡ Finished b → Late p q

late-recovering : (p : Phase) (k : ℕ) (ws : List Todo_winner) (at : Recover_step) (r : Reply) → IsLate r → Late p (recovering k ws at r)
late-recovering p k ws (Look_below j) _ (superseded f) = stops refl
late-recovering p k ws (Look_below j) _ faulty = stops refl
late-recovering p k ws (Measure j) _ (superseded f) = stops refl
late-recovering p k ws (Measure j) _ faulty = stops refl
late-recovering p k ws (Clear_own j) _ (superseded f) = stops refl
late-recovering p k ws (Clear_own j) _ faulty = stops refl
late-recovering p k [] (Move_from j) _ x = stops refl
late-recovering p k (w ∷ ws) (Move_from j) _ (superseded f) = stops refl
late-recovering p k (w ∷ ws) (Move_from j) _ faulty = stops refl

late-running : (p : Phase) (tail : List Record) (call : Store) (r : Reply) → IsLate r → Late p (running tail call r)
late-running p tail (Names op) _ (superseded f) = stops refl
late-running p tail (Names op) _ faulty = stops refl
late-running p tail (Append_record x) _ (superseded f) = stops refl
late-running p tail (Append_record x) _ faulty = stops refl
late-running p tail Flush _ (superseded f) = stops refl
late-running p tail Flush _ faulty = stops refl
late-running p tail Read_history _ x = stops refl

late-failing : (p : Phase) (b : Bool) (tail : List Record) (call : Store) (r : Reply) → IsLate r → Late p (failing b tail call r)
late-failing p b tail (Names op) _ (superseded f) = stops refl
late-failing p b tail (Names op) _ faulty = stops refl
late-failing p b tail (Append_record x) _ (superseded f) = stops refl
late-failing p b tail (Append_record x) _ faulty = stops refl
late-failing p b tail Flush _ (superseded f) = stops refl
late-failing p b tail Flush _ faulty = stops refl
late-failing p b tail Read_history _ x = stops refl

late-merging : (p : Phase) (ms : List Merge_step) (ok : Commit_step) (r : Reply) → IsLate r → Late p (merging ms r ok)
late-merging p [] ok _ (superseded f) = stops refl
late-merging p [] ok _ faulty = fails refl
late-merging p (Look_at f t d ∷ ms) ok _ (superseded g) = stops refl
late-merging p (Look_at f t d ∷ ms) ok _ faulty = fails refl
late-merging p (List_into f t ∷ ms) ok _ (superseded g) = stops refl
late-merging p (List_into f t ∷ ms) ok _ faulty = fails refl
late-merging p (Delete_then f t ∷ ms) ok _ (superseded g) = stops refl
late-merging p (Delete_then f t ∷ ms) ok _ faulty = fails refl
late-merging p (Move_to f t ∷ ms) ok _ (superseded g) = stops refl
late-merging p (Move_to f t ∷ ms) ok _ faulty = fails refl

late-committing : (k : ℕ) (at : Commit_step) (r : Reply) → IsLate r → Late (Committing at) (committing k at r)
late-committing k List_job _ (superseded f) = stops refl
late-committing k List_job _ faulty = fails refl
late-committing k (Merging ms) r x = late-merging (Committing (Merging ms)) ms _ r x
late-committing k Cleaning _ (superseded f) = stops refl
late-committing k Cleaning _ faulty = fails refl
late-committing k Marking _ (superseded f) = stops refl
late-committing k Marking _ faulty = fails refl
late-committing k Succeeding _ (superseded f) = stops refl
late-committing k Succeeding _ faulty = stops refl
late-committing k Failing_mark _ (superseded f) = stops refl
late-committing k Failing_mark _ faulty = stops refl
late-committing k Aborting _ (superseded f) = stops refl
late-committing k Aborting _ faulty = ends refl refl

pub late-told : (k : ℕ) (s : Seen) (p : Phase) (call : Store) (r : Reply) → IsLate r → Late p (phase_told k s p call r)
unfolding phase_told
late-told k s (Opening n) call _ (superseded f) = if_cases (Late (Opening n)) (is_read call) _ _ (λ t. stops refl) (λ t. stops refl)
late-told k s (Opening n) call _ faulty = if_cases (Late (Opening n)) (is_read call) _ _ (λ t. stops refl) (λ t. stops refl)
late-told k s Setting_up call _ (superseded f) = stops refl
late-told k s Setting_up call _ faulty = stops refl
late-told k s (Recovering ws at) call r x = late-recovering (Recovering ws at) k ws at r x
late-told k s Running call r x = late-running Running s.tail call r x
late-told k s (Failing b) call r x = late-failing (Failing b) b s.tail call r x
late-told k s (Committing at) call r x = late-committing k at r x
late-told k s (Finished b) call r x = rests b refl refl
late-told k s Stopped call r x = stops refl
