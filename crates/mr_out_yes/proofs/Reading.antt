-- A yes, back to the marker: it was seen, so each task has a durable winner, whose file stays; and the history that was read begins with what was durable then.
use Rattle.std.proofs.Common.{◌≡◌, ◌≢◌, ◌<◌, ℕ, List, ◌++◌, Option, Some, None, sym, ap, ◌∙◌, append_assoc}
use Rattle.mr_ids.specs.Attempt.{Attempt}
use Rattle.mr_ids.specs.declared.id.TaskId.{TaskId}
use Rattle.mr_history.specs.declared.record.Record.{Record}
use Rattle.mr_history.specs.Winner.{winner_in}
use Rattle.mr_history.proofs.Winners.{winner-stays}
use Rattle.mr_out_disk.specs.declared.place.Place.TheVariants.{Marker}
use Rattle.mr_out_disk.specs.Disk.{seen}
use Rattle.mr_out_disk.specs.Cuts.{IsFront}
use Rattle.mr_out_steps.specs.Standing.{task_of}
use Rattle.mr_out_model.specs.Worlds.{Setting, World}
use Rattle.mr_out_model.specs.Runs.{after}
use Rattle.mr_out_model.specs.Promises.{Promises, Reads}
use Rattle.mr_out_model.proofs.Keeping.{keeps, reads}
use Rattle.mr_out_winners.specs.Tasks.{parts}
use Rattle.mr_out_winners.proofs.Inverse.{yes-whole}
use Rattle.mr_out_yes.specs.Readers.{IsRead, IsWholeFor, YesIsWhole, world}

-- a winner of the first records is that of all
pub stays : (rs qs : List Record) (t : TaskId) (a : Attempt) → IsFront rs qs → winner_in rs t ≡ Some a → winner_in qs t ≡ Some a
stays rs qs t a f e = ap (λ (ps : List Record). winner_in ps t) f.is ∙ (winner-stays rs f.rest t a e).0

-- what is read later begins with what is durable now
pub read-front : (w u : World) (rs : List Record) → IsFront w.disk.synced u.disk.synced → IsRead u rs → IsFront w.disk.synced rs
read-front w u rs f r = record {
  rest = f.rest ++ r.kept;
  is = r.are ∙ (ap (λ (qs : List Record). qs ++ r.kept) f.is ∙ append_assoc w.disk.synced f.rest r.kept);
}

some-one : (x : Option Attempt) (a b : Attempt) → x ≡ Some a → x ≡ Some b → Some a ≡ Some b
some-one x a b e f = sym e ∙ f

-- the winner of a task that a marker stands beside
whole-for : (s : Setting) (w u v : World) (rs : List Record) (n : ℕ) → Promises s w u → Promises s w v → seen w.disk Marker ≢ None → n < s.tasks → IsRead u rs → Reads s w v n → IsWholeFor s w v rs n
whole-for s w u v rs n p q marked within r found =
    let there = p.marked marked n within in
    let now = p.visible n there.0 there.1 in
    let told = stays w.disk.synced rs (task_of s.job n) now.winner (read-front w u rs p.records r) now.recorded in
    let later = stays w.disk.synced v.disk.synced (task_of s.job n) now.winner q.records now.recorded in
    record {
      reads = found;
      told = told ∙ some-one (winner_in v.disk.synced (task_of s.job n)) now.winner found.winners.winner later found.winners.recorded;
    }

pub yes-is-whole : YesIsWhole
yes-is-whole s bytes moves between later marked over told suffix rs ms ns run run-between run-later honest r affirmed n within =
    let w = world s bytes moves in
    let u = after s w between in
    let v = after s w later in
    let whole = yes-whole marked over told (parts s.job suffix rs ms s.tasks) ns affirmed in
    let is-marked = honest whole.marker in
    whole-for s w u v rs n (keeps s bytes moves between run run-between) (keeps s bytes moves later run run-later) is-marked within r (reads s bytes moves later run run-later is-marked n within)
