-- The promises, of every run.
use Rattle.std.proofs.Common.{true, ◌≡◌, ◌≢◌, ◌⊎◌, inl, inr, ◌<◌, ℕ, List, [], ◌∷◌, ◌++◌, Option, Some, None, refl, sym, ap, subst, ◌∙◌, append_assoc}
use Rattle.mr_ids.specs.Attempt.{Attempt}
use Rattle.mr_ids.specs.declared.id.TaskId.{TaskId}
use Rattle.mr_history.specs.declared.record.Record.{Record}
use Rattle.mr_history.specs.Winner.{winner_in}
use Rattle.mr_history.proofs.Winners.{winner-of}
use Rattle.mr_out_disk.specs.declared.place.Place.{Place}
use Rattle.mr_out_disk.specs.declared.place.Place.TheVariants.{Part, Marker, Kept, Work, Decision, Home}
use Rattle.mr_out_disk.specs.Disk.{seen}
use Rattle.mr_out_disk.specs.Cuts.{IsFront}
use Rattle.mr_out_steps.specs.declared.standing.Standing.{Standing}
use Rattle.mr_out_steps.specs.declared.standing.Standing.TheVariants.{Won, Beaten, GivenUp, JobOver}
use Rattle.mr_out_steps.specs.declared.order.Order.{Order}
use Rattle.mr_out_steps.specs.declared.order.Order.TheVariants as order
use Rattle.mr_out_steps.specs.declared.order.Outcome.TheVariants as outcome
use Rattle.mr_out_steps.specs.declared.phase.Phase.{Phase}
use Rattle.mr_out_steps.specs.Standing.{task_of}
use Rattle.mr_out_steps.specs.Commands.{Command}
use Rattle.mr_out_model.specs.Worlds.{Setting, World, begun}
use Rattle.mr_out_model.specs.Runs.{Move, happens, May, after, IsRun}
use Rattle.mr_out_model.specs.Promises.{IsWinners, HasTold, HasToldLoss, IsVisible, Promises, DirectoryKeepsPromises, ReadersFindWinners, HasEnded, ForgottenDirectoriesStay}
use Rattle.mr_out_model.proofs.Invariant.{view, all_records, IsThere, IfThere, IsGone, IfGone, IsReleased, IsPart, PartOf, Wins, Stand, Shown, Published, OfJob, FinishedOf, At, Amid, AmidAny, Holds}
use Rattle.mr_out_model.proofs.Records.{wins-more, wins-own, some-one, none-some}
use Rattle.mr_out_model.proofs.Answering.{Grows, same-grows}
use Rattle.mr_out_model.proofs.Moments.{Every}
use Rattle.mr_out_model.proofs.Moving.{Onward, moves-on}

-- ---- runs

wins-front : (rs qs : List Record) (a : Attempt) → IsFront rs qs → Wins rs a → Wins qs a
wins-front rs qs a f w = ap (λ (ps : List Record). winner_in ps a.task) f.is ∙ wins-more rs f.rest a w

joined : (s : Setting) (w u v : World) → Onward s w u → Onward s u v → Onward s w v
joined s w u v p q = record {
  holds = q.holds;
  grows = record {
    front = record { rest = p.grows.front.rest ++ q.grows.front.rest; is = q.grows.front.is ∙ ap (λ (rs : List Record). rs ++ q.grows.front.rest) p.grows.front.is ∙ append_assoc w.disk.synced p.grows.front.rest q.grows.front.rest };
    stand = λ st. q.grows.stand (p.grows.stand st);
    handed = λ a x. q.grows.handed a (wins-front w.disk.synced u.disk.synced a p.grows.front x) ∙ p.grows.handed a x;
    bytes = λ a f x e. q.grows.bytes a f (wins-front w.disk.synced u.disk.synced a p.grows.front x) (p.grows.handed a x ∙ e) ∙ p.grows.bytes a f x e;
    decision = λ e. q.grows.decision (p.grows.decision e);
    marker = λ e. q.grows.marker (p.grows.marker e);
    home = λ e. q.grows.home (p.grows.home e);
  };
  told = λ a st t. q.told a st (p.told a st t);
}

pub still-there : (s : Setting) (w : World) → Holds s w → Onward s w w
still-there s w h = record { holds = h; grows = same-grows s w; told = λ a st t. t }

runs-on : (s : Setting) (moves : List Move) (w : World) → Onward s w w → IsRun s w moves → Onward s w (after s w moves)
unfolding after IsRun
runs-on s [] w o r = o
runs-on s (move ∷ moves) w o r =
    let p = moves-on s w move o.holds r.0 in
    let u = happens s w move in
    joined s w u (after s u moves) p (runs-on s moves u (still-there s u p.holds) r.1)

-- ---- the begin

nobody : (a : Attempt) → winner_in [] a.task ≡ Some a → ⊥
unfolding winner_in
nobody a e = absurd (cc)

untold : (a : Attempt) → HasToldLoss [] a → ⊥
untold a (inl t) = t
untold a (inr (inl t)) = t
untold a (inr (inr t)) = t

pub begun-holds : (s : Setting) (bytes : ℕ → ℕ) → Holds s (begun bytes)
begun-holds s bytes = record {
  core = record { parts = λ n. (tt, tt); marker = (tt, tt); files = λ a w. absurd (nobody a w); of_job = λ a w. absurd (nobody a w); kept = λ a. (tt, tt); released = λ n. (tt, tt); released_mark = (tt, tt); forgotten = (tt, tt) };
  work = λ a. (tt, tt);
  told = record { won = λ a t. absurd t; lost = λ a t. absurd (untold a t) };
  amid = tt;
}

-- ---- what is promised

own-task : (s : Setting) (w : World) (n : ℕ) (a : Attempt) → Holds s w → winner_in w.disk.synced (task_of s.job n) ≡ Some a → OfJob s a
own-task s w n a h e = h.core.of_job a (wins-more w.disk.synced w.disk.appended a (wins-own w.disk.synced (task_of s.job n) a e))

number-of : (s : Setting) (w : World) (n : ℕ) (a : Attempt) → winner_in w.disk.synced (task_of s.job n) ≡ Some a → a.task.number ≡ n
number-of s w n a e = ap (λ (t : TaskId). t.number) (winner-of w.disk.synced (task_of s.job n) a e)

visible-is : (s : Setting) (w : World) → Holds s w → (n f : ℕ) → seen w.disk (Part n) ≡ Some f → IsWinners s w n f
visible-is s w h n f e =
    let P : Option ℕ → Type 0 = λ x. IsPart s w.disk.synced w.handed n x in
    by (subst P e (h.core.parts n).0)
  where
    by : PartOf s w.disk.synced w.handed n f → IsWinners s w n f
    by p =
        let x = h.core.files p.winner (wins-more w.disk.synced w.disk.appended p.winner (wins-own w.disk.synced (task_of s.job n) p.winner p.recorded)) in
        let Q : ℕ → Type 0 = λ g. w.disk.is_whole g ≡ true in
        let R : ℕ → Type 0 = λ m. m < s.tasks in
        record {
          winner = p.winner;
          recorded = p.recorded;
          handed = p.handed;
          whole = subst Q (some-one x.file f (sym x.handed ∙ p.handed)) x.is_whole;
          number = subst R (number-of s w n p.winner p.recorded) (own-task s w n p.winner h p.recorded).number;
        }

stand-there : (X : Type 0) (x : Option ℕ) → (x ≡ None → ⊥) → IfThere X x → X
stand-there X None no-way i = absurd (no-way refl)
stand-there X (Some f) no-way i = i

marked-stand : (s : Setting) (w : World) → Holds s w → seen w.disk Marker ≢ None → Stand s w.disk.synced (view w.disk).part w.handed
marked-stand s w h e = stand-there (Stand s w.disk.synced (view w.disk).part w.handed) (seen w.disk Marker) e h.core.marker.0

shown-at : (s : Setting) (w : World) (n : ℕ) (a : Attempt) (f : ℕ) → Stand s w.disk.synced (view w.disk).part w.handed → winner_in w.disk.synced (task_of s.job n) ≡ Some a → w.handed a ≡ Some f → seen w.disk (Part n) ≡ Some f
shown-at s w n a f st e is =
    let x = st.each a (wins-own w.disk.synced (task_of s.job n) a e) in
    ap (λ m. seen w.disk (Part m)) (sym (number-of s w n a e)) ∙ x.every.0 ∙ sym x.handed ∙ is

part-there : (s : Setting) (w : World) → Stand s w.disk.synced (view w.disk).part w.handed → (n : ℕ) → n < s.tasks → (f : ℕ) × (seen w.disk (Part n) ≡ Some f)
part-there s w st n l =
    let p = st.all n l in
    let x = st.each p.0 (wins-own w.disk.synced (task_of s.job n) p.0 p.1) in
    (x.file, shown-at s w n p.0 x.file st p.1 x.handed)

part-same : (s : Setting) (w v : World) → Holds s w → Onward s w v → Stand s w.disk.synced (view w.disk).part w.handed → (n : ℕ) → seen v.disk (Part n) ≡ seen w.disk (Part n)
part-same s w v h o st n = by (seen w.disk (Part n)) refl (seen v.disk (Part n)) refl
  where
    there : (f : ℕ) → seen w.disk (Part n) ≡ Some f → seen v.disk (Part n) ≡ Some f
    there f e =
        let p = visible-is s w h n f e in
        let wins = wins-own w.disk.synced (task_of s.job n) p.winner p.recorded in
        let later : winner_in v.disk.synced (task_of s.job n) ≡ Some p.winner = ap (λ (t : TaskId). winner_in v.disk.synced t) (sym (winner-of w.disk.synced (task_of s.job n) p.winner p.recorded)) ∙ wins-front w.disk.synced v.disk.synced p.winner o.grows.front wins in
        shown-at s v n p.winner f (o.grows.stand st) later (o.grows.handed p.winner wins ∙ p.handed)

    by : (x : Option ℕ) → seen w.disk (Part n) ≡ x → (y : Option ℕ) → seen v.disk (Part n) ≡ y → seen v.disk (Part n) ≡ seen w.disk (Part n)
    by (Some f) e y d = there f e ∙ sym e
    by None e None d = d ∙ sym e
    by None e (Some g) d =
        let p = visible-is s v o.holds n g d in
        let q = part-there s w st n p.number in
        absurd (none-some (seen w.disk (Part n)) q.0 e q.1)

-- under hold, where anything is visible it was decided to publish, for good
pub released-at : (s : Setting) (w : World) → Holds s w → (p : Place) → IsVisible p → seen w.disk p ≢ None → IsReleased s.hold (view w.disk).decision
released-at s w h (Part n) out e = stand-there (IsReleased s.hold (view w.disk).decision) (seen w.disk (Part n)) e (h.core.released n).0
released-at s w h Marker out e = stand-there (IsReleased s.hold (view w.disk).decision) (seen w.disk Marker) e h.core.released_mark.0
released-at s w h (Kept a) out e = absurd out
released-at s w h (Work a) out e = absurd out
released-at s w h Decision out e = absurd out
released-at s w h Home out e = absurd out

pub is-there : (x : Option ℕ) → IsThere x → x ≡ None → ⊥
is-there None i e = i
is-there (Some f) i e = absurd (cc)

-- where the history is forgotten, all is published for good
gone-published : (s : Setting) (w : World) → Holds s w → seen w.disk Home ≡ None → Published s w.disk.synced (view w.disk).part (w.disk.moments Marker) w.handed
gone-published s w h e = let P : Option ℕ → Type 0 = λ x. IfGone (Published s w.disk.synced (view w.disk).part (w.disk.moments Marker) w.handed) x in subst P e h.core.forgotten.0

lost-later : (w v : World) (a : Attempt) → ((b : Attempt) (st : Standing) → HasTold w.told b st → HasTold v.told b st) → HasToldLoss w.told a → HasToldLoss v.told a
lost-later w v a more (inl t) = inl (more a Beaten t)
lost-later w v a more (inr (inl t)) = inr (inl (more a GivenUp t))
lost-later w v a more (inr (inr t)) = inr (inr (more a JobOver t))

promised : (s : Setting) (w v : World) → Holds s w → Onward s w v → Promises s w v
promised s w v h o = record {
  records = o.grows.front;
  visible = visible-is s w h;
  marked = λ e n l. part-there s w (marked-stand s w h e) n l;
  parts_stay = λ e n. part-same s w v h o (marked-stand s w h e) n;
  bytes_stay = λ e n f is. let p = visible-is s w h n f is in o.grows.bytes p.winner f (wins-own w.disk.synced (task_of s.job n) p.winner p.recorded) p.handed;
  held = λ x p out e. is-there (seen v.disk Decision) (o.grows.decision (released-at s w h p out e x)).0;
  forgotten = λ e. is-there (seen v.disk Marker) (o.grows.marker (gone-published s w h e).marked).0;
  won = λ a t. wins-front w.disk.synced v.disk.synced a o.grows.front (h.told.won a t);
  lost = λ a t e. (o.holds.told.lost a (lost-later w v a o.told t)).never (wins-more v.disk.synced v.disk.appended a e);
}

pub keeps : DirectoryKeepsPromises
keeps s bytes moves more r q =
    let first = runs-on s moves (begun bytes) (still-there s (begun bytes) (begun-holds s bytes)) r in
    let w = after s (begun bytes) moves in
    promised s w (after s w more) first.holds (runs-on s more w (still-there s w first.holds) q)

pub reads : ReadersFindWinners
reads s bytes moves more r q e n l =
    let w = after s (begun bytes) moves in
    let v = after s w more in
    let first = runs-on s moves (begun bytes) (still-there s (begun bytes) (begun-holds s bytes)) r in
    let later = runs-on s more w (still-there s w first.holds) q in
    let p = promised s w v first.holds later in
    let there = p.marked e n l in
    let listed : seen v.disk (Part n) ≡ Some there.0 = p.parts_stay e n ∙ there.1 in
    record { file = there.0; listed = listed; winners = visible-is s v later.holds n there.0 listed; bytes = p.bytes_stay e n there.0 there.1 }

-- ---- the history is forgotten

-- a command that ended so left nothing of it, for good
gone-for-good : (s : Setting) (w : World) → Holds s w → HasEnded w order.Forget outcome.Finished → Every IsGone (w.disk.moments Home)
gone-for-good s w h x =
    let P : Option Command → Type 0 = λ r. AmidAny s (view w.disk) w.handed r in
    let Q : Phase → Type 0 = λ p. At s (view w.disk) w.handed x.command p in
    let R : Order → Type 0 = λ o. FinishedOf (w.disk.moments Home) o in
    let amid : Amid s (view w.disk) w.handed x.command = subst P x.running h.amid in
    subst R x.asked (subst Q x.ended amid.here)

pub forgets : ForgottenDirectoriesStay
forgets s bytes moves more r q x =
    let w = after s (begun bytes) moves in
    let v = after s w more in
    let first = runs-on s moves (begun bytes) (still-there s (begun bytes) (begun-holds s bytes)) r in
    let later = runs-on s more w (still-there s w first.holds) q in
    let gone = gone-for-good s w first.holds x in
    let marked = (gone-published s w first.holds gone.0).marked in
    record {
      home = (later.grows.home gone).0;
      marker = is-there (seen v.disk Marker) (later.grows.marker marked).0;
      tasks = λ n l. reads s bytes moves more r q (is-there (seen w.disk Marker) marked.0) n l;
    }
