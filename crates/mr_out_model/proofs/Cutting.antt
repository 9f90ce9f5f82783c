-- What a power cut, and what others write, leaves of the invariant.
use Rattle.std.proofs.Common.{if◌then◌else◌, ◌≡◌, ◌≢◌, ◌⊎◌, inl, inr, ◌<◌, ◌==◌, ℕ, Bool, true, false, cond, List, [], ◌∷◌, ◌++◌, Option, Some, None, refl, sym, ap, subst, ◌∙◌, append_assoc, append-nil}
use Rattle.std.proofs.lemmas.Bool.{eqb-true}
use Rattle.mr_ids.specs.Attempt.{Attempt}
use Rattle.mr_ids.specs.declared.id.TaskId.{TaskId}
use Rattle.mr_history.specs.declared.record.Record.{Record}
use Rattle.mr_history.specs.Winner.{winner_in}
use Rattle.mr_out_disk.specs.declared.place.Place.TheVariants.{Part, Marker, Kept, Work, Decision, Home}
use Rattle.mr_out_disk.specs.Disk.{Moments, Disk}
use Rattle.mr_out_disk.specs.Cuts.{IsLeft, IsFront, IsCut}
use Rattle.mr_out_model.specs.Worlds.{Setting, Telling, IsClaimed}
use Rattle.mr_out_model.specs.Runs.{IsWriters}
use Rattle.mr_out_model.proofs.Moments.{Every, EveryOf, every-map, every-left}
use Rattle.mr_out_model.proofs.Standings.{Why}
use Rattle.mr_out_model.proofs.Invariant.{View, view, all_records, IsFile, IsThere, IfThere, IfGone, Wins, PartOf, IsPart, Shown, Stand, Published, IsReleased, IsStored, File, OfJob, Core, Lost, Told}
use Rattle.mr_out_model.proofs.Records.{if-there-map, forgotten-map, wins-more, no-others, part-grows, stand-grows, why-grows}

-- ---- a power cut, seen at what the promises speak of

pub record IsCutView (v u : View) : Type 0 where
  pub left : List Record
  pub lost : List Record
  pub appended_was : v.appended ≡ left ++ lost
  pub synced : u.synced ≡ v.synced ++ left
  pub appended : u.appended ≡ []
  pub part : (n : ℕ) → IsLeft (v.part n) (u.part n)
  pub marker : IsLeft v.marker u.marker
  pub kept : (a : Attempt) → IsLeft (v.kept a) (u.kept a)
  pub decision : IsLeft v.decision u.decision
  pub home : IsLeft v.home u.home
  pub whole : (f : ℕ) → v.whole f ≡ true → u.whole f ≡ true

pub cut-view : (d e : Disk) → IsCut d e → IsCutView (view d) (view e)
cut-view d e c = record {
  left = c.kept;
  lost = c.front.rest;
  appended_was = c.front.is;
  synced = c.synced;
  appended = c.appended;
  part = λ n. c.names (Part n);
  marker = c.names Marker;
  kept = λ a. c.names (Kept a);
  decision = c.names Decision;
  home = c.names Home;
  whole = c.whole;
}

-- the records that are left are a front of all records
all-left : (v u : View) (c : IsCutView v u) → all_records v ≡ all_records u ++ c.lost
all-left v u c =
    let now : all_records u ≡ v.synced ++ c.left = ap (λ (rs : List Record). u.synced ++ rs) c.appended ∙ append-nil u.synced ∙ c.synced in
    ap (λ (rs : List Record). v.synced ++ rs) c.appended_was ∙ sym (append_assoc v.synced c.left c.lost) ∙ ap (λ (rs : List Record). rs ++ c.lost) (sym now)

-- who wins by what is left won before
pub left-won : (v u : View) (c : IsCutView v u) (a : Attempt) → Wins (all_records u) a → Wins (all_records v) a
left-won v u c a w = ap (λ (rs : List Record). winner_in rs a.task) (all-left v u c) ∙ wins-more (all_records u) c.lost a w

-- and what is durable now is all that is left
pub left-synced : (v u : View) (c : IsCutView v u) (a : Attempt) → Wins u.synced a → Wins (all_records v) a
left-synced v u c a w = left-won v u c a (ap (λ (rs : List Record). winner_in rs a.task) (ap (λ (rs : List Record). u.synced ++ rs) c.appended ∙ append-nil u.synced) ∙ w)

part-left : (s : Setting) (v u : View) (h : Attempt → Option ℕ) (c : IsCutView v u) (n : ℕ) (x : Option ℕ) → IsPart s v.synced h n x → IsPart s u.synced h n x
part-left s v u h c n x p = let P : List Record → Type 0 = λ rs. IsPart s rs h n x in subst P (sym c.synced) (part-grows s v.synced c.left h n x p)

pub stand-left : (s : Setting) (v u : View) (h : Attempt → Option ℕ) → Core s v h → IsCutView v u → Stand s v.synced v.part h → Stand s u.synced u.part h
stand-left s v u h core c st =
    let P : List Record → Type 0 = λ rs. Stand s rs u.part h in
    subst P (sym c.synced) (moved (stand-grows s v.synced c.left v.part h own st))
  where
    own : (a : Attempt) → Wins (v.synced ++ c.left) a → OfJob s a
    own a w = core.of_job a (left-synced v u c a (ap (λ (rs : List Record). winner_in rs a.task) c.synced ∙ w))

    moved : Stand s (v.synced ++ c.left) v.part h → Stand s (v.synced ++ c.left) u.part h
    moved t = record { all = t.all; each = λ a w. let x = t.each a w in record { file = x.file; handed = x.handed; every = every-left (IsFile x.file) (v.part a.task.number) (u.part a.task.number) (c.part a.task.number) x.every } }

pub core-cut : (s : Setting) (v u : View) (h : Attempt → Option ℕ) → Core s v h → IsCutView v u → Core s u h
core-cut s v u h core c = record {
  parts = λ n. every-map (IsPart s v.synced h n) (IsPart s u.synced h n) (u.part n) (part-left s v u h c n) (every-left (IsPart s v.synced h n) (v.part n) (u.part n) (c.part n) (core.parts n));
  marker = every-map (IfThere (Stand s v.synced v.part h)) (IfThere (Stand s u.synced u.part h)) u.marker (if-there-map _ _ (stand-left s v u h core c)) (every-left (IfThere (Stand s v.synced v.part h)) v.marker u.marker c.marker core.marker);
  files = λ a w. let x = core.files a (left-won v u c a w) in record { file = x.file; handed = x.handed; is_whole = c.whole x.file x.is_whole; writer = x.writer; stored = by a x.file x.stored };
  of_job = λ a w. core.of_job a (left-won v u c a w);
  kept = λ a. every-left (IsWriters s a) (v.kept a) (u.kept a) (c.kept a) (core.kept a);
  released = λ n. every-map (IfThere (IsReleased s.hold v.decision)) (IfThere (IsReleased s.hold u.decision)) (u.part n) (if-there-map _ _ stays) (every-left (IfThere (IsReleased s.hold v.decision)) (v.part n) (u.part n) (c.part n) (core.released n));
  released_mark = every-map (IfThere (IsReleased s.hold v.decision)) (IfThere (IsReleased s.hold u.decision)) u.marker (if-there-map _ _ stays) (every-left (IfThere (IsReleased s.hold v.decision)) v.marker u.marker c.marker core.released_mark);
  forgotten = forgotten-map s v.synced u.synced v.part u.part v.marker u.marker h h u.home (stand-left s v u h core c) (every-left IsThere v.marker u.marker c.marker) (every-left (IfGone (Published s v.synced v.part v.marker h)) v.home u.home c.home core.forgotten);
}
  where
    by : (a : Attempt) (f : ℕ) → IsStored f (v.kept a) (v.part a.task.number) v.marker → IsStored f (u.kept a) (u.part a.task.number) u.marker
    by a f (inl e) = inl (every-left (IsFile f) (v.kept a) (u.kept a) (c.kept a) e)
    by a f (inr p) = inr (every-left (IsFile f) (v.part a.task.number) (u.part a.task.number) (c.part a.task.number) p.0, every-left IsThere v.marker u.marker c.marker p.1)

    stays : IsReleased s.hold v.decision → IsReleased s.hold u.decision
    stays r e = every-left IsThere v.decision u.decision c.decision (r e)

pub told-cut : (v u : View) (ts : List Telling) → Told v.synced (all_records v) ts → IsCutView v u → Told u.synced (all_records u) ts
told-cut v u ts t c = record {
  won = λ a e. let P : List Record → Type 0 = λ rs. Wins rs a in subst P (sym c.synced) (wins-more v.synced c.left a (t.won a e));
  lost = λ a l. let x = t.lost a l in let P : List Record → Type 0 = λ rs. Why rs a in record { why = subst P (sym c.synced) (why-grows v.synced c.left a x.why); never = λ w. x.never (left-won v u c a w) };
}

-- ---- others write a file that is not claimed

abbrev pub no_longer_whole : ℕ → View → View
no_longer_whole file v = record v { whole = λ f. if f == file then false else v.whole f }

-- a winner's file is claimed
pub claimed : (s : Setting) (d : Disk) (h : Attempt → Option ℕ) (a : Attempt) → (x : File s d.is_whole (d.moments (Kept a)) (d.moments (Part a.task.number)) (d.moments Marker) h a) → IsClaimed s d x.file
claimed s d h a x = by x.stored
  where
    by : IsStored x.file (d.moments (Kept a)) (d.moments (Part a.task.number)) (d.moments Marker) → IsClaimed s d x.file
    by (inl e) = inl (ap (λ (b : Attempt). (d.moments (Kept b)).now) x.writer ∙ e.0)
    by (inr p) = inr (ap (λ (b : Attempt). (d.moments (Part b.task.number)).now) x.writer ∙ p.0.0)

pub still-whole : (b x : Bool) → (b ≡ true → ⊥) → x ≡ true → cond b false x ≡ true
still-whole true x no-way e = absurd (no-way refl)
still-whole false x no-way e = e

pub core-written : (s : Setting) (d : Disk) (h : Attempt → Option ℕ) (file : ℕ) → Core s (view d) h → (IsClaimed s d file → ⊥) → Core s (no_longer_whole file (view d)) h
core-written s d h file c free = record {
  parts = c.parts;
  marker = c.marker;
  files = λ a w. let x = c.files a w in record { file = x.file; handed = x.handed; is_whole = still-whole (x.file == file) (d.is_whole x.file) (λ e. other a w (eqb-true _ _ e)) x.is_whole; writer = x.writer; stored = x.stored };
  of_job = c.of_job;
  kept = c.kept;
  released = c.released;
  released_mark = c.released_mark;
  forgotten = c.forgotten;
}
  where
    other : (a : Attempt) (w : Wins (all_records (view d)) a) → (c.files a w).file ≡ file → ⊥
    other a w e = let P : ℕ → Type 0 = λ f. IsClaimed s d f in free (subst P e (claimed s d h a (c.files a w)))
