-- Every event keeps what is said of the merge.
use Rattle.std.proofs.Common.{ℕ, zero, suc, ◌≡◌, refl, sym, ◌∙◌, ap, subst, Bool, true, false, List, [], ◌∷◌, ◌++◌, Option, Some, None, is_some, is_none, ◌⊎◌, inl, inr}
use Rattle.std.proofs.lemmas.Bool.{false≢true, true≢false}
use Rattle.mr_world_model.proofs.Tasks.{one-number}
use Rattle.mr_world_model.specs.Claims.{IsReduce}
use Rattle.mr_world_model.specs.Ids.{Name, Path, Attempt, name_eq, committed, temporary, marker, dest, commit_started, commit_success, commit_fail, part_name, task_name, part, TaskId, generation_name, task_eq}
use Rattle.mr_world_model.proofs.Names.{part_name-visible, task_eq-true, task_eq-false, part_name-ne, part-temporary, part_name-inj}
use Rattle.mr_world_model.specs.Content.{Entry, entry_at, Rename, left, is_file, children, Listed, Kind}
use Rattle.mr_world_model.specs.Records.{Record, JobUnsuccessful}
use Rattle.mr_world_model.specs.Packets.{Config}
use Rattle.mr_world_model.specs.Hearing.{Phase, Opening, Setting_up, Recovering, Running, Committing, Failing, Finished, Stopped, List_job, Merging, Cleaning, Marking, Succeeding, Failing_mark, Aborting, Merge_step, Look_at}
use Rattle.mr_world_model.specs.Duties.{merge_next, inners, is_dir_kind}
use Rattle.mr_world_model.specs.World.{World, Event}
use Rattle.mr_world_model.specs.Effect.{effect, not_now}
use Rattle.mr_world_model.specs.Claims.{In, winner, records, IsWhole, IsVisible, IsComplete}
use Rattle.mr_world_model.proofs.Basic.{winner-extends}
use Rattle.mr_world_model.proofs.Grows.{records_extend}
use Rattle.mr_world_model.proofs.Lists.{In-left}
use Rattle.mr_world_model.proofs.Paths.{path_eq-refl, put-same, put-other, moved-there, name_eq-true}
use Rattle.mr_world_model.proofs.Files.{Holds-same}
use Rattle.mr_world_model.proofs.Listing.{has_name, children-names}
use Rattle.mr_world_model.proofs.Apart.{Diverge, Diverge-longer, left-elsewhere}
use Rattle.mr_world_model.proofs.Regions.{committed_other}
use Rattle.mr_world_model.proofs.Reports.{whole_after}
use Rattle.mr_world_model.proofs.Dirs.{Known, HoldsAt}
use Rattle.mr_world_model.proofs.Recorded.{Ready}
use Rattle.mr_world_model.proofs.Sorted.{waiting, children-rise, In-name, only-one}
use Rattle.mr_world_model.proofs.Outside.{Outside, elsewhere-at, Kept, visible-outside}
use Rattle.mr_world_model.proofs.Merge.{IsNotThere, IsThere, Unmarked, Shown, Stage, waits, Tasks, MergeAt, Begun, HasDest, Loose, Ended, MergePhase}

pub part-visible : (t : TaskId) → IsVisible (part t)
part-visible t = (part_name t, [], refl, part_name-visible t)

pub tasks-complete : (cfg : Config) (w : World) (k : ℕ) → Tasks cfg w k [] → IsComplete cfg w
tasks-complete cfg w k a = record {
  files = λ t l. let s = a.merged t l (λ i. i) in (s.attempt, s.bytes, s.wins, s.whole, s.file);
  only = λ p v x. a.only p v (λ t l o q. x t l q);
}

pub next-merge : (cfg : Config) (w : World) (k : ℕ) (ts : List TaskId) → Unmarked w → HasDest w → Tasks cfg w k ts → MergePhase cfg w k (Committing (merge_next (waiting k ts)))
next-merge cfg w k [] u d a = (u, tasks-complete cfg w k a)
next-merge cfg w k (t ∷ ts) u d a = (u, (d, record { now = t; rest = ts; tasks = a; stage = waits }))

has-one : (n : Name) (ls : List Listed) (d : Kind) → ls ≡ record { name = n; kind = d } ∷ [] → (f t : Path) → inners f t ls ≡ Look_at (f ++ n ∷ []) (t ++ n ∷ []) (is_dir_kind d) ∷ []
has-one n ls d q f t = rw q refl

pub some-true : (o : Option Entry) (e : Entry) → o ≡ Some e → is_some o ≡ true
some-true o e q = rw q refl

pub some-not : {P : Type 0} (o : Option Entry) → is_some o ≡ true → o ≡ None → P
some-not None e q = absurd (false≢true e)
some-not (Some x) e q = cc

-- what is listed in a directory that holds one part
pub one-part : (w : World) (k : ℕ) (t : TaskId) (a : Attempt) → HoldsAt w k t a → (d : Kind) × (children w.content (committed k t) ≡ record { name = part_name t; kind = d } ∷ [])
one-part w k t a h = only-one (part_name t) (children w.content (committed k t)) (children-rise w.content (committed k t)) (λ l i. name l.name (In-name (children w.content (committed k t)) l i) (name_eq l.name (part_name t)) refl)
    (children-names w.content (committed k t) (part_name t) ∙ some-true _ _ h.holds.file)
  where
    name : (n : Name) → has_name (children w.content (committed k t)) n ≡ true → (b : Bool) → name_eq n (part_name t) ≡ b → n ≡ part_name t
    name n i true q = name_eq-true n (part_name t) q
    name n i false q = some-not (entry_at w.content (committed k t ++ n ∷ [])) (sym (children-names w.content (committed k t) n) ∙ i)
        (h.holds.only (n ∷ []) (λ (z : n ∷ [] ≡ []). cc) (λ (z : n ∷ [] ≡ part_name t ∷ []). let s : n ≡ part_name t = cc in true≢false (sym (subst (λ y. name_eq y (part_name t) ≡ true) (sym s) refl_name) ∙ q)))
      where
        refl_name : name_eq (part_name t) (part_name t) ≡ true
        refl_name = Rattle.mr_world_model.proofs.Paths.name_eq-refl (part_name t)

module _ (cfg : Config) (w : World) (e : Event) (kn : Known cfg w) (n : not_now cfg w e ≡ None) where
  wins-on : (t : TaskId) (a : Attempt) → winner w t ≡ Some a → winner (effect cfg w e) t ≡ Some a
  wins-on t a q = winner-extends t a (records_extend cfg w e kn.honest.is_aged n) q

  whole-on : (a : Attempt) (bytes : List ℕ) → IsWhole w a bytes → IsWhole (effect cfg w e) a bytes
  whole-on a bytes = whole_after cfg w e kn.cluster kn.reports n a bytes

  pub ready-on : (t : TaskId) → ((a : Attempt) → winner w t ≡ Some a → (x : Path) → entry_at (effect cfg w e).content (committed w.fence t ++ x) ≡ entry_at w.content (committed w.fence t ++ x)) → Ready w w.fence t → Ready (effect cfg w e) w.fence t
  ready-on t f r = record {
    attempt = r.attempt;
    wins = wins-on t r.attempt r.wins;
    holds = record {
      bytes = r.holds.bytes;
      whole = whole-on r.attempt r.holds.bytes r.holds.whole;
      holds = Holds-same w.content (effect cfg w e).content (committed w.fence t) t _ (f r.attempt r.wins) r.holds.holds;
    };
  }

  pub shown-on : (t : TaskId) → entry_at (effect cfg w e).content (part t) ≡ entry_at w.content (part t) → Shown w t → Shown (effect cfg w e) t
  shown-on t f s = record { attempt = s.attempt; bytes = s.bytes; wins = wins-on t s.attempt s.wins; whole = whole-on s.attempt s.bytes s.whole; file = f ∙ s.file }

  abbrev pub VisibleSame : Type 0
  VisibleSame = (p : Path) → IsVisible p → entry_at (effect cfg w e).content p ≡ entry_at w.content p

  pub complete-on : VisibleSame → IsComplete cfg w → IsComplete cfg (effect cfg w e)
  complete-on v o = record {
    files = λ t l. let f = o.files t l in (f.0, f.1, wins-on t f.0 f.2, whole-on f.0 f.1 f.3, v (part t) (part-visible t) ∙ f.4);
    only = λ p i x. v p i ∙ o.only p i x;
  }

  pub loose-on : VisibleSame → entry_at (effect cfg w e).content marker ≡ entry_at w.content marker → Loose cfg w → Loose cfg (effect cfg w e)
  loose-on v f o m = complete-on v (o (sym (ap is_file f) ∙ m))

  pub loose-none : IsNotThere (effect cfg w e) marker → Loose cfg (effect cfg w e)
  loose-none f m = absurd (false≢true (sym (ap is_file f) ∙ m))

  pub visible-on : Kept cfg w e → VisibleSame
  visible-on k p v = k.outside p (visible-outside p v)

  pub tasks-on : (ts : List TaskId) → Kept cfg w e → Tasks cfg w w.fence ts → Tasks cfg (effect cfg w e) w.fence ts
  tasks-on ts k a = record {
    once = a.once;
    small = a.small;
    ready = λ t i. ready-on t (k.held t) (a.ready t i);
    merged = λ t l o. shown-on t (visible-on k (part t) (part-visible t)) (a.merged t l o);
    only = λ p v o. visible-on k p v ∙ a.only p v o;
  }

  at-on : (ms ms' : List Merge_step) → Kept cfg w e → (a : MergeAt cfg w w.fence ms) → Stage w.fence a.now a.rest ms' → MergeAt cfg (effect cfg w e) w.fence ms'
  at-on ms ms' k a s = record { now = a.now; rest = a.rest; tasks = tasks-on (a.now ∷ a.rest) k a.tasks; stage = s }

  pub begun-on : Kept cfg w e → Begun cfg w w.fence → Begun cfg (effect cfg w e) w.fence
  begun-on k b = record { won = λ t l. ready-on t (k.held t) (b.won t l); tasks = λ x i o. k.names x i o ∙ b.tasks x i o; clear = λ p v. visible-on k p v ∙ b.clear p v }

  pub marker-on : Kept cfg w e → entry_at (effect cfg w e).content marker ≡ entry_at w.content marker
  marker-on k = k.outside marker (inr (inl refl))

  pub success-on : Kept cfg w e → entry_at (effect cfg w e).content commit_success ≡ entry_at w.content commit_success
  success-on k = k.outside commit_success (inl refl)

  pub fail-on : Kept cfg w e → entry_at (effect cfg w e).content commit_fail ≡ entry_at w.content commit_fail
  fail-on k = k.outside commit_fail (inl refl)

  pub unmarked-on : Kept cfg w e → Unmarked w → Unmarked (effect cfg w e)
  unmarked-on k u = (marker-on k ∙ u.0, (success-on k ∙ u.1.0, fail-on k ∙ u.1.1))

  pub kept-loose : Kept cfg w e → Loose cfg w → Loose cfg (effect cfg w e)
  kept-loose k o = loose-on (visible-on k) (marker-on k) o

  pub record-on : (x : Record) → In x (records w) → In x (records (effect cfg w e))
  record-on x i = let g = records_extend cfg w e kn.honest.is_aged n in subst (λ z. In x z) g.is (In-left x (records w) g.rest i)

  pub ended-on : Kept cfg w e → (b : Bool) → Ended w b → Ended (effect cfg w e) b
  ended-on k true o = ap is_none (success-on k) ∙ o
  ended-on k false o = (success-on k ∙ o.0, why o.1)
    where
      why : IsThere w commit_started ⊎ In JobUnsuccessful (records w) → IsThere (effect cfg w e) commit_started ⊎ In JobUnsuccessful (records (effect cfg w e))
      why (inl t) = inl (ap is_none (k.outside commit_started (inl refl)) ∙ t)
      why (inr i) = inr (record-on JobUnsuccessful i)

  -- an event that is none of a merge keeps what any phase says
  pub phase-on : Kept cfg w e → (p : Phase) → MergePhase cfg w w.fence p → MergePhase cfg (effect cfg w e) w.fence p
  phase-on k (Opening zero) o = kept-loose k o
  phase-on k (Opening (suc zero)) o = (success-on k ∙ o.0, kept-loose k o.1)
  phase-on k (Opening (suc (suc i))) o = ((success-on k ∙ o.0.0, fail-on k ∙ o.0.1), kept-loose k o.1)
  phase-on k Setting_up o = kept-loose k o
  phase-on k (Recovering ws at) o = (k.destination o.0, kept-loose k o.1)
  phase-on k Running o = (k.destination o.0, kept-loose k o.1)
  phase-on k (Failing f) o = kept-loose k o
  phase-on k (Committing List_job) o = (unmarked-on k o.0, (k.destination o.1.0, begun-on k o.1.1))
  phase-on k (Committing (Merging ms)) o = (unmarked-on k o.0, (k.destination o.1.0, at-on ms ms k o.1.1 o.1.1.stage))
  phase-on k (Committing Cleaning) o = (unmarked-on k o.0, complete-on (visible-on k) o.1)
  phase-on k (Committing Marking) o = (unmarked-on k o.0, complete-on (visible-on k) o.1)
  phase-on k (Committing Succeeding) o = ((success-on k ∙ o.0.0, fail-on k ∙ o.0.1), (ap is_file (marker-on k) ∙ o.1.0, complete-on (visible-on k) o.1.1))
  phase-on k (Committing Failing_mark) o = ((success-on k ∙ o.0.0, fail-on k ∙ o.0.1), kept-loose k o.1)
  phase-on k (Committing Aborting) o = ((success-on k ∙ o.0.0, ap is_none (fail-on k) ∙ o.0.1), kept-loose k o.1)
  phase-on k (Finished b) o = (ended-on k b o.0, kept-loose k o.1)
  phase-on k Stopped o = kept-loose k o

  -- One part is shown: the rename of the part of a task that is ready

  module _ (now : TaskId) (rest : List TaskId) (a : Tasks cfg w w.fence (now ∷ rest)) (c : (effect cfg w e).content ≡ left w.content (Rename (committed w.fence now ++ part_name now ∷ []) (part now))) where
    abbrev From : Path
    From = committed w.fence now ++ part_name now ∷ []

    ready-now : Ready w w.fence now
    ready-now = a.ready now (inl refl)

    none-there : (y : Path) → entry_at w.content (part now ++ y) ≡ None
    none-there y = a.only (part now ++ y) (part_name now, y, refl, part_name-visible now) (λ t l o (q : part now ++ y ≡ part t). let s : part_name now ≡ part_name t = cc in o (inl (one-number cfg now t (a.small now (inl refl)) l (part_name-inj now t s))))

    moved-to : (x : Path) → entry_at (effect cfg w e).content (part now ++ x) ≡ entry_at w.content (From ++ x)
    unfolding left
    moved-to x = ap (λ z. entry_at z (part now ++ x)) c ∙ moved-there w.content From (part now) x none-there

    from-diverge : (d : Path) → Outside d → Diverge From d
    from-diverge d o = Diverge-longer temporary d (generation_name w.fence ∷ task_name now ∷ part_name now ∷ []) o

    pub other-at : (d : Path) → Outside d → Diverge (part now) d → entry_at (effect cfg w e).content d ≡ entry_at w.content d
    other-at d o f = ap (λ z. entry_at z d) c ∙ elsewhere-at w.content (Rename From (part now)) d (from-diverge d o, f)

    moved-shown : Shown (effect cfg w e) now
    moved-shown = record {
      attempt = ready-now.attempt;
      bytes = ready-now.holds.bytes;
      wins = wins-on now ready-now.attempt ready-now.wins;
      whole = whole-on ready-now.attempt ready-now.holds.bytes ready-now.holds.whole;
      file = moved-to [] ∙ ready-now.holds.holds.file;
    }

    moved-ready : (t : TaskId) → In t rest → Ready (effect cfg w e) w.fence t
    moved-ready t i = ready-on t (λ b q x. ap (λ z. entry_at z (committed w.fence t ++ x)) c ∙
        left-elsewhere w.content (Rename From (part now)) (committed w.fence t) (Diverge-longer (committed w.fence now) (committed w.fence t) (part_name now ∷ []) (committed_other w.fence w.fence now t (λ u v. a.once.0 (subst (λ z. In z rest) (sym v) i))), inr (inl (part-temporary now))) x)
        (a.ready t (inr i))

    moved-merged : (t : TaskId) → IsReduce cfg t → (In t rest → ⊥) → Shown (effect cfg w e) t
    moved-merged t l o = by (task_eq now t) refl
      where
        by : (b : Bool) → task_eq now t ≡ b → Shown (effect cfg w e) t
        by true u = subst (Shown (effect cfg w e)) (task_eq-true now t u) moved-shown
        by false u = shown-on t (other-at (part t) (visible-outside (part t) (part-visible t)) (inr (inl (part_name-ne now t (λ z. task_eq-false now t u (one-number cfg now t (a.small now (inl refl)) l z)))))) (a.merged t l (not-in u))
          where
            not-in : task_eq now t ≡ false → In t (now ∷ rest) → ⊥
            not-in u (inl q) = task_eq-false now t u q
            not-in u (inr i) = o i

    moved-only : (p : Path) → IsVisible p → ((t : TaskId) → IsReduce cfg t → (In t rest → ⊥) → p ≡ part t → ⊥) → entry_at (effect cfg w e).content p ≡ None
    moved-only p v x = by (name_eq (part_name now) v.0) refl
      where
        here : (r : Path) → p ≡ part now ++ r → entry_at (effect cfg w e).content p ≡ None
        here [] q = absurd (x now (a.small now (inl refl)) a.once.0 q)
        here (m ∷ r) q = subst (λ z. entry_at (effect cfg w e).content z ≡ None) (sym q) (moved-to (m ∷ r) ∙
            ready-now.holds.holds.only (part_name now ∷ m ∷ r) (λ (z : part_name now ∷ m ∷ r ≡ []). cc) (λ (z : part_name now ∷ m ∷ r ≡ part_name now ∷ []). cc))

        by : (b : Bool) → name_eq (part_name now) v.0 ≡ b → entry_at (effect cfg w e).content p ≡ None
        by true u = here v.1 (v.2 ∙ ap (λ z. dest ++ z ∷ v.1) (sym (name_eq-true (part_name now) v.0 u)))
        by false u = other-at p (visible-outside p v) (subst (Diverge (part now)) (sym v.2) (inr (inl u))) ∙ a.only p v (λ t l o q. x t l (λ i. o (inr i)) q)

    pub moved-tasks : Tasks cfg (effect cfg w e) w.fence rest
    moved-tasks = record { once = a.once.1; small = λ t i. a.small t (inr i); ready = moved-ready; merged = moved-merged; only = moved-only }

    pub moved-dest : HasDest w → HasDest (effect cfg w e)
    unfolding left
    moved-dest d = ap (λ z. entry_at z dest) c ∙ (Rattle.mr_world_model.proofs.Paths.moved-other w.content From (part now) dest refl refl ∙ d)
