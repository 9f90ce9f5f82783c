-- What is seen at the destination, marked or not, is the winners'.
use Rattle.std.proofs.Common.{ℕ, ◌≡◌, refl, sym, ◌∙◌, ap, subst, Bool, true, false, List, [], ◌∷◌, ◌++◌, Some, None, ◌⊎◌, inl, inr}
use Rattle.std.proofs.lemmas.Bool.{true≢false}
use Rattle.mr_world_model.proofs.Opening.{opening-dest}
use Rattle.mr_world_model.proofs.Tasks.{is-part, part-same}
use Rattle.mr_world_model.specs.Claims.{IsReduce}
use Rattle.mr_world_model.specs.Ids.{Path, part, path_eq, dest, TaskId, task_eq}
use Rattle.mr_world_model.proofs.Names.{task_eq-true, task_eq-false}
use Rattle.mr_world_model.specs.Content.{Entry, File, entry_at, left}
use Rattle.mr_world_model.specs.Packets.{Config}
use Rattle.mr_world_model.specs.World.{World, Event, opening_world}
use Rattle.mr_world_model.specs.Effect.{effect, not_now}
use Rattle.mr_world_model.specs.Claims.{In, Limits, world_of, IsVisible, PublishedFilesAreTheWinners}
use Rattle.mr_world_model.proofs.Basic.{along}
use Rattle.mr_world_model.proofs.Paths.{path_eq-refl, put-other}
use Rattle.mr_world_model.proofs.Dirs.{none-some}
use Rattle.mr_world_model.proofs.Steps.{newest}
use Rattle.mr_world_model.proofs.Merge.{Shown, Tasks, Outer, outer, keeps, creates, shows, is_created}
use Rattle.mr_world_model.proofs.Merged.{shown-on, moved-tasks, part-visible}
use Rattle.mr_world_model.proofs.Outside.{visible-outside}
use Rattle.mr_world_model.proofs.Commit_steps.{created-visible}
use Rattle.mr_world_model.proofs.Outcomes.{All, all_after, opening-all}

-- a path that has something is the part of a reduce that is shown
abbrev Published : Config → World → Type 0
Published cfg w = (p : Path) (x : Entry) → IsVisible p → entry_at w.content p ≡ Some x → (t : TaskId) × IsReduce cfg t × (p ≡ part t) × Shown w t

In-or-not : (t : TaskId) (ts : List TaskId) → In t ts ⊎ (In t ts → ⊥)
In-or-not t [] = inr (λ i. i)
In-or-not t (u ∷ ts) = by (task_eq u t) refl (In-or-not t ts)
  where
    by : (b : Bool) → task_eq u t ≡ b → In t ts ⊎ (In t ts → ⊥) → In t (u ∷ ts) ⊎ (In t (u ∷ ts) → ⊥)
    by true q o = inl (inl (task_eq-true u t q))
    by false q (inl i) = inl (inr i)
    by false q (inr f) = inr no
      where
        no : In t (u ∷ ts) → ⊥
        no (inl e) = task_eq-false u t q e
        no (inr i) = f i

tasks-published : (cfg : Config) (w : World) (k : ℕ) (ts : List TaskId) → Tasks cfg w k ts → Published cfg w
tasks-published cfg w k ts a p x v e = by (is-part (dest ++ v.0 ∷ v.1) cfg.job cfg.reduces)
  where
    none : entry_at w.content p ≡ None → (t : TaskId) × IsReduce cfg t × (p ≡ part t) × Shown w t
    none q = none-some (sym q ∙ e)

    two : (t : TaskId) → p ≡ part t → IsReduce cfg t → In t ts ⊎ (In t ts → ⊥) → (t : TaskId) × IsReduce cfg t × (p ≡ part t) × Shown w t
    two t q l (inr f) = (t, l, q, a.merged t l f)
    two t q l (inl i) = none (a.only p v (λ u m f r. f (subst (λ z. In z ts) (part-same cfg t u l m (sym q ∙ r)) i)))

    by : ((t : TaskId) × (dest ++ v.0 ∷ v.1 ≡ part t) × IsReduce cfg t) ⊎ ((t : TaskId) → IsReduce cfg t → dest ++ v.0 ∷ v.1 ≡ part t → ⊥) → (t : TaskId) × IsReduce cfg t × (p ≡ part t) × Shown w t
    by (inl q) = two q.0 (v.2 ∙ q.1) q.2 (In-or-not q.0 ts)
    by (inr f) = none (a.only p v (λ t l o q. f t l (sym v.2 ∙ q)))

published : (cfg : Config) (w : World) (e : Event) → All cfg w → Published cfg w → not_now cfg w e ≡ None → Published cfg (effect cfg w e)
unfolding left
published cfg w e x o n = by (outer cfg w e x.sures.known n x.merge)
  where
    same : ((p : Path) → IsVisible p → entry_at (effect cfg w e).content p ≡ entry_at w.content p) → Published cfg (effect cfg w e)
    same f p y v q = let r = o p y v (sym (f p v) ∙ q) in (r.0, r.1, r.2, shown-on cfg w e x.sures.known n r.0 (f (part r.0) (part-visible r.0)) r.3)

    by : Outer cfg w e → Published cfg (effect cfg w e)
    by (keeps f) = same (λ p v. f p (visible-outside p v))
    by (creates q r c) = same (λ p v. ap (λ z. entry_at z p) c ∙ put-other w.content q (File [] true) p
        (λ u. true≢false (sym (path_eq-refl p) ∙ subst (λ z. path_eq z p ≡ false) u (subst (λ z. is_created z p ≡ false) r (created-visible (newest cfg w).phase p v)))))
    by (shows t rest a r c) = tasks-published cfg (effect cfg w e) w.fence rest (moved-tasks cfg w e x.sures.known n t rest a c)

record Seen_ever (cfg : Config) (w : World) : Type 0 where
  all : All cfg w
  published : Published cfg w

opening-published : (cfg : Config) → Published cfg opening_world
opening-published cfg p x v e = none-some (sym (subst (λ z. entry_at opening_world.content z ≡ None) (sym v.2) (opening-dest (v.0 ∷ v.1))) ∙ e)

pub published_are_winners : (cfg : Config) (within : Limits) → PublishedFilesAreTheWinners cfg within
published_are_winners cfg within es p x v e =
    let s = along (Seen_ever cfg) cfg within (λ w e s n. record { all = all_after cfg w e s.all n; published = published cfg w e s.all s.published n }) opening_world es (record { all = opening-all cfg; published = opening-published cfg }) in
    let r = s.published p x v e in let h = r.3 in
    let y : Some x ≡ Some (File h.bytes true) = sym e ∙ (ap (λ z. entry_at (world_of cfg within es).content z) r.2 ∙ h.file) in
    (r.0, r.1, r.2, h.attempt, h.bytes, h.wins, h.whole, cc)
