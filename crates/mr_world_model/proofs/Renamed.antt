-- Which calls a container made: each was the one that it wished to make then. So a reduce's container that reports has its rename answered.
use Rattle.std.proofs.Common.{ℕ, ◌≡◌, refl, sym, ◌∙◌, ap, subst, true, List, [], ◌∷◌, Option, Some, None, ◌⊎◌, inl, inr, length}
use Rattle.std.proofs.lemmas.Bool.{false≢true}
use Rattle.mr_container.specs.declared.reply.Reply as reply
use Rattle.mr_container.specs.Readings.{is_fine}
use Rattle.mr_world_model.specs.Ids.{Attempt, ContainerId, is_reduce, task_attempt, committed}
use Rattle.mr_world_model.specs.Content.{Op, Rename}
use Rattle.mr_world_model.specs.Packets.{Config, Reply, Fine, Envelope, Done}
use Rattle.mr_world_model.specs.Pasts.{Place, Step, Got, Sent, Computed, Called, Wish, To_rename, To_report, To_look, To_clear, wish, computed, wished_op}
use Rattle.mr_world_model.specs.World.{World, Event, wish_at, opening_world}
use Rattle.mr_world_model.specs.Effect.{effect, not_now}
use Rattle.mr_world_model.specs.Claims.{Limits, In, world_of}
use Rattle.mr_world_model.specs.Beside.{CommitsAreAllowed, HasRenamed, needs_yes}
use Rattle.mr_world_model.proofs.Basic.{along, or_parts}
use Rattle.mr_world_model.proofs.Lists.{Each-In}
use Rattle.mr_world_model.proofs.Yes.{past_yes}
use Rattle.mr_world_model.proofs.Wishes.{renamed, renames, is_report}
use Rattle.mr_world_model.proofs.Reports.{Sender, SaysDone, wish_as, place_was}
use Rattle.mr_world_model.proofs.Own.{PastCase, stays, takes, called, past_case, IsPlain}
use Rattle.mr_world_model.proofs.Dirs.{Known}
use Rattle.mr_world_model.proofs.Found.{Sure, sure, opening-sure, always}

-- each call of a past was wished for
abbrev pub OpsFit : ℕ → ℕ → Attempt → List Step → Type 0
OpsFit maps k x [] = Unit {0}
OpsFit maps k x (Called op r ∷ h) = (wished_op k x (computed h) (wish maps x h) ≡ Some op) × OpsFit maps k x h
OpsFit maps k x (Got p ∷ h) = OpsFit maps k x h
OpsFit maps k x (Sent p ∷ h) = OpsFit maps k x h
OpsFit maps k x (Computed bytes ∷ h) = OpsFit maps k x h

plain-fits : (maps k : ℕ) (x : Attempt) (s : Step) (h : List Step) → IsPlain s → OpsFit maps k x h → OpsFit maps k x (s ∷ h)
plain-fits maps k x (Called op r) h i o = absurd i
plain-fits maps k x (Got p) h i o = o
plain-fits maps k x (Sent p) h i o = o
plain-fits maps k x (Computed bytes) h i o = o

abbrev Wished : Config → World → Type 0
Wished cfg w = (c : ContainerId) (p : Place) → w.place c ≡ Some p → OpsFit (length cfg.splits) c.app p.attempt (w.container_past c)

wished-after : (cfg : Config) (w : World) (e : Event) → Known cfg w → not_now cfg w e ≡ None → Wished cfg w → Wished cfg (effect cfg w e)
wished-after cfg w e kn n o c p q = by (place_was cfg w e kn.cluster kn.heard n c p q)
  where
    Out : List Step → Type 0
    Out h = OpsFit (length cfg.splits) c.app p.attempt h

    past : w.place c ≡ Some p → PastCase cfg w e c p → Out ((effect cfg w e).container_past c)
    past z (stays u v) = subst Out (sym u) (o c p z)
    past z (takes s u i k v) = subst Out (sym u) (plain-fits (length cfg.splits) c.app p.attempt s (w.container_past c) i (o c p z))
    past z (called op g ev wi u v) = subst Out (sym u) (wi, o c p z)

    by : (w.place c ≡ Some p) ⊎ ((w.place c ≡ None) × ((effect cfg w e).container_past c ≡ [])) → Out ((effect cfg w e).container_past c)
    by (inl z) = past z (past_case cfg w e n c p z)
    by (inr z) = subst Out (sym z.1) tt

always-wished : (cfg : Config) (within : Limits) (es : List Event) → Wished cfg (world_of cfg within es)
always-wished cfg within es = (along (λ w. Sure cfg w × Wished cfg w) cfg within (λ w e s n. (sure cfg w e s.0 n, wished-after cfg w e s.0.known n s.1)) opening_world es (opening-sure cfg, λ c p e. cc)).1

-- so the answered rename is of its own directory
renames-is : (v : Wish) (s : Step) → renames v s ≡ true → (v ≡ To_rename) × (op : Op) × (r : reply.Reply) × (is_fine r ≡ true) × (s ≡ Called op r)
renames-is To_rename (Called op r) e = (refl, op, r, e, refl)
renames-is v s e = absurd (false≢true e)

rename-op : (k : ℕ) (x : Attempt) (bytes : List ℕ) (op : Op) → wished_op k x bytes To_rename ≡ Some op → Rename (task_attempt k x) (committed k x.task) ≡ op
unfolding wished_op
rename-op k x bytes op e = cc

pub renamed-In : (maps k : ℕ) (x : Attempt) (h : List Step) → OpsFit maps k x h → renamed maps x h ≡ true → (r : reply.Reply) × (is_fine r ≡ true) × In (Called (Rename (task_attempt k x) (committed k x.task)) r) h
unfolding renamed
renamed-In maps k x [] o e = absurd (false≢true e)
renamed-In maps k x (s ∷ h) o e = by (or_parts _ _ e) (λ r. renamed-In maps k x h (tail s o) r)
  where
    tail : (s : Step) → OpsFit maps k x (s ∷ h) → OpsFit maps k x h
    tail (Called op r) o = o.1
    tail (Got p) o = o
    tail (Sent p) o = o
    tail (Computed bytes) o = o

    by : (renamed maps x h ≡ true) ⊎ (renames (wish maps x h) s ≡ true) → (renamed maps x h ≡ true → (r : reply.Reply) × (is_fine r ≡ true) × In (Called (Rename (task_attempt k x) (committed k x.task)) r) h) →
        (r : reply.Reply) × (is_fine r ≡ true) × In (Called (Rename (task_attempt k x) (committed k x.task)) r) (s ∷ h)
    by (inl r) f = let g = f r in (g.0, g.1, inr g.2)
    by (inr r) f =
        let q = renames-is (wish maps x h) s r in
        let wished : OpsFit maps k x (Called q.1 q.2 ∷ h) = subst (λ z. OpsFit maps k x (z ∷ h)) q.4 o in
        (q.2, q.3, inl (q.4 ∙ ap (λ z. Called z q.2) (sym (rename-op k x (computed h) q.1 (subst (λ z. wished_op k x (computed h) z ≡ Some q.1) q.0 wished.0)))))

is-past : (v : Wish) → needs_yes v ≡ past_yes v
is-past To_look = refl
is-past To_clear = refl
is-past To_rename = refl
is-past To_report = refl
is-past v = refl

pub commits_are_allowed : (cfg : Config) (within : Limits) → CommitsAreAllowed cfg within
commits_are_allowed cfg within = record {
  yes = λ es c p q d y. (always cfg within es).known.heard.yes c p q d (sym (is-past (wish_as cfg (world_of cfg within es) c p)) ∙ subst (λ o. needs_yes (wish_at cfg c o ((world_of cfg within es).container_past c)) ≡ true) q y);
  reports = λ es c p q d y. renamed-In (length cfg.splits) c.app p.attempt ((world_of cfg within es).container_past c) (always-wished cfg within es c p q)
      ((always cfg within es).known.reports.report c p q d (ap is_report (subst (λ o. wish_at cfg c o ((world_of cfg within es).container_past c) ≡ To_report) q y)));
  done = done;
}
  where
    done : (es : List Event) (k : ℕ) (a : Attempt) (bytes : Option ℕ) → is_reduce a ≡ true → In (record { to = Rattle.mr_world_model.specs.Packets.Master k; body = Done a bytes }) (world_of cfg within es).bag →
        (c : ContainerId) × (p : Place) × (c.app ≡ k) × ((world_of cfg within es).place c ≡ Some p) × (p.attempt ≡ a) × HasRenamed (world_of cfg within es) c a
    done es k a bytes d i =
        let s : Sender cfg (world_of cfg within es) k a = Each-In (SaysDone cfg (world_of cfg within es)) (world_of cfg within es).bag (always cfg within es).known.reports.done _ i k a bytes refl d in
        (s.0, s.1, s.2, s.4, s.3, subst (λ z. HasRenamed (world_of cfg within es) s.0 z) s.3 (renamed-In (length cfg.splits) s.0.app s.1.attempt ((world_of cfg within es).container_past s.0) (always-wished cfg within es s.0 s.1 s.4) s.5))
