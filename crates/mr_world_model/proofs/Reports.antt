-- Over every list of events: a reduce's Done was sent by a container whose rename was answered, and what it computed stays.
use Rattle.std.proofs.Common.{ℕ, ◌≡◌, refl, sym, ◌∙◌, ap, subst, Bool, true, false, ◌||◌, List, [], ◌∷◌, Option, Some, None, nat_lt, ◌⊎◌, inl, inr, length, slice_get}
use Rattle.std.proofs.lemmas.Bool.{false≢true, true≢false}
use Rattle.mr_world_model.specs.Ids.{Attempt, ContainerId, is_reduce}
use Rattle.mr_world_model.specs.Packets.{Config, Packet, Envelope, Address, Master, Container, Node, Done}
use Rattle.mr_world_model.specs.Content.{Op}
use Rattle.mr_world_model.specs.Pasts.{Place, Step, Got, Sent, Computed, Called, Wish, To_rename, wish, was_computed, computed, part_length}
use Rattle.mr_world_model.proofs.Nexts.{wish-first, wish-step}
use Rattle.mr_world_model.specs.World.{World, Event, Deliver, ContainerStep, Compute, Weather, Container_act, container_act, got_act, step_act, opening_world, op_of, packet_of, wish_at}
use Rattle.mr_world_model.specs.Sending.{sent, to_app}
use Rattle.mr_world_model.specs.Effect.{effect, not_now, wants_compute}
use Rattle.mr_world_model.specs.Claims.{IsWhole}
use Rattle.mr_world_model.proofs.Basic.{if_cases, unless_parts, or_parts}
use Rattle.mr_world_model.proofs.Lists.{In-left, Each, Each-append}
use Rattle.mr_world_model.proofs.Closed.{or-true}
use Rattle.mr_world_model.proofs.Cluster.{Cluster, place_after}
use Rattle.mr_world_model.proofs.Told_yes.{WasTold, past_after, obeyed-new, Heard_yes, no-step}
use Rattle.mr_world_model.proofs.Wishes.{is_late, StepOk, is_result, late-next, computed-step, computed-same, wants-early, renamed, renames, is_report, report-next}
use Rattle.mr_world_model.proofs.Yes.{past_yes}
use Rattle.mr_world_model.proofs.Said.{Sayings, sent-each, is_plain}

-- a container that was launched as p
abbrev pub wish_as : Config → World → ContainerId → Place → Wish
wish_as cfg w c p = wish (length cfg.splits) p.attempt (w.container_past c)

abbrev pub renamed_as : Config → World → ContainerId → Place → Bool
renamed_as cfg w c p = renamed (length cfg.splits) p.attempt (w.container_past c)

abbrev pub Sender : Config → World → ℕ → Attempt → Type 0
Sender cfg w k a = (c : ContainerId) × (p : Place) × (c.app ≡ k) × (p.attempt ≡ a) × (w.place c ≡ Some p) × (renamed_as cfg w c p ≡ true)

abbrev pub SaysDone : Config → World → Envelope → Type 0
SaysDone cfg w v = (k : ℕ) (a : Attempt) (z : Option ℕ) → v ≡ to_app k (Done a z) → is_reduce a ≡ true → Sender cfg w k a

pub record Reports (cfg : Config) (w : World) : Type 0 where
  pub late : (c : ContainerId) (p : Place) → w.place c ≡ Some p → was_computed (w.container_past c) ≡ is_late (wish_as cfg w c p)
  pub report : (c : ContainerId) (p : Place) → w.place c ≡ Some p → is_reduce p.attempt ≡ true → is_report (wish_as cfg w c p) ≡ true → renamed_as cfg w c p ≡ true
  pub told : (c : ContainerId) (p : Place) → w.place c ≡ Some p → is_reduce p.attempt ≡ true → renamed_as cfg w c p ≡ true → WasTold w c p.attempt
  pub done : Each (SaysDone cfg w) w.bag

-- a place stays
pub place_kept : (cfg : Config) (w : World) (e : Event) → Cluster cfg w → (c : ContainerId) (p : Place) → w.place c ≡ Some p → (effect cfg w e).place c ≡ Some p
place_kept cfg w e h c p q = place_after w e c (λ v. v ≡ Some p) q (λ x o m. let n : w.place c ≡ None = subst (λ z. w.place z ≡ None) (sym m) (obeyed-new cfg w e h x o) in cc)

-- a place is an old one, or new and with an empty past
pub place_was : (cfg : Config) (w : World) (e : Event) → Cluster cfg w → Heard_yes cfg w → not_now cfg w e ≡ None → (c : ContainerId) (p : Place) → (effect cfg w e).place c ≡ Some p →
    (w.place c ≡ Some p) ⊎ ((w.place c ≡ None) × ((effect cfg w e).container_past c ≡ []))
place_was cfg w e h y n c p = place_after w e c (λ v. v ≡ Some p → (w.place c ≡ Some p) ⊎ ((w.place c ≡ None) × ((effect cfg w e).container_past c ≡ [])))
    (λ q. inl q) (λ x o m q. let none : w.place c ≡ None = subst (λ z. w.place z ≡ None) (sym m) (obeyed-new cfg w e h x o) in
    inr (none, no-step cfg w e h n c none (y.unborn c none)))

-- what is handed in was wished
abbrev ActOk : Config → World → Option Container_act → Type 0
ActOk cfg w None = Unit {0}
ActOk cfg w (Some a) = (p : Place) → w.place a.who ≡ Some p → StepOk (wish_as cfg w a.who p) a.step

got-ok : (cfg : Config) (w : World) (o : Option Envelope) → ActOk cfg w (got_act o)
got-ok cfg w None = tt
got-ok cfg w (Some v) = to v.to v.body
  where
    to : (x : Address) (p : Packet) → ActOk cfg w (got_act (Some (record { to = x; body = p })))
    to (Master k) p = tt
    to (Container c) p = λ p q. tt
    to (Node n) p = tt

step-ok : (cfg : Config) (w : World) (c : ContainerId) (f : Weather) (o : Option Op) (v : Option Envelope) → ActOk cfg w (step_act w c f o v)
step-ok cfg w c f (Some op) v = λ p q. tt
step-ok cfg w c f None (Some v) = λ p q. tt
step-ok cfg w c f None None = tt

act-ok : (cfg : Config) (w : World) (e : Event) → not_now cfg w e ≡ None → ActOk cfg w (container_act cfg w e)
unfolding container_act not_now
act-ok cfg w (Deliver i) n = got-ok cfg w (slice_get w.bag i)
act-ok cfg w (ContainerStep c f) n = step-ok cfg w c f (op_of cfg w c) (packet_of cfg w c)
act-ok cfg w (Compute c b) n = λ p q. subst (λ z. wants_compute (wish_at cfg c z (w.container_past c)) ≡ true) q (unless_parts _ _ _ (unless_parts _ _ _ n).1).0
act-ok cfg w _ n = tt

pub steps-ok : (cfg : Config) (w : World) (e : Event) → not_now cfg w e ≡ None → (a : Container_act) → container_act cfg w e ≡ Some a → (c : ContainerId) → c ≡ a.who → (p : Place) → w.place c ≡ Some p → StepOk (wish_as cfg w c p) a.step
steps-ok cfg w e n a q c m p r = subst (λ z. StepOk (wish_as cfg w z p) a.step) (sym m) (let u : ActOk cfg w (Some a) = subst (ActOk cfg w) q (act-ok cfg w e n) in u p (subst (λ z. w.place z ≡ Some p) m r))

pub renamed_after : (cfg : Config) (w : World) (e : Event) (c : ContainerId) (p : Place) → renamed_as cfg w c p ≡ true → renamed_as cfg (effect cfg w e) c p ≡ true
unfolding renamed
renamed_after cfg w e c p r = past_after w (container_act cfg w e) c (λ x. renamed (length cfg.splits) p.attempt x ≡ true) r (λ a q m. rw r refl)

pub sender_after : (cfg : Config) (w : World) (e : Event) → Cluster cfg w → (k : ℕ) (a : Attempt) → Sender cfg w k a → Sender cfg (effect cfg w e) k a
sender_after cfg w e h k a s = (s.0, s.1, s.2, s.3, place_kept cfg w e h s.0 s.1 s.4, renamed_after cfg w e s.0 s.1 s.5)

-- a result stays as it was handed in
pub computed_kept : (cfg : Config) (w : World) (e : Event) → Reports cfg w → not_now cfg w e ≡ None → (c : ContainerId) (p : Place) → w.place c ≡ Some p → was_computed (w.container_past c) ≡ true →
    (computed ((effect cfg w e).container_past c) ≡ computed (w.container_past c)) × (was_computed ((effect cfg w e).container_past c) ≡ true)
computed_kept cfg w e r n c p q t = past_after w (container_act cfg w e) c (λ x. (computed x ≡ computed (w.container_past c)) × (was_computed x ≡ true)) (refl, t)
    (λ a z m. (computed-same a.step (w.container_past c) (plain a.step (steps-ok cfg w e n a z c m p q)), computed-step a.step (w.container_past c) ∙ rw t (or-true _)))
  where
    plain : (s : Step) → StepOk (wish_as cfg w c p) s → is_result s ≡ false
    plain (Computed b) o = absurd (true≢false (sym (sym (r.late c p q) ∙ t) ∙ wants-early _ o))
    plain (Got v) o = refl
    plain (Sent v) o = refl
    plain (Called op v) o = refl

pub whole_after : (cfg : Config) (w : World) (e : Event) → Cluster cfg w → Reports cfg w → not_now cfg w e ≡ None → (a : Attempt) (bytes : List ℕ) → IsWhole w a bytes → IsWhole (effect cfg w e) a bytes
whole_after cfg w e h r n a bytes x = let k = computed_kept cfg w e r n x.0 x.1 x.2 x.5 in
    (x.0, x.1, place_kept cfg w e h x.0 x.1 x.2, x.3, k.0 ∙ x.4, k.1)

first-late : (maps : ℕ) (x : Attempt) → is_late (wish maps x []) ≡ false
first-late maps x = ap is_late (wish-first maps x) ∙ if_cases (λ w. is_late w ≡ false) (is_reduce x) _ _ (λ t. if_cases (λ w. is_late w ≡ false) (nat_lt 0 maps) _ _ (λ t. refl) (λ t. refl)) (λ t. refl)

first-report : (maps : ℕ) (x : Attempt) → is_report (wish maps x []) ≡ false
first-report maps x = ap is_report (wish-first maps x) ∙ if_cases (λ w. is_report w ≡ false) (is_reduce x) _ _ (λ t. if_cases (λ w. is_report w ≡ false) (nat_lt 0 maps) _ _ (λ t. refl) (λ t. refl)) (λ t. refl)

late_after : (cfg : Config) (w : World) (e : Event) → Cluster cfg w → Heard_yes cfg w → Reports cfg w → not_now cfg w e ≡ None → (c : ContainerId) (p : Place) → (effect cfg w e).place c ≡ Some p →
    was_computed ((effect cfg w e).container_past c) ≡ is_late (wish_as cfg (effect cfg w e) c p)
unfolding was_computed
late_after cfg w e h y r n c p q = by (place_was cfg w e h y n c p q)
  where
    by : (w.place c ≡ Some p) ⊎ ((w.place c ≡ None) × ((effect cfg w e).container_past c ≡ [])) → was_computed ((effect cfg w e).container_past c) ≡ is_late (wish_as cfg (effect cfg w e) c p)
    by (inr z) = subst (λ x. was_computed x ≡ is_late (wish (length cfg.splits) p.attempt x)) (sym z.1) (sym (first-late (length cfg.splits) p.attempt))
    by (inl z) = past_after w (container_act cfg w e) c (λ x. was_computed x ≡ is_late (wish (length cfg.splits) p.attempt x)) (r.late c p z)
        (λ a v m. computed-step a.step (w.container_past c) ∙ (ap (λ b. is_result a.step || b) (r.late c p z) ∙ (late-next (length cfg.splits) p.attempt (wish_as cfg w c p) a.step (steps-ok cfg w e n a v c m p z) ∙ ap is_late (sym (wish-step (length cfg.splits) p.attempt (w.container_past c) a.step)))))

report_after : (cfg : Config) (w : World) (e : Event) → Cluster cfg w → Heard_yes cfg w → Reports cfg w → not_now cfg w e ≡ None → (c : ContainerId) (p : Place) → (effect cfg w e).place c ≡ Some p → is_reduce p.attempt ≡ true →
    is_report (wish_as cfg (effect cfg w e) c p) ≡ true → renamed_as cfg (effect cfg w e) c p ≡ true
unfolding renamed
report_after cfg w e h y r n c p q d = by (place_was cfg w e h y n c p q)
  where
    by : (w.place c ≡ Some p) ⊎ ((w.place c ≡ None) × ((effect cfg w e).container_past c ≡ [])) → is_report (wish_as cfg (effect cfg w e) c p) ≡ true → renamed_as cfg (effect cfg w e) c p ≡ true
    by (inr z) = λ t. absurd (false≢true (sym (subst (λ x. is_report (wish (length cfg.splits) p.attempt x) ≡ false) (sym z.1) (first-report (length cfg.splits) p.attempt)) ∙ t))
    by (inl z) = past_after w (container_act cfg w e) c (λ x. is_report (wish (length cfg.splits) p.attempt x) ≡ true → renamed (length cfg.splits) p.attempt x ≡ true) (r.report c p z d)
        (λ a v m t. one a (report-next (length cfg.splits) p.attempt (wish_as cfg w c p) a.step d (ap is_report (sym (wish-step (length cfg.splits) p.attempt (w.container_past c) a.step)) ∙ t)))
      where
        one : (a : Container_act) → (is_report (wish_as cfg w c p) ≡ true) ⊎ (renames (wish_as cfg w c p) a.step ≡ true) → (renamed_as cfg w c p || renames (wish_as cfg w c p) a.step) ≡ true
        one a (inl t) = rw (r.report c p z d t) refl
        one a (inr t) = rw t (or-true _)

was_rename : (w : Wish) (s : Step) → renames w s ≡ true → past_yes w ≡ true
was_rename To_rename s e = refl
was_rename w s e = absurd (false≢true e)

told_after : (cfg : Config) (w : World) (e : Event) → Cluster cfg w → Heard_yes cfg w → Reports cfg w → not_now cfg w e ≡ None → (c : ContainerId) (p : Place) → (effect cfg w e).place c ≡ Some p → is_reduce p.attempt ≡ true →
    renamed_as cfg (effect cfg w e) c p ≡ true → WasTold (effect cfg w e) c p.attempt
unfolding renamed
told_after cfg w e h y r n c p q d = by (place_was cfg w e h y n c p q)
  where
    by : (w.place c ≡ Some p) ⊎ ((w.place c ≡ None) × ((effect cfg w e).container_past c ≡ [])) → renamed_as cfg (effect cfg w e) c p ≡ true → WasTold (effect cfg w e) c p.attempt
    by (inr z) = λ t. absurd (false≢true (sym (subst (λ x. renamed (length cfg.splits) p.attempt x ≡ false) (sym z.1) refl) ∙ t))
    by (inl z) = past_after w (container_act cfg w e) c (λ x. renamed (length cfg.splits) p.attempt x ≡ true → WasTold (effect cfg w e) c p.attempt)
        (λ t. In-left _ w.bag (sent cfg w e) (r.told c p z d t)) (λ a v m t. In-left _ w.bag (sent cfg w e) (one a (or_parts _ _ t)))
      where
        one : (a : Container_act) → (renamed_as cfg w c p ≡ true) ⊎ (renames (wish_as cfg w c p) a.step ≡ true) → WasTold w c p.attempt
        one a (inl t) = r.told c p z d t
        one a (inr t) = y.yes c p z d (was_rename (wish_as cfg w c p) a.step t)

bag_after : (cfg : Config) (w : World) (e : Event) → Cluster cfg w → (vs : List Envelope) → Each (SaysDone cfg w) vs → Each (SaysDone cfg (effect cfg w e)) vs
bag_after cfg w e h [] o = tt
bag_after cfg w e h (v ∷ vs) o = (λ k a z q d. sender_after cfg w e h k a (o.0 k a z q d), bag_after cfg w e h vs o.1)

done-sayings : (cfg : Config) (u : World) → Sayings (SaysDone cfg u)
done-sayings cfg u = record {
  plain = λ v t k a z q. absurd (false≢true (sym (ap (λ (z : Envelope). is_plain z.body) q) ∙ t));
  won = λ n t a k b z q. let r = ap (λ (z : Envelope). z.body) q in cc;
}

sent-done : (cfg : Config) (w : World) (e : Event) → Cluster cfg w → Reports cfg w → Each (SaysDone cfg (effect cfg w e)) (sent cfg w e)
sent-done cfg w e h r = sent-each (SaysDone cfg (effect cfg w e)) (done-sayings cfg (effect cfg w e)) cfg w e
    (λ a q m b f g k x z u. let v = ap (λ (z : Envelope). z.body) u in cc)
    (λ c f p q u v k a z x d.
    let b : Done p.attempt (part_length p.attempt (computed (w.container_past c))) ≡ Done a z = ap (λ (z : Envelope). z.body) x in let t : Master c.app ≡ Master k = ap (λ (z : Envelope). z.to) x in
    let pa : p.attempt ≡ a = cc in let ck : c.app ≡ k = cc in
    let ren : renamed_as cfg w c p ≡ true = r.report c p u (subst (λ z. (is_reduce z) ≡ true) (sym pa) d) (subst (λ z. is_report z ≡ true) (sym v) refl) in
    sender_after cfg w e h k a (c, p, ck, pa, u, ren))

pub reports : (cfg : Config) (w : World) (e : Event) → Cluster cfg w → Heard_yes cfg w → Reports cfg w → not_now cfg w e ≡ None → Reports cfg (effect cfg w e)
reports cfg w e h y r n = record {
  late = late_after cfg w e h y r n;
  report = report_after cfg w e h y r n;
  told = told_after cfg w e h y r n;
  done = Each-append (SaysDone cfg (effect cfg w e)) w.bag _ (bag_after cfg w e h w.bag r.done) (sent-done cfg w e h r);
}

pub opening-reports : (cfg : Config) → Reports cfg opening_world
opening-reports cfg = record { late = λ c p e. cc; report = λ c p e. cc; told = λ c p e. cc; done = tt }

-- what a renamed container computed is whole
pub sender-whole : (cfg : Config) (w : World) → Reports cfg w → (c : ContainerId) (p : Place) → w.place c ≡ Some p → is_late (wish_as cfg w c p) ≡ true → IsWhole w p.attempt (computed (w.container_past c))
sender-whole cfg w r c p q t = (c, p, q, refl, refl, r.late c p q ∙ t)
