-- Where success was told the marker is there, and no later event changes what a reader sees, whatever the namespace lacks.
use Rattle.std.proofs.Common.{ℕ, ◌≡◌, refl, sym, ◌∙◌, ap, subst, Bool, true, false, ◌&&◌, List, [], ◌∷◌, ◌++◌, Option, Some, None, is_none, is_some, ◌⊎◌, inl, inr, slice_get}
use Rattle.std.proofs.lemmas.Bool.{false≢true, true≢false}
use Rattle.mr_world_model.specs.Ids.{Path, commit_fail, commit_started, commit_success, marker, temporary}
use Rattle.mr_world_model.specs.Content.{Content, Create, Entry, Exist, Kind, Op, entry_at, left, option_kind}
use Rattle.mr_world_model.specs.Packets.{Caller, Config, Store, Names, Append_record, Flush, Read_history, Envelope, Found, Outcome, Reply, Won, Done}
use Rattle.mr_world_model.specs.Pasts.{computed, part_length}
use Rattle.mr_world_model.specs.Hearing.{Committing, Finished, Opening, Phase, Seen, Succeeding}
use Rattle.mr_world_model.specs.Duties.{Master_step, duty_of, is_fine, next_seen, seen}
use Rattle.mr_world_model.specs.World.{World, Event, Start, Crash, Duty, LaunchOn, Deliver, ContainerStep, Compute, Die, NodeRestart, Expire, Weather, Master_act, call_of, duty, duty_act, duty_made, master_act, opening_world, seen_by}
use Rattle.mr_world_model.specs.Effect.{content_after, not_now}
use Rattle.mr_world_model.specs.Sending.{sent}
use Rattle.mr_world_model.specs.Claims.{In, IsMarked, IsToldOutcome, IsVisible, Limits, LooksTheSame}
use Rattle.mr_world_model.proofs.Apart.{Diverge, Elsewhere}
use Rattle.mr_world_model.proofs.Basic.{if_cases}
use Rattle.mr_world_model.proofs.Lists.{Each, Each-In, In-parts}
use Rattle.mr_world_model.proofs.Marks.{opening-call}
use Rattle.mr_world_model.proofs.Masters.{told-phase}
use Rattle.mr_world_model.proofs.Opening.{opening-mark}
use Rattle.mr_world_model.proofs.Outside.{Result, result, elsewhere-at, visible-outside, good, no, gone, blind}
use Rattle.mr_world_model.proofs.Paths.{put-same}
use Rattle.mr_world_model.proofs.Said.{Sayings, is_finished, is_plain, sent-each}
use Rattle.mr_world_model.proofs.Steps.{IsHeard}
use Rattle.mr_world_model.proofs.Told.{came_act-is}
use Rattle.mr_world_weaker.specs.Lacking.{Kind as Lack, answered_as, caller_in, slips, unguarded, weak_effect, weak_happens, weak_run, weak_world_of}
use Rattle.mr_world_weaker.specs.Weaker.{SuccessIsFinal}
use Rattle.mr_world_weaker.proofs.Alone.{Alone, Done as Did, IsThere, Past, asked, container-same, done, goes-on, heard-quiet, left_by, made, next_phase, quiet-back, said, same-at, undone, unnamed-same}
use Rattle.mr_world_weaker.proofs.Publishing.{is_publishing, Reaches, away, starts, succeeds, fails, duty-reaches}
use Rattle.mr_world_weaker.proofs.Slips.{weak_run-append}
use Rattle.mr_world_weaker.proofs.Succeeding.{Ends, finds, is_success, makes, told-success}

-- a path that no call reaches behind COMMIT_SUCCESS
record Guarded (x : Path) : Type 0 where
  outside : Diverge temporary x
  started : Diverge commit_started x
  failed : Diverge commit_fail x

guarded-success : Guarded commit_success
guarded-success = record { outside = inl refl; started = inr (inl refl); failed = inr (inl refl) }

guarded-marker : Guarded marker
guarded-marker = record { outside = inr (inl refl); started = inl refl; failed = inl refl }

guarded-visible : (p : Path) → IsVisible p → Guarded p
guarded-visible p v = record {
  outside = visible-outside p v;
  started = subst (λ z. Diverge commit_started z) (sym v.2) (inl refl);
  failed = subst (λ z. Diverge commit_fail z) (sym v.2) (inl refl);
}

-- ---- an event behind it

named-behind : (cfg : Config) (u : World) (k : ℕ) (g : Weather) (op : Op) (a : Alone cfg u.content u.master_past) (d : duty cfg u k ≡ Some (Names op)) → IsThere u.content commit_success → (x : Path) → Guarded x →
    entry_at (left_by u k g (Names op)) x ≡ entry_at u.content x
named-behind cfg u k g op a d o x v = by (duty-reaches cfg k (seen_by cfg u k) op d (a.apart k))
  where
    plain : is_publishing (seen_by cfg u k).phase ≡ false
    plain = (a.over o).2 k

    by : Reaches (seen_by cfg u k).phase op → entry_at (left_by u k g (Names op)) x ≡ entry_at u.content x
    by (away e f n) = same-at cfg u k g op a d x (f plain x v.outside)
    by (starts p e) = same-at cfg u k g op a d x (subst (λ z. Elsewhere z x) (sym e) v.started)
    by (succeeds p e) = absurd (false≢true (sym plain ∙ subst (λ z. is_publishing z ≡ true) (sym p) refl))
    by (fails p e) = same-at cfg u k g op a d x (subst (λ z. Elsewhere z x) (sym e) v.failed)

same-behind : (cfg : Config) (u : World) (e : Event) → Alone cfg u.content u.master_past → IsThere u.content commit_success → (x : Path) → Guarded x → entry_at (content_after u (call_of cfg u e)) x ≡ entry_at u.content x
unfolding call_of
same-behind cfg u (Start k kept) a o x v = refl
same-behind cfg u (Crash k kept) a o x v = refl
same-behind cfg u (Compute c bytes) a o x v = refl
same-behind cfg u (Die c) a o x v = refl
same-behind cfg u (NodeRestart n) a o x v = refl
same-behind cfg u (ContainerStep c g) a o x v = container-same cfg u c g x v.outside
same-behind cfg u (LaunchOn k t n) a o x v = refl
same-behind cfg u (Expire k n) a o x v = refl
same-behind cfg u (Deliver i) a o x v = refl
same-behind cfg u (Duty k g) a o x v = by (duty cfg u k) refl
  where
    by : (m : Option Store) → duty cfg u k ≡ m → entry_at (content_after u (duty_made k g m)) x ≡ entry_at u.content x
    by None q = refl
    by (Some (Names op)) q = named-behind cfg u k g op a q o x v
    by (Some (Append_record r)) q = ap (λ z. entry_at z x) (unnamed-same u k g (Append_record r) (λ op e. cc))
    by (Some Flush) q = ap (λ z. entry_at z x) (unnamed-same u k g Flush (λ op e. cc))
    by (Some Read_history) q = ap (λ z. entry_at z x) (unnamed-same u k g Read_history (λ op e. cc))

-- ---- who tells success has found it, or made it

kind-there : (o : Option Entry) (kind : Kind) → option_kind o ≡ Some kind → is_some o ≡ true
kind-there None kind e = cc
kind-there (Some x) kind e = refl

found_is : (o : Option Kind) (kind : Kind) → Found o ≡ Found (Some kind) → o ≡ Some kind
found_is o kind e = cc

found-there : (c d : Content) (r : Reply) (kind : Kind) → Result c (Exist commit_success) d r → r ≡ Found (Some kind) → IsThere d commit_success
found-there c d _ kind (good x q) e = ap (λ z. is_some (entry_at z commit_success)) q ∙ (ap is_some (elsewhere-at c (Exist commit_success) commit_success tt) ∙ kind-there (entry_at c commit_success) kind (found_is _ kind e))
found-there c d _ kind (no f q) e = cc
found-there c d _ kind (gone q) e = cc
found-there c d _ kind (blind x q) e = cc

made-there : (c d : Content) (r : Reply) → Did c (Create commit_success true) d r → is_fine r ≡ true → IsThere d commit_success
unfolding left
made-there c d r (undone q n) f = absurd (true≢false (sym f ∙ n))
made-there c d r (made x q) f = ap (λ z. is_some (entry_at z commit_success)) q ∙ ap is_some (put-same c commit_success _)

tells : (cfg : Config) (u : World) (k : ℕ) (g : Weather) (call : Store) → duty cfg u k ≡ Some call → is_success (next_phase cfg u k g call) ≡ true → is_finished (seen_by cfg u k).phase ≡ false → IsThere (left_by u k g call) commit_success
unfolding duty_of
tells cfg u k g call d t n = by (told-success k (seen_by cfg u k) (seen_by cfg u k).phase call (said u k g call) (subst (λ p. is_success p ≡ true) (told-phase cfg k (seen_by cfg u k) call (said u k g call)) t) n)
  where
    at : (p : Phase) → (seen_by cfg u k).phase ≡ p → duty_of cfg k (seen_by cfg u k) p ≡ Some call
    at p e = subst (λ z. duty_of cfg k (seen_by cfg u k) z ≡ Some call) e d

    found : (kind : Kind) → said u k g (Names (Exist commit_success)) ≡ Found (Some kind) → IsThere (left_by u k g (Names (Exist commit_success))) commit_success
    found kind q = found-there u.content _ _ kind (result u k (Exist commit_success) g) q

    made_it : is_fine (said u k g (Names (Create commit_success true))) ≡ true → IsThere (left_by u k g (Names (Create commit_success true))) commit_success
    made_it q = made-there u.content _ _ (done u.content (Create commit_success true) _ _ (result u k (Create commit_success true) g)) q

    makes_it : Some (Names (Create commit_success true)) ≡ Some call → Names (Create commit_success true) ≡ call
    makes_it e = cc

    by : Ends (seen_by cfg u k).phase call (said u k g call) → IsThere (left_by u k g call) commit_success
    by (finds p kind q) = subst (λ c. said u k g c ≡ Found (Some kind) → IsThere (left_by u k g c) commit_success) (opening-call cfg k (seen_by cfg u k) 0 call (at (Opening 0) p)) (found kind) q
    by (makes p q) = subst (λ c. is_fine (said u k g c) ≡ true → IsThere (left_by u k g c) commit_success) (makes_it (at (Committing Succeeding) p)) made_it q

success-finished : (p : Phase) → is_success p ≡ true → is_finished p ≡ true
success-finished (Finished b) e = refl
success-finished p e = absurd (false≢true e)

heard-not : (cfg : Config) (k : ℕ) (s : Seen) (x : Master_step) → IsHeard x → is_success (next_seen cfg k s x).phase ≡ true → is_finished s.phase ≡ false → ⊥
heard-not cfg k s x i e n = true≢false (sym (success-finished s.phase (quiet-back is_success refl _ _ (heard-quiet cfg k s x i) e)) ∙ n)

none-act : {P : Type 0} (a : Master_act) → None ≡ Some a → P
none-act a e = cc

act_is : (a b : Master_act) → Some a ≡ Some b → a ≡ b
act_is a b e = cc

act-tells : (cfg : Config) (u : World) (e : Event) (a : Master_act) → master_act cfg u e ≡ Some a → is_success (next_seen cfg a.who (seen_by cfg u a.who) a.step).phase ≡ true → is_finished (seen_by cfg u a.who).phase ≡ false →
    IsThere (content_after u (call_of cfg u e)) commit_success
unfolding call_of master_act
act-tells cfg u (Start k kept) a q t n = none-act a q
act-tells cfg u (Crash k kept) a q t n = none-act a q
act-tells cfg u (Compute c bytes) a q t n = none-act a q
act-tells cfg u (Die c) a q t n = none-act a q
act-tells cfg u (NodeRestart m) a q t n = none-act a q
act-tells cfg u (ContainerStep c g) a q t n = none-act a q
act-tells cfg u (LaunchOn k r m) a q t n = absurd (heard-not cfg a.who (seen_by cfg u a.who) a.step (subst (λ x. IsHeard x.step) (act_is _ a q) tt) t n)
act-tells cfg u (Expire k m) a q t n = absurd (heard-not cfg a.who (seen_by cfg u a.who) a.step (subst (λ x. IsHeard x.step) (act_is _ a q) tt) t n)
act-tells cfg u (Deliver i) a q t n = absurd (heard-not cfg a.who (seen_by cfg u a.who) a.step (subst IsHeard (sym (came_act-is (slice_get u.bag i) a q).1) tt) t n)
act-tells cfg u (Duty k g) a q t n = by (duty cfg u k) refl q
  where
    by : (o : Option Store) → duty cfg u k ≡ o → duty_act u k g o ≡ Some a → IsThere (content_after u (duty_made k g o)) commit_success
    by None d q = none-act a q
    by (Some call) d q = tells cfg u k g call d
        (subst (λ x. is_success (next_seen cfg x.who (seen_by cfg u x.who) x.step).phase ≡ true) (sym (act_is (asked u k g call) a q)) t)
        (subst (λ x. is_finished (seen_by cfg u x.who).phase ≡ false) (sym (act_is (asked u k g call) a q)) n)

abbrev Tells : Content → Envelope → Type 0
Tells c v = v.body ≡ Outcome true → IsThere c commit_success

sent-tells : (cfg : Config) (u : World) (e : Event) → Each (Tells (content_after u (call_of cfg u e))) (sent cfg u e)
sent-tells cfg u e = sent-each (Tells (content_after u (call_of cfg u e))) sayings cfg u e
    (λ a q m b f n z. act-tells cfg u e a q (ap is_success f ∙ told b z) n)
    (λ c g p q w y (z : Done p.attempt (part_length p.attempt (computed (u.container_past c))) ≡ Outcome true). cc)
  where
    told : (b : Bool) → Outcome b ≡ Outcome true → b ≡ true
    told b z = cc

    sayings : Sayings (Tells (content_after u (call_of cfg u e)))
    sayings = record {
      plain = λ v t q. absurd (false≢true (sym (ap is_plain q) ∙ t));
      won = λ n t a (q : Won t a ≡ Outcome true). cc;
    }

-- ---- runs

-- a caller who slips through is answered over the same content; each master has its past, and what was sent was sent
lent : (P : Content → Past → List Envelope → Type 0) (kd : Lack) (w : World) (o : Option Caller) → P w.content w.master_past w.bag → P (answered_as kd w o).content (answered_as kd w o).master_past (answered_as kd w o).bag
lent P kd w None p = p
lent P kd w (Some c) p = if_cases (λ (u : World). P u.content u.master_past u.bag) (slips kd w c) (unguarded kd w c) w (λ t. p) (λ t. p)

along : (P : World → Type 0) (kd : Lack) (cfg : Config) (within : Limits) → ((w : World) (e : Event) → P w → P (weak_effect kd cfg w e)) → (w : World) (es : List Event) → P w → P (weak_run kd cfg within w es)
unfolding weak_run weak_happens
along P kd cfg within kept w [] p = p
along P kd cfg within kept w (e ∷ es) p = along P kd cfg within kept (weak_happens kd cfg within w e) es (if_cases P (is_none (not_now cfg w e) && within w e) (weak_effect kd cfg w e) w (λ t. kept w e p) (λ t. p))

-- who was told of success was told where COMMIT_SUCCESS is
record Told (cfg : Config) (w : World) : Type 0 where
  alone : Alone cfg w.content w.master_past
  told : IsToldOutcome w true → IsThere w.content commit_success

moved : (kd : Lack) (cfg : Config) (w : World) (e : Event) → Alone cfg w.content w.master_past → IsThere w.content commit_success → (x : Path) → Guarded x →
    entry_at (content_after (answered_as kd w (caller_in w e)) (call_of cfg (answered_as kd w (caller_in w e)) e)) x ≡ entry_at w.content x
moved kd cfg w e a o x v = same-behind cfg (answered_as kd w (caller_in w e)) e (lent (λ c f b. Alone cfg c f) kd w (caller_in w e) a) (lent (λ c f b. IsThere c commit_success) kd w (caller_in w e) o) x v
    ∙ lent (λ c f b. entry_at c x ≡ entry_at w.content x) kd w (caller_in w e) refl

told-on : (kd : Lack) (cfg : Config) (w : World) (e : Event) → Told cfg w → Told cfg (weak_effect kd cfg w e)
unfolding weak_effect
told-on kd cfg w e h = record {
  alone = goes-on cfg (answered_as kd w (caller_in w e)) e (lent (λ c f b. Alone cfg c f) kd w (caller_in w e) h.alone);
  told = λ t. by t (In-parts t.0 (answered_as kd w (caller_in w e)).bag (sent cfg (answered_as kd w (caller_in w e)) e) t.1);
}
  where
    by : (t : (v : Envelope) × In v ((answered_as kd w (caller_in w e)).bag ++ sent cfg (answered_as kd w (caller_in w e)) e) × (v.body ≡ Outcome true)) →
        In t.0 (answered_as kd w (caller_in w e)).bag ⊎ In t.0 (sent cfg (answered_as kd w (caller_in w e)) e) → IsThere (content_after (answered_as kd w (caller_in w e)) (call_of cfg (answered_as kd w (caller_in w e)) e)) commit_success
    by t (inl i) = let o = h.told (t.0, lent (λ c f b. In t.0 b → In t.0 w.bag) kd w (caller_in w e) (λ j. j) i, t.2) in ap is_some (moved kd cfg w e h.alone o commit_success guarded-success) ∙ o
    by t (inr i) = Each-In (Tells (content_after (answered_as kd w (caller_in w e)) (call_of cfg (answered_as kd w (caller_in w e)) e))) (sent cfg (answered_as kd w (caller_in w e)) e) (sent-tells cfg (answered_as kd w (caller_in w e)) e) t.0 i t.2

opening-told : (cfg : Config) → Told cfg opening_world
unfolding seen
opening-told cfg = record {
  alone = record {
    apart = λ k. tt;
    begun = λ k e. absurd (false≢true e);
    one = λ j k e u. absurd (false≢true e);
    marked = λ k e. absurd (false≢true e);
    over = λ o. absurd (false≢true (sym (ap is_some (opening-mark _)) ∙ o));
  };
  told = λ t. absurd t.1;
}

-- behind a world that has COMMIT_SUCCESS, and held this
record Behind (cfg : Config) (c : Content) (w : World) : Type 0 where
  alone : Alone cfg w.content w.master_past
  there : IsThere w.content commit_success
  same : (x : Path) → Guarded x → entry_at w.content x ≡ entry_at c x

behind-on : (kd : Lack) (cfg : Config) (c : Content) (w : World) (e : Event) → Behind cfg c w → Behind cfg c (weak_effect kd cfg w e)
unfolding weak_effect
behind-on kd cfg c w e b = record {
  alone = goes-on cfg (answered_as kd w (caller_in w e)) e (lent (λ c f b. Alone cfg c f) kd w (caller_in w e) b.alone);
  there = ap is_some (moved kd cfg w e b.alone b.there commit_success guarded-success) ∙ b.there;
  same = λ x v. moved kd cfg w e b.alone b.there x v ∙ b.same x v;
}

pub success-final : SuccessIsFinal
success-final kd cfg within es fs t = subst (λ (w : World). IsMarked (weak_world_of kd cfg within es) × IsMarked w × LooksTheSame (weak_world_of kd cfg within es) w)
    (sym (weak_run-append kd cfg within opening_world es fs)) ((h.alone.over o).1, (b.alone.over b.there).1, λ p v. b.same p (guarded-visible p v))
  where
    h : Told cfg (weak_world_of kd cfg within es)
    h = along (Told cfg) kd cfg within (λ w e x. told-on kd cfg w e x) opening_world es (opening-told cfg)

    o : IsThere (weak_world_of kd cfg within es).content commit_success
    o = h.told t

    b : Behind cfg (weak_world_of kd cfg within es).content (weak_run kd cfg within (weak_world_of kd cfg within es) fs)
    b = along (Behind cfg (weak_world_of kd cfg within es).content) kd cfg within (λ w e x. behind-on kd cfg (weak_world_of kd cfg within es).content w e x) (weak_world_of kd cfg within es) fs
        (record { alone = h.alone; there = o; same = λ x v. refl })
