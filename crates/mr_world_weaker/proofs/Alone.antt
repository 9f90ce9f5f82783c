-- Over a namespace of any kind at most one master publishes, since COMMIT_STARTED is made once; and none does once COMMIT_SUCCESS is there, which it makes behind
-- the marker.
use Rattle.std.proofs.Common.{ℕ, ◌≡◌, refl, sym, ◌∙◌, ap, subst, Bool, true, false, List, [], ◌∷◌, ◌++◌, Option, Some, None, is_some, nat_eq, ◌⊎◌, inl, inr, length, slice_get, append-nil}
use Rattle.std.proofs.lemmas.Bool.{false≢true, true≢false, eqb-true, eqb-false, false_from_ne_true}
use Rattle.mr_world_model.specs.Ids.{ContainerId, Path, Name, attempt_name, commit_started, commit_success, generation_name, marker, staged, task_name, temporary, temporary_name}
use Rattle.mr_world_model.specs.Content.{Content, Op, Create, bar_of, entry_at, is_file, left, refusal}
use Rattle.mr_world_model.specs.Packets.{Config, Store, Reply, Names, Append_record, Flush, Read_history}
use Rattle.mr_world_model.specs.Pasts.{Place, Step, computed, wish}
use Rattle.mr_world_model.specs.Hearing.{Seen, Phase, Running, Committing, Failing, Marking, Succeeding, Failing_mark, is_running}
use Rattle.mr_world_model.specs.Duties.{Master_step, Came, Launches, Expires, Asks, duty_of, seen, next_seen, is_fine, phase_told}
use Rattle.mr_world_model.specs.World.{World, Event, Start, Crash, Duty, LaunchOn, Deliver, ContainerStep, Compute, Die, NodeRestart, Expire, Weather, Master_act, call_of, caller_of, came_act, duty, duty_act, duty_made, is_stopped, launch_of, master_act, op_at, op_made, reply_of, reply_under, seen_by, unless_stopped}
use Rattle.mr_world_model.specs.Effect.{content_after, with_master_step}
use Rattle.mr_world_model.proofs.Apart.{Diverge-longer, Elsewhere, left-elsewhere}
use Rattle.mr_world_model.proofs.Basic.{if_cases}
use Rattle.mr_world_model.proofs.Commits.{may-create}
use Rattle.mr_world_model.proofs.Masters.{came-phase, told-phase, expires-phase, launches-phase}
use Rattle.mr_world_model.proofs.Outside.{Outside, Result, result, elsewhere-at, good, no, gone, blind}
use Rattle.mr_world_model.proofs.Paths.{put-same}
use Rattle.mr_world_model.proofs.Regions.{AwayFrom, away-same, op-region, Leaves, made-left, same, did}
use Rattle.mr_world_model.proofs.Steps.{IsHeard}
use Rattle.mr_world_model.proofs.Told.{came_act-is}
use Rattle.mr_world_weaker.proofs.Publishing.{is_publishing, PhaseApart, Begins, Reaches, away, starts, succeeds, fails, duty-reaches, told-apart, told-publishes, succeeded-plain}
use Rattle.mr_world_weaker.proofs.Succeeding.{is_succeeding, succeeding-publishes, told-succeeding}

abbrev pub Past : Type 0
Past = ℕ → List Master_step

abbrev pub phase_of : Config → Past → ℕ → Phase
phase_of cfg f k = (seen cfg k (f k)).phase

abbrev pub IsThere : Content → Path → Type 0
IsThere c q = is_some (entry_at c q) ≡ true

abbrev pub HasMarker : Content → Type 0
HasMarker c = is_file (entry_at c marker) ≡ true

-- at most one master publishes, behind COMMIT_STARTED; it makes COMMIT_SUCCESS behind the marker, and none publishes behind that
pub record Alone (cfg : Config) (c : Content) (f : Past) : Type 0 where
  pub apart : (k : ℕ) → PhaseApart (phase_of cfg f k)
  pub begun : (k : ℕ) → is_publishing (phase_of cfg f k) ≡ true → IsThere c commit_started
  pub one : (j k : ℕ) → is_publishing (phase_of cfg f j) ≡ true → is_publishing (phase_of cfg f k) ≡ true → j ≡ k
  pub marked : (k : ℕ) → is_succeeding (phase_of cfg f k) ≡ true → HasMarker c
  pub over : IsThere c commit_success → IsThere c commit_started × HasMarker c × ((k : ℕ) → is_publishing (phase_of cfg f k) ≡ false)

names_is : (o p : Op) → Names o ≡ Names p → o ≡ p
names_is o p e = cc

-- ---- what keeps it

is-there : (c d : Content) (q : Path) → entry_at d q ≡ entry_at c q → IsThere d q → IsThere c q
is-there c d q e t = ap is_some (sym e) ∙ t

has-file : (c d : Content) → entry_at d marker ≡ entry_at c marker → HasMarker c → HasMarker d
has-file c d e t = ap is_file e ∙ t

keeps : (cfg : Config) (c d : Content) (f g : Past) → Alone cfg c f → entry_at d commit_started ≡ entry_at c commit_started → entry_at d commit_success ≡ entry_at c commit_success →
    ((k : ℕ) → PhaseApart (phase_of cfg g k)) → ((k : ℕ) → is_publishing (phase_of cfg g k) ≡ true → is_publishing (phase_of cfg f k) ≡ true) →
    ((k : ℕ) → is_succeeding (phase_of cfg g k) ≡ true → HasMarker d) → (IsThere c commit_success → HasMarker c → HasMarker d) → Alone cfg d g
keeps cfg c d f g a s t p h m y = record {
  apart = p;
  begun = λ k e. is-there d c commit_started (sym s) (a.begun k (h k e));
  one = λ j k e u. a.one j k (h j e) (h k u);
  marked = m;
  over = λ o. let x = is-there c d commit_success t o in let v = a.over x in
      (is-there d c commit_started (sym s) v.0, y x v.1, λ k. false_from_ne_true _ (λ e. false≢true (sym (v.2 k) ∙ h k e)));
}

none-acts : (cfg : Config) (c d : Content) (f : Past) → Alone cfg c f → entry_at d commit_started ≡ entry_at c commit_started → entry_at d commit_success ≡ entry_at c commit_success → entry_at d marker ≡ entry_at c marker →
    Alone cfg d (with_master_step f None)
none-acts cfg c d f a s t e = keeps cfg c d f (with_master_step f None) a s t (λ k. a.apart k) (λ k e. e) (λ k z. has-file c d e (a.marked k z)) (λ o x. has-file c d e x)

-- what holds of each past holds with a step more of one of them
with-step : (P : ℕ → List Master_step → Type 0) (f : Past) (x : Master_act) → ((j : ℕ) → nat_eq j x.who ≡ false → P j (f j)) → P x.who (x.step ∷ f x.who) → (j : ℕ) → P j (with_master_step f (Some x) j)
with-step P f x others new j = if_cases (P j) (nat_eq j x.who) _ _ (λ t. subst (λ i. P i (x.step ∷ f i)) (sym (eqb-true j x.who t)) new) (λ t. others j t)

-- ---- a step without a call

abbrev pub Quiet : Phase → Phase → Type 0
Quiet p q = (q ≡ p) ⊎ (q ≡ Failing false)

pub heard-quiet : (cfg : Config) (k : ℕ) (s : Seen) (x : Master_step) → IsHeard x → Quiet s.phase (next_seen cfg k s x).phase
heard-quiet cfg k s (Came p) i = by (came-phase cfg k s p)
  where
    by : ((next_seen cfg k s (Came p)).phase ≡ s.phase) ⊎ ((is_running s.phase ≡ true) × ((next_seen cfg k s (Came p)).phase ≡ Failing false)) → Quiet s.phase (next_seen cfg k s (Came p)).phase
    by (inl e) = inl e
    by (inr e) = inr e.1
heard-quiet cfg k s (Launches l) i = inl (launches-phase cfg k s l)
heard-quiet cfg k s (Expires n) i = inl (expires-phase cfg k s n)
heard-quiet cfg k s (Asks call r) i = absurd i

quiet-apart : (p q : Phase) → Quiet p q → PhaseApart p → PhaseApart q
quiet-apart p q (inl e) a = subst PhaseApart (sym e) a
quiet-apart p q (inr e) a = subst PhaseApart (sym e) tt

pub quiet-back : (P : Phase → Bool) → P (Failing false) ≡ false → (p q : Phase) → Quiet p q → P q ≡ true → P p ≡ true
quiet-back P n p q (inl e) t = subst (λ z. P z ≡ true) e t
quiet-back P n p q (inr e) t = absurd (false≢true (sym n ∙ subst (λ z. P z ≡ true) e t))

hears : (cfg : Config) (c : Content) (f : Past) (x : Master_act) → Alone cfg c f → IsHeard x.step → Alone cfg c (with_master_step f (Some x))
unfolding seen
hears cfg c f x a i = let q = heard-quiet cfg x.who (seen cfg x.who (f x.who)) x.step i in keeps cfg c c f (with_master_step f (Some x)) a refl refl
    (with-step (λ j h. PhaseApart (seen cfg j h).phase) f x (λ j t. a.apart j) (quiet-apart _ _ q (a.apart x.who)))
    (with-step (λ j h. is_publishing (seen cfg j h).phase ≡ true → is_publishing (phase_of cfg f j) ≡ true) f x (λ j t e. e) (quiet-back is_publishing refl _ _ q))
    (with-step (λ j h. is_succeeding (seen cfg j h).phase ≡ true → HasMarker c) f x (λ j t z. a.marked j z) (λ z. a.marked x.who (quiet-back is_succeeding refl _ _ q z)))
    (λ o y. y)

acts : (cfg : Config) (c : Content) (f : Past) (o : Option Master_act) → ((x : Master_act) → o ≡ Some x → IsHeard x.step) → Alone cfg c f → Alone cfg c (with_master_step f o)
acts cfg c f None i a = none-acts cfg c c f a refl refl refl
acts cfg c f (Some x) i a = hears cfg c f x a (i x refl)

-- ---- a call of a master

abbrev pub said : World → ℕ → Weather → Store → Reply
said u k g call = reply_under g (reply_of u k call)

abbrev pub asked : World → ℕ → Weather → Store → Master_act
asked u k g call = record { who = k; step = Asks call (said u k g call) }

abbrev pub onwards : World → ℕ → Weather → Store → Past
onwards u k g call = with_master_step u.master_past (Some (asked u k g call))

abbrev pub left_by : World → ℕ → Weather → Store → Content
left_by u k g call = content_after u (Some (record { app = k; call = call; fault = g }))

abbrev pub next_phase : Config → World → ℕ → Weather → Store → Phase
next_phase cfg u k g call = (next_seen cfg k (seen_by cfg u k) (Asks call (said u k g call))).phase

module _ (cfg : Config) (u : World) (k : ℕ) (g : Weather) (call : Store) (a : Alone cfg u.content u.master_past) where
  apart-on : (j : ℕ) → PhaseApart (phase_of cfg (onwards u k g call) j)
  unfolding seen
  apart-on = with-step (λ j h. PhaseApart (seen cfg j h).phase) u.master_past (asked u k g call) (λ j t. a.apart j)
      (subst PhaseApart (sym (told-phase cfg k (seen_by cfg u k) call (said u k g call))) (told-apart k (seen_by cfg u k) (seen_by cfg u k).phase call (said u k g call) (a.apart k)))

  -- it comes to publish only by a call that was done and bars nobody
  stays : (Begins (seen_by cfg u k).phase call (said u k g call) → ⊥) → is_publishing (next_phase cfg u k g call) ≡ true → is_publishing (seen_by cfg u k).phase ≡ true
  stays n e = by (told-publishes k (seen_by cfg u k) (seen_by cfg u k).phase call (said u k g call) (subst (λ p. is_publishing p ≡ true) (told-phase cfg k (seen_by cfg u k) call (said u k g call)) e))
    where
      by : (is_publishing (seen_by cfg u k).phase ≡ true) ⊎ Begins (seen_by cfg u k).phase call (said u k g call) → is_publishing (seen_by cfg u k).phase ≡ true
      by (inl q) = q
      by (inr b) = absurd (n b)

  goes : (c : Content) → entry_at c commit_started ≡ entry_at u.content commit_started → entry_at c commit_success ≡ entry_at u.content commit_success →
      (Begins (seen_by cfg u k).phase call (said u k g call) → ⊥) → (is_succeeding (next_phase cfg u k g call) ≡ true → HasMarker c) →
      (is_publishing (seen_by cfg u k).phase ≡ false → HasMarker u.content → HasMarker c) → Alone cfg c (onwards u k g call)
  unfolding seen
  goes c x y n m o = keeps cfg u.content c u.master_past (onwards u k g call) a x y apart-on
      (with-step (λ j h. is_publishing (seen cfg j h).phase ≡ true → is_publishing (phase_of cfg u.master_past j) ≡ true) u.master_past (asked u k g call) (λ j t e. e) (stays n))
      (with-step (λ j h. is_succeeding (seen cfg j h).phase ≡ true → HasMarker c) u.master_past (asked u k g call)
      (λ j t z. o (false_from_ne_true _ (λ e. eqb-false j k t (a.one j k (succeeding-publishes _ z) e))) (a.marked j z)) m)
      (λ s y. o ((a.over s).2 k) y)

  -- what it makes behind the marker it makes where the call that makes the marker was done
  behind-marker : is_succeeding (next_phase cfg u k g call) ≡ true → ((seen_by cfg u k).phase ≡ Committing Marking) × (is_fine (said u k g call) ≡ true)
  behind-marker z = told-succeeding k (seen_by cfg u k) (seen_by cfg u k).phase call (said u k g call) (subst (λ p. is_succeeding p ≡ true) (told-phase cfg k (seen_by cfg u k) call (said u k g call)) z)

  -- COMMIT_STARTED was made: nobody published before
  begins : (seen_by cfg u k).phase ≡ Running → entry_at u.content commit_started ≡ None → (c : Content) → c ≡ left u.content (Create commit_started true) → Alone cfg c (onwards u k g call)
  unfolding seen left
  begins p n c q = record {
    apart = apart-on;
    begun = λ j e. ap (λ z. is_some (entry_at z commit_started)) q ∙ ap is_some (put-same u.content commit_started _);
    one = λ i j e v. mine i e ∙ sym (mine j v);
    marked = with-step (λ j h. is_succeeding (seen cfg j h).phase ≡ true → HasMarker c) u.master_past (asked u k g call)
        (λ j t z. absurd (false≢true (sym (ap is_some n) ∙ a.begun j (succeeding-publishes _ z)))) (λ z. let w : Committing Marking ≡ Running = sym (behind-marker z).0 ∙ p in cc);
    over = λ o. absurd (false≢true (sym (ap is_some n) ∙ (a.over (is-there u.content c commit_success after o)).0));
  }
    where
      after : entry_at c commit_success ≡ entry_at u.content commit_success
      after = ap (λ z. entry_at z commit_success) q ∙ elsewhere-at u.content (Create commit_started true) commit_success (inr (inl refl))

      mine : (j : ℕ) → is_publishing (phase_of cfg (onwards u k g call) j) ≡ true → j ≡ k
      mine = with-step (λ j h. is_publishing (seen cfg j h).phase ≡ true → j ≡ k) u.master_past (asked u k g call) (λ j t e. absurd (false≢true (sym (ap is_some n) ∙ a.begun j e))) (λ e. refl)

  -- COMMIT_SUCCESS may be made: nobody publishes any more
  ends : (seen_by cfg u k).phase ≡ Committing Succeeding → (c : Content) → entry_at c commit_started ≡ entry_at u.content commit_started → entry_at c marker ≡ entry_at u.content marker → Alone cfg c (onwards u k g call)
  unfolding seen
  ends p c q y = record {
    apart = apart-on;
    begun = λ j e. absurd (false≢true (sym (nobody j) ∙ e));
    one = λ i j e v. absurd (false≢true (sym (nobody i) ∙ e));
    marked = λ j z. absurd (false≢true (sym (nobody j) ∙ succeeding-publishes _ z));
    over = λ o. (is-there c u.content commit_started (sym q) (a.begun k publishes), has-file u.content c y (a.marked k (subst (λ x. is_succeeding x ≡ true) (sym p) refl)), nobody);
  }
    where
      publishes : is_publishing (seen_by cfg u k).phase ≡ true
      publishes = subst (λ x. is_publishing x ≡ true) (sym p) refl

      mine : is_publishing (next_phase cfg u k g call) ≡ false
      mine = subst (λ x. is_publishing x ≡ false) (sym (told-phase cfg k (seen_by cfg u k) call (said u k g call)))
          (subst (λ x. is_publishing (phase_told k (seen_by cfg u k) x call (said u k g call)) ≡ false) (sym p) (succeeded-plain k (seen_by cfg u k) call (said u k g call)))

      nobody : (j : ℕ) → is_publishing (phase_of cfg (onwards u k g call) j) ≡ false
      nobody = with-step (λ j h. is_publishing (seen cfg j h).phase ≡ false) u.master_past (asked u k g call) (λ j t. false_from_ne_true _ (λ e. eqb-false j k t (a.one j k e publishes))) mine

-- it was done, or left all and was not answered as done
pub data Done (c : Content) (op : Op) (d : Content) (r : Reply) : Type 0 where
  undone : d ≡ c → is_fine r ≡ false → Done c op d r
  made : refusal c op ≡ None → d ≡ left c op → Done c op d r

pub done : (c : Content) (op : Op) (d : Content) (r : Reply) → Result c op d r → Done c op d r
done c op d _ (good x q) = made x q
done c op d _ (no f q) = undone q refl
done c op d _ (gone q) = undone q refl
done c op d _ (blind x q) = made x q

module _ (cfg : Config) (u : World) (k : ℕ) (g : Weather) (op : Op) (a : Alone cfg u.content u.master_past) (d : duty cfg u k ≡ Some (Names op)) where
  same-staged : Elsewhere op staged → (x : Name) → entry_at (left_by u k g (Names op)) (staged ++ x ∷ []) ≡ entry_at u.content (staged ++ x ∷ [])
  same-staged e x = by (made-left u k (Names op) g)
    where
      by : Leaves u.content (Names op) (left_by u k g (Names op)) → entry_at (left_by u k g (Names op)) (staged ++ x ∷ []) ≡ entry_at u.content (staged ++ x ∷ [])
      by (same q) = ap (λ z. entry_at z (staged ++ x ∷ [])) q
      by (did o is ok q) = ap (λ z. entry_at z (staged ++ x ∷ [])) (q ∙ ap (λ z. left u.content z) (sym (names_is op o is))) ∙ left-elsewhere u.content op staged e (x ∷ [])

  pub same-at : (x : Path) → Elsewhere op x → entry_at (left_by u k g (Names op)) x ≡ entry_at u.content x
  same-at x e = by (made-left u k (Names op) g)
    where
      by : Leaves u.content (Names op) (left_by u k g (Names op)) → entry_at (left_by u k g (Names op)) x ≡ entry_at u.content x
      by (same q) = ap (λ z. entry_at z x) q
      by (did o is ok q) = ap (λ z. entry_at z x) (q ∙ ap (λ z. left u.content z) (sym (names_is op o is))) ∙ elsewhere-at u.content op x e

  marking-op : (seen_by cfg u k).phase ≡ Committing Marking → op ≡ Create marker true
  unfolding duty_of
  marking-op p = by (subst (λ z. duty_of cfg k (seen_by cfg u k) z ≡ Some (Names op)) p d)
    where
      by : Some (Names (Create marker true)) ≡ Some (Names op) → op ≡ Create marker true
      by e = let q : Create marker true ≡ op = cc in sym q

  -- and then the marker is there
  made-marker : is_succeeding (next_phase cfg u k g (Names op)) ≡ true → HasMarker (left_by u k g (Names op))
  unfolding left
  made-marker z = by (done u.content op _ _ (result u k op g)) (behind-marker cfg u k g (Names op) a z)
    where
      there : (c : Content) → c ≡ left u.content (Create marker true) → HasMarker c
      there c q = ap (λ x. is_file (entry_at x marker)) q ∙ ap is_file (put-same u.content marker _)

      by : Done u.content op (left_by u k g (Names op)) (said u k g (Names op)) → ((seen_by cfg u k).phase ≡ Committing Marking) × (is_fine (said u k g (Names op)) ≡ true) → HasMarker (left_by u k g (Names op))
      by (undone q n) w = absurd (true≢false (sym w.1 ∙ n))
      by (made x q) w = there _ (q ∙ ap (λ y. left u.content y) (marking-op w.0))

  starting : (seen_by cfg u k).phase ≡ Running → op ≡ Create commit_started true → Done u.content op (left_by u k g (Names op)) (said u k g (Names op)) → Alone cfg (left_by u k g (Names op)) (onwards u k g (Names op))
  starting p e (undone q n) = goes cfg u k g (Names op) a (left_by u k g (Names op)) (ap (λ z. entry_at z commit_started) q) (ap (λ z. entry_at z commit_success) q) (λ b. true≢false (sym b.fine ∙ n)) made-marker
      (λ s x. has-file u.content _ (ap (λ z. entry_at z marker) q) x)
  starting p e (made x q) = begins cfg u k g (Names op) a p (may-create u.content commit_started true (subst (λ z. refusal u.content z ≡ None) e x)).free (left_by u k g (Names op)) (q ∙ ap (λ z. left u.content z) e)

  named : Alone cfg (left_by u k g (Names op)) (onwards u k g (Names op))
  named = by (duty-reaches cfg k (seen_by cfg u k) op d (a.apart k))
    where
      by : Reaches (seen_by cfg u k).phase op → Alone cfg (left_by u k g (Names op)) (onwards u k g (Names op))
      by (away e f n) = goes cfg u k g (Names op) a (left_by u k g (Names op)) (same-staged e _) (same-staged e _)
          (λ b. true≢false (sym (n b.running) ∙ (ap (λ z. is_some (bar_of z)) (names_is op b.op b.is) ∙ b.no_bar))) made-marker (λ s x. has-file u.content _ (same-at marker (f s marker (inr (inl refl)))) x)
      by (starts p e) = starting p e (done u.content op _ _ (result u k op g))
      by (succeeds p e) = ends cfg u k g (Names op) a p (left_by u k g (Names op)) (same-at commit_started (subst (λ z. Elsewhere z commit_started) (sym e) (inr (inl refl)))) (same-at marker (subst (λ z. Elsewhere z marker) (sym e) (inl refl)))
      by (fails p e) = goes cfg u k g (Names op) a (left_by u k g (Names op)) (same-at commit_started (subst (λ z. Elsewhere z commit_started) (sym e) (inr (inl refl))))
          (same-at commit_success (subst (λ z. Elsewhere z commit_success) (sym e) (inr (inl refl)))) (λ b. let q : Committing Failing_mark ≡ Running = sym p ∙ b.running in cc) made-marker
          (λ s x. has-file u.content _ (same-at marker (subst (λ z. Elsewhere z marker) (sym e) (inl refl))) x)

-- a call of the history leaves the namespace
pub unnamed-same : (u : World) (k : ℕ) (g : Weather) (call : Store) → ((op : Op) → call ≡ Names op → ⊥) → left_by u k g call ≡ u.content
unnamed-same u k g call n = by (made-left u k call g)
  where
    by : Leaves u.content call (left_by u k g call) → left_by u k g call ≡ u.content
    by (same q) = q
    by (did op is ok q) = absurd (n op is)

unnamed : (cfg : Config) (u : World) (k : ℕ) (g : Weather) (call : Store) → ((op : Op) → call ≡ Names op → ⊥) → Alone cfg u.content u.master_past → duty cfg u k ≡ Some call → Alone cfg (left_by u k g call) (onwards u k g call)
unfolding duty_of
unnamed cfg u k g call n a d = let q = unnamed-same u k g call n in
    goes cfg u k g call a (left_by u k g call) (ap (λ z. entry_at z commit_started) q) (ap (λ z. entry_at z commit_success) q) (λ b. n b.op b.is)
    (λ z. absurd (n (Create marker true) (marking (subst (λ p. duty_of cfg k (seen_by cfg u k) p ≡ Some call) (behind-marker cfg u k g call a z).0 d)))) (λ s x. has-file u.content _ (ap (λ z. entry_at z marker) q) x)
  where
    marking : Some (Names (Create marker true)) ≡ Some call → call ≡ Names (Create marker true)
    marking e = let q : Names (Create marker true) ≡ call = cc in sym q

-- ---- a call of a container reaches nothing outside of what is temporary

pub container-same : (cfg : Config) (u : World) (c : ContainerId) (g : Weather) (x : Path) → Outside x → entry_at (content_after u (call_of cfg u (ContainerStep c g))) x ≡ entry_at u.content x
unfolding call_of
container-same cfg u c g x o = at (is_stopped u (caller_of u c)) (op_at cfg c (u.place c) (u.container_past c)) (wished (u.place c) (u.container_past c))
  where
    wished : (p : Option Place) (h : List Step) (op : Op) → op_at cfg c p h ≡ Some op → AwayFrom op x
    wished None h op e = cc
    wished (Some p) h op e = op-region c.app p.attempt (computed h) (wish (length cfg.splits) p.attempt h) op x e
        (Diverge-longer temporary x (generation_name c.app ∷ temporary_name ∷ attempt_name p.attempt ∷ []) o)
        (λ t. Diverge-longer temporary x (generation_name c.app ∷ task_name p.attempt.task ∷ []) o)

    leaves : (op : Op) → AwayFrom op x → Leaves u.content (Names op) (left_by u c.app g (Names op)) → entry_at (left_by u c.app g (Names op)) x ≡ entry_at u.content x
    leaves op f (same q) = ap (λ z. entry_at z x) q
    leaves op f (did p is ok q) = ap (λ z. entry_at z x) (q ∙ ap (λ z. left u.content z) (sym (names_is op p is))) ∙ subst (λ z. entry_at (left u.content op) z ≡ entry_at u.content z) (append-nil x) (away-same u.content op x f [])

    at : (b : Bool) (m : Option Op) → ((op : Op) → m ≡ Some op → AwayFrom op x) → entry_at (content_after u (unless_stopped b (op_made c.app g m))) x ≡ entry_at u.content x
    at true m f = refl
    at false None f = refl
    at false (Some op) f = leaves op (f op refl) (made-left u c.app (Names op) g)

-- ---- each event

pub goes-on : (cfg : Config) (u : World) (e : Event) → Alone cfg u.content u.master_past → Alone cfg (content_after u (call_of cfg u e)) (with_master_step u.master_past (master_act cfg u e))
unfolding call_of master_act
goes-on cfg u (Start k kept) a = none-acts cfg u.content u.content u.master_past a refl refl refl
goes-on cfg u (Crash k kept) a = none-acts cfg u.content u.content u.master_past a refl refl refl
goes-on cfg u (Compute c bytes) a = none-acts cfg u.content u.content u.master_past a refl refl refl
goes-on cfg u (Die c) a = none-acts cfg u.content u.content u.master_past a refl refl refl
goes-on cfg u (NodeRestart n) a = none-acts cfg u.content u.content u.master_past a refl refl refl
goes-on cfg u (ContainerStep c g) a = none-acts cfg u.content _ u.master_past a (container-same cfg u c g commit_started (inl refl)) (container-same cfg u c g commit_success (inl refl)) (container-same cfg u c g marker (inr (inl refl)))
goes-on cfg u (LaunchOn k t n) a = hears cfg u.content u.master_past (record { who = k; step = Launches (launch_of k (seen_by cfg u k) t n) }) a tt
goes-on cfg u (Expire k n) a = hears cfg u.content u.master_past (record { who = k; step = Expires n }) a tt
goes-on cfg u (Deliver i) a = acts cfg u.content u.master_past (came_act (slice_get u.bag i)) (λ x q. subst IsHeard (sym (came_act-is (slice_get u.bag i) x q).1) tt) a
goes-on cfg u (Duty k g) a = by (duty cfg u k) refl
  where
    by : (o : Option Store) → duty cfg u k ≡ o → Alone cfg (content_after u (duty_made k g o)) (with_master_step u.master_past (duty_act u k g o))
    by None q = none-acts cfg u.content u.content u.master_past a refl refl refl
    by (Some (Names op)) q = named cfg u k g op a q
    by (Some (Append_record r)) q = unnamed cfg u k g (Append_record r) (λ op e. cc) a q
    by (Some Flush) q = unnamed cfg u k g Flush (λ op e. cc) a q
    by (Some Read_history) q = unnamed cfg u k g Read_history (λ op e. cc) a q
