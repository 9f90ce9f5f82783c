-- Which attempt a container was launched for.
use Rattle.std.proofs.Common.{ℕ, ◌<◌, ◌≤◌, ◌⊎◌, inl, inr, length, get_or, ◌≡◌, refl, sym, ◌∙◌, ap, subst, Bool, true, false, nat_eq, Option, Some, None, Result, Ok, Err, IfOk, OnOk, slice_get, if◌then◌else◌}
use Rattle.std.proofs.lemmas.Option.{slice_get_cases, get_or_from_slice_get}
use Rattle.std.specs.Option.{option_map}
use Rattle.std.proofs.lemmas.Bool.{and_parts}
use Rattle.mr_ids.specs.Attempt.{Attempt}
use Rattle.mr_grant.specs.Attempts.{has}
use Rattle.mr_packet.specs.declared.packet.ContainerId.{ContainerId}
use Rattle.mr_master_model.specs.declared.launch.Launch.{Launch}
use Rattle.mr_master_model.specs.declared.setting.Setting.{Setting}
use Rattle.mr_master_model.specs.Job.{is_task}
use Rattle.mr_master_model.specs.Readings.{Seen, of_task, is_known, if_known, launched_in}
use Rattle.mr_master_tasks.specs.Places.{place_of}
use Rattle.mr_master_state.specs.State.{Master, Keeps}
use Rattle.mr_master_tasks.proofs.Keeping.{some-is}

-- ---- the place of a known attempt

pub known-place : (w : Setting) (s : Seen) (a : Attempt) (i : ℕ) → is_known w s a ≡ true → i ≡ place_of w a.task → Some i ≡ (if is_known w s a then Some (place_of w a.task) else None)
known-place w s a i e at = ap (λ (j : ℕ). Some j) at ∙ ap (λ b. if b then Some (place_of w a.task) else None) (sym e)

pub unknown-place : (w : Setting) (s : Seen) (a : Attempt) → is_known w s a ≡ false → ◌≡◌ {A = Option ℕ} None (if is_known w s a then Some (place_of w a.task) else None)
unknown-place w s a e = ap (λ b. if b then Some (place_of w a.task) else None) (sym e)

no-place : (b : Bool) (j : ℕ) → ◌≡◌ {A = Option ℕ} None (if b then Some j else None) → b ≡ false
no-place true j e = cc
no-place false j e = refl

-- ---- what a container was launched for

abbrev pub with-place : Setting → Option (Attempt × Launch) → Option (ℕ × (Attempt × Launch))
with-place w o = option_map (λ p. (place_of w p.0.task, p)) o

-- ---- what that tells

pub record IsLaunched (w : Setting) (s : Seen) (c : ContainerId) (i : ℕ) (a : Attempt) (l : Launch) : Type 0 where
  pub launched : launched_in w s c ≡ Some (a, l)
  pub place : i ≡ place_of w a.task
  pub is_of_job : is_task w a.task ≡ true
  pub arrived : has (of_task w s a.task).arrived a ≡ true

if-found : (w : Setting) (s : Seen) (b : Bool) (o : Option (Attempt × Launch)) (p : Attempt × Launch) → (if b then if_known w s o else None) ≡ Some p → is_known w s p.0 ≡ true
if-found w s false o p e = cc
if-found w s true None p e = cc
if-found w s true (Some q) p e = by (is_known w s q.0) refl e
  where
    by : (d : Bool) → is_known w s q.0 ≡ d → (if d then Some q else None) ≡ Some p → is_known w s p.0 ≡ true
    by true f g = subst (λ (r : Attempt × Launch). is_known w s r.0 ≡ true) (some-is g) f
    by false f g = cc

pub launched-is : (w : Setting) (s : Seen) (c : ContainerId) (i : ℕ) (a : Attempt) (l : Launch) → ◌≡◌ {A = Option (ℕ × (Attempt × Launch))} (Some (i, (a, l))) (with-place w (launched_in w s c)) → IsLaunched w s c i a l
launched-is w s c i a l e = by (launched_in w s c) refl e
  where
    by : (o : Option (Attempt × Launch)) → launched_in w s c ≡ o → ◌≡◌ {A = Option (ℕ × (Attempt × Launch))} (Some (i, (a, l))) (with-place w o) → IsLaunched w s c i a l
    by None q f = cc
    by (Some p) q f =
        let g : ◌≡◌ {A = ℕ × (Attempt × Launch)} (i, (a, l)) (place_of w p.0.task, p) = some-is f in
        let is : p ≡ (a, l) = sym (ap (λ (x : ℕ × (Attempt × Launch)). x.1) g) in
        let there = q ∙ ap (λ (x : Attempt × Launch). Some x) is in
        let both = and_parts _ _ (if-found w s (nat_eq c.app w.app) (slice_get s.launched c.number) (a, l) there) in
        record {
          launched = there;
          place = ap (λ (x : ℕ × (Attempt × Launch)). x.0) g ∙ ap (λ (x : Attempt × Launch). place_of w x.0.task) is;
          is_of_job = both.0;
          arrived = both.1;
        }

pub not-launched : (w : Setting) (s : Seen) (c : ContainerId) → None ≡ with-place w (launched_in w s c) → launched_in w s c ≡ None
not-launched w s c e = by (launched_in w s c) e
  where
    by : (o : Option (Attempt × Launch)) → None ≡ with-place w o → o ≡ None
    by None f = refl
    by (Some p) f = cc

-- ---- whether a Kill was sent to it

launched-at : (w : Setting) (s : Seen) (c : ContainerId) (p : Attempt × Launch) → launched_in w s c ≡ Some p → c.number < length s.launched
launched-at w s c p e = by (nat_eq c.app w.app) (slice_get_cases s.launched c.number).1 e
  where
    none : (b : Bool) → slice_get s.launched c.number ≡ None → (if b then if_known w s (slice_get s.launched c.number) else None) ≡ Some p → ⊥
    none b f g = let h : None ≡ Some p = sym (gone b) ∙ ap (λ o. if b then if_known w s o else None) (sym f) ∙ g in no h
      where
        gone : (d : Bool) → (if d then if_known w s None else None) ≡ None
        gone true = refl
        gone false = refl

        no : None ≡ Some p → ⊥
        no h = cc

    by : (b : Bool) → ((x : Attempt × Launch) × (c.number < length s.launched) × (slice_get s.launched c.number ≡ Some x) × (get_or s.launched c.number x ≡ x)) ⊎ ((length s.launched ≤ c.number) × (slice_get s.launched c.number ≡ None))
        → (if b then if_known w s (slice_get s.launched c.number) else None) ≡ Some p → c.number < length s.launched
    by b (inl x) g = x.1
    by b (inr x) g = absurd (none b x.1 g)

pub killed-is : (m : Master) (w : Setting) (s : Seen) (c : ContainerId) (p : Attempt × Launch) → Keeps m w s → launched_in w s c ≡ Some p → get_or m.launches.killed c.number false ≡ s.killed c.number
killed-is m w s c p k e = get_or_from_slice_get m.launches.killed c.number (s.killed c.number) false (k.launches.killed c.number (launched-at w s c p e))

-- ---- answers

pub if-ok : {A E : Type 0} (r : Result A E) (P Q : A → Type 0) → ((x : A) → P x → Q x) → IfOk r P → IfOk r Q
if-ok (Ok x) P Q f h = f x h
if-ok (Err e) P Q f h = h

pub on-ok : {A E : Type 0} (r : Result A E) (P Q : Type 0) → (P → Q) → OnOk r P → OnOk r Q
on-ok (Ok x) P Q f h = f h
on-ok (Err e) P Q f h = h
