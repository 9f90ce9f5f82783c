-- Which attempts of a map stand is read off its calls as off the master's past.
use Rattle.std.proofs.Common.{ℕ, ◌≡◌, refl, sym, ◌∙◌, ap, subst, Bool, true, false, ◌&&◌, ◌||◌, not, List, [], ◌∷◌, Option, Some, None, if◌then◌else◌, is_some, is_none, nat_eq, nat_lt, inl, inr, true≢false}
use Rattle.std.proofs.lemmas.Bool.{and_parts, false≢true, eq-eqb}
use Rattle.mr_grant.specs.Attempts as grant
use Rattle.mr_grant.specs.Attempts.{same_attempt}
use Rattle.mr_task.specs.Calls as task_call
use Rattle.mr_task.specs.Calls.{TaskCall}
use Rattle.mr_task.specs.Readings as task
use Rattle.mr_world_model.specs.Ids.{Attempt, TaskId, TaskKind, Map, Reduce, task_eq, attempt_eq, of_reduces}
use Rattle.mr_world_model.specs.Hearing.{Placed, has, stands, still_there, lose_there, without_placed}
use Rattle.mr_world_model.specs.Duties.{attempts_of}
use Rattle.mr_world_model.specs.Calls.{Calls, tell, tell_each, lost_below, lost_on}
use Rattle.mr_world_model.specs.Claims.{In}
use Rattle.mr_world_model.proofs.Basic.{if_cases}
use Rattle.mr_world_model.proofs.Agree.{eq-same, apart}
use Rattle.mr_world_model.proofs.Wins.{none-any, in-any}
use Rattle.mr_world_model.proofs.Names.{task_eq-true, task_eq-is}
use Rattle.mr_world_model.proofs.Lists.{attempt_eq-true, attempt_eq-refl, attempt_ne}

-- ---- tests

or-parts : (x y : Bool) → (x || y) ≡ false → (x ≡ false) × (y ≡ false)
or-parts false y e = (refl, e)
or-parts true y e = absurd (true≢false e)

-- ---- lists of what stands

-- at most one of them is the task's
abbrev pub Once : TaskId → List Placed → Type 0
Once t [] = Unit {0}
Once t (p ∷ ps) = (task_eq p.attempt.task t ≡ true → (a : Attempt) → a.task ≡ t → has (attempts_of ps) a ≡ false) × Once t ps

abbrev pub keep : (Placed → Bool) → List Placed → List Placed
keep f [] = []
keep f (p ∷ ps) = if f p then keep f ps else p ∷ keep f ps

abbrev pub gone : (Placed → Bool) → List Placed → List Attempt
gone f [] = []
gone f (p ∷ ps) = if f p then p.attempt ∷ gone f ps else gone f ps

abbrev pub is_below : List Attempt → ℕ → ℕ → Placed → Bool
is_below rs n i p = has rs p.attempt && (nat_eq p.node n && nat_lt p.incarnation i)

abbrev pub is_on : List Attempt → ℕ → Placed → Bool
is_on rs n p = has rs p.attempt && nat_eq p.node n

abbrev pub is_of : Attempt → Placed → Bool
is_of a p = attempt_eq a p.attempt

pub still-keep : (rs : List Attempt) (n i : ℕ) (ps : List Placed) → still_there rs n i ps ≡ keep (is_below rs n i) ps
still-keep rs n i [] = refl
still-keep rs n i (p ∷ ps) = ap (λ l. if is_below rs n i p then l else p ∷ l) (still-keep rs n i ps)

pub lose-keep : (rs : List Attempt) (n : ℕ) (ps : List Placed) → lose_there rs n ps ≡ keep (is_on rs n) ps
lose-keep rs n [] = refl
lose-keep rs n (p ∷ ps) = ap (λ l. if is_on rs n p then l else p ∷ l) (lose-keep rs n ps)

pub without-keep : (ps : List Placed) (a : Attempt) → without_placed ps a ≡ keep (is_of a) ps
without-keep [] a = refl
without-keep (p ∷ ps) a = ap (λ l. if is_of a p then l else p ∷ l) (without-keep ps a)

pub below-gone : (rs : List Attempt) (n i : ℕ) (ps : List Placed) → lost_below rs n i ps ≡ gone (is_below rs n i) ps
below-gone rs n i [] = refl
below-gone rs n i (p ∷ ps) = ap (λ l. if is_below rs n i p then p.attempt ∷ l else l) (below-gone rs n i ps)

pub on-gone : (rs : List Attempt) (n : ℕ) (ps : List Placed) → lost_on rs n ps ≡ gone (is_on rs n) ps
on-gone rs n [] = refl
on-gone rs n (p ∷ ps) = ap (λ l. if is_on rs n p then p.attempt ∷ l else l) (on-gone rs n ps)

none-gone : (f : Placed → Bool) (ps : List Placed) (a : Attempt) → has (attempts_of ps) a ≡ false → has (gone f ps) a ≡ false
none-gone f [] a e = refl
none-gone f (p ∷ ps) a e = let u = or-parts (attempt_eq a p.attempt) (has (attempts_of ps) a) e in by (f p) u.0 (none-gone f ps a u.1)
  where
    by : (b : Bool) → attempt_eq a p.attempt ≡ false → has (gone f ps) a ≡ false → has (if b then p.attempt ∷ gone f ps else gone f ps) a ≡ false
    by true q rest = λ i. q i || rest i
    by false q rest = rest

none-kept : (f : Placed → Bool) (ps : List Placed) (a : Attempt) → has (attempts_of ps) a ≡ false → has (attempts_of (keep f ps)) a ≡ false
none-kept f [] a e = refl
none-kept f (p ∷ ps) a e = let u = or-parts (attempt_eq a p.attempt) (has (attempts_of ps) a) e in by (f p) u.0 (none-kept f ps a u.1)
  where
    by : (b : Bool) → attempt_eq a p.attempt ≡ false → has (attempts_of (keep f ps)) a ≡ false → has (attempts_of (if b then keep f ps else p ∷ keep f ps)) a ≡ false
    by true q rest = rest
    by false q rest = λ i. q i || rest i

own-head : (t : TaskId) (p : Placed) (a : Attempt) → a.task ≡ t → attempt_eq a p.attempt ≡ true → task_eq p.attempt.task t ≡ true
own-head t p a q e = task_eq-is p.attempt.task t (ap (λ (x : Attempt). x.task) (sym (attempt_eq-true a p.attempt e)) ∙ q)

-- those that are kept are the ones that are not gone
pub kept-are : (t : TaskId) (f : Placed → Bool) (ps : List Placed) (a : Attempt) → Once t ps → a.task ≡ t →
    has (attempts_of (keep f ps)) a ≡ (has (attempts_of ps) a && not (has (gone f ps) a))
kept-are t f [] a o q = refl
kept-are t f (p ∷ ps) a o q = by (f p) (attempt_eq a p.attempt) refl (kept-are t f ps a o.1 q)
  where
    none : attempt_eq a p.attempt ≡ true → has (attempts_of ps) a ≡ false
    none e = o.0 (own-head t p a q e) a q

    by : (b c : Bool) → attempt_eq a p.attempt ≡ c → has (attempts_of (keep f ps)) a ≡ (has (attempts_of ps) a && not (has (gone f ps) a)) →
        has (attempts_of (if b then keep f ps else p ∷ keep f ps)) a ≡ ((attempt_eq a p.attempt || has (attempts_of ps) a) && not (has (if b then p.attempt ∷ gone f ps else gone f ps) a))
    by true true e rest = none-kept f ps a (none e) ∙ (λ i. (sym e i || has (attempts_of ps) a) && not (sym e i || has (gone f ps) a))
    by true false e rest = rest ∙ (λ i. (sym e i || has (attempts_of ps) a) && not (sym e i || has (gone f ps) a))
    by false true e rest = (λ i. e i || has (attempts_of (keep f ps)) a) ∙ (λ i. (sym e i || has (attempts_of ps) a) && not (sym (none-gone f ps a (none e)) i))
    by false false e rest = (λ i. e i || rest i) ∙ (λ i. (sym e i || has (attempts_of ps) a) && not (has (gone f ps) a))

pub once-kept : (t : TaskId) (f : Placed → Bool) (ps : List Placed) → Once t ps → Once t (keep f ps)
once-kept t f [] o = tt
once-kept t f (p ∷ ps) o = by (f p) (once-kept t f ps o.1)
  where
    by : (b : Bool) → Once t (keep f ps) → Once t (if b then keep f ps else p ∷ keep f ps)
    by true rest = rest
    by false rest = ((λ e a q. none-kept f ps a (o.0 e a q)), rest)

pub kept-in : (f : Placed → Bool) (ps : List Placed) (p : Placed) → In p (keep f ps) → In p ps
kept-in f [] p i = i
kept-in f (x ∷ ps) p i = by (f x) (λ j. kept-in f ps p j) i
  where
    by : (b : Bool) → (In p (keep f ps) → In p ps) → In p (if b then keep f ps else x ∷ keep f ps) → In p (x ∷ ps)
    by true go j = inr (go j)
    by false go (inl e) = inl e
    by false go (inr j) = inr (go j)

-- those that are gone passed
pub gone-has : (f : Placed → Bool) (rs : List Attempt) → ((p : Placed) → f p ≡ true → has rs p.attempt ≡ true) → (ps : List Placed) (a : Attempt) → has (gone f ps) a ≡ true → has rs a ≡ true
gone-has f rs h [] a e = absurd (false≢true e)
gone-has f rs h (p ∷ ps) a e = by (λ j. gone-has f rs h ps a j) (f p) refl e
  where
    here : (has (gone f ps) a ≡ true → has rs a ≡ true) → f p ≡ true → (c : Bool) → attempt_eq a p.attempt ≡ c → (c || has (gone f ps) a) ≡ true → has rs a ≡ true
    here go q true u j = subst (λ x. has rs x ≡ true) (sym (attempt_eq-true a p.attempt u)) (h p q)
    here go q false u j = go j

    by : (has (gone f ps) a ≡ true → has rs a ≡ true) → (b : Bool) → f p ≡ b → has (if b then p.attempt ∷ gone f ps else gone f ps) a ≡ true → has rs a ≡ true
    by go true q j = here go q (attempt_eq a p.attempt) refl j
    by go false q j = go j

-- where no entry has the number none is the task's
pub none-there : (ps : List Placed) (m : ℕ) (a : Attempt) → a.task.number ≡ m → is_none (stands ps m) ≡ true → has (attempts_of ps) a ≡ false
none-there [] m a q e = refl
none-there (p ∷ ps) m a q e = by (λ j. none-there ps m a q j) (nat_eq p.attempt.task.number m) refl e
  where
    differ : nat_eq p.attempt.task.number m ≡ false → attempt_eq a p.attempt ≡ false
    differ f = attempt_ne a p.attempt (λ u. false≢true (sym f ∙ eq-eqb p.attempt.task.number m (ap (λ (x : Attempt). x.task.number) (sym u) ∙ q)))

    by : (is_none (stands ps m) ≡ true → has (attempts_of ps) a ≡ false) → (b : Bool) → nat_eq p.attempt.task.number m ≡ b → is_none (if b then Some p else stands ps m) ≡ true →
        (attempt_eq a p.attempt || has (attempts_of ps) a) ≡ false
    by go true f j = absurd (false≢true j)
    by go false f j = let u = differ f in let v = go j in λ i. u i || v i

-- an entry that has the number
pub one-there : (ps : List Placed) (m : ℕ) → is_some (stands ps m) ≡ true → (p : Placed) × In p ps × (nat_eq p.attempt.task.number m ≡ true) × (has (attempts_of ps) p.attempt ≡ true)
one-there [] m e = absurd (false≢true e)
one-there (p ∷ ps) m e = by (λ j. one-there ps m j) (nat_eq p.attempt.task.number m) refl e
  where
    more : (c x : Bool) → x ≡ true → (c || x) ≡ true
    more true x e = refl
    more false x e = e

    by : (is_some (stands ps m) ≡ true → (x : Placed) × In x ps × (nat_eq x.attempt.task.number m ≡ true) × (has (attempts_of ps) x.attempt ≡ true)) → (b : Bool) → nat_eq p.attempt.task.number m ≡ b →
        is_some (if b then Some p else stands ps m) ≡ true → (x : Placed) × In x (p ∷ ps) × (nat_eq x.attempt.task.number m ≡ true) × (has (attempts_of (p ∷ ps)) x.attempt ≡ true)
    by go true f j = (p, inl refl, f, ap (λ b. b || has (attempts_of ps) p.attempt) (attempt_eq-refl p.attempt))
    by go false f j = let u = go j in (u.0, inr u.1, u.2, more (attempt_eq u.0.attempt p.attempt) (has (attempts_of ps) u.0.attempt) u.3)

-- ---- what the task reads of it

pub record Stood (t : TaskId) (ps : List Placed) (rs : List Attempt) (r_accepted r_recorded r_lost : List Attempt) : Type 0 where
  pub stand : (a : Attempt) → a.task ≡ t → (grant.has r_accepted a && not (grant.has r_lost a)) ≡ has (attempts_of ps) a
  pub recs : (a : Attempt) → a.task ≡ t → grant.has r_recorded a ≡ has rs a
  pub once : Once t ps
  pub ours : (p : Placed) → In p ps → nat_eq p.attempt.task.number t.number ≡ true → p.attempt.task ≡ t

-- some are lost
pub record Loses (t : TaskId) (xs : List Attempt) (r x : task.Seen) : Type 0 where
  pub arrived : x.arrived ≡ r.arrived
  pub accepted : x.accepted ≡ r.accepted
  pub recorded : x.recorded ≡ r.recorded
  pub lost : (b : Attempt) → b.task ≡ t → grant.has x.lost b ≡ (grant.has r.lost b || (has xs b && grant.has r.recorded b))

module _ (t : TaskId) (k : ℕ) (map : of_reduces t.kind ≡ false) where
  abbrev T : Calls → task.Seen
  T c = task.seen t k (c t)

  kind-map : (z : TaskKind) → of_reduces z ≡ false → not (task.is_reduce z) ≡ true
  kind-map Map e = refl
  kind-map Reduce e = absurd (true≢false e)

  or-none : (x : Bool) → x ≡ (x || false)
  or-none true = refl
  or-none false = refl

  loses-one : (r : task.Seen) (a : Attempt) → a.task ≡ t → Loses t (a ∷ []) r (task.after_loss r a)
  loses-one r a q = if_cases (λ x. Loses t (a ∷ []) r x) (not (task.is_reduce a.task.kind) && grant.has r.recorded a) _ _
      (λ e. record { arrived = refl; accepted = refl; recorded = refl; lost = λ b p. more b (same_attempt b a) refl (and_parts _ _ e).1 })
      (λ e. record { arrived = refl; accepted = refl; recorded = refl; lost = λ b p. less b (attempt_eq b a) refl (unrecorded e) })
    where
      unrecorded : (not (task.is_reduce a.task.kind) && grant.has r.recorded a) ≡ false → grant.has r.recorded a ≡ false
      unrecorded e = sym (ap (λ z. z && grant.has r.recorded a) (kind-map a.task.kind (ap (λ (u : TaskId). of_reduces u.kind) q ∙ map))) ∙ e

      flip : (x : Bool) → true ≡ (x || true)
      flip true = refl
      flip false = refl

      more : (b : Attempt) (c : Bool) → same_attempt b a ≡ c → grant.has r.recorded a ≡ true → (same_attempt b a || grant.has r.lost b) ≡ (grant.has r.lost b || ((attempt_eq b a || false) && grant.has r.recorded b))
      more b true e h =
          let u = eq-same b a ∙ e in
          let v = subst (λ x. grant.has r.recorded x ≡ true) (sym (attempt_eq-true b a u)) h in
          (λ i. e i || grant.has r.lost b) ∙ (flip (grant.has r.lost b) ∙ (λ i. grant.has r.lost b || ((sym u i || false) && sym v i)))
      more b false e h = let u = eq-same b a ∙ e in (λ i. e i || grant.has r.lost b) ∙ (or-none (grant.has r.lost b) ∙ (λ i. grant.has r.lost b || ((sym u i || false) && grant.has r.recorded b)))

      less : (b : Attempt) (c : Bool) → attempt_eq b a ≡ c → grant.has r.recorded a ≡ false → grant.has r.lost b ≡ (grant.has r.lost b || ((attempt_eq b a || false) && grant.has r.recorded b))
      less b true u h = let v = subst (λ x. grant.has r.recorded x ≡ false) (sym (attempt_eq-true b a u)) h in
          or-none (grant.has r.lost b) ∙ (λ i. grant.has r.lost b || ((sym u i || false) && sym v i))
      less b false u h = or-none (grant.has r.lost b) ∙ (λ i. grant.has r.lost b || ((sym u i || false) && grant.has r.recorded b))

  pub loses-tell : (c : Calls) (a : Attempt) → Loses t (a ∷ []) (T c) (T (tell a.task (task_call.Loses a) c))
  unfolding task.seen task.next_seen
  loses-tell c a = by (task_eq a.task t) refl
    where
      by : (b : Bool) → task_eq a.task t ≡ b → Loses t (a ∷ []) (T c) (task.seen t k (if b then task_call.Loses a ∷ c t else c t))
      by true e = loses-one (T c) a (task_eq-true a.task t e)
      by false e = record { arrived = refl; accepted = refl; recorded = refl; lost = λ b p. or-none (grant.has (T c).lost b) ∙ (λ i. grant.has (T c).lost b || ((sym (apart t b a p e) i || false) && grant.has (T c).recorded b)) }

  pub loses-each : (xs : List Attempt) (c : Calls) → Loses t xs (T c) (T (tell_each (λ a. task_call.Loses a) xs c))
  loses-each [] c = record { arrived = refl; accepted = refl; recorded = refl; lost = λ b p. or-none (grant.has (T c).lost b) }
  loses-each (a ∷ xs) c =
      let u = loses-tell c a in
      let v = loses-each xs (tell a.task (task_call.Loses a) c) in
      record {
        arrived = v.arrived ∙ u.arrived;
        accepted = v.accepted ∙ u.accepted;
        recorded = v.recorded ∙ u.recorded;
        lost = λ b p. v.lost b p ∙ ((λ i. u.lost b p i || (has xs b && grant.has (u.recorded i) b)) ∙ join (grant.has (T c).lost b) (attempt_eq b a) (has xs b) (grant.has (T c).recorded b));
      }
    where
      join : (l e h r : Bool) → ((l || ((e || false) && r)) || (h && r)) ≡ (l || ((e || h) && r))
      join true e h r = refl
      join false true true true = refl
      join false true true false = refl
      join false true false true = refl
      join false true false false = refl
      join false false h r = refl

  -- what the task loses is gone from what stands
  pub lose : (r x : task.Seen) (xs rs : List Attempt) (ps qs : List Placed) → Loses t xs r x → Stood t ps rs r.accepted r.recorded r.lost →
      ((a : Attempt) → a.task ≡ t → has (attempts_of qs) a ≡ (has (attempts_of ps) a && not (has xs a && has rs a))) → Once t qs → ((p : Placed) → In p qs → In p ps) →
      Stood t qs rs x.accepted x.recorded x.lost
  lose r x xs rs ps qs l o same once from = record {
    stand = λ a q. (λ i. grant.has (l.accepted i) a && not (l.lost a q i))
        ∙ (parts (grant.has r.accepted a) (grant.has r.lost a) (has xs a && grant.has r.recorded a)
        ∙ ((λ i. o.stand a q i && not (has xs a && o.recs a q i)) ∙ sym (same a q)));
    recs = λ a q. ap (λ z. grant.has z a) l.recorded ∙ o.recs a q;
    once = once;
    ours = λ p i e. o.ours p (from p i) e;
  }
    where
      parts : (c l z : Bool) → (c && not (l || z)) ≡ ((c && not l) && not z)
      parts false l z = refl
      parts true true z = refl
      parts true false z = refl

  pub lose-kept : (r x : task.Seen) (f : Placed → Bool) (rs : List Attempt) (ps : List Placed) → ((p : Placed) → f p ≡ true → has rs p.attempt ≡ true) →
      Loses t (gone f ps) r x → Stood t ps rs r.accepted r.recorded r.lost → Stood t (keep f ps) rs x.accepted x.recorded x.lost
  lose-kept r x f rs ps h l o = lose r x (gone f ps) rs ps (keep f ps) l o
      (λ a q. kept-are t f ps a o.once q ∙ ap (λ z. has (attempts_of ps) a && not z) (both (has (gone f ps) a) (has rs a) (λ e. gone-has f rs h ps a e)))
      (once-kept t f ps o.once) (kept-in f ps)
    where
      both : (x y : Bool) → (x ≡ true → y ≡ true) → x ≡ (x && y)
      both true y e = sym (e refl)
      both false y e = refl

  -- an attempt that is heard to be lost
  without-are : (ps : List Placed) (a b : Attempt) → has (attempts_of (without_placed ps a)) b ≡ (has (attempts_of ps) b && not (attempt_eq b a))
  without-are [] a b = refl
  without-are (p ∷ ps) a b = by (attempt_eq a p.attempt) refl (attempt_eq b p.attempt) refl (without-are ps a b)
    where
      by : (x : Bool) → attempt_eq a p.attempt ≡ x → (y : Bool) → attempt_eq b p.attempt ≡ y → has (attempts_of (without_placed ps a)) b ≡ (has (attempts_of ps) b && not (attempt_eq b a)) →
          has (attempts_of (if x then without_placed ps a else p ∷ without_placed ps a)) b ≡ ((attempt_eq b p.attempt || has (attempts_of ps) b) && not (attempt_eq b a))
      by true e y f rest =
          let is = attempt_eq-true a p.attempt e in
          rest ∙ (drop (attempt_eq b a) (has (attempts_of ps) b) ∙ (λ i. (attempt_eq b (is i) || has (attempts_of ps) b) && not (attempt_eq b a)))
        where
          drop : (c h : Bool) → (h && not c) ≡ ((c || h) && not c)
          drop true true = refl
          drop true false = refl
          drop false h = refl
      by false e true f rest = (λ i. f i || has (attempts_of (without_placed ps a)) b) ∙ (λ i. (sym f i || has (attempts_of ps) b) && not (sym other i))
        where
          other : attempt_eq b a ≡ false
          other = attempt_ne b a (λ u. false≢true (sym e ∙ subst (λ x. attempt_eq x p.attempt ≡ true) u f))
      by false e false f rest = (λ i. f i || rest i) ∙ (λ i. (sym f i || has (attempts_of ps) b) && not (attempt_eq b a))

  pub lose-heard : (r x : task.Seen) (a : Attempt) (rs : List Attempt) (ps : List Placed) → has rs a ≡ true → Loses t (a ∷ []) r x →
      Stood t ps rs r.accepted r.recorded r.lost → Stood t (without_placed ps a) rs x.accepted x.recorded x.lost
  lose-heard r x a rs ps there l o = lose r x (a ∷ []) rs ps (without_placed ps a) l o
      (λ b q. without-are ps a b ∙ ap (λ z. has (attempts_of ps) b && not z) (is b (attempt_eq b a) refl))
      (subst (λ z. Once t z) (sym (without-keep ps a)) (once-kept t (is_of a) ps o.once)) (λ p i. kept-in (is_of a) ps p (subst (λ z. In p z) (without-keep ps a) i))
    where
      is : (b : Attempt) (c : Bool) → attempt_eq b a ≡ c → attempt_eq b a ≡ ((attempt_eq b a || false) && has rs b)
      is b true e = e ∙ (λ i. (sym e i || false) && sym (subst (λ y. has rs y ≡ true) (sym (attempt_eq-true b a e)) there) i)
      is b false e = e ∙ (λ i. (sym e i || false) && has rs b)

  -- one that is not recorded is not lost
  pub lose-nothing : (r x : task.Seen) (a : Attempt) (rs : List Attempt) (ps : List Placed) → has rs a ≡ false → Loses t (a ∷ []) r x →
      Stood t ps rs r.accepted r.recorded r.lost → Stood t ps rs x.accepted x.recorded x.lost
  lose-nothing r x a rs ps free l o = lose r x (a ∷ []) rs ps ps l o
      (λ b q. sym (ap (λ z. has (attempts_of ps) b && not z) (is b (attempt_eq b a) refl) ∙ and-true (has (attempts_of ps) b))) o.once (λ p i. i)
    where
      and-true : (z : Bool) → (z && true) ≡ z
      and-true true = refl
      and-true false = refl

      is : (b : Attempt) (c : Bool) → attempt_eq b a ≡ c → ((attempt_eq b a || false) && has rs b) ≡ false
      is b true e = (λ i. (e i || false) && subst (λ y. has rs y ≡ false) (sym (attempt_eq-true b a e)) free i)
      is b false e = (λ i. (e i || false) && has rs b)

  -- ---- whether it is won

  pub won-stands : (r : task.Seen) (rs : List Attempt) (ps : List Placed) → ((a : Attempt) → grant.has r.accepted a ≡ true → grant.has r.arrived a ≡ true) → ((a : Attempt) → grant.has r.arrived a ≡ true → a.task ≡ t) →
      Stood t ps rs r.accepted r.recorded r.lost → task.is_won r ≡ is_some (stands ps t.number)
  won-stands r rs ps arrived own o = by (stands ps t.number) refl
    where
      none : is_none (stands ps t.number) ≡ true → (x : Attempt) (b : Bool) → task.stands r x ≡ b → task.stands r x ≡ false
      none e x false q = q
      none e x true q =
          let mine = own x (arrived x (and_parts (grant.has r.accepted x) (not (grant.has r.lost x)) q).0) in
          o.stand x mine ∙ none-there ps t.number x (ap (λ (u : TaskId). u.number) mine) e

      by : (p : Option Placed) → stands ps t.number ≡ p → task.is_won r ≡ is_some p
      by None q = none-any (task.stands r) r.arrived (λ x. none (ap (λ z. is_none z) q) x (task.stands r x) refl)
      by (Some p) q =
          let u = one-there ps t.number (ap (λ z. is_some z) q) in
          let st = o.stand u.0.attempt (o.ours u.0 u.1 u.2) ∙ u.3 in
          in-any (task.stands r) r.arrived u.0.attempt (arrived u.0.attempt (and_parts (grant.has r.accepted u.0.attempt) (not (grant.has r.lost u.0.attempt)) st).0) st
