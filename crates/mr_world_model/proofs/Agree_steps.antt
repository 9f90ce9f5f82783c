-- Of one reduce: that the reading of its calls is that of the past, over each change.
use Rattle.std.proofs.Common.{ℕ, suc, ◌+◌, count_by, arith, ◌≡◌, refl, sym, ◌∙◌, ap, subst, Bool, true, false, ◌&&◌, ◌||◌, not, cond, List, [], ◌∷◌, ◌++◌, Option, Some, None, if◌then◌else◌, is_some, is_none, nat_lt, nat_le}
use Rattle.std.proofs.lemmas.Bool.{and_parts, false≢true, not-true}
use Rattle.mr_grant.specs.Attempts as grant
use Rattle.mr_grant.specs.Attempts.{same_attempt, first_of, is_first}
use Rattle.mr_grant.proofs.Same.{same-itself}
use Rattle.mr_task.specs.Readings as task
use Rattle.mr_task.proofs.Same.{same-sym}
use Rattle.mr_task.proofs.Lists.{has-append}
use Rattle.mr_task.proofs.Arrivals.{nothing-arrived}
use Rattle.mr_world_model.specs.Ids.{Attempt, TaskId, TaskKind, Map, Reduce, task_eq, attempt_eq, is_reduce, of_reduces}
use Rattle.mr_world_model.specs.Packets.{Config, Done}
use Rattle.mr_world_model.specs.Hearing.{Seen, stands, Launched, Ending, find_launched, has, is_over, is_live, is_attempt, may_accept, named_in, heard, after_ask, after_end, ended_by, over_with, failures, is_won}
use Rattle.mr_world_model.specs.Calls.{is_launched}
use Rattle.mr_world_model.proofs.Basic.{if_cases, unless_parts}
use Rattle.mr_world_model.proofs.Failures.{failed_in, counted, last-count, last-one}
use Rattle.mr_world_model.specs.World.{count_of}
use Rattle.mr_world_model.specs.Effect.{live_count, task_fault}
use Rattle.mr_task.specs.declared.fault.TaskFault.TheVariants.{AlreadyWon, TooManyLive, TooManyAttempts}
use Rattle.std.proofs.lemmas.Bool.Decides.{nat_tests}
use Rattle.mr_ids.proofs.Same.{task-is}
use Rattle.mr_ids.specs.Same.{same_task}
use Rattle.mr_world_model.proofs.Names.{task_eq-true, task_eq-false, task_eq-is}
use Rattle.mr_world_model.proofs.Lists.{attempt_eq-true, attempt_eq-refl, attempt_ne}

-- ---- both tests are one

pub if_both : {A B : Type 0} (P : A → B → Type 0) (b c : Bool) (x x' : A) (y y' : B) → b ≡ c → (b ≡ true → P x y) → P x' y' →
    P (if b then x else x') (if c then y else y')
if_both P true true x x' y y' e p q = p refl
if_both P false false x x' y y' e p q = q
if_both P true false x x' y y' e p q = absurd (false≢true (sym e))
if_both P false true x x' y y' e p q = absurd (false≢true e)

pub eq-same : (a b : Attempt) → attempt_eq a b ≡ same_attempt a b
unfolding task_eq same_attempt
eq-same a b = refl

pub has-same : (xs : List Attempt) (a : Attempt) → grant.has xs a ≡ has xs a
has-same [] a = refl
has-same (x ∷ xs) a = let here = eq-same a x in let rest = has-same xs a in λ i. sym here i || rest i

-- ---- what is said of one task

abbrev pub attempts_in : TaskId → List Attempt → List Attempt
attempts_in t [] = []
attempts_in t (a ∷ as') = if task_eq a.task t then a ∷ attempts_in t as' else attempts_in t as'

abbrev pub endings_in : TaskId → List Ending → List task.Ending
endings_in t [] = []
endings_in t (e ∷ es) = if task_eq e.attempt.task t then record { attempt = e.attempt; is_failure = e.is_failure } ∷ endings_in t es else endings_in t es

-- how many launched attempts of the task pass a test
abbrev pub count_on : (Attempt → Bool) → TaskId → List Launched → ℕ
count_on p t [] = 0
count_on p t (l ∷ ls) = if p l.attempt && task_eq l.attempt.task t then suc (count_on p t ls) else count_on p t ls

pub no-and : {A : Type 0} (z : Bool) (u v : A) → (if z && false then u else v) ≡ v
no-and true u v = refl
no-and false u v = refl

pub all-count : (t : TaskId) (ls : List Launched) → count_of ls t ≡ count_on (λ a. true) t ls
all-count t [] = refl
all-count t (l ∷ ls) = ap (λ n. if task_eq l.attempt.task t then suc n else n) (all-count t ls)

-- where none of the task was launched none is counted
pub no-count : (p : Attempt → Bool) (t : TaskId) (ls : List Launched) → ((a : Attempt) → a.task ≡ t → is_some (find_launched ls a) ≡ true → ⊥) → count_on p t ls ≡ 0
no-count p t [] none = refl
no-count p t (l ∷ ls) none = by (task_eq l.attempt.task t) refl (no-count p t ls (λ a q e. none a q (more (attempt_eq a l.attempt) a e)))
  where
    more : (b : Bool) (a : Attempt) → is_some (find_launched ls a) ≡ true → is_some (if b then Some l else find_launched ls a) ≡ true
    more true a e = refl
    more false a e = e

    by : (b : Bool) → task_eq l.attempt.task t ≡ b → count_on p t ls ≡ 0 → (if p l.attempt && b then suc (count_on p t ls) else count_on p t ls) ≡ 0
    by true e rest = absurd (none l.attempt (task_eq-true l.attempt.task t e) (ap (λ b. is_some (if b then Some l else find_launched ls l.attempt)) (attempt_eq-refl l.attempt)))
    by false e rest = no-and (p l.attempt) (suc (count_on p t ls)) (count_on p t ls) ∙ rest

pub apart : (t : TaskId) (a x : Attempt) → a.task ≡ t → task_eq x.task t ≡ false → attempt_eq a x ≡ false
apart t a x q f = attempt_ne a x (λ e. task_eq-false x.task t f (ap (λ (y : Attempt). y.task) (sym e) ∙ q))

pub has-in : (t : TaskId) (xs : List Attempt) (a : Attempt) → a.task ≡ t → grant.has (attempts_in t xs) a ≡ has xs a
has-in t [] a q = refl
has-in t (x ∷ xs) a q = by (task_eq x.task t) refl (has-in t xs a q)
  where
    by : (b : Bool) → task_eq x.task t ≡ b → grant.has (attempts_in t xs) a ≡ has xs a →
        grant.has (if b then x ∷ attempts_in t xs else attempts_in t xs) a ≡ (attempt_eq a x || has xs a)
    by true e rest = let here = eq-same a x in λ i. sym here i || rest i
    by false e rest = rest ∙ ap (λ b. b || has xs a) (sym (apart t a x q e))

pub over-in : (t : TaskId) (es : List Ending) (a : Attempt) → a.task ≡ t → task.is_over (endings_in t es) a ≡ is_over es a
over-in t [] a q = refl
over-in t (x ∷ es) a q = by (task_eq x.attempt.task t) refl (over-in t es a q)
  where
    by : (b : Bool) → task_eq x.attempt.task t ≡ b → task.is_over (endings_in t es) a ≡ is_over es a →
        task.is_over (if b then record { attempt = x.attempt; is_failure = x.is_failure } ∷ endings_in t es else endings_in t es) a ≡ (attempt_eq a x.attempt || is_over es a)
    by true e rest = let here = eq-same a x.attempt in λ i. sym here i || rest i
    by false e rest = rest ∙ ap (λ b. b || is_over es a) (sym (apart t a x.attempt q e))

pub failures-in : (t : TaskId) (es : List Ending) (a : Attempt) → a.task ≡ t → failed_in (endings_in t es) ≡ failures es a
failures-in t [] a q = refl
failures-in t (x ∷ es) a q = by (task_eq x.attempt.task t) (same) x.is_failure (failures-in t es a q)
  where
    same : task_eq x.attempt.task a.task ≡ task_eq x.attempt.task t
    same = ap (λ u. task_eq x.attempt.task u) q

    by : (b : Bool) → task_eq x.attempt.task a.task ≡ b → (f : Bool) → failed_in (endings_in t es) ≡ failures es a →
        failed_in (if b then record { attempt = x.attempt; is_failure = f } ∷ endings_in t es else endings_in t es)
        ≡ (if f && task_eq x.attempt.task a.task then suc (failures es a) else failures es a)
    by true e true rest = ap (λ n. suc n) rest ∙ ap (λ b. if b then suc (failures es a) else failures es a) (sym e)
    by true e false rest = rest
    by false e true rest = rest ∙ ap (λ b. if b then suc (failures es a) else failures es a) (sym e)
    by false e false rest = rest

pub named-in : (t : TaskId) (xs : List Attempt) (es : List Ending) → of_reduces t.kind ≡ true →
    task.named_in (attempts_in t xs) (endings_in t es) ≡ named_in xs es t
unfolding named_in
named-in t [] es r = refl
named-in t (x ∷ xs) es r = by (task_eq x.task t) refl (named-in t xs es r)
  where
    none : (z : Bool) (u v : Option Attempt) → (if z && (false && not (is_over es x)) then u else v) ≡ v
    none true u v = refl
    none false u v = refl

    one : (z o p : Bool) → z ≡ true → p ≡ o → task.named_in (attempts_in t xs) (endings_in t es) ≡ named_in xs es t →
        first_of (cond (not p) (x ∷ task.waiting_in (attempts_in t xs) (endings_in t es)) (task.waiting_in (attempts_in t xs) (endings_in t es)))
        ≡ (if z && (true && not o) then Some x else named_in xs es t)
    one true true true e f rest = rest
    one true false false e f rest = refl
    one true true false e f rest = absurd (false≢true f)
    one true false true e f rest = absurd (false≢true (sym f))
    one false o p e f rest = absurd (false≢true e)

    by : (b : Bool) → task_eq x.task t ≡ b → task.named_in (attempts_in t xs) (endings_in t es) ≡ named_in xs es t →
        task.named_in (if b then x ∷ attempts_in t xs else attempts_in t xs) (endings_in t es)
        ≡ (if is_reduce x && (b && not (is_over es x)) then Some x else named_in xs es t)
    by true e rest = let q = task_eq-true x.task t e in
        one (is_reduce x) (is_over es x) (task.is_over (endings_in t es) x) (ap (λ (u : TaskId). of_reduces u.kind) q ∙ r) (over-in t es x q) rest
    by false e rest = rest ∙ sym (none (is_reduce x) (Some x) (named_in xs es t))

pub in-same : (t : TaskId) (xs : List Attempt) (a : Attempt) → a.task ≡ t → attempts_in t (xs ++ a ∷ []) ≡ attempts_in t xs ++ a ∷ []
in-same t [] a q = ap (λ b. if b then a ∷ [] else []) (task_eq-is a.task t q)
in-same t (x ∷ xs) a q = by (task_eq x.task t) (in-same t xs a q)
  where
    by : (b : Bool) → attempts_in t (xs ++ a ∷ []) ≡ attempts_in t xs ++ a ∷ [] →
        (if b then x ∷ attempts_in t (xs ++ a ∷ []) else attempts_in t (xs ++ a ∷ [])) ≡ (if b then x ∷ attempts_in t xs else attempts_in t xs) ++ a ∷ []
    by true rest = ap (λ l. x ∷ l) rest
    by false rest = rest

pub in-other : (t : TaskId) (xs : List Attempt) (a : Attempt) → task_eq a.task t ≡ false → attempts_in t (xs ++ a ∷ []) ≡ attempts_in t xs
in-other t [] a f = ap (λ b. if b then a ∷ [] else []) f
in-other t (x ∷ xs) a f = by (task_eq x.task t) (in-other t xs a f)
  where
    by : (b : Bool) → attempts_in t (xs ++ a ∷ []) ≡ attempts_in t xs →
        (if b then x ∷ attempts_in t (xs ++ a ∷ []) else attempts_in t (xs ++ a ∷ [])) ≡ (if b then x ∷ attempts_in t xs else attempts_in t xs)
    by true rest = ap (λ l. x ∷ l) rest
    by false rest = rest

-- ---- the agreement, over the parts that it speaks of

pub record Agrees (t : TaskId) (launched : List Launched) (asked : List Attempt) (ended : List Ending) (taken : List Attempt) (r_arrived r_accepted r_asked : List Attempt) (r_ended : List task.Ending) (r_numbered : ℕ) : Type 0 where
  pub arrived : (a : Attempt) → a.task ≡ t → is_some (find_launched launched a) ≡ true → grant.has r_arrived a ≡ true
  pub took : (a : Attempt) → a.task ≡ t → grant.has r_arrived a ≡ true → is_some (find_launched launched a) ≡ false → grant.has r_accepted a ≡ true
  pub accepted : (a : Attempt) → a.task ≡ t → is_some (find_launched launched a) ≡ true → grant.has r_accepted a ≡ has taken a
  pub known : (a : Attempt) → has taken a ≡ true → is_some (find_launched launched a) ≡ true
  pub asks : r_asked ≡ attempts_in t asked
  pub ends : r_ended ≡ endings_in t ended
  pub counts : (p : Attempt → Bool) → ((a : Attempt) → a.task ≡ t → grant.has r_arrived a ≡ true → is_some (find_launched launched a) ≡ false → p a ≡ false) →
      count_by p r_arrived ≡ count_on p t launched
  pub numbered : r_numbered ≡ count_of launched t

abbrev pub AgreesOf : TaskId → Seen → task.Seen → Type 0
AgreesOf t s r = Agrees t s.launched s.asked s.ended s.accepted r.arrived r.accepted r.asked r.ended r.numbered

module _ (t : TaskId) (s : Seen) (r : task.Seen) (o : AgreesOf t s r) where
  pub over-agrees : (a : Attempt) → a.task ≡ t → task.is_over r.ended a ≡ is_over s.ended a
  over-agrees a q = ap (λ es. task.is_over es a) o.ends ∙ over-in t s.ended a q

  -- of an attempt that this master did not launch nothing more is heard
  pub foreign : (a : Attempt) (z : Bool) → a.task ≡ t → is_launched s a ≡ false → (grant.has r.arrived a && (not (grant.has r.accepted a) && z)) ≡ false
  foreign a z q e = by (grant.has r.arrived a) refl
    where
      by : (b : Bool) → grant.has r.arrived a ≡ b → (b && (not (grant.has r.accepted a) && z)) ≡ false
      by false h = refl
      by true h = ap (λ x. not x && z) (o.took a q h e)

  -- of one that it launched all is known
  pub own : (a : Attempt) (z y : Bool) → a.task ≡ t → z ≡ y →
      (grant.has r.arrived a && (not (grant.has r.accepted a) && z)) ≡ (is_launched s a && (not (has s.accepted a) && y))
  own a z y q e = by (is_launched s a) refl
    where
      by : (b : Bool) → is_launched s a ≡ b → (grant.has r.arrived a && (not (grant.has r.accepted a) && z)) ≡ (b && (not (has s.accepted a) && y))
      by true h = let p = o.arrived a q h in let u = o.accepted a q h in λ i. p i && (not (u i) && e i)
      by false h = foreign a z q h

  pub live-agrees : (a : Attempt) → a.task ≡ t → task.is_live r a ≡ is_live s a
  live-agrees a q = let e = over-agrees a q in own a _ _ q (λ i. not (e i))

  pub named-agrees : of_reduces t.kind ≡ true → task.named r ≡ named_in s.asked s.ended t
  named-agrees k = (let e = o.asks in let f = o.ends in λ i. task.named_in (e i) (f i)) ∙ named-in t s.asked s.ended k

  pub is-first : (xs : List Attempt) (a : Attempt) → is_first xs a ≡ is_attempt (first_of xs) a
  is-first [] a = refl
  is-first (x ∷ xs) a = same-sym x a ∙ sym (eq-same a x)

  pub by-kind : (k : TaskKind) (a : Attempt) → of_reduces k ≡ true → task.may_accept_of k r a ≡ task.is_named r a
  by-kind Reduce a e = refl
  by-kind Map a e = absurd (false≢true e)

  pub accepts-agrees : of_reduces t.kind ≡ true → (a : Attempt) → a.task ≡ t → task.may_accept r a ≡ may_accept s a
  accepts-agrees k a q = own a _ _ q (by-kind a.task.kind a reduces ∙ (is-first _ a ∙ (ap (λ x. is_attempt x a) named ∙ shown (is_reduce a) reduces)))
    where
      reduces : is_reduce a ≡ true
      reduces = ap (λ (u : TaskId). of_reduces u.kind) q ∙ k

      named : task.named r ≡ named_in s.asked s.ended a.task
      named = named-agrees k ∙ ap (λ u. named_in s.asked s.ended u) (sym q)

      shown : (b : Bool) → b ≡ true → is_attempt (named_in s.asked s.ended a.task) a ≡
          (if b then (b && is_attempt (named_in s.asked s.ended a.task) a) else (not (is_over s.ended a) && is_none (stands s.standing a.task.number)))
      shown true e = refl
      shown false e = absurd (false≢true e)

  -- ---- each change

  pub ask-agrees : (a : Attempt) → a.task ≡ t → is_launched s a ≡ true → AgreesOf t (after_ask s a) (task.after_ask r a)
  ask-agrees a q l = if_both (AgreesOf t) _ _ _ _ _ _ same
      (λ e. record { arrived = o.arrived; took = o.took; accepted = o.accepted; known = o.known; counts = o.counts; numbered = o.numbered; asks = ap (λ xs. xs ++ a ∷ []) o.asks ∙ sym (in-same t s.asked a q); ends = o.ends }) o
    where
      same : (is_launched s a && not (has s.asked a)) ≡ (grant.has r.arrived a && not (grant.has r.asked a))
      same = let p = l ∙ sym (o.arrived a q l) in let u = sym (ap (λ xs. grant.has xs a) o.asks ∙ has-in t s.asked a q) in λ i. p i && not (u i)

  pub ask-other : (a : Attempt) → task_eq a.task t ≡ false → AgreesOf t (after_ask s a) r
  ask-other a f = if_cases (λ x. AgreesOf t x r) _ _ _
      (λ e. record { arrived = o.arrived; took = o.took; accepted = o.accepted; known = o.known; counts = o.counts; numbered = o.numbered; asks = o.asks ∙ sym (in-other t s.asked a f); ends = o.ends }) (λ e. o)

  pub ends-one : (a : Attempt) (f : Bool) → a.task ≡ t →
      Agrees t s.launched s.asked (over_with s a f) s.accepted r.arrived r.accepted r.asked (record { attempt = a; is_failure = f } ∷ r.ended) r.numbered
  ends-one a f q = record {
    arrived = o.arrived;
    took = o.took;
    accepted = o.accepted;
    known = o.known;
    counts = o.counts;
    numbered = o.numbered;
    asks = o.asks;
    ends = (let e = o.ends in λ i. record { attempt = a; is_failure = f } ∷ e i)
        ∙ ap (λ b. if b then record { attempt = a; is_failure = f } ∷ endings_in t s.ended else endings_in t s.ended) (sym (task_eq-is a.task t q));
  }

  pub ends-other : (a : Attempt) (f : Bool) → task_eq a.task t ≡ false →
      Agrees t s.launched s.asked (over_with s a f) s.accepted r.arrived r.accepted r.asked r.ended r.numbered
  ends-other a f g = record {
    arrived = o.arrived;
    took = o.took;
    accepted = o.accepted;
    known = o.known;
    counts = o.counts;
    numbered = o.numbered;
    asks = o.asks;
    ends = o.ends ∙ ap (λ b. if b then record { attempt = a; is_failure = f } ∷ endings_in t s.ended else endings_in t s.ended) (sym g);
  }

  pub ended_by-agrees : (cfg : Config) (a : Attempt) (f : Bool) → a.task ≡ t → AgreesOf t (ended_by cfg s a f) (record r { ended = record { attempt = a; is_failure = f } ∷ r.ended })
  ended_by-agrees cfg a false q = ends-one a false q
  ended_by-agrees cfg a true q = if_cases (λ x. AgreesOf t x (record r { ended = record { attempt = a; is_failure = true } ∷ r.ended })) _ _ _ (λ e. ends-one a true q) (λ e. ends-one a true q)

  pub ended_by-other : (cfg : Config) (a : Attempt) (f : Bool) → task_eq a.task t ≡ false → AgreesOf t (ended_by cfg s a f) r
  ended_by-other cfg a false g = ends-other a false g
  ended_by-other cfg a true g = if_cases (λ x. AgreesOf t x r) _ _ _ (λ e. ends-other a true g) (λ e. ends-other a true g)

  pub end-agrees : (cfg : Config) (a : Attempt) (f : Bool) → a.task ≡ t → AgreesOf t (after_end cfg s a f) (task.after_end r a f)
  end-agrees cfg a f q = if_both (AgreesOf t) _ _ _ _ _ _ (sym (live-agrees a q)) (λ e. ended_by-agrees cfg a f q) o

  pub end-other : (cfg : Config) (a : Attempt) (f : Bool) → task_eq a.task t ≡ false → AgreesOf t (after_end cfg s a f) r
  end-other cfg a f g = if_cases (λ x. AgreesOf t x r) _ _ _ (λ e. ended_by-other cfg a f g) (λ e. o)

  pub live-ends : (a : Attempt) → a.task ≡ t → is_live s a ≡ true → AgreesOf t (record s { ended = over_with s a false }) (task.after_end r a false)
  live-ends a q live = if_cases (λ y. AgreesOf t (record s { ended = over_with s a false }) y) (task.is_live r a) _ _
      (λ e. ends-one a false q) (λ e. absurd (false≢true (sym e ∙ (live-agrees a q ∙ live))))

  pub dead-stays : (a : Attempt) → a.task ≡ t → is_live s a ≡ false → AgreesOf t s (task.after_end r a false)
  dead-stays a q dead = if_cases (λ y. AgreesOf t s y) (task.is_live r a) _ _
      (λ e. absurd (false≢true (sym dead ∙ (sym (live-agrees a q) ∙ e)))) (λ e. o)

  pub or-right : (x : Bool) → (x || true) ≡ true
  or-right true = refl
  or-right false = refl

  pub done-agrees : (cfg : Config) (a : Attempt) (bytes : Option ℕ) → task.may_accept r a ≡ may_accept s a → a.task ≡ t → is_launched s a ≡ true → AgreesOf t (heard cfg s (Done a bytes)) (task.after_done r a)
  unfolding heard
  done-agrees cfg a bytes same q l = if_both (AgreesOf t) _ _ _ _ _ _ (sym same) (λ e. record {
    arrived = o.arrived;
    took = λ b p h n. ap (λ z. same_attempt b a || z) (o.took b p h n) ∙ or-right (same_attempt b a);
    accepted = λ b p h. let here = eq-same b a in let rest = o.accepted b p h in λ i. sym here i || rest i;
    known = λ b h. known b (attempt_eq b a) refl h;
    counts = o.counts;
    numbered = o.numbered;
    asks = o.asks;
    ends = o.ends;
  }) o
    where
      known : (b : Attempt) (c : Bool) → attempt_eq b a ≡ c → (c || has s.accepted b) ≡ true → is_launched s b ≡ true
      known b true e h = subst (λ x. is_launched s x ≡ true) (sym (attempt_eq-true b a e)) l
      known b false e h = o.known b h

  pub done-other : (cfg : Config) (a : Attempt) (bytes : Option ℕ) → task_eq a.task t ≡ false → AgreesOf t (heard cfg s (Done a bytes)) r
  unfolding heard
  done-other cfg a bytes f = if_cases (λ x. AgreesOf t x r) _ _ _ (λ e. record {
    arrived = o.arrived;
    took = o.took;
    accepted = λ b p h. o.accepted b p h ∙ ap (λ z. z || has s.accepted b) (sym (apart t b a p f));
    known = λ b h. known (and_parts _ _ e).0 b (attempt_eq b a) refl h;
    counts = o.counts;
    numbered = o.numbered;
    asks = o.asks;
    ends = o.ends;
  }) (λ e. o)
    where
      known : is_launched s a ≡ true → (b : Attempt) (c : Bool) → attempt_eq b a ≡ c → (c || has s.accepted b) ≡ true → is_launched s b ≡ true
      known l b true e h = subst (λ x. is_launched s x ≡ true) (sym (attempt_eq-true b a e)) l
      known l b false e h = o.known b h

  pub launch-agrees : (l : Launched) → l.attempt.task ≡ t → grant.has r.arrived l.attempt ≡ false → grant.has r.accepted l.attempt ≡ false →
      Agrees t (l ∷ s.launched) s.asked s.ended s.accepted (r.arrived ++ l.attempt ∷ []) r.accepted r.asked r.ended (r.numbered + 1)
  launch-agrees l q new free = record {
    arrived = λ b p h. arrived b p (attempt_eq b l.attempt) refl h;
    took = λ b p h n. took b p h (attempt_eq b l.attempt) refl n;
    accepted = λ b p h. accepted b p (attempt_eq b l.attempt) refl h;
    known = λ b h. known b h (attempt_eq b l.attempt);
    counts = λ p h. counts p h (p l.attempt) refl;
    numbered = (let u = o.numbered in omega (arith, u)) ∙ ap (λ b. if b then suc (count_of s.launched t) else count_of s.launched t) (sym (task_eq-is l.attempt.task t q));
    asks = o.asks;
    ends = o.ends;
  }
    where
      not-it : (a : Attempt) → grant.has r.arrived a ≡ true → attempt_eq a l.attempt ≡ false
      not-it a there = attempt_ne a l.attempt (λ e. false≢true (sym new ∙ subst (λ x. grant.has r.arrived x ≡ true) e there))

      old : (p : Attempt → Bool) → ((a : Attempt) → a.task ≡ t → grant.has (r.arrived ++ l.attempt ∷ []) a ≡ true → is_some (if attempt_eq a l.attempt then Some l else find_launched s.launched a) ≡ false → p a ≡ false) →
          count_by p r.arrived ≡ count_on p t s.launched
      old p h = o.counts p (λ a q there n. h a q (has-append r.arrived l.attempt a ∙ ap (λ z. z || same_attempt a l.attempt) there)
          (ap (λ c. is_some (if c then Some l else find_launched s.launched a)) (not-it a there) ∙ n))

      counts : (p : Attempt → Bool) → ((a : Attempt) → a.task ≡ t → grant.has (r.arrived ++ l.attempt ∷ []) a ≡ true → is_some (if attempt_eq a l.attempt then Some l else find_launched s.launched a) ≡ false → p a ≡ false) →
          (b : Bool) → p l.attempt ≡ b → count_by p (r.arrived ++ l.attempt ∷ []) ≡ (if p l.attempt && task_eq l.attempt.task t then suc (count_on p t s.launched) else count_on p t s.launched)
      counts p h false e = last-count p l.attempt r.arrived e ∙ (old p h ∙ ap (λ c. if c && task_eq l.attempt.task t then suc (count_on p t s.launched) else count_on p t s.launched) (sym e))
      counts p h true e =
          let u = last-one p l.attempt r.arrived e in let v = old p h in
          omega (arith, u, v) ∙ ((λ i. if sym e i && sym (task_eq-is l.attempt.task t q) i then suc (count_on p t s.launched) else count_on p t s.launched))

      arrived : (b : Attempt) → b.task ≡ t → (c : Bool) → attempt_eq b l.attempt ≡ c → is_some (if c then Some l else find_launched s.launched b) ≡ true → grant.has (r.arrived ++ l.attempt ∷ []) b ≡ true
      arrived b p true e h = has-append r.arrived l.attempt b ∙ (ap (λ z. grant.has r.arrived b || z) (sym (eq-same b l.attempt) ∙ e) ∙ or-right (grant.has r.arrived b))
      arrived b p false e h = has-append r.arrived l.attempt b ∙ ap (λ z. z || same_attempt b l.attempt) (o.arrived b p h)

      front : (x y : Bool) → y ≡ false → (x || y) ≡ true → x ≡ true
      front true y e h = refl
      front false y e h = absurd (false≢true (sym e ∙ h))

      took : (b : Attempt) → b.task ≡ t → grant.has (r.arrived ++ l.attempt ∷ []) b ≡ true → (c : Bool) → attempt_eq b l.attempt ≡ c → is_some (if c then Some l else find_launched s.launched b) ≡ false → grant.has r.accepted b ≡ true
      took b p h true e n = absurd (false≢true (sym n))
      took b p h false e n = o.took b p (front (grant.has r.arrived b) (same_attempt b l.attempt) (sym (eq-same b l.attempt) ∙ e) (sym (has-append r.arrived l.attempt b) ∙ h)) n

      untaken : (x : Bool) → has s.accepted l.attempt ≡ x → has s.accepted l.attempt ≡ false
      untaken false e = e
      untaken true e = absurd (false≢true (sym new ∙ o.arrived l.attempt q (o.known l.attempt e)))

      accepted : (b : Attempt) → b.task ≡ t → (c : Bool) → attempt_eq b l.attempt ≡ c → is_some (if c then Some l else find_launched s.launched b) ≡ true → grant.has r.accepted b ≡ has s.accepted b
      accepted b p true e h = subst (λ x. grant.has r.accepted x ≡ has s.accepted x) (sym (attempt_eq-true b l.attempt e)) (free ∙ sym (untaken _ refl))
      accepted b p false e h = o.accepted b p h

      known : (b : Attempt) → has s.accepted b ≡ true → (c : Bool) → is_some (if c then Some l else find_launched s.launched b) ≡ true
      known b h true = refl
      known b h false = o.known b h

  pub launch-other : (l : Launched) → task_eq l.attempt.task t ≡ false → Agrees t (l ∷ s.launched) s.asked s.ended s.accepted r.arrived r.accepted r.asked r.ended r.numbered
  launch-other l f = record {
    arrived = λ b p h. o.arrived b p (subst (λ c. is_some (if c then Some l else find_launched s.launched b) ≡ true) (apart t b l.attempt p f) h);
    took = λ b p h n. o.took b p h (subst (λ c. is_some (if c then Some l else find_launched s.launched b) ≡ false) (apart t b l.attempt p f) n);
    accepted = λ b p h. o.accepted b p (subst (λ c. is_some (if c then Some l else find_launched s.launched b) ≡ true) (apart t b l.attempt p f) h);
    known = λ b h. known b h (attempt_eq b l.attempt);
    counts = λ p h. o.counts p (λ a q there n. h a q there (ap (λ c. is_some (if c then Some l else find_launched s.launched a)) (apart t a l.attempt q f) ∙ n))
        ∙ (sym (no-and (p l.attempt) (suc (count_on p t s.launched)) (count_on p t s.launched)) ∙ ap (λ b. if p l.attempt && b then suc (count_on p t s.launched) else count_on p t s.launched) (sym f));
    numbered = o.numbered ∙ ap (λ b. if b then suc (count_of s.launched t) else count_of s.launched t) (sym f);
    asks = o.asks;
    ends = o.ends;
  }
    where
      known : (b : Attempt) → has s.accepted b ≡ true → (c : Bool) → is_some (if c then Some l else find_launched s.launched b) ≡ true
      known b h true = refl
      known b h false = o.known b h

  -- calls that the parts do not hear of
  pub records-agree : (a : Attempt) → AgreesOf t s (task.after_record r a)
  records-agree a = if_cases (λ y. AgreesOf t s y) (grant.has r.accepted a) _ _ (λ e. o) (λ e. o)

  pub loses-agree : (a : Attempt) → AgreesOf t s (task.after_loss r a)
  loses-agree a = if_cases (λ y. AgreesOf t s y) (not (task.is_reduce a.task.kind) && grant.has r.recorded a) _ _ (λ e. o) (λ e. o)

  -- one is taken over where none is launched
  pub recovers-agree : (k : ℕ) (a : Attempt) → task.numbered_up_to k a ≡ 0 → AgreesOf t s (task.after_recovery t k r a)
  recovers-agree k a early = if_cases (λ y. AgreesOf t s y) (task.may_recover t r a) _ _ (λ e. record {
    arrived = λ b q h. absurd (none e b q h);
    took = λ b q h n. h;
    accepted = λ b q h. absurd (none e b q h);
    known = o.known;
    asks = o.asks;
    ends = o.ends;
    counts = λ p h. counted p a [] false (h a (own-task e) (there) (fresh-one e (is_launched s a) refl)) ∙ sym (no-count p t s.launched (none e));
    numbered = early ∙ sym (all-count t s.launched ∙ no-count (λ x. true) t s.launched (none e));
  }) (λ e. o)
    where
      none : task.may_recover t r a ≡ true → (b : Attempt) → b.task ≡ t → is_launched s b ≡ true → ⊥
      none e b q h = false≢true (subst (λ xs. grant.has xs b ≡ true) (nothing-arrived r.arrived (and_parts (is_none (first_of r.arrived)) (same_task a.task t) e).0) (o.arrived b q h))

      own-task : task.may_recover t r a ≡ true → a.task ≡ t
      own-task e = task-is a.task t (and_parts (is_none (first_of r.arrived)) (same_task a.task t) e).1

      there : grant.has (a ∷ []) a ≡ true
      there = ap (λ b. b || false) (same-itself a)

      fresh-one : task.may_recover t r a ≡ true → (b : Bool) → is_launched s a ≡ b → is_launched s a ≡ false
      fresh-one e false h = h
      fresh-one e true h = absurd (none e a (own-task e) h)

  -- ---- how many

  pub live-count : (ls : List Launched) → count_on (task.is_live r) t ls ≡ live_count s t ls
  live-count [] = refl
  live-count (l ∷ ls) = by (task_eq l.attempt.task t) refl (live-count ls)
    where
      by : (b : Bool) → task_eq l.attempt.task t ≡ b → count_on (task.is_live r) t ls ≡ live_count s t ls →
          (if task.is_live r l.attempt && b then suc (count_on (task.is_live r) t ls) else count_on (task.is_live r) t ls) ≡ (if is_live s l.attempt && b then suc (live_count s t ls) else live_count s t ls)
      by true e rest = let same = live-agrees l.attempt (task_eq-true l.attempt.task t e) in λ i. if same i && true then suc (rest i) else rest i
      by false e rest = no-and (task.is_live r l.attempt) _ _ ∙ (rest ∙ sym (no-and (is_live s l.attempt) _ _))

  pub live-counts : count_by (task.is_live r) r.arrived ≡ live_count s t s.launched
  live-counts = o.counts (task.is_live r) (λ a q there n. foreign a (not (task.is_over r.ended a)) q n) ∙ live-count s.launched

  -- ---- where it is known whether the task is won, what follows for maps and for launches

  pub is-none : {A : Type 0} (x : Option A) → is_none x ≡ not (is_some x)
  is-none None = refl
  is-none (Some x) = refl

  pub by-map : (k : TaskKind) (a : Attempt) → of_reduces k ≡ false → task.may_accept_of k r a ≡ (not (task.is_over r.ended a) && not (task.is_won r))
  by-map Map a e = refl
  by-map Reduce a e = absurd (false≢true (sym e))

  pub map-accepts : of_reduces t.kind ≡ false → task.is_won r ≡ is_won s false t → (a : Attempt) → a.task ≡ t → task.may_accept r a ≡ may_accept s a
  map-accepts k won a q = own a _ _ q (by-map a.task.kind a map ∙ ((λ i. not (over i) && not (won i)) ∙ shown (is_reduce a) map))
    where
      map : is_reduce a ≡ false
      map = ap (λ (u : TaskId). of_reduces u.kind) q ∙ k

      over : task.is_over r.ended a ≡ is_over s.ended a
      over = over-agrees a q

      shown : (b : Bool) → b ≡ false → (not (is_over s.ended a) && not (is_won s false t)) ≡
          (if b then (b && is_attempt (named_in s.asked s.ended a.task) a) else (not (is_over s.ended a) && is_none (stands s.standing a.task.number)))
      shown false e = let number = ap (λ (u : TaskId). stands s.standing u.number) (sym q) in
          ap (λ z. not (is_over s.ended a) && z) (sym (is-none (stands s.standing t.number)) ∙ ap (λ z. is_none z) number)
      shown true e = absurd (false≢true (sym e))

  pub refusal-agrees : task.is_won r ≡ is_won s (of_reduces t.kind) t → task_fault s t ≡ None → task.launch_refusal r ≡ None
  refusal-agrees won e =
      let u = unless_parts (not (is_won s (of_reduces t.kind) t)) _ _ e in
      let v = unless_parts (nat_lt (live_count s t s.launched) 2) _ _ u.1 in
      let w = unless_parts (nat_lt (count_of s.launched t) 1000) _ _ v.1 in
      (λ i. task.refusal_of (won i) (live-counts i) (o.numbered i))
      ∙ none (is_won s (of_reduces t.kind) t) (nat_le 2 (live_count s t s.launched)) (nat_le 1000 (count_of s.launched t))
      (not-true (is_won s (of_reduces t.kind) t) u.0) (few (live_count s t s.launched) 2 v.0) (few (count_of s.launched t) 1000 w.0)
    where
      few : (n m : ℕ) → nat_lt n m ≡ true → nat_le m n ≡ false
      few n m e = grind (arith, nat_tests, e)

      none : (x y z : Bool) → x ≡ false → y ≡ false → z ≡ false → (if x then Some AlreadyWon else (if y then Some TooManyLive else (if z then Some TooManyAttempts else None))) ≡ None
      none false false false p q e = refl
      none true y z p q e = absurd (false≢true (sym p))
      none false true z p q e = absurd (false≢true (sym q))
      none false false true p q e = absurd (false≢true (sym e))

-- ---- what is told
