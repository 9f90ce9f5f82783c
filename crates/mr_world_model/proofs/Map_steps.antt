-- Of one map: what its machine's calls keep, and what of a master's reading a quiet step leaves.
use Rattle.std.proofs.Common.{ℕ, ◌≡◌, refl, sym, ◌∙◌, ap, subst, Bool, true, false, ◌&&◌, ◌||◌, not, List, [], ◌∷◌, ◌++◌, Option, Some, None, if◌then◌else◌, is_some, is_none, nat_eq, nat_lt, nat_le, true≢false}
use Rattle.std.proofs.lemmas.Bool.{and_parts, false≢true}
use Rattle.mr_ids.proofs.Same.{task-itself}
use Rattle.mr_ids.specs.Same.{same_task}
use Rattle.mr_grant.specs.Attempts as grant
use Rattle.mr_grant.specs.Attempts.{same_attempt, first_of}
use Rattle.mr_task.specs.Calls as task_call
use Rattle.mr_task.specs.Calls.{TaskCall}
use Rattle.mr_task.specs.Readings as task
use Rattle.mr_grant.proofs.Same.{same-is}
use Rattle.mr_task.proofs.Arrivals.{nothing-arrived}
use Rattle.mr_task.proofs.Growth.{accepted-arrived}
use Rattle.mr_world_model.specs.Ids.{Attempt, ContainerId, TaskId, task_eq, attempt_eq, is_reduce}
use Rattle.mr_world_model.specs.Content.{bar_of}
use Rattle.mr_world_model.specs.Packets.{Config, Packet, NodeUp, Store, Names, Append_record, Flush, Read_history}
use Rattle.mr_world_model.specs.Hearing.{Seen, Phase, Placed, Launched, find_launched, has, has_container, is_live, is_won, failures, is_running, only_known, after_ask, after_end, ended_by, over_with, after_ended, after_bar, end_there, end_maps, can_hear}
use Rattle.mr_world_model.specs.Duties.{worked, successes, success_of, newest_maps, attempts_of, without_task}
use Rattle.mr_world_model.specs.Records.{Record, AttemptStarted, MapSucceeded, ReduceSucceeded, AttemptFailed, JobUnsuccessful}
use Rattle.mr_world_model.specs.Calls.{Calls, tell, tell_each}
use Rattle.mr_world_model.specs.Claims.{In}
use Rattle.mr_world_model.proofs.Masters.{is_early}
use Rattle.mr_world_model.proofs.Basic.{if_cases}
use Rattle.mr_world_model.proofs.Names.{task_eq-true}
use Rattle.mr_world_model.proofs.Lists.{attempt_eq-true, attempt_eq-refl}
use Rattle.mr_world_model.proofs.Agree.{eq-same, apart}
use Rattle.mr_world_model.proofs.Standing.{Once, keep, once-kept, Stood}

-- ---- what is lost or recorded was accepted

pub record Within (r : task.Seen) : Type 0 where
  pub recorded : (a : Attempt) → grant.has r.recorded a ≡ true → grant.has r.accepted a ≡ true
  pub lost : (a : Attempt) → grant.has r.lost a ≡ true → grant.has r.accepted a ≡ true

pub or-more : (c x y : Bool) → (x ≡ true → y ≡ true) → (c || x) ≡ true → (c || y) ≡ true
or-more true x y h e = refl
or-more false x y h e = h e

pub or-here : (P : Attempt → Type 0) (a b : Attempt) (c x : Bool) → same_attempt a b ≡ c → P b → (x ≡ true → P a) → (c || x) ≡ true → P a
or-here P a b true x q here go e = subst P (sym (same-is a b q)) here
or-here P a b false x q here go e = go e

pub end-within : (r : task.Seen) (a : Attempt) (f : Bool) → Within r → Within (task.after_end r a f)
end-within r a f o = if_cases (λ x. Within x) (task.is_live r a) _ _ (λ e. record { recorded = o.recorded; lost = o.lost }) (λ e. o)

pub within : (t : TaskId) (k : ℕ) (h : List TaskCall) → Within (task.seen t k h)
unfolding task.seen task.next_seen
within t k [] = record { recorded = λ a e. absurd (false≢true e); lost = λ a e. absurd (false≢true e) }
within t k (task_call.Launches ∷ h) = let o = within t k h in if_cases (λ x. Within x) (is_none (task.launch_refusal (task.seen t k h))) _ _ (λ e. record { recorded = o.recorded; lost = o.lost }) (λ e. o)
within t k (task_call.Hears a ∷ h) = within t k h
within t k (task_call.Asks a ∷ h) = let o = within t k h in if_cases (λ x. Within x) (grant.has (task.seen t k h).arrived a && not (grant.has (task.seen t k h).asked a)) _ _ (λ e. record { recorded = o.recorded; lost = o.lost }) (λ e. o)
within t k (task_call.Reports a ∷ h) = let o = within t k h in if_cases (λ x. Within x) (task.may_accept (task.seen t k h) a) _ _
    (λ e. record { recorded = λ b u. or-true (same_attempt b a) (o.recorded b u); lost = λ b u. or-true (same_attempt b a) (o.lost b u) }) (λ e. o)
  where
    or-true : (c : Bool) {x : Bool} → x ≡ true → (c || x) ≡ true
    or-true true e = refl
    or-true false e = e
within t k (task_call.Fails a ∷ h) = end-within (task.seen t k h) a true (within t k h)
within t k (task_call.Ends a was_asked ∷ h) = end-within (task.seen t k h) a (not was_asked) (within t k h)
within t k (task_call.Dies a ∷ h) = end-within (task.seen t k h) a false (within t k h)
within t k (task_call.Records a ∷ h) = let o = within t k h in let r = task.seen t k h in if_cases (λ x. Within x) (grant.has r.accepted a) _ _
    (λ e. record { recorded = λ b u. or-here (λ x. grant.has r.accepted x ≡ true) b a (same_attempt b a) (grant.has r.recorded b) refl e (o.recorded b) u; lost = o.lost }) (λ e. o)
within t k (task_call.Recovers a ∷ h) = let o = within t k h in let r = task.seen t k h in if_cases (λ x. Within x) (task.may_recover t r a) _ _
    (λ e. record { recorded = λ b u. u; lost = λ b u. absurd (false≢true (ap (λ l. grant.has l b) (sym (nothing-arrived r.arrived (and_parts (is_none (first_of r.arrived)) _ e).0)) ∙ accepted-arrived t k h b (o.lost b u))) }) (λ e. o)
within t k (task_call.Loses a ∷ h) = let o = within t k h in let r = task.seen t k h in if_cases (λ x. Within x) (not (task.is_reduce a.task.kind) && grant.has r.recorded a) _ _
    (λ e. record { recorded = o.recorded; lost = λ b u. or-here (λ x. grant.has r.accepted x ≡ true) b a (same_attempt b a) (grant.has r.lost b) refl (o.recorded a (and_parts (not (task.is_reduce a.task.kind)) _ e).1) (o.lost b) u }) (λ e. o)

-- ---- lists

pub has-both : (xs ys : List Attempt) (a : Attempt) → has (xs ++ ys) a ≡ (has xs a || has ys a)
has-both [] ys a = refl
has-both (x ∷ xs) ys a = ap (λ b. attempt_eq a x || b) (has-both xs ys a) ∙ assoc (attempt_eq a x) (has xs a) (has ys a)
  where
    assoc : (x y z : Bool) → (x || (y || z)) ≡ ((x || y) || z)
    assoc true y z = refl
    assoc false y z = refl

pub or-none : (x : Bool) → (x || false) ≡ x
or-none true = refl
or-none false = refl

pub or-assoc : (x y z : Bool) → (x || (y || z)) ≡ ((x || y) || z)
or-assoc true y z = refl
or-assoc false y z = refl

pub successes-both : (xs ys : List Record) (a : Attempt) → has (successes (xs ++ ys)) a ≡ (has (successes xs) a || has (successes ys) a)
successes-both [] ys a = refl
successes-both (x ∷ xs) ys a =
    has-both (success_of x) (successes (xs ++ ys)) a ∙ (ap (λ b. has (success_of x) a || b) (successes-both xs ys a)
    ∙ (or-assoc (has (success_of x) a) (has (successes xs) a) (has (successes ys) a) ∙ ap (λ b. b || has (successes ys) a) (sym (has-both (success_of x) (successes xs) a))))

pub no-more : (xs ys : List Record) (a : Attempt) → successes ys ≡ [] → has (successes (xs ++ ys)) a ≡ has (successes xs) a
no-more xs ys a e = successes-both xs ys a ∙ (ap (λ l. has (successes xs) a || has l a) e ∙ or-none (has (successes xs) a))

pub without-task-keep : (u : TaskId) (ps : List Placed) → without_task u ps ≡ keep (λ p. task_eq p.attempt.task u) ps
without-task-keep u [] = refl
without-task-keep u (p ∷ ps) = ap (λ l. if task_eq p.attempt.task u then l else p ∷ l) (without-task-keep u ps)

pub none-without : (t : TaskId) (ps : List Placed) (a : Attempt) → a.task ≡ t → has (attempts_of (without_task t ps)) a ≡ false
none-without t [] a q = refl
none-without t (p ∷ ps) a q = by (task_eq p.attempt.task t) refl (none-without t ps a q)
  where
    by : (b : Bool) → task_eq p.attempt.task t ≡ b → has (attempts_of (without_task t ps)) a ≡ false → has (attempts_of (if b then without_task t ps else p ∷ without_task t ps)) a ≡ false
    by true e rest = rest
    by false e rest = λ i. apart t a p.attempt q e i || rest i

pub once-newest : (t : TaskId) (known : ℕ → ℕ) (rs : List Record) (ps : List Placed) → Once t ps → Once t (newest_maps known rs ps)
unfolding newest_maps
once-newest t known [] ps o = o
once-newest t known (MapSucceeded a n i ∷ rs) ps o = once-newest t known rs _ (by (nat_lt i (known n)))
  where
    rest : Once t (without_task a.task ps)
    rest = subst (λ z. Once t z) (sym (without-task-keep a.task ps)) (once-kept t (λ p. task_eq p.attempt.task a.task) ps o)

    by : (b : Bool) → Once t (if b then without_task a.task ps else record { attempt = a; node = n; incarnation = i } ∷ without_task a.task ps)
    by true = rest
    by false = ((λ e b q. none-without a.task ps b (q ∙ sym (task_eq-true a.task t e))), rest)
once-newest t known (AttemptStarted a n ∷ rs) ps o = once-newest t known rs ps o
once-newest t known (ReduceSucceeded a bytes ∷ rs) ps o = once-newest t known rs ps o
once-newest t known (AttemptFailed a ∷ rs) ps o = once-newest t known rs ps o
once-newest t known (JobUnsuccessful ∷ rs) ps o = once-newest t known rs ps o

-- ---- the relation, over the parts that it speaks of

pub record Maps (t : TaskId) (phase : Phase) (launched : List Launched) (ps : List Placed) (rs : List Attempt) (due tail : List Record) (r_arrived r_accepted r_recorded r_lost : List Attempt) : Type 0 where
  pub early : is_early phase ≡ true → r_arrived ≡ []
  pub stood : Stood t ps rs r_accepted r_recorded r_lost
  pub dues : (a : Attempt) → a.task ≡ t → has (successes due) a ≡ true → grant.has r_accepted a ≡ true
  pub tails : (a : Attempt) → a.task ≡ t → has (successes tail) a ≡ true → grant.has r_accepted a ≡ true
  pub runs : (a : Attempt) → is_some (find_launched launched a) ≡ true → is_reduce a ≡ false → nat_eq a.task.number t.number ≡ true → a.task ≡ t

abbrev pub MapsOf : TaskId → Seen → task.Seen → Type 0
MapsOf t s r = Maps t s.phase s.launched s.standing s.recorded s.due s.tail r.arrived r.accepted r.recorded r.lost

-- the task keeps what it has
pub record Keeps (r x : task.Seen) : Type 0 where
  pub arrived : x.arrived ≡ r.arrived
  pub accepted : x.accepted ≡ r.accepted
  pub recorded : x.recorded ≡ r.recorded
  pub lost : x.lost ≡ r.lost

pub same-keeps : (r : task.Seen) → Keeps r r
same-keeps r = record { arrived = refl; accepted = refl; recorded = refl; lost = refl }

-- so does the master
pub record Quiets (was : Phase) (ls : List Launched) (ps : List Placed) (rs : List Attempt) (ds ts : List Record) (x : Seen) : Type 0 where
  pub phase : is_early x.phase ≡ true → is_early was ≡ true
  pub launched : x.launched ≡ ls
  pub standing : x.standing ≡ ps
  pub recorded : x.recorded ≡ rs
  pub dues : (a : Attempt) → has (successes x.due) a ≡ has (successes ds) a
  pub tail : x.tail ≡ ts

abbrev pub Quiet : Seen → Seen → Type 0
Quiet s x = Quiets s.phase s.launched s.standing s.recorded s.due s.tail x

pub still : (s : Seen) → Quiet s s
still s = record { phase = λ h. h; launched = refl; standing = refl; recorded = refl; dues = λ a. refl; tail = refl }

pub running-late : (p : Phase) → is_running p ≡ true → is_early p ≡ true → ⊥
running-late Phase.Running e f = false≢true f
running-late p e f = false≢true e

pub calm : (t : TaskId) (s x : Seen) (r y : task.Seen) → Quiet s x → Keeps r y → MapsOf t s r → MapsOf t x y
calm t s x r y q e o = record {
  early = λ h. e.arrived ∙ o.early (q.phase h);
  stood = let w = o.stood in
      record {
        stand = λ a u. (λ i. grant.has (e.accepted i) a && not (grant.has (e.lost i) a)) ∙ (w.stand a u ∙ ap (λ l. has (attempts_of l) a) (sym q.standing));
        recs = λ a u. ap (λ l. grant.has l a) e.recorded ∙ (w.recs a u ∙ ap (λ l. has l a) (sym q.recorded));
        once = subst (λ l. Once t l) (sym q.standing) w.once;
        ours = λ z i. w.ours z (subst (λ l. In z l) q.standing i);
      };
  dues = λ a u h. ap (λ l. grant.has l a) e.accepted ∙ o.dues a u (sym (q.dues a) ∙ h);
  tails = λ a u h. ap (λ l. grant.has l a) e.accepted ∙ o.tails a u (ap (λ l. has (successes l) a) (sym q.tail) ∙ h);
  runs = λ a h. o.runs a (ap (λ l. is_some (find_launched l a)) (sym q.launched) ∙ h);
}

pub quiet-end : (cfg : Config) (s : Seen) (a : Attempt) (f : Bool) → Quiet s (after_end cfg s a f)
quiet-end cfg s a f = if_cases (λ x. Quiet s x) (is_live s a) _ _ (λ e. by f) (λ e. still s)
  where
    by : (f : Bool) → Quiet s (ended_by cfg s a f)
    by false = record { phase = λ h. h; launched = refl; standing = refl; recorded = refl; dues = λ b. refl; tail = refl }
    by true = if_cases (λ x. Quiet s x) (nat_le cfg.limit (failures (over_with s a true) a) && not (is_won s (is_reduce a) a.task)) _ _
        (λ e. record { phase = λ h. absurd (false≢true h); launched = refl; standing = refl; recorded = refl; dues = λ b. no-more s.due (AttemptFailed a ∷ JobUnsuccessful ∷ []) b refl; tail = refl })
        (λ e. record { phase = λ h. h; launched = refl; standing = refl; recorded = refl; dues = λ b. no-more s.due (AttemptFailed a ∷ []) b refl; tail = refl })

pub quiet-ended : (cfg : Config) (s : Seen) (d : ContainerId) (l : Option Launched) → Quiet s (after_ended cfg s d l)
quiet-ended cfg s d None = still s
quiet-ended cfg s d (Some l) = quiet-end cfg s l.attempt (not (has_container s.killed d))

pub quiet-there : (n i : ℕ) (ls : List Launched) (s : Seen) → Quiet s (end_there n i ls s)
quiet-there n i [] s = still s
quiet-there n i (l ∷ ls) s = if_cases (λ x. Quiet s x) (nat_eq l.node n && (nat_lt l.incarnation i && is_live s l.attempt)) _ _
    (λ e. quiet-there n i ls (record s { ended = record { attempt = l.attempt; is_failure = false } ∷ s.ended })) (λ e. quiet-there n i ls s)

pub quiet-maps : (n : ℕ) (ls : List Launched) (s : Seen) → Quiet s (end_maps n ls s)
quiet-maps n [] s = still s
quiet-maps n (l ∷ ls) s = if_cases (λ x. Quiet s x) (nat_eq l.node n && (not (is_reduce l.attempt) && is_live s l.attempt)) _ _
    (λ e. quiet-maps n ls (record s { ended = over_with s l.attempt false })) (λ e. quiet-maps n ls s)

pub quiet-ask : (s : Seen) (a : Attempt) → Quiet s (after_ask s a)
quiet-ask s a = if_cases (λ x. Quiet s x) (is_some (find_launched s.launched a) && not (has s.asked a)) _ _
    (λ e. record { phase = λ h. h; launched = refl; standing = refl; recorded = refl; dues = λ b. refl; tail = refl }) (λ e. still s)

pub quiet-known : (s : Seen) (p : Packet) → Quiet s (only_known s p)
quiet-known s (NodeUp n i) = if_cases (λ x. Quiet s x) (can_hear s.phase && nat_lt (s.known n) i) _ _
    (λ e. record { phase = λ h. h; launched = refl; standing = refl; recorded = refl; dues = λ b. refl; tail = refl }) (λ e. still s)
quiet-known s _ = still s

pub quiet-bar : (s : Seen) (a : Option Attempt) → Quiet s (after_bar s a)
quiet-bar s None = still s
quiet-bar s (Some a) = if_cases (λ x. Quiet s x) (is_live s a) _ _
    (λ e. record { phase = λ h. h; launched = refl; standing = refl; recorded = refl; dues = λ b. refl; tail = refl }) (λ e. still s)

pub worked-phase : (s : Seen) (call : Store) → (worked s call).phase ≡ s.phase
worked-phase s (Append_record r) = refl
worked-phase s Flush = refl
worked-phase s Read_history = refl
worked-phase s (Names op) = by (bar_of op)
  where
    by : (a : Option Attempt) → (after_bar s a).phase ≡ s.phase
    by None = refl
    by (Some a) = if_cases (λ (x : Seen). x.phase ≡ s.phase) (is_live s a) _ _ (λ e. refl) (λ e. refl)

-- ---- calls that keep

module _ (t : TaskId) (k : ℕ) where
  pub keep-end : (r : task.Seen) (a : Attempt) (f : Bool) → Keeps r (task.after_end r a f)
  keep-end r a f = if_cases (λ x. Keeps r x) (task.is_live r a) _ _ (λ e. record { arrived = refl; accepted = refl; recorded = refl; lost = refl }) (λ e. same-keeps r)

  pub keep-asks : (r : task.Seen) (a : Attempt) → Keeps r (task.next_seen t k r (task_call.Asks a))
  unfolding task.next_seen
  keep-asks r a = if_cases (λ x. Keeps r x) (grant.has r.arrived a && not (grant.has r.asked a)) _ _ (λ e. record { arrived = refl; accepted = refl; recorded = refl; lost = refl }) (λ e. same-keeps r)

  pub keep-fails : (r : task.Seen) (a : Attempt) → Keeps r (task.next_seen t k r (task_call.Fails a))
  unfolding task.next_seen
  keep-fails r a = keep-end r a true

  pub keep-ends : (r : task.Seen) (a : Attempt) (b : Bool) → Keeps r (task.next_seen t k r (task_call.Ends a b))
  unfolding task.next_seen
  keep-ends r a b = keep-end r a (not b)

  pub keep-dies : (r : task.Seen) (a : Attempt) → Keeps r (task.next_seen t k r (task_call.Dies a))
  unfolding task.next_seen
  keep-dies r a = keep-end r a false

  pub keep-tell : (c : Calls) (u : TaskId) (call : TaskCall) → Keeps (task.seen t k (c t)) (task.next_seen t k (task.seen t k (c t)) call) → Keeps (task.seen t k (c t)) (task.seen t k (tell u call c t))
  unfolding task.seen
  keep-tell c u call p = by (task_eq u t)
    where
      by : (b : Bool) → Keeps (task.seen t k (c t)) (task.seen t k (if b then call ∷ c t else c t))
      by true = p
      by false = same-keeps (task.seen t k (c t))

  pub keep-each : (f : Attempt → TaskCall) → ((r : task.Seen) (a : Attempt) → Keeps r (task.next_seen t k r (f a))) → (xs : List Attempt) (c : Calls) →
      Keeps (task.seen t k (c t)) (task.seen t k (tell_each f xs c t))
  keep-each f q [] c = same-keeps (task.seen t k (c t))
  keep-each f q (a ∷ xs) c = let u = keep-tell c a.task (f a) (q _ a) in let v = keep-each f q xs (tell a.task (f a) c) in
      record { arrived = v.arrived ∙ u.arrived; accepted = v.accepted ∙ u.accepted; recorded = v.recorded ∙ u.recorded; lost = v.lost ∙ u.lost }

  -- what is told of other tasks alone
  pub each-other : (f : Attempt → TaskCall) (xs : List Attempt) (c : Calls) → ((a : Attempt) → a.task ≡ t → has xs a ≡ false) → tell_each f xs c t ≡ c t
  each-other f [] c h = refl
  each-other f (x ∷ xs) c h = each-other f xs (tell x.task (f x) c) (λ a q. more (attempt_eq a x) (has xs a) (h a q)) ∙ by (task_eq x.task t) refl
    where
      more : (c y : Bool) → (c || y) ≡ false → y ≡ false
      more false y e = e
      more true y e = absurd (true≢false e)

      by : (b : Bool) → task_eq x.task t ≡ b → (if b then f x ∷ c t else c t) ≡ c t
      by false e = refl
      by true e = absurd (true≢false (sym (ap (λ b. b || has xs x) (attempt_eq-refl x)) ∙ h x (task_eq-true x.task t e)))

  -- ---- what is taken over

  pub record Taken (xs : List Attempt) (x : task.Seen) : Type 0 where
    pub accepted : (a : Attempt) → a.task ≡ t → grant.has x.accepted a ≡ has xs a
    pub recorded : (a : Attempt) → a.task ≡ t → grant.has x.recorded a ≡ has xs a
    pub lost : (a : Attempt) → a.task ≡ t → grant.has x.lost a ≡ false

  pub recovered : (r : task.Seen) (a : Attempt) (xs : List Attempt) → a.task ≡ t → r.arrived ≡ [] → Taken [] r → ((b : Attempt) → b.task ≡ t → has xs b ≡ false) → Taken (a ∷ xs) (task.after_recovery t k r a)
  recovered r a xs q none o rest = if_cases (λ y. Taken (a ∷ xs) y) (task.may_recover t r a) _ _
      (λ e. record { accepted = λ b u. one b u; recorded = λ b u. one b u; lost = o.lost })
      (λ e. absurd (false≢true (sym e ∙ (λ i. is_none (first_of (none i)) && subst (λ u. same_task a.task u ≡ true) q (task-itself a.task) i))))
    where
      one : (b : Attempt) → b.task ≡ t → (same_attempt b a || false) ≡ (attempt_eq b a || has xs b)
      one b u = let here = eq-same b a in let there = rest b u in λ i. sym here i || sym there i

  pub taken-each : (ps : List Placed) (c : Calls) → Once t ps → (task.seen t k (c t)).arrived ≡ [] → Taken [] (task.seen t k (c t)) →
      Taken (attempts_of ps) (task.seen t k (tell_each (λ a. task_call.Recovers a) (attempts_of ps) c t))
  unfolding task.seen task.next_seen
  taken-each [] c once none o = o
  taken-each (p ∷ ps) c once none o = by (task_eq p.attempt.task t) refl (λ d q. taken-each ps d once.1 (ap (λ h. (task.seen t k h).arrived) q ∙ none) (subst (λ h. Taken [] (task.seen t k h)) (sym q) o))
    where
      by : (b : Bool) → task_eq p.attempt.task t ≡ b → ((d : Calls) → d t ≡ c t → Taken (attempts_of ps) (task.seen t k (tell_each (λ a. task_call.Recovers a) (attempts_of ps) d t))) →
          Taken (p.attempt ∷ attempts_of ps) (task.seen t k (tell_each (λ a. task_call.Recovers a) (attempts_of ps) (tell p.attempt.task (task_call.Recovers p.attempt) c) t))
      by true e go = subst (λ h. Taken (p.attempt ∷ attempts_of ps) (task.seen t k h)) (sym (each-other (λ a. task_call.Recovers a) (attempts_of ps) (tell p.attempt.task (task_call.Recovers p.attempt) c) (once.0 e) ∙ ap (λ b. if b then task_call.Recovers p.attempt ∷ c t else c t) e))
          (recovered (task.seen t k (c t)) p.attempt (attempts_of ps) (task_eq-true p.attempt.task t e) none o (once.0 e))
      by false e go = let x = go (tell p.attempt.task (task_call.Recovers p.attempt) c) (ap (λ b. if b then task_call.Recovers p.attempt ∷ c t else c t) e) in
          record {
            accepted = λ a q. x.accepted a q ∙ ap (λ b. b || has (attempts_of ps) a) (sym (apart t a p.attempt q e));
            recorded = λ a q. x.recorded a q ∙ ap (λ b. b || has (attempts_of ps) a) (sym (apart t a p.attempt q e));
            lost = x.lost;
          }

  -- ---- what is recorded

  pub record Stored (xs : List Attempt) (r x : task.Seen) : Type 0 where
    pub arrived : x.arrived ≡ r.arrived
    pub accepted : x.accepted ≡ r.accepted
    pub lost : x.lost ≡ r.lost
    pub recorded : (b : Attempt) → b.task ≡ t → grant.has x.recorded b ≡ ((has xs b && grant.has r.accepted b) || grant.has r.recorded b)

  pub stored-tell : (c : Calls) (a : Attempt) → Stored (a ∷ []) (task.seen t k (c t)) (task.seen t k (tell a.task (task_call.Records a) c t))
  unfolding task.seen task.next_seen
  stored-tell c a = by (task_eq a.task t) refl
    where
      more : (b : Attempt) (z : Bool) → attempt_eq b a ≡ z → grant.has (task.seen t k (c t)).accepted a ≡ true → (same_attempt b a || grant.has (task.seen t k (c t)).recorded b) ≡ (((attempt_eq b a || false) && grant.has (task.seen t k (c t)).accepted b) || grant.has (task.seen t k (c t)).recorded b)
      more b true e h = let v = subst (λ x. grant.has (task.seen t k (c t)).accepted x ≡ true) (sym (attempt_eq-true b a e)) h in
          (λ i. (sym (eq-same b a) ∙ e) i || grant.has (task.seen t k (c t)).recorded b) ∙ (λ i. ((sym e i || false) && sym v i) || grant.has (task.seen t k (c t)).recorded b)
      more b false e h = (λ i. (sym (eq-same b a) ∙ e) i || grant.has (task.seen t k (c t)).recorded b) ∙ (λ i. ((sym e i || false) && grant.has (task.seen t k (c t)).accepted b) || grant.has (task.seen t k (c t)).recorded b)

      less : (b : Attempt) (z : Bool) → attempt_eq b a ≡ z → grant.has (task.seen t k (c t)).accepted a ≡ false → grant.has (task.seen t k (c t)).recorded b ≡ (((attempt_eq b a || false) && grant.has (task.seen t k (c t)).accepted b) || grant.has (task.seen t k (c t)).recorded b)
      less b true e h = let v = subst (λ x. grant.has (task.seen t k (c t)).accepted x ≡ false) (sym (attempt_eq-true b a e)) h in (λ i. ((sym e i || false) && sym v i) || grant.has (task.seen t k (c t)).recorded b)
      less b false e h = (λ i. ((sym e i || false) && grant.has (task.seen t k (c t)).accepted b) || grant.has (task.seen t k (c t)).recorded b)

      by : (b : Bool) → task_eq a.task t ≡ b → Stored (a ∷ []) (task.seen t k (c t)) (task.seen t k (if b then task_call.Records a ∷ c t else c t))
      by true e = if_cases (λ x. Stored (a ∷ []) (task.seen t k (c t)) x) (grant.has (task.seen t k (c t)).accepted a) _ _
          (λ h. record { arrived = refl; accepted = refl; lost = refl; recorded = λ b p. more b (attempt_eq b a) refl h })
          (λ h. record { arrived = refl; accepted = refl; lost = refl; recorded = λ b p. less b (attempt_eq b a) refl h })
      by false e = record { arrived = refl; accepted = refl; lost = refl; recorded = λ b p. λ i. ((sym (apart t b a p e) i || false) && grant.has (task.seen t k (c t)).accepted b) || grant.has (task.seen t k (c t)).recorded b }

  pub stored-each : (xs : List Attempt) (c : Calls) → Stored xs (task.seen t k (c t)) (task.seen t k (tell_each (λ a. task_call.Records a) xs c t))
  stored-each [] c = record { arrived = refl; accepted = refl; lost = refl; recorded = λ b p. refl }
  stored-each (a ∷ xs) c =
      let u = stored-tell c a in
      let v = stored-each xs (tell a.task (task_call.Records a) c) in
      record {
        arrived = v.arrived ∙ u.arrived;
        accepted = v.accepted ∙ u.accepted;
        lost = v.lost ∙ u.lost;
        recorded = λ b p. v.recorded b p ∙ ((λ i. (has xs b && grant.has (u.accepted i) b) || u.recorded b p i) ∙ join (has xs b) (attempt_eq b a) (grant.has (task.seen t k (c t)).accepted b) (grant.has (task.seen t k (c t)).recorded b));
      }
    where
      join : (h e c r : Bool) → ((h && c) || (((e || false) && c) || r)) ≡ (((e || h) && c) || r)
      join true true true r = refl
      join true true false r = refl
      join true false true r = refl
      join true false false r = refl
      join false true c r = refl
      join false false c r = refl

-- ---- each step
