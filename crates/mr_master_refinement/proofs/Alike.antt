-- What a call changes of the view of a task is told by the view.
use Rattle.std.proofs.Common.{ℕ, ◌+◌, ◌≡◌, refl, sym, ◌∙◌, ap, subst, Bool, true, false, ◌&&◌, ◌||◌, not, [], ◌∷◌, ◌++◌, filter, if◌then◌else◌, is_none, count_by}
use Rattle.std.specs.List.{list_any}
use Rattle.mr_ids.specs.Attempt.{Attempt}
use Rattle.mr_ids.specs.Same.{same_task}
use Rattle.mr_ids.specs.declared.id.TaskId.{TaskId}
use Rattle.mr_ids.specs.declared.id.TaskKind.{TaskKind}
use Rattle.mr_ids.specs.declared.id.TaskKind.TheVariants.{Map, Reduce}
use Rattle.mr_grant.specs.Attempts as grant
use Rattle.mr_grant.specs.Attempts.{same_attempt, first_of, is_first}
use Rattle.mr_grant.proofs.Same.{same-is}
use Rattle.mr_task.specs.Calls.{TaskCall, Launches, Hears, Asks, Reports, Fails, Ends, Dies, Records, Recovers, Loses}
use Rattle.mr_task.specs.Readings as task
use Rattle.mr_task.proofs.Same.{same-sym}
use Rattle.mr_master_refinement.specs.Points.{View, view, Alike}
use Rattle.mr_master_refinement.specs.Alike.{TasksStayAlike}

abbrev pub live_in : View → Attempt → Bool
live_in v a = grant.has v.arrived a && (not (grant.has v.accepted a) && not (v.over a))

abbrev pub won_in : View → Bool
won_in v = list_any (λ a. grant.has v.accepted a && not (v.lost a)) v.arrived

abbrev pub accepts_of : TaskKind → View → Attempt → Bool
accepts_of Reduce v a = is_first (filter (λ b. not (v.over b)) v.asked) a
accepts_of Map v a = not (v.over a) && not (won_in v)

abbrev pub accepts_in : View → Attempt → Bool
accepts_in v a = grant.has v.arrived a && (not (grant.has v.accepted a) && accepts_of a.task.kind v a)

abbrev pub with_end : View → Attempt → Bool → View
with_end v a f = record v { over = λ b. same_attempt b a || v.over b; failed = λ b. if same_attempt b a then f else v.failed b }

abbrev pub ended_in : View → Attempt → Bool → View
ended_in v a f = if live_in v a then with_end v a f else v

abbrev with_loss : View → Attempt → View
with_loss v a = record v { lost = λ b. same_attempt b a || v.lost b }

abbrev pub can_lose : View → Attempt → Bool
can_lose v a = not (task.is_reduce a.task.kind) && grant.has v.recorded a

abbrev pub lost_in : View → Attempt → View
lost_in v a = if can_lose v a then with_loss v a else v

abbrev with_launch : TaskId → ℕ → View → View
with_launch t k v = record v { arrived = v.arrived ++ record { task = t; number = task.first_attempt_number k + v.numbered } ∷ []; numbered = v.numbered + 1 }

abbrev recovered_in : TaskId → ℕ → View → Attempt → View
recovered_in t k v a =
    if is_none (first_of v.arrived) && same_task a.task t
    then record v { arrived = a ∷ []; accepted = a ∷ []; recorded = a ∷ []; numbered = task.numbered_up_to k a } else v

unfoldable pub next_in : TaskId → ℕ → View → TaskCall → View
next_in t k v Launches = if is_none (task.refusal_of (won_in v) (count_by (live_in v) v.arrived) v.numbered) then with_launch t k v else v
next_in t k v (Hears a) = v
next_in t k v (Asks a) = if grant.has v.arrived a && not (grant.has v.asked a) then record v { asked = v.asked ++ a ∷ [] } else v
next_in t k v (Reports a) = if accepts_in v a then record v { accepted = a ∷ v.accepted } else v
next_in t k v (Fails a) = ended_in v a true
next_in t k v (Ends a was_asked) = ended_in v a (not was_asked)
next_in t k v (Dies a) = ended_in v a false
next_in t k v (Records a) = if grant.has v.accepted a then record v { recorded = a ∷ v.recorded } else v
next_in t k v (Recovers a) = recovered_in t k v a
next_in t k v (Loses a) = lost_in v a

view-if : (c : Bool) (x y : task.Seen) → view (if c then x else y) ≡ (if c then view x else view y)
view-if true x y = refl
view-if false x y = refl

pub accepts-is : (kind : TaskKind) (r : task.Seen) (a : Attempt) → task.may_accept_of kind r a ≡ accepts_of kind (view r) a
accepts-is Reduce r a = refl
accepts-is Map r a = refl

pub next-is : (t : TaskId) (k : ℕ) (r : task.Seen) (call : TaskCall) → view (task.next_seen t k r call) ≡ next_in t k (view r) call
unfolding task.next_seen next_in
next-is t k r Launches = view-if (is_none (task.launch_refusal r)) (task.after_launch t k r) r
next-is t k r (Hears a) = refl
next-is t k r (Asks a) = view-if (grant.has r.arrived a && not (grant.has r.asked a)) (record r { asked = r.asked ++ a ∷ [] }) r
next-is t k r (Reports a) = view-if (task.may_accept r a) (record r { accepted = a ∷ r.accepted; is_fixed = task.is_reduce a.task.kind || r.is_fixed }) r
    ∙ ap (λ (b : Bool). if grant.has r.arrived a && (not (grant.has r.accepted a) && b) then record (view r) { accepted = a ∷ r.accepted } else view r) (accepts-is a.task.kind r a)
next-is t k r (Fails a) = view-if (task.is_live r a) (record r { ended = record { attempt = a; is_failure = true } ∷ r.ended }) r
next-is t k r (Ends a was_asked) = view-if (task.is_live r a) (record r { ended = record { attempt = a; is_failure = not was_asked } ∷ r.ended }) r
next-is t k r (Dies a) = view-if (task.is_live r a) (record r { ended = record { attempt = a; is_failure = false } ∷ r.ended }) r
next-is t k r (Records a) = view-if (grant.has r.accepted a) (record r { recorded = a ∷ r.recorded }) r
next-is t k r (Recovers a) = view-if (task.may_recover t r a) (record r { arrived = a ∷ []; accepted = a ∷ []; recorded = a ∷ []; numbered = task.numbered_up_to k a }) r
next-is t k r (Loses a) = view-if (not (task.is_reduce a.task.kind) && grant.has r.recorded a) (record r { lost = a ∷ r.lost }) r

pub alike-next : (t : TaskId) (k : ℕ) (r x : task.Seen) (call : TaskCall) → Alike r x → Alike (task.next_seen t k r call) (task.next_seen t k x call)
alike-next t k r x call e = next-is t k x call ∙ (ap (λ v. next_in t k v call) e ∙ sym (next-is t k r call))

-- ---- what changes nothing

not-ended : (v : View) (a : Attempt) (f : Bool) → live_in v a ≡ false → ended_in v a f ≡ v
not-ended v a f e = ap (λ (b : Bool). if b then with_end v a f else v) e

not-lost : (v : View) (a : Attempt) → can_lose v a ≡ false → lost_in v a ≡ v
not-lost v a e = ap (λ (b : Bool). if b then with_loss v a else v) e

or-same : (b c : Bool) → (b ≡ true → c ≡ true) → (b || c) ≡ c
or-same true c f = sym (f refl)
or-same false c f = refl

lost-twice : (v : View) (a : Attempt) → v.lost a ≡ true → lost_in v a ≡ v
lost-twice v a e = by (can_lose v a)
  where
    known : (b : Attempt) → (same_attempt b a || v.lost b) ≡ v.lost b
    known b = or-same (same_attempt b a) (v.lost b) (λ q. subst (λ x. v.lost x ≡ true) (sym (same-is b a q)) e)

    by : (c : Bool) → (if c then with_loss v a else v) ≡ v
    by true = λ i. record v { lost = λ b. known b i }
    by false = refl

-- ---- in any order

live-kept : (v : View) (a b : Attempt) → live_in (lost_in v b) a ≡ live_in v a
live-kept v a b = by (can_lose v b)
  where
    by : (c : Bool) → live_in (if c then with_loss v b else v) a ≡ live_in v a
    by true = refl
    by false = refl

lose-kept : (v : View) (a b : Attempt) → can_lose (ended_in v a false) b ≡ can_lose v b
lose-kept v a b = by (live_in v a)
  where
    by : (c : Bool) → can_lose (if c then with_end v a false else v) b ≡ can_lose v b
    by true = refl
    by false = refl

orders : (v : View) (a b : Attempt) → ended_in (lost_in v b) a false ≡ lost_in (ended_in v a false) b
orders v a b =
    ap (λ (c : Bool). if c then with_end (lost_in v b) a false else lost_in v b) (live-kept v a b)
    ∙ (by (live_in v a) (can_lose v b) ∙ sym (ap (λ (c : Bool). if c then with_loss (ended_in v a false) b else ended_in v a false) (lose-kept v a b)))
  where
    by : (x y : Bool) → (if x then with_end (if y then with_loss v b else v) a false else (if y then with_loss v b else v))
        ≡ (if y then with_loss (if x then with_end v a false else v) b else (if x then with_end v a false else v))
    by true true = refl
    by true false = refl
    by false true = refl
    by false false = refl

or-swap : (x y z : Bool) → (x || (y || z)) ≡ (y || (x || z))
or-swap true true z = refl
or-swap true false z = refl
or-swap false true z = refl
or-swap false false z = refl

no-failure : (x y z : Bool) → (if x then false else (if y then false else z)) ≡ (if y then false else (if x then false else z))
no-failure true true z = refl
no-failure true false z = refl
no-failure false true z = refl
no-failure false false z = refl

-- another attempt lives on
lives-on : (v : View) (a b : Attempt) → same_attempt b a ≡ false → live_in (ended_in v a false) b ≡ live_in v b
lives-on v a b e = by (live_in v a)
  where
    by : (c : Bool) → live_in (if c then with_end v a false else v) b ≡ live_in v b
    by true = ap (λ o. grant.has v.arrived b && (not (grant.has v.accepted b) && not (o || v.over b))) e
    by false = refl

swaps : (v : View) (a b : Attempt) → ended_in (ended_in v b false) a false ≡ ended_in (ended_in v a false) b false
swaps v a b = apart (same_attempt a b) refl
  where
    both : View → Attempt → Attempt → Bool → Bool → View
    both v a b x y = if x then with_end (if y then with_end v b false else v) a false else (if y then with_end v b false else v)

    by : (x y : Bool) → both v a b x y ≡ both v b a y x
    by true true = λ i. record v { over = λ c. or-swap (same_attempt c a) (same_attempt c b) (v.over c) i; failed = λ c. no-failure (same_attempt c a) (same_attempt c b) (v.failed c) i }
    by true false = refl
    by false true = refl
    by false false = refl

    apart : (c : Bool) → same_attempt a b ≡ c → ended_in (ended_in v b false) a false ≡ ended_in (ended_in v a false) b false
    apart true e = let q = same-is a b e in subst (λ z. ended_in (ended_in v z false) a false ≡ ended_in (ended_in v a false) z false) q refl
    apart false e =
        ap (λ (x : Bool). if x then with_end (ended_in v b false) a false else ended_in v b false) (lives-on v b a e)
        ∙ (by (live_in v a) (live_in v b)
        ∙ sym (ap (λ (x : Bool). if x then with_end (ended_in v a false) b false else ended_in v a false) (lives-on v a b (same-sym b a ∙ e))))

-- ---- the law

two : (t : TaskId) (k : ℕ) (r : task.Seen) (c d : TaskCall) → view (task.next_seen t k (task.next_seen t k r c) d) ≡ next_in t k (next_in t k (view r) c) d
two t k r c d = next-is t k (task.next_seen t k r c) d ∙ ap (λ v. next_in t k v d) (next-is t k r c)

pub tasks_stay_alike : TasksStayAlike
unfolding next_in
tasks_stay_alike = record {
  same = alike-next;
  heard = λ t k r a. next-is t k r (Hears a);
  failed = λ t k r a e. next-is t k r (Fails a) ∙ not-ended (view r) a true e;
  ended = λ t k r a was_asked e. next-is t k r (Ends a was_asked) ∙ not-ended (view r) a (not was_asked) e;
  died = λ t k r a e. next-is t k r (Dies a) ∙ not-ended (view r) a false e;
  lost = λ t k r a e. next-is t k r (Loses a) ∙ not-lost (view r) a e;
  lost_again = λ t k r a e. next-is t k r (Loses a) ∙ lost-twice (view r) a e;
  any_order = λ t k r a b. two t k r (Loses b) (Dies a) ∙ (orders (view r) a b ∙ sym (two t k r (Dies a) (Loses b)));
  deaths = λ t k r a b. two t k r (Dies b) (Dies a) ∙ (swaps (view r) a b ∙ sym (two t k r (Dies a) (Dies b)));
}
