-- What an event leaves of the job history's bytes.
use Rattle.std.proofs.Common.{◌≡◌, ℕ, refl, sym, ◌∙◌, ap, subst, Option, Some, None, Result, Ok, Err, OnOk, OnErr, true, false, Bool, nat_lt, if◌then◌else◌}
use Rattle.std.specs.Option.{option_and_then, option_map}
use Rattle.mr_history.specs.declared.fault.HistoryFault.TheVariants as history_fault
use Rattle.mr_history.specs.State.{State}
use Rattle.mr_names.specs.Calls as names
use Rattle.mr_history.specs.Calls as segments
use Rattle.mr_history.specs.Laws.{Calls}
use Rattle.mr_master_model.specs.declared.store.StoreCall.{StoreCall}
use Rattle.mr_master_model.specs.declared.store.StoreAnswer.{StoreAnswer}
use Rattle.mr_world_model.specs.Packets.{Store, Read_history}
use Rattle.mr_world_model.specs.World.{World, Event, Duty, Weather, Calm, Unavailable, Unanswered, duty}
use Rattle.mr_world_model.specs.Stored.{left_in}
use Rattle.mr_world_model.specs.Stores.{call_of_history}
use Rattle.mr_master_refinement.specs.Steps.{store_call}
use Rattle.mr_world_state.specs.declared.fault.WorldFault.{WorldFault}
use Rattle.mr_world_state.specs.declared.parts.Parts.{Parts}
use Rattle.mr_world_state.specs.Histories.{LeavesHistory, change_of, changed, if_made}
use Rattle.mr_world_state.specs.Standing.{Standing}
use Rattle.mr_world_state.specs.inner.Asking.{HasAsked, IsForeseen, history_after}

-- ---- an event, by what its call promises

pub leaves : {A : Type 0} {e f : Event} (p q : Parts) (r : Result A WorldFault) → e ≡ f → OnOk r ((w : World) → Standing p w → q.history ≡ changed p.history (change_of p.config w f)) → OnErr r (q.history ≡ p.history) → LeavesHistory p e r q
leaves {A} {e} {f} p q r is taken refused = subst (λ x. LeavesHistory {A = A} p x r q) (sym is) (by r taken refused)
  where
    by : (z : Result A WorldFault) → OnOk z ((w : World) → Standing p w → q.history ≡ changed p.history (change_of p.config w f)) → OnErr z (q.history ≡ p.history) → LeavesHistory {A = A} p f z q
    by (Ok a) taken refused = taken
    by (Err g) taken refused = refused

-- one that changes none of them
pub stays : {A : Type 0} {e f : Event} (p q : Parts) (r : Result A WorldFault) → e ≡ f → ((w : World) → change_of p.config w f ≡ None) → q.history ≡ p.history → LeavesHistory p e r q
stays {A} {e} {f} p q r is none same = leaves p q r is (ok r) (err r)
  where
    ok : (z : Result A WorldFault) → OnOk z ((w : World) → Standing p w → q.history ≡ changed p.history (change_of p.config w f))
    ok (Ok a) = λ w s. same ∙ ap (changed p.history) (sym (none w))
    ok (Err g) = tt

    err : (z : Result A WorldFault) → OnErr z (q.history ≡ p.history)
    err (Ok a) = tt
    err (Err g) = same

-- one that changes them so in every world
pub changes : {A : Type 0} {e f : Event} {h : State} (p q : Parts) (r : Result A WorldFault) → e ≡ f → ((w : World) → changed p.history (change_of p.config w f) ≡ h) → OnOk r (q.history ≡ h) → OnErr r (q.history ≡ p.history) → LeavesHistory p e r q
changes {A} {e} {f} {h} p q r is by taken refused = leaves p q r is (ok r taken) refused
  where
    ok : (z : Result A WorldFault) → OnOk z (q.history ≡ h) → OnOk z ((w : World) → Standing p w → q.history ≡ changed p.history (change_of p.config w f))
    ok (Ok a) to = λ w s. to ∙ sym (by w)
    ok (Err g) to = tt

-- ---- a master's duty

pub read-left : (h : State) (k : ℕ) → (segments.call_of h k segments.Read).1 ≡ h
read-left h k = by (nat_lt k h.fence)
  where
    by : (b : Bool) → (segments.settled (if b then Some (history_fault.Superseded h.fence) else None) h k segments.Read).1 ≡ h
    by true = refl
    by false = refl

store-left : (h : State) (k : ℕ) (f : Weather) (x : Store) → left_in f h (history_after h k (store_call x)) ≡ changed h (if_made f (option_map (Calls k) (call_of_history x)))
store-left h k Unavailable x = refl
store-left h k Calm Read_history = sym (read-left h k)
store-left h k Unanswered Read_history = sym (read-left h k)
store-left h k _ _ = refl

call-left : (h : State) (k : ℕ) (f : Weather) (o : Option Store) (c : StoreCall) → option_map store_call o ≡ Some c → left_in f h (history_after h k c) ≡ changed h (if_made f (option_map (Calls k) (option_and_then call_of_history o)))
call-left h k f (Some x) c e = subst (λ (z : StoreCall). left_in f h (history_after h k z) ≡ changed h (if_made f (option_map (Calls k) (call_of_history x)))) (same (store_call x) c e) (store-left h k f x)
  where
    same : (a b : StoreCall) → Some a ≡ Some b → a ≡ b
    same a b e = cc
call-left h k f None c e = cc

pub called : (p : Parts) (m : names.State) (g : State) (k : ℕ) (f : Weather) (c : StoreCall) (a : StoreAnswer) → IsForeseen p k f c a → HasAsked p.names p.history k f c m g → (w : World) → Standing p w → g ≡ changed p.history (change_of p.config w (Duty k f))
called p m g k f c a i h w s = h.of_history ∙ call-left p.history k f (duty p.config w k) c (i.due.due w s).due
