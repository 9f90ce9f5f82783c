-- A master takes a step: what is planned before, and what the parts stand for then; and the same of the answer of its store call.
use Rattle.std.proofs.Common.{◌≡◌, ◌≤◌, ◌<◌, ℕ, ◌+◌, refl, sym, ◌∙◌, ap, subst, Bool, true, false, ◌&&◌, List, ◌++◌, Some, None, if◌then◌else◌, is_some, nat_eq, nat_le, length, arith, Result, Ok, Err, IsOk, IfOk, OnOk, OnErr, IsErrAnd, Option}
use Rattle.std.proofs.lemmas.Bool.{le-leb, lt-leb}
use Rattle.std.proofs.lemmas.Bool.Decides.{nat_tests}
use Rattle.std.proofs.lemmas.Result.{err_from_is_err_and}
use Rattle.std.specs.Option.{OnSome}
use Rattle.mr_names.specs.Calls as names
use Rattle.mr_history.specs.State as history
use Rattle.mr_history.specs.Calls as segments
use Rattle.mr_packet.specs.Bag.{Held}
use Rattle.mr_packet.specs.declared.packet.Envelope.{Envelope}
use Rattle.mr_packet.specs.declared.bag.TheConstants.{MAX_PACKETS}
use Rattle.mr_master_model.specs.declared.store.StoreAnswer.{StoreAnswer}
use Rattle.mr_master_model.specs.Next as next
use Rattle.mr_master_model.specs.Past as machine
use Rattle.mr_master.specs.State as master
use Rattle.mr_master.specs.Prepared.{Prepared, PlansFor}
use Rattle.mr_world_model.specs.Packets.{Config, Store}
use Rattle.mr_world_model.specs.Duties.{Asks}
use Rattle.mr_world_model.specs.World.{World, Weather, Duty, call_of, duty, duty_made, is_applied, reply_of, reply_under}
use Rattle.mr_world_model.specs.Effect.{effect, not_now}
use Rattle.mr_world_model.specs.Sending.{sent}
use Rattle.mr_world_model.specs.Stores.{call_of_history, HasRoom}
use Rattle.mr_world_model.specs.Stored.{StoresStand, left_in}
use Rattle.mr_master_refinement.specs.Steps.{setting, steps, answer_of}
use Rattle.mr_master_refinement.specs.Stores.{CallAgrees, told_of, told_in}
use Rattle.mr_master_refinement.proofs.Stores.{store_calls_agree, masters_send}
use Rattle.mr_world_state.specs.declared.fault.WorldFault.{WorldFault}
use Rattle.mr_world_state.specs.declared.fault.WorldFault.TheVariants as fault
use Rattle.mr_world_state.specs.declared.masters.Masters.{Masters}
use Rattle.mr_world_state.specs.declared.parts.Parts.{Parts}
use Rattle.mr_world_state.specs.inner.Duties.{IsPlannedAt, PlansAnswer, says_then, fits_then}
use Rattle.mr_world_state.specs.Machines.{master_of}
use Rattle.mr_world_state.specs.inner.Masters.{Returns}
use Rattle.mr_world_state.specs.Limits.{within, fits_bag, fits_call, fits_store, launch_count}
use Rattle.mr_world_state.specs.Standing.{Standing, Reached, IsTaken, Refuses}
use Rattle.mr_world_state.proofs.Refusals.{refuses-full, refuses-memory}
use Rattle.mr_world_state.proofs.Mastering.{goes-on, is-generation}
use Rattle.mr_world_state.proofs.Stepping.{masters-step, masters-still, launches-add, other-steps}

-- ---- a step of a master

-- what is planned tells what it says
pub says-planned : (m : master.Master) (step : machine.Step) (p : Prepared) → PlansFor m step p → master.Answers m (λ w past. next.sent w past step) p.packets
says-planned m step p plans w past stands = plans.sent w (next.seen w past) stands

-- room was made for the step, then it was taken
pub still-stands : (a b c : master.Master) (step : machine.Step) → master.StandsStill a b → master.Stands b step c → master.Stands a step c
still-stands a b c step still stands w past at = stands w past (still w past at)

pub same-stands : (m : master.Master) → master.StandsStill m m
same-stands m w past at = at

-- ---- the machine is lent

-- what its borrower leaves stands at its place
pub lent : {A : Type 0} {P : Type 0} (o : Option A) (x : A) → o ≡ Some x → OnSome o P → P
lent {A} {P} o x e p = subst (λ (z : Option A). OnSome z P) e p

-- it is the machine that this world has alone
pub own-is : {A E P : Type 0} (r : Result A E) (x : A) → r ≡ Ok x → (IsOk r → P) → P
own-is r x e p = p (subst IsOk (sym e) refl)

-- where it is refused
pub own-refused : {A E P : Type 0} (r : Result A E) (f : E) → r ≡ Err f → OnErr r P → P
own-refused {A} {E} {P} r f e p = subst (λ (x : Result A E). OnErr x P) e p

-- ---- parts in which the machine stands for what it stood for

pub stands-still : (p : Parts) (w : World) (k : ℕ) (masters : Masters) (bag : Held) (before after : master.Master) → Standing p w → master_of p.masters k ≡ Some before → Returns p.masters k after masters → master.StandsStill before after
    → bag.packets ≡ p.bag.packets → Standing (record p { masters = masters; bag = bag }) w
stands-still p w k masters bag before after s at back still b = record {
  reached = s.reached;
  dest = s.dest;
  stores = s.stores;
  bag = b ∙ s.bag;
  living = s.living;
  nodes = s.nodes;
  masters = masters-still p.config w p.masters masters k before after s.masters at back still;
  launched = s.launched;
}

-- ---- an answer is planned

says-these : (p : Parts) (w : World) (k : ℕ) (a : StoreAnswer) (r : Prepared) → Standing p w → IsPlannedAt p.masters k (machine.Answered a) r → r.packets ≡ says_then p.config w k a
says-these p w k a r s i = i.planned.sent (setting p.config k) (next.seen (setting p.config k) (steps (w.master_past k))) (s.masters.machines k i.machine i.at)

fits : (p : Parts) (w : World) (k : ℕ) (a : StoreAnswer) (r : Prepared) → Standing p w → r.packets ≡ says_then p.config w k a → length p.bag.packets + length r.packets ≤ MAX_PACKETS → fits_then p.config w k a ≡ true
fits p w k a r s is room = le-leb _ _ (subst (λ (es : List Envelope). length w.bag + length es ≤ MAX_PACKETS) is (subst (λ (es : List Envelope). length es + length r.packets ≤ MAX_PACKETS) s.bag room))

fits-not : (p : Parts) (w : World) (k : ℕ) (a : StoreAnswer) (r : Prepared) → Standing p w → r.packets ≡ says_then p.config w k a → MAX_PACKETS < length p.bag.packets + length r.packets → fits_then p.config w k a ≡ false
fits-not p w k a r s is many = lt-leb _ _ (subst (λ (es : List Envelope). MAX_PACKETS < length w.bag + length es) is (subst (λ (es : List Envelope). MAX_PACKETS < length es + length r.packets) s.bag many))

err-planned : (p : Parts) (k : ℕ) (a : StoreAnswer) (x : Result Prepared WorldFault) (f : WorldFault) → IsErrAnd x (λ g. g ≡ f) → ((w : World) → Standing p w → Refuses None (fits_then p.config w k a) true f) → PlansAnswer p k a x
err-planned p k a x f g why = let z = err_from_is_err_and x g in subst (λ (y : Result Prepared WorldFault). PlansAnswer p k a y) (sym z.1) (subst (λ e. PlansAnswer p k a (Err e)) (sym z.2) why)

pub no-memory : (p : Parts) (k : ℕ) (a : StoreAnswer) (x : Result Prepared WorldFault) → IsErrAnd x (λ g. g ≡ fault.NoMemory) → PlansAnswer p k a x
no-memory p k a x g = err-planned p k a x fault.NoMemory g (λ w s. refuses-memory _ refl refl)

pub no-room : (p : Parts) (k : ℕ) (a : StoreAnswer) (r : Prepared) (x : Result Prepared WorldFault) (f : WorldFault) → IsPlannedAt p.masters k (machine.Answered a) r
    → (f ≡ fault.Full) × (MAX_PACKETS < length p.bag.packets + length r.packets) → IsErrAnd x (λ g. g ≡ f) → PlansAnswer p k a x
no-room p k a r x f i full g = err-planned p k a x f g (λ w s. subst (λ e. Refuses None (fits_then p.config w k a) true e) (sym full.0) (refuses-full _ refl (fits-not p w k a r s (says-these p w k a r s i) full.1)))

pub has-room : (p : Parts) (k : ℕ) (a : StoreAnswer) (r : Prepared) → IsPlannedAt p.masters k (machine.Answered a) r → length p.bag.packets + length r.packets ≤ MAX_PACKETS → PlansAnswer p k a (Ok r)
has-room p k a r i room = (i, λ w s. let is = says-these p w k a r s i in (is, fits p w k a r s is room))

-- ---- the event

says : {cfg : Config} {w : World} (k : ℕ) (f : Weather) (call : Store) → Reached cfg w → duty cfg w k ≡ Some call → not_now cfg w (Duty k f) ≡ None
    → next.sent (setting cfg k) (steps (w.master_past k)) (machine.Answered (answer_of call (reply_under f (reply_of w k call)))) ≡ sent cfg w (Duty k f)
says {cfg} {w} k f call r = subst (λ (u : World). duty cfg u k ≡ Some call → not_now cfg u (Duty k f) ≡ None
    → next.sent (setting cfg k) (steps (u.master_past k)) (machine.Answered (answer_of call (reply_under f (reply_of u k call)))) ≡ sent cfg u (Duty k f)) r.is
    (masters_send.calls cfg (within cfg) r.events k f call)

pub says-then : {cfg : Config} {w : World} (k : ℕ) (f : Weather) (call : Store) (a : StoreAnswer) (n : names.State) (h : history.State) → Reached cfg w → duty cfg w k ≡ Some call → not_now cfg w (Duty k f) ≡ None → CallAgrees cfg w k f call a n h
    → says_then cfg w k (told_in f a) ≡ sent cfg w (Duty k f)
says-then {cfg} {w} k f call a n h r d now c = ap (λ x. says_then cfg w k x) (sym c.told) ∙ says k f call r d now

-- Once the call was made, or not, and the master heard its answer
pub told-stands : (p : Parts) (w : World) (k : ℕ) (f : Weather) (call : Store) (a : StoreAnswer) (r : Prepared) (n : names.State) (h : history.State) (masters : Masters) (bag : Held) (before after : master.Master) → Standing p w → IsTaken p.config w (Duty k f)
    → duty p.config w k ≡ Some call → CallAgrees p.config w k f call a n h → r.packets ≡ says_then p.config w k (told_in f a) → master_of p.masters k ≡ Some before → Returns p.masters k after masters → master.Stands before (machine.Answered (told_in f a)) after
    → bag.packets ≡ p.bag.packets ++ r.packets → Standing (record p { names = n; history = h; masters = masters; bag = bag }) (effect p.config w (Duty k f))
told-stands p w k f call a r n h masters bag before after s t d c is at back stands sends = let of = is-generation p w k s (ap is_some at) in
    goes-on p w (Duty k f) n h bag masters p.launched s t refl c.left
    (masters-step p.config w (Duty k f) k (Asks call (reply_under f (reply_of w k call))) p.masters masters before after s.masters at back refl c.moves
    (subst (λ x. master.Stands before (machine.Answered x) after) (sym c.told) stands))
    (let same : launch_count (effect p.config w (Duty k f)) ≡ 0 + launch_count w = launches-add w.master_past (effect p.config w (Duty k f)).master_past k 0 of.0 c.moves.others (other-steps c.moves refl) 1000 of.1 in omega (arith, same, s.launched))
    (sends ∙ ap (λ es. p.bag.packets ++ es) (is ∙ says-then k f call a n h s.reached d t.now c))

-- ---- when it can

pub allowed : (cfg : Config) (w : World) (k : ℕ) (f : Weather) (call : Store) → w.is_master k ≡ true → duty cfg w k ≡ Some call → not_now cfg w (Duty k f) ≡ None
unfolding not_now
allowed cfg w k f call alive d = let due : is_some (duty cfg w k) ≡ true = ap is_some d in rw (alive, due) refl

pub limit-is : (cfg : Config) (w : World) (k : ℕ) (f : Weather) (call : Store) → duty cfg w k ≡ Some call
    → within cfg w (Duty k f) ≡ ((if is_applied w k f then fits_store w k call else true) && fits_bag cfg w (Duty k f))
unfolding within call_of
limit-is cfg w k f call d = ap (λ o. fits_call w (duty_made k f o) && fits_bag cfg w (Duty k f)) d

-- of a call that passes no limit of its store, the packets alone
pub bag-alone : (cfg : Config) (w : World) (k : ℕ) (f : Weather) (call : Store) (a : StoreAnswer) (n : names.State) (h : history.State) → Reached cfg w → w.is_master k ≡ true → duty cfg w k ≡ Some call
    → (if is_applied w k f then fits_store w k call else true) ≡ true → CallAgrees cfg w k f call a n h → within cfg w (Duty k f) ≡ fits_then cfg w k (told_in f a)
bag-alone cfg w k f call a n h r alive d fits c = limit-is cfg w k f call d ∙ (ap (λ b. b && fits_bag cfg w (Duty k f)) fits
    ∙ ap (λ es. nat_le (length w.bag + length es) MAX_PACKETS) (sym (says-then k f call a n h r d (allowed cfg w k f call alive d) c)))

-- ---- a call of the history in a world that is reached

pub history-agrees : {cfg : Config} {w : World} (s : names.State) (h : history.State) (k : ℕ) (f : Weather) (call : Store) (q : segments.Call) → Reached cfg w → StoresStand s h w → w.is_master k ≡ true → duty cfg w k ≡ Some call
    → call_of_history call ≡ Some q → (is_applied w k f ≡ true → HasRoom h k call) → CallAgrees cfg w k f call (told_of q (segments.call_of h k q).0) s (left_in f h (segments.call_of h k q).1)
history-agrees {cfg} {w} s h k f call q r = subst (λ (u : World). StoresStand s h u → u.is_master k ≡ true → duty cfg u k ≡ Some call
    → call_of_history call ≡ Some q → (is_applied u k f ≡ true → HasRoom h k call) → CallAgrees cfg u k f call (told_of q (segments.call_of h k q).0) s (left_in f h (segments.call_of h k q).1)) r.is
    (store_calls_agree.history cfg (within cfg) r.events s h k f call q)
