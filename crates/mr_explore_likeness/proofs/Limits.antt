-- What one of two alike worlds takes, the other takes too, if it has no more packets and launches. What an event changes of the history is the same in both.
use Rattle.std.proofs.Common.{ℕ, ◌+◌, ◌-◌, ◌^◌, ◌≤◌, ◌≡◌, refl, sym, ◌∙◌, ap, ap₂, subst, arith, true, ◌&&◌, ◌||◌, not, List, [], ◌∷◌, Option, Some, None, is_some, length, nat_lt, nat_le, if◌then◌else◌}
use Rattle.std.proofs.lemmas.Bool.{and_parts, ltb-true, lt-ltb, leb-true, le-leb}
use Rattle.std.specs.Cmp.{Equal-is, tied_itself, both_ways}
use Rattle.std.specs.FinSet as set
use Rattle.std.specs.List.{list_any}
use Rattle.std.specs.Option.{option_and_then, option_map}
use Rattle.std.specs.Ordering.{eq_by_cmp, is_eq}
use Rattle.mr_names.specs.Attempts.{attempt_cmp, attempt_total, attempt_exact}
use Rattle.mr_names.specs.Calls.{passes_limit}
use Rattle.mr_names.specs.declared.op.Caller.{Caller}
use Rattle.mr_history.specs.declared.segment.TheConstants.{MAX_SEGMENT_LEN}
use Rattle.mr_history.specs.Laws.{Calls}
use Rattle.mr_packet.specs.declared.bag.TheConstants.{MAX_PACKETS}
use Rattle.mr_world_model.specs.Ids.{Attempt, ContainerId, attempt_eq}
use Rattle.mr_world_model.specs.Content.{refusal}
use Rattle.mr_world_model.specs.Packets.{Config, Store, Names, Append_record, Flush, Read_history}
use Rattle.mr_world_model.specs.Pasts.{Place, incarnation_of}
use Rattle.mr_world_model.specs.Hearing.{has}
use Rattle.mr_world_model.specs.World.{World, Event, Weather, Calm, Unavailable, Unanswered, Duty, LaunchOn, Deliver, ContainerStep, Compute, NodeRestart, Made, attempt_of, call_of, caller_of, duty, duty_made, is_applied, is_stopped, op_made, op_of, unless_stopped, wish_of}
use Rattle.mr_world_model.specs.Sending.{sent}
use Rattle.mr_world_model.specs.Effect.{NoMaster, NoDuty, NoContainer, WrongWish, NoStoreCall, NotBlocks, NoNode, is_blocks, is_calm, not_now, unless, wants_compute}
use Rattle.mr_world_model.specs.Claims.{world_of}
use Rattle.mr_world_model.specs.Actors.{ContainerSays}
use Rattle.mr_world_model.specs.Stores.{call_of_history}
use Rattle.mr_world_model.proofs.Basic.{unless_parts}
use Rattle.mr_world_model.proofs.Lists.{attempt_eq-true, attempt_eq-refl}
use Rattle.mr_world_model.proofs.Made.{pasts_are_made}
use Rattle.mr_world_model.proofs.Nodes.{incarnation-agrees}
use Rattle.mr_world_model.proofs.Runs.{containers_say}
use Rattle.mr_node.specs.Readings as node
use Rattle.mr_world_alike.specs.Alike.{Alike, IsSame}
use Rattle.mr_world_alike.proofs.Agreeing.{equivalence}
use Rattle.mr_world_alike.proofs.Raised.{Same, to-same}
use Rattle.mr_world_alike.proofs.Stored.{stopped-same}
use Rattle.mr_world_alike.proofs.Masters.{due-same}
use Rattle.mr_world_alike.proofs.Events.{none-called}
use Rattle.mr_world_state.specs.Histories.{change_of, if_made}
use Rattle.mr_world_state.specs.Limits.{barred_of, fits_bag, fits_bytes, fits_call, fits_own, fits_store, is_full, launch_count, length_with, within}
use Rattle.mr_world_state.specs.declared.limits.TheConstants.{MAX_CONTAINERS}
use Rattle.mr_world_state.proofs.Saying.{bounds_bytes}

-- ---- the attempts that are barred, each once

eq-tied : (a b : Attempt) → attempt_eq a b ≡ eq_by_cmp attempt_cmp a b
eq-tied a b = both_ways (attempt_eq a b) (eq_by_cmp attempt_cmp a b)
    (λ e. ap (eq_by_cmp attempt_cmp a) (sym (attempt_eq-true a b e)) ∙ ap is_eq (tied_itself attempt_total a))
    (λ e. ap (attempt_eq a) (sym (attempt_exact a b ((Equal-is (attempt_cmp a b)).0 e))) ∙ attempt_eq-refl a)

has-listed : (bs : List Attempt) (a : Attempt) → has bs a ≡ list_any (eq_by_cmp attempt_cmp a) bs
has-listed [] a = refl
has-listed (b ∷ bs) a = ap₂ (λ x y. x || y) (eq-tied a b) (has-listed bs a)

barred-same : (w u : World) → ((a : Attempt) → has w.barred a ≡ has u.barred a) → barred_of w ≡ barred_of u
barred-same w u same = set.same_set attempt_total attempt_exact (barred_of w) (barred_of u) (λ a.
    set.contains-from_list attempt_total w.barred a ∙ (sym (has-listed w.barred a) ∙ (same a ∙ (has-listed u.barred a ∙ sym (set.contains-from_list attempt_total u.barred a)))))

module _ (cfg : Config) (es fs : List Event) (e : Same cfg (world_of cfg (within cfg) es) (world_of cfg (within cfg) fs)) where
  abbrev W : World
  W = world_of cfg (within cfg) es

  abbrev U : World
  U = world_of cfg (within cfg) fs

  -- ---- whoever acts lives

  duty-lives : (k : ℕ) (f : Weather) → not_now cfg W (Duty k f) ≡ None → W.is_master k ≡ true
  unfolding not_now
  duty-lives k f now = (unless_parts (W.is_master k) NoMaster (unless (is_some (duty cfg W k)) NoDuty None) now).0

  step-lives : (c : ContainerId) (f : Weather) → not_now cfg W (ContainerStep c f) ≡ None → W.is_alive c ≡ true
  unfolding not_now
  step-lives c f now = (unless_parts (W.is_alive c) NoContainer (unless (not (wants_compute (wish_of cfg W c))) WrongWish (unless (is_calm f || is_some (op_of cfg W c)) NoStoreCall None)) now).0

  bytes-lives : (c : ContainerId) (bytes : List ℕ) → not_now cfg W (Compute c bytes) ≡ None → W.is_alive c ≡ true
  unfolding not_now
  bytes-lives c bytes now = (unless_parts (W.is_alive c) NoContainer (unless (wants_compute (wish_of cfg W c)) WrongWish (unless (is_blocks cfg (W.place c) bytes) NotBlocks None)) now).0

  restart-there : (n : ℕ) → not_now cfg W (NodeRestart n) ≡ None → nat_lt n cfg.nodes ≡ true
  unfolding not_now
  restart-there n now = (unless_parts (nat_lt n cfg.nodes) NoNode None now).0

  -- ---- what it calls

  duty-is : (k : ℕ) → W.is_master k ≡ true → duty cfg W k ≡ duty cfg U k
  duty-is k lives = due-same cfg k (W.master_past k) (U.master_past k) (e.masters k lives) (pasts_are_made.made cfg (within cfg) es k) (pasts_are_made.made cfg (within cfg) fs k)

  says : (c : ContainerId) (t : W.is_alive c ≡ true) → ContainerSays cfg W c (e.containers c t).machine
  says c t = let o = e.containers c t in containers_say cfg (within cfg) (bounds_bytes cfg) es c o.machine o.one

  says-too : (c : ContainerId) (t : W.is_alive c ≡ true) → ContainerSays cfg U c (e.containers c t).machine
  says-too c t = let o = e.containers c t in containers_say cfg (within cfg) (bounds_bytes cfg) fs c o.machine o.other

  place-is : (c : ContainerId) → W.is_alive c ≡ true → W.place c ≡ U.place c
  place-is c t = let a = says c t in let b = says-too c t in a.place ∙ sym b.place

  op-is : (c : ContainerId) → W.is_alive c ≡ true → op_of cfg W c ≡ op_of cfg U c
  op-is c t = let a = says c t in let b = says-too c t in a.call ∙ sym b.call

  caller-is : (c : ContainerId) → W.is_alive c ≡ true → caller_of W c ≡ caller_of U c
  caller-is c t = ap (λ (p : Option Place). record { app = c.app; attempt = attempt_of p }) (place-is c t)

  duty-calls : (k : ℕ) (f : Weather) → W.is_master k ≡ true → call_of cfg W (Duty k f) ≡ call_of cfg U (Duty k f)
  unfolding call_of
  duty-calls k f lives = ap (duty_made k f) (duty-is k lives)

  step-calls : (c : ContainerId) (f : Weather) → W.is_alive c ≡ true → call_of cfg W (ContainerStep c f) ≡ call_of cfg U (ContainerStep c f)
  unfolding call_of
  step-calls c f t =
      let o = op-is c t in
      let stop : is_stopped W (caller_of W c) ≡ is_stopped U (caller_of U c) = stopped-same cfg W U e (caller_of W c) ∙ ap (λ (x : Caller). is_stopped U x) (caller-is c t) in
      λ i. unless_stopped (stop i) (op_made c.app f (o i))

  own-calls : (x : Event) → not_now cfg W x ≡ None → call_of cfg W x ≡ call_of cfg U x
  own-calls (Duty k f) now = duty-calls k f (duty-lives k f now)
  own-calls (ContainerStep c f) now = step-calls c f (step-lives c f now)
  own-calls x now = none-called cfg W x refl ∙ sym (none-called cfg U x refl)

  calls-same : (x y : Event) → IsSame W U x y → not_now cfg W x ≡ None → call_of cfg W x ≡ call_of cfg U y
  calls-same (Deliver i) (Deliver j) s now = none-called cfg W (Deliver i) refl ∙ sym (none-called cfg U (Deliver j) refl)
  calls-same (Deliver i) y s now = absurd s
  calls-same x y s now = own-calls x now ∙ ap (λ (z : Event). call_of cfg U z) s

  -- ---- what that changes of the history

  own-changes : (x : Event) → not_now cfg W x ≡ None → change_of cfg W x ≡ change_of cfg U x
  own-changes (Duty k f) now = ap (λ (o : Option Store). if_made f (option_map (Calls k) (option_and_then call_of_history o))) (duty-is k (duty-lives k f now))
  own-changes x now = refl

  pub changes-same : (x y : Event) → IsSame W U x y → not_now cfg W x ≡ None → change_of cfg W x ≡ change_of cfg U y
  changes-same (Deliver i) (Deliver j) s now = refl
  changes-same (Deliver i) y s now = absurd s
  changes-same x y s now = own-changes x now ∙ ap (λ (z : Event). change_of cfg U z) s

  -- ---- a call finds room

  store-same : (k : ℕ) (call : Store) → fits_store W k call ≡ fits_store U k call
  store-same k (Names op) = let b = barred-same W U e.barred in λ i. not (passes_limit (b i) op || is_full (refusal (e.content i) op))
  store-same k (Append_record r) = λ i. (e.history k i).is_sealed || nat_le (length_with (e.history k i) r) MAX_SEGMENT_LEN
  store-same k Flush = refl
  store-same k Read_history = refl

  applied-same : (k : ℕ) (f : Weather) → is_applied W k f ≡ is_applied U k f
  applied-same k Calm = λ i. not (nat_lt k (e.fence i))
  applied-same k Unavailable = refl
  applied-same k Unanswered = λ i. not (nat_lt k (e.fence i))

  made-same : (m : Option Made) → fits_call W m ≡ fits_call U m
  made-same None = refl
  made-same (Some m) = let a = applied-same m.app m.fault in let s = store-same m.app m.call in λ i. if a i then s i else true

  call-same : (x y : Event) → IsSame W U x y → not_now cfg W x ≡ None → fits_call W (call_of cfg W x) ≡ fits_call U (call_of cfg U y)
  call-same x y s now = made-same (call_of cfg W x) ∙ ap (λ (m : Option Made). fits_call U m) (calls-same x y s now)

  -- ---- its own limit

  incarnation-is : (n : ℕ) → nat_lt n cfg.nodes ≡ true → incarnation_of (W.node_past n) ≡ incarnation_of (U.node_past n)
  incarnation-is n t =
      let o = e.nodes n t in
      let x : node.seen cfg.reduces (W.node_past n) ≡ node.seen cfg.reduces (U.node_past n) = sym o.one.seen ∙ o.other.seen in
      incarnation-agrees cfg.reduces (W.node_past n) ∙ (ap (λ (s : node.Seen). s.incarnation) x ∙ sym (incarnation-agrees cfg.reduces (U.node_past n)))

  own-fits : (x : Event) → not_now cfg W x ≡ None → launch_count U ≤ launch_count W → fits_own W x ≡ true → fits_own U x ≡ true
  own-fits (LaunchOn k t n) now few q = let l = ltb-true (launch_count W) MAX_CONTAINERS q in lt-ltb (launch_count U) MAX_CONTAINERS (omega (arith, l, few))
  own-fits (Compute c bytes) now few q = subst (λ (p : Option Place). fits_bytes p (length bytes) ≡ true) (place-is c (bytes-lives c bytes now)) q
  own-fits (NodeRestart n) now few q = subst (λ (i : ℕ). nat_lt i (2 ^ 32 - 1) ≡ true) (incarnation-is n (restart-there n now)) q
  own-fits x now few q = q

  fits-too : (x y : Event) → IsSame W U x y → not_now cfg W x ≡ None → launch_count U ≤ launch_count W → fits_own W x ≡ true → fits_own U y ≡ true
  fits-too (Deliver i) (Deliver j) s now few q = refl
  fits-too (Deliver i) y s now few q = absurd s
  fits-too x y s now few q = subst (λ (z : Event). fits_own U z ≡ true) s (own-fits x now few q)

  -- ---- room in the bag

  bag-fits : (x y : Event) → sent cfg W x ≡ sent cfg U y → length U.bag ≤ length W.bag → fits_bag cfg W x ≡ true → fits_bag cfg U y ≡ true
  bag-fits x y sends few q =
      let l = leb-true (length W.bag + length (sent cfg W x)) MAX_PACKETS q in
      let m : length (sent cfg W x) ≡ length (sent cfg U y) = ap (λ xs. length xs) sends in
      le-leb (length U.bag + length (sent cfg U y)) MAX_PACKETS (omega (arith, l, m, few))

  takes-too : (x y : Event) → IsSame W U x y → not_now cfg W x ≡ None → sent cfg W x ≡ sent cfg U y → length U.bag ≤ length W.bag → launch_count U ≤ launch_count W → within cfg W x ≡ true → within cfg U y ≡ true
  unfolding within
  takes-too x y s now sends packets launches q =
      let p = and_parts (fits_own W x) (fits_call W (call_of cfg W x) && fits_bag cfg W x) q in
      let r = and_parts (fits_call W (call_of cfg W x)) (fits_bag cfg W x) p.1 in
      let a = fits-too x y s now launches p.0 in
      let b = sym (call-same x y s now) ∙ r.0 in
      let c = bag-fits x y sends packets r.1 in
      λ i. a i && (b i && c i)

-- of two alike worlds of runs
pub takes : (cfg : Config) (es fs : List Event) → Alike cfg (world_of cfg (within cfg) es) (world_of cfg (within cfg) fs) → (x y : Event) → IsSame (world_of cfg (within cfg) es) (world_of cfg (within cfg) fs) x y
    → not_now cfg (world_of cfg (within cfg) es) x ≡ None → sent cfg (world_of cfg (within cfg) es) x ≡ sent cfg (world_of cfg (within cfg) fs) y
    → length (world_of cfg (within cfg) fs).bag ≤ length (world_of cfg (within cfg) es).bag → launch_count (world_of cfg (within cfg) fs) ≤ launch_count (world_of cfg (within cfg) es)
    → within cfg (world_of cfg (within cfg) es) x ≡ true → within cfg (world_of cfg (within cfg) fs) y ≡ true
takes cfg es fs e x y s now sends packets launches q = takes-too cfg es fs (to-same cfg (within cfg) es fs e) x y s now sends packets launches q

pub changes : (cfg : Config) (es fs : List Event) → Alike cfg (world_of cfg (within cfg) es) (world_of cfg (within cfg) fs) → (x y : Event) → IsSame (world_of cfg (within cfg) es) (world_of cfg (within cfg) fs) x y
    → not_now cfg (world_of cfg (within cfg) es) x ≡ None → change_of cfg (world_of cfg (within cfg) es) x ≡ change_of cfg (world_of cfg (within cfg) fs) y
changes cfg es fs e x y s now = changes-same cfg es fs (to-same cfg (within cfg) es fs e) x y s now

-- the same the other way round
pub same-back : (w u : World) (x y : Event) → IsSame w u x y → IsSame u w y x
same-back w u (Deliver i) (Deliver j) s = sym s
same-back w u (Deliver i) y s = absurd s
same-back w u x y s = subst (λ (z : Event). IsSame u w z x) s refl

pub alike-back : (cfg : Config) (w u : World) → Alike cfg w u → Alike cfg u w
alike-back cfg w u e = equivalence.back cfg w u e
