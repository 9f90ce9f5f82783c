-- A master's store call: when it can be made, and what the parts stand for once the master heard its answer.
use Rattle.std.proofs.Common.{◌≡◌, ◌≤◌, ◌++◌, ℕ, refl, sym, ◌∙◌, ap, ap₂, subst, Bool, true, false, ◌&&◌, not, Option, Some, None, if◌then◌else◌, is_some, nat_lt, arith, Result, Ok, Err, IfErr, IsErrAnd}
use Rattle.std.proofs.lemmas.Bool.Decides.{nat_tests}
use Rattle.std.proofs.lemmas.Result.{err_from_is_err_and}
use Rattle.std.specs.Option.{option_map}
use Rattle.mr_names.specs.Calls as names
use Rattle.mr_history.specs.Line.{InRange, fits, suits}
use Rattle.mr_history.specs.State as history
use Rattle.mr_history.specs.Calls as segments
use Rattle.mr_packet.specs.Bag.{Held}
use Rattle.mr_world_events.specs.declared.why.Why.TheVariants.{NoMaster, NoDuty}
use Rattle.mr_master_model.specs.Duty as due
use Rattle.mr_master_model.specs.Next as next
use Rattle.mr_master_model.specs.declared.store.StoreCall.{StoreCall}
use Rattle.mr_master_model.specs.declared.store.StoreAnswer.{StoreAnswer}
use Rattle.mr_master_model.specs.Past.{Answered}
use Rattle.mr_master.specs.Prepared.{Prepared}
use Rattle.mr_master.specs.State as master
use Rattle.mr_world_model.specs.Bytes.{Tells}
use Rattle.mr_world_model.specs.Effect.{effect, not_now}
use Rattle.mr_world_model.specs.Packets.{Config, Store, Names, Append_record, Flush, Read_history}
use Rattle.mr_world_model.specs.Hearing.{Phase}
use Rattle.mr_world_model.specs.Records.{Record, Segment}
use Rattle.mr_world_model.specs.Stored.{StoresStand, left_in}
use Rattle.mr_world_model.specs.Stores.{HasRoom}
use Rattle.mr_world_model.specs.World.{World, Weather, Calm, Unavailable, Unanswered, Duty, duty, is_applied, seen_by}
use Rattle.mr_world_model.proofs.Exactly.{always-counted}
use Rattle.mr_world_model.proofs.Fitting.{appended_records_fit}
use Rattle.mr_world_model.proofs.Living.{masters_are_raised}
use Rattle.mr_master_refinement.specs.Steps.{setting, steps, store_call}
use Rattle.mr_master_refinement.specs.Stores.{CallAgrees, told_in}
use Rattle.mr_master_refinement.specs.Works.{named}
use Rattle.mr_master_refinement.proofs.Stores.{store_calls_agree}
use Rattle.mr_world_state.specs.declared.duty.Due.{Due}
use Rattle.mr_world_state.specs.declared.fault.WorldFault.{WorldFault}
use Rattle.mr_world_state.specs.declared.fault.WorldFault.TheVariants as fault
use Rattle.mr_world_state.specs.declared.masters.Masters.{Masters}
use Rattle.mr_world_state.specs.declared.parts.Parts.{Parts}
use Rattle.mr_world_state.specs.inner.Asking.{answer_to, names_after, history_after, passes, IsRanged, IsSuited, HasAsked, IsForeseen, RefusesDuty, ForeseesDuty, KeepsStores, IsDutyOf, ForeseesDutyOf}
use Rattle.mr_world_state.specs.inner.Duties.{IsDue, HasDuty, PlansAnswer, says_then, fits_then}
use Rattle.mr_world_state.specs.inner.Masters.{Returns}
use Rattle.mr_world_state.specs.Limits.{within, fits_bag, fits_store}
use Rattle.mr_world_state.specs.Machines.{master_of}
use Rattle.mr_world_state.specs.Standing.{Standing, Reached, IsTaken, Refuses, RefusesEvent, Foresees, Tries}
use Rattle.mr_world_state.proofs.Attending.{history-agrees, told-stands, allowed, limit-is, bag-alone}
use Rattle.mr_world_state.proofs.Histories.{read-left}
use Rattle.mr_world_state.proofs.Filling.{is_let, let-is, names-free, append-free, call-fits}
use Rattle.mr_world_state.proofs.Mastering.{not-kept}
use Rattle.mr_world_state.proofs.Refusals.{refuses-now, refuses-memory}
use Rattle.mr_world_state.proofs.Stepping.{agrees}

-- ---- which call is due

-- a machine's duty is the master's
due-is : (p : Parts) (k : ℕ) (m : master.Master) (o : Option due.Duty) → master_of p.masters k ≡ Some m → master.Answers m (λ w past. due.duty w (next.seen w past)) o
    → (w : World) → Standing p w → o ≡ named (seen_by p.config w k).phase (duty p.config w k)
due-is p k m o at told w s = told (setting p.config k) (steps (w.master_past k)) (s.masters.machines k m at) ∙ (agrees k s.reached).point.duty

is-due : (p : Parts) (k : ℕ) (m : master.Master) (b : Bool) → master_of p.masters k ≡ Some m → master.Answers m (λ w past. is_some (due.duty w (next.seen w past))) b
    → (w : World) → Standing p w → b ≡ is_some (named (seen_by p.config w k).phase (duty p.config w k))
is-due p k m b at told w s = told (setting p.config k) (steps (w.master_past k)) (s.masters.machines k m at) ∙ ap is_some (agrees k s.reached).point.duty

lives : (p : Parts) (k : ℕ) (m : master.Master) → master_of p.masters k ≡ Some m → (w : World) → Standing p w → w.is_master k ≡ true
lives p k m at w s = sym (s.masters.alive k) ∙ ap is_some at

call-of : (ph : Phase) (o : Option Store) (d : due.Duty) → Some d ≡ named ph o → option_map store_call o ≡ Some d.call
call-of ph (Some c) d e = sym (ap (option_map (λ (x : due.Duty). x.call)) e)
call-of ph None d e = cc

no-call : (ph : Phase) (o : Option Store) → None ≡ named ph o → is_some o ≡ false
no-call ph (Some c) e = cc
no-call ph None e = refl

some-call : (ph : Phase) (o : Option Store) → true ≡ is_some (named ph o) → is_some o ≡ true
some-call ph (Some c) e = refl
some-call ph None e = cc

pub has-duty : (p : Parts) (k : ℕ) (m : master.Master) (d : due.Duty) → master_of p.masters k ≡ Some m → master.Answers m (λ w past. due.duty w (next.seen w past)) (Some d) → HasDuty p k d.call
has-duty p k m d at told = record {
  kept = ap is_some at;
  due = λ w s. record { alive = lives p k m at w s; due = call-of _ _ d (due-is p k m (Some d) at told w s) };
}

-- when it is refused
idle : (cfg : Config) (w : World) (k : ℕ) (f : Weather) → w.is_master k ≡ true → is_some (duty cfg w k) ≡ false → not_now cfg w (Duty k f) ≡ Some NoDuty
unfolding not_now
idle cfg w k f alive none = rw (alive, none) refl

busy : (cfg : Config) (w : World) (k : ℕ) (f : Weather) → w.is_master k ≡ true → is_some (duty cfg w k) ≡ true → not_now cfg w (Duty k f) ≡ None
unfolding not_now
busy cfg w k f alive some = rw (alive, some) refl

pub dead : (cfg : Config) (w : World) (k : ℕ) (f : Weather) → w.is_master k ≡ false → not_now cfg w (Duty k f) ≡ Some NoMaster
unfolding not_now
dead cfg w k f e = rw e refl

pub no-duty : (p : Parts) (k : ℕ) (m : master.Master) → master_of p.masters k ≡ Some m → master.Answers m (λ w past. due.duty w (next.seen w past)) None → (f : Weather) → RefusesDuty p k f (fault.NotNow NoDuty)
no-duty p k m at told f w s = refuses-now _ _ (idle p.config w k f (lives p k m at w s) (no-call _ _ (due-is p k m None at told w s)))

pub no-memory : (p : Parts) (k : ℕ) (m : master.Master) → master_of p.masters k ≡ Some m → master.Answers m (λ w past. is_some (due.duty w (next.seen w past))) true → (f : Weather) → RefusesDuty p k f fault.NoMemory
no-memory p k m at told f w s = refuses-memory _ (busy p.config w k f (lives p k m at w s) (some-call _ _ (is-due p k m true at told w s))) refl

-- ---- the segment of a living master

raised-to : {cfg : Config} {w : World} (k : ℕ) → Reached cfg w → w.is_master k ≡ true → (1 ≤ k) × (k ≤ w.fence)
raised-to {cfg} {w} k r = subst (λ (u : World). u.is_master k ≡ true → (1 ≤ k) × (k ≤ u.fence)) r.is (masters_are_raised.raised cfg (within cfg) r.events k)

newest-open : {cfg : Config} {w : World} → Reached cfg w → w.is_master w.fence ≡ true → (w.history w.fence).is_sealed ≡ false
newest-open {cfg} {w} r = subst (λ (u : World). u.is_master u.fence ≡ true → (u.history u.fence).is_sealed ≡ false) r.is (always-counted cfg (within cfg) r.events).opens.living

above : (b : Bool) (f : Weather) → is_let b f ≡ true → b ≡ false
above false f e = refl
above true Calm e = cc
above true Unavailable e = cc
above true Unanswered e = cc

at-fence : (k q : ℕ) → k ≤ q → nat_lt k q ≡ false → k ≡ q
at-fence k q l e = grind (arith, nat_tests, l, e)

-- one whose call is applied is the newest
newest : (w : World) (k : ℕ) (f : Weather) → k ≤ w.fence → is_applied w k f ≡ true → k ≡ w.fence
newest w k f l applied = at-fence k w.fence l (above (nat_lt k w.fence) f (sym (let-is w k f) ∙ applied))

tells : {s : names.State} {h : history.State} {w : World} (k : ℕ) → StoresStand s h w → (1 ≤ k) × (k ≤ w.fence) → Tells (segments.segment h k) (w.history k)
tells {s} {h} {w} k st of = st.tells.each k of.0 (omega (arith, of.1, st.fence, st.sound.bound, st.sound.count))

-- so its segment is open
still-open : (p : Parts) (w : World) (k : ℕ) (f : Weather) → Standing p w → w.is_master k ≡ true → is_applied w k f ≡ true → (segments.segment p.history k).is_sealed ≡ false
still-open p w k f s alive applied = let of = raised-to k s.reached alive in let is = newest w k f of.1 applied in
    ap (λ (x : Segment). x.is_sealed) (tells k s.stores of).is
    ∙ (ap (λ j. (w.history j).is_sealed) is ∙ newest-open s.reached (subst (λ j. w.is_master j ≡ true) is alive))

-- and takes the record
record-fits : {cfg : Config} {w : World} (k : ℕ) (r : Record) → Reached cfg w → duty cfg w k ≡ Some (Append_record r) → fits r ≡ true
record-fits {cfg} {w} k r x = subst (λ (u : World). duty cfg u k ≡ Some (Append_record r) → fits r ≡ true) x.is (appended_records_fit.fits cfg (within cfg) x.events k r)

record-suits : {cfg : Config} {w : World} (k : ℕ) (r : Record) (v : ℕ) → Reached cfg w → duty cfg w k ≡ Some (Append_record r) → suits v r ≡ true
record-suits {cfg} {w} k r v x = subst (λ (u : World). duty cfg u k ≡ Some (Append_record r) → suits v r ≡ true) x.is (appended_records_fit.suits cfg (within cfg) x.events k r v)

has-room : (p : Parts) (w : World) (k : ℕ) (f : Weather) (r : Record) → Standing p w → w.is_master k ≡ true → duty p.config w k ≡ Some (Append_record r) → InRange r
    → passes p.names p.history k f (store_call (Append_record r)) ≡ false → is_applied w k f ≡ true → HasRoom p.history k (Append_record r)
has-room p w k f r s alive d range free applied = (
  (record-fits k r s.reached d, range),
  record-suits k r (segments.segment p.history k).version s.reached d,
  append-free p.history w k f r s.stores.fence free applied (still-open p w k f s alive applied),
)

-- ---- what is known of a call that finds no store full

same-left : {A : Type 0} (f : Weather) (x : A) → left_in f x x ≡ x
same-left Calm x = refl
same-left Unavailable x = refl
same-left Unanswered x = refl

names-alone : {cfg : Config} {w : World} {k : ℕ} {call : Store} {a : StoreAnswer} {n : names.State} {h : history.State} (f : Weather) → CallAgrees cfg w k f call a n h → CallAgrees cfg w k f call a n (left_in f h h)
names-alone {cfg} {w} {k} {call} {a} {n} {h} f c = subst (λ (x : history.State). CallAgrees cfg w k f call a n x) (sym (same-left f h)) c

history-alone : {cfg : Config} {w : World} {k : ℕ} {call : Store} {a : StoreAnswer} {n : names.State} {h : history.State} (f : Weather) → CallAgrees cfg w k f call a n h → CallAgrees cfg w k f call a (left_in f n n) h
history-alone {cfg} {w} {k} {call} {a} {n} {h} f c = subst (λ (x : names.State). CallAgrees cfg w k f call a x h) (sym (same-left f n)) c

call-agrees : (p : Parts) (w : World) (k : ℕ) (f : Weather) (c : Store) → Standing p w → w.is_master k ≡ true → duty p.config w k ≡ Some c → IsRanged (store_call c) → passes p.names p.history k f (store_call c) ≡ false
    → CallAgrees p.config w k f c (answer_to p.names p.history k (store_call c)) (left_in f p.names (names_after p.names k (store_call c))) (left_in f p.history (history_after p.history k (store_call c)))
call-agrees p w k f (Names o) s alive d range free = names-alone f (store_calls_agree.names p.config w p.names p.history k f o s.stores d (names-free p.names w s.stores.namespace k f o free))
call-agrees p w k f (Append_record r) s alive d range free = history-alone f (history-agrees p.names p.history k f (Append_record r) (segments.Append r) s.reached s.stores alive d refl (has-room p w k f r s alive d range free))
call-agrees p w k f Flush s alive d range free = history-alone f (history-agrees p.names p.history k f Flush segments.Flush s.reached s.stores alive d refl (λ applied. tt))
call-agrees p w k f Read_history s alive d range free = names-alone-too f (history-agrees p.names p.history k f Read_history segments.Read s.reached s.stores alive d refl (λ applied. tt))
  where
    names-alone-too : (f : Weather) → CallAgrees p.config w k f Read_history (answer_to p.names p.history k (store_call Read_history)) p.names (left_in f p.history (segments.call_of p.history k segments.Read).1)
        → CallAgrees p.config w k f Read_history (answer_to p.names p.history k (store_call Read_history)) (left_in f p.names p.names) (left_in f p.history p.history)
    names-alone-too f c = history-alone f (subst (λ (x : history.State). CallAgrees p.config w k f Read_history (answer_to p.names p.history k (store_call Read_history)) p.names (left_in f p.history x)) (read-left p.history k) c)

pub record MayAsk (p : Parts) (w : World) (k : ℕ) (f : Weather) (c : StoreCall) : Type 0 where
  pub call : Store
  pub alive : w.is_master k ≡ true
  pub due : duty p.config w k ≡ Some call
  pub fits : (if is_applied w k f then fits_store w k call else true) ≡ true
  pub agrees : CallAgrees p.config w k f call (answer_to p.names p.history k c) (left_in f p.names (names_after p.names k c)) (left_in f p.history (history_after p.history k c))

store-call-is : (o : Option Store) (c : StoreCall) → option_map store_call o ≡ Some c → (x : Store) × (o ≡ Some x) × (store_call x ≡ c)
store-call-is (Some x) c e = (x, refl, same (store_call x) c e)
  where
    same : (a b : StoreCall) → Some a ≡ Some b → a ≡ b
    same a b e = cc
store-call-is None c e = cc

may-ask : (p : Parts) (w : World) (k : ℕ) (f : Weather) (c : StoreCall) → Standing p w → IsDue p.config w k c → IsRanged c → passes p.names p.history k f c ≡ false → MayAsk p w k f c
may-ask p w k f c s due range free = let x = store-call-is _ c due.due in
    subst (λ (z : StoreCall). IsRanged z → passes p.names p.history k f z ≡ false → MayAsk p w k f z) x.2 (by x.0 x.1) range free
  where
    by : (x : Store) → duty p.config w k ≡ Some x → IsRanged (store_call x) → passes p.names p.history k f (store_call x) ≡ false → MayAsk p w k f (store_call x)
    by x d range free = record {
      call = x;
      alive = due.alive;
      due = d;
      fits = call-fits p.names p.history w k f x s.stores (tells k s.stores (raised-to k s.reached due.alive)) ∙ ap not free;
      agrees = call-agrees p w k f x s due.alive d range free;
    }

-- one that finds a store full passes a limit
too-much : (p : Parts) (w : World) (k : ℕ) (f : Weather) (c : StoreCall) → Standing p w → IsDue p.config w k c → passes p.names p.history k f c ≡ true → within p.config w (Duty k f) ≡ false
too-much p w k f c s due full = let x = store-call-is _ c due.due in
    limit-is p.config w k f x.0 x.1 ∙ ap (λ b. b && fits_bag p.config w (Duty k f))
    (call-fits p.names p.history w k f x.0 s.stores (tells k s.stores (raised-to k s.reached due.alive)) ∙ ap not (subst (λ (z : StoreCall). passes p.names p.history k f z ≡ true) (sym x.2) full))

now-is : (p : Parts) (w : World) (k : ℕ) (f : Weather) (c : StoreCall) → IsDue p.config w k c → not_now p.config w (Duty k f) ≡ None
now-is p w k f c due = let x = store-call-is _ c due.due in allowed p.config w k f x.0 due.alive x.1

-- refused before a store is asked
pub not-foretold : (p : Parts) (k : ℕ) (f : Weather) (c : StoreCall) (g : WorldFault) → HasDuty p k c → Refuses None (not (passes p.names p.history k f c)) true g → RefusesDuty p k f g
not-foretold p k f c g has why w s = by (passes p.names p.history k f c) refl why
  where
    by : (b : Bool) → passes p.names p.history k f c ≡ b → Refuses None (not b) true g → RefusesEvent p.config w (Duty k f) g
    by true e y = subst (λ o. Refuses o (within p.config w (Duty k f)) true g) (sym (now-is p w k f c (has.due w s))) (subst (λ b. Refuses None b true g) (sym (too-much p w k f c s (has.due w s) e)) y)
    by false e y = subst (RefusesEvent p.config w (Duty k f)) (sym y) (refuses-memory _ (now-is p w k f c (has.due w s)) refl)

-- ---- a record that is appended

suited : (p : Parts) (w : World) (k : ℕ) (c : StoreCall) (h : history.State) → Standing p w → IsDue p.config w k c → IsSuited h k c
suited p w k c h s due = let x = store-call-is _ c due.due in subst (IsSuited h k) x.2 (by x.0 x.1)
  where
    by : (x : Store) → duty p.config w k ≡ Some x → IsSuited h k (store_call x)
    by (Names o) d = tt
    by (Append_record r) d = (record-fits k r s.reached d, record-suits k r (segments.segment h k).version s.reached d)
    by Flush d = tt
    by Read_history d = tt

pub suited-so : (p : Parts) (w : World) (k app : ℕ) (c called : StoreCall) (h : history.State) → Standing p w → HasDuty p k c → app ≡ k → called ≡ c → IsSuited h app called
suited-so p w k app c called h s has is same = subst (λ j. IsSuited h j called) (sym is) (subst (IsSuited h k) (sym same) (suited p w k c h s (has.due w s)))

-- ---- the exit of a `?`

pub if-err : {A : Type 0} (P : WorldFault → Type 0) (r : Result A WorldFault) (g : WorldFault) → P g → IsErrAnd r (λ x. x ≡ g) → IfErr r P
if-err {A} P r g p is = let q = err_from_is_err_and r is in subst (λ (z : Result A WorldFault). IfErr z P) (sym q.1) (subst P (sym q.2) p)

pub unchanged-so : {A : Type 0} (p q : Parts) (k : ℕ) (f : Weather) (r : Result A WorldFault) (g : WorldFault) → ((w : World) → Standing p w → RefusesEvent p.config w (Duty k f) g × Standing q w)
    → IsErrAnd r (λ x. x ≡ g) → Tries p (Duty k f) r q
unchanged-so {A} p q k f r g why is = let z = err_from_is_err_and r is in
    subst (λ (y : Result A WorldFault). Tries {A = A} p (Duty k f) y q) (sym z.1) (subst (λ x. Tries {A = A} p (Duty k f) (Err x) q) (sym z.2) why)

pub refused-early : (p : Parts) (k : ℕ) (f : Weather) (r : Result Due WorldFault) (g : WorldFault) → RefusesDuty p k f g → IsErrAnd r (λ x. x ≡ g) → ForeseesDuty p k f r
refused-early p k f r g why is = let q = err_from_is_err_and r is in
    subst (λ (z : Result Due WorldFault). ForeseesDuty p k f z) (sym q.1) (subst (λ x. ForeseesDuty p k f (Err x)) (sym q.2) why)

pub no-master : (p : Parts) (k : ℕ) (f : Weather) (g : WorldFault) → (g ≡ fault.NotNow NoMaster) × ((w : World) → Standing p w → w.is_master k ≡ false) → RefusesDuty p k f g
no-master p k f g none w s = subst (RefusesEvent p.config w (Duty k f)) (sym none.0) (refuses-now _ _ (dead p.config w k f (none.1 w s)))

-- of the call that was asked about
pub not-told : (p : Parts) (k app : ℕ) (f : Weather) (c called : StoreCall) (g : WorldFault) → HasDuty p k c → app ≡ k → called ≡ c → Refuses None (not (passes p.names p.history app f called)) true g → RefusesDuty p k f g
not-told p k app f c called g has is same why = not-foretold p k f c g has (subst (λ z. Refuses None (not (passes p.names p.history k f z)) true g) same (subst (λ j. Refuses None (not (passes p.names p.history j f called)) true g) is why))

-- there is no master of this generation
pub not-there : (p : Parts) (k : ℕ) (f : Weather) → is_some (master_of p.masters k) ≡ false → RefusesDuty p k f (fault.NotNow NoMaster)
not-there p k f e w s = refuses-now _ _ (dead p.config w k f (not-kept p k e w s))

-- ---- a look at a machine and two stores, which the parts have

pub not-told-of : (n : names.State) (h : history.State) (m : master.Master) (k : ℕ) (f : Weather) (c called : StoreCall) (g : WorldFault) → IsDutyOf m c → called ≡ c → Refuses None (not (passes n h k f called)) true g
    → (p : Parts) → KeepsStores p n h k m → RefusesDuty p k f g
not-told-of n h m k f c called g due same why p keeps = not-told p k k f c called g (due p k keeps.at) refl same
    (subst (λ b. Refuses None (not b) true g) (sym (ap₂ (λ x y. passes x y k f called) keeps.names keeps.history)) why)

pub foreseen-of : (n : names.State) (h : history.State) (m : master.Master) (k : ℕ) (f : Weather) (c called : StoreCall) (a : StoreAnswer) → IsDutyOf m c → called ≡ c → IsRanged called → passes n h k f called ≡ false → a ≡ told_in f (answer_to n h k called)
    → (p : Parts) → KeepsStores p n h k m → IsForeseen p k f c a
foreseen-of n h m k f c called a due same ranged room told p keeps = record {
  due = due p k keeps.at;
  ranged = subst IsRanged same ranged;
  room = ap₂ (λ x y. passes x y k f c) keeps.names keeps.history ∙ (ap (passes n h k f) (sym same) ∙ room);
  told = told ∙ (ap (λ z. told_in f (answer_to n h k z)) same ∙ sym (ap₂ (λ x y. told_in f (answer_to x y k c)) keeps.names keeps.history));
}

pub at-generation : (n : names.State) (h : history.State) (m : master.Master) (app k : ℕ) (f : Weather) (r : Result Due WorldFault) → app ≡ k → ForeseesDutyOf n h m app f r → (p : Parts) → KeepsStores p n h k m → ForeseesDuty p k f r
at-generation n h m app k f r is all p keeps = subst (λ j. KeepsStores p n h j m → ForeseesDuty p j f r) is (all p) keeps

-- ---- a call that is due and finds room

pub asks : (p : Parts) (k : ℕ) (f : Weather) (c : StoreCall) (a : StoreAnswer) → IsForeseen p k f c a → (w : World) → Standing p w → MayAsk p w k f c
asks p k f c a i w s = may-ask p w k f c s (i.due.due w s) i.ranged i.room

now-of : (p : Parts) (w : World) (k : ℕ) (f : Weather) (c : StoreCall) → MayAsk p w k f c → not_now p.config w (Duty k f) ≡ None
now-of p w k f c m = allowed p.config w k f m.call m.alive m.due

limit-of : (p : Parts) (w : World) (k : ℕ) (f : Weather) (c : StoreCall) (a : StoreAnswer) → Standing p w → MayAsk p w k f c → a ≡ told_in f (answer_to p.names p.history k c)
    → within p.config w (Duty k f) ≡ fits_then p.config w k a
limit-of p w k f c a s m told = bag-alone p.config w k f m.call (answer_to p.names p.history k c) _ _ s.reached m.alive m.due m.fits m.agrees ∙ ap (fits_then p.config w k) (sym told)

pub wants-memory : (p : Parts) (k : ℕ) (f : Weather) (c : StoreCall) (a : StoreAnswer) → IsForeseen p k f c a → (w : World) → Standing p w → not_now p.config w (Duty k f) ≡ None
wants-memory p k f c a i w s = now-of p w k f c (asks p k f c a i w s)

-- what is planned for the answer finds no room, or memory was refused
pub not-planned : (p : Parts) (k : ℕ) (f : Weather) (c : StoreCall) (a : StoreAnswer) (g : WorldFault) → IsForeseen p k f c a → PlansAnswer p k a (Err g) → (w : World) → Standing p w → RefusesEvent p.config w (Duty k f) g
not-planned p k f c a g i plans w s = let m = asks p k f c a i w s in
    subst (λ o. Refuses o (within p.config w (Duty k f)) true g) (sym (now-of p w k f c m)) (subst (λ b. Refuses None b true g) (sym (limit-of p w k f c a s m i.told)) (plans w s))

-- the same as the exit of a `?` answers it
pub not-foreseen : {A : Type 0} (p : Parts) (k : ℕ) (f : Weather) (r : Result A WorldFault) (g : WorldFault) → ((w : World) → Standing p w → RefusesEvent p.config w (Duty k f) g) → IsErrAnd r (λ x. x ≡ g) → Foresees p (Duty k f) r
not-foreseen {A} p k f r g why is = let z = err_from_is_err_and r is in
    subst (λ (y : Result A WorldFault). Foresees {A = A} p (Duty k f) y) (sym z.1) (subst (λ x. Foresees {A = A} p (Duty k f) (Err x)) (sym z.2) why)

pub planned : (p : Parts) (k : ℕ) (f : Weather) (c : StoreCall) (a : StoreAnswer) (r : Prepared) → IsForeseen p k f c a → PlansAnswer p k a (Ok r) → (w : World) → Standing p w → IsTaken p.config w (Duty k f)
planned p k f c a r i plans w s = let m = asks p k f c a i w s in record { now = now-of p w k f c m; fits = limit-of p w k f c a s m i.told ∙ (plans.1 w s).1 }

-- ---- the event: room was made in p, which were then q

-- there was no memory for the room, or for the call
pub not-asked : (p q : Parts) (k : ℕ) (f : Weather) (c : StoreCall) (a : StoreAnswer) → IsForeseen p k f c a → ((w : World) → Standing p w → Standing q w)
    → (w : World) → Standing p w → RefusesEvent p.config w (Duty k f) fault.NoMemory × Standing q w
not-asked p q k f c a i still w s = (refuses-memory _ (wants-memory p k f c a i w s) refl, still w s)

-- the call was made
pub asked : (p : Parts) (masters : Masters) (bag : Held) (names_then : names.State) (history_then : history.State) (before after : master.Master) (k : ℕ) (f : Weather) (c : StoreCall) (a : StoreAnswer) (x : Prepared) → IsForeseen p k f c a
    → PlansAnswer p k a (Ok x) → master_of p.masters k ≡ Some before → Returns p.masters k after masters → master.Stands before (Answered a) after → bag.packets ≡ p.bag.packets ++ x.packets → HasAsked p.names p.history k f c names_then history_then
    → (w : World) → Standing p w → IsTaken p.config w (Duty k f) × Standing (record p { names = names_then; history = history_then; masters = masters; bag = bag }) (effect p.config w (Duty k f))
asked p masters bag names_then history_then before after k f c a x i plans at back stands sends h w s =
    let m = asks p k f c a i w s in
    let n = left_in f p.names (names_after p.names k c) in let g = left_in f p.history (history_after p.history k c) in
    let taken = planned p k f c a x i plans w s in
    let left : Parts = record p { names = names_then; history = history_then; masters = masters; bag = bag } in
    let is : left ≡ record p { names = n; history = g; masters = masters; bag = bag } = ap₂ (λ y z. record p { names = y; history = z; masters = masters; bag = bag }) h.of_names h.of_history in (
      taken,
      subst (λ (z : Parts). Standing z (effect p.config w (Duty k f))) (sym is)
          (told-stands p w k f m.call (answer_to p.names p.history k c) x n g masters bag before after s taken m.due m.agrees ((plans.1 w s).0 ∙ ap (says_then p.config w k) i.told) at back
          (subst (λ b. master.Stands before (Answered b) after) i.told stands) sends),
    )

-- where it found no memory, both stores are what they were
pub still-so : (p : Parts) (w : World) (n : names.State) (h : history.State) → n ≡ p.names → h ≡ p.history → Standing p w → Standing (record p { names = n; history = h }) w
still-so p w n h e f s = subst (λ (z : Parts). Standing z w) (sym (ap₂ (λ x y. record p { names = x; history = y }) e f)) s

-- the call that was made is the one that is due
pub of-due : (n m : names.State) (h g : history.State) (k app : ℕ) (f : Weather) (c called : StoreCall) → app ≡ k → called ≡ c → HasAsked n h app f called m g → HasAsked n h k f c m g
of-due n m h g k app f c called is same x = subst (λ z. HasAsked n h k f z m g) same (subst (λ j. HasAsked n h j f called m g) is x)
