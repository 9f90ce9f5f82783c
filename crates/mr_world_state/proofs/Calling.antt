-- A container makes a store call: when it can, and what the parts stand for then.
use Rattle.std.proofs.Common.{◌≡◌, ℕ, ◌≤◌, refl, sym, ◌∙◌, ap, subst, Bool, true, false, ◌&&◌, not, nat_lt, List, [], ◌++◌, Option, Some, None, Result, Ok, Err, IsErrAnd, if◌then◌else◌, is_some, length, append-nil, arith}
use Rattle.std.proofs.Math.Bool.{and-true}
use Rattle.std.proofs.lemmas.Result.{err_from_is_err_and}
use Rattle.std.specs.Option.{option_or, option_map}
use Rattle.mr_ids.specs.Attempt.{Attempt}
use Rattle.mr_names.specs.declared.fault.NameFault.{NameFault}
use Rattle.mr_names.specs.declared.fault.NameFault.TheVariants as faults
use Rattle.mr_names.specs.declared.op.Op.{Op}
use Rattle.mr_names.specs.Barred.{Barred, bars}
use Rattle.mr_names.specs.Calls as names
use Rattle.mr_packet.specs.declared.bag.TheConstants.{MAX_PACKETS}
use Rattle.mr_world_events.specs.declared.why.Why.{Why}
use Rattle.mr_container.specs.declared.reply.Reply.{Reply}
use Rattle.mr_container.specs.declared.wish.Wish.{Wish}
use Rattle.mr_container.specs.declared.wish.Wish.TheVariants as wish
use Rattle.mr_container.specs.Past.{Calls}
use Rattle.mr_container.specs.Readings.{next_seen, wish_called, or_abort}
use Rattle.mr_container.specs.State as container
use Rattle.mr_container.specs.Wished.{wished_op, caller_of as called_by}
use Rattle.mr_container.proofs.Standing.{stands_after}
use Rattle.mr_world_model.specs.Ids.{ContainerId}
use Rattle.mr_world_model.specs.Content.{refusal}
use Rattle.mr_world_model.specs.Packets.{Caller, Names}
use Rattle.mr_world_model.specs.World.{World, Weather, Calm, Unavailable, Unanswered, ContainerStep, Made, op_of, caller_of, call_of, op_made, unless_stopped, is_stopped, has_option}
use Rattle.mr_world_model.specs.Effect.{effect, not_now, NoContainer}
use Rattle.mr_world_model.specs.Stores.{NamesStand}
use Rattle.mr_world_model.specs.Stored.{StoresStand, left_in, heard_in}
use Rattle.mr_world_model.specs.Actors.{is_finished}
use Rattle.mr_world_model.specs.Acts.{Went}
use Rattle.mr_world_model.proofs.Acts.{containers_act}
use Rattle.mr_world_model.proofs.Stored.{stores_go_on}
use Rattle.mr_master_refinement.proofs.Stores.{masters_go_on}
use Rattle.mr_world_actors.specs.declared.living.Living.{Living}
use Rattle.mr_world_actors.specs.Living.{kept, Changes}
use Rattle.mr_world_state.specs.declared.parts.Parts.{Parts}
use Rattle.mr_world_stores.specs.declared.container.ContainerCall.{ContainerCall}
use Rattle.mr_world_state.specs.declared.fault.WorldFault.{WorldFault}
use Rattle.mr_world_state.specs.declared.fault.WorldFault.TheVariants as fault
use Rattle.mr_world_state.specs.inner.Calling.{is_call, is_made, step_fault, permitted, ForeseesCall, HasCalled, IsAlone}
use Rattle.mr_world_state.specs.Limits.{within, fits_counted, fits_bag, fits_call, is_full, barred_of}
use Rattle.mr_world_state.specs.Standing.{Standing, IsTaken, Refuses, RefusesEvent}
use Rattle.mr_world_state.proofs.Filling.{is_let, let-is}
use Rattle.mr_world_state.proofs.Refusals.{bag-fits, refuses-now, refuses-full, refuses-memory}
use Rattle.mr_world_state.proofs.Saying.{says}
use Rattle.mr_world_state.proofs.Frames.{rests, living-moved, nodes-stay}

-- ---- the wishes that are calls

pub call-is : (dest : List (List ℕ)) (k : ℕ) (a : Attempt) (bytes : List ℕ) (v : Wish) → is_some (wished_op dest k a bytes v) ≡ is_call v
unfolding wished_op
call-is dest k a bytes wish.Mkdirs = refl
call-is dest k a bytes v = refl

some-is : (x y : Op) → Some x ≡ Some y → x ≡ y
some-is x y e = cc

-- none bars
bars-none : (b : Barred) (dest : List (List ℕ)) (k : ℕ) (a : Attempt) (bytes : List ℕ) (v : Wish) (o : Op) → wished_op dest k a bytes v ≡ Some o → names.passes_limit b o ≡ false
unfolding wished_op
bars-none b dest k a bytes wish.Mkdirs o e = subst (λ z. names.passes_limit b z ≡ false) (some-is _ o e) refl
bars-none b dest k a bytes wish.Create o e = subst (λ z. names.passes_limit b z ≡ false) (some-is _ o e) refl
bars-none b dest k a bytes wish.Write o e = subst (λ z. names.passes_limit b z ≡ false) (some-is _ o e) refl
bars-none b dest k a bytes wish.Close o e = subst (λ z. names.passes_limit b z ≡ false) (some-is _ o e) refl
bars-none b dest k a bytes wish.Needs o e = subst (λ z. names.passes_limit b z ≡ false) (some-is _ o e) refl
bars-none b dest k a bytes wish.Look o e = subst (λ z. names.passes_limit b z ≡ false) (some-is _ o e) refl
bars-none b dest k a bytes wish.Clear o e = subst (λ z. names.passes_limit b z ≡ false) (some-is _ o e) refl
bars-none b dest k a bytes wish.Rename o e = subst (λ z. names.passes_limit b z ≡ false) (some-is _ o e) refl
bars-none b dest k a bytes wish.Abort o e = subst (λ z. names.passes_limit b z ≡ false) (some-is _ o e) refl
bars-none b dest k a bytes v o e = cc

-- no answer ends a container
goes-on : (good : Bool) (v : Wish) → is_finished v ≡ false → is_finished (or_abort good v) ≡ false
goes-on true v e = e
goes-on false v e = refl

lives-on : (dest : List (List ℕ)) (k : ℕ) (a : Attempt) (bytes : List ℕ) (v : Wish) (o : Op) (r : Reply) → wished_op dest k a bytes v ≡ Some o → is_finished (wish_called v r) ≡ false
unfolding wished_op wish_called
lives-on dest k a bytes wish.Mkdirs o r e = goes-on _ wish.Create refl
lives-on dest k a bytes wish.Create o r e = goes-on _ wish.Write refl
lives-on dest k a bytes wish.Write o r e = goes-on _ wish.Close refl
lives-on dest k a bytes wish.Close o r e = goes-on _ wish.Needs refl
lives-on dest k a bytes wish.Needs o r e = goes-on _ wish.Pending refl
lives-on dest k a bytes wish.Look o r e = goes-on _ wish.Clear refl
lives-on dest k a bytes wish.Clear o r e = goes-on _ wish.Rename refl
lives-on dest k a bytes wish.Rename o r e = goes-on _ wish.Report refl
lives-on dest k a bytes wish.Abort o r e = refl
lives-on dest k a bytes v o r e = cc

-- ---- what the parts stand for

-- the machine, once it heard of the answer
abbrev pub called : Parts → World → ContainerId → Weather → Op → container.Container → container.Container
called p w c f o m = container.after m (Calls o (heard_in f (names.call_of p.names (caller_of w c) o).0))

went : (p : Parts) (w : World) (c : ContainerId) (f : Weather) (o : Op) (m : container.Container) → Standing p w → kept p.living c ≡ Some m → op_of p.config w c ≡ Some o
    → Went p.config w (ContainerStep c f) c (called p w c f o m) []
went p w c f o m s there e = containers_act.calls p.config w c f o m (called p w c f o m) e (s.living.machines c m there)
    (subst (λ r. container.Stands m (Calls o r) (called p w c f o m)) (sym (stores_go_on.container_calls p.config w p.names p.history c f o s.stores e).heard)
    (stands_after m (called p w c f o m) (Calls o _) refl))

-- it lives on
not-over : (p : Parts) (w : World) (c : ContainerId) (f : Weather) (o : Op) (m : container.Container) → Standing p w → kept p.living c ≡ Some m → op_of p.config w c ≡ Some o → is_finished (called p w c f o m).seen.wish ≡ false
unfolding next_seen
not-over p w c f o m s there e = lives-on _ m.id.app m.place.attempt m.seen.result m.seen.wish o _ (sym (says p w c m s there).call ∙ e)

pub stands : (p : Parts) (w : World) (c : ContainerId) (f : Weather) (o : Op) (m : container.Container) (left : names.State) (living : Living) → Standing p w → IsTaken p.config w (ContainerStep c f)
    → kept p.living c ≡ Some m → op_of p.config w c ≡ Some o → left ≡ left_in f p.names (names.call_of p.names (caller_of w c) o).1
    → Changes p.living c (Some (called p w c f o m)) living → Standing (record p { names = left; living = living }) (effect p.config w (ContainerStep c f))
stands p w c f o m left living s t there e l is = let g = went p w c f o m s there e in
    rests p w (ContainerStep c f) left living p.bag p.nodes s t refl (masters_go_on.rests p.config w (ContainerStep c f) refl)
    (subst (λ z. StoresStand z p.history (effect p.config w (ContainerStep c f))) (sym l) (stores_go_on.container_calls p.config w p.names p.history c f o s.stores e).left)
    (living-moved c m (called p w c f o m) there g.moved (subst (λ (b : Bool). Changes p.living c (if b then None else Some (called p w c f o m)) living) (sym (not-over p w c f o m s there e)) is) s.living) (nodes-stay g.nodes (λ n. refl) s.nodes)
    (sym (append-nil p.bag.packets) ∙ ap (λ es. p.bag.packets ++ es) (sym g.sends))

-- ---- when it can

pub now-is : (p : Parts) (w : World) (c : ContainerId) (f : Weather) (m : container.Container) → Standing p w → kept p.living c ≡ Some m → not_now p.config w (ContainerStep c f) ≡ step_fault m.seen.wish f
unfolding not_now
now-is p w c f m s there = let y = says p w c m s there in
    let alive : w.is_alive c ≡ true = sym (s.living.alive c) ∙ ap is_some there in
    let call : is_some (op_of p.config w c) ≡ is_call m.seen.wish = ap is_some y.call ∙ call-is _ m.id.app m.place.attempt m.seen.result m.seen.wish in
    rw (alive, y.computes, call) refl

-- ---- whether it passes a limit

-- why a caller is refused: it is below the fence, or barred, or the call's own refusal
abbrev first_why : ℕ → Bool → Bool → Option NameFault → Option NameFault
first_why q below barred own = option_or (if below then Some (faults.Superseded q) else (if barred then Some faults.Barred else None)) own

abbrev passes : Bool → Bool → Bool
passes true b = true
passes false b = b

fits-cases : (q : ℕ) (f : Weather) (below barred : Bool) (own : Option NameFault)
    → passes (barred && not below) (if is_let below f then not (is_full own) else true) ≡ not (is_made f && is_full (first_why q below barred own))
fits-cases q Calm true true own = refl
fits-cases q Calm true false own = refl
fits-cases q Calm false true own = refl
fits-cases q Calm false false own = refl
fits-cases q Unavailable true true own = refl
fits-cases q Unavailable true false own = refl
fits-cases q Unavailable false true own = refl
fits-cases q Unavailable false false own = refl
fits-cases q Unanswered true true own = refl
fits-cases q Unanswered true false own = refl
fits-cases q Unanswered false true own = refl
fits-cases q Unanswered false false own = refl

-- by the namespace that stands for the world's
stopped-is : (s : names.State) (w : World) → NamesStand s w → (x : Option Attempt) → bars s.barred x ≡ has_option w.barred x
stopped-is s w n None = refl
stopped-is s w n (Some a) = n.barred a

why-is : (s : names.State) (w : World) → NamesStand s w → (c : Caller) (o : Op) → names.passes_limit s.barred o ≡ false →
    names.refused s c o ≡ first_why w.fence (nat_lt c.app w.fence) (has_option w.barred c.attempt) (names.refusal w.content o)
unfolding names.unheard
why-is s w n c o l = rw (l, n.fence, n.content, stopped-is s w n c.attempt) refl

unless-is : (w : World) (b : Bool) (m : Made) → fits_call w (unless_stopped b (Some m)) ≡ passes b (fits_call w (Some m))
unless-is w true m = refl
unless-is w false m = refl

made-fits : (w : World) (k : ℕ) (f : Weather) (o : Op) → names.passes_limit (barred_of w) o ≡ false → fits_call w (Some (record { app = k; call = Names o; fault = f })) ≡ (if is_let (nat_lt k w.fence) f then not (is_full (names.refusal w.content o)) else true)
unfolding refusal
made-fits w k f o l = rw (let-is w k f, l) refl

call-fits : (s : names.State) (w : World) → NamesStand s w → (c : Caller) (f : Weather) (o : Op) → ((b : Barred) → names.passes_limit b o ≡ false)
    → fits_call w (unless_stopped (is_stopped w c) (Some (record { app = c.app; call = Names o; fault = f }))) ≡ not (is_made f && is_full (names.refused s c o))
call-fits s w n c f o l = unless-is w (is_stopped w c) _ ∙ (ap (passes (is_stopped w c)) (made-fits w c.app f o (l (barred_of w)))
    ∙ (fits-cases w.fence f (nat_lt c.app w.fence) (has_option w.barred c.attempt) (names.refusal w.content o)
    ∙ ap (λ y. not (is_made f && is_full y)) (sym (why-is s w n c o (l s.barred)))))

pub within-is : (p : Parts) (w : World) (c : ContainerId) (f : Weather) (o : Op) (m : container.Container) → Standing p w → kept p.living c ≡ Some m → op_of p.config w c ≡ Some o → length p.bag.packets ≤ MAX_PACKETS
    → within p.config w (ContainerStep c f) ≡ not (is_made f && is_full (names.refused p.names (caller_of w c) o))
unfolding within call_of
within-is p w c f o m s there e few =
    let room : fits_bag p.config w (ContainerStep c f) ≡ true = bag-fits p w (ContainerStep c f) 0 s (ap length (went p w c f o m s there e).sends) (omega (arith, few)) in
    let free : (b : Barred) → names.passes_limit b o ≡ false = λ b. bars-none b _ m.id.app m.place.attempt m.seen.result m.seen.wish o (sym (says p w c m s there).call ∙ e) in
    ap (λ b. fits_call w (unless_stopped (is_stopped w (caller_of w c)) (op_made c.app f (op_of p.config w c))) && b) room
    ∙ (and-true _ ∙ (ap (λ y. fits_call w (unless_stopped (is_stopped w (caller_of w c)) (op_made c.app f y))) e
    ∙ call-fits p.names w s.stores.namespace (caller_of w c) f o free))

-- ---- the answers of a look

pub absent : (p : Parts) (c : ContainerId) (f : Weather) → kept p.living c ≡ None → (w : World) → Standing p w → RefusesEvent p.config w (ContainerStep c f) (fault.NotNow NoContainer)
unfolding not_now
absent p c f e w s = let dead : w.is_alive c ≡ false = sym (s.living.alive c) ∙ ap is_some e in refuses-now _ _ (rw dead refl)

-- refused for the wish, or permitted
refused-by : (o : Option Why) (fits counted : Bool) (e : WorldFault) → Err e ≡ permitted o → Refuses o fits counted e
refused-by None fits counted e is = cc
refused-by (Some why) fits counted e is = cc

allowed-by : (o : Option Why) → Ok tt ≡ permitted o → o ≡ None
allowed-by None is = refl
allowed-by (Some why) is = cc

pub wrong-step : (p : Parts) (c : ContainerId) (f : Weather) (m : container.Container) (e : WorldFault) → kept p.living c ≡ Some m → Err e ≡ permitted (step_fault m.seen.wish f)
    → (w : World) → Standing p w → RefusesEvent p.config w (ContainerStep c f) e
wrong-step p c f m e there is w s = subst (λ o. Refuses o (within p.config w (ContainerStep c f)) (fits_counted p.config w (ContainerStep c f)) e) (sym (now-is p w c f m s there)) (refused-by (step_fault m.seen.wish f) _ _ e is)

pub right-step : (p : Parts) (c : ContainerId) (f : Weather) (m : container.Container) → kept p.living c ≡ Some m → Ok tt ≡ permitted (step_fault m.seen.wish f) → (w : World) → Standing p w → not_now p.config w (ContainerStep c f) ≡ None
right-step p c f m there is w s = now-is p w c f m s there ∙ allowed-by _ is

-- a fault that a `?` hands on
pub fault-foreseen : (p : Parts) (c : ContainerId) (f : Weather) (r : Result (Option ContainerCall) WorldFault) (e : WorldFault) → ((w : World) → Standing p w → RefusesEvent p.config w (ContainerStep c f) e)
    → IsErrAnd r (λ g. g ≡ e) → ForeseesCall p c f r
fault-foreseen p c f r e why g = let q = err_from_is_err_and r g in subst (ForeseesCall p c f) (sym q.1) (subst (λ x. ForeseesCall p c f (Err x)) (sym q.2) why)

-- what the machine wishes, of the layout of the destination
pub wished : (p : Parts) (c : ContainerId) (m : container.Container) (o : Option Op) → kept p.living c ≡ Some m → o ≡ wished_op p.layout.dest m.id.app m.place.attempt m.seen.result m.seen.wish → (w : World) → Standing p w → op_of p.config w c ≡ o
wished p c m o there is w s = (says p w c m s there).call ∙ (ap (λ d. wished_op d m.id.app m.place.attempt m.seen.result m.seen.wish) (sym s.dest) ∙ sym is)

pub full-call : (p : Parts) (c : ContainerId) (f : Weather) (m : container.Container) (o : Op) → kept p.living c ≡ Some m → length p.bag.packets ≤ MAX_PACKETS → Ok tt ≡ permitted (step_fault m.seen.wish f)
    → Some o ≡ wished_op p.layout.dest m.id.app m.place.attempt m.seen.result m.seen.wish → (is_made f && is_full (names.refused p.names (called_by m.id m.place.attempt) o)) ≡ true
    → (w : World) → Standing p w → RefusesEvent p.config w (ContainerStep c f) fault.Full
full-call p c f m o there few now is full w s = let e = wished p c m (Some o) there is w s in
    refuses-full _ (right-step p c f m there now w s) (within-is p w c f o m s there e few ∙ (ap (λ x. not (is_made f && is_full (names.refused p.names x o))) ((says p w c m s there).caller o e) ∙ ap not full))

pub fitting-call : (p : Parts) (c : ContainerId) (f : Weather) (m : container.Container) (o : Op) (who : Caller) → kept p.living c ≡ Some m → length p.bag.packets ≤ MAX_PACKETS → Ok tt ≡ permitted (step_fault m.seen.wish f)
    → Some o ≡ wished_op p.layout.dest m.id.app m.place.attempt m.seen.result m.seen.wish → who ≡ called_by m.id m.place.attempt → (is_made f && is_full (names.refused p.names who o)) ≡ false
    → (w : World) → Standing p w → IsTaken p.config w (ContainerStep c f) × (op_of p.config w c ≡ Some o) × (caller_of w c ≡ who)
fitting-call p c f m o who there few now is own free w s = let e = wished p c m (Some o) there is w s in let by = (says p w c m s there).caller o e ∙ sym own in (
  record { now = right-step p c f m there now w s; fits = within-is p w c f o m s there e few ∙ (ap (λ x. not (is_made f && is_full (names.refused p.names x o))) by ∙ ap not free) },
  e,
  by,
)

pub no-call : (p : Parts) (c : ContainerId) (f : Weather) (m : container.Container) → kept p.living c ≡ Some m → Ok tt ≡ permitted (step_fault m.seen.wish f)
    → None ≡ wished_op p.layout.dest m.id.app m.place.attempt m.seen.result m.seen.wish → (w : World) → Standing p w → (not_now p.config w (ContainerStep c f) ≡ None) × (op_of p.config w c ≡ None)
no-call p c f m there now is w s = (right-step p c f m there now w s, wished p c m None there is w s)

-- who makes a store call sends nothing
some-op : (o : Option Op) → is_some o ≡ true → (x : Op) × (o ≡ Some x)
some-op (Some x) e = (x, refl)
some-op None e = cc

quiet : (p : Parts) (w : World) (c : ContainerId) (f : Weather) (m : container.Container) → Standing p w → kept p.living c ≡ Some m → length p.bag.packets ≤ MAX_PACKETS → is_call m.seen.wish ≡ true → fits_bag p.config w (ContainerStep c f) ≡ true
quiet p w c f m s there few is = let o = some-op (op_of p.config w c) (ap is_some (says p w c m s there).call ∙ (call-is _ m.id.app m.place.attempt m.seen.result m.seen.wish ∙ is)) in
    bag-fits p w (ContainerStep c f) 0 s (ap length (went p w c f o.0 m s there o.1).sends) (omega (arith, few))

-- no op is made of another wish
pub calls-not : (d : List (List ℕ)) (k : ℕ) (x : Attempt) (bytes : List ℕ) (v : Wish) → is_call v ≡ false → None ≡ wished_op d k x bytes v
calls-not d k x bytes v is = none-op (wished_op d k x bytes v) (call-is d k x bytes v ∙ is)
  where
    none-op : (o : Option Op) → is_some o ≡ false → None ≡ o
    none-op None e = refl
    none-op (Some y) e = cc

pub memory-wanted : (p : Parts) (c : ContainerId) (f : Weather) (m : container.Container) (r : Result (Option ContainerCall) WorldFault) → kept p.living c ≡ Some m → length p.bag.packets ≤ MAX_PACKETS
    → Ok tt ≡ permitted (step_fault m.seen.wish f) → is_call m.seen.wish ≡ true → IsErrAnd r (λ g. g ≡ fault.NoMemory) → ForeseesCall p c f r
memory-wanted p c f m r there few now is g = fault-foreseen p c f r fault.NoMemory (λ w s. refuses-memory _ (right-step p c f m there now w s) (quiet p w c f m s there few is)) g

-- ---- what the parts stand for once the call was made

some-of : (o : Option container.Container) → is_some o ≡ true → (m : container.Container) × (o ≡ Some m)
some-of (Some m) e = (m, refl)
some-of None e = cc

stands-by : (p q : Parts) (c : ContainerId) (f : Weather) (call : ContainerCall) (m : container.Container) → HasCalled p c f call q → kept p.living c ≡ Some m → (w : World) → Standing p w → IsTaken p.config w (ContainerStep c f)
    → op_of p.config w c ≡ Some call.op → caller_of w c ≡ call.caller → Standing q (effect p.config w (ContainerStep c f))
stands-by p q c f call m h there w s t op by = subst (λ z. Standing z (effect p.config w (ContainerStep c f))) (sym h.rest)
    (stands p w c f call.op m q.names q.living s t there op
    (subst (λ (x : Caller). q.names ≡ left_in f p.names (names.call_of p.names x call.op).1) (sym by) h.names)
    (subst (λ (x : Caller). Changes p.living c (Some (container.after m (Calls call.op (heard_in f (names.call_of p.names x call.op).0)))) q.living) (sym by)
    (subst (λ (o : Option container.Container). Changes p.living c (option_map (λ (n : container.Container). container.after n (Calls call.op (heard_in f (names.call_of p.names call.caller call.op).0))) o) q.living) there h.living)))

pub call-stands : (p q : Parts) (c : ContainerId) (f : Weather) (call : ContainerCall) → is_some (kept p.living c) ≡ true → ForeseesCall p c f (Ok (Some call)) → HasCalled p c f call q
    → (w : World) → Standing p w → IsTaken p.config w (ContainerStep c f) × Standing q (effect p.config w (ContainerStep c f))
call-stands p q c f call alive fore h w s = let m = some-of (kept p.living c) alive in let g = fore w s in (g.0, stands-by p q c f call m.0 h m.1 w s g.0 g.1 g.2)

pub alone : (p : Parts) (c : ContainerId) (f : Weather) → is_some (kept p.living c) ≡ true → ForeseesCall p c f (Ok None) → IsAlone p c f
alone p c f alive fore = record { lives = alive; now = λ w s. (fore w s).0; no_call = λ w s. (fore w s).1 }
