-- Over every faithful list of events: what a reduce's container computed is the text of the sequential execution.
use Rattle.std.proofs.Common.{ℕ, zero, suc, ◌≤◌, ◌≡◌, refl, sym, ◌∙◌, ap, subst, Bool, true, false, ◌&&◌, List, [], ◌∷◌, ◌++◌, Option, Some, None, if◌then◌else◌, is_none, nat_lt, ◌⊎◌, inl, inr, append_assoc, arith, length, slice_get}
use Rattle.std.specs.Option.{option_and_then, option_map}
use Rattle.std.proofs.lemmas.Bool.{and_parts, false≢true}
use Rattle.mr_world_model.specs.Ids.{Attempt, ContainerId, TaskId, is_reduce}
use Rattle.mr_world_model.specs.Content.{Op}
use Rattle.mr_world_model.specs.Records.{Record, ReduceSucceeded, History, records_below}
use Rattle.mr_world_model.specs.Packets.{Config, Packet, Envelope, Address, Master, Container, Node}
use Rattle.mr_world_model.specs.Pasts.{Place, Step, Got, Sent, Computed, Called, To_ask_where, To_compute, wish, fetched, computed}
use Rattle.mr_container.specs.Readings as container
use Rattle.mr_world_model.proofs.Nexts.{wish-first, wish-step, fetched-step}
use Rattle.mr_world_model.specs.World.{World, Event, Deliver, ContainerStep, Compute, Weather, Container_act, container_act, got_act, step_act, op_of, packet_of, opening_world}
use Rattle.mr_world_model.specs.Sending.{sent}
use Rattle.mr_world_model.specs.Effect.{effect, not_now, happens, run, wants_compute}
use Rattle.mr_world_model.specs.Claims.{In, Limits, world_of, winner}
use Rattle.mr_world_model.specs.Sequential.{Job, JobLaws, Split, Pieces, given, input_at, made_of, CarriesDefinition, is_taken, IsFaithful, BoundsOutputs, WholeIsSequential, MarkedFilesAreSequential, most_output}
use Rattle.mr_world_model.proofs.Basic.{if_cases, is_none-eq}
use Rattle.mr_world_model.proofs.Lists.{Each, Each-append, Each-In, In-parts, In-left}
use Rattle.mr_world_model.proofs.Told_yes.{past_after, act-comes, ActComes, Comes}
use Rattle.mr_world_model.proofs.Wishes.{is_late, StepOk}
use Rattle.mr_world_model.proofs.Reports.{wish_as, place_was, steps-ok}
use Rattle.mr_world_model.proofs.Fates.{winner-In}
use Rattle.mr_world_model.proofs.Outcomes.{marker_means_complete}
use Rattle.mr_world_model.proofs.Dirs.{Known, known_step}
use Rattle.mr_world_model.proofs.Found.{opening-sure, always}
use Rattle.mr_world_model.proofs.Fetching.{Early, asks-early, CameFits, early-next, IsText, ResultFits, late-text}
use Rattle.mr_world_model.proofs.Carried.{IsOutput, ShelfFits, nothing-fits, HandsIn, shelf_after, EnvelopeCarries, arrives, bag_after, sent-carries}

-- what a reduce's container has fetched, or computed
pub record Gathers (job : Job) (cfg : Config) (x : Attempt) (h : List Step) : Type 0 where
  pub early : Early job cfg x.task.number (fetched (length cfg.splits) x h) (wish (length cfg.splits) x h)
  pub late : is_late (wish (length cfg.splits) x h) ≡ true → IsText job cfg x.task.number (computed h)

pub record Carried (job : Job) (cfg : Config) (w : World) : Type 0 where
  pub shelves : (n : ℕ) → ShelfFits job cfg (w.node_past n)
  pub packets : Each (EnvelopeCarries job cfg w) w.bag
  pub containers : (c : ContainerId) (p : Place) → w.place c ≡ Some p → is_reduce p.attempt ≡ true → Gathers job cfg p.attempt (w.container_past c)

-- what an event that is taken hands in
pub record Hands (job : Job) (cfg : Config) (w : World) (e : Event) : Type 0 where
  pub definition : CarriesDefinition job cfg w e
  pub short : (c : ContainerId) (bytes : List ℕ) (p : Place) → e ≡ Compute c bytes → w.place c ≡ Some p → is_reduce p.attempt ≡ false → length bytes ≤ most_output

-- the definition's bytes of a container's input
abbrev Makes : Job → Config → Option Place → List Step → List ℕ → Type 0
Makes job cfg p h bytes = option_and_then (made_of job cfg) (input_at cfg p h) ≡ Some bytes

-- the container computes then
makes-given : (job : Job) (cfg : Config) (p : Place) (h : List Step) (bytes : List ℕ) → Makes job cfg (Some p) h bytes → option_and_then (made_of job cfg) (given cfg p.attempt h) ≡ Some bytes
makes-given job cfg p h bytes = by (wants_compute (wish (length cfg.splits) p.attempt h))
  where
    by : (t : Bool) → option_and_then (made_of job cfg) (if t then given cfg p.attempt h else None) ≡ Some bytes → option_and_then (made_of job cfg) (given cfg p.attempt h) ≡ Some bytes
    by true e = e
    by false e = cc

map-work : (job : Job) (cfg : Config) (p : Place) (h : List Step) (bytes : List ℕ) → is_reduce p.attempt ≡ false → Makes job cfg (Some p) h bytes → length bytes ≤ most_output → IsOutput job cfg p.attempt.task.number bytes
map-work job cfg p h bytes r e s =
    by (slice_get cfg.splits p.attempt.task.number) refl (subst (λ b. option_and_then (made_of job cfg) (if b then Some (Pieces p.attempt.task.number (fetched (length cfg.splits) p.attempt h)) else option_map (Split p.attempt.task.number) (slice_get cfg.splits p.attempt.task.number)) ≡ Some bytes) r (makes-given job cfg p h bytes e))
  where
    by : (o : Option (List ℕ)) → slice_get cfg.splits p.attempt.task.number ≡ o → option_and_then (made_of job cfg) (option_map (Split p.attempt.task.number) o) ≡ Some bytes → IsOutput job cfg p.attempt.task.number bytes
    by None q e = cc
    by (Some split) q e = record { split = split; of_map = q; is = e; short = s }

hands-in : (job : Job) (cfg : Config) (w : World) (e : Event) → Hands job cfg w e → HandsIn job cfg w e
hands-in job cfg w e h c bytes p q r m =
    let d : Makes job cfg (w.place c) (w.container_past c) bytes = subst (CarriesDefinition job cfg w) q h.definition in
    map-work job cfg p (w.container_past c) bytes m (subst (λ o. Makes job cfg o (w.container_past c) bytes) r d) (h.short c bytes p q r m)

-- the result that an event adds to a container's past
abbrev pub StepHands : Job → Config → World → ContainerId → Step → Type 0
StepHands job cfg w c (Computed bytes) = Makes job cfg (w.place c) (w.container_past c) bytes
StepHands job cfg w c (Got p) = Unit {0}
StepHands job cfg w c (Sent p) = Unit {0}
StepHands job cfg w c (Called op r) = Unit {0}

abbrev ActHands : Job → Config → World → Option Container_act → Type 0
ActHands job cfg w None = Unit {0}
ActHands job cfg w (Some a) = StepHands job cfg w a.who a.step

got-hands : (job : Job) (cfg : Config) (w : World) (o : Option Envelope) → ActHands job cfg w (got_act o)
got-hands job cfg w None = tt
got-hands job cfg w (Some v) = to v.to v.body
  where
    to : (x : Address) (p : Packet) → ActHands job cfg w (got_act (Some (record { to = x; body = p })))
    to (Master k) p = tt
    to (Container c) p = tt
    to (Node n) p = tt

step-hands : (job : Job) (cfg : Config) (w : World) (c : ContainerId) (f : Weather) (o : Option Op) (v : Option Envelope) → ActHands job cfg w (step_act w c f o v)
step-hands job cfg w c f (Some op) v = tt
step-hands job cfg w c f None (Some v) = tt
step-hands job cfg w c f None None = tt

act-hands : (job : Job) (cfg : Config) (w : World) (e : Event) → CarriesDefinition job cfg w e → ActHands job cfg w (container_act cfg w e)
unfolding container_act
act-hands job cfg w (Deliver i) d = got-hands job cfg w (slice_get w.bag i)
act-hands job cfg w (ContainerStep c f) d = step-hands job cfg w c f (op_of cfg w c) (packet_of cfg w c)
act-hands job cfg w (Compute c b) d = d
act-hands job cfg w _ d = tt

result-fits : (job : Job) (cfg : Config) (w : World) (c : ContainerId) (p : Place) (s : Step) → w.place c ≡ Some p → is_reduce p.attempt ≡ true → StepHands job cfg w c s → ResultFits job (fetched (length cfg.splits) p.attempt (w.container_past c)) s
result-fits job cfg w c p (Computed bytes) q r d =
    subst (λ b. option_and_then (made_of job cfg) (if b then Some (Pieces p.attempt.task.number (fetched (length cfg.splits) p.attempt (w.container_past c))) else option_map (Split p.attempt.task.number) (slice_get cfg.splits p.attempt.task.number)) ≡ Some bytes) r
    (makes-given job cfg p (w.container_past c) bytes (subst (λ o. Makes job cfg o (w.container_past c) bytes) q d))
result-fits job cfg w c p (Got v) q r d = tt
result-fits job cfg w c p (Sent v) q r d = tt
result-fits job cfg w c p (Called op v) q r d = tt

came-fits : (job : Job) (cfg : Config) (w : World) (c : ContainerId) (p : Place) (s : Step) → w.place c ≡ Some p → Each (EnvelopeCarries job cfg w) w.bag → Comes w c s → CameFits job cfg p.attempt s
came-fits job cfg w c p (Got b) q o i = arrives job cfg w c p q b (Each-In (EnvelopeCarries job cfg w) w.bag o _ i)
came-fits job cfg w c p (Sent b) q o i = tt
came-fits job cfg w c p (Computed bytes) q o i = tt
came-fits job cfg w c p (Called op r) q o i = tt

-- a step more
gathers-step : (job : Job) (cfg : Config) (x : Attempt) (h : List Step) (s : Step) → JobLaws job cfg → StepOk (wish (length cfg.splits) x h) s → CameFits job cfg x s → ResultFits job (fetched (length cfg.splits) x h) s →
    Gathers job cfg x h → Gathers job cfg x (s ∷ h)
gathers-step job cfg x h s laws k c r g = record {
  early = rw (fetched-step (length cfg.splits) x h s, wish-step (length cfg.splits) x h s) (early-next job cfg x (fetched (length cfg.splits) x h) (wish (length cfg.splits) x h) s k c g.early);
  late = λ e. late-text job cfg x (fetched (length cfg.splits) x h) h (wish (length cfg.splits) x h) s laws k r g.early g.late (ap is_late (sym (wish-step (length cfg.splits) x h s)) ∙ e);
}

-- a container that has done nothing
gathers-first : (job : Job) (cfg : Config) (x : Attempt) → is_reduce x ≡ true → Gathers job cfg x []
unfolding fetched container.seen
gathers-first job cfg x r = record {
  early = rw (wish-first (length cfg.splits) x, r) (asks-early job cfg x.task.number 0 [] (omega arith) refl);
  late = rw (wish-first (length cfg.splits) x, r) (λ e. absurd (false≢true (sym (if_cases (λ v. is_late v ≡ false) (nat_lt 0 (length cfg.splits)) (To_ask_where 0) To_compute (λ t. refl) (λ t. refl)) ∙ e)));
}

containers_after : (job : Job) (cfg : Config) (w : World) (e : Event) → JobLaws job cfg → Known cfg w → Carried job cfg w → Hands job cfg w e → not_now cfg w e ≡ None → (c : ContainerId) (p : Place) → (effect cfg w e).place c ≡ Some p → is_reduce p.attempt ≡ true →
    Gathers job cfg p.attempt ((effect cfg w e).container_past c)
containers_after job cfg w e laws kn o h n c p q r = by (place_was cfg w e kn.cluster kn.heard n c p q)
  where
    by : (w.place c ≡ Some p) ⊎ ((w.place c ≡ None) × ((effect cfg w e).container_past c ≡ [])) → Gathers job cfg p.attempt ((effect cfg w e).container_past c)
    by (inr z) = subst (Gathers job cfg p.attempt) (sym z.1) (gathers-first job cfg p.attempt r)
    by (inl z) = past_after w (container_act cfg w e) c (Gathers job cfg p.attempt) (o.containers c p z r)
        (λ a v m.
        let u : ActComes w (Some a) = subst (ActComes w) v (act-comes cfg w e n) in
        let d : ActHands job cfg w (Some a) = subst (ActHands job cfg w) v (act-hands job cfg w e h.definition) in
        gathers-step job cfg p.attempt (w.container_past c) a.step laws (steps-ok cfg w e n a v c m p z) (came-fits job cfg w c p a.step z o.packets (subst (λ y. Comes w y a.step) (sym m) u.1))
        (result-fits job cfg w c p a.step z r (subst (λ y. StepHands job cfg w y a.step) (sym m) d)) (o.containers c p z r))

pub carried : (job : Job) (cfg : Config) (w : World) (e : Event) → JobLaws job cfg → Known cfg w → Carried job cfg w → Hands job cfg w e → not_now cfg w e ≡ None → Carried job cfg (effect cfg w e)
carried job cfg w e laws kn o h n = record {
  shelves = λ m. shelf_after job cfg w e m (hands-in job cfg w e h) (o.shelves m);
  packets = Each-append (EnvelopeCarries job cfg (effect cfg w e)) w.bag (sent cfg w e) (bag_after job cfg w e kn.cluster w.bag o.packets) (sent-carries job cfg w e laws kn.cluster o.shelves o.packets);
  containers = containers_after job cfg w e laws kn o h n;
}

opening-carried : (job : Job) (cfg : Config) → Carried job cfg opening_world
opening-carried job cfg = record { shelves = λ n. nothing-fits job cfg; packets = tt; containers = λ c p e. cc }

-- Over lists

-- each result that is taken from here on is the definition's
abbrev FaithfulFrom : Job → Config → Limits → World → List Event → Type 0
FaithfulFrom job cfg within w es = (before after : List Event) (e : Event) → es ≡ before ++ e ∷ after → is_taken cfg within (run cfg within w before) e ≡ true → CarriesDefinition job cfg (run cfg within w before) e

pub along_faithful : (P : World → Type 0) (job : Job) (cfg : Config) (within : Limits) →
    ((w : World) (e : Event) → P w → not_now cfg w e ≡ None → within w e ≡ true → CarriesDefinition job cfg w e → P (effect cfg w e)) →
    (w : World) (es : List Event) → FaithfulFrom job cfg within w es → P w → P (run cfg within w es)
unfolding run happens
along_faithful P job cfg within kept w [] f p = p
along_faithful P job cfg within kept w (e ∷ es) f p =
    along_faithful P job cfg within kept (happens cfg within w e) es (λ before after d q t. f (e ∷ before) after d (ap (λ z. e ∷ z) q) t)
    (if_cases P (is_none (not_now cfg w e) && within w e) (effect cfg w e) w
    (λ t. let u = and_parts _ _ t in kept w e p (is_none-eq _ u.0) u.1 (f [] es e refl t)) (λ t. p))

record Both (job : Job) (cfg : Config) (w : World) : Type 0 where
  known : Known cfg w
  carries : Carried job cfg w

carried-always : (job : Job) (cfg : Config) (within : Limits) → JobLaws job cfg → BoundsOutputs within → (es : List Event) → IsFaithful job cfg within es → Both job cfg (world_of cfg within es)
carried-always job cfg within laws bound es f = along_faithful (Both job cfg) job cfg within kept opening_world es f (record { known = (opening-sure cfg).known; carries = opening-carried job cfg })
  where
    kept : (w : World) (e : Event) → Both job cfg w → not_now cfg w e ≡ None → within w e ≡ true → CarriesDefinition job cfg w e → Both job cfg (effect cfg w e)
    kept w e b n l d = record {
      known = known_step cfg w e b.known n;
      carries = carried job cfg w e laws b.known b.carries (record { definition = d; short = λ c bytes p q r m. bound w c p bytes r m (subst (λ z. within w z ≡ true) q l) }) n;
    }

-- a reduce's whole output
pub whole_is_sequential : (job : Job) (cfg : Config) (within : Limits) → JobLaws job cfg → BoundsOutputs within → WholeIsSequential job cfg within
whole_is_sequential job cfg within laws bound es f a bytes r x = by (carried-always job cfg within laws bound es f)
  where
    by : Both job cfg (world_of cfg within es) → job.sequential cfg.reduces a.task.number cfg.splits ≡ Some bytes
    by b =
        let late : is_late (wish_as cfg (world_of cfg within es) x.0 x.1) ≡ true = sym (b.known.reports.late x.0 x.1 x.2) ∙ x.5 in
        let g = b.carries.containers x.0 x.1 x.2 (subst (λ (z : Attempt). (is_reduce z) ≡ true) (sym x.3) r) in
        subst (λ (z : Attempt). job.sequential cfg.reduces z.task.number cfg.splits ≡ Some bytes) x.3 (subst (λ z. job.sequential cfg.reduces x.1.attempt.task.number cfg.splits ≡ Some z) x.4 (g.late late))

-- a record is of one generation
among-stable : (h : History) (n : ℕ) (r : Record) → In r (records_below h n) → (k : ℕ) × In r (h k).stable
unfolding records_below
among-stable h zero r i = absurd i
among-stable h (suc n) r i = by (In-parts r (records_below h n) (h n).stable i) (among-stable h n r)
  where
    by : In r (records_below h n) ⊎ In r (h n).stable → (In r (records_below h n) → (k : ℕ) × In r (h k).stable) → (k : ℕ) × In r (h k).stable
    by (inl j) f = f j
    by (inr j) f = (n, j)

-- a winner is an attempt of its reduce
pub winner-of : (cfg : Config) (w : World) → Known cfg w → (t : TaskId) (a : Attempt) → winner w t ≡ Some a → (is_reduce a ≡ true) × (a.task ≡ t)
winner-of cfg w kn t a e =
    let i = winner-In (records_below w.history (suc w.fence)) t a e in
    let k = among-stable w.history (suc w.fence) (ReduceSucceeded a i.0) i.1 in
    ((kn.honest.held k.0 a i.0 (In-left (ReduceSucceeded a i.0) (w.history k.0).stable (w.history k.0).tail k.1)).1, i.2)

-- a marker means the winners' whole files, and these are the sequential execution's
pub marked_files_are_sequential : (job : Job) (cfg : Config) (within : Limits) → JobLaws job cfg → BoundsOutputs within → MarkedFilesAreSequential job cfg within
marked_files_are_sequential job cfg within laws bound es f m t l =
    let c = (marker_means_complete cfg within es m).files t l in
    let o = winner-of cfg (world_of cfg within es) (always cfg within es).known t c.0 c.2 in
    (c.1, subst (λ (z : TaskId). job.sequential cfg.reduces z.number cfg.splits ≡ Some c.1) o.1 (whole_is_sequential job cfg within laws bound es f c.0 c.1 o.0 c.3), c.4)

-- Lists that grow

pub faithful-front : (job : Job) (cfg : Config) (within : Limits) (es fs : List Event) → IsFaithful job cfg within (es ++ fs) → IsFaithful job cfg within es
faithful-front job cfg within es fs f before after e q t = f before (after ++ fs) e (ap (λ z. z ++ fs) q ∙ append_assoc before (e ∷ after) fs) t

-- the last event of a list, or one before it
at-last : (es : List Event) (x : Event) (before after : List Event) (e : Event) → es ++ x ∷ [] ≡ before ++ e ∷ after →
    ((es ≡ before) × (x ≡ e)) ⊎ ((rest : List Event) × (es ≡ before ++ e ∷ rest))
at-last [] x [] after e q = inl (refl, cc)
at-last [] x (b ∷ []) after e q = cc
at-last [] x (b ∷ c ∷ before) after e q = cc
at-last (y ∷ es) x [] after e q = let f : y ≡ e = cc in inr (es, ap (λ z. z ∷ es) f)
at-last (y ∷ es) x (b ∷ before) after e q = by (at-last es x before after e cc)
  where
    b-is : y ≡ b
    b-is = cc

    by : ((es ≡ before) × (x ≡ e)) ⊎ ((rest : List Event) × (es ≡ before ++ e ∷ rest)) → ((y ∷ es ≡ b ∷ before) × (x ≡ e)) ⊎ ((rest : List Event) × (y ∷ es ≡ b ∷ before ++ e ∷ rest))
    by (inl p) = inl ((λ i. b-is i ∷ p.0 i), p.1)
    by (inr p) = inr (p.0, λ i. b-is i ∷ p.1 i)

-- an event more: refused, no result, or the definition's
pub faithful-more : (job : Job) (cfg : Config) (within : Limits) (es : List Event) (x : Event) → IsFaithful job cfg within es →
    (is_taken cfg within (world_of cfg within es) x ≡ true → CarriesDefinition job cfg (world_of cfg within es) x) → IsFaithful job cfg within (es ++ x ∷ [])
faithful-more job cfg within es x f g before after e q = by (at-last es x before after e q)
  where
    Out : List Event → Event → Type 0
    Out before e = is_taken cfg within (world_of cfg within before) e ≡ true → CarriesDefinition job cfg (world_of cfg within before) e

    by : ((es ≡ before) × (x ≡ e)) ⊎ ((rest : List Event) × (es ≡ before ++ e ∷ rest)) → Out before e
    by (inl p) = subst (λ z. Out z e) p.0 (subst (Out es) p.1 g)
    by (inr p) = f before p.0 e p.1

pub faithful-none : (job : Job) (cfg : Config) (within : Limits) → IsFaithful job cfg within []
faithful-none job cfg within [] after e q = cc
faithful-none job cfg within (b ∷ before) after e q = cc
