-- In every run bytes are handed in only where a container wishes them, and what lives was launched, once.
use Rattle.std.proofs.Common.{ℕ, ◌≡◌, ◌<◌, ◌^◌, refl, sym, ◌∙◌, ap, subst, Bool, true, false, ◌&&◌, List, [], ◌∷◌, Option, Some, None, is_none, length, slice_get, Ok, Err, ◌⊎◌, inl, inr}
use Rattle.std.proofs.lemmas.Bool.{and_parts, ltb-true}
use Rattle.std.specs.Prelude.{Result}
use Rattle.mr_names.specs.declared.fault.NameFault as faults
use Rattle.mr_names.specs.declared.op.Answer as answers
use Rattle.mr_names.specs.declared.op.Answer.TheVariants as kinds
use Rattle.mr_container.specs.declared.reply.Reply.TheVariants as replies
use Rattle.mr_container.specs.declared.wish.Wish as container_wish
use Rattle.mr_container.specs.declared.wish.Wish.TheVariants as wished
use Rattle.mr_container.specs.Readings as readings
use Rattle.mr_container.specs.Wished as called
use Rattle.mr_world_model.specs.Ids.{Attempt, ContainerId, dest}
use Rattle.mr_world_model.specs.Content.{Op}
use Rattle.mr_world_model.specs.Packets.{Config, Packet, Envelope, Address, Master, Container, Node}
use Rattle.mr_world_model.specs.Pasts.{as_wish, wish_of_seen, Step, Got, Sent, Computed, Called, Place, wish, computed}
use Rattle.mr_world_model.specs.World.{World, Event, Deliver, ContainerStep, Compute, Container_act, Obeyed, Weather, Calm, reply_under, as_heard, container_act, got_act, step_act, obeyed, opening_world, wish_at, op_at, packet_at, attempt_of, op_of, packet_of}
use Rattle.mr_world_model.specs.Effect.{effect, happens, not_now, run, wants_compute}
use Rattle.mr_world_model.specs.Claims.{Limits, world_of}
use Rattle.mr_world_model.specs.Stores.{reply_of_names}
use Rattle.mr_world_model.proofs.Stores.{stores_are_the_models}
use Rattle.mr_world_model.specs.Containers.{IsWished, AllWished}
use Rattle.mr_world_model.specs.Actors.{ContainersSay, BoundsBytes, BeginsOnce, PastsAreWished, AnswersAreHeard}
use Rattle.mr_world_model.proofs.Basic.{if_cases, is_none-eq}
use Rattle.mr_world_model.proofs.Wishes.{StepOk}
use Rattle.mr_world_model.proofs.Told_yes.{past_after, obeyed-new}
use Rattle.mr_world_model.proofs.Dirs.{Known, known_step}
use Rattle.mr_world_model.proofs.Found.{opening-sure}
use Rattle.mr_world_model.proofs.Reports.{place_was, steps-ok}
use Rattle.mr_world_model.proofs.Containers.{wish-agrees, calls-agree, callers-agree, packets-agree}

wants-is : (p : readings.Pieces) (v : container_wish.Wish) → wants_compute (as_wish p v) ≡ readings.is_computing v
wants-is p wished.Compute = refl
wants-is p v = refl

step-wished : (maps : ℕ) (x : Attempt) (h : List Step) (s : Step) → StepOk (wish maps x h) s → IsWished (readings.seen maps x h).wish s
step-wished maps x h (Computed bytes) o = sym (ap wants_compute (wish-agrees maps x h) ∙ wants-is (readings.seen maps x h).pieces (readings.seen maps x h).wish) ∙ o
step-wished maps x h (Got p) o = tt
step-wished maps x h (Sent p) o = tt
step-wished maps x h (Called op r) o = tt

-- what holds at first and is kept by each event that is taken within the limits holds after every list
along_within : (P : World → Type 0) (cfg : Config) (within : Limits) → ((w : World) (e : Event) → P w → not_now cfg w e ≡ None → within w e ≡ true → P (effect cfg w e)) → (w : World) (es : List Event) → P w → P (run cfg within w es)
unfolding run happens
along_within P cfg within kept w [] p = p
along_within P cfg within kept w (e ∷ es) p = along_within P cfg within kept (happens cfg within w e) es
    (if_cases P (is_none (not_now cfg w e) && within w e) (effect cfg w e) w (λ t. let u = and_parts _ _ t in kept w e p (is_none-eq _ u.0) u.1) (λ t. p))

-- what is known of each run besides: as wished, and short
record Wishes (cfg : Config) (bounds : Type 0) (w : World) : Type 0 where
  known : Known cfg w
  wished : (c : ContainerId) (p : Place) → w.place c ≡ Some p → AllWished (length cfg.splits) p.attempt (w.container_past c)
  short : bounds → (c : ContainerId) → length (computed (w.container_past c)) < 2 ^ 32

wished_after : (cfg : Config) (w : World) (e : Event) → Known cfg w → ((c : ContainerId) (p : Place) → w.place c ≡ Some p → AllWished (length cfg.splits) p.attempt (w.container_past c)) → not_now cfg w e ≡ None →
    (c : ContainerId) (p : Place) → (effect cfg w e).place c ≡ Some p → AllWished (length cfg.splits) p.attempt ((effect cfg w e).container_past c)
wished_after cfg w e kn old n c p q = by (place_was cfg w e kn.cluster kn.heard n c p q)
  where
    by : (w.place c ≡ Some p) ⊎ ((w.place c ≡ None) × ((effect cfg w e).container_past c ≡ [])) → AllWished (length cfg.splits) p.attempt ((effect cfg w e).container_past c)
    by (inr z) = subst (AllWished (length cfg.splits) p.attempt) (sym z.1) tt
    by (inl z) = past_after w (container_act cfg w e) c (AllWished (length cfg.splits) p.attempt) (old c p z)
        (λ a v m. (step-wished (length cfg.splits) p.attempt (w.container_past c) a.step (steps-ok cfg w e n a v c m p z), old c p z))

-- the bytes that an event hands in are short
abbrev ShortStep : Step → Type 0
ShortStep (Computed bytes) = length bytes < 2 ^ 32
ShortStep (Got p) = Unit {0}
ShortStep (Sent p) = Unit {0}
ShortStep (Called op r) = Unit {0}

abbrev ShortAct : Option Container_act → Type 0
ShortAct None = Unit {0}
ShortAct (Some a) = ShortStep a.step

computed-short : (s : Step) (h : List Step) → ShortStep s → length (computed h) < 2 ^ 32 → length (computed (s ∷ h)) < 2 ^ 32
unfolding computed
computed-short (Computed bytes) h o k = o
computed-short (Got p) h o k = k
computed-short (Sent p) h o k = k
computed-short (Called op r) h o k = k

got-short : (o : Option Envelope) → ShortAct (got_act o)
got-short None = tt
got-short (Some v) = to v.to v.body
  where
    to : (x : Address) (p : Packet) → ShortAct (got_act (Some (record { to = x; body = p })))
    to (Master k) p = tt
    to (Container c) p = tt
    to (Node n) p = tt

step-short : (w : World) (c : ContainerId) (f : Weather) (o : Option Op) (v : Option Envelope) → ShortAct (step_act w c f o v)
step-short w c f (Some op) v = tt
step-short w c f None (Some v) = tt
step-short w c f None None = tt

act-short : (cfg : Config) (within : Limits) → BoundsBytes within → (w : World) (e : Event) → within w e ≡ true → ShortAct (container_act cfg w e)
unfolding container_act
act-short cfg within bound w (Deliver i) l = got-short (slice_get w.bag i)
act-short cfg within bound w (ContainerStep c f) l = step-short w c f (op_of cfg w c) (packet_of cfg w c)
act-short cfg within bound w (Compute c bytes) l = bound w c bytes l
act-short cfg within bound w _ l = tt

short_after : (cfg : Config) (within : Limits) → BoundsBytes within → (w : World) (e : Event) → within w e ≡ true → ((c : ContainerId) → length (computed (w.container_past c)) < 2 ^ 32) → (c : ContainerId) → length (computed ((effect cfg w e).container_past c)) < 2 ^ 32
short_after cfg within bound w e l old c = past_after w (container_act cfg w e) c (λ h. length (computed h) < 2 ^ 32) (old c)
    (λ a v m. computed-short a.step (w.container_past c) (subst ShortAct v (act-short cfg within bound w e l)) (old c))

short-nil : length (computed []) < 2 ^ 32
unfolding computed
short-nil = ltb-true 0 (2 ^ 32) refl

wishes : (cfg : Config) (within : Limits) (es : List Event) → Wishes cfg (BoundsBytes within) (world_of cfg within es)
wishes cfg within es = along_within (Wishes cfg (BoundsBytes within)) cfg within kept opening_world es opening
  where
    opening : Wishes cfg (BoundsBytes within) opening_world
    opening = record { known = (opening-sure cfg).known; wished = λ c p q. cc; short = λ b c. short-nil }

    kept : (w : World) (e : Event) → Wishes cfg (BoundsBytes within) w → not_now cfg w e ≡ None → within w e ≡ true → Wishes cfg (BoundsBytes within) (effect cfg w e)
    kept w e o n l = record {
      known = known_step cfg w e o.known n;
      wished = wished_after cfg w e o.known o.wished n;
      short = λ b. short_after cfg within b w e l (o.short b);
    }

-- a machine that stands for its container's past says what the definitions say
pub containers_say : ContainersSay
containers_say cfg within bound es c m i = record {
  place = i.place ∙ ap Some (sym i.stands.place);
  wish = wish;
  computes = ap wants_compute wish ∙ wants-is m.seen.pieces m.seen.wish;
  call = ap (λ o. op_at cfg c o h) i.place ∙ (calls-agree n c.app x h all
      ∙ (λ j. called.wished_op dest (sym i.stands.id j).app (sym i.stands.place j).attempt (sym seen j).result (sym seen j).wish));
  caller = λ op q. ap (λ o. record { app = c.app; attempt = attempt_of o }) i.place
      ∙ (callers-agree n c x h op (ap (λ o. op_at cfg c o h) (sym i.place) ∙ q) ∙ (λ j. called.caller_of (sym i.stands.id j) (sym i.stands.place j).attempt));
  packet = ap (λ o. packet_at cfg c o h) i.place ∙ (packets-agree n c x h all (k.short bound c)
      ∙ (λ j. called.wished_packet (sym i.stands.id j) (sym i.stands.place j).attempt (sym seen j) (sym seen j).wish));
}
  where
    w : World
    w = world_of cfg within es

    k : Wishes cfg (BoundsBytes within) w
    k = wishes cfg within es

    n : ℕ
    n = length cfg.splits

    x : Attempt
    x = i.launched.attempt

    h : List Step
    h = w.container_past c

    seen : m.seen ≡ readings.seen n x h
    seen = i.stands.seen

    wish : wish_at cfg c (w.place c) h ≡ wish_of_seen m.seen
    wish = ap (λ o. wish_at cfg c o h) i.place ∙ (wish-agrees n x h ∙ ap wish_of_seen (sym seen))

    all : AllWished n x h
    all = k.wished c i.launched i.place

pub begins_once : BeginsOnce
begins_once = record {
  placed = λ cfg within es c a. (wishes cfg within es).known.cluster.alive c a;
  unborn = λ cfg within es e o n q. unborn cfg within es e o q;
}
  where
    unborn : (cfg : Config) (within : Limits) (es : List Event) (e : Event) (o : Obeyed) → obeyed (world_of cfg within es) e ≡ Some o →
        ((world_of cfg within es).place o.container ≡ None) × ((world_of cfg within es).container_past o.container ≡ []) × ((world_of cfg within es).is_alive o.container ≡ false)
    unborn cfg within es e o q =
        let kn = (wishes cfg within es).known in
        let none = obeyed-new cfg (world_of cfg within es) e kn.cluster o q in
        (none, kn.heard.unborn o.container none, dead kn none ((world_of cfg within es).is_alive o.container) refl)
      where
        dead : Known cfg (world_of cfg within es) → (world_of cfg within es).place o.container ≡ None → (b : Bool) → (world_of cfg within es).is_alive o.container ≡ b → b ≡ false
        dead kn none false a = refl
        dead kn none true a = let p = kn.cluster.alive o.container a in let e : None ≡ Some p.0 = sym none ∙ p.1 in cc

pub pasts_are_wished : PastsAreWished
pasts_are_wished cfg within es c p q = (wishes cfg within es).wished c p q

pub answers_are_heard : AnswersAreHeard
answers_are_heard = record { answered = answered; called = λ s w n c o l. ap (λ r. as_heard (reply_under Calm r)) (stores_are_the_models.names_reply s w n c o l) ∙ answered _; unavailable = λ r. refl; unanswered = λ r. refl }
  where
    answered : (r : Result answers.Answer faults.NameFault) → as_heard (reply_under Calm (reply_of_names r)) ≡ replies.Answered r
    answered (Ok kinds.Done) = refl
    answered (Ok (kinds.Listed entries)) = refl
    answered (Ok (kinds.Found kind)) = refl
    answered (Ok (kinds.Contents bytes)) = refl
    answered (Err f) = refl
