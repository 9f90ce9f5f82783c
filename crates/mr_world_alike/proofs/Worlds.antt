-- Where two runs have led to alike worlds, the same events lead to alike worlds, and alike worlds have one end.
use Rattle.std.proofs.Common.{ℕ, suc, ◌≡◌, refl, sym, ◌∙◌, ap, subst, Bool, true, false, ◌&&◌, List, [], ◌∷◌, ◌++◌, None, is_none, if◌then◌else◌}
use Rattle.std.proofs.lemmas.Bool.{and_parts}
use Rattle.mr_world_model.specs.Ids.{marker}
use Rattle.mr_world_model.specs.Content.{Content, entry_at, is_file}
use Rattle.mr_world_model.specs.Records.{records_below, winner_in}
use Rattle.mr_world_model.specs.Packets.{Config}
use Rattle.mr_world_model.specs.World.{World, Event, Start, Crash, Duty, LaunchOn, Deliver, ContainerStep, Compute, Die, NodeRestart, Expire, opening_world}
use Rattle.mr_world_model.specs.Effect.{not_now, effect, happens, run}
use Rattle.mr_world_model.specs.Claims.{Limits, world_of}
use Rattle.mr_world_model.specs.Results.{visible_in}
use Rattle.mr_world_model.specs.Actors.{BoundsBytes}
use Rattle.mr_world_model.proofs.Basic.{is_none-eq, run-append}
use Rattle.mr_world_alike.specs.Alike.{Alike, IsSame}
use Rattle.mr_world_alike.specs.Laws.{StayAlike, WhatIsAlikeStaysAlike, AreSame, AlikeRunsStayAlike, AlikeWorldsEndTheSame}
use Rattle.mr_world_alike.proofs.Raised.{Same, to-alike, to-same}
use Rattle.mr_world_alike.proofs.Events.{Follows, start-permitted, start-follows, crash-permitted, crash-follows, duty-permitted, duty-follows, launch-permitted, launch-follows, expire-permitted, expire-follows}
use Rattle.mr_world_alike.proofs.Delivered.{deliver-permitted, deliver-follows}
use Rattle.mr_world_alike.proofs.Stepped.{step-permitted, step-follows, bytes-permitted, bytes-follow, die-permitted, die-follows, restart-permitted, restart-follows}

stay-from : (cfg : Config) (w u : World) (x y : Event) → not_now cfg w x ≡ not_now cfg u y → (not_now cfg w x ≡ None → Follows cfg w u x y) → StayAlike cfg w u x y
stay-from cfg w u x y p f = record { permitted = p; sends = λ n. let o = f n in o.sends; left = λ n. let o = f n in to-alike cfg (effect cfg w x) (effect cfg u y) o.left }

module _ (cfg : Config) (within : Limits) (bound : BoundsBytes within) (es fs : List Event) (e : Same cfg (world_of cfg within es) (world_of cfg within fs)) where
  abbrev W : World
  W = world_of cfg within es

  abbrev U : World
  U = world_of cfg within fs

  delivered : (i j : ℕ) → IsSame W U (Deliver i) (Deliver j) → StayAlike cfg W U (Deliver i) (Deliver j)
  delivered i j s = stay-from cfg W U (Deliver i) (Deliver j) (deliver-permitted cfg within bound es fs e i j s) (deliver-follows cfg within bound es fs e i j s)

  own : (x y : Event) → StayAlike cfg W U x x → x ≡ y → StayAlike cfg W U x y
  own x y o p = subst (λ (z : Event). StayAlike cfg W U x z) p o

  stays : (x y : Event) → IsSame W U x y → StayAlike cfg W U x y
  stays (Deliver i) (Deliver j) s = delivered i j s
  stays (Deliver i) y s = absurd s
  stays (Start k kept) y s = own (Start k kept) y (stay-from cfg W U (Start k kept) (Start k kept) (start-permitted cfg within bound es fs e k kept) (start-follows cfg within bound es fs e k kept)) s
  stays (Crash k kept) y s = own (Crash k kept) y (stay-from cfg W U (Crash k kept) (Crash k kept) (crash-permitted cfg within bound es fs e k kept) (λ n. crash-follows cfg within bound es fs e k kept)) s
  stays (Duty k f) y s = own (Duty k f) y (stay-from cfg W U (Duty k f) (Duty k f) (duty-permitted cfg within bound es fs e k f) (duty-follows cfg within bound es fs e k f)) s
  stays (LaunchOn k t n) y s = own (LaunchOn k t n) y (stay-from cfg W U (LaunchOn k t n) (LaunchOn k t n) (launch-permitted cfg within bound es fs e k t n) (launch-follows cfg within bound es fs e k t n)) s
  stays (Expire k n) y s = own (Expire k n) y (stay-from cfg W U (Expire k n) (Expire k n) (expire-permitted cfg within bound es fs e k n) (expire-follows cfg within bound es fs e k n)) s
  stays (ContainerStep c f) y s = own (ContainerStep c f) y (stay-from cfg W U (ContainerStep c f) (ContainerStep c f) (step-permitted cfg within bound es fs e c f) (step-follows cfg within bound es fs e c f)) s
  stays (Compute c bytes) y s = own (Compute c bytes) y (stay-from cfg W U (Compute c bytes) (Compute c bytes) (bytes-permitted cfg within bound es fs e c bytes) (bytes-follow cfg within bound es fs e c bytes)) s
  stays (Die c) y s = own (Die c) y (stay-from cfg W U (Die c) (Die c) (die-permitted cfg within bound es fs e c) (λ n. die-follows cfg within bound es fs e c)) s
  stays (NodeRestart n) y s = own (NodeRestart n) y (stay-from cfg W U (NodeRestart n) (NodeRestart n) (restart-permitted cfg within bound es fs e n) (restart-follows cfg within bound es fs e n)) s

pub what_stays : (cfg : Config) (within : Limits) → BoundsBytes within → WhatIsAlikeStaysAlike cfg within
what_stays cfg within bound es fs x y e s = stays cfg within bound es fs (to-same cfg within es fs e) x y s

-- ---- lists of events

happens-alike : (cfg : Config) (within : Limits) (w u : World) (x y : Event) → Alike cfg w u → StayAlike cfg w u x y → within w x ≡ within u y → Alike cfg (happens cfg within w x) (happens cfg within u y)
unfolding happens
happens-alike cfg within w u x y e o l = by (is_none (not_now cfg w x) && within w x) (is_none (not_now cfg u y) && within u y) (λ i. is_none (o.permitted i) && l i)
    (λ t. let both = and_parts (is_none (not_now cfg w x)) (within w x) t in o.left (is_none-eq (not_now cfg w x) both.0))
  where
    by : (b c : Bool) → b ≡ c → (b ≡ true → Alike cfg (effect cfg w x) (effect cfg u y)) → Alike cfg (if b then effect cfg w x else w) (if c then effect cfg u y else u)
    by true c p f = subst (λ (d : Bool). Alike cfg (effect cfg w x) (if d then effect cfg u y else u)) p (f refl)
    by false c p f = subst (λ (d : Bool). Alike cfg w (if d then effect cfg u y else u)) p e

run-more : (cfg : Config) (within : Limits) (es : List Event) (x : Event) → world_of cfg within (es ++ x ∷ []) ≡ happens cfg within (world_of cfg within es) x
unfolding run
run-more cfg within es x = run-append cfg within opening_world es (x ∷ [])

module _ (cfg : Config) (within : Limits) (bound : BoundsBytes within) where
  at : (es fs : List Event) (w u : World) → w ≡ world_of cfg within es → u ≡ world_of cfg within fs → (x y : Event) → Alike cfg w u → IsSame w u x y → StayAlike cfg w u x y
  at es fs w u p q x y =
      let P : World → Type 0 = λ z. Alike cfg z u → IsSame z u x y → StayAlike cfg z u x y in
      let Q : World → Type 0 = λ z. Alike cfg (world_of cfg within es) z → IsSame (world_of cfg within es) z x y → StayAlike cfg (world_of cfg within es) z x y in
      subst P (sym p) (subst Q (sym q) (what_stays cfg within bound es fs x y))

  along : (gs hs : List Event) (es fs : List Event) (w u : World) → w ≡ world_of cfg within es → u ≡ world_of cfg within fs → Alike cfg w u → AreSame cfg within w u gs hs → Alike cfg (run cfg within w gs) (run cfg within u hs)
  unfolding run
  along [] [] es fs w u p q e s = e
  along [] (h ∷ hs) es fs w u p q e s = absurd s
  along (g ∷ gs) [] es fs w u p q e s = absurd s
  along (g ∷ gs) (h ∷ hs) es fs w u p q e s =
      along gs hs (es ++ g ∷ []) (fs ++ h ∷ []) (happens cfg within w g) (happens cfg within u h)
      (ap (λ z. happens cfg within z g) p ∙ sym (run-more cfg within es g)) (ap (λ z. happens cfg within z h) q ∙ sym (run-more cfg within fs h))
      (happens-alike cfg within w u g h e (at es fs w u p q g h e s.0) s.1) s.2

  pub runs_stay : AlikeRunsStayAlike cfg within
  runs_stay es fs gs hs e s =
      let P : World → Type 0 = λ z. Alike cfg z (world_of cfg within (fs ++ hs)) in
      let Q : World → Type 0 = λ z. Alike cfg (run cfg within (world_of cfg within es) gs) z in
      subst P (sym (run-append cfg within opening_world es gs)) (subst Q (sym (run-append cfg within opening_world fs hs))
      (along gs hs es fs (world_of cfg within es) (world_of cfg within fs) refl refl e s))

-- ---- ends

pub ends_are_one : AlikeWorldsEndTheSame
ends_are_one cfg within es fs alike =
    let e = to-same cfg within es fs alike in
    record {
      winners = λ t. λ i. winner_in (records_below (λ j. e.history j i) (suc (e.fence i))) t;
      marked = ap (λ (c : Content). is_file (entry_at c marker)) e.content;
      told = e.told;
      files = ap (λ (c : Content). visible_in c) e.content;
    }
