-- What the limits keep of every world that is reached.
use Rattle.std.proofs.Common.{◌≡◌, ◌+◌, ◌≤◌, refl, subst, Bool, true, false, ◌&&◌, List, [], ◌∷◌, None, is_none, length, length-append, arith}
use Rattle.std.proofs.lemmas.Bool.{and_parts, leb-true}
use Rattle.mr_packet.specs.declared.bag.TheConstants.{MAX_PACKETS}
use Rattle.mr_world_model.specs.Packets.{Config}
use Rattle.mr_world_model.specs.World.{World, Event, Start, opening_world, call_of}
use Rattle.mr_world_model.specs.Effect.{effect, run, happens, not_now}
use Rattle.mr_world_model.specs.Sending.{sent}
use Rattle.mr_world_model.proofs.Basic.{if_cases, is_none-eq}
use Rattle.mr_world_state.specs.Limits.{within, fits_own, fits_call, fits_bag}
use Rattle.mr_world_state.specs.Standing.{Reached, IsTaken}

-- ---- what holds at first, and is kept by each event that is taken

kept-by : (P : World → Type 0) (cfg : Config) (w : World) (e : Event) → P w → (IsTaken cfg w e → P (effect cfg w e)) → P (happens cfg (within cfg) w e)
unfolding happens
kept-by P cfg w e p kept = if_cases P (is_none (not_now cfg w e) && within cfg w e) (effect cfg w e) w
    (λ t. kept (record { now = is_none-eq (not_now cfg w e) (and_parts _ _ t).0; fits = (and_parts _ _ t).1 })) (λ f. p)

along-taken : (P : World → Type 0) (cfg : Config) → ((w : World) (e : Event) → P w → IsTaken cfg w e → P (effect cfg w e)) → (w : World) (es : List Event) → P w → P (run cfg (within cfg) w es)
unfolding run
along-taken P cfg kept w [] p = p
along-taken P cfg kept w (e ∷ es) p = along-taken P cfg kept (happens cfg (within cfg) w e) es (kept-by P cfg w e p (kept w e p))

pub reached-all : (P : World → Type 0) {cfg : Config} {w : World} → P opening_world → ((w : World) (e : Event) → P w → IsTaken cfg w e → P (effect cfg w e)) → Reached cfg w → P w
reached-all P {cfg} {w} first kept r = subst P r.is (along-taken P cfg kept opening_world r.events first)

-- ---- bag and fence

pub record Small (w : World) : Type 0 where
  pub bag : length w.bag ≤ MAX_PACKETS
  pub fence : w.fence ≤ 1000

pub record Fits (cfg : Config) (w : World) (e : Event) : Type 0 where
  pub own : fits_own w e ≡ true
  pub call : fits_call w (call_of cfg w e) ≡ true
  pub bag : fits_bag cfg w e ≡ true

pub fits-parts : (cfg : Config) (w : World) (e : Event) → within cfg w e ≡ true → Fits cfg w e
unfolding within
fits-parts cfg w e t = let own = and_parts (fits_own w e) _ t in let rest = and_parts (fits_call w (call_of cfg w e)) _ own.1 in record { own = own.0; call = rest.0; bag = rest.1 }

fence-on : (cfg : Config) (w : World) (e : Event) → w.fence ≤ 1000 → fits_own w e ≡ true → (effect cfg w e).fence ≤ 1000
fence-on cfg w (Start k kept) small own = leb-true k 1000 own
fence-on cfg w _ small own = small

small-on : (cfg : Config) (w : World) (e : Event) → Small w → IsTaken cfg w e → Small (effect cfg w e)
small-on cfg w e s t = let f = fits-parts cfg w e t.fits in let room : length w.bag + length (sent cfg w e) ≤ MAX_PACKETS = leb-true _ _ f.bag in
    record { bag = omega (arith, length-append w.bag (sent cfg w e)); fence = fence-on cfg w e s.fence f.own }

pub small : {cfg : Config} {w : World} → Reached cfg w → Small w
small {cfg} r = reached-all Small (record { bag = omega arith; fence = omega arith }) (small-on cfg) r

-- ---- an event that makes no store call, and whose packets find room, has its own limit alone

pub within-is : (cfg : Config) (w : World) (e : Event) → call_of cfg w e ≡ None → fits_bag cfg w e ≡ true → within cfg w e ≡ fits_own w e
unfolding within
within-is cfg w e c b = rw (c, b) (and-true (fits_own w e))
  where
    and-true : (b : Bool) → (b && (true && true)) ≡ b
    and-true true = refl
    and-true false = refl
