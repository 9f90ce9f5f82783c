-- Each event of a journal that is what was taken could happen when it came.
use Rattle.std.proofs.Common.{◌≡◌, ◌+◌, ◌<◌, ◌≤◌, ℕ, suc, refl, sym, ap, subst, Bool, true, false, List, [], ◌∷◌, ◌++◌, Option, Some, None, if◌then◌else◌, is_none, length, length-append, drop, arith}
use Rattle.std.proofs.lemmas.Bool.{and_parts, lt-ltb}
use Rattle.mr_world_model.specs.Packets.{Config}
use Rattle.mr_world_model.specs.World.{World, Event, opening_world}
use Rattle.mr_world_model.specs.Effect.{not_now, happens, run}
use Rattle.mr_world_model.specs.Sequential.{is_taken}
use Rattle.mr_world.specs.declared.limits.TheConstants.{MAX_EVENTS}
use Rattle.mr_world_state.specs.Limits.{within}
use Rattle.mr_world.specs.Journal.{run_of, taken}
use Rattle.mr_world.specs.Applying.{CanHappen}
use Rattle.mr_world.specs.Repeating.{CanFollow}
use Rattle.mr_world.proofs.Journals.{run-one}

-- ---- of a list no more are taken than it has

one-more : (b : Bool) (e : Event) (xs : List Event) (n : ℕ) → length xs ≤ n → length ((if b then e ∷ [] else []) ++ xs) ≤ suc n
one-more true e xs n few = omega (arith, few)
one-more false e xs n few = omega (arith, few)

taken-few : (cfg : Config) (w : World) (es : List Event) → length (taken cfg w es) ≤ length es
taken-few cfg w [] = omega arith
taken-few cfg w (e ∷ es) = one-more (is_taken cfg (within cfg) w e) e (taken cfg (happens cfg (within cfg) w e) es) (length es) (taken-few cfg (happens cfg (within cfg) w e) es)

-- ---- where all are taken

first-taken : (b : Bool) (e : Event) (xs es : List Event) → length xs ≤ length es → (if b then e ∷ [] else []) ++ xs ≡ e ∷ es → (b ≡ true) × (xs ≡ es)
first-taken true e xs es few same = (refl, ap (drop 1) same)
first-taken false e xs es few same = let long : length xs ≡ suc (length es) = ap length same in absurd (omega (arith, few, long))

no-reason : {A : Type 0} (o : Option A) → is_none o ≡ true → o ≡ None
no-reason None none = refl
no-reason (Some x) none = absurd (cc none)

can-happen-at : (cfg : Config) (before : List Event) (e : Event) → length before < MAX_EVENTS → is_taken cfg (within cfg) (run_of cfg before) e ≡ true → CanHappen (record { config = cfg; events = before }) e
can-happen-at cfg before e few is =
    let both = and_parts (is_none (not_now cfg (run_of cfg before) e)) (within cfg (run_of cfg before) e) is in
    record { now = no-reason (not_now cfg (run_of cfg before) e) both.0; fits = rw (lt-ltb (length before) MAX_EVENTS few) both.1 }

can-follow : (cfg : Config) (before es : List Event) → taken cfg (run_of cfg before) es ≡ es → length before + length es ≤ MAX_EVENTS → CanFollow cfg before es
can-follow cfg before [] is few = tt
can-follow cfg before (e ∷ es) is few =
    let w = run_of cfg before in
    let first = first-taken (is_taken cfg (within cfg) w e) e (taken cfg (happens cfg (within cfg) w e) es) es (taken-few cfg (happens cfg (within cfg) w e) es) is in
    let more = length-append before (e ∷ []) in (
      can-happen-at cfg before e (omega (arith, few)) first.0,
      can-follow cfg (before ++ e ∷ []) es (subst (λ v. taken cfg v es ≡ es) (sym (run-one cfg before e)) first.1) (omega (arith, few, more)),
    )

pub repeats-from-start : (cfg : Config) (es : List Event) → taken cfg opening_world es ≡ es → length es ≤ MAX_EVENTS → CanFollow cfg [] es
unfolding run
repeats-from-start cfg es is few = can-follow cfg [] es is (omega (arith, few))
