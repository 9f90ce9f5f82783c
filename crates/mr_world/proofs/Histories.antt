-- What a journal's events leave of the job history's bytes.
use Rattle.std.proofs.Common.{◌≡◌, ℕ, refl, ◌∙◌, List, [], ◌∷◌, ◌++◌, true, false, Bool, ◌&&◌, nat_lt, nat_le, ◌≤◌, arith, if◌then◌else◌}
use Rattle.std.proofs.lemmas.Bool.Decides.{nat_tests}
use Rattle.mr_history.specs.State.{State}
use Rattle.mr_history.specs.Calls as segments
use Rattle.mr_world_model.specs.Packets.{Config}
use Rattle.mr_world_model.specs.World.{World, Event, opening_world}
use Rattle.mr_world_model.specs.Effect.{happens, run}
use Rattle.mr_world_state.specs.Histories.{change_of, changed, opening_history}
use Rattle.mr_world_state.specs.Limits.{within}
use Rattle.mr_world.specs.Histories.{changed_by, history_of, stable_bytes}
use Rattle.mr_world.specs.Journal.{run_of}

-- ---- one event more

changed-append : (cfg : Config) (w : World) (h : State) (es fs : List Event) → changed_by cfg w h (es ++ fs) ≡ changed_by cfg (run cfg (within cfg) w es) (changed_by cfg w h es) fs
unfolding run
changed-append cfg w h [] fs = refl
changed-append cfg w h (e ∷ es) fs = changed-append cfg (happens cfg (within cfg) w e) (changed h (change_of cfg w e)) es fs

pub history-one : (cfg : Config) (es : List Event) (e : Event) → history_of cfg (es ++ e ∷ []) ≡ changed (history_of cfg es) (change_of cfg (run_of cfg es) e)
history-one cfg es e = changed-append cfg opening_world opening_history es (e ∷ [])

-- ---- what is read

none-if : (a b : Bool) (xs : List ℕ) → (a ≡ true → b ≡ true → ⊥) → [] ≡ (if a && b then xs else [])
none-if true true xs n = absurd (n refl refl)
none-if true false xs n = refl
none-if false b xs n = refl

pub no-bytes : (h : State) (k : ℕ) → h.fence ≤ 1000 → ((1 ≤ k) × (k ≤ h.fence) × (k ≤ 1000) → ⊥) → [] ≡ stable_bytes h k
no-bytes h k most n = none-if (nat_lt 0 k) (nat_le k h.fence) (segments.segment h k).stable (λ a b. n (from k a, to k h.fence b, below k h.fence 1000 (to k h.fence b) most))
  where
    from : (k : ℕ) → nat_lt 0 k ≡ true → 1 ≤ k
    from k e = grind (arith, nat_tests, e)

    to : (k m : ℕ) → nat_le k m ≡ true → k ≤ m
    to k m e = grind (arith, nat_tests, e)

    below : (k m n : ℕ) → k ≤ m → m ≤ n → k ≤ n
    below k m n l g = omega (arith, l, g)
