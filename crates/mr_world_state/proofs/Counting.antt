-- A master that lives launched no more containers than all masters together.
use Rattle.std.proofs.Common.{◌≡◌, ◌≤◌, ℕ, zero, suc, ◌+◌, refl, sym, ap, Bool, true, false, List, [], ◌∷◌, length, length-append, is_none, nat_eq, arith}
use Rattle.std.proofs.lemmas.Bool.{eqb-true}
use Rattle.std.proofs.lemmas.Bool.Decides.{nat_tests}
use Rattle.mr_master_model.specs.declared.setting.Setting.{Setting}
use Rattle.mr_master_model.specs.Past as machine
use Rattle.mr_master_model.specs.Readings.{Seen, launch_refusal, expire_refusal, launched_as, next_attempt}
use Rattle.mr_master_model.specs.Next.{moved, next_seen, seen}
use Rattle.mr_master_model.proofs.Growing.{if_cases}
use Rattle.mr_master_model.proofs.Launching.{delivered-stays, answer-stays}
use Rattle.mr_world_model.specs.Duties.{Master_step, Came, Launches, Expires, Asks}
use Rattle.mr_master_refinement.specs.Steps.{step_of, steps}
use Rattle.mr_world_state.specs.Limits.{launches_in, launches_of}

-- ---- of one master

abbrev told : machine.Step → ℕ
told (machine.Launches t n) = 1
told _ = 0

launch-adds : (w : Setting) (s : Seen) (x : machine.Step) → length (next_seen w s x).launched ≤ told x + length s.launched
unfolding next_seen moved
launch-adds w s (machine.Hears p) = let e = ap length (delivered-stays w s p).0 in omega (arith, e)
launch-adds w s (machine.Launches t n) = if_cases (λ (r : Seen). length r.launched ≤ 1 + length s.launched) (is_none (launch_refusal w s t n)) _ _ (λ e. omega (arith, length-append s.launched ((next_attempt w s t, launched_as w s n) ∷ []))) (λ e. omega arith)
launch-adds w s (machine.Expires n) = if_cases (λ (r : Seen). length r.launched ≤ 0 + length s.launched) (is_none (expire_refusal w s n)) _ _ (λ e. omega arith) (λ e. omega arith)
launch-adds w s (machine.Answered a) = let e = ap length (answer-stays w s a).0 in omega (arith, e)

launched-most : (w : Setting) (past : List Master_step) → length (seen w (steps past)).launched ≤ launches_in past
unfolding seen
launched-most w [] = omega arith
launched-most w (Launches l ∷ past) = let a = launch-adds w (seen w (steps past)) (step_of (Launches l)) in let b = launched-most w past in omega (arith, a, b)
launched-most w (Came p ∷ past) = let a = launch-adds w (seen w (steps past)) (step_of (Came p)) in let b = launched-most w past in omega (arith, a, b)
launched-most w (Expires n ∷ past) = let a = launch-adds w (seen w (steps past)) (step_of (Expires n)) in let b = launched-most w past in omega (arith, a, b)
launched-most w (Asks call r ∷ past) = let a = launch-adds w (seen w (steps past)) (step_of (Asks call r)) in let b = launched-most w past in omega (arith, a, b)

-- ---- of all

among : (pasts : ℕ → List Master_step) (k n : ℕ) → 1 ≤ k → k ≤ n → launches_in (pasts k) ≤ launches_of pasts n
unfolding launches_of
among pasts k zero first l = absurd (omega arith)
among pasts k (suc n) first l = by (λ u. among pasts k n first u) (nat_eq k (suc n)) refl
  where
    by : (k ≤ n → launches_in (pasts k) ≤ launches_of pasts n) → (b : Bool) → b ≡ nat_eq k (suc n) → launches_in (pasts k) ≤ launches_of pasts n + launches_in (pasts (suc n))
    by rest true e = let here : launches_in (pasts k) ≡ launches_in (pasts (suc n)) = ap (λ (i : ℕ). launches_in (pasts i)) (eqb-true k (suc n) (sym e)) in omega (arith, here)
    by rest false e = let under : k ≤ n = grind (arith, nat_tests) in let below = rest under in omega (arith, below)

-- a master of a generation from 1 to n has launched no more than all of them
pub launched-among : (w : Setting) (pasts : ℕ → List Master_step) (k n : ℕ) → 1 ≤ k → k ≤ n → length (seen w (steps (pasts k))).launched ≤ launches_of pasts n
launched-among w pasts k n first l = let a = launched-most w (pasts k) in let b = among pasts k n first l in omega (arith, a, b)
