-- A copy of a machine stands for what the machine stood for, and what was prepared for the one is prepared for the other.
use Rattle.std.proofs.Common.{◌≡◌, ◌⊎◌, inl, inr, sym, subst}
use Rattle.mr_master_model.specs.Past.{Step}
use Rattle.mr_master_model.specs.Next.{seen}
use Rattle.mr_master.specs.State.{Master, StandsStill, Unchanged}
use Rattle.mr_master.specs.Prepared.{Prepared, PlansFor}
use Rattle.mr_master_events.specs.mr_master_state.proofs.Made.{planned-still}
use Rattle.mr_master_events.specs.mr_master_state.proofs.Standing.{unchanged-keeps}

pub copy-stands : (m n : Master) → (n ≡ m) ⊎ Unchanged m n → StandsStill m n
copy-stands m n (inl same) = subst (λ (x : Master). StandsStill m x) (sym same) (λ w past k. k)
copy-stands m n (inr same) = λ w past k. unchanged-keeps m n w (seen w past) same k

pub copy-plans : (m n : Master) (step : Step) (p : Prepared) → (n ≡ m) ⊎ Unchanged m n → PlansFor m step p → PlansFor n step p
copy-plans m n step p (inl same) plans = subst (λ (x : Master). PlansFor x step p) (sym same) plans
copy-plans m n step p (inr same) plans = planned-still m n step p same plans
