-- What a piece makes of a wish.
use Rattle.std.proofs.Common.{ℕ, suc, Bool, List, ◌++◌, if◌then◌else◌, nat_lt}
use Rattle.mr_world_model.specs.Ids.{Attempt}
use Rattle.mr_world_model.specs.Pasts.{Wish, To_ask_where, To_fetch, To_compute}
use Rattle.mr_world_model.proofs.Nexts.{ask_from, is_all}
use Rattle.mr_world_model.proofs.Basic.{if_cases}

-- a map is asked for, the result is wished, or the same map is fetched on
pub piece-wish : (P : Wish → Type 0) (maps m : ℕ) (a : Attempt) (n i : ℕ) (got : List ℕ) (awaited : Bool) (total : ℕ) (bytes : List ℕ) →
    P (To_ask_where (suc m)) → P To_compute → ((g : List ℕ) → P (To_fetch m a n i g)) →
    P (if awaited then (if is_all total (got ++ bytes) then ask_from maps (suc m) else To_fetch m a n i (got ++ bytes)) else To_fetch m a n i got)
piece-wish P maps m a n i got awaited total bytes w c f =
    if_cases P awaited _ _
    (λ t. if_cases P (is_all total (got ++ bytes)) _ _ (λ u. if_cases P (nat_lt (suc m) maps) _ _ (λ v. w) (λ v. c)) (λ u. f (got ++ bytes)))
    (λ t. f got)
