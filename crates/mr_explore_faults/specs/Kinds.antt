-- Faults of one kind, in the order in which they are tried (our own profile).
use Rattle.std.specs.Prelude.{ℕ, ◌+◌, ◌==◌, Bool, true, false, List, [], ◌∷◌, ◌++◌, map, Option, Some, None, if◌then◌else◌}
use Rattle.std.specs.List.{flat_map, list_any, range_with_len}
use Rattle.mr_ids.specs.declared.id.JobId.{JobId}
use Rattle.mr_ids.specs.declared.id.TaskId.{TaskId}
use Rattle.mr_ids.specs.declared.id.TaskKind.{TaskKind}
use Rattle.mr_world_model.specs.World.{Event, Deliver}
use Rattle.mr_explore_faults.specs.declared.fault.Fault.{Fault}
use Rattle.mr_explore_faults.specs.declared.fault.Fault.TheVariants as fault

abbrev pub is_delivery : ℕ → Event → Bool
is_delivery i (Deliver j) = j == i
is_delivery i _ = false

-- a packet that was delivered may come once more
abbrev pub of_delivered : List Event → ℕ → List Fault
of_delivered es i = if list_any (is_delivery i) es then fault.Again i ∷ [] else []

abbrev pub of_node : ℕ → List Fault
of_node n = fault.Restart n ∷ fault.Expiry n ∷ []

-- a second attempt, or the first one on another node
abbrev pub of_attempts : ℕ → TaskId → List Fault
of_attempts nodes t = map (fault.Attempt t) (range_with_len 0 nodes)

abbrev pub of_tasks : JobId → TaskKind → ℕ → ℕ → List Fault
of_tasks job kind count nodes = flat_map (λ n. of_attempts nodes (record { job = job; kind = kind; number = n })) (range_with_len 0 count)

abbrev pub of_kept : ℕ → List Fault
of_kept kept = fault.Crash kept ∷ fault.Halt kept ∷ fault.Superseded kept ∷ fault.SupersededLate kept ∷ []

-- how many bytes there are up to each line feed, with it
abbrev pub ends_from : ℕ → List ℕ → List ℕ
ends_from n [] = []
ends_from n (b ∷ bs) = if b == 10 then (n + 1) ∷ ends_from (n + 1) bs else ends_from (n + 1) bs

-- ---- what a fault puts off

-- a packet that was passed over may come later; behind a halt the next master may start later
abbrev pub later : Fault → Option Fault
later (fault.Lost i) = Some (fault.Late i)
later (fault.Halt kept) = Some fault.Next
later _ = None
