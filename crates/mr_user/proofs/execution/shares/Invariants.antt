use Rattle.std.proofs.Common.{◌≡◌, ◌<◌, ℕ, length, Some}
use Rattle.std.specs.Prelude.{slice_get}
use Rattle.std.specs.Option.{option_map}
use Rattle.mr_user.specs.Computation.{computation}
use Rattle.mr_user.specs.Sequential.{part_of}
use Rattle.mr_user.proofs.execution.shares.Given as goal

abbrev pub invariant-loop-key : goal.invariant-loop-key
invariant-loop-key g l =
    record {
      count : length l.shares.items ≡ l.reduces;
      parts : (r : ℕ) → r < l.reduces → option_map (λ share. share.items) (slice_get l.shares.items r) ≡ Some (part_of (computation g.J.Key.Ord.cmp g.J.Key.Wire.codec g.J.Value.Wire.codec g.J.Job.functions) l.reduces r l.yielded);
    }
