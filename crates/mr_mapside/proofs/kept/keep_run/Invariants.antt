use Rattle.std.proofs.Common.{◌≡◌, ◌≤◌, ◌<◌, ℕ, List, [], cond, ltb, length, Some}
use Rattle.std.specs.List.{slice_get}
use Rattle.std.specs.Option.{option_map}
use Rattle.mr_user.specs.Computation.{computation}
use Rattle.mr_user.specs.Sequential.{part_of}
use Rattle.mr_mapside.specs.inner.Kept.{Kept, KeptAt}
use Rattle.mr_mapside.proofs.kept.keep_run.Given as goal

abbrev pub invariant-loop-r : goal.invariant-loop-r
invariant-loop-r g l =
    let all = computation g.J.Key.Ord.cmp g.J.Key.Wire.codec g.J.Value.Wire.codec g.J.Job.functions in
    record {
      many : length l.kept.items ≡ l.reduces;
      count : length l.parts.items ≡ l.reduces;
      parts : (k : ℕ) → l.r ≤ k → k < l.reduces → option_map (λ share. share.items) (slice_get l.parts.items k) ≡ Some (part_of all l.reduces k l.fn.run.items);
      kept : (done : List (g.row.J-Key.Denot × g.row.J-Value.Denot)) → Kept all l.reduces l.fn.kept.items l.fn.run.items done → (r : ℕ) (runs : List (List ℕ)) → slice_get l.kept.items r ≡ Some runs → KeptAt all l.reduces r runs (cond (ltb r l.r) [] l.fn.run.items) done;
    }
