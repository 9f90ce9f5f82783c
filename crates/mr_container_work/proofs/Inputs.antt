-- What containers of a cluster are given.
use Rattle.std.proofs.Common.{◌≡◌, ℕ, zero, suc, ◌≤◌, ◌^◌, Bool, true, false, cond, List, [], ◌∷◌, length, slice_get, Option, Some, None, IfSome, refl}
use Rattle.std.specs.List.{AllByRecursion}
use Rattle.std.specs.Option.{option_map}
use Rattle.mr_ids.specs.declared.id.TaskKind.{TaskKind}
use Rattle.mr_ids.specs.declared.id.TaskKind.TheVariants.{Map, Reduce}
use Rattle.mr_container.specs.Readings as container
use Rattle.mr_container.specs.Laws.{Fits}
use Rattle.mr_container.specs.declared.wish.Wish.{Wish}
use Rattle.mr_container.specs.declared.wish.Wish.TheVariants as wished
use Rattle.mr_container.proofs.Fetching.{all-fetched}
use Rattle.mr_world_files.specs.mr_world_model.specs.Ids.{Attempt, of_reduces}
use Rattle.mr_world_files.specs.mr_world_model.specs.Packets.{Config}
use Rattle.mr_world_files.specs.mr_world_model.specs.Pasts.{Place, Step, as_wish, wish, fetched}
use Rattle.mr_world_files.specs.mr_world_model.specs.Effect.{wants_compute}
use Rattle.mr_world_files.specs.mr_world_model.specs.Sequential.{Split, Pieces, given, input_at}
use Rattle.mr_container_work.specs.Works.{InputsAreShort, IsShort}

-- a reduce that computes has all its pieces
computes : (p : container.Pieces) (w : Wish) (maps count : ℕ) → wants_compute (as_wish p w) ≡ true → Fits maps count w → count ≡ maps
unfolding Fits
computes p (wished.Where m) maps count wants fits = absurd (cc)
computes p (wished.Fetch a n i) maps count wants fits = absurd (cc)
computes p (wished.Lost a) maps count wants fits = absurd (cc)
computes p wished.Compute maps count wants fits = fits
computes p wished.Mkdirs maps count wants fits = absurd (cc)
computes p wished.Create maps count wants fits = absurd (cc)
computes p wished.Write maps count wants fits = absurd (cc)
computes p wished.Close maps count wants fits = absurd (cc)
computes p wished.Needs maps count wants fits = absurd (cc)
computes p wished.Pending maps count wants fits = absurd (cc)
computes p wished.Poll maps count wants fits = absurd (cc)
computes p wished.Look maps count wants fits = absurd (cc)
computes p wished.Clear maps count wants fits = absurd (cc)
computes p wished.Rename maps count wants fits = absurd (cc)
computes p wished.Report maps count wants fits = absurd (cc)
computes p wished.Abort maps count wants fits = absurd (cc)
computes p wished.Failed maps count wants fits = absurd (cc)
computes p wished.Over maps count wants fits = absurd (cc)

all-there : (maps : ℕ) (a : Attempt) (h : List Step) → a.task.kind ≡ Reduce → wants_compute (wish maps a h) ≡ true → length (fetched maps a h) ≡ maps
unfolding wish fetched
all-there maps a h kind wants = computes (container.seen maps a h).pieces (container.seen maps a h).wish maps (length (container.seen maps a h).pieces.blocks) wants (all-fetched maps a h kind)

split-short : (m : ℕ) (splits : List (List ℕ)) (i : ℕ) → AllByRecursion (λ split. length split ≤ 2 ^ 24) splits → IfSome (option_map (Split m) (slice_get splits i)) IsShort
split-short m [] i h = tt
split-short m (split ∷ splits) zero h = h.0
split-short m (split ∷ splits) (suc i) h = split-short m splits i h.1

module _ (cfg : Config) (few : length cfg.splits ≤ 1000) (short : AllByRecursion (λ split. length split ≤ 2 ^ 24) cfg.splits) where
  given-short : (a : Attempt) (h : List Step) → wants_compute (wish (length cfg.splits) a h) ≡ true → IfSome (given cfg a h) IsShort
  given-short a h wants = by a.task.kind refl where
    by : (k : TaskKind) → a.task.kind ≡ k →
        IfSome (cond (of_reduces k) (Some (Pieces a.task.number (fetched (length cfg.splits) a h))) (option_map (Split a.task.number) (slice_get cfg.splits a.task.number))) IsShort
    by Map kind = split-short a.task.number cfg.splits a.task.number short
    by Reduce kind = rw (all-there (length cfg.splits) a h kind wants) few

  pub at-short : (p : Option Place) (h : List Step) → IfSome (input_at cfg p h) IsShort
  at-short None h = tt
  at-short (Some p) h = by (wants_compute (wish (length cfg.splits) p.attempt h)) refl where
    by : (b : Bool) → wants_compute (wish (length cfg.splits) p.attempt h) ≡ b → IfSome (cond b (given cfg p.attempt h) None) IsShort
    by true wants = given-short p.attempt h wants
    by false wants = tt

pub inputs_are_short : InputsAreShort
inputs_are_short cfg w c few short = at-short cfg few short (w.place c) (w.container_past c)
