use Rattle.std.proofs.Common.{◌≡◌, refl, subst, sym, Some, Option, IsSome}
use Rattle.mr_container.specs.State.{Container}
use Rattle.mr_world_actors.specs.Living.{kept}
use Rattle.mr_world_actors.proofs.Keys.{same_written, on_err}
use Rattle.mr_world_actors.proofs.living.Living.hear.Goals as goal

pub returns-in-Some-clause-err : goal.returns-in-Some-clause-err
unfolding kept
returns-in-Some-clause-err c =
    on_err c.hear.result (λ same. same_written c.args.c.now (kept c.args.self.now) _ c.hear.new.machine
    ((c.get_mut.follows.holds c.hear.new.machine).3 (subst (λ (o : Option Container). IsSome o) c.in-Some.ensures.value refl)).0
    (subst (λ m. kept c.args.self.now c.args.c.now ≡ Some m) (sym same) (sym c.in-Some.ensures.value))) c.hear.ensures.err
