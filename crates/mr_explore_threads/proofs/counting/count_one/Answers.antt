use Rattle.std.proofs.Common.{refl, sym, ◌∙◌}
use Rattle.mr_explore_threads.specs.inner.Counts.{remaining}
use Rattle.mr_explore_threads.proofs.Advancing.{not_met}
use Rattle.mr_explore.proofs.Making.{walk_made}
use Rattle.mr_explore_threads.proofs.counting.count_one.Goals as goal

pub returns-in_ok-met-in-Ok-Some-clause-made : goal.returns-in_ok-met-in-Ok-Some-clause-made
returns-in_ok-met-in-Ok-Some-clause-made c = λ went.
    let e = c.in-Ok-Some.ended in (
      record { faults = e.faults; run = e.run },
      record {
        is = walk_made (remaining c.args.walk.now c.args.table.now) c.args.walk.now c.next_run.new.self c.in-Ok-Some.field-0 e refl c.in-Ok-Some.field-0-is c.in-Ok-Some.ensures;
        faults = refl;
        table = c.in_ok-met-in-Ok-Some.ensures.noted;
      },
      sym c.in_ok-met-in-Ok-Some.ensures.met ∙ not_met c.in_ok-met-in-Ok-Some.met went,
    )
