use Rattle.std.proofs.Common.{[], ◌∷◌, sym, subst, ◌∙◌}
use Rattle.mr_master_state.specs.declared.change.Change.TheVariants as change
use Rattle.mr_master_events.specs.inner.Launching.{IsFree, LaunchesNext}
use Rattle.mr_master_state.specs.State.{Master}
use Rattle.mr_master_state.proofs.Unboxed.{same-told}
use Rattle.mr_master_events.proofs.launch.prepare_next.Goals as goal

pub launched-requires-clause-allowed : goal.launched-requires-clause-allowed
launched-requires-clause-allowed c = subst (λ (x : Master). IsFree x c.args.place) (sym c.master.view_is) c.requires.free

pub returns : goal.returns
returns c =
    let a = c.in_ok-attempt.attempt in
    let y = c.in_ok-machine.machine in
    subst (λ (x : Master). LaunchesNext x c.args.place c.args.launch c.in_ok-prepared.prepared) c.master.view_is (record {
      attempt = a;
      machine = y;
      is = c.in_ok-prepared.ensures ∙ (λ j. record { packets = c.told.ensures j ∷ []; change = change.Launches c.args.place a y c.args.launch });
      answers = c.in_ok-attempt.ensures.attempt;
      told = same-told c.in_ok-machine.ensures c.in_ok-attempt.ensures.told;
    })
