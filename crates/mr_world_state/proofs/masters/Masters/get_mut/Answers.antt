use Rattle.std.proofs.Common.{◌≡◌, ◌∙◌, refl, sym, Option, Some, None}
use Rattle.std.specs.Option.{OnSome}
use Rattle.mr_master.specs.State.{Master}
use Rattle.mr_world_state.proofs.Generations.{IsPlace, is-place, no-place, no-generation, returned, same-again}
use Rattle.mr_world_state.proofs.masters.Masters.get_mut.Goals as goal

given : {A : Type 0} (o : Option A) (P : Type 0) → P → OnSome o P
given (Some x) P p = p
given None P p = tt

pub returns-in-Some-get_mut : goal.returns-in-Some-get_mut
returns-in-Some-get_mut c =
    let at : IsPlace c.args.self.now c.in-Some.place c.args.k c.in-Some-get_mut.machine.now = is-place c.args.self.now c.in-Some.place c.args.k c.in-Some-get_mut.machine.now c.in-Some.ensures c.in-Some-get_mut.ensures.item.0 c.in-Some-get_mut.ensures.item.1 in (
      (refl, (λ w. given c.as_mut.result _ (returned c.args.self.now _ c.in-Some.place c.args.k c.in-Some-get_mut.machine.now (Some w) w at refl refl)), same-again c.args.self.now _ c.in-Some.place c.args.k c.in-Some-get_mut.machine.now at refl),
      record { writes_back = tt; value = c.as_mut.ensures.value ∙ sym at.at },
    )

pub returns-in-None : goal.returns-in-None
returns-in-None c = ((refl, (λ w. tt), record { count = refl; kept = λ j. refl }), record { writes_back = tt; value = no-place c.args.self.now c.in-Some.place c.args.k c.in-Some.ensures c.in-None.ensures.item.0 })

pub returns-in_default : goal.returns-in_default
returns-in_default c = ((refl, (λ w. tt), record { count = refl; kept = λ j. refl }), record { writes_back = tt; value = no-generation c.args.self.now c.args.k c.in_default.ensures })
