use Rattle.std.proofs.Common.{◌∙◌, ap, List, length}
use Rattle.mr_ids.specs.Attempt.{Attempt}
use Rattle.mr_master_model.specs.declared.launch.Launch.{Launch}
use Rattle.mr_master_state.proofs.Keeping.{held}
use Rattle.mr_master_events.proofs.launch.launch_on.Goals as goal

pub returns : goal.returns
returns c = λ w s keeps. let k = held c.master.view_is keeps in
    let number = c.requires ∙ ap (λ (xs : List (Attempt × Launch)). length xs) keeps.launches.entries in
    let incarnation = c.incarnation.ensures ∙ k.nodes c.args.node in
    (λ j. record { container = record { app = (k.setting j).app; number = number j }; node = c.args.node; incarnation = incarnation j })
