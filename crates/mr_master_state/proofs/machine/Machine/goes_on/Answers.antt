use Rattle.std.proofs.Common.{ap, ◌∙◌, ◌++◌, drop}
use Rattle.mr_master_model.specs.Past.{Work}
use Rattle.mr_master_phase.specs.WorkKinds.{left_of, with_left}
use Rattle.mr_master_state.proofs.Keeping.{held}
use Rattle.mr_master_state.proofs.Parts.{with-work}
use Rattle.mr_master_state.proofs.machine.Machine.goes_on.Goals as goal

pub returns : goal.returns
returns c = λ w s keeps. let k = held c.self.view_is keeps in
    with-work c.go_on.new.self (with_left s.work (c.args.following.lines ++ drop 1 (left_of s.work)))
    (c.go_on.ensures ∙ ap (λ (x : Work). with_left x (c.args.following.lines ++ drop 1 (left_of x))) k.work) k
