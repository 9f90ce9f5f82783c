use Rattle.std.proofs.Common.{◌≡◌, Ok, List, ℕ, subst, sym}
use Rattle.mr_script.specs.Lines.{lines_of}
use Rattle.mr_script.specs.Script.{AreCommands}
use Rattle.mr_sim_commands.specs.declared.fault.SimFault.{SimFault}
use Rattle.mr_sim_commands.specs.job.Text.{submission_of}
use Rattle.mr_world.specs.Limits.{within}
use Rattle.mr_play.specs.Text.{PlayFails}
use Rattle.mr_play.proofs.Showing.{full_fails, printed}
use Rattle.mr_play.proofs.subcommand.played.Goals as goal

pub returns-in-Ok-clause-ok : goal.returns-in-Ok-clause-ok
returns-in-Ok-clause-ok c =
    let said = subst (λ (x : List ℕ). submission_of x ≡ Ok c.in_ok-submission.submission) c.parts_of.ensures.job c.in_ok-submission.ensures.said in
    let read = subst (λ (x : List ℕ). AreCommands c.in_ok-submission.submission.id 2 (lines_of x) c.in_ok-commands.commands.items) c.parts_of.ensures.script c.in_ok-commands.ensures.commands in
    printed c.args.input.now c.in_ok-submission.submission c.in_ok-commands.commands.items c.in-Ok.player said read c.in-Ok.ensures.played

pub returns-in-Err-clause-fault : goal.returns-in-Err-clause-fault
returns-in-Err-clause-fault c =
    let said = subst (λ (x : List ℕ). submission_of x ≡ Ok c.in_ok-submission.submission) c.parts_of.ensures.job c.in_ok-submission.ensures.said in
    let read = subst (λ (x : List ℕ). AreCommands c.in_ok-submission.submission.id 2 (lines_of x) c.in_ok-commands.commands.items) c.parts_of.ensures.script c.in_ok-commands.ensures.commands in
    subst (λ (f : SimFault). PlayFails within c.args.input.now f) (sym c.sim_fault.ensures) (full_fails c.args.input.now c.in_ok-submission.submission c.in_ok-commands.commands.items c.in-Err.fault said read c.in-Err.ensures.full)
