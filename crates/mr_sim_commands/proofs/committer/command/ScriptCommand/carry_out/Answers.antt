use Rattle.std.proofs.Common.{◌≡◌, [], ◌∷◌, ap, ◌∙◌, sym}
use Rattle.mr_commit.specs.Tables.{setup_job, commit_task, abort_task, commit_job, abort_job}
use Rattle.mr_commit.specs.Recovery.{recovered, recover_task}
use Rattle.mr_commit.specs.CommitterEffect.{whole, checked}
use Rattle.mr_names.specs.declared.op.Op.TheVariants as op
use Rattle.mr_sim_commands.specs.declared.committer.command.ScriptCommand.{ScriptCommand}
use Rattle.mr_sim_commands.specs.committer.Effect.{outcome, silent, in_turn, writes}
use Rattle.mr_sim_commands.proofs.committer.CarryingOut.{carried_out, carried_out_from, form_has, turn_has, recovery_has, carried_out_needs}
use Rattle.mr_sim_commands.proofs.committer.command.ScriptCommand.carry_out.Goals as goal

pub returns-in-As : goal.returns-in-As
unfolding outcome
returns-in-As c = ap (λ (o : ScriptCommand). outcome c.args.layout.now.dest o c.args.scene.now) c.in-As.is

pub returns-in-Raise : goal.returns-in-Raise
unfolding outcome
returns-in-Raise c = rw c.raise.ensures (ap (λ (o : ScriptCommand). outcome c.args.layout.now.dest o c.args.scene.now) c.in-Raise.is)

pub returns-in-Check : goal.returns-in-Check
unfolding outcome
returns-in-Check c =
    let s = c.args.scene.now in
    let is : silent (checked c.args.layout.now.dest s.names s.caller) ≡ c.silent.result = ap silent (sym c.check_output.ensures) ∙ sym c.silent.ensures in
    carried_out_from c.args.layout.now.dest c.args.self.now s c.silent.result s (ap (λ (o : ScriptCommand). outcome c.args.layout.now.dest o s) c.in-Check.is ∙ ap (λ q. (q, s)) is)

pub returns-in-Setup : goal.returns-in-Setup
unfolding outcome
returns-in-Setup c =
    let s = c.args.scene.now in
    let dest = c.args.layout.now.dest in
    rw c.silent-in-Setup.ensures (carried_out dest c.args.self.now s (whole (setup_job dest s.caller.app) s.names s.caller) c.setup_job.result c.setup_job.new.names
    (ap (λ (o : ScriptCommand). outcome dest o s) c.in-Setup.is) (form_has (setup_job dest s.caller.app) s.names s.caller c.setup_job.result c.setup_job.new.names c.setup_job.ensures.effect))

pub returns-in-Write : goal.returns-in-Write
unfolding outcome
returns-in-Write c =
    let s = c.args.scene.now in
    let dest = c.args.layout.now.dest in
    let calls = writes dest s.caller.app c.in-Write.attempt c.in-Write.text in
    rw c.silent-in-Write.ensures (carried_out dest c.args.self.now s (in_turn calls s.names s.caller) c.write.result c.write.new.names
    (ap (λ (o : ScriptCommand). outcome dest o s) c.in-Write.is) (turn_has calls s.names s.caller c.write.result c.write.new.names c.write.ensures))

pub returns-in-Needs : goal.returns-in-Needs
unfolding outcome
returns-in-Needs c =
    let s = c.args.scene.now in
    let dest = c.args.layout.now.dest in
    rw c.told.ensures (carried_out_needs dest c.args.self.now c.in-Needs.attempt s c.needs_task_commit.result
    (ap (λ (o : ScriptCommand). outcome dest o s) c.in-Needs.is) c.needs_task_commit.ensures)

pub returns-in-Commit : goal.returns-in-Commit
unfolding outcome
returns-in-Commit c =
    let s = c.args.scene.now in
    let dest = c.args.layout.now.dest in
    let lines = commit_task dest s.caller.app c.in-Commit.attempt in
    rw c.silent-in-Commit.ensures (carried_out dest c.args.self.now s (whole lines s.names s.caller) c.commit_task.result c.commit_task.new.names
    (ap (λ (o : ScriptCommand). outcome dest o s) c.in-Commit.is) (form_has lines s.names s.caller c.commit_task.result c.commit_task.new.names c.commit_task.ensures.effect))

pub returns-in-CommitJob : goal.returns-in-CommitJob
unfolding outcome
returns-in-CommitJob c =
    let s = c.args.scene.now in
    let dest = c.args.layout.now.dest in
    rw c.silent-in-CommitJob.ensures (carried_out dest c.args.self.now s (whole (commit_job dest s.caller.app) s.names s.caller) c.commit_job.result c.commit_job.new.names
    (ap (λ (o : ScriptCommand). outcome dest o s) c.in-CommitJob.is) (form_has (commit_job dest s.caller.app) s.names s.caller c.commit_job.result c.commit_job.new.names c.commit_job.ensures.effect))

pub returns-in-Abort : goal.returns-in-Abort
unfolding outcome
returns-in-Abort c =
    let s = c.args.scene.now in
    let dest = c.args.layout.now.dest in
    let lines = abort_task dest s.caller.app c.in-Abort.attempt in
    rw c.silent-in-Abort.ensures (carried_out dest c.args.self.now s (whole lines s.names s.caller) c.abort_task.result c.abort_task.new.names
    (ap (λ (o : ScriptCommand). outcome dest o s) c.in-Abort.is) (form_has lines s.names s.caller c.abort_task.result c.abort_task.new.names c.abort_task.ensures.effect))

pub returns-in-AbortJob : goal.returns-in-AbortJob
unfolding outcome
returns-in-AbortJob c =
    let s = c.args.scene.now in
    let dest = c.args.layout.now.dest in
    let lines = abort_job dest in
    rw c.silent-in-AbortJob.ensures (carried_out dest c.args.self.now s (whole lines s.names s.caller) c.abort_job.result c.abort_job.new.names
    (ap (λ (o : ScriptCommand). outcome dest o s) c.in-AbortJob.is) (form_has lines s.names s.caller c.abort_job.result c.abort_job.new.names c.abort_job.ensures.effect))

pub returns-in-Recover : goal.returns-in-Recover
unfolding outcome
returns-in-Recover c =
    let s = c.args.scene.now in
    let dest = c.args.layout.now.dest in
    let table = recover_task dest s.caller.app c.in-Recover.task c.in-Recover.bytes in
    rw c.silent-in-Recover.ensures (carried_out dest c.args.self.now s (recovered table s.names s.caller) c.recover_task.result c.recover_task.new.names
    (ap (λ (o : ScriptCommand). outcome dest o s) c.in-Recover.is) (recovery_has table s.names s.caller c.recover_task.result c.recover_task.new.names c.recover_task.ensures.effect))

pub returns-in-Bar : goal.returns-in-Bar
unfolding outcome
returns-in-Bar c =
    let s = c.args.scene.now in
    let dest = c.args.layout.now.dest in
    let calls = op.Bar c.in-Bar.attempt ∷ [] in
    rw c.silent-in-Bar.ensures (carried_out dest c.args.self.now s (in_turn calls s.names s.caller) c.bar.result c.bar.new.names
    (ap (λ (o : ScriptCommand). outcome dest o s) c.in-Bar.is) (turn_has calls s.names s.caller c.bar.result c.bar.new.names c.bar.ensures))

pub returns-in-By : goal.returns-in-By
unfolding outcome
returns-in-By c = ap (λ (o : ScriptCommand). outcome c.args.layout.now.dest o c.args.scene.now) c.in-By.is
