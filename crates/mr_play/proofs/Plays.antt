-- What `play` prints, and why it prints nothing.
use Rattle.std.proofs.Common.{◌≡◌, ℕ, List, Result, IfErr, IsErrAnd, sym, ap, subst, ◌∙◌}
use Rattle.std.proofs.lemmas.Result.{err_from_is_err_and}
use Rattle.mr_script.specs.declared.command.Command.{Command}
use Rattle.mr_world.specs.Limits.{within}
use Rattle.mr_play.specs.declared.fault.PlayerFault.{PlayerFault}
use Rattle.mr_play.specs.declared.fault.PlayerFault.TheVariants as fault
use Rattle.mr_play.specs.declared.player.Player.{Player}
use Rattle.mr_sim_commands.specs.declared.job.submission.Submission.{Submission}
use Rattle.mr_play.specs.Sources.{stretches}
use Rattle.mr_play.specs.Text.{config_of, job_as, played_of, stretches_of}
use Rattle.mr_play.specs.Played.{begun, played}
use Rattle.mr_play.specs.Players.{FullWhere, state_in}

-- what a player that begins makes of commands is what is made of them in the cluster of its job
pub from-begin : (job : Submission) (cs : List (ℕ × Command)) (p : Player) → p.job ≡ job.job → p.world.config ≡ config_of job → state_in p ≡ begun
    → played (job_as p.job) p.world.config (within p.world.config) cs (state_in p) ≡ played_of within job cs
unfolding played_of
from-begin job cs p kind config state =
    ap (λ k. played (job_as k) p.world.config (within p.world.config) cs (state_in p)) kind
    ∙ ap (λ c. played (job_as job.job) c (within c) cs (state_in p)) config
    ∙ ap (played (job_as job.job) (config_of job) (within (config_of job)) cs) state

-- and what it notes of them is what is said of them
pub noted-from-begin : (job : Submission) (cs : List (ℕ × Command)) (p : Player) → p.job ≡ job.job → p.world.config ≡ config_of job → state_in p ≡ begun
    → stretches (job_as p.job) p.world.config (within p.world.config) cs (state_in p) ≡ stretches_of within job cs
unfolding stretches_of
noted-from-begin job cs p kind config state =
    ap (λ k. stretches (job_as k) p.world.config (within p.world.config) cs (state_in p)) kind
    ∙ ap (λ c. stretches (job_as job.job) c (within c) cs (state_in p)) config
    ∙ ap (stretches (job_as job.job) (config_of job) (within (config_of job)) cs) state

full-weaker : {P Q : Type 0} (f : PlayerFault) → (P → Q) → FullWhere f P → FullWhere f Q
full-weaker fault.NoMemory g h = tt
full-weaker fault.Full g h = g h

-- the exit of a `?` answers the fault
exit : {A : Type 0} (P : PlayerFault → Type 0) (r : Result A PlayerFault) (f : PlayerFault) → IsErrAnd r (λ e. e ≡ f) → P f → IfErr r P
exit P r f g h = let z = err_from_is_err_and r g in subst (λ x. IfErr x P) (sym z.1) (subst P (sym z.2) h)

pub full-exit : {A P Q : Type 0} (r : Result A PlayerFault) (f : PlayerFault) → IsErrAnd r (λ e. e ≡ f) → (P → Q) → FullWhere f P → IfErr r (λ e. FullWhere e Q)
full-exit {P = P} {Q = Q} r f g to h = exit (λ e. FullWhere e Q) r f g (full-weaker f to h)
