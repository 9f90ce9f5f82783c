-- A script has one trace at most.
use Rattle.std.proofs.Common.{◌≡◌, ℕ, List, [], ◌∷◌, ◌++◌, Result, Ok, refl, sym, ap, subst, ◌∙◌}
use Rattle.std.specs.List.{flat_map}
use Rattle.mr_names.specs.declared.op.Caller.{Caller}
use Rattle.mr_names.specs.Calls.{State}
use Rattle.mr_commit.specs.declared.fault.CommitFault.{CommitFault}
use Rattle.mr_commit.specs.declared.fault.StepDone.{StepDone}
use Rattle.mr_commit.specs.declared.fault.StepDone.TheVariants as done
use Rattle.mr_commit.specs.Line.{Line}
use Rattle.mr_commit.specs.Steps.{step_of}
use Rattle.mr_judge.specs.declared.line.Told.{Told}
use Rattle.mr_sim_commands.specs.declared.committer.command.ScriptCommand.{ScriptCommand}
use Rattle.mr_sim_commands.specs.declared.committer.command.ScriptCommand.TheVariants.{As, Raise, Check, Setup, Write, Needs, Commit, Abort, Recover, CommitJob, AbortJob, Bar, By}
use Rattle.mr_sim_commands.specs.declared.committer.scene.Scene.{Scene}
use Rattle.mr_sim_commands.specs.committer.Effect.{out, outcome, start}
use Rattle.mr_sim_commands.proofs.Readings.{one_reading_law}
use Rattle.mr_commit_trace.specs.Laws.{OneTrace}
use Rattle.mr_commit_trace.specs.Seen.{IsLast, Sees, SeesAll, SeesCommand, next_seen}
use Rattle.mr_commit_trace.specs.Seen.Sees.{last, more}
use Rattle.mr_commit_trace.specs.Shown.{command_shown}

apart : (lines left rest : List Line) (s t u : State) (caller : Caller) (r : Result StepDone CommitFault) → step_of lines s caller ≡ ((r, left), t) → IsLast r → step_of lines s caller ≡ ((Ok done.More, rest), u) → ⊥
apart lines left rest s t u caller r e is f =
    let same : r ≡ Ok done.More = ap (λ p. p.0.0) (sym e ∙ f) in
    subst (λ q. IsLast q) same is

pub one_sees : (caller : Caller) (lines : List Line) (s : State) (a b : List Told) → Sees caller lines s a → Sees caller lines s b → a ≡ b
one_sees caller lines s a b (last _ left _ t r e is) (last _ rest _ u q f it) = refl
one_sees caller lines s a b (last _ left _ t r e is) (more _ rest _ u told f h) = absurd (apart lines left rest s t u caller r e is f)
one_sees caller lines s a b (more _ rest _ u told f h) (last _ left _ t r e is) = absurd (apart lines left rest s t u caller r e is f)
one_sees caller lines s a b (more _ left _ t told e g) (more _ rest _ u other f h) =
    let same = sym e ∙ f in
    let lefts : left ≡ rest = ap (λ p. p.0.1) same in
    let states : t ≡ u = ap (λ p. p.1) same in
    ap (λ xs. next_seen lines s caller ++ xs) (one_sees caller rest u told other (subst (λ v. Sees caller rest v told) states (subst (λ xs. Sees caller xs t told) lefts g)) h)

one_command : (dest : List (List ℕ)) (c : ScriptCommand) (s : Scene) (a b : List Told) → SeesCommand dest c s a → SeesCommand dest c s b → a ≡ b
one_command dest (Raise k) s a b x y = x ∙ sym y
one_command dest (As k) s a b x y = one_sees s.caller _ s.names a b x y
one_command dest Check s a b x y = one_sees s.caller _ s.names a b x y
one_command dest Setup s a b x y = one_sees s.caller _ s.names a b x y
one_command dest (Write w text) s a b x y = one_sees s.caller _ s.names a b x y
one_command dest (Needs w) s a b x y = one_sees s.caller _ s.names a b x y
one_command dest (Commit w) s a b x y = one_sees s.caller _ s.names a b x y
one_command dest (Abort w) s a b x y = one_sees s.caller _ s.names a b x y
one_command dest (Recover t bytes) s a b x y = one_sees s.caller _ s.names a b x y
one_command dest CommitJob s a b x y = one_sees s.caller _ s.names a b x y
one_command dest AbortJob s a b x y = one_sees s.caller _ s.names a b x y
one_command dest (Bar w) s a b x y = one_sees s.caller _ s.names a b x y
one_command dest (By who) s a b x y = one_sees s.caller _ s.names a b x y

one_all : (dest : List (List ℕ)) (cs : List (ℕ × ScriptCommand)) (s : Scene) (a b : List ((ℕ × ScriptCommand) × List Told)) → SeesAll dest cs s a → SeesAll dest cs s b → a ≡ b
one_all dest [] s a b x y = x ∙ sym y
one_all dest (c ∷ cs) s a b (told, rest, is, seen, sees) (other, others, so, saw, saws) =
    is ∙ ap (λ xs. (c, xs) ∷ rest) (one_command dest c.1 s told other seen saw) ∙ ap (λ xs. (c, other) ∷ xs) (one_all dest cs (outcome dest c.1 s).1 rest others sees saws) ∙ sym so

pub one_trace_law : OneTrace
one_trace_law form input written other x y =
    let commands = one_reading_law input x.commands y.commands x.read y.read in
    let all = one_all out y.commands start x.all y.all (subst (λ cs. SeesAll out cs start x.all) commands x.sees) y.sees in
    x.is ∙ ap (λ xs. flat_map (command_shown form) xs) all ∙ sym y.is
