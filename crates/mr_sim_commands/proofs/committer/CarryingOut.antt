-- What a function that made a whole form, or calls in turn, did of its command.
use Rattle.std.proofs.Common.{◌≡◌, ℕ, List, Bool, Result, Ok, Err, refl, sym, ap, ◌∙◌}
use Rattle.mr_ids.specs.Attempt.{Attempt}
use Rattle.mr_paths.specs.Layout.{task_attempt}
use Rattle.mr_names.specs.declared.op.Caller.{Caller}
use Rattle.mr_names.specs.declared.op.Op.{Op}
use Rattle.mr_names.specs.declared.op.Op.TheVariants as op
use Rattle.mr_names.specs.Calls.{State, call_of}
use Rattle.mr_commit.specs.declared.fault.CommitFault.{CommitFault}
use Rattle.mr_commit.specs.declared.fault.CommitFault.TheVariants as fault
use Rattle.mr_commit.specs.Line.{Line}
use Rattle.mr_commit.specs.Recovery.{Recovery, Nowhere, Left, recovered, RecoveryHas}
use Rattle.mr_commit.specs.CommitterEffect.{whole, has_output, HasEffect, NeedsTaskCommit}
use Rattle.mr_sim_commands.specs.declared.committer.command.ScriptCommand.{ScriptCommand}
use Rattle.mr_sim_commands.specs.declared.committer.scene.Scene.{Scene}
use Rattle.mr_sim_commands.specs.declared.committer.scene.Reply.{Reply}
use Rattle.mr_sim_commands.specs.committer.Effect.{outcome, CarriesOut, by_calls, at_names, silent, told, in_turn, InTurn}

-- an effect p, but for an allocation failure
abbrev pub Has : Result (Unit {0}) CommitFault × State → Result (Unit {0}) CommitFault → State → Type 0
Has p (Err fault.NoMemory) t = Unit {0}
Has p (Ok x) t = p ≡ (Ok x, t)
Has p (Err (fault.Names f)) t = p ≡ (Err (fault.Names f), t)
Has p (Err fault.OutputMissing) t = p ≡ (Err fault.OutputMissing, t)
Has p (Err fault.WrongLength) t = p ≡ (Err fault.WrongLength, t)
Has p (Err fault.DestinationExists) t = p ≡ (Err fault.DestinationExists, t)
Has p (Err fault.WrongAnswer) t = p ≡ (Err fault.WrongAnswer, t)
Has p (Err fault.Over) t = p ≡ (Err fault.Over, t)

pub carried_out : (dest : List (List ℕ)) (o : ScriptCommand) (s : Scene) (p : Result (Unit {0}) CommitFault × State) (r : Result (Unit {0}) CommitFault) (t : State) → outcome dest o s ≡ by_calls s p → Has p r t → CarriesOut dest o s (silent r) (at_names s t)
carried_out dest o s p (Ok x) t is h = is ∙ ap (by_calls s) h
carried_out dest o s p (Err (fault.Names f)) t is h = is ∙ ap (by_calls s) h
carried_out dest o s p (Err fault.OutputMissing) t is h = is ∙ ap (by_calls s) h
carried_out dest o s p (Err fault.WrongLength) t is h = is ∙ ap (by_calls s) h
carried_out dest o s p (Err fault.DestinationExists) t is h = is ∙ ap (by_calls s) h
carried_out dest o s p (Err fault.WrongAnswer) t is h = is ∙ ap (by_calls s) h
carried_out dest o s p (Err fault.Over) t is h = is ∙ ap (by_calls s) h
carried_out dest o s p (Err fault.NoMemory) t is h = tt

pub carried_out_from : (dest : List (List ℕ)) (o : ScriptCommand) (s : Scene) (r : Result Reply CommitFault) (t : Scene) → outcome dest o s ≡ (r, t) → CarriesOut dest o s r t
carried_out_from dest o s (Ok x) t h = h
carried_out_from dest o s (Err (fault.Names f)) t h = h
carried_out_from dest o s (Err fault.OutputMissing) t h = h
carried_out_from dest o s (Err fault.WrongLength) t h = h
carried_out_from dest o s (Err fault.DestinationExists) t h = h
carried_out_from dest o s (Err fault.WrongAnswer) t h = h
carried_out_from dest o s (Err fault.Over) t h = h
carried_out_from dest o s (Err fault.NoMemory) t h = tt

pub form_has : (lines : List Line) (s : State) (caller : Caller) (r : Result (Unit {0}) CommitFault) (t : State) → HasEffect lines s caller r t → Has (whole lines s caller) r t
form_has lines s caller (Ok x) t h = h
form_has lines s caller (Err (fault.Names f)) t h = h
form_has lines s caller (Err fault.OutputMissing) t h = h
form_has lines s caller (Err fault.WrongLength) t h = h
form_has lines s caller (Err fault.DestinationExists) t h = h
form_has lines s caller (Err fault.WrongAnswer) t h = h
form_has lines s caller (Err fault.Over) t h = h
form_has lines s caller (Err fault.NoMemory) t h = tt

pub turn_has : (calls : List Op) (s : State) (caller : Caller) (r : Result (Unit {0}) CommitFault) (t : State) → InTurn calls s caller r t → Has (in_turn calls s caller) r t
turn_has calls s caller (Ok x) t h = h
turn_has calls s caller (Err (fault.Names f)) t h = h
turn_has calls s caller (Err fault.OutputMissing) t h = h
turn_has calls s caller (Err fault.WrongLength) t h = h
turn_has calls s caller (Err fault.DestinationExists) t h = h
turn_has calls s caller (Err fault.WrongAnswer) t h = h
turn_has calls s caller (Err fault.Over) t h = h
turn_has calls s caller (Err fault.NoMemory) t h = tt

pub carried_out_needs : (dest : List (List ℕ)) (o : ScriptCommand) (a : Attempt) (s : Scene) (r : Result Bool CommitFault)
    → outcome dest o s ≡ (told (has_output (call_of s.names s.caller (op.Exists (task_attempt dest s.caller.app a))).0), s) → NeedsTaskCommit dest a s.names s.caller r → CarriesOut dest o s (told r) s
carried_out_needs dest o a s (Ok b) is h = is ∙ ap (λ q. (told q, s)) (sym h)
carried_out_needs dest o a s (Err (fault.Names f)) is h = is ∙ ap (λ q. (told q, s)) (sym h)
carried_out_needs dest o a s (Err fault.OutputMissing) is h = is ∙ ap (λ q. (told q, s)) (sym h)
carried_out_needs dest o a s (Err fault.WrongLength) is h = is ∙ ap (λ q. (told q, s)) (sym h)
carried_out_needs dest o a s (Err fault.DestinationExists) is h = is ∙ ap (λ q. (told q, s)) (sym h)
carried_out_needs dest o a s (Err fault.WrongAnswer) is h = is ∙ ap (λ q. (told q, s)) (sym h)
carried_out_needs dest o a s (Err fault.Over) is h = is ∙ ap (λ q. (told q, s)) (sym h)
carried_out_needs dest o a s (Err fault.NoMemory) is h = tt

pub recovery_has : (r0 : Recovery) (s : State) (caller : Caller) (r : Result (Unit {0}) CommitFault) (t : State) → RecoveryHas r0 s caller r t → Has (recovered r0 s caller) r t
recovery_has Nowhere s caller r t h = rw (h.0, h.1) refl
recovery_has (Left lines) s caller r t h = form_has lines s caller r t h
