-- Laws of the definitions.
use Rattle.std.specs.Prelude.{◌≡◌, ℕ, List, [], ◌∷◌, ◌++◌, map}
use Rattle.mr_names.specs.Calls.{opening}
use Rattle.mr_pipe.specs.declared.form.Form.{Form}
use Rattle.mr_judge.specs.declared.line.Told.{Told}
use Rattle.mr_judge.specs.declared.verdict.Verdict.TheVariants.{Right}
use Rattle.mr_judge.specs.Trace.{Judges}
use Rattle.mr_sim_commands.specs.declared.committer.command.ScriptCommand.{ScriptCommand}
use Rattle.mr_sim_commands.specs.committer.Effect.{out, start}
use Rattle.mr_commit_trace.specs.Seen.{SeesAll}
use Rattle.mr_commit_trace.specs.Shown.{PrintsTrace}

-- an input has one trace at most
abbrev pub OneTrace : Type 0
OneTrace = (form : Form) (input written other : List ℕ) → PrintsTrace form input written → PrintsTrace form input other → written ≡ other

-- all that is seen, each with the line of its command
abbrev pub told_lines : List ((ℕ × ScriptCommand) × List Told) → List (ℕ × Told)
told_lines [] = []
told_lines (seen ∷ all) = map (λ told. (seen.0.0, told)) seen.1 ++ told_lines all

-- what is seen of a script is what a right store tells: the judge of a store's trace finds nothing wrong in it
abbrev pub TracesAreRight : Type 0
TracesAreRight = (commands : List (ℕ × ScriptCommand)) (all : List ((ℕ × ScriptCommand) × List Told)) → SeesAll out commands start all → Judges opening (told_lines all) Right
