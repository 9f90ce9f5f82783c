-- What is written of commands in turn.
use Rattle.std.proofs.Common.{◌≡◌, ℕ, List, [], ◌∷◌, ◌++◌, refl, sym, ap, subst, ◌∙◌, append_assoc, ◌<◌, ◌+◌, suc, length, drop, drop-cons, get_or, arith}
use Rattle.std.proofs.lemmas.List.{append-nil}
use Rattle.mr_pipe.specs.declared.form.Form.{Form}
use Rattle.mr_judge.specs.declared.line.Told.{Told}
use Rattle.mr_sim_commands.specs.declared.committer.command.ScriptCommand.{ScriptCommand}
use Rattle.mr_sim_commands.specs.declared.committer.scene.Scene.{Scene}
use Rattle.mr_sim_commands.specs.committer.Effect.{out, outcome, start}
use Rattle.mr_sim_commands.specs.committer.Script.{AreCommands}
use Rattle.mr_script.specs.Lines.{lines_of}
use Rattle.mr_commit_trace.specs.Seen.{SeesAll, SeesCommand}
use Rattle.mr_commit_trace.specs.Shown.{PrintsTrace, command_shown}
use Rattle.mr_commit_trace.specs.inner.Turns.{WritesAll}

-- of one command, and then of those behind it
pub writes_first : (form : Form) (dest : List (List ℕ)) (c : ℕ × ScriptCommand) (cs : List (ℕ × ScriptCommand)) (s t : Scene) (told : List Told) (rest : List ℕ)
    → SeesCommand dest c.1 s told → t ≡ (outcome dest c.1 s).1 → WritesAll form dest cs t rest → WritesAll form dest (c ∷ cs) s (command_shown form (c, told) ++ rest)
writes_first form dest c cs s t told rest seen leads (all, sees, is) =
    ((c, told) ∷ all, (told, all, refl, seen, subst (λ u. SeesAll dest cs u all) leads sees), ap (λ xs. command_shown form (c, told) ++ xs) is)

pub prints : (form : Form) (input written : List ℕ) (commands : List (ℕ × ScriptCommand)) → AreCommands 1 (lines_of input) commands → WritesAll form out commands start written → PrintsTrace form input written
prints form input written commands read (all, sees, is) = record { commands = commands; read = read; all = all; sees = sees; is = is }

-- what was written so far, with what is written of the commands that are left behind it, is what is written of all
abbrev pub Written : Form → List (List ℕ) → List (ℕ × ScriptCommand) → Scene → List (ℕ × ScriptCommand) → Scene → List ℕ → Type 0
Written form dest all first left s text = (rest : List ℕ) → WritesAll form dest left s rest → WritesAll form dest all first (text ++ rest)

pub written_none : (form : Form) (dest : List (List ℕ)) (all : List (ℕ × ScriptCommand)) (s : Scene) → Written form dest all s all s []
written_none form dest all s rest h = h

pub written_one : (form : Form) (dest : List (List ℕ)) (all : List (ℕ × ScriptCommand)) (first : Scene) (c : ℕ × ScriptCommand) (cs : List (ℕ × ScriptCommand)) (s t : Scene) (told : List Told) (text now : List ℕ)
    → Written form dest all first (c ∷ cs) s text → SeesCommand dest c.1 s told → t ≡ (outcome dest c.1 s).1 → now ≡ text ++ command_shown form (c, told) → Written form dest all first cs t now
written_one form dest all first c cs s t told text now so seen leads is rest h =
    subst (λ xs. WritesAll form dest all first xs) (sym (ap (λ xs. xs ++ rest) is ∙ append_assoc text (command_shown form (c, told)) rest))
    (so (command_shown form (c, told) ++ rest) (writes_first form dest c cs s t told rest seen leads h))

pub written_all : (form : Form) (dest : List (List ℕ)) (all : List (ℕ × ScriptCommand)) (first s : Scene) (text : List ℕ) → Written form dest all first [] s text → WritesAll form dest all first text
written_all form dest all first s text so = subst (λ xs. WritesAll form dest all first xs) (append-nil text) (so [] ([], refl, refl))

next_item : {A : Type 0} (xs : List A) (i : ℕ) (x : A) → i < length xs → x ≡ get_or xs i x → drop i xs ≡ x ∷ drop (i + 1) xs
next_item xs i x few is = drop-cons xs i x few ∙ (ap (λ y. y ∷ drop (suc i) xs) (sym is) ∙ ap (λ j. x ∷ drop j xs) (let e : suc i ≡ i + 1 = omega arith in e))

pub written_at : (form : Form) (dest : List (List ℕ)) (all : List (ℕ × ScriptCommand)) (first : Scene) (i : ℕ) (c : ℕ × ScriptCommand) (s t : Scene) (told : List Told) (text now : List ℕ) → i < length all → c ≡ get_or all i c
    → Written form dest all first (drop i all) s text → SeesCommand dest c.1 s told → t ≡ (outcome dest c.1 s).1 → now ≡ text ++ command_shown form (c, told) → Written form dest all first (drop (i + 1) all) t now
written_at form dest all first i c s t told text now few here so seen leads is =
    written_one form dest all first c (drop (i + 1) all) s t told text now (subst (λ cs. Written form dest all first cs s text) (next_item all i c few here) so) seen leads is
