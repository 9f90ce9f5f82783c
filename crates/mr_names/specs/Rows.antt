-- Runs of calls on a new namespace, with what each is answered.
-- A few are worked out: what the definitions of Calls come to.
use Rattle.std.specs.Prelude.{◌≡◌, ℕ, true, false, List, [], ◌∷◌, Some, None, Result, Ok, Err, codes}
use Rattle.std.specs.FinMap as finite
use Rattle.std.specs.FinSet as set
use Rattle.mr_names_tree.specs.declared.node.Node.{Node}
use Rattle.mr_names_tree.specs.declared.node.Node.TheVariants.{Dir, File}
use Rattle.mr_names.specs.declared.fault.NameFault.{NameFault}
use Rattle.mr_names.specs.declared.fault.NameFault.TheVariants as fault
use Rattle.mr_names.specs.declared.op.Caller.{Caller}
use Rattle.mr_names.specs.declared.op.Op.{Op}
use Rattle.mr_names.specs.declared.op.Op.TheVariants as op
use Rattle.mr_names.specs.declared.op.Answer.{Answer}
use Rattle.mr_names.specs.declared.op.Answer.TheVariants as answers
use Rattle.mr_names_tree.specs.Listing.{entry_of}
use Rattle.mr_names.specs.Calls.{State, opening, raised, call_of, refused}

-- the calls of one caller, each with its answer, lead from one namespace to another
pub data Runs (caller : Caller) : State → List (Op × Result Answer NameFault) → State → Type 0 where
  ended : {s : State} → Runs caller s [] s
  call_then : {s t u : State} {call : Op} {answer : Result Answer NameFault} {lines : List (Op × Result Answer NameFault)} → call_of s caller call ≡ (answer, t) → Runs caller t lines u → Runs caller s ((call, answer) ∷ lines) u

-- the master of generation 1
abbrev pub first_master : Caller
first_master = record { app = 1; attempt = None }

-- a namespace with some entries, fence 0, and no attempt barred
abbrev pub with_entries : List (List (List ℕ) × Node) → State
with_entries es = record { content = finite.from_entries es; fence = 0; barred = set.empty }

abbrev pub root_alone : List (List (List ℕ) × Node)
root_alone = ([], Dir) ∷ []

abbrev pub with_a_b : List (List (List ℕ) × Node)
with_a_b = (codes "a" ∷ codes "b" ∷ [], Dir) ∷ (codes "a" ∷ [], Dir) ∷ root_alone

abbrev pub with_a_b_f : List (List (List ℕ) × Node)
with_a_b_f = (codes "f" ∷ [], File [] true) ∷ with_a_b

-- each refusal but Full and NotFile, and at last one of a caller below the fence
pub record NamespaceRefusals : Type 0 where
  pub run : Runs first_master opening (
      (op.Create (codes "a" ∷ codes "b" ∷ []) false, Err fault.NoParent)
      ∷ (op.Mkdirs (codes "a" ∷ codes "b" ∷ []), Ok answers.Done)
      ∷ (op.Rename (codes "a" ∷ []) (codes "a" ∷ codes "b" ∷ codes "c" ∷ []), Err fault.IntoItself)
      ∷ (op.Rename (codes "x" ∷ []) (codes "y" ∷ []), Err fault.Missing)
      ∷ (op.Create (codes "f" ∷ []) true, Ok answers.Done)
      ∷ (op.Append (codes "f" ∷ []) (codes "1"), Err fault.Closed)
      ∷ (op.Mkdirs (codes "f" ∷ codes "g" ∷ []), Err fault.NotDir)
      ∷ (op.Rename (codes "a" ∷ []) (codes "f" ∷ []), Err fault.Exists)
      ∷ (op.Delete [], Err fault.NoParent)
      ∷ []) (with_entries with_a_b_f)
  pub superseded : Runs first_master (raised (with_entries with_a_b_f) 2) ((op.Exists (codes "a" ∷ []), Err (fault.Superseded 2)) ∷ []) (raised (with_entries with_a_b_f) 2)

-- the root, and what would be beneath a file
abbrev pub RootRefusals : Type 0
RootRefusals = Runs first_master (with_entries with_a_b_f) (
    (op.Create [] false, Err fault.Exists)
    ∷ (op.Rename [] (codes "x" ∷ []), Err fault.IntoItself)
    ∷ (op.Delete (codes "f" ∷ codes "g" ∷ []), Err fault.Missing)
    ∷ (op.Delete (codes "f" ∷ codes "g" ∷ codes "h" ∷ []), Err fault.NoParent)
    ∷ (op.Create (codes "f" ∷ codes "g" ∷ []) false, Err fault.NotDir)
    ∷ (op.Mkdirs [], Ok answers.Done)
    ∷ []) (with_entries with_a_b_f)

abbrev pub with_f : List ℕ → List (List (List ℕ) × Node)
with_f bytes = (codes "f" ∷ [], File bytes false) ∷ root_alone

-- what is read, listed and foreseen
pub record ReadAndForesee : Type 0 where
  pub run : Runs first_master opening (
      (op.Create (codes "f" ∷ []) false, Ok answers.Done)
      ∷ (op.Append (codes "f" ∷ []) (codes "x"), Ok answers.Done)
      ∷ (op.Read (codes "f" ∷ []), Ok (answers.Contents (codes "x")))
      ∷ (op.Read [], Err fault.NotFile)
      ∷ (op.List [], Ok (answers.Listed (entry_of (codes "f") (File (codes "x") false) ∷ [])))
      ∷ []) (with_entries (with_f (codes "x")))
  pub foreseen : refused (with_entries (with_f (codes "x"))) first_master (op.Read (codes "g" ∷ [])) ≡ Some fault.Missing
