-- The first word of a line as text, and what stands behind it.
use Rattle.std.specs.Prelude.{ℕ, false, List, [], ◌∷◌, map, Option, Some, None, Result, Ok, Err, codes, decimal}
use Rattle.mr_ids.specs.Text.{attempt_text}
use Rattle.mr_paths.specs.Text.{path_text}
use Rattle.mr_names_tree.specs.declared.node.Kind.TheVariants.{Dir, File}
use Rattle.mr_names.specs.declared.fault.NameFault.{NameFault}
use Rattle.mr_names.specs.declared.fault.NameFault.TheVariants as fault
use Rattle.mr_names.specs.declared.op.Answer.{Answer}
use Rattle.mr_names.specs.declared.op.Answer.TheVariants as answer
use Rattle.mr_names.specs.declared.op.Op.{Op}
use Rattle.mr_names.specs.declared.op.Op.TheVariants as op
use Rattle.mr_call_words.specs.Words.{closed_words, entry_text}
use Rattle.mr_call_words.specs.declared.opening.Opening.{Opening}
use Rattle.mr_call_words.specs.declared.opening.Opening.TheVariants as opening

abbrev pub opening_text : Opening → List ℕ
opening_text opening.Mkdirs = codes "mkdirs"
opening_text opening.Create = codes "create"
opening_text opening.Append = codes "append"
opening_text opening.Close = codes "close"
opening_text opening.Delete = codes "delete"
opening_text opening.Rename = codes "rename"
opening_text opening.List = codes "list"
opening_text opening.Exists = codes "exists"
opening_text opening.Read = codes "read"
opening_text opening.Bar = codes "bar"
opening_text opening.Done = codes "done"
opening_text opening.Entries = codes "entries"
opening_text opening.Nothing = codes "nothing"
opening_text opening.A = codes "a"
opening_text opening.Bytes = codes "bytes"
opening_text opening.Superseded = codes "Superseded"
opening_text opening.Barred = codes "Barred"
opening_text opening.Missing = codes "Missing"
opening_text opening.AlreadyThere = codes "Exists"
opening_text opening.NotDir = codes "NotDir"
opening_text opening.NotFile = codes "NotFile"
opening_text opening.Closed = codes "Closed"
opening_text opening.NoParent = codes "NoParent"
opening_text opening.IntoItself = codes "IntoItself"
opening_text opening.Full = codes "Full"
opening_text opening.NoMemory = codes "NoMemory"

-- ---- calls

abbrev pub call_opening : Op → Opening
call_opening (op.Mkdirs path) = opening.Mkdirs
call_opening (op.Create path closed) = opening.Create
call_opening (op.Append path bytes) = opening.Append
call_opening (op.Close path) = opening.Close
call_opening (op.Delete path) = opening.Delete
call_opening (op.Rename from to) = opening.Rename
call_opening (op.List path) = opening.List
call_opening (op.Exists path) = opening.Exists
call_opening (op.Read path) = opening.Read
call_opening (op.Bar a) = opening.Bar

abbrev pub call_rest : Op → List (List ℕ)
call_rest (op.Mkdirs path) = path_text path ∷ []
call_rest (op.Create path closed) = path_text path ∷ closed_words closed
call_rest (op.Append path bytes) = path_text path ∷ bytes ∷ []
call_rest (op.Close path) = path_text path ∷ []
call_rest (op.Delete path) = path_text path ∷ []
call_rest (op.Rename from to) = path_text from ∷ path_text to ∷ []
call_rest (op.List path) = path_text path ∷ []
call_rest (op.Exists path) = path_text path ∷ []
call_rest (op.Read path) = path_text path ∷ []
call_rest (op.Bar a) = attempt_text a ∷ []

-- the call that has this first word and a path
abbrev pub call_at : Opening → List (List ℕ) → Option Op
call_at opening.Mkdirs path = Some (op.Mkdirs path)
call_at opening.Create path = Some (op.Create path false)
call_at opening.Close path = Some (op.Close path)
call_at opening.Delete path = Some (op.Delete path)
call_at opening.List path = Some (op.List path)
call_at opening.Exists path = Some (op.Exists path)
call_at opening.Read path = Some (op.Read path)
call_at o path = None

-- ---- answers

abbrev pub answer_opening : Result Answer NameFault → Opening
answer_opening (Ok answer.Done) = opening.Done
answer_opening (Ok (answer.Listed entries)) = opening.Entries
answer_opening (Ok (answer.Found None)) = opening.Nothing
answer_opening (Ok (answer.Found (Some Dir))) = opening.A
answer_opening (Ok (answer.Found (Some File))) = opening.A
answer_opening (Ok (answer.Contents bytes)) = opening.Bytes
answer_opening (Err (fault.Superseded fence)) = opening.Superseded
answer_opening (Err fault.Barred) = opening.Barred
answer_opening (Err fault.Missing) = opening.Missing
answer_opening (Err fault.Exists) = opening.AlreadyThere
answer_opening (Err fault.NotDir) = opening.NotDir
answer_opening (Err fault.NotFile) = opening.NotFile
answer_opening (Err fault.Closed) = opening.Closed
answer_opening (Err fault.NoParent) = opening.NoParent
answer_opening (Err fault.IntoItself) = opening.IntoItself
answer_opening (Err fault.Full) = opening.Full
answer_opening (Err fault.NoMemory) = opening.NoMemory

abbrev pub answer_rest : Result Answer NameFault → List (List ℕ)
answer_rest (Ok answer.Done) = []
answer_rest (Ok (answer.Listed entries)) = map entry_text entries
answer_rest (Ok (answer.Found None)) = []
answer_rest (Ok (answer.Found (Some Dir))) = codes "directory" ∷ []
answer_rest (Ok (answer.Found (Some File))) = codes "file" ∷ []
answer_rest (Ok (answer.Contents bytes)) = bytes ∷ []
answer_rest (Err (fault.Superseded fence)) = decimal fence ∷ []
answer_rest (Err fault.Barred) = []
answer_rest (Err fault.Missing) = []
answer_rest (Err fault.Exists) = []
answer_rest (Err fault.NotDir) = []
answer_rest (Err fault.NotFile) = []
answer_rest (Err fault.Closed) = []
answer_rest (Err fault.NoParent) = []
answer_rest (Err fault.IntoItself) = []
answer_rest (Err fault.Full) = []
answer_rest (Err fault.NoMemory) = []

-- the answer that is this first word alone
abbrev pub answer_alone : Opening → Option (Result Answer NameFault)
answer_alone opening.Done = Some (Ok answer.Done)
answer_alone opening.Nothing = Some (Ok (answer.Found None))
answer_alone opening.Barred = Some (Err fault.Barred)
answer_alone opening.Missing = Some (Err fault.Missing)
answer_alone opening.AlreadyThere = Some (Err fault.Exists)
answer_alone opening.NotDir = Some (Err fault.NotDir)
answer_alone opening.NotFile = Some (Err fault.NotFile)
answer_alone opening.Closed = Some (Err fault.Closed)
answer_alone opening.NoParent = Some (Err fault.NoParent)
answer_alone opening.IntoItself = Some (Err fault.IntoItself)
answer_alone opening.Full = Some (Err fault.Full)
answer_alone opening.NoMemory = Some (Err fault.NoMemory)
answer_alone o = None
