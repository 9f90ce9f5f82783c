-- The words of a call and of an answer. Which calls and answers there are is told by the namespace; their first words are those of a trace, and the form of a line is our own.
-- How a word's bytes are written is RFC 3986, section 2.1: a byte that is not unreserved is `%` and two hexadecimal digits; a slash is kept, as in a path.
use Rattle.std.specs.Prelude.{◌≡◌, ◌<◌, ◌^◌, ℕ, Bool, IfSome, true, false, List, [], ◌∷◌, ◌++◌, map, flat_map, All, nat_lt, Option, Some, None, Result, Ok, Err, codes, decimal}
use Rattle.std.specs.List.{list_all}
use Rattle.percent_encoding.specs.Percent.{percent_encode}
use Rattle.mr_ids.specs.Text.{attempt_text, IsAttempt}
use Rattle.mr_paths.specs.Path.{IsName}
use Rattle.mr_paths.specs.Text.{path_text}
use Rattle.mr_names_tree.specs.declared.node.Entry.{Entry}
use Rattle.mr_names_tree.specs.declared.node.Kind.{Kind}
use Rattle.mr_names_tree.specs.declared.node.Kind.TheVariants.{Dir, File}
use Rattle.mr_names.specs.declared.fault.NameFault.{NameFault}
use Rattle.mr_names.specs.declared.fault.NameFault.TheVariants as fault
use Rattle.mr_names.specs.declared.op.Answer.{Answer}
use Rattle.mr_names.specs.declared.op.Answer.TheVariants as answer
use Rattle.mr_names.specs.declared.op.Op.{Op}
use Rattle.mr_names.specs.declared.op.Op.TheVariants as op
use Rattle.mr_call_words.specs.declared.word.TheConstants.{ESCAPED}

-- bytes as one word: all but letters, digits and `-._~/` escaped
abbrev pub word : List ℕ → List ℕ
word bytes = percent_encode ESCAPED bytes

-- words with a space between each two
abbrev pub line_of : List (List ℕ) → List ℕ
line_of [] = []
line_of (first ∷ rest) = word first ++ flat_map (λ bytes. 32 ∷ word bytes) rest

-- ---- calls

abbrev pub closed_words : Bool → List (List ℕ)
closed_words true = codes "closed" ∷ []
closed_words false = []

abbrev pub call_words : Op → List (List ℕ)
call_words (op.Mkdirs path) = codes "mkdirs" ∷ path_text path ∷ []
call_words (op.Create path closed) = codes "create" ∷ path_text path ∷ closed_words closed
call_words (op.Append path bytes) = codes "append" ∷ path_text path ∷ bytes ∷ []
call_words (op.Close path) = codes "close" ∷ path_text path ∷ []
call_words (op.Delete path) = codes "delete" ∷ path_text path ∷ []
call_words (op.Rename from to) = codes "rename" ∷ path_text from ∷ path_text to ∷ []
call_words (op.List path) = codes "list" ∷ path_text path ∷ []
call_words (op.Exists path) = codes "exists" ∷ path_text path ∷ []
call_words (op.Read path) = codes "read" ∷ path_text path ∷ []
call_words (op.Bar a) = codes "bar" ∷ attempt_text a ∷ []

unfoldable pub call_line : Op → List ℕ
call_line call = line_of (call_words call)

-- ---- answers

-- a directory has a slash behind its name, which no name has
abbrev pub kind_mark : Kind → List ℕ
kind_mark Dir = 47 ∷ []
kind_mark File = []

abbrev pub entry_text : Entry → List ℕ
entry_text e = e.name ++ kind_mark e.kind

abbrev pub fault_words : NameFault → List (List ℕ)
fault_words (fault.Superseded fence) = codes "Superseded" ∷ decimal fence ∷ []
fault_words fault.Barred = codes "Barred" ∷ []
fault_words fault.Missing = codes "Missing" ∷ []
fault_words fault.Exists = codes "Exists" ∷ []
fault_words fault.NotDir = codes "NotDir" ∷ []
fault_words fault.NotFile = codes "NotFile" ∷ []
fault_words fault.Closed = codes "Closed" ∷ []
fault_words fault.NoParent = codes "NoParent" ∷ []
fault_words fault.IntoItself = codes "IntoItself" ∷ []
fault_words fault.Full = codes "Full" ∷ []
fault_words fault.NoMemory = codes "NoMemory" ∷ []

abbrev pub answer_words : Result Answer NameFault → List (List ℕ)
answer_words (Ok answer.Done) = codes "done" ∷ []
answer_words (Ok (answer.Listed entries)) = codes "entries" ∷ map entry_text entries
answer_words (Ok (answer.Found None)) = codes "nothing" ∷ []
answer_words (Ok (answer.Found (Some Dir))) = codes "a" ∷ codes "directory" ∷ []
answer_words (Ok (answer.Found (Some File))) = codes "a" ∷ codes "file" ∷ []
answer_words (Ok (answer.Contents bytes)) = codes "bytes" ∷ bytes ∷ []
answer_words (Err f) = fault_words f

unfoldable pub answer_line : Result Answer NameFault → List ℕ
answer_line answer = line_of (answer_words answer)

-- ---- what has a line, and what a line is read as

abbrev pub are_bytes : List ℕ → Bool
are_bytes bytes = list_all (λ b. nat_lt b 256) bytes

abbrev pub AreBytes : List ℕ → Type 0
AreBytes bytes = are_bytes bytes ≡ true

abbrev pub IsPath : List (List ℕ) → Type 0
IsPath path = All IsName path × (list_all are_bytes path ≡ true)

abbrev pub IsCall : Op → Type 0
IsCall (op.Mkdirs path) = IsPath path
IsCall (op.Create path closed) = IsPath path
IsCall (op.Append path bytes) = IsPath path × AreBytes bytes
IsCall (op.Close path) = IsPath path
IsCall (op.Delete path) = IsPath path
IsCall (op.Rename from to) = IsPath from × IsPath to
IsCall (op.List path) = IsPath path
IsCall (op.Exists path) = IsPath path
IsCall (op.Read path) = IsPath path
IsCall (op.Bar a) = IsAttempt a

abbrev pub IsEntry : Entry → Type 0
IsEntry e = IsName e.name × AreBytes e.name

abbrev pub IsFault : NameFault → Type 0
IsFault (fault.Superseded fence) = fence < 2 ^ 32
IsFault f = Unit {0}

abbrev pub IsAnswer : Result Answer NameFault → Type 0
IsAnswer (Ok answer.Done) = Unit {0}
IsAnswer (Ok (answer.Listed entries)) = All IsEntry entries
IsAnswer (Ok (answer.Found there)) = Unit {0}
IsAnswer (Ok (answer.Contents bytes)) = AreBytes bytes
IsAnswer (Err f) = IsFault f

-- the call that a line is written as, and no other one; or there is none
pub record ReadsCall (line : List ℕ) (found : Option Op) : Type 0 where
  pub fits : IfSome found IsCall
  pub is : IfSome found (λ call. line ≡ call_line call)
  pub only : (call : Op) → IsCall call → line ≡ call_line call → found ≡ Some call

-- the same of an answer
pub record ReadsAnswer (line : List ℕ) (found : Option (Result Answer NameFault)) : Type 0 where
  pub fits : IfSome found IsAnswer
  pub is : IfSome found (λ answer. line ≡ answer_line answer)
  pub only : (answer : Result Answer NameFault) → IsAnswer answer → line ≡ answer_line answer → found ≡ Some answer
