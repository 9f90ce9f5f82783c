-- The calls of the namespace: when each is refused, what it answers and what it leaves.
-- Three of these are assumed by the Hadoop MapReduce committer architecture document and the Hadoop OutputCommitter API. They are mkdirs
-- with its parents, a delete with all beneath, and a rename of a directory in one step. Section 3.3 of Dean and Ghemawat (2004) rests on
-- the rename too. The fence, the bars, the limits, the faults and their order are our own profile.
use Rattle.std.specs.Prelude.{◌≡◌, ◌≤◌, ℕ, ◌+◌, ◌-◌, Bool, true, false, not, ◌||◌, List, [], ◌∷◌, length, filter, Option, Some, None, Result, Ok, Err, is_some, unwrap_or, nat_lt, ◌==◌, max, refl, if◌then◌else◌}
use Rattle.std.specs.List.{list_any}
use Rattle.std.specs.Option.{option_map, option_or}
use Rattle.std.specs.Coded.{Coded, code_by, coded×, coded_ℕ}
use Rattle.std.specs.FinMap as finite
use Rattle.std.specs.FinSet as set
use Rattle.mr_paths.specs.Path.{strip, parent, prefixes}
use Rattle.mr_names_tree.specs.declared.node.Node.TheVariants.{Dir, File}
use Rattle.mr_names.specs.declared.fault.NameFault.{NameFault}
use Rattle.mr_names.specs.declared.fault.NameFault.TheVariants as fault
use Rattle.mr_names.specs.declared.op.Caller.{Caller}
use Rattle.mr_names.specs.declared.op.Op.{Op}
use Rattle.mr_names.specs.declared.op.Op.TheVariants as op
use Rattle.mr_names.specs.declared.op.Answer.{Answer}
use Rattle.mr_names.specs.declared.op.Answer.TheVariants as answers
use Rattle.mr_names.specs.declared.namespace.TheConstants.{MAX_ENTRIES, MAX_FILE_LEN, MAX_BARRED}
use Rattle.mr_names_tree.specs.Node.{appended, closed_of, kind_of}
use Rattle.mr_names_tree.specs.Content.{Content, content_code, IsTree, without, with_dirs, renamed, changed_at}
use Rattle.mr_names_tree.specs.Held.{is_dir, is_file, is_closed, bytes_of, node_at, is_absent, is_present}
use Rattle.mr_names_tree.specs.Listing.{children}
use Rattle.mr_names.specs.Barred.{Barred, barred_code, bars, is_barred, has_no_room}

-- the namespace: its content, its fence, and the attempts that are barred
pub record State : Type 0 where
  pub content : Content
  pub fence : ℕ
  pub barred : Barred

abbrev pub state_code : Coded State
state_code =
    code_by ((Content × ℕ) × Barred) (coded× (coded× content_code coded_ℕ) barred_code)
    (λ s. ((s.content, s.fence), s.barred))
    (λ p. record { content = p.0.0; fence = p.0.1; barred = p.1 })
    (λ _. refl)

-- the entries without the root
abbrev pub entry_count : Content → ℕ
entry_count c = finite.len c - 1

-- each file keeps its limit
abbrev pub FilesFit : Content → Type 0
FilesFit c = (path : List (List ℕ)) → length (bytes_of (node_at c path)) ≤ MAX_FILE_LEN

-- what holds of each namespace: its content is a tree, its fence was raised to generations alone, and its entries, its files and its barred
-- attempts keep their limits
pub record IsSound (s : State) : Type 0 where
  pub tree : IsTree s.content
  pub entries : entry_count s.content ≤ MAX_ENTRIES
  pub files : FilesFit s.content
  pub fence : s.fence ≤ 1000
  pub barred : set.len s.barred ≤ MAX_BARRED

-- a new namespace: the root alone, fence 0, and no attempt barred
abbrev pub opening : State
opening = record { content = finite.insert finite.empty [] Dir; fence = 0; barred = set.empty }

-- with the fence at a generation, if that is greater
abbrev pub raised : State → ℕ → State
raised s app = record s { fence = max s.fence app }

-- what is missing on the way down to a path, the path with it
abbrev pub missing : Content → List (List ℕ) → List (List (List ℕ))
missing c path = filter (is_absent c) (prefixes path)

-- ---- refusals

-- the fault of the first row that applies
abbrev pub first_of : List (Bool × NameFault) → Option NameFault
first_of [] = None
first_of (row ∷ rows) = if row.0 then Some row.1 else first_of rows

-- why a call is refused for what the namespace holds
abbrev pub refusal : Content → Op → Option NameFault
refusal c (op.Mkdirs path) = first_of (
    (list_any (λ p. is_file (node_at c p)) (prefixes path), fault.NotDir)
    ∷ (nat_lt MAX_ENTRIES (entry_count c + length (missing c path)), fault.Full) ∷ [])
refusal c (op.Create path closed) = first_of (
    (is_present c path, fault.Exists)
    ∷ (is_absent c (parent path), fault.NoParent)
    ∷ (is_file (node_at c (parent path)), fault.NotDir)
    ∷ (nat_lt MAX_ENTRIES (entry_count c + 1), fault.Full) ∷ [])
refusal c (op.Append path bytes) = first_of (
    (is_absent c path, fault.Missing)
    ∷ (is_dir (node_at c path), fault.NotFile)
    ∷ (is_closed (node_at c path), fault.Closed)
    ∷ (nat_lt MAX_FILE_LEN (length (bytes_of (node_at c path)) + length bytes), fault.Full) ∷ [])
refusal c (op.Close path) = first_of (
    (is_absent c path, fault.Missing)
    ∷ (is_dir (node_at c path), fault.NotFile)
    ∷ (is_closed (node_at c path), fault.Closed) ∷ [])
refusal c (op.Delete path) = first_of (
    (length path == 0 || is_absent c (parent path), fault.NoParent)
    ∷ (is_absent c path, fault.Missing) ∷ [])
refusal c (op.Rename from to) = first_of (
    (is_absent c from, fault.Missing)
    ∷ (is_some (strip from to), fault.IntoItself)
    ∷ (is_present c to, fault.Exists)
    ∷ (is_absent c (parent to), fault.NoParent)
    ∷ (is_file (node_at c (parent to)), fault.NotDir) ∷ [])
refusal c (op.List path) = first_of (
    (is_absent c path, fault.Missing)
    ∷ (is_file (node_at c path), fault.NotDir) ∷ [])
refusal c (op.Exists path) = None
refusal c (op.Read path) = first_of (
    (is_absent c path, fault.Missing)
    ∷ (is_dir (node_at c path), fault.NotFile) ∷ [])
refusal c (op.Bar a) = None

-- whether a call would pass the limit on barred attempts
abbrev pub passes_limit : Barred → Op → Bool
passes_limit barred (op.Mkdirs path) = false
passes_limit barred (op.Create path closed) = false
passes_limit barred (op.Append path bytes) = false
passes_limit barred (op.Close path) = false
passes_limit barred (op.Delete path) = false
passes_limit barred (op.Rename from to) = false
passes_limit barred (op.List path) = false
passes_limit barred (op.Exists path) = false
passes_limit barred (op.Read path) = false
passes_limit barred (op.Bar a) = has_no_room barred a

-- a call's own refusal, whoever makes it, memory aside
abbrev pub own_refusal : State → Op → Option NameFault
own_refusal s call = if passes_limit s.barred call then Some fault.Full else refusal s.content call

-- ---- effects and answers of a call that is not refused

abbrev pub effect : Content → Op → Content
effect c (op.Mkdirs path) = with_dirs c (missing c path)
effect c (op.Create path closed) = finite.insert c path (File [] closed)
effect c (op.Append path bytes) = changed_at c path (appended bytes)
effect c (op.Close path) = changed_at c path closed_of
effect c (op.Delete path) = without path c
effect c (op.Rename from to) = renamed from to c
effect c (op.List path) = c
effect c (op.Exists path) = c
effect c (op.Read path) = c
effect c (op.Bar a) = c

-- the attempts that are barred after a call: only a bar adds one, and none takes one out
abbrev pub barred_after : Barred → Op → Barred
barred_after barred (op.Mkdirs path) = barred
barred_after barred (op.Create path closed) = barred
barred_after barred (op.Append path bytes) = barred
barred_after barred (op.Close path) = barred
barred_after barred (op.Delete path) = barred
barred_after barred (op.Rename from to) = barred
barred_after barred (op.List path) = barred
barred_after barred (op.Exists path) = barred
barred_after barred (op.Read path) = barred
barred_after barred (op.Bar a) = set.insert barred a

abbrev pub answer : Content → Op → Answer
answer c (op.Mkdirs path) = answers.Done
answer c (op.Create path closed) = answers.Done
answer c (op.Append path bytes) = answers.Done
answer c (op.Close path) = answers.Done
answer c (op.Delete path) = answers.Done
answer c (op.Rename from to) = answers.Done
answer c (op.List path) = answers.Listed (children c path)
answer c (op.Exists path) = answers.Found (option_map kind_of (node_at c path))
answer c (op.Read path) = answers.Contents (bytes_of (node_at c path))
answer c (op.Bar a) = answers.Done

-- ---- the call

-- Why a caller is not heard, whatever it asks: its generation is below the fence, or else its own attempt is barred.
unfoldable pub unheard : State → Caller → Option NameFault
unheard s caller = first_of ((nat_lt caller.app s.fence, fault.Superseded s.fence) ∷ (bars s.barred caller.attempt, fault.Barred) ∷ [])

-- why a call is refused, memory aside: the fence comes first, then the bar
abbrev pub refused : State → Caller → Op → Option NameFault
refused s caller call = option_or (unheard s caller) (own_refusal s call)

abbrev pub settled : Option NameFault → State → Op → Result Answer NameFault × State
settled None s call = (Ok (answer s.content call), record s { content = effect s.content call; barred = barred_after s.barred call })
settled (Some f) s call = (Err f, s)

-- the answer of a call, and the namespace after it. A refusal changes nothing
abbrev pub call_of : State → Caller → Op → Result Answer NameFault × State
call_of s caller call = settled (refused s caller call) s call

-- A function made the call: where it answered, as the call does. Its fault is the call's, or an allocation failure
-- where the call has none, and changed nothing.
abbrev pub Makes : {A : Type 0} → (A → Answer) → State → Caller → Op → Result A NameFault → State → Type 0
Makes shows old caller call (Ok a) new = call_of old caller call ≡ (Ok (shows a), new)
Makes shows old caller call (Err f) new = (f ≡ unwrap_or (refused old caller call) fault.NoMemory) × (new ≡ old)

-- the same of a function that never allocates
abbrev pub MakesAlways : {A : Type 0} → (A → Answer) → State → Caller → Op → Result A NameFault → State → Type 0
MakesAlways shows old caller call (Ok a) new = call_of old caller call ≡ (Ok (shows a), new)
MakesAlways shows old caller call (Err f) new = call_of old caller call ≡ (Err f, new)

-- whether a call may allocate: where it adds an entry, bytes, a name or a bar, or hands out entries or bytes
abbrev pub may_want_memory : State → Op → Bool
may_want_memory s (op.Mkdirs path) = is_absent s.content path
may_want_memory s (op.Create path closed) = true
may_want_memory s (op.Append path bytes) = nat_lt 0 (length bytes)
may_want_memory s (op.Close path) = false
may_want_memory s (op.Delete path) = false
may_want_memory s (op.Rename from to) = true
may_want_memory s (op.List path) = nat_lt 0 (length (children s.content path))
may_want_memory s (op.Exists path) = false
may_want_memory s (op.Read path) = nat_lt 0 (length (bytes_of (node_at s.content path)))
may_want_memory s (op.Bar a) = not (is_barred s.barred a)

-- a function told whether a call is refused: with this fault, or not
abbrev pub Refuses : Option NameFault → Result (Unit {0}) NameFault → Type 0
Refuses why (Ok _) = why ≡ None
Refuses why (Err f) = why ≡ Some f
