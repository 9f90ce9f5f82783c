-- Laws of the namespace's calls, for whoever reasons on them without their definitions.
use Rattle.std.specs.Prelude.{◌≡◌, ◌≢◌, ◌≤◌, ◌<◌, ◌+◌, ℕ, Bool, true, false, ◌||◌, ◌&&◌, ◌⊎◌, List, [], ◌∷◌, ◌++◌, length, Option, Some, None, Ok, Err, is_some, if◌then◌else◌}
use Rattle.std.specs.List.{list_any}
use Rattle.std.specs.Option.{option_map}
use Rattle.mr_ids.specs.Attempt.{Attempt}
use Rattle.mr_paths.specs.Path.{parent, prefixes}
use Rattle.mr_names_tree.specs.declared.node.Node.{Node}
use Rattle.mr_names_tree.specs.declared.node.Node.TheVariants.{Dir, File}
use Rattle.mr_names.specs.declared.fault.NameFault.{NameFault}
use Rattle.mr_names.specs.declared.fault.NameFault.TheVariants as fault
use Rattle.mr_names.specs.declared.op.Answer.{Answer}
use Rattle.mr_names.specs.declared.op.Caller.{Caller}
use Rattle.mr_names.specs.declared.op.Op.{Op}
use Rattle.mr_names.specs.declared.op.Op.TheVariants as op
use Rattle.mr_names.specs.declared.namespace.TheConstants.{MAX_ENTRIES, MAX_FILE_LEN}
use Rattle.mr_names_tree.specs.Node.{appended, closed_of}
use Rattle.mr_names_tree.specs.Content.{Content, IsTree, is_path, without, renamed, renamed_at, within}
use Rattle.mr_names_tree.specs.Held.{node_at, is_absent, is_file, bytes_of}
pub use Rattle.mr_names_tree.specs.Held.{MayRename}
pub use Rattle.mr_names_tree.specs.Listing.{kind_listed, ListsChildren, ListsInOrder}
use Rattle.mr_names.specs.Barred.{bars, is_barred}
use Rattle.mr_names.specs.Calls.{State, IsSound, opening, raised, missing, entry_count, refusal, own_refusal, unheard, refused, effect, barred_after, answer, call_of}

-- ---- what is found at each path

-- what a path holds once a call that is not refused is made
abbrev pub node_after : Content → Op → List (List ℕ) → Option Node
node_after c (op.Mkdirs path) q = if is_absent c q && within q path then Some Dir else node_at c q
node_after c (op.Create path closed) q = if is_path q path then Some (File [] closed) else node_at c q
node_after c (op.Append path bytes) q = if is_path q path then option_map (appended bytes) (node_at c q) else node_at c q
node_after c (op.Close path) q = if is_path q path then option_map closed_of (node_at c q) else node_at c q
node_after c (op.Delete path) q = if within path q then None else node_at c q
node_after c (op.Rename from to) q = renamed_at from to c q
node_after c (op.List path) q = node_at c q
node_after c (op.Exists path) q = node_at c q
node_after c (op.Read path) q = node_at c q
node_after c (op.Bar a) q = node_at c q

abbrev pub EachPath : Type 0
EachPath = (c : Content) (call : Op) (path : List (List ℕ)) → IsTree c → refusal c call ≡ None → node_at (effect c call) path ≡ node_after c call path

abbrev pub RenameMoves : Type 0
RenameMoves = (from to path : List (List ℕ)) (c : Content) → IsTree c → node_at c to ≡ None → node_at (renamed from to c) path ≡ renamed_at from to c path

abbrev pub DeleteTakesOut : Type 0
DeleteTakesOut = (top path : List (List ℕ)) (c : Content) → node_at (without top c) path ≡ (if within top path then None else node_at c path)

-- ---- the same, where a call was made

abbrev pub MadeThere : Type 0
MadeThere = (c : Content) (path : List (List ℕ)) → refusal c (op.Mkdirs path) ≡ None → node_at (effect c (op.Mkdirs path)) path ≡ Some Dir

abbrev pub CreatedThere : Type 0
CreatedThere = (c : Content) (path : List (List ℕ)) (closed : Bool) → node_at (effect c (op.Create path closed)) path ≡ Some (File [] closed)

abbrev pub AppendedThere : Type 0
AppendedThere = (c : Content) (path : List (List ℕ)) (more bytes : List ℕ) (closed : Bool) → node_at c path ≡ Some (File bytes closed)
    → node_at (effect c (op.Append path more)) path ≡ Some (File (bytes ++ more) closed)

abbrev pub ClosedThere : Type 0
ClosedThere = (c : Content) (path : List (List ℕ)) (bytes : List ℕ) (closed : Bool) → node_at c path ≡ Some (File bytes closed)
    → node_at (effect c (op.Close path)) path ≡ Some (File bytes true)

abbrev pub DeletedThere : Type 0
DeletedThere = (c : Content) (path rest : List (List ℕ)) → node_at (effect c (op.Delete path)) (path ++ rest) ≡ None

-- a rename brings all that was at and beneath its first path to its second
abbrev pub RenamedThere : Type 0
RenamedThere = (c : Content) (from to rest : List (List ℕ)) → IsTree c → refusal c (op.Rename from to) ≡ None
    → node_at (effect c (op.Rename from to)) (to ++ rest) ≡ node_at c (from ++ rest)

abbrev pub RenamedAway : Type 0
RenamedAway = (c : Content) (from to rest : List (List ℕ)) → IsTree c → refusal c (op.Rename from to) ≡ None
    → node_at (effect c (op.Rename from to)) (from ++ rest) ≡ None

-- ---- what stays

-- whether a call names a path: it may leave it otherwise than it was
abbrev pub touches : Op → List (List ℕ) → Bool
touches (op.Mkdirs path) q = within q path
touches (op.Create path closed) q = is_path q path
touches (op.Append path bytes) q = is_path q path
touches (op.Close path) q = is_path q path
touches (op.Delete path) q = within path q
touches (op.Rename from to) q = within from q || within to q
touches (op.List path) q = false
touches (op.Exists path) q = false
touches (op.Read path) q = false
touches (op.Bar a) q = false

-- of any content, whether the call is refused or not
abbrev pub OthersStay : Type 0
OthersStay = (c : Content) (call : Op) (path : List (List ℕ)) → touches call path ≡ false → node_at (effect c call) path ≡ node_at c path

-- whether a call may put something at a path that held nothing
abbrev pub makes : Op → List (List ℕ) → Bool
makes (op.Mkdirs path) q = within q path
makes (op.Create path closed) q = is_path q path
makes (op.Append path bytes) q = false
makes (op.Close path) q = false
makes (op.Delete path) q = false
makes (op.Rename from to) q = within to q
makes (op.List path) q = false
makes (op.Exists path) q = false
makes (op.Read path) q = false
makes (op.Bar a) q = false

abbrev pub OnlyMakersMake : Type 0
OnlyMakersMake = (c : Content) (call : Op) (path : List (List ℕ)) → IsTree c → refusal c call ≡ None → makes call path ≡ false
    → node_at c path ≡ None → node_at (effect c call) path ≡ None

-- whether a call takes away what a path holds
abbrev pub takes : Op → List (List ℕ) → Bool
takes (op.Mkdirs path) q = false
takes (op.Create path closed) q = false
takes (op.Append path bytes) q = false
takes (op.Close path) q = false
takes (op.Delete path) q = within path q
takes (op.Rename from to) q = within from q
takes (op.List path) q = false
takes (op.Exists path) q = false
takes (op.Read path) q = false
takes (op.Bar a) q = false

abbrev pub DirsStay : Type 0
DirsStay = (c : Content) (call : Op) (path : List (List ℕ)) → IsTree c → refusal c call ≡ None → takes call path ≡ false
    → node_at c path ≡ Some Dir → node_at (effect c call) path ≡ Some Dir

-- a file that is closed has its bytes for good
abbrev pub ClosedFilesStay : Type 0
ClosedFilesStay = (c : Content) (call : Op) (path : List (List ℕ)) (bytes : List ℕ) → IsTree c → refusal c call ≡ None → takes call path ≡ false
    → node_at c path ≡ Some (File bytes true) → node_at (effect c call) path ≡ Some (File bytes true)

-- ---- the tree

-- a call that is not refused leaves a tree
abbrev pub StaysTree : Type 0
StaysTree = (c : Content) (call : Op) → IsTree c → refusal c call ≡ None → IsTree (effect c call)

abbrev pub OpeningIsTree : Type 0
OpeningIsTree = IsTree opening.content

-- where nothing is, nothing is beneath
abbrev pub NothingBeneath : Type 0
NothingBeneath = (c : Content) (path rest : List (List ℕ)) → IsTree c → node_at c path ≡ None → node_at c (path ++ rest) ≡ None

-- nor is anything beneath a file
abbrev pub FilesAreLeaves : Type 0
FilesAreLeaves = (c : Content) (path rest : List (List ℕ)) (name : List ℕ) → IsTree c → is_file (node_at c path) ≡ true → node_at c (path ++ name ∷ rest) ≡ None

-- ---- when a call is answered, the caller and the limit on barred attempts aside

pub record MayMkdirs (c : Content) (path : List (List ℕ)) : Type 0 where
  pub no_file : list_any (λ p. is_file (node_at c p)) (prefixes path) ≡ false
  pub fits : entry_count c + length (missing c path) ≤ MAX_ENTRIES

pub record MayCreate (c : Content) (path : List (List ℕ)) : Type 0 where
  pub free : node_at c path ≡ None
  pub parent_dir : node_at c (parent path) ≡ Some Dir
  pub fits : entry_count c + 1 ≤ MAX_ENTRIES

pub record IsOpenFile (c : Content) (path : List (List ℕ)) : Type 0 where
  pub is_open : node_at c path ≡ Some (File (bytes_of (node_at c path)) false)

pub record MayAppend (c : Content) (path : List (List ℕ)) (bytes : List ℕ) : Type 0 where
  pub is_open : node_at c path ≡ Some (File (bytes_of (node_at c path)) false)
  pub fits : length (bytes_of (node_at c path)) + length bytes ≤ MAX_FILE_LEN

pub record MayDelete (c : Content) (path : List (List ℕ)) : Type 0 where
  pub not_root : path ≢ []
  pub found : is_some (node_at c path) ≡ true

abbrev pub MayMake : Content → Op → Type 0
MayMake c (op.Mkdirs path) = MayMkdirs c path
MayMake c (op.Create path closed) = MayCreate c path
MayMake c (op.Append path bytes) = MayAppend c path bytes
MayMake c (op.Close path) = IsOpenFile c path
MayMake c (op.Delete path) = MayDelete c path
MayMake c (op.Rename from to) = MayRename c from to
MayMake c (op.List path) = node_at c path ≡ Some Dir
MayMake c (op.Exists path) = Unit {0}
MayMake c (op.Read path) = is_file (node_at c path) ≡ true
MayMake c (op.Bar a) = Unit {0}

abbrev pub AnsweredOnly : Type 0
AnsweredOnly = (c : Content) (call : Op) → refusal c call ≡ None → MayMake c call

abbrev pub AnsweredAlways : Type 0
AnsweredAlways = (c : Content) (call : Op) → IsTree c → MayMake c call → refusal c call ≡ None

-- ---- the caller and the answer

-- below the fence a caller is refused whatever it asks, and nothing changes
abbrev pub BelowTheFence : Type 0
BelowTheFence = (s : State) (caller : Caller) (call : Op) → caller.app < s.fence → call_of s caller call ≡ (Err (fault.Superseded s.fence), s)

-- a caller whose attempt is barred is refused whatever it asks, and nothing changes
abbrev pub BarredIsRefused : Type 0
BarredIsRefused = (s : State) (caller : Caller) (call : Op) → s.fence ≤ caller.app → bars s.barred caller.attempt ≡ true → call_of s caller call ≡ (Err fault.Barred, s)

-- a caller at the fence or above it whose attempt is not barred
pub record IsHeard (s : State) (caller : Caller) : Type 0 where
  pub high : s.fence ≤ caller.app
  pub free : bars s.barred caller.attempt ≡ false

-- of a caller that is heard the call's own refusal is left
abbrev pub HeardHasItsOwn : Type 0
HeardHasItsOwn = (s : State) (caller : Caller) (call : Op) → IsHeard s caller → refused s caller call ≡ own_refusal s call

-- which callers are heard
pub record HeardIs : Type 0 where
  pub only : (s : State) (caller : Caller) → unheard s caller ≡ None → IsHeard s caller
  pub always : (s : State) (caller : Caller) → IsHeard s caller → unheard s caller ≡ None
  pub else_why : (s : State) (caller : Caller) (why : NameFault) → unheard s caller ≡ Some why → (why ≡ fault.Superseded s.fence) ⊎ (why ≡ fault.Barred)

-- a call that is answered has a caller that is heard
abbrev pub AnsweredIsHeard : Type 0
AnsweredIsHeard = (s : State) (caller : Caller) (call : Op) → refused s caller call ≡ None → IsHeard s caller

-- a call answers any two callers alike that are heard, and leaves the same
abbrev pub HeardAlike : Type 0
HeardAlike = (s : State) (one other : Caller) (call : Op) → IsHeard s one → IsHeard s other → call_of s one call ≡ call_of s other call

abbrev pub RefusedStays : Type 0
RefusedStays = (s : State) (caller : Caller) (call : Op) (why : NameFault) → refused s caller call ≡ Some why → call_of s caller call ≡ (Err why, s)

abbrev pub AnsweredIsMade : Type 0
AnsweredIsMade = (s : State) (caller : Caller) (call : Op) → refused s caller call ≡ None
    → call_of s caller call ≡ (Ok (answer s.content call), record s { content = effect s.content call; barred = barred_after s.barred call })

-- a call that is answered is refused by nothing that the namespace holds
abbrev pub AnsweredMayBeMade : Type 0
AnsweredMayBeMade = (s : State) (caller : Caller) (call : Op) → refused s caller call ≡ None → refusal s.content call ≡ None

abbrev pub FenceStays : Type 0
FenceStays = (s : State) (caller : Caller) (call : Op) → (call_of s caller call).1.fence ≡ s.fence

abbrev pub TreeStays : Type 0
TreeStays = (s : State) (caller : Caller) (call : Op) → IsTree s.content → IsTree (call_of s caller call).1.content

abbrev pub SoundStays : Type 0
SoundStays = (s : State) (caller : Caller) (call : Op) → IsSound s → IsSound (call_of s caller call).1

-- ---- bars

-- the attempt that a call bars
abbrev pub bar_of : Op → Option Attempt
bar_of (op.Mkdirs path) = None
bar_of (op.Create path closed) = None
bar_of (op.Append path bytes) = None
bar_of (op.Close path) = None
bar_of (op.Delete path) = None
bar_of (op.Rename from to) = None
bar_of (op.List path) = None
bar_of (op.Exists path) = None
bar_of (op.Read path) = None
bar_of (op.Bar a) = Some a

-- who is barred stays so
abbrev pub BarredGrow : Type 0
BarredGrow = (s : State) (caller : Caller) (call : Op) (a : Attempt) → is_barred s.barred a ≡ true → is_barred (call_of s caller call).1.barred a ≡ true

-- an attempt comes to be barred by its bar alone
abbrev pub OnlyBarBars : Type 0
OnlyBarBars = (s : State) (caller : Caller) (call : Op) (a : Attempt) → is_barred s.barred a ≡ false → is_barred (call_of s caller call).1.barred a ≡ true → bar_of call ≡ Some a

-- a call that is no bar leaves the barred attempts as they are
abbrev pub OthersBarNone : Type 0
OthersBarNone = (s : State) (caller : Caller) (call : Op) → bar_of call ≡ None → (call_of s caller call).1.barred ≡ s.barred

-- a bar leaves the content as it is
abbrev pub BarKeepsContent : Type 0
BarKeepsContent = (s : State) (caller : Caller) (a : Attempt) → (call_of s caller (op.Bar a)).1.content ≡ s.content

-- a bar that was answered
abbrev pub BarBars : Type 0
BarBars = (s t : State) (caller : Caller) (a : Attempt) (said : Answer) → call_of s caller (op.Bar a) ≡ (Ok said, t) → is_barred t.barred a ≡ true

-- one namespace comes of another: by calls, answered or refused, of any callers, and by raises of the fence
pub data Becomes (s : State) : State → Type 0 where
  at_once : Becomes s s
  by_call : (t : State) (caller : Caller) (call : Op) → Becomes s t → Becomes s (call_of t caller call).1
  by_raise : (t : State) (app : ℕ) → Becomes s t → Becomes s (raised t app)

-- from a bar that was answered on, each call whose caller has that attempt is refused, and changes nothing
abbrev pub BarredForGood : Type 0
BarredForGood = (s t u : State) (by caller : Caller) (a : Attempt) (said : Answer) (call : Op) → call_of s by (op.Bar a) ≡ (Ok said, t) → Becomes t u → caller.attempt ≡ Some a
    → (call_of u caller call ≡ (Err (fault.Superseded u.fence), u)) ⊎ (call_of u caller call ≡ (Err fault.Barred, u))
