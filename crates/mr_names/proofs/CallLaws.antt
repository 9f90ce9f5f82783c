-- The laws of the namespace's calls.
use Rattle.std.proofs.Common.{◌≡◌, ◌≢◌, ℕ, ◌+◌, ◌≤◌, Bool, true, false, cond, ◌&&◌, ◌||◌, List, [], ◌∷◌, ◌++◌, length, refl, sym, ap, ◌∙◌, subst, Option, Some, None, is_some, is_none, true≢false, append-nil, arith, eqb, nat_lt, nat_eq, ⊎_elim}
use Rattle.std.proofs.lemmas.Bool.{ltb-false, le-ltb, eqb-true}
use Rattle.std.specs.Option.{option_map}
use Rattle.std.specs.Cmp.Lexicographic.{pointwise, nat_list_eq_equiv}
use Rattle.std.specs.FinMap as finite
use Rattle.mr_paths.specs.Path.{strip, parent, prefixes, path_ties, path_total}
use Rattle.mr_paths.proofs.Paths.{strip-append}
use Rattle.mr_names_tree.specs.declared.node.Node.{Node}
use Rattle.mr_names_tree.specs.declared.node.Node.TheVariants.{Dir, File}
use Rattle.mr_names.specs.declared.fault.NameFault.TheVariants as fault
use Rattle.mr_names.specs.declared.op.Op.TheVariants as op
use Rattle.mr_names.specs.declared.namespace.TheConstants.{MAX_FILE_LEN}
use Rattle.mr_names_tree.specs.Node.{appended, closed_of}
use Rattle.mr_names_tree.specs.Content.{Content, IsTree, is_path, within, changed_at, changed_by}
use Rattle.mr_names_tree.specs.Held.{node_at, is_absent, is_file, is_dir, is_closed, bytes_of}
use Rattle.mr_names.specs.Calls.{refusal, effect, first_of}
use Rattle.mr_names.specs.Laws.{EachPath, MadeThere, CreatedThere, AppendedThere, ClosedThere, DeletedThere, RenamedThere, RenamedAway, OthersStay, OnlyMakersMake, DirsStay, ClosedFilesStay, NothingBeneath, FilesAreLeaves, MayMkdirs, MayCreate, IsOpenFile, MayAppend, MayDelete, MayRename, AnsweredOnly, AnsweredAlways}
use Rattle.mr_names_tree.proofs.ContentLaws.{same_path, same_itself, get-without, get-renamed, get-renamed-outside, nothing_within, above_is_dir}
use Rattle.mr_names.proofs.TreeLaws.{row_passes, present, absent, is_there, nonempty, get-made, parent-push, Pushed, front_and_last, any_at, list_any-prefixes}

-- ---- one path written or changed

pub get-written : (c : Content) (path : List (List ℕ)) (node : Node) (q : List (List ℕ)) → finite.get (finite.insert c path node) q ≡ cond (is_path q path) (Some node) (finite.get c q)
get-written c path node q = finite.get-insert path_total c path node q ∙ ap (λ b. cond b (Some node) (finite.get c q)) (sym (path_ties q path))

pub is_path-same : (q path : List (List ℕ)) → is_path q path ≡ true → q ≡ path
is_path-same q path e = same_path q path (sym (path_ties q path) ∙ e)

pub get-changed : (c : Content) (path : List (List ℕ)) (f : Node → Node) (q : List (List ℕ)) → finite.get (changed_at c path f) q ≡ cond (is_path q path) (option_map f (finite.get c q)) (finite.get c q)
get-changed c path f q = by (finite.get c path) refl (is_path q path) refl
  where
    last : (node : Node) (b : Bool) → is_path q path ≡ b → finite.get c path ≡ Some node → cond b (Some (f node)) (finite.get c q) ≡ cond b (option_map f (finite.get c q)) (finite.get c q)
    last node true is some = let here : finite.get c q ≡ Some node = ap (finite.get c) (is_path-same q path is) ∙ some in rw here refl
    last node false is some = refl

    by : (o : Option Node) → finite.get c path ≡ o → (b : Bool) → is_path q path ≡ b → finite.get (changed_by c path f o) q ≡ cond b (option_map f (finite.get c q)) (finite.get c q)
    by None none true is = let here : finite.get c q ≡ None = ap (finite.get c) (is_path-same q path is) ∙ none in rw here refl
    by None none false is = refl
    by (Some node) some b is = get-written c path (f node) q ∙ ap (λ t. cond t (Some (f node)) (finite.get c q)) is ∙ last node b is some

-- ---- paths

none_of : (o : Option (List (List ℕ))) → is_some o ≡ false → o ≡ None
none_of None e = refl
none_of (Some x) e = absurd (true≢false e)

either : (a b : Bool) → (a || b) ≡ false → (a ≡ false) × (b ≡ false)
either true b e = absurd (true≢false e)
either false b e = (refl, e)

-- ---- when a call is answered

open_file : (o : Option Node) → is_none o ≡ false → is_dir o ≡ false → is_closed o ≡ false → o ≡ Some (File (bytes_of o) false)
open_file None a b d = absurd (true≢false a)
open_file (Some Dir) a b d = absurd (true≢false b)
open_file (Some (File bytes true)) a b d = absurd (true≢false d)
open_file (Some (File bytes false)) a b d = refl

file_of : (o : Option Node) → is_none o ≡ false → is_dir o ≡ false → is_file o ≡ true
file_of None a b = absurd (true≢false a)
file_of (Some Dir) a b = absurd (true≢false b)
file_of (Some (File bytes closed)) a b = refl

may_rename : (c : Content) (from to : List (List ℕ)) → refusal c (op.Rename from to) ≡ None → MayRename c from to
may_rename c from to passed =
    let a = row_passes _ _ _ passed in
    let b = row_passes _ _ _ a.1 in
    let d = row_passes _ _ _ b.1 in
    let e = row_passes _ _ _ d.1 in
    let f = row_passes _ _ _ e.1 in
    record { found = is_there _ a.0; outside = b.0; free = absent _ d.0; parent_dir = present _ e.0 f.0 }

pub answered_only : AnsweredOnly
answered_only c (op.Mkdirs path) passed =
    let a = row_passes _ _ _ passed in
    let b = row_passes _ _ _ a.1 in
    record { no_file = a.0; fits = ltb-false _ _ b.0 }
answered_only c (op.Create path closed) passed =
    let a = row_passes _ _ _ passed in
    let b = row_passes _ _ _ a.1 in
    let d = row_passes _ _ _ b.1 in
    let e = row_passes _ _ _ d.1 in
    record { free = absent _ a.0; parent_dir = present _ b.0 d.0; fits = ltb-false _ _ e.0 }
answered_only c (op.Append path bytes) passed =
    let a = row_passes _ _ _ passed in
    let b = row_passes _ _ _ a.1 in
    let d = row_passes _ _ _ b.1 in
    let e = row_passes _ _ _ d.1 in
    record { is_open = open_file _ a.0 b.0 d.0; fits = ltb-false _ _ e.0 }
answered_only c (op.Close path) passed =
    let a = row_passes _ _ _ passed in
    let b = row_passes _ _ _ a.1 in
    let d = row_passes _ _ _ b.1 in
    record { is_open = open_file _ a.0 b.0 d.0 }
answered_only c (op.Delete path) passed =
    let a = row_passes _ _ _ passed in
    let b = row_passes _ _ _ a.1 in
    record { not_root = nonempty path _ a.0; found = is_there _ b.0 }
answered_only c (op.Rename from to) passed = may_rename c from to passed
answered_only c (op.List path) passed =
    let a = row_passes _ _ _ passed in
    let b = row_passes _ _ _ a.1 in
    present _ a.0 b.0
answered_only c (op.Exists path) passed = tt
answered_only c (op.Bar a) passed = tt
answered_only c (op.Read path) passed =
    let a = row_passes _ _ _ passed in
    let b = row_passes _ _ _ a.1 in
    file_of _ a.0 b.0

free_to : (c : Content) (from to : List (List ℕ)) → refusal c (op.Rename from to) ≡ None → finite.get c to ≡ None
free_to c from to passed = let m : MayRename c from to = may_rename c from to passed in m.free

-- ---- what is found at each path

pub each_path : EachPath
each_path c (op.Mkdirs path) q tree none = get-made c path q
each_path c (op.Create path closed) q tree none = get-written c path (File [] closed) q
each_path c (op.Append path bytes) q tree none = get-changed c path (appended bytes) q
each_path c (op.Close path) q tree none = get-changed c path closed_of q
each_path c (op.Delete path) q tree none = get-without path c q
each_path c (op.Rename from to) q tree none = get-renamed from to c q (nothing_within c tree to (free_to c from to none))
each_path c (op.List path) q tree none = refl
each_path c (op.Exists path) q tree none = refl
each_path c (op.Read path) q tree none = refl
each_path c (op.Bar a) q tree none = refl

-- ---- the same, where a call was made

is_path-itself : (path : List (List ℕ)) → is_path path path ≡ true
is_path-itself path = path_ties path path ∙ same_itself path

within-itself : (path : List (List ℕ)) → within path path ≡ true
within-itself path = subst (λ p. within path p ≡ true) (append-nil path) (ap is_some (strip-append path []))

-- two paths apart stay apart further down
pub within-apart : (top path rest : List (List ℕ)) → within top path ≡ false → within path top ≡ false → within top (path ++ rest) ≡ false
within-apart [] path rest a b = a
within-apart (n ∷ top) [] rest a b = absurd (true≢false b)
within-apart (n ∷ top) (m ∷ path) rest a b = by (pointwise nat_eq n m) refl (pointwise nat_eq m n) refl a b (within-apart top path rest)
  where
    by : (d : Bool) → pointwise nat_eq n m ≡ d → (e : Bool) → pointwise nat_eq m n ≡ e → is_some (cond d (strip top path) None) ≡ false → is_some (cond e (strip path top) None) ≡ false → (within top path ≡ false → within path top ≡ false → within top (path ++ rest) ≡ false) → is_some (cond d (strip top (path ++ rest)) None) ≡ false
    by false x e y a b go = refl
    by true x true y a b go = go a b
    by true x false y a b go = absurd (true≢false (sym x ∙ nat_list_eq_equiv.symm n m ∙ y))

pub made_there : MadeThere
made_there c path passed = get-made c path path ∙ by (finite.get c path) (no_file passed)
  where
    no_file : refusal c (op.Mkdirs path) ≡ None → is_file (finite.get c path) ≡ false
    no_file passed = let m : MayMkdirs c path = answered_only c (op.Mkdirs path) passed in any_at (λ p. is_file (node_at c p)) path (prefixes path) m.no_file (list_any-prefixes path path ∙ within-itself path)

    by : (o : Option Node) → is_file o ≡ false → cond (is_none o && within path path) (Some Dir) o ≡ Some Dir
    by None f = rw (within-itself path) refl
    by (Some Dir) f = refl
    by (Some (File bytes closed)) f = absurd (true≢false f)

pub created_there : CreatedThere
created_there c path closed = get-written c path (File [] closed) path ∙ rw (is_path-itself path) refl

pub appended_there : AppendedThere
appended_there c path more bytes closed file = get-changed c path (appended more) path ∙ rw (is_path-itself path, file) refl

pub closed_there : ClosedThere
closed_there c path bytes closed file = get-changed c path closed_of path ∙ rw (is_path-itself path, file) refl

pub deleted_there : DeletedThere
deleted_there c path rest = get-without path c (path ++ rest) ∙ rw (strip-append path rest) refl

pub renamed_there : RenamedThere
renamed_there c from to rest tree passed = each_path c (op.Rename from to) (to ++ rest) tree passed ∙ rw (strip-append to rest) refl

pub renamed_away : RenamedAway
renamed_away c from to rest tree passed =
    let m : MayRename c from to = may_rename c from to passed in
    let out : strip to from ≡ None = by (finite.get c from) refl m.found in
    let free : strip to (from ++ rest) ≡ None = none_of (strip to (from ++ rest)) (within-apart to from rest (ap is_some out) m.outside) in
    each_path c (op.Rename from to) (from ++ rest) tree passed ∙ rw (free, strip-append from rest) refl
  where
    by : (o : Option Node) → finite.get c from ≡ o → is_some (finite.get c from) ≡ true → strip to from ≡ None
    by o is found = nothing_within c tree to (free_to c from to passed) from found

-- ---- what stays

off : (a b : Bool) (x y : Option Node) → b ≡ false → cond (a && b) x y ≡ y
off true true x y e = absurd (true≢false e)
off true false x y e = refl
off false b x y e = refl

pub others_stay : OthersStay
others_stay c (op.Mkdirs path) q apart = get-made c path q ∙ off (is_absent c q) (within q path) (Some Dir) (finite.get c q) apart
others_stay c (op.Create path closed) q apart = get-written c path (File [] closed) q ∙ rw apart refl
others_stay c (op.Append path bytes) q apart = get-changed c path (appended bytes) q ∙ rw apart refl
others_stay c (op.Close path) q apart = get-changed c path closed_of q ∙ rw apart refl
others_stay c (op.Delete path) q apart = get-without path c q ∙ rw apart refl
others_stay c (op.Rename from to) q apart =
    let outside = either (within from q) (within to q) apart in
    get-renamed-outside from to c q outside.0 outside.1
others_stay c (op.List path) q apart = refl
others_stay c (op.Exists path) q apart = refl
others_stay c (op.Read path) q apart = refl
others_stay c (op.Bar a) q apart = refl

still_none : (b : Bool) (f : Node → Node) (o : Option Node) → o ≡ None → cond b (option_map f o) o ≡ None
still_none true f o e = rw e refl
still_none false f o e = e

gone : (b : Bool) (o : Option Node) → o ≡ None → cond b None o ≡ None
gone true o e = refl
gone false o e = e

pub only_makers_make : OnlyMakersMake
only_makers_make c (op.Mkdirs path) q tree passed apart none = others_stay c (op.Mkdirs path) q apart ∙ none
only_makers_make c (op.Create path closed) q tree passed apart none = others_stay c (op.Create path closed) q apart ∙ none
only_makers_make c (op.Append path bytes) q tree passed apart none = get-changed c path (appended bytes) q ∙ still_none (is_path q path) (appended bytes) _ none
only_makers_make c (op.Close path) q tree passed apart none = get-changed c path closed_of q ∙ still_none (is_path q path) closed_of _ none
only_makers_make c (op.Delete path) q tree passed apart none = get-without path c q ∙ gone (within path q) _ none
only_makers_make c (op.Rename from to) q tree passed apart none =
    let out : strip to q ≡ None = none_of (strip to q) apart in
    each_path c (op.Rename from to) q tree passed ∙ rw out (gone (within from q) _ none)
only_makers_make c (op.List path) q tree passed apart none = none
only_makers_make c (op.Exists path) q tree passed apart none = none
only_makers_make c (op.Read path) q tree passed apart none = none
only_makers_make c (op.Bar a) q tree passed apart none = none

-- what stands stays as it is where nothing is taken, appended or closed

made_kept : (c : Content) (path q : List (List ℕ)) (node : Node) → finite.get c q ≡ Some node → finite.get (effect c (op.Mkdirs path)) q ≡ Some node
made_kept c path q node some = get-made c path q ∙ rw some refl

created_kept : (c : Content) (path q : List (List ℕ)) (closed : Bool) (node : Node) → refusal c (op.Create path closed) ≡ None → finite.get c q ≡ Some node → finite.get (effect c (op.Create path closed)) q ≡ Some node
created_kept c path q closed node passed some = get-written c path (File [] closed) q ∙ by (is_path q path) refl
  where
    none : finite.get c path ≡ None
    none = absent _ (row_passes _ _ _ passed).0

    by : (b : Bool) → is_path q path ≡ b → cond b (Some (File [] closed)) (finite.get c q) ≡ Some node
    by true is = let clash : Some node ≡ None = sym some ∙ ap (finite.get c) (is_path-same q path is) ∙ none in cc
    by false is = some

deleted_kept : (c : Content) (path q : List (List ℕ)) (node : Node) → within path q ≡ false → finite.get c q ≡ Some node → finite.get (effect c (op.Delete path)) q ≡ Some node
deleted_kept c path q node out some = get-without path c q ∙ rw out some

renamed_kept : (c : Content) (from to q : List (List ℕ)) (node : Node) → IsTree c → refusal c (op.Rename from to) ≡ None → within from q ≡ false → finite.get c q ≡ Some node → finite.get (effect c (op.Rename from to)) q ≡ Some node
renamed_kept c from to q node tree passed out some =
    let free : strip to q ≡ None = nothing_within c tree to (free_to c from to passed) q (ap is_some some) in
    each_path c (op.Rename from to) q tree passed ∙ rw (free, out) some

still_dir : (b : Bool) (f : Node → Node) (o : Option Node) → f Dir ≡ Dir → o ≡ Some Dir → cond b (option_map f o) o ≡ Some Dir
still_dir true f o keeps e = rw e (ap Some keeps)
still_dir false f o keeps e = e

pub dirs_stay : DirsStay
dirs_stay c (op.Mkdirs path) q tree passed kept dir = made_kept c path q Dir dir
dirs_stay c (op.Create path closed) q tree passed kept dir = created_kept c path q closed Dir passed dir
dirs_stay c (op.Append path bytes) q tree passed kept dir = get-changed c path (appended bytes) q ∙ still_dir (is_path q path) (appended bytes) _ refl dir
dirs_stay c (op.Close path) q tree passed kept dir = get-changed c path closed_of q ∙ still_dir (is_path q path) closed_of _ refl dir
dirs_stay c (op.Delete path) q tree passed kept dir = deleted_kept c path q Dir kept dir
dirs_stay c (op.Rename from to) q tree passed kept dir = renamed_kept c from to q Dir tree passed kept dir
dirs_stay c (op.List path) q tree passed kept dir = dir
dirs_stay c (op.Exists path) q tree passed kept dir = dir
dirs_stay c (op.Read path) q tree passed kept dir = dir
dirs_stay c (op.Bar a) q tree passed kept dir = dir

closed_kept : (c : Content) (path q : List (List ℕ)) (f : Node → Node) (bytes : List ℕ) → is_closed (finite.get c path) ≡ false → finite.get c q ≡ Some (File bytes true) → finite.get (changed_at c path f) q ≡ Some (File bytes true)
closed_kept c path q f bytes free file = get-changed c path f q ∙ by (is_path q path) refl
  where
    by : (b : Bool) → is_path q path ≡ b → cond b (option_map f (finite.get c q)) (finite.get c q) ≡ Some (File bytes true)
    by true is = let clash : true ≡ false = ap is_closed (sym file ∙ ap (finite.get c) (is_path-same q path is)) ∙ free in absurd (true≢false clash)
    by false is = file

pub closed_files_stay : ClosedFilesStay
closed_files_stay c (op.Mkdirs path) q bytes tree passed kept file = made_kept c path q (File bytes true) file
closed_files_stay c (op.Create path closed) q bytes tree passed kept file = created_kept c path q closed (File bytes true) passed file
closed_files_stay c (op.Append path more) q bytes tree passed kept file =
    let m : MayAppend c path more = answered_only c (op.Append path more) passed in
    closed_kept c path q (appended more) bytes (ap is_closed m.is_open) file
closed_files_stay c (op.Close path) q bytes tree passed kept file =
    let m : IsOpenFile c path = answered_only c (op.Close path) passed in
    closed_kept c path q closed_of bytes (ap is_closed m.is_open) file
closed_files_stay c (op.Delete path) q bytes tree passed kept file = deleted_kept c path q (File bytes true) kept file
closed_files_stay c (op.Rename from to) q bytes tree passed kept file = renamed_kept c from to q (File bytes true) tree passed kept file
closed_files_stay c (op.List path) q bytes tree passed kept file = file
closed_files_stay c (op.Exists path) q bytes tree passed kept file = file
closed_files_stay c (op.Read path) q bytes tree passed kept file = file
closed_files_stay c (op.Bar a) q bytes tree passed kept file = file

-- ---- the tree

pub nothing_beneath : NothingBeneath
nothing_beneath c path rest tree none = by (finite.get c (path ++ rest)) refl
  where
    by : (o : Option Node) → finite.get c (path ++ rest) ≡ o → finite.get c (path ++ rest) ≡ None
    by None is = is
    by (Some node) is =
        let clash : Some rest ≡ None = sym (strip-append path rest) ∙ nothing_within c tree path none (path ++ rest) (ap is_some is) in
        cc

pub files_are_leaves : FilesAreLeaves
files_are_leaves c path rest name tree file = by (finite.get c (path ++ name ∷ rest)) refl
  where
    by : (o : Option Node) → finite.get c (path ++ name ∷ rest) ≡ o → finite.get c (path ++ name ∷ rest) ≡ None
    by None is = is
    by (Some node) is =
        let dir : finite.get c path ≡ Some Dir = above_is_dir c tree path name rest (ap is_some is) in
        absurd (true≢false (sym file ∙ ap is_file dir))

-- ---- a call that may be made is answered

-- a path that is not the root is its parent and one name
pub parent_is_dir : (c : Content) (path : List (List ℕ)) → IsTree c → path ≢ [] → is_some (finite.get c path) ≡ true → finite.get c (parent path) ≡ Some Dir
parent_is_dir c path tree apart found = ⊎_elim
    (λ (e : path ≡ []). absurd (apart e))
    (λ (f : Pushed path). ap (λ p. finite.get c (parent p)) f.is ∙ ap (finite.get c) (parent-push f.front f.last) ∙ tree.parents f.front f.last (ap (λ p. is_some (finite.get c p)) (sym f.is) ∙ found))
    (front_and_last path)

not_none : (o : Option Node) → is_some o ≡ true → is_none o ≡ false
not_none None e = absurd (true≢false (sym e))
not_none (Some node) e = refl

not_empty : (path : List (List ℕ)) → path ≢ [] → eqb (length path) 0 ≡ false
not_empty [] apart = absurd (apart refl)
not_empty (n ∷ path) apart = by (eqb (length (n ∷ path)) 0) refl
  where
    by : (b : Bool) → eqb (length (n ∷ path)) 0 ≡ b → b ≡ false
    by true e = let none : length (n ∷ path) ≡ 0 = eqb-true _ _ e in absurd (omega arith)
    by false e = refl

appends : (o : Option Node) (n : ℕ) → o ≡ Some (File (bytes_of o) false) → length (bytes_of o) + n ≤ MAX_FILE_LEN
    → first_of ((is_none o, fault.Missing) ∷ (is_dir o, fault.NotFile) ∷ (is_closed o, fault.Closed) ∷ (nat_lt MAX_FILE_LEN (length (bytes_of o) + n), fault.Full) ∷ []) ≡ None
appends None n e fits = cc
appends (Some Dir) n e fits = cc
appends (Some (File bytes true)) n e fits = cc
appends (Some (File bytes false)) n e fits = rw (le-ltb _ _ fits) refl

closes : (o : Option Node) → o ≡ Some (File (bytes_of o) false) → first_of ((is_none o, fault.Missing) ∷ (is_dir o, fault.NotFile) ∷ (is_closed o, fault.Closed) ∷ []) ≡ None
closes None e = cc
closes (Some Dir) e = cc
closes (Some (File bytes true)) e = cc
closes (Some (File bytes false)) e = refl

reads : (o : Option Node) → is_file o ≡ true → first_of ((is_none o, fault.Missing) ∷ (is_dir o, fault.NotFile) ∷ []) ≡ None
reads None e = absurd (true≢false (sym e))
reads (Some Dir) e = absurd (true≢false (sym e))
reads (Some (File bytes closed)) e = refl

pub answered_always : AnsweredAlways
answered_always c (op.Mkdirs path) tree may = let m : MayMkdirs c path = may in rw (m.no_file, le-ltb _ _ m.fits) refl
answered_always c (op.Create path closed) tree may = let m : MayCreate c path = may in rw (m.free, m.parent_dir, le-ltb _ _ m.fits) refl
answered_always c (op.Append path bytes) tree may = let m : MayAppend c path bytes = may in appends (finite.get c path) (length bytes) m.is_open m.fits
answered_always c (op.Close path) tree may = let m : IsOpenFile c path = may in closes (finite.get c path) m.is_open
answered_always c (op.Delete path) tree may =
    let m : MayDelete c path = may in
    rw (not_empty path m.not_root, parent_is_dir c path tree m.not_root m.found, not_none _ m.found) refl
answered_always c (op.Rename from to) tree may =
    let m : MayRename c from to = may in
    rw (not_none _ m.found, m.outside, m.free, m.parent_dir) refl
answered_always c (op.List path) tree may = let dir : node_at c path ≡ Some Dir = may in rw dir refl
answered_always c (op.Exists path) tree may = refl
answered_always c (op.Read path) tree may = reads (finite.get c path) may
answered_always c (op.Bar a) tree may = refl
