-- The entries and each file keep their limits, and so a namespace stays sound.
use Rattle.std.proofs.Common.{◌≡◌, ◌≤◌, ◌+◌, ℕ, Bool, true, false, not, cond, List, [], ◌++◌, length, length-append, refl, sym, ap, ◌∙◌, subst, Option, Some, None, is_some, arith}
use Rattle.std.specs.Option.{option_map}
use Rattle.std.specs.FinMap as finite
use Rattle.mr_paths.specs.Path.{path_cmp, strip}
use Rattle.mr_names_tree.specs.declared.node.Node.{Node}
use Rattle.mr_names_tree.specs.declared.node.Node.TheVariants.{Dir, File}
use Rattle.mr_names.specs.declared.op.Caller.{Caller}
use Rattle.mr_names.specs.declared.op.Op.{Op}
use Rattle.mr_names.specs.declared.op.Op.TheVariants as op
use Rattle.mr_names.specs.declared.namespace.TheConstants.{MAX_ENTRIES, MAX_FILE_LEN}
use Rattle.mr_names_tree.specs.Node.{appended, closed_of}
use Rattle.mr_names_tree.specs.Content.{Content, IsTree, is_path, within, renamed_at_by}
use Rattle.mr_names_tree.specs.Held.{node_at, bytes_of}
use Rattle.mr_names.specs.Calls.{State, FilesFit, IsSound, entry_count, missing, refusal, refused, effect}
use Rattle.mr_names.specs.Laws.{node_after, MayMkdirs, MayCreate}
use Rattle.mr_names.proofs.CallLaws.{each_path, answered_only, get-written, is_path-same}
use Rattle.mr_names.proofs.TreeLaws.{past_caller, tree_after}
use Rattle.mr_names.proofs.Sizes.{len_insert, len_with_dirs, len_changed, len_retained, len_renamed}

-- ---- the entries

pub entries_effect : (c : Content) (call : Op) → refusal c call ≡ None → entry_count c ≤ MAX_ENTRIES → entry_count (effect c call) ≤ MAX_ENTRIES
entries_effect c (op.Mkdirs path) none few =
    let may : MayMkdirs c path = answered_only c (op.Mkdirs path) none in
    let fits : entry_count c + length (missing c path) ≤ MAX_ENTRIES = may.fits in
    let more = len_with_dirs c (missing c path) in
    omega arith
entries_effect c (op.Create path closed) none few =
    let may : MayCreate c path = answered_only c (op.Create path closed) none in
    let fits : entry_count c + 1 ≤ MAX_ENTRIES = may.fits in
    let more = len_insert c path (File [] closed) in
    omega arith
entries_effect c (op.Append path bytes) none few = let same = len_changed c path (appended bytes) in omega arith
entries_effect c (op.Close path) none few = let same = len_changed c path closed_of in omega arith
entries_effect c (op.Delete path) none few = let fewer = len_retained c (λ other. not (is_some (strip path other))) in omega arith
entries_effect c (op.Rename from to) none few = let no_more = len_renamed from to c in omega arith
entries_effect c (op.List path) none few = few
entries_effect c (op.Exists path) none few = few
entries_effect c (op.Read path) none few = few
entries_effect c (op.Bar a) none few = few

-- what a call that is not refused leaves, seen at the content alone
pub entries_after : (s : State) (caller : Caller) (call : Op) (new : Content) → refused s caller call ≡ None → entry_count s.content ≤ MAX_ENTRIES → new ≡ effect s.content call → entry_count new ≤ MAX_ENTRIES
entries_after s caller call new none few is = subst (λ c. entry_count c ≤ MAX_ENTRIES) (sym is) (entries_effect s.content call (past_caller s caller call none) few)

-- the root alone
pub entries_root : entry_count (finite.insert finite.empty [] Dir) ≤ MAX_ENTRIES
entries_root = let one = len_insert finite.empty [] Dir in let none = finite.len-empty path_cmp Node in omega arith

-- ---- the files

abbrev Fits : Option Node → Type 0
Fits o = length (bytes_of o) ≤ MAX_FILE_LEN

pick : (b : Bool) (x y : Option Node) → Fits x → Fits y → Fits (cond b x y)
pick true x y fx fy = fx
pick false x y fx fy = fy

fits_more : (more : List ℕ) (o : Option Node) → length (bytes_of o) + length more ≤ MAX_FILE_LEN → Fits (option_map (appended more) o)
fits_more more None h = omega arith
fits_more more (Some Dir) h = omega arith
fits_more more (Some (File bytes closed)) h = omega (arith, length-append bytes more)

fits_closed : (o : Option Node) → Fits o → Fits (option_map closed_of o)
fits_closed None h = h
fits_closed (Some Dir) h = h
fits_closed (Some (File bytes closed)) h = h

fits_after : (c : Content) (call : Op) (q : List (List ℕ)) → refusal c call ≡ None → FilesFit c → Fits (node_after c call q)
fits_after c (op.Mkdirs path) q none fit = pick _ (Some Dir) (node_at c q) (omega arith) (fit q)
fits_after c (op.Create path closed) q none fit = pick (is_path q path) (Some (File [] closed)) (node_at c q) (omega arith) (fit q)
fits_after c (op.Append path bytes) q none fit = by (is_path q path) refl
  where
    by : (b : Bool) → is_path q path ≡ b → Fits (cond b (option_map (appended bytes) (node_at c q)) (node_at c q))
    by true is = fits_more bytes (node_at c q) (subst (λ p. length (bytes_of (node_at c p)) + length bytes ≤ MAX_FILE_LEN) (sym (is_path-same q path is)) (answered_only c (op.Append path bytes) none).fits)
    by false is = fit q
fits_after c (op.Close path) q none fit = pick (is_path q path) (option_map closed_of (node_at c q)) (node_at c q) (fits_closed (node_at c q) (fit q)) (fit q)
fits_after c (op.Delete path) q none fit = pick (within path q) None (node_at c q) (omega arith) (fit q)
fits_after c (op.Rename from to) q none fit = by (strip to q)
  where
    by : (o : Option (List (List ℕ))) → Fits (renamed_at_by from c q o)
    by (Some rest) = fit (from ++ rest)
    by None = pick (within from q) None (node_at c q) (omega arith) (fit q)
fits_after c (op.List path) q none fit = fit q
fits_after c (op.Exists path) q none fit = fit q
fits_after c (op.Read path) q none fit = fit q
fits_after c (op.Bar a) q none fit = fit q

pub files_effect : (c : Content) (call : Op) → IsTree c → refusal c call ≡ None → FilesFit c → FilesFit (effect c call)
files_effect c call tree none fit q = subst Fits (sym (each_path c call q tree none)) (fits_after c call q none fit)

-- what a call that is not refused leaves, seen at the content alone
pub files_after : (s : State) (caller : Caller) (call : Op) (new : Content) → refused s caller call ≡ None → IsTree s.content → FilesFit s.content → new ≡ effect s.content call → FilesFit new
files_after s caller call new none tree fit is = subst FilesFit (sym is) (files_effect s.content call tree (past_caller s caller call none) fit)

-- the root alone
pub files_root : FilesFit (finite.insert finite.empty [] Dir)
files_root q = subst Fits (sym (get-written finite.empty [] Dir q ∙ ap (cond (is_path q []) (Some Dir)) (finite.get-empty path_cmp q))) (pick (is_path q []) (Some Dir) None (omega arith) (omega arith))

-- ---- a namespace

-- A call that is not refused changes the content alone, and the namespace stays sound. It is seen from within, where its parts are.
pub sound_after : (inside now : State) (new : Content) (caller : Caller) (call : Op) → IsSound inside → inside ≡ now → refused now caller call ≡ None → new ≡ effect inside.content call → IsSound (record inside { content = new })
sound_after inside now new caller call sound is none told =
    let heard : refused inside caller call ≡ None = subst (λ s. refused s caller call ≡ None) (sym is) none in
    record {
      tree = tree_after inside caller call new heard sound.tree told;
      entries = entries_after inside caller call new heard sound.entries told;
      files = files_after inside caller call new heard sound.tree sound.files told;
      fence = sound.fence;
      barred = sound.barred;
    }
