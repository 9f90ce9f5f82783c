-- A content by the list of its entries: what each call is answered and leaves, as functions of that list, which compute.
use Rattle.std.proofs.Common.{ℕ, ◌≡◌, refl, sym, ◌∙◌, ap, ◌+◌, ◌-◌, ◌==◌, ◌||◌, Bool, true, false, not, List, [], ◌∷◌, map, filter, length, Option, Some, None, is_some, is_none, nat_lt, if◌then◌else◌}
use Rattle.std.specs.Prelude.{T}
use Rattle.std.specs.List.{list_any, filter_map}
use Rattle.std.specs.Option.{option_map}
use Rattle.std.specs.FinMap as finite
use Rattle.std.specs.FinMap.Entries.{find, put, where_key, is_sorted-where_key, find-where_key}
use Rattle.mr_paths.specs.Path.{path_cmp, path_total, path_exact, strip, parent, prefixes, rebased}
use Rattle.mr_names_tree.specs.declared.node.Node.{Node}
use Rattle.mr_names.specs.declared.fault.NameFault as name
use Rattle.mr_names.specs.declared.fault.NameFault.TheVariants as fault
use Rattle.mr_names.specs.declared.op.Op as call
use Rattle.mr_names.specs.declared.op.Op.TheVariants as op
use Rattle.mr_names.specs.declared.namespace.TheConstants.{MAX_ENTRIES, MAX_FILE_LEN}
use Rattle.mr_names_tree.specs.Node.{appended, closed_of}
use Rattle.mr_names_tree.specs.Content.{with_all, with_dirs, changed_by}
use Rattle.mr_names_tree.specs.Content as content
use Rattle.mr_names_tree.specs.Listing.{line_of}
use Rattle.mr_names.specs.Calls.{first_of, effect, missing}
use Rattle.mr_names.specs.Calls as calls
use Rattle.mr_world_model.specs.Ids.{Path}
use Rattle.mr_world_model.specs.Content.{Content, Op, Dir, File, NameFault, refusal, left, children, entry_at, is_dir, is_file, is_closed, bytes_of, option_kind, ListDir, Exist, Read, Listed}
use Rattle.mr_world_model.specs.Packets.{Reply, Fine, Found, Entries, Bytes, Names}
use Rattle.mr_world_model.specs.World.{names_answer, unless_refused, names_left}

abbrev pub Lines : Type 0
Lines = List (Path × Node)

abbrev pub at : Lines → Path → Option Node
at es p = find path_cmp p es

-- ---- when a call is refused

-- by what is found at each path, and how many entries there are
abbrev pub refusal_by : (Path → Option Node) → ℕ → call.Op → Option name.NameFault
refusal_by f n (op.Mkdirs p) = first_of (
    (list_any (λ q. is_file (f q)) (prefixes p), fault.NotDir)
    ∷ (nat_lt MAX_ENTRIES ((n - 1) + length (filter (λ q. is_none (f q)) (prefixes p))), fault.Full) ∷ [])
refusal_by f n (op.Create p closed) = first_of (
    (is_some (f p), fault.Exists)
    ∷ (is_none (f (parent p)), fault.NoParent)
    ∷ (is_file (f (parent p)), fault.NotDir)
    ∷ (nat_lt MAX_ENTRIES ((n - 1) + 1), fault.Full) ∷ [])
refusal_by f n (op.Append p bytes) = first_of (
    (is_none (f p), fault.Missing)
    ∷ (is_dir (f p), fault.NotFile)
    ∷ (is_closed (f p), fault.Closed)
    ∷ (nat_lt MAX_FILE_LEN (length (bytes_of (f p)) + length bytes), fault.Full) ∷ [])
refusal_by f n (op.Close p) = first_of (
    (is_none (f p), fault.Missing)
    ∷ (is_dir (f p), fault.NotFile)
    ∷ (is_closed (f p), fault.Closed) ∷ [])
refusal_by f n (op.Delete p) = first_of (
    (length p == 0 || is_none (f (parent p)), fault.NoParent)
    ∷ (is_none (f p), fault.Missing) ∷ [])
refusal_by f n (op.Rename p q) = first_of (
    (is_none (f p), fault.Missing)
    ∷ (is_some (strip p q), fault.IntoItself)
    ∷ (is_some (f q), fault.Exists)
    ∷ (is_none (f (parent q)), fault.NoParent)
    ∷ (is_file (f (parent q)), fault.NotDir) ∷ [])
refusal_by f n (op.List p) = first_of (
    (is_none (f p), fault.Missing)
    ∷ (is_file (f p), fault.NotDir) ∷ [])
refusal_by f n (op.Exists p) = None
refusal_by f n (op.Read p) = first_of (
    (is_none (f p), fault.Missing)
    ∷ (is_dir (f p), fault.NotFile) ∷ [])
refusal_by f n (op.Bar a) = None

refusal-by : (c : Content) (o : call.Op) → calls.refusal c o ≡ refusal_by (finite.get c) (finite.len c) o
refusal-by c (op.Mkdirs p) = refl
refusal-by c (op.Create p closed) = refl
refusal-by c (op.Append p bytes) = refl
refusal-by c (op.Close p) = refl
refusal-by c (op.Delete p) = refl
refusal-by c (op.Rename p q) = refl
refusal-by c (op.List p) = refl
refusal-by c (op.Exists p) = refl
refusal-by c (op.Read p) = refl
refusal-by c (op.Bar a) = refl

abbrev pub refusal_in : Lines → Op → Option NameFault
refusal_in es o = refusal_by (at es) (length es) o

pub refusal-in : (c : Content) (es : Lines) → finite.entries c ≡ es → (o : Op) → refusal c o ≡ refusal_in es o
unfolding refusal
refusal-in c es e o = (refusal-by c o ∙ (λ i. refusal_by (λ p. (finite.get-entries c p ∙ ap (find path_cmp p) e) i) ((finite.len-entries c ∙ ap length e) i) o))

-- ---- what a call leaves

abbrev pub puts : Lines → Lines → Lines
puts es [] = es
puts es (x ∷ xs) = puts (put path_cmp x.0 x.1 es) xs

abbrev pub changed_in : Lines → Path → (Node → Node) → Option Node → Lines
changed_in es p f None = es
changed_in es p f (Some node) = put path_cmp p (f node) es

abbrev pub effect_in : Lines → call.Op → Lines
effect_in es (op.Mkdirs p) = puts es (map (λ q. (q, Dir)) (filter (λ q. is_none (at es q)) (prefixes p)))
effect_in es (op.Create p closed) = put path_cmp p (File [] closed) es
effect_in es (op.Append p bytes) = changed_in es p (appended bytes) (at es p)
effect_in es (op.Close p) = changed_in es p closed_of (at es p)
effect_in es (op.Delete p) = where_key path_cmp (λ q. not (is_some (strip p q))) es
effect_in es (op.Rename p q) = puts [] (map (λ x. (rebased p q x.0, x.1)) es)
effect_in es (op.List p) = es
effect_in es (op.Exists p) = es
effect_in es (op.Read p) = es
effect_in es (op.Bar a) = es

no-length : {A : Type 0} (es : List A) → length es ≡ 0 → es ≡ []
no-length [] e = refl
no-length (x ∷ es) e = cc

pub entries-empty : finite.entries (finite.empty {X = Node} {R = path_cmp}) ≡ []
entries-empty = no-length _ (sym (finite.len-entries finite.empty) ∙ finite.len-empty path_cmp Node)

pub entries-put : (c : Content) (p : Path) (n : Node) → finite.entries (finite.insert c p n) ≡ put path_cmp p n (finite.entries c)
entries-put c p n = finite.entries-insert path_total c p n

pub entries-puts : (c : Content) (xs : Lines) → finite.entries (with_all c xs) ≡ puts (finite.entries c) xs
entries-puts c [] = refl
entries-puts c (x ∷ xs) = entries-puts (finite.insert c x.0 x.1) xs ∙ ap (λ es. puts es xs) (entries-put c x.0 x.1)

entries-changed : (c : Content) (p : Path) (f : Node → Node) (o : Option Node) → finite.entries (changed_by c p f o) ≡ changed_in (finite.entries c) p f o
entries-changed c p f None = refl
entries-changed c p f (Some node) = entries-put c p (f node)

pub entries-without : (c : Content) (t : Path → Bool) → finite.entries (finite.retain_keys c t) ≡ where_key path_cmp t (finite.entries c)
entries-without c t = ap finite.entries (finite.same_map path_total path_exact (finite.retain_keys c t) (finite.from_sorted (where_key path_cmp t (finite.entries c))) (λ q.
    finite.get-retain_keys c t q (alike q)
    ∙ (ap (λ o. if t q then o else None) (finite.get-entries c q) ∙ (sym (find-where_key path_cmp t q (alike q) (finite.entries c)) ∙ sym (finite.get-from_sorted path_cmp _ q sorted)))))
    ∙ finite.entries-from_sorted path_cmp _ sorted
  where
    alike : (q x : Path) → path_cmp q x ≡ Rattle.std.specs.declared.cmp.Ordering.TheVariants.Equal → t x ≡ t q
    alike q x e = ap t (sym (path_exact q x e))

    sorted : T (Rattle.std.specs.FinMap.Entries.is_sorted path_cmp (where_key path_cmp t (finite.entries c)))
    sorted = is_sorted-where_key path_cmp t (finite.entries c) (finite.entries_sorted c)

effect-of : (c : Content) (o : call.Op) → finite.entries (effect c o) ≡ effect_in (finite.entries c) o
effect-of c (op.Mkdirs p) = entries-puts c (map (λ q. (q, Dir)) (missing c p)) ∙ (λ i. puts (finite.entries c) (map (λ q. (q, Dir)) (filter (λ q. is_none (finite.get-entries c q i)) (prefixes p))))
effect-of c (op.Create p closed) = entries-put c p (File [] closed)
effect-of c (op.Append p bytes) = entries-changed c p (appended bytes) (finite.get c p) ∙ ap (changed_in (finite.entries c) p (appended bytes)) (finite.get-entries c p)
effect-of c (op.Close p) = entries-changed c p closed_of (finite.get c p) ∙ ap (changed_in (finite.entries c) p closed_of) (finite.get-entries c p)
effect-of c (op.Delete p) = entries-without c _
effect-of c (op.Rename p q) = entries-puts finite.empty (map (content.moved p q) (finite.entries c)) ∙ ap (λ es. puts es (map (content.moved p q) (finite.entries c))) entries-empty
effect-of c (op.List p) = refl
effect-of c (op.Exists p) = refl
effect-of c (op.Read p) = refl
effect-of c (op.Bar a) = refl

abbrev pub left_by : Bool → Lines → Op → Lines
left_by b es o = if b then effect_in es o else es

-- what a call, refused or not, leaves
abbrev pub left_in : Lines → Op → Lines
left_in es o = left_by (is_none (refusal_in es o)) es o

pub left-in : (c : Content) (es : Lines) → finite.entries c ≡ es → (o : Op) → finite.entries (names_left c (Names o)) ≡ left_in es o
unfolding left
left-in c es e o = by (is_none (refusal c o)) ∙ (λ i. left_by (is_none (refusal-in c es e o i)) (e i) o)
  where
    by : (b : Bool) → finite.entries (if b then left c o else c) ≡ left_by b (finite.entries c) o
    by true = effect-of c o
    by false = refl

-- ---- what a call is answered

abbrev pub answer_in : Lines → Op → Reply
answer_in es (ListDir p) = Entries (filter_map (line_of p) es)
answer_in es (Exist p) = Found (option_kind (at es p))
answer_in es (Read p) = Bytes (bytes_of (at es p))
answer_in es _ = Fine

answer-in : (c : Content) (es : Lines) → finite.entries c ≡ es → (o : Op) → names_answer c o ≡ answer_in es o
unfolding children
answer-in c es e (ListDir p) = ap (λ xs. Entries (filter_map (line_of p) xs)) e
answer-in c es e (Exist p) = ap (λ x. Found (option_kind x)) (finite.get-entries c p ∙ ap (find path_cmp p) e)
answer-in c es e (Read p) = ap (λ x. Bytes (bytes_of x)) (finite.get-entries c p ∙ ap (find path_cmp p) e)
answer-in c es e (Rattle.mr_world_model.specs.Content.MkDirs p) = refl
answer-in c es e (Rattle.mr_world_model.specs.Content.Create p closed) = refl
answer-in c es e (Rattle.mr_world_model.specs.Content.Append p bytes) = refl
answer-in c es e (Rattle.mr_world_model.specs.Content.Close p) = refl
answer-in c es e (Rattle.mr_world_model.specs.Content.Delete p) = refl
answer-in c es e (Rattle.mr_world_model.specs.Content.Rename p q) = refl
answer-in c es e (Rattle.mr_world_model.specs.Content.Bar a) = refl

abbrev pub reply_in : Lines → Op → Reply
reply_in es o = unless_refused (refusal_in es o) (answer_in es o)

pub reply-in : (c : Content) (es : Lines) → finite.entries c ≡ es → (o : Op) → unless_refused (refusal c o) (names_answer c o) ≡ reply_in es o
reply-in c es e o = λ i. unless_refused (refusal-in c es e o i) (answer-in c es e o i)

pub entry-in : (c : Content) (es : Lines) → finite.entries c ≡ es → (p : Path) → entry_at c p ≡ at es p
entry-in c es e p = finite.get-entries c p ∙ ap (find path_cmp p) e
