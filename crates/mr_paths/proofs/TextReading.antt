-- Paths and their texts.
use Rattle.std.proofs.Common.{◌≡◌, ◌≢◌, ◌<◌, ◌+◌, ◌↔◌, ℕ, Bool, true, false, List, [], ◌∷◌, ◌++◌, length, take, get_or, refl, sym, ap, ◌∙◌, subst, IsTrue, All, MatchBool, arith, Result, Ok, Err, IsErrAnd, map, append-nil}
use Rattle.std.specs.List.{HoldsAt, AllWithin, slice_split, join_with_byte, flat_map}
use Rattle.std.proofs.lemmas.Bool.{false≢true, ne_eqb}
use Rattle.std.proofs.lemmas.List.Elements.{All-from_all_within, All-head, All-tail, All-weaker, All-same}
use Rattle.std.proofs.lemmas.List.Splits.{slice_split_at, slice_split_none, join_with_byte-slice_split}
use Rattle.std.proofs.lemmas.List.{take_more}
use Rattle.std.proofs.Math.Seq.{take-length}
use Rattle.std.specs.Str.{IsUtf8}
use Rattle.std.specs.Str.Lossy.{utf8_lossy}
use Rattle.std.proofs.lemmas.Str.{utf8_lossy-IsUtf8}
use Rattle.mr_paths.specs.Path.{IsName}
use Rattle.mr_paths.specs.Text.{is_slash, path_text, shown_text, IsPath, ReadsPath}
use Rattle.mr_paths.specs.declared.fault.PathFault.{PathFault}
use Rattle.mr_paths.specs.declared.fault.PathFault.TheVariants.{NoMemory}

-- what a search for a part that is no name tells
pub names_from_search : (r : Bool) (xs : List (List ℕ)) → MatchBool r (AllWithin IsName xs 0 (length xs)) ((k : ℕ) × (k < length xs) × HoldsAt (λ x. ¬ IsName x) xs k) → IsTrue r ↔ All IsName xs
names_from_search true xs h = (λ _. All-from_all_within IsName xs h, λ _. refl)
names_from_search false xs h = (λ e. absurd (false≢true e), λ all. absurd (h.2 [] (all h.0 [] h.1)))

-- the names of a path are the parts between the slashes of its text
slash_free : (name : List ℕ) → IsName name → All (λ b. is_slash b ≡ false) name
slash_free name n = All-weaker (λ b. b ≢ 47) (λ b. is_slash b ≡ false) (λ b other. ne_eqb b 47 other) name n.slash_free

pub slice_split-join : (name : List ℕ) (path : List (List ℕ)) → All IsName (name ∷ path) → slice_split is_slash (join_with_byte 47 (name ∷ path)) ≡ name ∷ path
slice_split-join name [] all = slice_split_none is_slash name (slash_free name (All-head IsName name [] all))
slice_split-join name (next ∷ path) all =
    slice_split_at is_slash name 47 (join_with_byte 47 (next ∷ path)) (slash_free name (All-head IsName name (next ∷ path) all)) refl
    ∙ ap (λ l. name ∷ l) (slice_split-join next path (All-tail IsName name (next ∷ path) all))

-- only the root has no byte after the first slash
none_empty : (n : List ℕ) (p : List (List ℕ)) → All IsName (n ∷ p) → join_with_byte 47 (n ∷ p) ≡ [] → ⊥
none_empty [] [] all e = let some : 0 < 0 = (All-head IsName [] [] all).some in omega arith
none_empty (b ∷ n) [] all e = cc
none_empty [] (m ∷ p) all e = cc
none_empty (b ∷ n) (m ∷ p) all e = cc

-- no two paths have one text
pub path_by_text : (p q : List (List ℕ)) → All IsName p → All IsName q → path_text p ≡ path_text q → p ≡ q
path_by_text [] [] a b e = refl
path_by_text [] (m ∷ q) a b e = absurd (none_empty m q b (let f : [] ≡ join_with_byte 47 (m ∷ q) = cc in sym f))
path_by_text (n ∷ p) [] a b e = absurd (none_empty n p a cc)
path_by_text (n ∷ p) (m ∷ q) a b e =
    let same : join_with_byte 47 (n ∷ p) ≡ join_with_byte 47 (m ∷ q) = cc in
    sym (slice_split-join n p a) ∙ (ap (slice_split is_slash) same ∙ slice_split-join m q b)

-- what reading finds
pub no_slash : (text : List ℕ) → ((rest : List ℕ) → text ≢ 47 ∷ rest) → ¬ IsPath text
no_slash text none p = none (join_with_byte 47 p.path) p.spelled

pub no_names : (text rest : List ℕ) → text ≡ 47 ∷ rest → rest ≢ [] → (All IsName (slice_split is_slash rest) → ⊥) → ¬ IsPath text
no_names text rest e some not_names p = by p.path p.names p.spelled
  where
    by : (path : List (List ℕ)) → All IsName path → text ≡ path_text path → ⊥
    by [] all is = some cc
    by (n ∷ path) all is = not_names (All-same IsName (slice_split is_slash rest) (n ∷ path) (let same : rest ≡ join_with_byte 47 (n ∷ path) = cc in ap (slice_split is_slash) same ∙ slice_split-join n path all) all)

pub spelled_by_parts : (text rest : List ℕ) → text ≡ 47 ∷ rest → text ≡ path_text (slice_split is_slash rest)
spelled_by_parts text rest e = e ∙ ap (λ l. 47 ∷ l) (sym (join_with_byte-slice_split 47 rest))

pub path_of_parts : (text rest : List ℕ) → text ≡ 47 ∷ rest → All IsName (slice_split is_slash rest) → IsPath text
path_of_parts text rest e all = record { path = slice_split is_slash rest; names = all; spelled = spelled_by_parts text rest e }

pub without_memory : (text : List ℕ) (r : Result (List (List ℕ)) PathFault) → IsPath text → IsErrAnd r (λ e. e ≡ NoMemory) → ReadsPath text r
without_memory text (Ok path) is fault = absurd fault
without_memory text (Err e) is fault = subst (λ e. ReadsPath text (Err e)) (sym fault) is

-- a loop over the parts
pub part_is_name : (parts : List (List ℕ)) → All IsName parts → (name : List ℕ) (n : ℕ) → n < length parts → name ≡ get_or parts n name → IsName name
part_is_name parts all name n lt is = subst IsName (sym is) (all n name lt)

pub parts_more : (parts path next : List (List ℕ)) (name : List ℕ) (n m : ℕ) → n < length parts → name ≡ get_or parts n name → path ≡ take n parts → next ≡ path ++ name ∷ [] → m ≡ n + 1 → next ≡ take m parts
parts_more parts path next name n m lt is so_far more count =
    more ∙ (ap (λ l. l ++ name ∷ []) so_far ∙ (ap (λ x. take n parts ++ x ∷ []) is ∙ (sym (take_more parts n name lt) ∙ ap (λ k. take k parts) (sym count))))

pub parts_all : (parts path : List (List ℕ)) (n : ℕ) → n ≡ length parts → path ≡ take n parts → path ≡ parts
parts_all parts path n all so_far = so_far ∙ (ap (λ k. take k parts) all ∙ take-length parts)

-- a slash before each name, for one name or more
pub slash_before_each : (f : List ℕ → List ℕ) (name : List ℕ) (path : List (List ℕ)) → flat_map (λ n. 47 ∷ f n) (name ∷ path) ≡ path_text (map f (name ∷ path))
slash_before_each f name [] = ap (λ l. 47 ∷ l) (append-nil (f name))
slash_before_each f name (next ∷ path) = ap (λ l. 47 ∷ (f name ++ l)) (slash_before_each f next path)

pub shown_all : (f : List ℕ → List ℕ) (path items : List (List ℕ)) (n : ℕ) → items ≡ path → path ≢ [] → n ≡ length items → flat_map (λ name. 47 ∷ f name) (take n items) ≡ path_text (map f path)
shown_all f path items n same some all = ap (flat_map (λ name. 47 ∷ f name)) (ap (λ k. take k items) all ∙ (take-length items ∙ same)) ∙ by path some
  where
    by : (path : List (List ℕ)) → path ≢ [] → flat_map (λ name. 47 ∷ f name) path ≡ path_text (map f path)
    by [] some = absurd (some refl)
    by (name ∷ rest) some = slash_before_each f name rest

-- a path of names that are text is shown as it is spelled
lossy_kept : (path : List (List ℕ)) → All IsUtf8 path → map utf8_lossy path ≡ path
lossy_kept [] all = refl
lossy_kept (name ∷ path) all = λ i. utf8_lossy-IsUtf8 name (All-head IsUtf8 name path all) i ∷ lossy_kept path (All-tail IsUtf8 name path all) i

pub shown_as_spelled : (path : List (List ℕ)) → All IsUtf8 path → shown_text path ≡ path_text path
shown_as_spelled path all = ap path_text (lossy_kept path all)
