-- Paths and content: what each call leaves at each path.
use Rattle.std.proofs.Common.{◌≡◌, ◌≢◌, refl, sym, ◌∙◌, ap, subst, true, false, List, [], ◌∷◌, ◌++◌, map, Option, Some, None, is_some, append-nil}
use Rattle.std.specs.Option.{option_or}
use Rattle.std.specs.FinMap as finite
use Rattle.std.proofs.lemmas.Bool.{false≢true}
use Rattle.mr_paths.specs.Path.{strip, path_cmp, path_ties, rebased, rebased_by}
use Rattle.mr_paths.proofs.Paths.{strip-append, append-strip}
use Rattle.mr_names_tree.specs.declared.node.Node.{Node}
use Rattle.mr_names.specs.declared.op.Op.TheVariants as op
use Rattle.mr_names_tree.specs.Content as content
use Rattle.mr_names_tree.proofs.ContentLaws.{same_path, same_itself, different, get_written, get_kept, get-without, get-with_all, get-renamed, last_at}
use Rattle.mr_names.proofs.CallLaws.{others_stay}
use Rattle.mr_names.proofs.TreeLaws.{get-made}
use Rattle.mr_world_model.specs.Ids.{Path, path_eq}
use Rattle.mr_world_model.specs.Content.{Entry, Dir, Content, entry_at, beneath, without, put, moved, made, Op, MkDirs, Create, Append, Close, Delete, Rename, ListDir, Exist, Read, Bar, left}
pub use Rattle.mr_world_model.proofs.Names.{name_eq-true, name_eq-refl, name_ne}

pub path_eq-true : (a b : Path) → path_eq a b ≡ true → a ≡ b
path_eq-true a b e = same_path a b (sym (path_ties a b) ∙ e)

pub path_eq-refl : (a : Path) → path_eq a a ≡ true
path_eq-refl a = path_ties a a ∙ same_itself a

pub path_ne : (a b : Path) → (a ≡ b → ⊥) → path_eq a b ≡ false
path_ne a b n = path_ties a b ∙ different a b n

pub beneath-append : (p r : Path) → beneath p (p ++ r) ≡ Some r
beneath-append p r = strip-append p r

pub beneath-is : (p x r : Path) → beneath p x ≡ Some r → x ≡ p ++ r
beneath-is p x r e = append-strip p x r e

-- What each change leaves

pub put-same : (c : Content) (p : Path) (e : Entry) → entry_at (put c p e) p ≡ Some e
put-same c p e = get_written c p e

pub put-other : (c : Content) (p : Path) (e : Entry) (x : Path) → (p ≡ x → ⊥) → entry_at (put c p e) x ≡ entry_at c x
put-other c p e x n = get_kept c p e x (λ q. n (sym q))

pub without-other : (c : Content) (p x : Path) → beneath p x ≡ None → entry_at (without c p) x ≡ entry_at c x
without-other c p x n = get-without p c x ∙ rw n refl

pub without-beneath : (c : Content) (p x : Path) → entry_at (without c p) (p ++ x) ≡ None
without-beneath c p x = get-without p c (p ++ x) ∙ rw (beneath-append p x) refl

-- a path away from both ends of a rename is as before
pub moved-other : (c : Content) (p q x : Path) → beneath p x ≡ None → beneath q x ≡ None → entry_at (moved c p q) x ≡ entry_at c x
moved-other c p q x n m = others_stay c (op.Rename p q) x (rw (n, m) refl)

none_some : {A : Type 0} {P : Type 0} (o : Option A) → o ≡ None → is_some o ≡ true → P
none_some o e f = absurd (false≢true (sym (ap is_some e) ∙ f))

-- where nothing was beneath q, the subtree of p is there
pub moved-there : (c : Content) (p q x : Path) → ((y : Path) → entry_at c (q ++ y) ≡ None) → entry_at (moved c p q) (q ++ x) ≡ entry_at c (p ++ x)
moved-there c p q x none = get-renamed p q c (q ++ x) outside ∙ rw (beneath-append q x) refl
  where
    outside : (y : Path) → is_some (finite.get c y) ≡ true → strip q y ≡ None
    outside y f = by (strip q y) refl
      where
        by : (o : Option Path) → strip q y ≡ o → strip q y ≡ None
        by None e = e
        by (Some r) e = none_some (finite.get c y) (subst (λ z. finite.get c z ≡ None) (sym (append-strip q y r e)) (none r)) f

-- what was at p and beneath is gone, where q is not beneath p
pub moved-gone : (c : Content) (p q x : Path) → beneath p q ≡ None → beneath q (p ++ x) ≡ None → entry_at (moved c p q) (p ++ x) ≡ None
moved-gone c p q x a b = get-with_all finite.empty (map (content.moved p q) (finite.entries c)) (p ++ x) ∙ (λ i. option_or (gone (finite.entries c) i) (finite.get-empty path_cmp (p ++ x) i))
  where
    other : (y : Path) (o : Option Path) → strip p y ≡ o → p ++ x ≢ rebased_by q y o
    other y None e f = let s : strip p y ≡ Some x = subst (λ z. strip p z ≡ Some x) f (strip-append p x) in cc
    other y (Some r) e f = let s : strip q (p ++ x) ≡ Some r = subst (λ z. strip q z ≡ Some r) (sym f) (strip-append q r) in cc

    gone : (es : List (Path × Node)) → last_at (p ++ x) (map (content.moved p q) es) ≡ None
    gone [] = refl
    gone (e ∷ es) = rw (gone es, different (p ++ x) (rebased p q e.0) (other e.0 (strip p e.0) refl)) refl

-- a directory is made only on the way to p
pub made-other : (c : Content) (p x : Path) → beneath x p ≡ None → entry_at (made c p) x ≡ entry_at c x
made-other c p x n = others_stay c (op.Mkdirs p) x (rw n refl)

pub made-last : (c : Content) (p : Path) → entry_at c p ≡ None → entry_at (made c p) p ≡ Some Dir
made-last c p e = get-made c p p ∙ rw (e, subst (λ z. strip p z ≡ Some []) (append-nil p) (strip-append p [])) refl

-- What a call does not reach

-- x is away from what a call may change
abbrev pub Away : Op → Path → Type 0
Away (MkDirs p) x = beneath x p ≡ None
Away (Create p closed) x = p ≡ x → ⊥
Away (Append p bytes) x = p ≡ x → ⊥
Away (Close p) x = p ≡ x → ⊥
Away (Delete p) x = beneath p x ≡ None
Away (Rename p q) x = (beneath p x ≡ None) × (beneath q x ≡ None)
Away (ListDir p) x = Unit {0}
Away (Exist p) x = Unit {0}
Away (Read p) x = Unit {0}
Away (Bar a) x = Unit {0}

pub left-away : (c : Content) (o : Op) (x : Path) → Away o x → entry_at (left c o) x ≡ entry_at c x
unfolding left
left-away c (MkDirs p) x a = made-other c p x a
left-away c (Create p closed) x a = put-other c p _ x a
left-away c (Append p bytes) x a = others_stay c (op.Append p bytes) x (path_ne x p (λ e. a (sym e)))
left-away c (Close p) x a = others_stay c (op.Close p) x (path_ne x p (λ e. a (sym e)))
left-away c (Delete p) x a = without-other c p x a
left-away c (Rename p q) x a = moved-other c p q x a.0 a.1
left-away c (ListDir p) x a = refl
left-away c (Exist p) x a = refl
left-away c (Read p) x a = refl
left-away c (Bar b) x a = refl
