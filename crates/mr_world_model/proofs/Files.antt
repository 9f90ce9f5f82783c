-- Where an attempt's file lies: in its own directory, and after its rename in the committed one.
use Rattle.std.proofs.Common.{ℕ, ◌≡◌, refl, sym, ◌∙◌, subst, true, false, List, [], ◌∷◌, ◌++◌, Option, Some, None, ◌⊎◌, inl, inr, append-nil}
use Rattle.mr_names_tree.specs.declared.node.Node.{Node}
use Rattle.mr_names_tree.specs.Node.{appended, closed_of}
use Rattle.mr_names_tree.specs.Content.{changed_at}
use Rattle.mr_names.proofs.CallLaws.{get-changed}
use Rattle.mr_world_model.specs.Ids.{Name, Path, part_name, TaskId}
use Rattle.mr_world_model.specs.Content.{Entry, Dir, File, Content, entry_at, beneath, MkDirs, Create, Append, Close, Rename, left}
use Rattle.mr_world_model.specs.Pasts.{Wish, To_ask_where, To_fetch, To_say_lost, To_compute, To_mkdirs, To_create, To_write, To_close, To_need, To_pend, To_poll, To_look, To_clear, To_rename, To_report, To_abort, To_fail, Over}
use Rattle.mr_world_model.proofs.Paths.{name_eq-refl, path_eq-refl, path_ne, made-last, put-same, put-other, moved-there, made-other}

-- nothing is at a path nor beneath it
abbrev pub Absent : Content → Path → Type 0
Absent c d = (x : Path) → entry_at c (d ++ x) ≡ None

-- a directory with the one entry, the part of reduce t
pub record Holds (c : Content) (d : Path) (t : TaskId) (e : Entry) : Type 0 where
  pub dir : entry_at c d ≡ Some Dir
  pub file : entry_at c (d ++ part_name t ∷ []) ≡ Some e
  pub only : (x : Path) → (x ≡ [] → ⊥) → (x ≡ part_name t ∷ [] → ⊥) → entry_at c (d ++ x) ≡ None

pub record IsEmptyDir (c : Content) (d : Path) : Type 0 where
  pub dir : entry_at c d ≡ Some Dir
  pub only : (x : Path) → (x ≡ [] → ⊥) → entry_at c (d ++ x) ≡ None

pub at_itself : (c : Content) (d : Path) (o : Option Entry) → entry_at c (d ++ []) ≡ o → entry_at c d ≡ o
at_itself c d o e = subst (λ x. entry_at c x ≡ o) (append-nil d) e

pub same_at : (c c' : Content) (d : Path) → ((x : Path) → entry_at c' (d ++ x) ≡ entry_at c (d ++ x)) → entry_at c' d ≡ entry_at c d
same_at c c' d f = subst (λ x. entry_at c' x ≡ entry_at c x) (append-nil d) (f [])

pub Holds-same : (c c' : Content) (d : Path) (t : TaskId) (e : Entry) → ((x : Path) → entry_at c' (d ++ x) ≡ entry_at c (d ++ x)) → Holds c d t e → Holds c' d t e
Holds-same c c' d t e f h = record { dir = same_at c c' d f ∙ h.dir; file = f _ ∙ h.file; only = λ x n m. f x ∙ h.only x n m }

pub Absent-same : (c c' : Content) (d : Path) → ((x : Path) → entry_at c' (d ++ x) ≡ entry_at c (d ++ x)) → Absent c d → Absent c' d
Absent-same c c' d f h x = f x ∙ h x

-- a rename takes the directory along
pub Holds-moved : (c : Content) (p q : Path) (t : TaskId) (e : Entry) → Holds c p t e → Absent c q → Holds (left c (Rename p q)) q t e
unfolding left
Holds-moved c p q t e h none = record {
  dir = at_itself _ q _ (moved-there c p q [] none ∙ subst (λ x. entry_at c x ≡ Some Dir) (sym (append-nil p)) h.dir);
  file = moved-there c p q _ none ∙ h.file;
  only = λ x n m. moved-there c p q x none ∙ h.only x n m;
}

-- What an attempt's directory has at each wish of its container, d being the directory: nothing, once it was deleted, or what the container made
abbrev pub OwnDir : Content → Path → TaskId → List ℕ → Wish → Type 0
OwnDir c d t bytes (To_ask_where m) = Absent c d
OwnDir c d t bytes (To_fetch m a n i got) = Absent c d
OwnDir c d t bytes (To_say_lost m a) = Absent c d
OwnDir c d t bytes To_compute = Absent c d
OwnDir c d t bytes To_mkdirs = Absent c d
OwnDir c d t bytes To_create = Absent c d ⊎ IsEmptyDir c d
OwnDir c d t bytes To_write = Absent c d ⊎ Holds c d t (File [] false)
OwnDir c d t bytes To_close = Absent c d ⊎ Holds c d t (File bytes false)
OwnDir c d t bytes To_need = Absent c d ⊎ Holds c d t (File bytes true)
OwnDir c d t bytes To_pend = Absent c d ⊎ Holds c d t (File bytes true)
OwnDir c d t bytes To_poll = Absent c d ⊎ Holds c d t (File bytes true)
OwnDir c d t bytes To_look = Absent c d ⊎ Holds c d t (File bytes true)
OwnDir c d t bytes To_clear = Absent c d ⊎ Holds c d t (File bytes true)
OwnDir c d t bytes To_rename = Absent c d ⊎ Holds c d t (File bytes true)
OwnDir c d t bytes To_report = Unit {0}
OwnDir c d t bytes To_abort = Unit {0}
OwnDir c d t bytes To_fail = Unit {0}
OwnDir c d t bytes Over = Unit {0}

-- a call of another that leaves the directory as it was
either : {A B A' B' : Type 0} → (A → A') → (B → B') → A ⊎ B → A' ⊎ B'
either f g (inl a) = inl (f a)
either f g (inr b) = inr (g b)

pub OwnDir-same : (c c' : Content) (d : Path) (t : TaskId) (bytes : List ℕ) (w : Wish) → ((x : Path) → entry_at c' (d ++ x) ≡ entry_at c (d ++ x)) → OwnDir c d t bytes w → OwnDir c' d t bytes w
OwnDir-same c c' d t bytes (To_ask_where m) f o = Absent-same c c' d f o
OwnDir-same c c' d t bytes (To_fetch m a n i got) f o = Absent-same c c' d f o
OwnDir-same c c' d t bytes (To_say_lost m a) f o = Absent-same c c' d f o
OwnDir-same c c' d t bytes To_compute f o = Absent-same c c' d f o
OwnDir-same c c' d t bytes To_mkdirs f o = Absent-same c c' d f o
OwnDir-same c c' d t bytes To_create f o = either (Absent-same c c' d f) (λ (h : IsEmptyDir c d). record { dir = same_at c c' d f ∙ h.dir; only = λ x n. f x ∙ h.only x n }) o
OwnDir-same c c' d t bytes To_write f o = either (Absent-same c c' d f) (Holds-same c c' d t (File [] false) f) o
OwnDir-same c c' d t bytes To_close f o = either (Absent-same c c' d f) (Holds-same c c' d t (File bytes false) f) o
OwnDir-same c c' d t bytes To_need f o = either (Absent-same c c' d f) (Holds-same c c' d t (File bytes true) f) o
OwnDir-same c c' d t bytes To_pend f o = either (Absent-same c c' d f) (Holds-same c c' d t (File bytes true) f) o
OwnDir-same c c' d t bytes To_poll f o = either (Absent-same c c' d f) (Holds-same c c' d t (File bytes true) f) o
OwnDir-same c c' d t bytes To_look f o = either (Absent-same c c' d f) (Holds-same c c' d t (File bytes true) f) o
OwnDir-same c c' d t bytes To_clear f o = either (Absent-same c c' d f) (Holds-same c c' d t (File bytes true) f) o
OwnDir-same c c' d t bytes To_rename f o = either (Absent-same c c' d f) (Holds-same c c' d t (File bytes true) f) o
OwnDir-same c c' d t bytes To_report f o = tt
OwnDir-same c c' d t bytes To_abort f o = tt
OwnDir-same c c' d t bytes To_fail f o = tt
OwnDir-same c c' d t bytes Over f o = tt

-- a deletion of it from above
pub OwnDir-absent : (c : Content) (d : Path) (t : TaskId) (bytes : List ℕ) (w : Wish) → Absent c d → OwnDir c d t bytes w
OwnDir-absent c d t bytes To_create o = inl o
OwnDir-absent c d t bytes To_write o = inl o
OwnDir-absent c d t bytes To_close o = inl o
OwnDir-absent c d t bytes To_need o = inl o
OwnDir-absent c d t bytes To_pend o = inl o
OwnDir-absent c d t bytes To_poll o = inl o
OwnDir-absent c d t bytes To_look o = inl o
OwnDir-absent c d t bytes To_clear o = inl o
OwnDir-absent c d t bytes To_rename o = inl o
OwnDir-absent c d t bytes To_report o = tt
OwnDir-absent c d t bytes To_abort o = tt
OwnDir-absent c d t bytes To_fail o = tt
OwnDir-absent c d t bytes Over o = tt
OwnDir-absent c d t bytes _ o = o

-- Its own calls

pub append-ne : (d : Path) (n : Name) (x : Path) → d ++ n ∷ x ≡ d → ⊥
append-ne [] n x e = cc
append-ne (m ∷ d) n x e = append-ne d n x cc

pub append-inj : (d x y : Path) → d ++ x ≡ d ++ y → x ≡ y
append-inj [] x y e = e
append-inj (m ∷ d) x y e = append-inj d x y cc

pub create-own : (c : Content) (d : Path) (t : TaskId) → IsEmptyDir c d → Holds (left c (Create (d ++ part_name t ∷ []) false)) d t (File [] false)
unfolding left
create-own c d t h = record {
  dir = put-other c _ _ d (append-ne d (part_name t) []) ∙ h.dir;
  file = put-same c _ _;
  only = λ x n m. put-other c _ _ (d ++ x) (λ e. m (sym (append-inj d _ x e))) ∙ h.only x n;
}

-- the part alone is changed
changed-own : (c : Content) (d : Path) (t : TaskId) (e e' : Entry) (f : Node → Node) → f e ≡ e' → Holds c d t e → Holds (changed_at c (d ++ part_name t ∷ []) f) d t e'
changed-own c d t e e' f q h = record {
  dir = other d (append-ne d (part_name t) []) ∙ h.dir;
  file = get-changed c (d ++ part_name t ∷ []) f (d ++ part_name t ∷ []) ∙ rw (path_eq-refl (d ++ part_name t ∷ []), h.file, q) refl;
  only = λ x n m. other (d ++ x) (λ g. m (sym (append-inj d _ x g))) ∙ h.only x n m;
}
  where
    other : (x : Path) → (d ++ part_name t ∷ [] ≡ x → ⊥) → entry_at (changed_at c (d ++ part_name t ∷ []) f) x ≡ entry_at c x
    other x n = get-changed c (d ++ part_name t ∷ []) f x ∙ rw (path_ne x (d ++ part_name t ∷ []) (λ g. n (sym g))) refl

pub write-own : (c : Content) (d : Path) (t : TaskId) (bytes : List ℕ) → Holds c d t (File [] false) → Holds (left c (Append (d ++ part_name t ∷ []) bytes)) d t (File bytes false)
unfolding left
write-own c d t bytes h = changed-own c d t (File [] false) (File bytes false) (appended bytes) refl h

pub close-own : (c : Content) (d : Path) (t : TaskId) (bytes : List ℕ) → Holds c d t (File bytes false) → Holds (left c (Close (d ++ part_name t ∷ []))) d t (File bytes true)
unfolding left
close-own c d t bytes h = changed-own c d t (File bytes false) (File bytes true) closed_of refl h

pub beneath-longer : (d x : Path) → (x ≡ [] → ⊥) → beneath (d ++ x) d ≡ None
beneath-longer [] [] n = absurd (n refl)
beneath-longer [] (m ∷ x) n = refl
beneath-longer (m ∷ d) x n = rw (name_eq-refl m) (beneath-longer d x n)

pub mkdirs-own : (c : Content) (d : Path) → Absent c d → IsEmptyDir (left c (MkDirs d)) d
unfolding left
mkdirs-own c d h = record {
  dir = made-last c d (at_itself c d None (h []));
  only = λ x n. made-other c d (d ++ x) (beneath-longer d x n) ∙ h x;
}
