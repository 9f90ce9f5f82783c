-- An attempt's own calls, and its rename.
use Rattle.std.proofs.Common.{ℕ, ◌≡◌, refl, sym, ◌∙◌, subst, Bool, true, false, List, [], ◌∷◌, Option, Some, None, is_some, is_none, ◌⊎◌, inl, inr}
use Rattle.std.proofs.lemmas.Bool.{false≢true}
use Rattle.mr_names.specs.declared.op.Op.TheVariants as op
use Rattle.mr_names.specs.Laws.{MayMkdirs, MayCreate, MayAppend, MayDelete, MayRename, IsOpenFile}
use Rattle.mr_names.proofs.CallLaws.{answered_only}
use Rattle.mr_paths.proofs.Apart.{parent_of_child}
use Rattle.mr_world_model.specs.Ids.{Path, Attempt, task_attempt, committed, part_name}
use Rattle.mr_world_model.specs.Content.{Entry, Dir, File, Content, entry_at, MkDirs, Create, Append, Close, Delete, Rename, ListDir, Read, is_file, left, refusal}
use Rattle.mr_world_model.specs.Pasts.{To_mkdirs, To_create, To_write, To_close, To_rename, part_at}
use Rattle.mr_world_model.proofs.Files.{Absent, Holds, OwnDir, Holds-moved, create-own, write-own, mkdirs-own}

pub some-there : (o : Option Entry) → is_some o ≡ true → is_none o ≡ false
some-there (Some x) e = refl
some-there None e = cc

pub there : (o : Option Entry) (x : Entry) → o ≡ Some x → is_none o ≡ false
there o x e = rw e refl

-- What a call that is not refused finds

pub may-mkdirs : (c : Content) (p : Path) → refusal c (MkDirs p) ≡ None → MayMkdirs c p
unfolding refusal
may-mkdirs c p e = answered_only c (op.Mkdirs p) e

pub may-create : (c : Content) (p : Path) (closed : Bool) → refusal c (Create p closed) ≡ None → MayCreate c p
unfolding refusal
may-create c p closed e = answered_only c (op.Create p closed) e

pub may-append : (c : Content) (p : Path) (bytes : List ℕ) → refusal c (Append p bytes) ≡ None → MayAppend c p bytes
unfolding refusal
may-append c p bytes e = answered_only c (op.Append p bytes) e

pub may-close : (c : Content) (p : Path) → refusal c (Close p) ≡ None → IsOpenFile c p
unfolding refusal
may-close c p e = answered_only c (op.Close p) e

pub may-delete : (c : Content) (p : Path) → refusal c (Delete p) ≡ None → MayDelete c p
unfolding refusal
may-delete c p e = answered_only c (op.Delete p) e

pub may-rename : (c : Content) (p q : Path) → refusal c (Rename p q) ≡ None → MayRename c p q
unfolding refusal
may-rename c p q e = answered_only c (op.Rename p q) e

pub may-list : (c : Content) (p : Path) → refusal c (ListDir p) ≡ None → entry_at c p ≡ Some Dir
unfolding refusal
may-list c p e = answered_only c (op.List p) e

pub may-read : (c : Content) (p : Path) → refusal c (Read p) ≡ None → is_file (entry_at c p) ≡ true
unfolding refusal
may-read c p e = answered_only c (op.Read p) e

-- a rename that is not refused finds its source there and its goal free
pub rename-parts : (c : Content) (p q : Path) → refusal c (Rename p q) ≡ None → (is_none (entry_at c p) ≡ false) × (entry_at c q ≡ None)
rename-parts c p q e = let m = may-rename c p q e in (some-there (entry_at c p) m.found, m.free)

-- the rename of a finished attempt leaves its whole file in the committed directory
pub rename-commits : (c : Content) (k : ℕ) (a : Attempt) (bytes : List ℕ) → (entry_at c (committed k a.task) ≡ None → Absent c (committed k a.task)) →
    OwnDir c (task_attempt k a) a.task bytes To_rename → refusal c (Rename (task_attempt k a) (committed k a.task)) ≡ None →
    Holds (left c (Rename (task_attempt k a) (committed k a.task))) (committed k a.task) a.task (File bytes true)
rename-commits c k a bytes tree own ok = by own (rename-parts c (task_attempt k a) (committed k a.task) ok)
  where
    by : Absent c (task_attempt k a) ⊎ Holds c (task_attempt k a) a.task (File bytes true) → (is_none (entry_at c (task_attempt k a)) ≡ false) × (entry_at c (committed k a.task) ≡ None) →
        Holds (left c (Rename (task_attempt k a) (committed k a.task))) (committed k a.task) a.task (File bytes true)
    by (inl gone) p = absurd (false≢true (sym p.0 ∙ rw (gone []) refl))
    by (inr h) p = Holds-moved c _ _ a.task (File bytes true) h (tree p.1)

create-parent : (c : Content) (k : ℕ) (a : Attempt) → refusal c (Create (part_at k a) false) ≡ None → is_none (entry_at c (task_attempt k a)) ≡ false
create-parent c k a e = there _ Dir (subst (λ x. entry_at c x ≡ Some Dir) (parent_of_child (task_attempt k a) (part_name a.task)) (may-create c (part_at k a) false e).parent_dir)

pub create-step : (c : Content) (k : ℕ) (a : Attempt) (bytes : List ℕ) → OwnDir c (task_attempt k a) a.task bytes To_create → refusal c (Create (part_at k a) false) ≡ None →
    OwnDir (left c (Create (part_at k a) false)) (task_attempt k a) a.task bytes To_write
create-step c k a bytes (inl gone) ok = absurd (false≢true (sym (create-parent c k a ok) ∙ rw (gone []) refl))
create-step c k a bytes (inr h) ok = inr (create-own c (task_attempt k a) a.task h)

append-there : (c : Content) (p : Path) (bytes : List ℕ) → refusal c (Append p bytes) ≡ None → is_none (entry_at c p) ≡ false
append-there c p bytes e = there _ _ (may-append c p bytes e).is_open

pub write-step : (c : Content) (k : ℕ) (a : Attempt) (bytes : List ℕ) → OwnDir c (task_attempt k a) a.task bytes To_write → refusal c (Append (part_at k a) bytes) ≡ None →
    OwnDir (left c (Append (part_at k a) bytes)) (task_attempt k a) a.task bytes To_close
write-step c k a bytes (inl gone) ok = absurd (false≢true (sym (append-there c (part_at k a) bytes ok) ∙ rw (gone (part_name a.task ∷ [])) refl))
write-step c k a bytes (inr h) ok = inr (write-own c (task_attempt k a) a.task bytes h)

pub mkdirs-step : (c : Content) (k : ℕ) (a : Attempt) (bytes : List ℕ) → OwnDir c (task_attempt k a) a.task bytes To_mkdirs → OwnDir (left c (MkDirs (task_attempt k a))) (task_attempt k a) a.task bytes To_create
mkdirs-step c k a bytes o = inr (mkdirs-own c (task_attempt k a) o)
