-- What is read of the namespace from outside, and of the packets.
use Rattle.std.proofs.Common.{◌≡◌, ◌≤◌, ℕ, refl, sym, ◌∙◌, ap, Bool, true, false, List, [], ◌∷◌, map, Option, Some, None, Result, Ok, Err, is_none, nat_lt, unwrap_or, arith}
use Rattle.std.proofs.lemmas.Bool.Decides.{nat_tests}
use Rattle.std.specs.List.{flat_map}
use Rattle.std.specs.Option.{option_or}
use Rattle.mr_names.specs.declared.fault.NameFault.{NameFault}
use Rattle.mr_names.specs.declared.fault.NameFault.TheVariants as fault
use Rattle.mr_names.specs.declared.op.Answer.{Answer}
use Rattle.mr_names.specs.declared.op.Answer.TheVariants as answers
use Rattle.mr_names.specs.declared.op.Caller.{Caller}
use Rattle.mr_names.specs.declared.op.Op.{Op}
use Rattle.mr_names.specs.declared.op.Op.TheVariants as op
use Rattle.mr_names.specs.Calls.{State, IsSound, unheard, refused, own_refusal, call_of, settled, first_of}
use Rattle.mr_names_tree.specs.Content.{IsTree}
use Rattle.mr_names_tree.specs.Listing as listing
use Rattle.mr_paths.specs.Layout as layout
use Rattle.mr_world_model.specs.Ids.{Path, dest, marker}
use Rattle.mr_world_model.specs.Content.{Content, Entry, Dir, File, Listed, children, entry_at, is_dir, is_file, option_kind, bytes_of}
use Rattle.mr_world_model.specs.Results.{visible, visible_in}
use Rattle.mr_world_model.specs.World.{World}
use Rattle.mr_world_model.proofs.Listing.{children-names, has_name}
use Rattle.mr_world_model.proofs.Names.{name_eq-refl}
use Rattle.mr_world_state.specs.declared.parts.Parts.{Parts}
use Rattle.mr_world.specs.declared.results.VisibleFile.{VisibleFile}
use Rattle.mr_world.specs.VisibleFiles.{as_pair, contents, is_file_kind, seen_beneath}
use Rattle.mr_world_state.specs.Standing.{Standing}

-- ---- who looks on from outside is heard

pub onlooker-heard : (s : State) (c : Caller) → IsSound s → c.app ≡ 1000 → c.attempt ≡ None → unheard s c ≡ None
unfolding unheard
onlooker-heard s c sound app attempt = let e : nat_lt c.app s.fence ≡ false = above sound.fence in rw (e, attempt) refl
  where
    above : s.fence ≤ 1000 → nat_lt c.app s.fence ≡ false
    above l = grind (arith, nat_tests)

refused-is : (s : State) (c : Caller) (o : Op) → unheard s c ≡ None → refused s c o ≡ own_refusal s o
refused-is s c o heard = ap (λ u. option_or u (own_refusal s o)) heard

-- ---- what a call answers whom it hears

none-some : {A : Type 0} {P : Type 0} (a : A) → None ≡ Some a → P
none-some a e = cc

abbrev Answered : Type 0
Answered = Result Answer NameFault

ok-err : {P : Type 0} (a : Answer) (e : NameFault) (r q : Answered) → r ≡ Ok a → q ≡ Err e → r ≡ q → P
ok-err a e r q is at same = cc

ok-is : (a b : Answer) (r q : Answered) → r ≡ Ok a → q ≡ Ok b → r ≡ q → a ≡ b
ok-is a b r q is at same = cc

pub kind-refused : {P : Type 0} (s : State) (c : Caller) (p : Path) (f : NameFault) (t : State) → unheard s c ≡ None → call_of s c (op.Exists p) ≡ (Err f, t) → P
kind-refused s c p f t heard is = ok-err _ f _ _ refl refl (ap (λ (r : Answered × State). r.0) (sym (ap (λ r. settled r s (op.Exists p)) (refused-is s c (op.Exists p) heard)) ∙ is))

pub entries-listed : (s : State) (c : Caller) (p : Path) (es : List Listed) (t : State) → call_of s c (op.List p) ≡ (Ok (answers.Listed es), t) → es ≡ children s.content p
unfolding children
entries-listed s c p es t is = by (refused s c (op.List p)) is
  where
    listed : (a b : List Listed) → answers.Listed a ≡ answers.Listed b → a ≡ b
    listed a b q = cc

    by : (r : Option NameFault) → settled r s (op.List p) ≡ (Ok (answers.Listed es), t) → es ≡ listing.children s.content p
    by None e = sym (listed _ es (ok-is _ _ _ _ refl refl (ap (λ (r : Answered × State). r.0) e)))
    by (Some f) e = ok-err _ f _ _ refl refl (sym (ap (λ (r : Answered × State). r.0) e))

-- a call of whom it hears was refused for what the namespace holds, where memory was not wanted
own-reason : (s : State) (c : Caller) (o : Op) (f : NameFault) → unheard s c ≡ None → f ≡ unwrap_or (refused s c o) fault.NoMemory → (f ≡ fault.NoMemory → ⊥) → own_refusal s o ≡ Some f
own-reason s c o f heard is other = by (own_refusal s o) refl (is ∙ ap (λ r. unwrap_or r fault.NoMemory) (refused-is s c o heard))
  where
    by : (r : Option NameFault) → own_refusal s o ≡ r → f ≡ unwrap_or r fault.NoMemory → r ≡ Some f
    by None e q = absurd (other q)
    by (Some g) e q = ap Some (sym q)

-- ---- a directory that is none lists nothing

has-first : (e : Listed) (es : List Listed) → has_name (e ∷ es) e.name ≡ true
has-first e es = rw (name_eq-refl e.name) refl

no-children : (c : Content) (p : Path) → IsTree c → (entry_at c p ≡ Some Dir → ⊥) → children c p ≡ []
no-children c p tree other = by (children c p) refl
  where
    by : (es : List Listed) → children c p ≡ es → es ≡ []
    by [] e = refl
    by (x ∷ es) e = absurd (other (tree.parents p x.name (sym (children-names c p x.name) ∙ (ap (λ ls. has_name ls x.name) e ∙ has-first x es))))

abbrev list_refusal : Option Entry → Option NameFault
list_refusal o = first_of ((is_none o, fault.Missing) ∷ (is_file o, fault.NotDir) ∷ [])

pub none-listed : (s : State) (c : Caller) (p : Path) (f : NameFault) → unheard s c ≡ None → IsSound s → f ≡ unwrap_or (refused s c (op.List p)) fault.NoMemory → (f ≡ fault.NoMemory → ⊥) → [] ≡ children s.content p
none-listed s c p f heard sound is other = sym (no-children s.content p sound.tree (λ dir. none-some f (sym (ap list_refusal dir) ∙ own-reason s c (op.List p) f heard is other)))

-- ---- what is read of a file

abbrev read_refusal : Option Entry → Option NameFault
read_refusal o = first_of ((is_none o, fault.Missing) ∷ (is_dir o, fault.NotFile) ∷ [])

pub bytes-read : (s : State) (c : Caller) (p : Path) (bytes : List ℕ) (t : State) → unheard s c ≡ None → call_of s c (op.Read p) ≡ (Ok (answers.Contents bytes), t) → Some bytes ≡ contents (entry_at s.content p)
bytes-read s c p bytes t heard is = by (entry_at s.content p) refl (sym (ap (λ r. settled r s (op.Read p)) (refused-is s c (op.Read p) heard)) ∙ is)
  where
    told : (a b : List ℕ) → answers.Contents a ≡ answers.Contents b → a ≡ b
    told a b q = cc

    by : (o : Option Entry) → entry_at s.content p ≡ o → settled (read_refusal o) s (op.Read p) ≡ (Ok (answers.Contents bytes), t) → Some bytes ≡ contents o
    by None e q = ok-err _ fault.Missing _ _ refl refl (sym (ap (λ (r : Answered × State). r.0) q))
    by (Some Dir) e q = ok-err _ fault.NotFile _ _ refl refl (sym (ap (λ (r : Answered × State). r.0) q))
    by (Some (File b closed)) e q = ap Some (sym (told _ bytes (ok-is _ _ _ _ refl refl (ap (λ (r : Answered × State). r.0) q))) ∙ ap bytes_of e)

pub none-read : (s : State) (c : Caller) (p : Path) (f : NameFault) → unheard s c ≡ None → f ≡ unwrap_or (refused s c (op.Read p)) fault.NoMemory → (f ≡ fault.NoMemory → ⊥) → None ≡ contents (entry_at s.content p)
none-read s c p f heard is other = by (entry_at s.content p) (own-reason s c (op.Read p) f heard is other)
  where
    by : (o : Option Entry) → read_refusal o ≡ Some f → None ≡ contents o
    by None e = refl
    by (Some Dir) e = refl
    by (Some (File b closed)) e = none-some f e

-- ---- of a world

file-kind : (o : Option Entry) → is_file_kind (option_kind o) ≡ is_file o
file-kind None = refl
file-kind (Some Dir) = refl
file-kind (Some (File bytes closed)) = refl

pub marker-is : (p : Parts) (w : World) (path : Path) (b : Bool) → Standing p w → path ≡ layout.marker p.layout.dest → b ≡ is_file_kind (option_kind (entry_at p.names.content path)) → b ≡ is_file (entry_at w.content marker)
unfolding layout.marker
marker-is p w path b s at is = is ∙ (file-kind (entry_at p.names.content path) ∙ (ap (λ x. is_file (entry_at p.names.content x)) (at ∙ ap layout.marker s.dest) ∙ ap (λ c. is_file (entry_at c marker)) s.stores.namespace.content))

pub visible-is : (p : Parts) (w : World) (files : List VisibleFile) (entries : List Listed) → Standing p w → map as_pair files ≡ flat_map (λ (line : Listed). seen_beneath p.names.content p.layout.dest line.name) entries
    → entries ≡ children p.names.content p.layout.dest → map as_pair files ≡ visible w
unfolding visible_in
visible-is p w files entries s is at = is ∙ (ap (flat_map (λ (line : Listed). seen_beneath p.names.content p.layout.dest line.name)) at
    ∙ (ap (λ d. flat_map (λ (line : Listed). seen_beneath p.names.content d line.name) (children p.names.content d)) s.dest
    ∙ ap (λ c. flat_map (λ (line : Listed). seen_beneath c dest line.name) (children c dest)) s.stores.namespace.content))
