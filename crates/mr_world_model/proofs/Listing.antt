-- A listing has exactly the names of the entries directly beneath a path.
use Rattle.std.proofs.Common.{◌≡◌, refl, sym, ◌∙◌, ap, Bool, true, false, ◌||◌, List, [], ◌∷◌, ◌++◌, Option, Some, None, if◌then◌else◌, is_some}
use Rattle.std.specs.Option.{option_map}
use Rattle.std.proofs.lemmas.Bool.{true≢false}
use Rattle.mr_names_tree.specs.Node.{kind_of}
use Rattle.mr_names.specs.Laws.{kind_listed}
use Rattle.mr_names_tree.proofs.ListingLaws.{lists_children}
use Rattle.mr_world_model.specs.Ids.{Name, Path, name_eq}
use Rattle.mr_world_model.specs.Content.{Entry, Content, entry_at, children, Listed}
use Rattle.mr_world_model.proofs.Names.{name_eq-true, name_eq-refl}

abbrev pub has_name : List Listed → Name → Bool
has_name [] n = false
has_name (l ∷ ls) n = name_eq l.name n || has_name ls n

pub or-true : (b : Bool) → (b || true) ≡ true
or-true true = refl
or-true false = refl

pub name_eq-sym : (a b : Name) → name_eq a b ≡ name_eq b a
name_eq-sym a b = by (name_eq a b) refl (name_eq b a) refl
  where
    by : (s : Bool) → name_eq a b ≡ s → (t : Bool) → name_eq b a ≡ t → name_eq a b ≡ name_eq b a
    by true p true q = p ∙ sym q
    by false p false q = p ∙ sym q
    by true p false q = absurd (true≢false (sym (name_eq-refl a) ∙ (ap (λ x. name_eq x a) (name_eq-true a b p) ∙ q)))
    by false p true q = absurd (true≢false (sym (name_eq-refl b) ∙ (ap (λ x. name_eq x b) (name_eq-true b a q) ∙ p)))

listed : (ls : List Listed) (n : Name) → has_name ls n ≡ is_some (kind_listed ls n)
listed [] n = refl
listed (l ∷ ls) n = ap (λ b. b || has_name ls n) (name_eq-sym l.name n) ∙ by (name_eq n l.name) (listed ls n)
  where
    by : (b : Bool) → has_name ls n ≡ is_some (kind_listed ls n) → (b || has_name ls n) ≡ is_some (if b then Some l.kind else kind_listed ls n)
    by true e = refl
    by false e = e

mapped : (o : Option Entry) → is_some (option_map kind_of o) ≡ is_some o
mapped None = refl
mapped (Some x) = refl

-- a name is listed exactly where there is an entry
pub children-names : (c : Content) (p : Path) (n : Name) → has_name (children c p) n ≡ is_some (entry_at c (p ++ n ∷ []))
unfolding children
children-names c p n = listed (children c p) n ∙ (ap is_some (lists_children c p n) ∙ mapped (entry_at c (p ++ n ∷ [])))
