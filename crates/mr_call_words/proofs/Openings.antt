-- The first words: no two have one text, and each has a place.
use Rattle.std.specs.List.{slice_index_or}
use Rattle.std.specs.Cmp.Lexicographic.{pointwise}
use Rattle.std.proofs.Math.Nat.{eq-or-lt_of_le}
use Rattle.std.proofs.Common.{inl, inr, ◌≡◌, ◌<◌, ◌≤◌, ◌+◌, ◌∷◌, [], rules, arith, ℕ, List, cond, nat_eq, codes, refl, sym, ap, ◌∙◌}
use Rattle.mr_call_words.specs.declared.opening.Opening.{Opening}
use Rattle.mr_call_words.specs.declared.opening.Opening.TheVariants as opening
use Rattle.mr_call_words.specs.inner.Opening.{opening_text}

-- no two have one text
opening_back : List ℕ → Opening
opening_back w =
    cond (pointwise nat_eq w (codes "mkdirs")) opening.Mkdirs (
    cond (pointwise nat_eq w (codes "create")) opening.Create (
    cond (pointwise nat_eq w (codes "append")) opening.Append (
    cond (pointwise nat_eq w (codes "close")) opening.Close (
    cond (pointwise nat_eq w (codes "delete")) opening.Delete (
    cond (pointwise nat_eq w (codes "rename")) opening.Rename (
    cond (pointwise nat_eq w (codes "list")) opening.List (
    cond (pointwise nat_eq w (codes "exists")) opening.Exists (
    cond (pointwise nat_eq w (codes "read")) opening.Read (
    cond (pointwise nat_eq w (codes "bar")) opening.Bar (
    cond (pointwise nat_eq w (codes "done")) opening.Done (
    cond (pointwise nat_eq w (codes "entries")) opening.Entries (
    cond (pointwise nat_eq w (codes "nothing")) opening.Nothing (
    cond (pointwise nat_eq w (codes "a")) opening.A (
    cond (pointwise nat_eq w (codes "bytes")) opening.Bytes (
    cond (pointwise nat_eq w (codes "Superseded")) opening.Superseded (
    cond (pointwise nat_eq w (codes "Barred")) opening.Barred (
    cond (pointwise nat_eq w (codes "Missing")) opening.Missing (
    cond (pointwise nat_eq w (codes "Exists")) opening.AlreadyThere (
    cond (pointwise nat_eq w (codes "NotDir")) opening.NotDir (
    cond (pointwise nat_eq w (codes "NotFile")) opening.NotFile (
    cond (pointwise nat_eq w (codes "Closed")) opening.Closed (
    cond (pointwise nat_eq w (codes "NoParent")) opening.NoParent (
    cond (pointwise nat_eq w (codes "IntoItself")) opening.IntoItself (
    cond (pointwise nat_eq w (codes "Full")) opening.Full (
    opening.NoMemory)))))))))))))))))))))))))

back : (o : Opening) → opening_back (opening_text o) ≡ o
unfolding opening_back
back opening.Mkdirs = refl
back opening.Create = refl
back opening.Append = refl
back opening.Close = refl
back opening.Delete = refl
back opening.Rename = refl
back opening.List = refl
back opening.Exists = refl
back opening.Read = refl
back opening.Bar = refl
back opening.Done = refl
back opening.Entries = refl
back opening.Nothing = refl
back opening.A = refl
back opening.Bytes = refl
back opening.Superseded = refl
back opening.Barred = refl
back opening.Missing = refl
back opening.AlreadyThere = refl
back opening.NotDir = refl
back opening.NotFile = refl
back opening.Closed = refl
back opening.NoParent = refl
back opening.IntoItself = refl
back opening.Full = refl
back opening.NoMemory = refl

pub opening_text-injective : (o p : Opening) → opening_text o ≡ opening_text p → o ≡ p
opening_text-injective o p e = sym (back o) ∙ ap opening_back e ∙ back p

-- the place of a first word among all
abbrev pub place_of : Opening → ℕ
place_of opening.Mkdirs = 0
place_of opening.Create = 1
place_of opening.Append = 2
place_of opening.Close = 3
place_of opening.Delete = 4
place_of opening.Rename = 5
place_of opening.List = 6
place_of opening.Exists = 7
place_of opening.Read = 8
place_of opening.Bar = 9
place_of opening.Done = 10
place_of opening.Entries = 11
place_of opening.Nothing = 12
place_of opening.A = 13
place_of opening.Bytes = 14
place_of opening.Superseded = 15
place_of opening.Barred = 16
place_of opening.Missing = 17
place_of opening.AlreadyThere = 18
place_of opening.NotDir = 19
place_of opening.NotFile = 20
place_of opening.Closed = 21
place_of opening.NoParent = 22
place_of opening.IntoItself = 23
place_of opening.Full = 24
place_of opening.NoMemory = 25

abbrev pub openings : List Opening
openings = opening.Mkdirs ∷ opening.Create ∷ opening.Append ∷ opening.Close ∷ opening.Delete ∷ opening.Rename ∷ opening.List ∷ opening.Exists ∷ opening.Read ∷ opening.Bar ∷ opening.Done ∷ opening.Entries ∷ opening.Nothing ∷ opening.A ∷ opening.Bytes ∷ opening.Superseded ∷ opening.Barred ∷ opening.Missing ∷ opening.AlreadyThere ∷ opening.NotDir ∷ opening.NotFile ∷ opening.Closed ∷ opening.NoParent ∷ opening.IntoItself ∷ opening.Full ∷ opening.NoMemory ∷ []

pub at_place : (o d : Opening) → o ≡ slice_index_or openings (place_of o) d
at_place opening.Mkdirs d = refl
at_place opening.Create d = refl
at_place opening.Append d = refl
at_place opening.Close d = refl
at_place opening.Delete d = refl
at_place opening.Rename d = refl
at_place opening.List d = refl
at_place opening.Exists d = refl
at_place opening.Read d = refl
at_place opening.Bar d = refl
at_place opening.Done d = refl
at_place opening.Entries d = refl
at_place opening.Nothing d = refl
at_place opening.A d = refl
at_place opening.Bytes d = refl
at_place opening.Superseded d = refl
at_place opening.Barred d = refl
at_place opening.Missing d = refl
at_place opening.AlreadyThere d = refl
at_place opening.NotDir d = refl
at_place opening.NotFile d = refl
at_place opening.Closed d = refl
at_place opening.NoParent d = refl
at_place opening.IntoItself d = refl
at_place opening.Full d = refl
at_place opening.NoMemory d = refl

pub placed : (o : Opening) → place_of o < 26
placed opening.Mkdirs = search rules
placed opening.Create = search rules
placed opening.Append = search rules
placed opening.Close = search rules
placed opening.Delete = search rules
placed opening.Rename = search rules
placed opening.List = search rules
placed opening.Exists = search rules
placed opening.Read = search rules
placed opening.Bar = search rules
placed opening.Done = search rules
placed opening.Entries = search rules
placed opening.Nothing = search rules
placed opening.A = search rules
placed opening.Bytes = search rules
placed opening.Superseded = search rules
placed opening.Barred = search rules
placed opening.Missing = search rules
placed opening.AlreadyThere = search rules
placed opening.NotDir = search rules
placed opening.NotFile = search rules
placed opening.Closed = search rules
placed opening.NoParent = search rules
placed opening.IntoItself = search rules
placed opening.Full = search rules
placed opening.NoMemory = search rules

-- a word that is none of the first ones, nor the next one, is none of these
pub other_place : (i : ℕ) (word next : List ℕ) (d : Opening) → ((o : Opening) → place_of o < i → word ≡ opening_text o → ⊥) → next ≡ opening_text (slice_index_or openings i d) → (word ≡ next → ⊥) →
    (o : Opening) → place_of o < i + 1 → word ≡ opening_text o → ⊥
other_place i word next d earlier is differs o below e =
    let most : place_of o ≤ i = omega arith in
    elim (eq-or-lt_of_le most) [
      | inl same ↦ differs (e ∙ ap opening_text (at_place o d) ∙ ap (λ k. opening_text (slice_index_or openings k d)) same ∙ sym is)
      | inr less ↦ earlier o less e
    ]
