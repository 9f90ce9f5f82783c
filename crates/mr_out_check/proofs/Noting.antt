-- A name of a class comes: its class has a note, or the note is new.
use Rattle.std.proofs.Common.{◌≡◌, ◌<◌, ◌≤◌, ◌+◌, ◌-◌, ℕ, Bool, true, false, List, [], ◌∷◌, ◌++◌, append-nil, length, length-append, take, map, Option, Some, None, get_or, set, refl, sym, ap, ◌∙◌, arith}
use Rattle.std.proofs.lemmas.List.{get_or_at, set_at}
use Rattle.std.specs.Prelude.{if◌then◌else◌}
use Rattle.mr_out_check.specs.declared.class.Class.{Class}
use Rattle.mr_out_check.specs.declared.seen.Note.{Note}
use Rattle.mr_out_check.specs.Classes.{same_class}
use Rattle.mr_out_check.specs.Seen.{Noted, as_noted, counted, noted}
use Rattle.mr_out_check.specs.inner.Notes.{place_from}

not_some : (k : ℕ) → None ≡ Some k → ⊥
not_some k e = cc

some_is : (k i : ℕ) → Some k ≡ Some i → k ≡ i
some_is k i e = cc

mapped : (xs ys : List Note) → map as_noted (xs ++ ys) ≡ map as_noted xs ++ map as_noted ys
mapped [] ys = refl
mapped (x ∷ xs) ys = ap (λ zs. as_noted x ∷ zs) (mapped xs ys)

-- the notes, where the class is compared with that of the first
abbrev if_same : Class → List ℕ → Note → List Note → Bool → List Noted
if_same c name n ns b = if b then counted (as_noted n) ∷ map as_noted ns else as_noted n ∷ noted c name (map as_noted ns)

-- where its note stands, and what stands before and behind it
record IsAt (c : Class) (name : List ℕ) (k : ℕ) (notes : List Note) (i : ℕ) : Type 0 where
  pub front : List Note
  pub note : Note
  pub back : List Note
  pub are : notes ≡ front ++ note ∷ back
  pub place : i ≡ k + length front
  pub told : noted c name (map as_noted notes) ≡ map as_noted front ++ counted (as_noted note) ∷ map as_noted back

found_at : (c : Class) (name : List ℕ) (k : ℕ) (notes : List Note) (i : ℕ) → place_from c k notes ≡ Some i → IsAt c name k notes i
found_at c name k [] i e = absurd (not_some i e)
found_at c name k (n ∷ ns) i e = by (same_class n.class c) refl e (found_at c name (k + 1) ns i) where
  goes : IsAt c name (k + 1) ns i → same_class n.class c ≡ false → IsAt c name k (n ∷ ns) i
  goes at other =
      let place = at.place in
      record { front = n ∷ at.front; note = at.note; back = at.back; are = ap (λ xs. n ∷ xs) at.are; place = omega (arith, place); told = ap (if_same c name n ns) other ∙ ap (λ xs. as_noted n ∷ xs) at.told }

  by : (b : Bool) → same_class n.class c ≡ b → (if b then Some k else place_from c (k + 1) ns) ≡ Some i → (place_from c (k + 1) ns ≡ Some i → IsAt c name (k + 1) ns i) → IsAt c name k (n ∷ ns) i
  by true same here more = let place = some_is k i here in record { front = []; note = n; back = ns; are = refl; place = omega (arith, place); told = ap (if_same c name n ns) same }
  by false other here more = goes (more here) other

pub is_within : (c : Class) (notes : List Note) (i : ℕ) → place_from c 0 notes ≡ Some i → i < length notes
is_within c notes i e =
    let at = found_at c [] 0 notes i e in
    let place = at.place in
    let all = ap length at.are ∙ length-append at.front (at.note ∷ at.back) in
    omega (arith, place, all)

-- its note counts one more
pub counted_at : (c : Class) (name : List ℕ) (notes new : List Note) (i : ℕ) (n d : Note) → place_from c 0 notes ≡ Some i → new ≡ set notes i n → as_noted n ≡ counted (as_noted (get_or notes i d)) → map as_noted new ≡ noted c name (map as_noted notes)
counted_at c name notes new i n d e is says =
    let at = found_at c name 0 notes i e in
    let place : length at.front ≡ i = let p = at.place in omega (arith, p) in
    let was : get_or notes i d ≡ at.note = ap (λ xs. get_or xs i d) at.are ∙ get_or_at at.front at.note at.back d i place in
    let now : new ≡ at.front ++ n ∷ at.back = is ∙ (ap (λ xs. set xs i n) at.are ∙ set_at at.front at.note at.back n i place) in
    ap (map as_noted) now ∙ (mapped at.front (n ∷ at.back) ∙ (ap (λ x. map as_noted at.front ++ x ∷ map as_noted at.back) (says ∙ ap (λ x. counted (as_noted x)) was) ∙ sym at.told))

abbrev opened : Class → List ℕ → Noted
opened c name = record { class = c; count = 1; first = name }

none_from : (c : Class) (name : List ℕ) (k : ℕ) (notes : List Note) → place_from c k notes ≡ None → noted c name (map as_noted notes) ≡ map as_noted notes ++ opened c name ∷ []
none_from c name k [] e = refl
none_from c name k (n ∷ ns) e = by (same_class n.class c) refl e (none_from c name (k + 1) ns) where
  by : (b : Bool) → same_class n.class c ≡ b → (if b then Some k else place_from c (k + 1) ns) ≡ None → (place_from c (k + 1) ns ≡ None → noted c name (map as_noted ns) ≡ map as_noted ns ++ opened c name ∷ []) →
      noted c name (map as_noted (n ∷ ns)) ≡ map as_noted (n ∷ ns) ++ opened c name ∷ []
  by true same here more = absurd (not_some k (sym here))
  by false other here more = ap (if_same c name n ns) other ∙ ap (λ xs. as_noted n ∷ xs) (more here)

-- its note is new
pub opened_behind : (c : Class) (name : List ℕ) (notes new : List Note) (n : Note) → place_from c 0 notes ≡ None → new ≡ notes ++ n ∷ [] → as_noted n ≡ opened c name → map as_noted new ≡ noted c name (map as_noted notes)
opened_behind c name notes new n e is says =
    ap (map as_noted) is ∙ (mapped notes (n ∷ []) ∙ (ap (λ x. map as_noted notes ++ x ∷ []) says ∙ sym (none_from c name 0 notes e)))
