-- A line cut at its first b.
use Rattle.std.proofs.Common.{◌≡◌, ◌≢◌, ℕ, List, [], ◌∷◌, ◌++◌, eqb, Bool, true, false, Option, Some, None, refl, ap, ne_eqb, ◌∙◌, sym, T}
use Rattle.std.proofs.Math.Dec.{eqb_refl}
use Rattle.std.specs.List.{AllByRecursion, All}
use Rattle.std.proofs.lemmas.List.Elements.{recursion_from_All}
use Rattle.mr_script.specs.Lines.{before, after}
use Rattle.mr_script.specs.Words.{and_words}

-- none of the bytes is b
abbrev pub Lacks : ℕ → List ℕ → Type 0
Lacks b = AllByRecursion (λ x. x ≢ b)

same : (b : ℕ) → eqb b b ≡ true
same b = T-true (eqb b b) (eqb_refl b)
  where
    T-true : (t : Bool) → T t → t ≡ true
    T-true true h = refl
    T-true false h = absurd h

pub before-by : (b : ℕ) (w rest : List ℕ) → Lacks b w → before b (w ++ b ∷ rest) ≡ w
before-by b [] rest h = rw (same b) refl
before-by b (x ∷ w) rest h = rw (ne_eqb x b h.0) (ap (λ (t : List ℕ). x ∷ t) (before-by b w rest h.1))

pub after-by : (b : ℕ) (w rest : List ℕ) → Lacks b w → after b (w ++ b ∷ rest) ≡ Some rest
after-by b [] rest h = rw (same b) refl
after-by b (x ∷ w) rest h = rw (ne_eqb x b h.0) (after-by b w rest h.1)

pub none-after : (b : ℕ) (w : List ℕ) → Lacks b w → after b w ≡ None
none-after b [] h = refl
none-after b (x ∷ w) h = rw (ne_eqb x b h.0) (none-after b w h.1)

pub alone : (b : ℕ) (w : List ℕ) → Lacks b w → before b w ≡ w
alone b [] h = refl
alone b (x ∷ w) h = rw (ne_eqb x b h.0) (ap (λ (t : List ℕ). x ∷ t) (alone b w h.1))

pub before-cut : (b : ℕ) (w rest : List ℕ) → All (λ x. x ≢ b) w → before b (w ++ b ∷ rest) ≡ w
before-cut b w rest h = before-by b w rest (recursion_from_All (λ x. x ≢ b) w h)

pub after-cut : (b : ℕ) (w rest : List ℕ) → All (λ x. x ≢ b) w → after b (w ++ b ∷ rest) ≡ Some rest
after-cut b w rest h = after-by b w rest (recursion_from_All (λ x. x ≢ b) w h)

pub after-none : (b : ℕ) (w : List ℕ) → All (λ x. x ≢ b) w → after b w ≡ None
after-none b w h = none-after b w (recursion_from_All (λ x. x ≢ b) w h)

pub before-none : (b : ℕ) (w : List ℕ) → All (λ x. x ≢ b) w → before b w ≡ w
before-none b w h = alone b w (recursion_from_All (λ x. x ≢ b) w h)

-- what a line is cut into
pub front-is : (b : ℕ) (line front text more : List ℕ) → Lacks b text → before b line ≡ front → line ≡ text ++ b ∷ more → front ≡ text
front-is b line front text more h f e = sym f ∙ ap (before b) e ∙ before-by b text more h

pub rest-is : (b : ℕ) (line rest text more : List ℕ) → Lacks b text → after b line ≡ Some rest → line ≡ text ++ b ∷ more → rest ≡ more
rest-is b line rest text more h f e = let both : Some rest ≡ Some more = sym f ∙ ap (after b) e ∙ after-by b text more h in cc

-- a line that is not cut has no such parts
pub no-cut : (b : ℕ) (line text more : List ℕ) → Lacks b text → after b line ≡ None → line ≡ text ++ b ∷ more → ⊥
no-cut b line text more h f e = let both : None ≡ Some more = sym f ∙ ap (after b) e ∙ after-by b text more h in absurd (cc)

-- a word, and more where there is more
pub one-word : (line text : List ℕ) (more : Option (List ℕ)) → Lacks 32 text → after 32 line ≡ None → line ≡ and_words text more → (more ≡ None) × (line ≡ text)
one-word line text None h f e = (refl, e)
one-word line text (Some rest) h f e = absurd (no-cut 32 line text rest h f e)

pub more-words : (line front rest text : List ℕ) (more : Option (List ℕ)) → Lacks 32 text → before 32 line ≡ front → after 32 line ≡ Some rest → line ≡ and_words text more → (more ≡ Some rest) × (front ≡ text)
more-words line front rest text None h f g e = let both : None ≡ Some rest = sym (none-after 32 text h) ∙ ap (after 32) (sym e) ∙ g in absurd (cc)
more-words line front rest text (Some more) h f g e = (ap Some (sym (rest-is 32 line rest text more h g e)), front-is 32 line front text more h f e)

pub some-inj : {A : Type 0} (a b : A) → Some a ≡ Some b → a ≡ b
some-inj a b e = cc

-- two lines of two words
pub record Parts (a b x y : List ℕ) : Type 0 where
  pub front : a ≡ b
  pub rest : x ≡ y

pub cut-same : (s : ℕ) (a b x y : List ℕ) → Lacks s a → Lacks s b → a ++ s ∷ x ≡ b ++ s ∷ y → Parts a b x y
cut-same s a b x y g h e = record {
  front = sym (before-by s a x g) ∙ ap (before s) e ∙ before-by s b y h;
  rest = some-inj x y (sym (after-by s a x g) ∙ ap (after s) e ∙ after-by s b y h);
}
