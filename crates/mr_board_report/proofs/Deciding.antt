-- Whether a work is due is decided, and so are the equations that it is made of.
use Rattle.std.proofs.Common.{◌≡◌, ◌⊎◌, ℕ, Bool, true, false, List, [], Option, Some, None, Decides, nat_eq, is_some, refl, sym, ap, inl, inr, true≢false}
use Rattle.std.specs.Cmp.Lexicographic.{pointwise}
use Rattle.mr_world_model.specs.Sequential.{Input, Pieces, Split}
use Rattle.mr_board.specs.mr_world.specs.Journal.{Journal}
use Rattle.mr_board.specs.Boards.{Done, IsDue, input_now}
use Rattle.mr_board_report.proofs.Success.{numbers-decide, texts-decide, splits-decide}

or-not : {P : Type 0} (b : Bool) → Decides b P → P ⊎ (¬ P)
or-not true d = inl (d.0 refl)
or-not false d = inr (λ p. true≢false (sym (d.1 p)))

-- what an input has
number-of : Input → ℕ
number-of (Split m split) = m
number-of (Pieces reduce pieces) = reduce

text-of : Input → List ℕ
text-of (Split m split) = split
text-of (Pieces reduce pieces) = []

pieces-of : Input → List (List ℕ)
pieces-of (Split m split) = []
pieces-of (Pieces reduce pieces) = pieces

is-split : Input → Bool
is-split (Split m split) = true
is-split (Pieces reduce pieces) = false

splits-same : (m n : ℕ) (s t : List ℕ) → (m ≡ n) ⊎ (¬ (m ≡ n)) → (s ≡ t) ⊎ (¬ (s ≡ t)) → (Split m s ≡ Split n t) ⊎ (¬ (Split m s ≡ Split n t))
unfolding number-of text-of
splits-same m n s t (inl p) (inl q) = inl (λ i. Split (p i) (q i))
splits-same m n s t (inl p) (inr q) = inr (λ e. q (ap text-of e))
splits-same m n s t (inr p) q = inr (λ e. p (ap number-of e))

pieces-same : (m n : ℕ) (s t : List (List ℕ)) → (m ≡ n) ⊎ (¬ (m ≡ n)) → (s ≡ t) ⊎ (¬ (s ≡ t)) → (Pieces m s ≡ Pieces n t) ⊎ (¬ (Pieces m s ≡ Pieces n t))
unfolding number-of pieces-of
pieces-same m n s t (inl p) (inl q) = inl (λ i. Pieces (p i) (q i))
pieces-same m n s t (inl p) (inr q) = inr (λ e. q (ap pieces-of e))
pieces-same m n s t (inr p) q = inr (λ e. p (ap number-of e))

same-input : (x y : Input) → (x ≡ y) ⊎ (¬ (x ≡ y))
unfolding is-split
same-input (Split m s) (Split n t) = splits-same m n s t (or-not (nat_eq m n) (numbers-decide m n)) (or-not (pointwise nat_eq s t) (texts-decide s t))
same-input (Split m s) (Pieces n t) = inr (λ e. true≢false (ap is-split e))
same-input (Pieces m s) (Split n t) = inr (λ e. true≢false (sym (ap is-split e)))
same-input (Pieces m s) (Pieces n t) = pieces-same m n s t (or-not (nat_eq m n) (numbers-decide m n)) (or-not (pointwise (pointwise nat_eq) s t) (splits-decide s t))

some-is : {A : Type 0} {y z : A} → Some y ≡ Some z → y ≡ z
some-is e = cc

same-lent : (o : Option Input) (x : Input) → (o ≡ Some x) ⊎ (¬ (o ≡ Some x))
same-lent None x = inr (λ e. true≢false (sym (ap is_some e)))
same-lent (Some y) x = by (same-input y x) where
  by : (y ≡ x) ⊎ (¬ (y ≡ x)) → (Some y ≡ Some x) ⊎ (¬ (Some y ≡ Some x))
  by (inl p) = inl (λ i. Some (p i))
  by (inr p) = inr (λ e. p (some-is e))

pub due-or-not : (j : Journal) (d : Done) → IsDue j d ⊎ (¬ IsDue j d)
due-or-not j d = by (same-lent (input_now j d.container) d.input) (or-not (nat_eq d.reduces j.config.reduces) (numbers-decide d.reduces j.config.reduces)) where
  by : (input_now j d.container ≡ Some d.input) ⊎ (¬ (input_now j d.container ≡ Some d.input)) → (d.reduces ≡ j.config.reduces) ⊎ (¬ (d.reduces ≡ j.config.reduces)) → IsDue j d ⊎ (¬ IsDue j d)
  by (inl p) (inl q) = inl (p, q)
  by (inl p) (inr q) = inr (λ due. q due.1)
  by (inr p) q = inr (λ due. p due.0)
