-- What two plays came to, side by side: as many packets were passed over, and the same were sent. Packets that are one stay one.
use Rattle.std.proofs.Common.{ℕ, zero, suc, ◌+◌, ◌-◌, ◌<◌, ◌≡◌, inl, inr, refl, sym, ◌∙◌, ap, subst, append_assoc, arith, Bool, true, false, List, [], ◌∷◌, ◌++◌, drop, take, remove, length, nat_lt, slice_get, Option, Some, None, is_some}
use Rattle.std.proofs.lemmas.Bool.{true≢false, ltb-true, ltb-false}
use Rattle.std.proofs.lemmas.List.{append-nil, drop-append-le}
use Rattle.mr_world_model.specs.Packets.{Config, Envelope}
use Rattle.mr_world_model.specs.World.{Event}
use Rattle.mr_world_alike.specs.Packets.{SamePackets}
use Rattle.mr_play.specs.Played.{Played}
use Rattle.mr_explore_faults.specs.declared.fault.Fault.{Fault}
use Rattle.mr_explore_faults.specs.declared.fault.Fault.TheVariants as fault
use Rattle.mr_explore_likeness.specs.Plays.{IsOnePacket, cluster}
use Rattle.mr_explore_likeness.specs.Owed.{IsOneLater, AreOneLater}

-- ---- lists

pub get-drop : {A : Type 0} (xs : List A) (m i : ℕ) → slice_get xs (m + i) ≡ slice_get (drop m xs) i
get-drop xs zero i = let on : zero + i ≡ i = omega arith in ap (λ k. slice_get xs k) on
get-drop [] (suc m) i = refl
get-drop (x ∷ xs) (suc m) i = let on : suc m + i ≡ suc (m + i) = omega arith in ap (λ k. slice_get (x ∷ xs) k) on ∙ get-drop xs m i

pub get-front : {A : Type 0} (xs ys : List A) (i : ℕ) → i < length xs → slice_get (xs ++ ys) i ≡ slice_get xs i
get-front [] ys i l = absurd (omega arith)
get-front (x ∷ xs) ys zero l = refl
get-front (x ∷ xs) ys (suc i) l = get-front xs ys i (omega arith)

-- ---- what two plays came to

-- Each passed over as many packets more, and was sent the same. These are the events that each had more.
pub record Moves (cfg : Config) (s t s' t' : Played) (es fs : List Event) : Type 0 where
  pub passed : ℕ
  pub here : s'.cursor ≡ s.cursor + passed
  pub there : t'.cursor ≡ t.cursor + passed
  pub added : List Envelope
  pub bag : (cluster cfg s').bag ≡ (cluster cfg s).bag ++ added
  pub bag_there : (cluster cfg t').bag ≡ (cluster cfg t).bag ++ added
  pub events : s'.events ≡ s.events ++ es
  pub events_there : t'.events ≡ t.events ++ fs

pub stay : (cfg : Config) (s t : Played) → Moves cfg s t s t [] []
stay cfg s t = record {
  passed = 0;
  here = omega arith;
  there = omega arith;
  added = [];
  bag = sym (append-nil (cluster cfg s).bag);
  bag_there = sym (append-nil (cluster cfg t).bag);
  events = sym (append-nil s.events);
  events_there = sym (append-nil t.events);
}

pub then-moves : (cfg : Config) (s t a b s' t' : Played) (es fs gs hs : List Event) → Moves cfg s t a b es fs → Moves cfg a b s' t' gs hs → Moves cfg s t s' t' (es ++ gs) (fs ++ hs)
then-moves cfg s t a b s' t' es fs gs hs m n =
    let x = m.here in
    let y = n.here in
    let v = m.there in
    let w = n.there in
    record {
      passed = m.passed + n.passed;
      here = omega (arith, x, y);
      there = omega (arith, v, w);
      added = m.added ++ n.added;
      bag = n.bag ∙ (ap (λ (xs : List Envelope). xs ++ n.added) m.bag ∙ append_assoc (cluster cfg s).bag m.added n.added);
      bag_there = n.bag_there ∙ (ap (λ (xs : List Envelope). xs ++ n.added) m.bag_there ∙ append_assoc (cluster cfg t).bag m.added n.added);
      events = n.events ∙ (ap (λ (xs : List Event). xs ++ gs) m.events ∙ append_assoc s.events es gs);
      events_there = n.events_there ∙ (ap (λ (xs : List Event). xs ++ hs) m.events_there ∙ append_assoc t.events fs hs);
    }

-- ---- packets

module _ (cfg : Config) (s t s' t' : Played) (es fs : List Event) (p : SamePackets (cluster cfg s) (cluster cfg t) s.events t.events s.cursor t.cursor) (m : Moves cfg s t s' t' es fs) where
  -- what lay ahead, and was sent since
  pub ahead-since : drop s.cursor (cluster cfg s').bag ≡ drop t.cursor (cluster cfg t').bag
  ahead-since =
      ap (λ (xs : List Envelope). drop s.cursor xs) m.bag
      ∙ (drop-append-le s.cursor (cluster cfg s).bag m.added p.from
      ∙ (ap (λ (xs : List Envelope). xs ++ m.added) p.ahead
      ∙ (sym (drop-append-le t.cursor (cluster cfg t).bag m.added p.to) ∙ ap (λ (xs : List Envelope). drop t.cursor xs) (sym m.bag_there))))

  pub packets-since : (d : ℕ) → slice_get (cluster cfg s').bag (s.cursor + d) ≡ slice_get (cluster cfg t').bag (t.cursor + d)
  packets-since d = get-drop (cluster cfg s').bag s.cursor d ∙ (ap (λ (xs : List Envelope). slice_get xs d) ahead-since ∙ sym (get-drop (cluster cfg t').bag t.cursor d))

  -- a packet that was passed over
  stays-here : (i : ℕ) → i < s.cursor → slice_get (cluster cfg s').bag i ≡ slice_get (cluster cfg s).bag i
  stays-here i l = let f = p.from in ap (λ (xs : List Envelope). slice_get xs i) m.bag ∙ get-front (cluster cfg s).bag m.added i (omega (arith, l, f))

  stays-there : (i : ℕ) → i < t.cursor → slice_get (cluster cfg t').bag i ≡ slice_get (cluster cfg t).bag i
  stays-there i l = let f = p.to in ap (λ (xs : List Envelope). slice_get xs i) m.bag_there ∙ get-front (cluster cfg t).bag m.added i (omega (arith, l, f))

  pub one-since : (i j : ℕ) → IsOnePacket (cluster cfg s).bag (cluster cfg t).bag s.cursor t.cursor i j → IsOnePacket (cluster cfg s').bag (cluster cfg t').bag s'.cursor t'.cursor i j
  one-since i j (inl o) =
      let x = m.here in
      let y = m.there in
      let a = o.0 in
      let b = o.1 in
      inl (omega (arith, x, a), omega (arith, y, b), stays-here i o.0 ∙ (o.2 ∙ sym (stays-there j o.1)))
  one-since i j (inr o) = by (nat_lt o.0 m.passed) refl
    where
      by : (c : Bool) → nat_lt o.0 m.passed ≡ c → IsOnePacket (cluster cfg s').bag (cluster cfg t').bag s'.cursor t'.cursor i j
      by true e =
          let l = ltb-true o.0 m.passed e in
          let x = m.here in
          let y = m.there in
          let a = o.1 in
          let b = o.2 in
          inl (omega (arith, x, a, l), omega (arith, y, b, l), ap (λ (k : ℕ). slice_get (cluster cfg s').bag k) o.1 ∙ (packets-since o.0 ∙ ap (λ (k : ℕ). slice_get (cluster cfg t').bag k) (sym o.2)))
      by false e =
          let l = ltb-false o.0 m.passed e in
          let x = m.here in
          let y = m.there in
          let a = o.1 in
          let b = o.2 in
          inr (o.0 - m.passed, omega (arith, x, a, l), omega (arith, y, b, l))

  pub later-since : (f g : Fault) → IsOneLater (cluster cfg s).bag (cluster cfg t).bag s.cursor t.cursor f g → IsOneLater (cluster cfg s').bag (cluster cfg t').bag s'.cursor t'.cursor f g
  later-since (fault.Late i) (fault.Late j) o = one-since i j o
  later-since (fault.Late i) g o = absurd o
  later-since fault.Next fault.Next o = tt
  later-since fault.Next g o = absurd o
  later-since f g o = absurd o

  pub laters-since : (o p : List Fault) → AreOneLater (cluster cfg s).bag (cluster cfg t).bag s.cursor t.cursor o p → AreOneLater (cluster cfg s').bag (cluster cfg t').bag s'.cursor t'.cursor o p
  laters-since [] [] a = tt
  laters-since [] (g ∷ gs) a = absurd a
  laters-since (f ∷ fs) [] a = absurd a
  laters-since (f ∷ fs) (g ∷ gs) a = (later-since f g a.0, laters-since fs gs a.1)

-- ---- what was put off, one by one

module _ (xs ys : List Envelope) (m n : ℕ) where
  abbrev Ones : List Fault → List Fault → Type 0
  Ones o p = AreOneLater xs ys m n o p

  pub as-many : (o p : List Fault) → Ones o p → length o ≡ length p
  as-many [] [] a = refl
  as-many [] (g ∷ gs) a = absurd a
  as-many (f ∷ fs) [] a = absurd a
  as-many (f ∷ fs) (g ∷ gs) a = ap suc (as-many fs gs a.1)

  pub both-behind : (o p q r : List Fault) → Ones o p → Ones q r → Ones (o ++ q) (p ++ r)
  both-behind [] [] q r a b = b
  both-behind [] (g ∷ gs) q r a b = absurd a
  both-behind (f ∷ fs) [] q r a b = absurd a
  both-behind (f ∷ fs) (g ∷ gs) q r a b = (a.0, both-behind fs gs q r a.1 b)

  taken : (k : ℕ) (o p : List Fault) → Ones o p → Ones (take k o) (take k p)
  taken zero o p a = tt
  taken (suc k) [] [] a = tt
  taken (suc k) [] (g ∷ gs) a = absurd a
  taken (suc k) (f ∷ fs) [] a = absurd a
  taken (suc k) (f ∷ fs) (g ∷ gs) a = (a.0, taken k fs gs a.1)

  dropped : (k : ℕ) (o p : List Fault) → Ones o p → Ones (drop k o) (drop k p)
  dropped zero o p a = a
  dropped (suc k) [] [] a = tt
  dropped (suc k) [] (g ∷ gs) a = absurd a
  dropped (suc k) (f ∷ fs) [] a = absurd a
  dropped (suc k) (f ∷ fs) (g ∷ gs) a = dropped k fs gs a.1

  pub both-without : (k : ℕ) (o p : List Fault) → Ones o p → Ones (remove o k) (remove p k)
  both-without k o p a = both-behind (take k o) (take k p) (drop (suc k) o) (drop (suc k) p) (taken k o p a) (dropped (suc k) o p a)

  -- the one at a place
  pub record OtherAt (f : Fault) (p : List Fault) (k : ℕ) : Type 0 where
    pub other : Fault
    pub at : slice_get p k ≡ Some other
    pub one : IsOneLater xs ys m n f other

  this-is : (f g : Fault) → Some f ≡ Some g → f ≡ g
  this-is f g q = ap (or-this f) q
    where
      or-this : Fault → Option Fault → Fault
      or-this x None = x
      or-this x (Some y) = y

  pub other-at : (k : ℕ) (o p : List Fault) (f : Fault) → Ones o p → slice_get o k ≡ Some f → OtherAt f p k
  other-at k [] p f a q = absurd (true≢false (ap is_some (sym q)))
  other-at k (g ∷ gs) [] f a q = absurd a
  other-at zero (g ∷ gs) (h ∷ hs) f a q = record { other = h; at = refl; one = subst (λ (z : Fault). IsOneLater xs ys m n z h) (this-is g f q) a.0 }
  other-at (suc k) (g ∷ gs) (h ∷ hs) f a q = let o = other-at k gs hs f a.1 q in record { other = o.other; at = o.at; one = o.one }
