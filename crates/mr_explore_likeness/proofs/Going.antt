-- How two alike plays go on by themselves: by the same event, or both have ended, or both would pass a limit.
use Rattle.std.proofs.Common.{ℕ, ◌+◌, ◌<◌, ◌≡◌, refl, sym, ◌∙◌, ap, subst, arith, Bool, true, false, List, [], ◌∷◌, ◌++◌, length, length-append, nat_lt, slice_get, Option, Some, None, if◌then◌else◌}
use Rattle.std.proofs.lemmas.Bool.{true≢false, ltb-true, lt-ltb}
use Rattle.mr_world_model.specs.Packets.{Config}
use Rattle.mr_world_model.specs.World.{Event}
use Rattle.mr_world_model.specs.Sequential.{Job}
use Rattle.mr_world_state.specs.Limits.{within}
use Rattle.mr_play.specs.Played.{Played}
use Rattle.mr_explore_search.specs.Steps.{Onward, Goes, Ends, Full}
use Rattle.mr_explore.specs.Faults.{calm, goes_in_vain, last_of, onward, onward_by}
use Rattle.mr_explore_likeness.specs.Plays.{LikePlays}
use Rattle.mr_explore_likeness.proofs.Calms.{AreShifted, CameOn, IsShifted, SameCame, as-many-events, calm-same, came-itself}
use Rattle.mr_explore_likeness.proofs.Looking.{LooksOn, vain-same}

-- behind the events that were there comes the first new one
first-new : (old new all : List Event) → all ≡ old ++ new → slice_get all (length old) ≡ slice_get new 0
first-new old new all e = ap (λ (xs : List Event). slice_get xs (length old)) e ∙ at old
  where
    at : (xs : List Event) → slice_get (xs ++ new) (length xs) ≡ slice_get new 0
    at [] = refl
    at (x ∷ xs) = at xs

-- the same event, or none
abbrev pub SameNextEvent : ℕ → ℕ → Option Event → Option Event → Type 0
SameNextEvent m n None None = Unit {0}
SameNextEvent m n None (Some f) = ⊥
SameNextEvent m n (Some e) None = ⊥
SameNextEvent m n (Some e) (Some f) = IsShifted m n e f

first-same : (m n : ℕ) (es fs : List Event) → AreShifted m n es fs → SameNextEvent m n (slice_get es 0) (slice_get fs 0)
first-same m n [] [] a = tt
first-same m n [] (f ∷ fs) a = absurd a
first-same m n (e ∷ es) [] a = absurd a
first-same m n (e ∷ es) (f ∷ fs) a = a.0

more-or-not : (m n a b : ℕ) → a ≡ b → nat_lt m (m + a) ≡ nat_lt n (n + b)
more-or-not m n a b e = by (nat_lt m (m + a)) (nat_lt n (n + b)) refl refl
  where
    by : (x y : Bool) → nat_lt m (m + a) ≡ x → nat_lt n (n + b) ≡ y → x ≡ y
    by true true p q = refl
    by false false p q = refl
    by true false p q = let l = ltb-true m (m + a) p in absurd (true≢false (sym (lt-ltb n (n + b) (omega (arith, l, e))) ∙ q))
    by false true p q = let l = ltb-true n (n + b) q in absurd (true≢false (sym (lt-ltb m (m + a) (omega (arith, l, e))) ∙ p))

module _ (level : Bool) (job : Job) (cfg : Config) where
  abbrev Like : Played → Played → Type 0
  Like s t = LikePlays level job cfg s t

  -- both made events
  pub record WentOn (s t s' t' : Played) : Type 0 where
    pub came : CameOn level job cfg s t s' t'
    pub more : length s.events < length s'.events
    pub more_there : length t.events < length t'.events

  abbrev pub SameOnward : Played → Played → Onward Played → Onward Played → Type 0
  SameOnward s t (Goes x) (Goes y) = WentOn s t x y
  SameOnward s t (Ends x) (Ends y) = CameOn level job cfg s t x y
  SameOnward s t Full Full = Unit {0}
  SameOnward s t Full y = level ≡ true → ⊥
  SameOnward s t x y = ⊥

  as-long : (s t x y : Played) → CameOn level job cfg s t x y → nat_lt (length s.events) (length x.events) ≡ nat_lt (length t.events) (length y.events)
  as-long s t x y c =
      let m = c.moves in
      let a : length x.events ≡ length s.events + length c.es = ap (λ (xs : List Event). length xs) m.events ∙ length-append s.events c.es in
      let b : length t.events + length c.fs ≡ length y.events = sym (ap (λ (xs : List Event). length xs) m.events_there ∙ length-append t.events c.fs) in
      let l = as-many-events s.cursor t.cursor c.es c.fs c.shifted in
      ap (λ (n : ℕ). nat_lt (length s.events) n) a ∙ (more-or-not (length s.events) (length t.events) (length c.es) (length c.fs) l ∙ ap (λ (n : ℕ). nat_lt (length t.events) n) b)

  by-calm : (s t : Played) (x y : Option Played) → SameCame level job cfg s t x y → SameOnward s t (onward_by s x) (onward_by t y)
  by-calm s t None None c = tt
  by-calm s t None (Some y) c = by (nat_lt (length t.events) (length y.events))
    where
      by : (b : Bool) → SameOnward s t Full (if b then Goes y else Ends y)
      by true = c
      by false = c
  by-calm s t (Some x) None c = absurd c
  by-calm s t (Some x) (Some y) c = by (nat_lt (length s.events) (length x.events)) (nat_lt (length t.events) (length y.events)) refl refl (as-long s t x y c)
    where
      by : (a b : Bool) → nat_lt (length s.events) (length x.events) ≡ a → nat_lt (length t.events) (length y.events) ≡ b → a ≡ b → SameOnward s t (if a then Goes x else Ends x) (if b then Goes y else Ends y)
      by true true p q e = record { came = c; more = ltb-true (length s.events) (length x.events) p; more_there = ltb-true (length t.events) (length y.events) q }
      by false false p q e = c
      by true false p q e = absurd (true≢false e)
      by false true p q e = absurd (true≢false (sym e))

  pub onward-same : (s t : Played) → Like s t → LooksOn level job cfg s → SameOnward s t (onward job cfg (within cfg) false s) (onward job cfg (within cfg) false t)
  onward-same s t o f = by (goes_in_vain job cfg (within cfg) s) (goes_in_vain job cfg (within cfg) t) (vain-same level job cfg s t o f)
    where
      by : (b c : Bool) → b ≡ c → SameOnward s t (if b then Ends s else onward_by s (calm job cfg (within cfg) 1 s)) (if c then Ends t else onward_by t (calm job cfg (within cfg) 1 t))
      by true true e = came-itself level job cfg s t o
      by false false e = by-calm s t (calm job cfg (within cfg) 1 s) (calm job cfg (within cfg) 1 t) (calm-same level job cfg 1 s t o)
      by true false e = absurd (true≢false e)
      by false true e = absurd (true≢false (sym e))

  -- ---- the event that comes next

  next-of-both : (s t x y : Played) → CameOn level job cfg s t x y → SameNextEvent s.cursor t.cursor (slice_get x.events (length s.events)) (slice_get y.events (length t.events))
  next-of-both s t x y c =
      let m = c.moves in
      let P : Option Event → Type 0 = λ e. SameNextEvent s.cursor t.cursor e (slice_get y.events (length t.events)) in
      let Q : Option Event → Type 0 = λ f. SameNextEvent s.cursor t.cursor (slice_get c.es 0) f in
      subst P (sym (first-new s.events c.es x.events m.events)) (subst Q (sym (first-new t.events c.fs y.events m.events_there)) (first-same s.cursor t.cursor c.es c.fs c.shifted))

  pub next-same : (s t : Played) (x y : Onward Played) → SameOnward s t x y → (x ≡ Full → level ≡ true) → SameNextEvent s.cursor t.cursor (last_of job cfg (within cfg) (length s.events) x) (last_of job cfg (within cfg) (length t.events) y)
  next-same s t (Goes x) (Goes y) w f = next-of-both s t x y w.came
  next-same s t (Goes x) (Ends y) w f = absurd w
  next-same s t (Goes x) Full w f = absurd w
  next-same s t (Ends x) (Ends y) w f = tt
  next-same s t (Ends x) (Goes y) w f = absurd w
  next-same s t (Ends x) Full w f = absurd w
  next-same s t Full Full w f = tt
  next-same s t Full (Goes y) w f = absurd (w (f refl))
  next-same s t Full (Ends y) w f = absurd (w (f refl))
