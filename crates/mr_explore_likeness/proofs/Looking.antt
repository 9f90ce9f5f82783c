-- Two alike plays both go on in vain, or neither does, where the look-ahead for it passes a limit in none.
use Rattle.std.proofs.Common.{ℕ, zero, suc, ◌+◌, ◌*◌, ◌-◌, ◌≡◌, refl, sym, ◌∙◌, ap, arith, Bool, true, false, ◌&&◌, ◌||◌, List, [], ◌∷◌, ◌++◌, drop, filter, length, length-append, length-drop, nat_eq, nat_lt, slice_get, Option, Some, None, is_some, if◌then◌else◌}
use Rattle.std.specs.List.{list_all, list_any, range_with_len}
use Rattle.std.proofs.lemmas.Bool.{true≢false, eqb-true, eq-eqb, ltb-true}
use Rattle.std.proofs.Math.Seq.{drop-append_seam}
use Rattle.mr_packet.specs.declared.packet.ContainerId.{ContainerId}
use Rattle.mr_world_model.specs.Packets.{Config, Packet, Address, Envelope, Master, Container, Node}
use Rattle.mr_world_model.specs.World.{World, Event, Deliver}
use Rattle.mr_world_model.specs.Effect.{NoAddressee, addressee, unless}
use Rattle.mr_world_model.specs.Sequential.{Job}
use Rattle.mr_world_alike.specs.Alike.{Alike}
use Rattle.mr_world_shows.proofs.Shown.{show_the_same}
use Rattle.mr_world_state.specs.Limits.{within}
use Rattle.mr_world.specs.Readings.{living}
use Rattle.mr_play.specs.Played.{Played}
use Rattle.mr_explore_faults.specs.Kinds.{is_delivery}
use Rattle.mr_explore.specs.Vain.{all_come, all_wait, ask_behind, asks, comes, count_of, is_asked, is_step, most_ahead, most_packets, only_ask, waits_by}
use Rattle.mr_explore.specs.Faults.{asks_on, calm, goes_in_vain, only_asked, waits_in_vain}
use Rattle.mr_explore_likeness.specs.Plays.{LikePlays, cluster}
use Rattle.mr_explore_likeness.proofs.Asking.{asked-same}
use Rattle.mr_explore_likeness.proofs.Moves.{packets-since}
use Rattle.mr_explore_likeness.proofs.Calms.{AreShifted, CameOn, IsShifted, SameCame, as-many-events, calm-same}

-- ---- tests

and-same : (b c x y : Bool) → b ≡ c → (b ≡ true → x ≡ y) → (b && x) ≡ (c && y)
and-same true c x y p f = f refl ∙ ap (λ (d : Bool). d && y) p
and-same false c x y p f = ap (λ (d : Bool). d && y) p

-- two places are one where they lie as far from another one
pub eq-shift : (m n p q : ℕ) → nat_eq (m + p) (m + q) ≡ nat_eq (n + p) (n + q)
eq-shift m n p q = by (nat_eq (m + p) (m + q)) (nat_eq (n + p) (n + q)) refl refl
  where
    by : (b c : Bool) → nat_eq (m + p) (m + q) ≡ b → nat_eq (n + p) (n + q) ≡ c → b ≡ c
    by true true e f = refl
    by false false e f = refl
    by true false e f =
        let x = eqb-true (m + p) (m + q) e in
        let y : n + p ≡ n + q = omega (arith, x) in
        absurd (true≢false (sym (eq-eqb (n + p) (n + q) y) ∙ f))
    by false true e f =
        let x = eqb-true (n + p) (n + q) f in
        let y : m + p ≡ m + q = omega (arith, x) in
        absurd (true≢false (sym (eq-eqb (m + p) (m + q) y) ∙ e))

no-shorter : (old new : List Event) → nat_lt (length (old ++ new)) (length old) ≡ false
no-shorter old new = by (nat_lt (length (old ++ new)) (length old)) refl
  where
    by : (z : Bool) → nat_lt (length (old ++ new)) (length old) ≡ z → z ≡ false
    by true e = let l = ltb-true (length (old ++ new)) (length old) e in let m = length-append old new in absurd (omega (arith, l, m))
    by false e = refl

-- a test of numbers from a on, and one of numbers from b on
all-in-range : (p q : ℕ → Bool) (a b n : ℕ) → ((d : ℕ) → p (a + d) ≡ q (b + d)) → list_all p (range_with_len a n) ≡ list_all q (range_with_len b n)
all-in-range p q a b zero f = refl
all-in-range p q a b (suc n) f =
    let x : a ≡ a + 0 = omega arith in
    let y : b + 0 ≡ b = omega arith in
    let here : p a ≡ q b = ap p x ∙ (f 0 ∙ ap q y) in
    let rest = all-in-range p q (a + 1) (b + 1) n (λ d. let u : (a + 1) + d ≡ a + suc d = omega arith in let v : b + suc d ≡ (b + 1) + d = omega arith in ap p u ∙ (f (suc d) ∙ ap q v)) in
    λ i. here i && rest i

-- ---- events that are the same

step-is : (m n : ℕ) (e f : Event) → IsShifted m n e f → is_step e ≡ is_step f
step-is m n (Deliver i) (Deliver j) s = refl
step-is m n (Deliver i) f s = absurd s
step-is m n e f s = ap is_step s

counted : (b c : Bool) (e f : Event) (xs ys : List Event) → b ≡ c → length xs ≡ length ys → length (if b then e ∷ xs else xs) ≡ length (if c then f ∷ ys else ys)
counted true true e f xs ys p l = ap suc l
counted false false e f xs ys p l = l
counted true false e f xs ys p l = absurd (true≢false p)
counted false true e f xs ys p l = absurd (true≢false (sym p))

steps-same : (m n : ℕ) (es fs : List Event) → AreShifted m n es fs → length (filter is_step es) ≡ length (filter is_step fs)
steps-same m n [] [] a = refl
steps-same m n [] (f ∷ fs) a = absurd a
steps-same m n (e ∷ es) [] a = absurd a
steps-same m n (e ∷ es) (f ∷ fs) a = counted (is_step e) (is_step f) e f (filter is_step es) (filter is_step fs) (step-is m n e f a.0) (steps-same m n es fs a.1)

delivery-is : (m n q : ℕ) (e f : Event) → IsShifted m n e f → is_delivery (m + q) e ≡ is_delivery (n + q) f
delivery-is m n q (Deliver i) (Deliver j) s = ap (λ (k : ℕ). nat_eq k (m + q)) s.1 ∙ (eq-shift m n s.0 q ∙ ap (λ (k : ℕ). nat_eq k (n + q)) (sym s.2))
delivery-is m n q (Deliver i) f s = absurd s
delivery-is m n q e f s = ap (is_delivery (n + q)) s

deliveries-same : (m n q : ℕ) (es fs : List Event) → AreShifted m n es fs → list_any (is_delivery (m + q)) es ≡ list_any (is_delivery (n + q)) fs
deliveries-same m n q [] [] a = refl
deliveries-same m n q [] (f ∷ fs) a = absurd a
deliveries-same m n q (e ∷ es) [] a = absurd a
deliveries-same m n q (e ∷ es) (f ∷ fs) a = let x = delivery-is m n q e f a.0 in let y = deliveries-same m n q es fs a.1 in λ i. x i || y i

module _ (xs ys : List Envelope) (m n : ℕ) (same : (d : ℕ) → slice_get xs (m + d) ≡ slice_get ys (n + d)) where
  asks-is : (e f : Event) → IsShifted m n e f → asks xs e ≡ asks ys f
  asks-is (Deliver i) (Deliver j) s = ap (λ (k : ℕ). is_asked (slice_get xs k)) s.1 ∙ (ap is_asked (same s.0) ∙ ap (λ (k : ℕ). is_asked (slice_get ys k)) (sym s.2))
  asks-is (Deliver i) f s = absurd s
  asks-is e f s = ap (λ (z : Event). asks ys z) s

  all-ask : (es fs : List Event) → AreShifted m n es fs → list_all (asks xs) es ≡ list_all (asks ys) fs
  all-ask [] [] a = refl
  all-ask [] (f ∷ fs) a = absurd a
  all-ask (e ∷ es) [] a = absurd a
  all-ask (e ∷ es) (f ∷ fs) a = let x = asks-is e f a.0 in let y = all-ask es fs a.1 in λ i. x i && y i

-- ---- packets of alike worlds

to-same-place : (cfg : Config) (w u : World) → Alike cfg w u → (o : Option Envelope) → addressee w o ≡ addressee u o
to-same-place cfg w u e None = refl
to-same-place cfg w u e (Some x) = by x.to x.body
  where
    by : (a : Address) (p : Packet) → addressee w (Some (record { to = a; body = p })) ≡ addressee u (Some (record { to = a; body = p }))
    by (Master k) p = let l = e.is_master k in λ i. unless (l i) NoAddressee None
    by (Container c) p = let l = e.is_alive c in λ i. unless (l i) NoAddressee None
    by (Node n) p = refl

module _ (level : Bool) (job : Job) (cfg : Config) where
  abbrev Like : Played → Played → Type 0
  Like s t = LikePlays level job cfg s t

  abbrev W : Played → World
  W s = cluster cfg s

  -- ---- what a look-ahead finds

  module _ (s t a b : Played) (o : Like s t) (c : CameOn level job cfg s t a b) where
    since : (d : ℕ) → slice_get (W a).bag (s.cursor + d) ≡ slice_get (W b).bag (t.cursor + d)
    since d = packets-since cfg s t a b c.es c.fs o.same.packets c.moves d

    -- how many packets lay ahead
    abbrev ahead : ℕ
    ahead = length (W s).bag - s.cursor

    from-here : length (W s).bag ≡ s.cursor + ahead
    from-here = let f = o.same.packets.from in omega (arith, f)

    from-there : length (W t).bag ≡ t.cursor + ahead
    from-there =
        let f = o.same.packets.from in
        let g = o.same.packets.to in
        let x = length-drop s.cursor (W s).bag in
        let y = length-drop t.cursor (W t).bag in
        let z = ap (λ (xs : List Envelope). length xs) o.same.packets.ahead in
        omega (arith, f, g, x, y, z)

    as-many : length (W a).bag - suc (length (W s).bag) ≡ length (W b).bag - suc (length (W t).bag)
    as-many =
        let m = c.moves in
        let x = ap (λ (xs : List Envelope). length xs) m.bag ∙ length-append (W s).bag m.added in
        let y = ap (λ (xs : List Envelope). length xs) m.bag_there ∙ length-append (W t).bag m.added in
        omega (arith, x, y)

    comes-same : (d : ℕ) → comes (W a) c.es (length (W s).bag + d) ≡ comes (W b) c.fs (length (W t).bag + d)
    comes-same d =
        let x : length (W s).bag + d ≡ s.cursor + (ahead + d) = let h = from-here in omega (arith, h) in
        let y : t.cursor + (ahead + d) ≡ length (W t).bag + d = let h = from-there in omega (arith, h) in
        let del = deliveries-same s.cursor t.cursor (ahead + d) c.es c.fs c.shifted in
        let to : addressee (W a) (slice_get (W a).bag (s.cursor + (ahead + d))) ≡ addressee (W b) (slice_get (W b).bag (t.cursor + (ahead + d))) =
        to-same-place cfg (W a) (W b) c.still.same.alike (slice_get (W a).bag (s.cursor + (ahead + d))) ∙ ap (addressee (W b)) (since (ahead + d)) in
        ap (λ (k : ℕ). comes (W a) c.es k) x ∙ ((λ i. del i || is_some (to i)) ∙ ap (λ (k : ℕ). comes (W b) c.fs k) y)

    come-same : all_come (W a) c.es (length (W s).bag) ≡ all_come (W b) c.fs (length (W t).bag)
    come-same =
        all-in-range (comes (W a) c.es) (comes (W b) c.fs) (length (W s).bag) (length (W t).bag) (length (W a).bag - suc (length (W s).bag)) comes-same
        ∙ ap (λ (n : ℕ). list_all (comes (W b) c.fs) (range_with_len (length (W t).bag) n)) as-many

    only-same : (cs : List ContainerId) → only_ask cs (length (W s).bag) (W a) c.es ≡ only_ask cs (length (W t).bag) (W b) c.fs
    only-same cs =
        let x = steps-same s.cursor t.cursor c.es c.fs c.shifted in
        let y = all-ask (W a).bag (W b).bag s.cursor t.cursor since c.es c.fs c.shifted in
        let z = come-same in
        λ i. nat_lt (2 * count_of cs) (x i) && (y i && z i)

    -- behind the events that were there
    behind-is : (cs : List ContainerId) (sent : ℕ) (w : World) (old new all : List Event) → all ≡ old ++ new → ask_behind cs (length old) sent w all ≡ (nat_eq (length new) (most_ahead cs) && only_ask cs sent w new)
    behind-is cs sent w old new all e =
        ap (λ (xs : List Event). ask_behind cs (length old) sent w xs) e
        ∙ (ap (λ (z : Bool). if z then false else (nat_eq (length (drop (length old) (old ++ new))) (most_ahead cs) && only_ask cs sent w (drop (length old) (old ++ new)))) (no-shorter old new)
        ∙ ap (λ (xs : List Event). nat_eq (length xs) (most_ahead cs) && only_ask cs sent w xs) (drop-append_seam old new))

    looks-same : (cs : List ContainerId) → ask_behind cs (length s.events) (length (W s).bag) (W a) a.events ≡ ask_behind cs (length t.events) (length (W t).bag) (W b) b.events
    looks-same cs =
        let m = c.moves in
        let l = as-many-events s.cursor t.cursor c.es c.fs c.shifted in
        let x = only-same cs in
        behind-is cs (length (W s).bag) (W a) s.events c.es a.events m.events
        ∙ ((λ i. nat_eq (l i) (most_ahead cs) && x i) ∙ sym (behind-is cs (length (W t).bag) (W b) t.events c.fs b.events m.events_there))

  -- ---- who waits

  pub wait-same : (s t : Played) → Like s t → (cs : List ContainerId) → all_wait cfg (W s) cs ≡ all_wait cfg (W t) cs
  wait-same s t o cs =
      let shown = show_the_same cfg (within cfg) s.events t.events o.same.alike in
      let x = asked-same (most_packets cs) (W s).bag (W t).bag o.asking in
      λ i. nat_lt 0 (length cs) && (x i && list_all (λ c. waits_by (shown.wishes c i)) cs)

  -- the look-ahead of the first passes no limit, or both are as near to each
  abbrev pub LooksOn : Played → Type 0
  LooksOn s = all_wait cfg (W s) (living cfg (W s)) ≡ true → calm job cfg (within cfg) (most_ahead (living cfg (W s))) s ≡ None → level ≡ true

  asks-same : (s t : Played) → Like s t → (cs : List ContainerId) → (calm job cfg (within cfg) (most_ahead cs) s ≡ None → level ≡ true) → asks_on job cfg (within cfg) cs s ≡ asks_on job cfg (within cfg) cs t
  asks-same s t o cs f = by (calm job cfg (within cfg) (most_ahead cs) s) (calm job cfg (within cfg) (most_ahead cs) t) (calm-same level job cfg (most_ahead cs) s t o) f
    where
      by : (x y : Option Played) → SameCame level job cfg s t x y → (x ≡ None → level ≡ true) → only_asked job cfg (within cfg) cs (length s.events) (length (W s).bag) x ≡ only_asked job cfg (within cfg) cs (length t.events) (length (W t).bag) y
      by None None c f = refl
      by None (Some b) c f = absurd (c (f refl))
      by (Some a) None c f = absurd c
      by (Some a) (Some b) c f = looks-same s t a b o c cs

  pub vain-same : (s t : Played) → Like s t → LooksOn s → goes_in_vain job cfg (within cfg) s ≡ goes_in_vain job cfg (within cfg) t
  vain-same s t o f =
      let shown = show_the_same cfg (within cfg) s.events t.events o.same.alike in
      let cs = living cfg (W s) in
      and-same (all_wait cfg (W s) cs) (all_wait cfg (W t) cs) (asks_on job cfg (within cfg) cs s) (asks_on job cfg (within cfg) cs t) (wait-same s t o cs) (λ w. asks-same s t o cs (f w))
      ∙ ap (λ (ds : List ContainerId). waits_in_vain job cfg (within cfg) ds t) shown.lives
