-- Packets that are the same stay so.
use Rattle.std.proofs.Common.{ℕ, zero, suc, ◌+◌, ◌≤◌, ◌<◌, ◌≡◌, ◌⊎◌, inl, inr, refl, sym, ◌∙◌, ap, subst, arith, is_some, List, [], ◌∷◌, ◌++◌, Option, Some, None, drop, length, length-append, length-drop, slice_get}
use Rattle.std.proofs.lemmas.Bool.{true≢false}
use Rattle.std.proofs.lemmas.List.{drop-append-le, drop-drop}
use Rattle.std.proofs.lemmas.Option.{slice_get_within}
use Rattle.mr_world_model.specs.Packets.{Config, Envelope}
use Rattle.mr_world_model.specs.World.{World, Event, Deliver}
use Rattle.mr_world_model.specs.Sending.{sent}
use Rattle.mr_world_model.specs.Effect.{addressee, effect, not_now}
use Rattle.mr_world_model.specs.Claims.{In}
use Rattle.mr_world_model.proofs.Lists.{In-left, In-right, In-parts}
use Rattle.mr_world_alike.specs.Alike.{IsSame}
use Rattle.mr_world_alike.specs.Packets.{WasDelivered, AreSent, SamePackets, PacketsStayTheSame}

get-drop : {A : Type 0} (xs : List A) (m i : ℕ) → slice_get xs (m + i) ≡ slice_get (drop m xs) i
get-drop xs zero i = let on : zero + i ≡ i = omega arith in ap (λ k. slice_get xs k) on
get-drop [] (suc m) i = refl
get-drop (x ∷ xs) (suc m) i = let on : suc m + i ≡ suc (m + i) = omega arith in ap (λ k. slice_get (x ∷ xs) k) on ∙ get-drop xs m i

get-front : {A : Type 0} (xs ys : List A) (i : ℕ) → i < length xs → slice_get (xs ++ ys) i ≡ slice_get xs i
get-front [] ys i l = absurd (omega arith)
get-front (x ∷ xs) ys zero l = refl
get-front (x ∷ xs) ys (suc i) l = get-front xs ys i (omega arith)

-- a delivery that is permitted finds its packet
finds : (cfg : Config) (w : World) (i : ℕ) → not_now cfg w (Deliver i) ≡ None → i < length w.bag
unfolding not_now
finds cfg w i now = by (slice_get w.bag i) refl
  where
    by : (o : Option Envelope) → slice_get w.bag i ≡ o → i < length w.bag
    by None q = absurd (true≢false (ap is_some (sym (ap (addressee w) q) ∙ now)))
    by (Some x) q = slice_get_within w.bag i x q

module _ (cfg : Config) (w u : World) (es fs : List Event) (m n : ℕ) (x y : Event) (p : SamePackets w u es fs m n) (same : IsSame w u x y) (now : not_now cfg w x ≡ None) (sends : sent cfg w x ≡ sent cfg u y) where
  ahead-after : drop m (w.bag ++ sent cfg w x) ≡ drop n (u.bag ++ sent cfg u y)
  ahead-after = drop-append-le m w.bag (sent cfg w x) p.from ∙ ((λ i. p.ahead i ++ sends i) ∙ sym (drop-append-le n u.bag (sent cfg u y) p.to))

  longer : (i : ℕ) → i < length w.bag → i < length (w.bag ++ sent cfg w x)
  longer i l = let e = length-append w.bag (sent cfg w x) in omega (arith, e, l)

  -- it is this event that delivers it
  here : (i : ℕ) → x ≡ Deliver i → i < length w.bag
  here i q = finds cfg w i (subst (λ (z : Event). not_now cfg w z ≡ None) q now)

  are-sent-after : AreSent (effect cfg w x) (es ++ x ∷ [])
  are-sent-after i d = longer i (by (In-parts (Deliver i) es (x ∷ []) d))
    where
      by : In (Deliver i) es ⊎ In (Deliver i) (x ∷ []) → i < length w.bag
      by (inl o) = p.are_sent i o
      by (inr (inl q)) = here i q
      by (inr (inr o)) = absurd o

  -- the other delivers the same
  other : (i : ℕ) (z : Envelope) → x ≡ Deliver i → slice_get w.bag i ≡ Some z → WasDelivered (effect cfg u y) (fs ++ y ∷ []) z
  other i z q g = by y refl (subst (λ (v : Event). IsSame w u v y) q same)
    where
      by : (v : Event) → y ≡ v → IsSame w u (Deliver i) v → WasDelivered (effect cfg u y) (fs ++ y ∷ []) z
      by (Deliver j) r s =
          let at : slice_get u.bag j ≡ Some z = sym s ∙ g in
          (j, In-right (Deliver j) fs (y ∷ []) (inl r), get-front u.bag (sent cfg u y) j (slice_get_within u.bag j z at) ∙ at)
      by v r s = absurd s

  delivered-after : (z : Envelope) → WasDelivered (effect cfg w x) (es ++ x ∷ []) z → WasDelivered (effect cfg u y) (fs ++ y ∷ []) z
  delivered-after z d = by (In-parts (Deliver d.0) es (x ∷ []) d.1)
    where
      before : d.0 < length w.bag → slice_get w.bag d.0 ≡ Some z
      before l = sym (get-front w.bag (sent cfg w x) d.0 l) ∙ d.2

      by : In (Deliver d.0) es ⊎ In (Deliver d.0) (x ∷ []) → WasDelivered (effect cfg u y) (fs ++ y ∷ []) z
      by (inl o) =
          let v = p.delivered z (d.0, o, before (p.are_sent d.0 o)) in
          (v.0, In-left (Deliver v.0) fs (y ∷ []) v.1, get-front u.bag (sent cfg u y) v.0 (slice_get_within u.bag v.0 z v.2) ∙ v.2)
      by (inr (inl q)) = other d.0 z q (before (here d.0 q))
      by (inr (inr o)) = absurd o

  after : SamePackets (effect cfg w x) (effect cfg u y) (es ++ x ∷ []) (fs ++ y ∷ []) m n
  after = record {
    from = let e = length-append w.bag (sent cfg w x) in let f = p.from in omega (arith, e, f);
    to = let e = length-append u.bag (sent cfg u y) in let f = p.to in omega (arith, e, f);
    ahead = ahead-after;
    are_sent = are-sent-after;
    delivered = delivered-after;
  }

passed : (w u : World) (es fs : List Event) (m n i : ℕ) → SamePackets w u es fs m n → m + i ≤ length w.bag → SamePackets w u es fs (m + i) (n + i)
passed w u es fs m n i p l =
    let lengths : length (drop m w.bag) ≡ length (drop n u.bag) = ap (λ (xs : List Envelope). length xs) p.ahead in
    let a = length-drop m w.bag in
    let b = length-drop n u.bag in
    let f = p.from in
    let t = p.to in
    record {
      from = l;
      to = omega (arith, lengths, a, b, f, t, l);
      ahead = sym (drop-drop i m w.bag) ∙ (ap (λ (xs : List Envelope). drop i xs) p.ahead ∙ drop-drop i n u.bag);
      are_sent = p.are_sent;
      delivered = p.delivered;
    }

again : (w u : World) (es fs : List Event) (m n i : ℕ) → SamePackets w u es fs m n → In (Deliver i) es → (j : ℕ) × In (Deliver j) fs × IsSame w u (Deliver i) (Deliver j)
again w u es fs m n i p d = by (slice_get w.bag i) refl
  where
    by : (o : Option Envelope) → slice_get w.bag i ≡ o → (j : ℕ) × In (Deliver j) fs × IsSame w u (Deliver i) (Deliver j)
    by (Some z) q = let v = p.delivered z (i, d, q) in (v.0, v.1, q ∙ sym v.2)
    by None q = absurd (gone w.bag i q (p.are_sent i d))
      where
        gone : (xs : List Envelope) (k : ℕ) → slice_get xs k ≡ None → k < length xs → ⊥
        gone [] k q l = omega arith
        gone (x ∷ xs) zero q l = true≢false (ap is_some q)
        gone (x ∷ xs) (suc k) q l = gone xs k q (omega arith)

pub packets_stay : PacketsStayTheSame
packets_stay = record {
  after = λ cfg w u es fs m n x y p same now sends. after cfg w u es fs m n x y p same now sends;
  passed = passed;
  comes = λ w u es fs m n i p. get-drop w.bag m i ∙ (ap (λ (xs : List Envelope). slice_get xs i) p.ahead ∙ sym (get-drop u.bag n i));
  again = again;
}
