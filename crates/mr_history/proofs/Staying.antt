-- What holds of a history stays, and a sealed segment never changes.
use Rattle.std.proofs.Common.{◌≡◌, ◌≢◌, ◌<◌, ◌≤◌, ◌+◌, ◌-◌, ℕ, zero, suc, Bool, true, false, cond, nat_eq, nat_lt, List, [], ◌∷◌, ◌++◌, length, take, drop, map, set, get_or, replicate, Option, Some, None, refl, sym, ap, ap₂, append-nil, ◌∙◌, arith, subst, inl, inr, true≢false}
use Rattle.std.specs.List.{AllByRecursion}
use Rattle.std.proofs.lemmas.Bool.{cases_lt}
use Rattle.std.proofs.lemmas.List.{length-set}
use Rattle.std.proofs.lemmas.Bool.Decides.{nat_tests}
use Rattle.mr_history.specs.declared.fault.HistoryFault.{HistoryFault}
use Rattle.mr_history.specs.declared.fault.HistoryFault.TheVariants.{Superseded, Sealed}
use Rattle.mr_history.specs.State.{SegmentState, State}
use Rattle.mr_history.specs.Line.{width, as_written, IsVersion}
use Rattle.mr_history.specs.Segment.{fresh, appended, flushed, sealed, first_of, flush_refusal, IsSound}
use Rattle.mr_history.specs.Calls.{Call, Append, Flush, Read, segment, with_segment, with_version, sealed_at, raised, refused, refusal, effect, settled, call_of, records_in, records_before, AreUnraised}
use Rattle.mr_history.specs.Laws.{IsHistory, Change, Calls, Seals, Raises, after, IsCall, IsChange}
use Rattle.mr_history.proofs.Segments.{sound_fresh, sound_appended, sound_flushed, sound_sealed, sealed_stays, not_sealed}
use Rattle.mr_history.proofs.Histories.{named, others, raised-above, raised-below, segment-raised, length-raised}

-- ---- lists of sound segments

all_replicate : (n : ℕ) → AllByRecursion IsSound (replicate n (fresh 1))
all_replicate zero = tt
all_replicate (suc n) = (sound_fresh 1 (omega arith, omega arith), all_replicate n)

all_set : (xs : List SegmentState) (i : ℕ) (s : SegmentState) → AllByRecursion IsSound xs → IsSound s → AllByRecursion IsSound (set xs i s)
all_set [] i s h k = tt
all_set (x ∷ xs) zero s h k = (k, h.1)
all_set (x ∷ xs) (suc i) s h k = (h.0, all_set xs i s h.1 k)

all_get : (xs : List SegmentState) (i : ℕ) → AllByRecursion IsSound xs → IsSound (get_or xs i (fresh 1))
all_get [] i h = sound_fresh 1 (omega arith, omega arith)
all_get (x ∷ xs) zero h = h.0
all_get (x ∷ xs) (suc i) h = all_get xs i h.1

all_sealed : (kept : ℕ) (xs : List SegmentState) (n : ℕ) → AllByRecursion IsSound xs → AllByRecursion IsSound (map (sealed kept) (take n xs) ++ drop n xs)
all_sealed kept [] zero h = tt
all_sealed kept [] (suc n) h = tt
all_sealed kept (x ∷ xs) zero h = h
all_sealed kept (x ∷ xs) (suc n) h = (sound_sealed x kept h.0, all_sealed kept xs n h.1)

-- those from n on are not sealed
get_or-behind : (f : SegmentState → SegmentState) (xs : List SegmentState) (n i : ℕ) (d : SegmentState) → n ≤ i → get_or (map f (take n xs) ++ drop n xs) i d ≡ get_or xs i d
get_or-behind f [] zero i d h = refl
get_or-behind f [] (suc n) i d h = refl
get_or-behind f (x ∷ xs) zero i d h = refl
get_or-behind f (x ∷ xs) (suc n) zero d h = absurd (omega arith)
get_or-behind f (x ∷ xs) (suc n) (suc i) d h = get_or-behind f xs n i d (omega arith)

get_or-replicate : (n i : ℕ) → get_or (replicate n (fresh 1)) i (fresh 1) ≡ fresh 1
get_or-replicate zero i = refl
get_or-replicate (suc n) zero = refl
get_or-replicate (suc n) (suc i) = get_or-replicate n i

length-replicate : {A : Type 0} (n : ℕ) (x : A) → length (replicate n x) ≡ n
length-replicate zero x = refl
length-replicate (suc n) x = ap suc (length-replicate n x)

pub history_new : IsHistory (record { segments = replicate 1000 (fresh 1); fence = 0 })
history_new = record {
  count = length-replicate 1000 (fresh 1);
  bound = omega arith;
  sound = all_replicate 1000;
  older = λ k some below. absurd (omega arith);
  unraised = λ k above. get_or-replicate 1000 (k - 1);
}

pub segment_sound : (h : State) (k : ℕ) → IsHistory h → IsSound (segment h k)
segment_sound h k is = all_get h.segments (k - 1) is.sound

-- a segment that is not above the fence is changed, and where it is below it is sealed afterwards, too
changed_one : (h : State) (k : ℕ) (s : SegmentState) → IsHistory h → 1 ≤ k → k ≤ h.fence → IsSound s → (k < h.fence → s.is_sealed ≡ true) → IsHistory (with_segment h k s)
changed_one h k s is low high sound shut = record {
  count = length-set h.segments (k - 1) s ∙ is.count;
  bound = is.bound;
  sound = all_set h.segments (k - 1) s is.sound sound;
  older = λ j some below. by j some below (nat_eq j k) refl;
  unraised = λ j above. let apart : j ≢ k = (λ e. omega arith) in let some : 1 ≤ j = omega arith in others h j k s some low apart ∙ is.unraised j above;
}
  where
    by : (j : ℕ) → 1 ≤ j → j < h.fence → (b : Bool) → nat_eq j k ≡ b → (segment (with_segment h k s) j).is_sealed ≡ true
    by j some below true e =
        let is_k : j ≡ k = grind (arith, nat_tests) in
        let own : k < h.fence = omega arith in
        let inside : k ≤ length h.segments = let c = is.count in let b = is.bound in omega arith in
        ap (λ n. (segment (with_segment h k s) n).is_sealed) is_k ∙ ap (λ (x : SegmentState). x.is_sealed) (named h k s low inside) ∙ shut own
    by j some below false e = let apart : j ≢ k = grind (arith, nat_tests) in ap (λ (x : SegmentState). x.is_sealed) (others h j k s some low apart) ∙ is.older j some below

-- what is not refused for the fence is refused for the segment or not at all
not_below : (b : Bool) (f : HistoryFault) (o : Option HistoryFault) → cond b (Some f) o ≡ None → (b ≡ false) × (o ≡ None)
not_below true f o e = absurd (cc)
not_below false f o e = (refl, e)

flush_open : (s : SegmentState) → flush_refusal s ≡ None → s.is_sealed ≡ false
flush_open s e = by s.is_sealed e
  where
    by : (b : Bool) → first_of ((b, Sealed) ∷ []) ≡ None → b ≡ false
    by false e = refl
    by true e = absurd (cc)

-- an append or a flush that is not refused is of an open segment, which is not below the fence
not_refused : (h : State) (k : ℕ) (call : Call) → refused h k call ≡ None → (nat_lt k h.fence ≡ false) × (refusal (segment h k) call ≡ None)
not_refused h k call e = not_below (nat_lt k h.fence) (Superseded h.fence) (refusal (segment h k) call) e

effect_history : (h : State) (k : ℕ) (call : Call) → IsHistory h → 1 ≤ k → k ≤ h.fence → IsCall (segment h k) call → nat_lt k h.fence ≡ false → refusal (segment h k) call ≡ None → IsHistory (effect h k call)
effect_history h k (Append r) is low high may newest e =
    let s = segment h k in
    changed_one h k (appended r s) is low high (sound_appended s r (segment_sound h k is) e may.0 may.1) (λ below. absurd (let f : nat_lt k h.fence ≡ true = grind (arith, nat_tests) in true≢false (sym f ∙ newest)))
effect_history h k Flush is low high may newest e =
    let s = segment h k in
    changed_one h k (flushed s) is low high (sound_flushed s (segment_sound h k is) (flush_open s e)) (λ below. absurd (let f : nat_lt k h.fence ≡ true = grind (arith, nat_tests) in true≢false (sym f ∙ newest)))
effect_history h k Read is low high may newest e = is

history_call : (h : State) (k : ℕ) (call : Call) → IsHistory h → 1 ≤ k → k ≤ h.fence → IsCall (segment h k) call → IsHistory (call_of h k call).1
history_call h k call is low high may = by (refused h k call) refl
  where
    by : (o : Option HistoryFault) → refused h k call ≡ o → IsHistory (settled o h k call).1
    by None e = let n = not_refused h k call e in effect_history h k call is low high may n.0 n.1
    by (Some f) e = is

is_sealed : (kept : ℕ) (s : SegmentState) → (sealed kept s).is_sealed ≡ true
is_sealed kept s = by s.is_sealed refl
  where
    by : (b : Bool) → s.is_sealed ≡ b → (cond b s (record { version = s.version; stable = s.stable ++ take kept s.tail; tail = []; is_sealed = true })).is_sealed ≡ true
    by true e = e
    by false e = refl

history_sealed : (h : State) (k kept : ℕ) → IsHistory h → 1 ≤ k → k ≤ h.fence → IsHistory (sealed_at k kept h)
history_sealed h k kept is low high = changed_one h k (sealed kept (segment h k)) is low high (sound_sealed (segment h k) kept (segment_sound h k is)) (λ below. is_sealed kept (segment h k))

older_raised : (h : State) (j k kept version : ℕ) → IsHistory h → k ≤ 1000 → h.fence < k → 1 ≤ j → j < k → (segment (raised k kept version h) j).is_sealed ≡ true
older_raised h j k kept version is high above some below =
    let inside : j ≤ length h.segments = let c = is.count in omega arith in
    let apart : nat_eq j k ≡ false = grind (arith, nat_tests) in
    let lower : nat_lt j k ≡ true = grind (arith, nat_tests) in
    let s = segment h j in
    let e : cond (nat_eq j k) (with_version version s) (cond (nat_lt j k) (sealed kept s) s) ≡ sealed kept s = ap (λ b. cond b (with_version version s) (cond (nat_lt j k) (sealed kept s) s)) apart ∙ ap (λ b. cond b (sealed kept s) s) lower in
    ap (λ (x : SegmentState). x.is_sealed) (segment-raised h j k kept version some inside above ∙ e) ∙ is_sealed kept s

raised_above : (h : State) (k kept version : ℕ) → IsHistory h → k ≤ 1000 → IsVersion version → h.fence < k → IsHistory (raised k kept version h)
raised_above h k kept version is high two above =
    let begun = with_version version (segment h k) in
    let some : 1 ≤ k = omega arith in
    let sound : IsSound begun = subst (λ s. IsSound (with_version version s)) (sym (is.unraised k above)) (sound_fresh version two) in
    let front : State = record { segments = map (sealed kept) (take (k - 1) h.segments) ++ drop (k - 1) h.segments; fence = k } in
    let e = raised-above h k kept version above in
    subst IsHistory (sym e) (record {
      count = ap (λ (x : State). length x.segments) (sym e) ∙ length-raised h k kept version ∙ is.count;
      bound = high;
      sound = all_set front.segments (k - 1) begun (all_sealed kept h.segments (k - 1) is.sound) sound;
      older = λ j low below. ap (λ x. (segment x j).is_sealed) (sym e) ∙ older_raised h j k kept version is high above low below;
      unraised = λ j higher.
          let apart : j ≢ k = (λ e. omega arith) in
          let low : 1 ≤ j = omega arith in
          let behind : k - 1 ≤ j - 1 = omega arith in
          let over : h.fence < j = omega arith in
          others front j k begun low some apart ∙ get_or-behind (sealed kept) h.segments (k - 1) (j - 1) (fresh 1) behind ∙ is.unraised j over;
    })

history_raised : (h : State) (k kept version : ℕ) → IsHistory h → k ≤ 1000 → IsVersion version → IsHistory (raised k kept version h)
history_raised h k kept version is high two = elim (cases_lt h.fence k) [
  | inl above ↦ raised_above h k kept version is high two above
  | inr below ↦ subst IsHistory (sym (raised-below h k kept version below)) is
]

pub history_after : (h : State) (c : Change) → IsHistory h → IsChange h c → IsHistory (after h c)
history_after h (Calls k call) is may = history_call h k call is may.0 may.1 may.2
history_after h (Seals k kept) is may = history_sealed h k kept is may.0 may.1
history_after h (Raises k kept version) is may = history_raised h k kept version is may.1 may.2

-- ---- a sealed segment

own_set : (xs : List SegmentState) (i : ℕ) (d : SegmentState) → get_or (set xs i (get_or xs i d)) i d ≡ get_or xs i d
own_set [] i d = refl
own_set (x ∷ xs) zero d = refl
own_set (x ∷ xs) (suc i) d = own_set xs i d

-- a segment that a change leaves as it is stays where others are changed
get_or-fixed : (f : SegmentState → SegmentState) (xs : List SegmentState) (n i : ℕ) (d : SegmentState) → f (get_or xs i d) ≡ get_or xs i d → get_or (map f (take n xs) ++ drop n xs) i d ≡ get_or xs i d
get_or-fixed f [] zero i d e = refl
get_or-fixed f [] (suc n) i d e = refl
get_or-fixed f (x ∷ xs) zero i d e = refl
get_or-fixed f (x ∷ xs) (suc n) zero d e = e
get_or-fixed f (x ∷ xs) (suc n) (suc i) d e = get_or-fixed f xs n i d e

-- a change of another segment, or one of an open one
open_changed : (h : State) (j k : ℕ) (s : SegmentState) → 1 ≤ j → 1 ≤ k → (segment h j).is_sealed ≡ true → (segment h k).is_sealed ≡ false → segment (with_segment h k s) j ≡ segment h j
open_changed h j k s lj lk shut free = others h j k s lj lk (λ e. true≢false (sym shut ∙ ap (λ n. (segment h n).is_sealed) e ∙ free))

effect_sealed : (h : State) (j k : ℕ) (call : Call) → 1 ≤ j → 1 ≤ k → (segment h j).is_sealed ≡ true → refusal (segment h k) call ≡ None → segment (effect h k call) j ≡ segment h j
effect_sealed h j k (Append r) lj lk shut e = let s = segment h k in open_changed h j k (appended r s) lj lk shut (not_sealed s (width (as_written s.version r)) e)
effect_sealed h j k Flush lj lk shut e = let s = segment h k in open_changed h j k (flushed s) lj lk shut (flush_open s e)
effect_sealed h j k Read lj lk shut e = refl

sealed_call : (h : State) (j k : ℕ) (call : Call) → 1 ≤ j → 1 ≤ k → (segment h j).is_sealed ≡ true → segment (call_of h k call).1 j ≡ segment h j
sealed_call h j k call lj lk shut = by (refused h k call) refl
  where
    by : (o : Option HistoryFault) → refused h k call ≡ o → segment (settled o h k call).1 j ≡ segment h j
    by None e = effect_sealed h j k call lj lk shut (not_refused h k call e).1
    by (Some f) e = refl

sealed_seal : (h : State) (j k kept : ℕ) → 1 ≤ j → 1 ≤ k → (segment h j).is_sealed ≡ true → segment (sealed_at k kept h) j ≡ segment h j
sealed_seal h j k kept lj lk shut = by (nat_eq j k) refl
  where
    by : (b : Bool) → nat_eq j k ≡ b → segment (sealed_at k kept h) j ≡ segment h j
    by true e =
        let is : k ≡ j = grind (arith, nat_tests) in
        ap (λ n. segment (sealed_at n kept h) j) is ∙ ap (λ s. segment (with_segment h j s) j) (sealed_stays (segment h j) kept shut) ∙ own_set h.segments (j - 1) (fresh 1)
    by false e = let apart : j ≢ k = grind (arith, nat_tests) in others h j k (sealed kept (segment h k)) lj lk apart

sealed_above : (h : State) (j k kept version : ℕ) → AreUnraised h → 1 ≤ j → 1 ≤ k → (segment h j).is_sealed ≡ true → h.fence < k → segment (raised k kept version h) j ≡ segment h j
sealed_above h j k kept version unraised lj lk shut above =
    let front : State = record { segments = map (sealed kept) (take (k - 1) h.segments) ++ drop (k - 1) h.segments; fence = k } in
    let apart : j ≢ k = (λ e. true≢false (sym shut ∙ ap (λ n. (segment h n).is_sealed) e ∙ ap (λ (s : SegmentState). s.is_sealed) (unraised k above))) in
    ap (λ s. segment s j) (raised-above h k kept version above)
    ∙ others front j k (with_version version (segment h k)) lj lk apart
    ∙ get_or-fixed (sealed kept) h.segments (k - 1) (j - 1) (fresh 1) (sealed_stays (segment h j) kept shut)

sealed_raise : (h : State) (j k kept version : ℕ) → AreUnraised h → 1 ≤ j → 1 ≤ k → (segment h j).is_sealed ≡ true → segment (raised k kept version h) j ≡ segment h j
sealed_raise h j k kept version unraised lj lk shut = elim (cases_lt h.fence k) [
  | inl above ↦ sealed_above h j k kept version unraised lj lk shut above
  | inr below ↦ ap (λ s. segment s j) (raised-below h k kept version below)
]

pub sealed_after : (h : State) (c : Change) (j : ℕ) → IsHistory h → IsChange h c → 1 ≤ j → (segment h j).is_sealed ≡ true → segment (after h c) j ≡ segment h j
sealed_after h (Calls k call) j is may low shut = sealed_call h j k call low may.0 shut
sealed_after h (Seals k kept) j is may low shut = sealed_seal h j k kept low may.0 shut
sealed_after h (Raises k kept version) j is may low shut = sealed_raise h j k kept version is.unraised low may.0 shut

-- ---- what stays below the fence

-- fronts of lists that agree there
same_front : (xs ys : List SegmentState) (n : ℕ) (d : SegmentState) → length xs ≡ length ys → ((i : ℕ) → i < n → get_or xs i d ≡ get_or ys i d) → take n xs ≡ take n ys
same_front xs ys zero d len same = refl
same_front [] [] (suc n) d len same = refl
same_front [] (y ∷ ys) (suc n) d len same = absurd (omega (arith, len))
same_front (x ∷ xs) [] (suc n) d len same = absurd (omega (arith, len))
same_front (x ∷ xs) (y ∷ ys) (suc n) d len same =
    let first : x ≡ y = same 0 (omega arith) in
    let rest = same_front xs ys n d (omega (arith, len)) (λ i below. same (suc i) (omega arith)) in
    ap₂ (λ a l. a ∷ l) first rest

pub below_after : (h : State) (c : Change) → IsHistory h → IsChange h c → records_before (after h c) h.fence ≡ records_before h h.fence
below_after h c is may =
    let len : length (after h c).segments ≡ length h.segments = (history_after h c is may).count ∙ sym is.count in
    ap records_in (same_front (after h c).segments h.segments (h.fence - 1) (fresh 1) len (λ i below. each i below))
  where
    each : (i : ℕ) → i < h.fence - 1 → get_or (after h c).segments i (fresh 1) ≡ get_or h.segments i (fresh 1)
    each i below =
        let low : 1 ≤ i + 1 = omega arith in
        let lower : i + 1 < h.fence = omega arith in
        let e : i + 1 - 1 ≡ i = omega arith in
        ap (λ n. get_or (after h c).segments n (fresh 1)) (sym e) ∙ sealed_after h c (i + 1) is may low (is.older (i + 1) low lower) ∙ ap (λ n. get_or h.segments n (fresh 1)) e

fence_call : (h : State) (k : ℕ) (call : Call) → (call_of h k call).1.fence ≡ h.fence
fence_call h k call = by (refused h k call)
  where
    own : (call : Call) → (effect h k call).fence ≡ h.fence
    own (Append r) = refl
    own Flush = refl
    own Read = refl

    by : (o : Option HistoryFault) → (settled o h k call).1.fence ≡ h.fence
    by None = own call
    by (Some f) = refl

fence_raise : (h : State) (k kept version : ℕ) → h.fence ≤ (raised k kept version h).fence
fence_raise h k kept version = elim (cases_lt h.fence k) [
  | inl above ↦ let e = ap (λ (x : State). x.fence) (raised-above h k kept version above) in omega (arith, e)
  | inr below ↦ let e = ap (λ (x : State). x.fence) (raised-below h k kept version below) in omega (arith, e)
]

pub fence_after : (h : State) (c : Change) → h.fence ≤ (after h c).fence
fence_after h (Calls k call) = let e = fence_call h k call in omega (arith, e)
fence_after h (Seals k kept) = omega arith
fence_after h (Raises k kept version) = fence_raise h k kept version

-- ---- stable bytes grow at their end

Grows : SegmentState → SegmentState → Type 0
Grows old new = (more : List ℕ) × (new.stable ≡ old.stable ++ more)

grows_not : (s : SegmentState) → Grows s s
unfolding Grows
grows_not s = ([], sym (append-nil s.stable))

grows_sealed : (kept : ℕ) (s : SegmentState) → Grows s (sealed kept s)
unfolding Grows
grows_sealed kept s = by s.is_sealed
  where
    by : (b : Bool) → (more : List ℕ) × ((cond b s (record { version = s.version; stable = s.stable ++ take kept s.tail; tail = []; is_sealed = true })).stable ≡ s.stable ++ more)
    by true = ([], sym (append-nil s.stable))
    by false = (take kept s.tail, refl)

grows_one : (h : State) (j k : ℕ) (s : SegmentState) → 1 ≤ j → 1 ≤ k → k ≤ length h.segments → Grows (segment h k) s → Grows (segment h j) (segment (with_segment h k s) j)
grows_one h j k s lj lk inside g = by (nat_eq j k) refl
  where
    by : (b : Bool) → nat_eq j k ≡ b → Grows (segment h j) (segment (with_segment h k s) j)
    by true e =
        let is : k ≡ j = grind (arith, nat_tests) in
        subst (λ n. Grows (segment h n) (segment (with_segment h k s) n)) is (subst (Grows (segment h k)) (sym (named h k s lk inside)) g)
    by false e = let apart : j ≢ k = grind (arith, nat_tests) in subst (Grows (segment h j)) (sym (others h j k s lj lk apart)) (grows_not (segment h j))

grows_call : (h : State) (j k : ℕ) (call : Call) → 1 ≤ j → 1 ≤ k → k ≤ length h.segments → Grows (segment h j) (segment (call_of h k call).1 j)
unfolding Grows
grows_call h j k call lj lk inside = by (refused h k call)
  where
    own : (call : Call) → Grows (segment h j) (segment (effect h k call) j)
    own (Append r) = grows_one h j k (appended r (segment h k)) lj lk inside ([], sym (append-nil (segment h k).stable))
    own Flush = grows_one h j k (flushed (segment h k)) lj lk inside ((segment h k).tail, refl)
    own Read = grows_not (segment h j)

    by : (o : Option HistoryFault) → Grows (segment h j) (segment (settled o h k call).1 j)
    by None = own call
    by (Some f) = grows_not (segment h j)

grows_above : (h : State) (j k kept version : ℕ) → 1 ≤ j → j ≤ length h.segments → h.fence < k → Grows (segment h j) (segment (raised k kept version h) j)
unfolding Grows
grows_above h j k kept version low high above = subst (Grows (segment h j)) (sym (segment-raised h j k kept version low high above)) (by (nat_eq j k) (nat_lt j k))
  where
    by : (a b : Bool) → Grows (segment h j) (cond a (with_version version (segment h j)) (cond b (sealed kept (segment h j)) (segment h j)))
    by true b = ([], sym (append-nil (segment h j).stable))
    by false true = grows_sealed kept (segment h j)
    by false false = grows_not (segment h j)

grows_raise : (h : State) (j k kept version : ℕ) → 1 ≤ j → j ≤ length h.segments → Grows (segment h j) (segment (raised k kept version h) j)
grows_raise h j k kept version low high = elim (cases_lt h.fence k) [
  | inl above ↦ grows_above h j k kept version low high above
  | inr below ↦ subst (λ x. Grows (segment h j) (segment x j)) (sym (raised-below h k kept version below)) (grows_not (segment h j))
]

inside : (h : State) (k : ℕ) → IsHistory h → k ≤ h.fence → k ≤ length h.segments
inside h k is low = let c = is.count in let b = is.bound in omega arith

pub grows_after : (h : State) (c : Change) (j : ℕ) → IsHistory h → IsChange h c → 1 ≤ j → j ≤ 1000 → (more : List ℕ) × ((segment (after h c) j).stable ≡ (segment h j).stable ++ more)
unfolding Grows
grows_after h (Calls k call) j is may low high = grows_call h j k call low may.0 (inside h k is may.1)
grows_after h (Seals k kept) j is may low high = grows_one h j k (sealed kept (segment h k)) low may.0 (inside h k is may.1) (grows_sealed kept (segment h k))
grows_after h (Raises k kept version) j is may low high = let c = is.count in grows_raise h j k kept version low (omega (arith, c))
