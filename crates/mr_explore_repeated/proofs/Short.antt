-- No segment of a history has more bytes than a segment may have.
use Rattle.std.proofs.Common.{◌≡◌, ◌≤◌, ◌+◌, ◌-◌, ℕ, zero, suc, Bool, true, false, cond, ◌&&◌, nat_le, nat_lt, List, [], ◌∷◌, ◌++◌, length, length-append, take, drop, map, set, get_or, replicate, Option, Some, None, refl, arith, ltb-false}
use Rattle.std.specs.List.{AllByRecursion}
use Rattle.std.proofs.lemmas.List.{length-take}
use Rattle.mr_history.specs.declared.fault.HistoryFault.{HistoryFault}
use Rattle.mr_history.specs.declared.fault.HistoryFault.TheVariants.{Superseded, Sealed, Full}
use Rattle.mr_history.specs.declared.record.Record.{Record}
use Rattle.mr_history.specs.declared.segment.TheConstants.{MAX_SEGMENT_LEN}
use Rattle.mr_history.specs.State.{SegmentState, State}
use Rattle.mr_history.specs.Line.{as_written, line_of, whole_line, width}
use Rattle.mr_history.specs.Segment.{append_refusal, appended, first_of, flushed, fresh, opening, sealed}
use Rattle.mr_history.specs.Calls.{Append, Call, Flush, Read, call_of, effect, raised, refusal, refused, segment, settled, with_segment, with_version}
use Rattle.mr_history.specs.Laws.{Calls, Change, Raises, Seals, after}
use Rattle.mr_world_model.specs.Packets.{Config}
use Rattle.mr_world_model.specs.World.{World, Event, opening_world}
use Rattle.mr_world_model.specs.Effect.{happens}
use Rattle.mr_play.specs.mr_world.specs.Histories.{change_of, changed, changed_by, history_of, opening_history, stable_bytes}
use Rattle.mr_play.specs.mr_world.specs.Limits.{within}

abbrev Short : SegmentState → Type 0
Short s = length s.stable + length s.tail ≤ MAX_SEGMENT_LEN

abbrev AreShort : State → Type 0
AreShort h = AllByRecursion Short h.segments

fresh_short : (v : ℕ) → Short (fresh v)
fresh_short v = omega arith

-- ---- lists

all_replicate : (n : ℕ) → AllByRecursion Short (replicate n (fresh 1))
all_replicate zero = tt
all_replicate (suc n) = (fresh_short 1, all_replicate n)

all_set : (xs : List SegmentState) (i : ℕ) (s : SegmentState) → AllByRecursion Short xs → Short s → AllByRecursion Short (set xs i s)
all_set [] i s h k = tt
all_set (x ∷ xs) zero s h k = (k, h.1)
all_set (x ∷ xs) (suc i) s h k = (h.0, all_set xs i s h.1 k)

all_get : (xs : List SegmentState) (i : ℕ) → AllByRecursion Short xs → Short (get_or xs i (fresh 1))
all_get [] i h = fresh_short 1
all_get (x ∷ xs) zero h = h.0
all_get (x ∷ xs) (suc i) h = all_get xs i h.1

-- ---- segments

sealed_short : (kept : ℕ) (s : SegmentState) → Short s → Short (sealed kept s)
sealed_short kept s h = by s.is_sealed
  where
    by : (b : Bool) → Short (cond b s (record { version = s.version; stable = s.stable ++ take kept s.tail; tail = []; is_sealed = true }))
    by true = h
    by false = let both = length-append s.stable (take kept s.tail) in let front = length-take kept s.tail in omega (arith, h, both, front)

flushed_short : (s : SegmentState) → Short s → Short (flushed s)
flushed_short s h = let both = length-append s.stable s.tail in omega (arith, h, both)

not_full : (a b : Bool) → first_of ((a, Sealed) ∷ (b, Full) ∷ []) ≡ None → b ≡ false
not_full true b e = absurd (cc e)
not_full false true e = absurd (cc e)
not_full false false e = refl

width_is : (r : Record) → width r ≡ length (whole_line r)
unfolding width
width_is r = let both = length-append (line_of r) (10 ∷ []) in omega (arith, both)

appended_short : (r : Record) (s : SegmentState) → append_refusal r s ≡ None → Short (appended r s)
appended_short r s e =
    let line = as_written s.version r in
    let room = ltb-false MAX_SEGMENT_LEN (length s.stable + length s.tail + length (opening s) + width line) (not_full s.is_sealed _ e) in
    let one = length-append (s.tail ++ opening s) (whole_line line) in
    let two = length-append s.tail (opening s) in
    let three = width_is line in
    omega (arith, room, one, two, three)

all_sealed : (kept : ℕ) (xs : List SegmentState) (n : ℕ) → AllByRecursion Short xs → AllByRecursion Short (map (sealed kept) (take n xs) ++ drop n xs)
all_sealed kept [] zero h = tt
all_sealed kept [] (suc n) h = tt
all_sealed kept (x ∷ xs) zero h = h
all_sealed kept (x ∷ xs) (suc n) h = (sealed_short kept x h.0, all_sealed kept xs n h.1)

-- ---- a history

segment_short : (h : State) (k : ℕ) → AreShort h → Short (segment h k)
segment_short h k is = all_get h.segments (k - 1) is

with_short : (h : State) (k : ℕ) (s : SegmentState) → AreShort h → Short s → AreShort (with_segment h k s)
with_short h k s is short = all_set h.segments (k - 1) s is short

not_below : (b : Bool) (f : HistoryFault) (o : Option HistoryFault) → cond b (Some f) o ≡ None → o ≡ None
not_below true f o e = absurd (cc e)
not_below false f o e = e

effect_short : (h : State) (k : ℕ) (call : Call) → AreShort h → refusal (segment h k) call ≡ None → AreShort (effect h k call)
effect_short h k (Append r) is e = with_short h k (appended r (segment h k)) is (appended_short r (segment h k) e)
effect_short h k Flush is e = with_short h k (flushed (segment h k)) is (flushed_short (segment h k) (segment_short h k is))
effect_short h k Read is e = is

call_short : (h : State) (k : ℕ) (call : Call) → AreShort h → AreShort (call_of h k call).1
call_short h k call is = by (refused h k call) refl
  where
    by : (o : Option HistoryFault) → refused h k call ≡ o → AreShort (settled o h k call).1
    by None e = effect_short h k call is (not_below (nat_lt k h.fence) (Superseded h.fence) (refusal (segment h k) call) e)
    by (Some f) e = is

raised_short : (h : State) (k kept version : ℕ) → AreShort h → AreShort (raised k kept version h)
raised_short h k kept version is = by (nat_lt h.fence k)
  where
    by : (b : Bool) → AreShort (cond b (with_segment (record { segments = map (sealed kept) (take (k - 1) h.segments) ++ drop (k - 1) h.segments; fence = k }) k (with_version version (segment h k))) h)
    by true = all_set (map (sealed kept) (take (k - 1) h.segments) ++ drop (k - 1) h.segments) (k - 1) (with_version version (segment h k)) (all_sealed kept h.segments (k - 1) is) (segment_short h k is)
    by false = is

after_short : (h : State) (c : Change) → AreShort h → AreShort (after h c)
after_short h (Calls k call) is = call_short h k call is
after_short h (Seals k kept) is = with_short h k (sealed kept (segment h k)) is (sealed_short kept (segment h k) (segment_short h k is))
after_short h (Raises k kept version) is = raised_short h k kept version is

changed_short : (h : State) (o : Option Change) → AreShort h → AreShort (changed h o)
changed_short h None is = is
changed_short h (Some c) is = after_short h c is

-- ---- whatever happened

all_short : (cfg : Config) (w : World) (h : State) (es : List Event) → AreShort h → AreShort (changed_by cfg w h es)
all_short cfg w h [] is = is
all_short cfg w h (e ∷ es) is = all_short cfg (happens cfg (within cfg) w e) (changed h (change_of cfg w e)) es (changed_short h (change_of cfg w e) is)

pub stable_short : (cfg : Config) (es : List Event) (k : ℕ) → length (stable_bytes (history_of cfg es) k) ≤ MAX_SEGMENT_LEN
stable_short cfg es k = by (nat_lt 0 k && nat_le k (history_of cfg es).fence)
  where
    own : Short (segment (history_of cfg es) k)
    own = segment_short (history_of cfg es) k (all_short cfg opening_world opening_history es (all_replicate 1000))

    by : (b : Bool) → length (cond b (segment (history_of cfg es) k).stable []) ≤ MAX_SEGMENT_LEN
    by true = let o = own in omega (arith, o)
    by false = omega arith
