-- How a history is kept: the segments up to the fence are stored, and those above it are as they are made.
use Rattle.std.proofs.Common.{◌≡◌, ◌<◌, ◌≤◌, ◌-◌, ◌+◌, ℕ, suc, Bool, true, false, cond, nat_lt, List, [], ◌∷◌, ◌++◌, length, take, drop, map, set, get_or, replicate, Option, Some, None, unwrap_or, Result, Ok, Err, refl, sym, subst, ap, ap₂, ◌∙◌, arith, append_assoc}
use Rattle.std.proofs.lemmas.List.{length-set, length-map, length-append, length-replicate, set-append_left, set-get_or, get_or_append_left, get_or_default, get_or_at, set_at, take_at, drop_at, take-append-le, replicate-append-replicate}
use Rattle.mr_history.specs.declared.record.Record.{Record}
use Rattle.mr_history.specs.declared.fault.HistoryFault.{HistoryFault}
use Rattle.mr_history.specs.declared.fault.HistoryFault.TheVariants as fault
use Rattle.mr_history.specs.State.{SegmentState, State}
use Rattle.mr_history.specs.Segment.{fresh, sealed, appended, flushed, append_refusal, flush_refusal, Changes, ChangesAlways}
use Rattle.mr_history.specs.Calls.{Call, Append, Flush, Answer, Done, Makes, MakesAlways, segment, with_segment, with_version, raised, sealed_at, superseded, refused, refusal, settled}
use Rattle.mr_history.proofs.Histories.{raised-above}

-- the segments of all generations, where these are stored
abbrev pub padded : List SegmentState → List SegmentState
padded ss = ss ++ replicate (1000 - length ss) (fresh 1)

-- the history of which these are stored
abbrev pub history_of : List SegmentState → State
history_of ss = record { segments = padded ss; fence = length ss }

pub stored : (ss : List SegmentState) (k : ℕ) (d : SegmentState) → k - 1 < length ss → segment (history_of ss) k ≡ get_or ss (k - 1) d
stored ss k d low = get_or_append_left ss (replicate (1000 - length ss) (fresh 1)) (fresh 1) (k - 1) low ∙ get_or_default ss (k - 1) (fresh 1) d low

pub changed : (ss : List SegmentState) (k : ℕ) (s : SegmentState) → k - 1 < length ss → history_of (set ss (k - 1) s) ≡ with_segment (history_of ss) k s
changed ss k s low =
    let len : length (set ss (k - 1) s) ≡ length ss = length-set ss (k - 1) s in
    let segments : padded (set ss (k - 1) s) ≡ set (padded ss) (k - 1) s = ap (λ n. set ss (k - 1) s ++ replicate (1000 - n) (fresh 1)) len ∙ sym (set-append_left ss (replicate (1000 - length ss) (fresh 1)) (k - 1) s low) in
    λ i. let h : State = record { segments = segments i; fence = len i } in h

-- what is stored tells histories apart
pub same_stored : (ss ts : List SegmentState) → history_of ss ≡ history_of ts → ss ≡ ts
same_stored ss ts same =
    let len : length ss ≡ length ts = ap (λ (h : State). h.fence) same in
    let all : padded ss ≡ padded ts = ap (λ (h : State). h.segments) same in
    sym (take_at ss (replicate (1000 - length ss) (fresh 1)) (length ss) refl) ∙ ap₂ (λ (n : ℕ) (l : List SegmentState). take n l) len all ∙ take_at ts (replicate (1000 - length ts) (fresh 1)) (length ts) refl

-- the first ones are those that are stored
pub first_stored : (ss : List SegmentState) (n : ℕ) → n ≤ length ss → take n (padded ss) ≡ take n ss
first_stored ss n few = take-append-le n ss (replicate (1000 - length ss) (fresh 1)) few

-- ---- a raise to k: those before k are stored and sealed, and that of k after them

-- those before k, as they are before the raise
abbrev pub before : List SegmentState → ℕ → List SegmentState
before ss k = ss ++ replicate (k - 1 - length ss) (fresh 1)

pub length-before : (ss : List SegmentState) (k : ℕ) → length ss < k → length (before ss k) ≡ k - 1
length-before ss k low = length-append ss (replicate (k - 1 - length ss) (fresh 1)) ∙ ap (λ n. length ss + n) (length-replicate (k - 1 - length ss) (fresh 1)) ∙ omega arith

split : (ss : List SegmentState) (k : ℕ) → length ss < k → k ≤ 1000 → padded ss ≡ before ss k ++ fresh 1 ∷ replicate (1000 - k) (fresh 1)
split ss k low high =
    let parts : 1000 - length ss ≡ k - 1 - length ss + suc (1000 - k) = omega arith in
    ap (λ n. ss ++ replicate n (fresh 1)) parts
    ∙ ap (λ l. ss ++ l) (sym (replicate-append-replicate (k - 1 - length ss) (suc (1000 - k)) (fresh 1)))
    ∙ sym (append_assoc ss (replicate (k - 1 - length ss) (fresh 1)) (fresh 1 ∷ replicate (1000 - k) (fresh 1)))

-- the segments after the raise
raising : (all front rest : List SegmentState) (k kept version : ℕ) → all ≡ front ++ fresh 1 ∷ rest → length front ≡ k - 1 →
    set (map (sealed kept) (take (k - 1) all) ++ drop (k - 1) all) (k - 1) (with_version version (get_or all (k - 1) (fresh 1))) ≡ map (sealed kept) front ++ fresh version ∷ rest
raising all front rest k kept version is len =
    let older : take (k - 1) all ≡ front = ap (λ l. take (k - 1) l) is ∙ take_at front (fresh 1 ∷ rest) (k - 1) len in
    let others : drop (k - 1) all ≡ fresh 1 ∷ rest = ap (λ l. drop (k - 1) l) is ∙ drop_at front (fresh 1 ∷ rest) (k - 1) len in
    let own : get_or all (k - 1) (fresh 1) ≡ fresh 1 = ap (λ l. get_or l (k - 1) (fresh 1)) is ∙ get_or_at front (fresh 1) rest (fresh 1) (k - 1) len in
    (λ i. set (map (sealed kept) (older i) ++ others i) (k - 1) (with_version version (own i)))
    ∙ set_at (map (sealed kept) front) (fresh 1) rest (fresh version) (k - 1) (length-map front (sealed kept) ∙ len)

pub raised_stored : (ss : List SegmentState) (k kept version : ℕ) → length ss < k → k ≤ 1000 → history_of (map (sealed kept) (before ss k) ++ fresh version ∷ []) ≡ raised k kept version (history_of ss)
raised_stored ss k kept version low high =
    let sealed_ones : List SegmentState = map (sealed kept) (before ss k) in
    let len : length (sealed_ones ++ fresh version ∷ []) ≡ k = length-append sealed_ones (fresh version ∷ []) ∙ ap (λ n. n + 1) (length-map (before ss k) (sealed kept) ∙ length-before ss k low) ∙ omega arith in
    let segments : padded (sealed_ones ++ fresh version ∷ []) ≡ sealed_ones ++ fresh version ∷ replicate (1000 - k) (fresh 1) =
    ap (λ n. (sealed_ones ++ fresh version ∷ []) ++ replicate (1000 - n) (fresh 1)) len ∙ append_assoc sealed_ones (fresh version ∷ []) (replicate (1000 - k) (fresh 1)) in
    let all = segments ∙ sym (raising (padded ss) (before ss k) (replicate (1000 - k) (fresh 1)) k kept version (split ss k low high) (length-before ss k low)) in
    (λ i. let h : State = record { segments = all i; fence = len i } in h) ∙ sym (raised-above (history_of ss) k kept version low)

pub raise_at : (ss : List SegmentState) (h : State) (k kept version p : ℕ) (filled done all : List SegmentState) (s : SegmentState) → history_of ss ≡ h → p ≡ k - 1 → h.fence < k → k ≤ 1000 →
    filled ≡ ss ++ replicate (p - length ss) (fresh 1) → done ≡ map (sealed kept) filled → s ≡ fresh version → all ≡ done ++ s ∷ [] → history_of all ≡ raised k kept version h
raise_at ss h k kept version p filled done all s is place low high fill seal own push =
    let fence : length ss ≡ h.fence = ap (λ (g : State). g.fence) is in
    let front : filled ≡ before ss k = fill ∙ ap (λ n. ss ++ replicate (n - length ss) (fresh 1)) place in
    ap history_of (push ∙ ap₂ (λ (l : List SegmentState) (t : SegmentState). l ++ t ∷ []) (seal ∙ ap (map (sealed kept)) front) own)
    ∙ raised_stored ss k kept version (omega arith) high
    ∙ ap (raised k kept version) is

-- ---- calls of one segment, of which x is read at place p, and n is put there

inside : (ss : List SegmentState) (h : State) (k p : ℕ) → history_of ss ≡ h → p ≡ k - 1 → p < k → k ≤ h.fence → k - 1 < length ss
inside ss h k p is place below high = let fence : length ss ≡ h.fence = ap (λ (g : State). g.fence) is in omega arith

pub read_at : (ss : List SegmentState) (h : State) (k p : ℕ) (x : SegmentState) → history_of ss ≡ h → p ≡ k - 1 → p < k → k ≤ h.fence → x ≡ get_or ss p x → x ≡ segment h k
read_at ss h k p x is place below high read =
    read ∙ ap (λ n. get_or ss n x) place ∙ sym (stored ss k x (inside ss h k p is place below high)) ∙ ap (λ (g : State). segment g k) is

changed_at : (ss : List SegmentState) (h : State) (k p : ℕ) (n : SegmentState) → history_of ss ≡ h → p ≡ k - 1 → p < k → k ≤ h.fence → history_of (set ss p n) ≡ with_segment h k n
changed_at ss h k p n is place below high =
    ap (λ i. history_of (set ss i n)) place ∙ changed ss k n (inside ss h k p is place below high) ∙ ap (λ (g : State). with_segment g k n) is

pub seal_at : (ss : List SegmentState) (h : State) (k p kept : ℕ) (x n : SegmentState) → history_of ss ≡ h → p ≡ k - 1 → p < k → k ≤ h.fence → x ≡ get_or ss p x → n ≡ sealed kept x → history_of (set ss p n) ≡ sealed_at k kept h
seal_at ss h k p kept x n is place below high read new =
    changed_at ss h k p n is place below high ∙ ap (λ (s : SegmentState). with_segment h k s) (new ∙ ap (sealed kept) (read_at ss h k p x is place below high read))

-- one that stays as it is
same_put : (h : State) (k : ℕ) → with_segment h k (segment h k) ≡ h
same_put h k = λ i. let g : State = record { segments = set-get_or h.segments (k - 1) (fresh 1) i; fence = h.fence } in g

-- at the fence a call has the segment's own refusal
own_refusal : (h : State) (k : ℕ) (call : Call) → superseded h k ≡ None → refused h k call ≡ refusal (segment h k) call
own_refusal h k call free = by (nat_lt k h.fence) (fault.Superseded h.fence) (refusal (segment h k) call) free
  where
    by : (b : Bool) (f : HistoryFault) (o : Option HistoryFault) → cond b (Some f) None ≡ None → cond b (Some f) o ≡ o
    by true f o e = absurd (cc)
    by false f o e = refl

abbrev outcome : Result Answer HistoryFault → State → Result Answer HistoryFault × State
outcome a h = (a, h)

appends : (h : State) (k : ℕ) (n : SegmentState) (r : Record) (result : Result (Unit {0}) HistoryFault) → superseded h k ≡ None →
    Changes (append_refusal r (segment h k)) (segment h k) (appended r (segment h k)) result n → Makes (λ _. Done) h k (Append r) result (with_segment h k n)
appends h k n r (Ok u) free change =
    ap (λ o. settled o h k (Append r)) (own_refusal h k (Append r) free ∙ change.0) ∙ ap (λ (s : SegmentState). outcome (Ok Done) (with_segment h k s)) (sym change.1)
appends h k n r (Err f) free change =
    (change.0 ∙ ap (λ o. unwrap_or o fault.NoMemory) (sym (own_refusal h k (Append r) free)), ap (λ (s : SegmentState). with_segment h k s) change.1 ∙ same_put h k)

pub append_at : (ss : List SegmentState) (h : State) (k p : ℕ) (x n : SegmentState) (r : Record) (result : Result (Unit {0}) HistoryFault) → history_of ss ≡ h → p ≡ k - 1 → p < k → k ≤ h.fence → x ≡ get_or ss p x →
    superseded h k ≡ None → Changes (append_refusal r x) x (appended r x) result n → Makes (λ _. Done) h k (Append r) result (history_of (set ss p n))
append_at ss h k p x n r result is place below high read free change =
    subst (λ (g : State). Makes (λ _. Done) h k (Append r) result g) (sym (changed_at ss h k p n is place below high))
    (appends h k n r result free (subst (λ (s : SegmentState). Changes (append_refusal r s) s (appended r s) result n) (read_at ss h k p x is place below high read) change))

flushes : (h : State) (k : ℕ) (n : SegmentState) (result : Result (Unit {0}) HistoryFault) → superseded h k ≡ None →
    ChangesAlways (flush_refusal (segment h k)) (segment h k) (flushed (segment h k)) result n → MakesAlways (λ _. Done) h k Flush result (with_segment h k n)
flushes h k n (Ok u) free change =
    ap (λ o. settled o h k Flush) (own_refusal h k Flush free ∙ change.0) ∙ ap (λ (s : SegmentState). outcome (Ok Done) (with_segment h k s)) (sym change.1)
flushes h k n (Err f) free change =
    ap (λ o. settled o h k Flush) (own_refusal h k Flush free ∙ change.0) ∙ ap (λ (g : State). outcome (Err f) g) (sym (ap (λ (s : SegmentState). with_segment h k s) change.1 ∙ same_put h k))

pub flush_at : (ss : List SegmentState) (h : State) (k p : ℕ) (x n : SegmentState) (result : Result (Unit {0}) HistoryFault) → history_of ss ≡ h → p ≡ k - 1 → p < k → k ≤ h.fence → x ≡ get_or ss p x →
    superseded h k ≡ None → ChangesAlways (flush_refusal x) x (flushed x) result n → MakesAlways (λ _. Done) h k Flush result (history_of (set ss p n))
flush_at ss h k p x n result is place below high read free change =
    subst (λ (g : State). MakesAlways (λ _. Done) h k Flush result g) (sym (changed_at ss h k p n is place below high))
    (flushes h k n result free (subst (λ (s : SegmentState). ChangesAlways (flush_refusal s) s (flushed s) result n) (read_at ss h k p x is place below high read) change))
