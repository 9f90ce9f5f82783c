-- Whether a store is full: what a world's limits say of a master's call, and what both stores say.
use Rattle.std.proofs.Common.{◌≡◌, ◌<◌, ℕ, ◌+◌, refl, sym, ◌∙◌, ap, ap₂, Bool, true, false, ◌&&◌, ◌||◌, not, List, [], ◌∷◌, Option, Some, None, if◌then◌else◌, nat_eq, nat_lt, nat_le, length, length-append, sum_by, arith}
use Rattle.std.proofs.lemmas.Bool.Decides.{nat_tests}
use Rattle.std.proofs.lemmas.List.Sums.{sum_by-cons}
use Rattle.std.specs.Cmp.{Equal-is, tied_itself, both_ways}
use Rattle.std.specs.FinSet as set
use Rattle.std.specs.List.{list_any}
use Rattle.std.specs.Option.{option_or}
use Rattle.std.specs.Ordering.{eq_by_cmp, is_eq}
use Rattle.mr_ids.specs.Attempt.{Attempt}
use Rattle.mr_names.specs.Attempts.{attempt_cmp, attempt_total, attempt_exact}
use Rattle.mr_names.specs.Calls as names
use Rattle.mr_names.specs.declared.fault.NameFault.{NameFault}
use Rattle.mr_names.specs.declared.fault.NameFault.TheVariants as faults
use Rattle.mr_names.specs.declared.op.Op.{Op}
use Rattle.mr_history.specs.Calls as segments
use Rattle.mr_history.specs.Line.{head, lines, text, width, as_written}
use Rattle.mr_history.specs.Reading.{records_of}
use Rattle.mr_history.specs.Recorded.{SegmentRecords, recorded, tail_width}
use Rattle.mr_history.specs.Segment.{IsSound, opening}
use Rattle.mr_history.specs.Segment as segment
use Rattle.mr_history.specs.State.{SegmentState}
use Rattle.mr_history.specs.State as history
use Rattle.mr_history.specs.declared.fault.HistoryFault.{HistoryFault}
use Rattle.mr_history.specs.declared.fault.HistoryFault.TheVariants as history_fault
use Rattle.mr_history.specs.declared.segment.TheConstants.{MAX_SEGMENT_LEN}
use Rattle.mr_history.proofs.Segments.{length-lines, tail_len, tells_text}
use Rattle.mr_world_model.specs.Bytes.{Tells}
use Rattle.mr_world_model.specs.Hearing.{has}
use Rattle.mr_world_model.specs.Ids.{attempt_eq}
use Rattle.mr_world_model.specs.Content.{refusal}
use Rattle.mr_world_model.specs.Packets.{Store, Names, Append_record, Flush, Read_history}
use Rattle.mr_world_model.specs.Records.{Record, Segment}
use Rattle.mr_world_model.specs.Stored.{StoresStand, master}
use Rattle.mr_world_model.specs.Stores.{NamesStand}
use Rattle.mr_world_model.specs.World.{World, Weather, Calm, Unavailable, Unanswered, is_applied}
use Rattle.mr_world_model.proofs.Lists.{attempt_eq-true, attempt_eq-refl}
use Rattle.mr_master_refinement.specs.Steps.{store_call}
use Rattle.mr_world_state.specs.inner.Asking.{is_segment_full, finds_full}
use Rattle.mr_world_state.specs.inner.Calling.{is_made}
use Rattle.mr_world_state.specs.Limits.{barred_of, is_full, length_with, fits_store}

-- ---- the attempts that are barred, as a finite set

eq-tied : (a b : Attempt) → attempt_eq a b ≡ eq_by_cmp attempt_cmp a b
eq-tied a b = both_ways (attempt_eq a b) (eq_by_cmp attempt_cmp a b)
    (λ e. ap (eq_by_cmp attempt_cmp a) (sym (attempt_eq-true a b e)) ∙ ap is_eq (tied_itself attempt_total a))
    (λ e. ap (attempt_eq a) (sym (attempt_exact a b ((Equal-is (attempt_cmp a b)).0 e))) ∙ attempt_eq-refl a)

has-listed : (bs : List Attempt) (a : Attempt) → has bs a ≡ list_any (eq_by_cmp attempt_cmp a) bs
has-listed [] a = refl
has-listed (b ∷ bs) a = ap₂ (λ x y. x || y) (eq-tied a b) (has-listed bs a)

pub barred-is : (s : names.State) (w : World) → NamesStand s w → s.barred ≡ barred_of w
barred-is s w n = set.same_set attempt_total attempt_exact _ _ (λ a. n.barred a ∙ (has-listed w.barred a ∙ sym (set.contains-from_list attempt_total w.barred a)))

-- ---- the namespace

abbrev pub is_let : Bool → Weather → Bool
is_let below Unavailable = false
is_let below Calm = not below
is_let below Unanswered = not below

pub let-is : (w : World) (k : ℕ) (f : Weather) → is_applied w k f ≡ is_let (nat_lt k w.fence) f
let-is w k Calm = refl
let-is w k Unavailable = refl
let-is w k Unanswered = refl

-- why a master is refused: it is below the fence, or no attempt more can be barred, or for what the namespace holds
abbrev first_why : ℕ → Bool → Bool → Option NameFault → Option NameFault
first_why q below crowded own = option_or (if below then Some (faults.Superseded q) else None) (if crowded then Some faults.Full else own)

why-is : (s : names.State) (w : World) → NamesStand s w → (k : ℕ) (o : Op) →
    names.refused s (master k) o ≡ first_why w.fence (nat_lt k w.fence) (names.passes_limit (barred_of w) o) (names.refusal w.content o)
unfolding names.unheard
why-is s w n k o = rw (n.fence, n.content, barred-is s w n) refl

names-cases : (q : ℕ) (f : Weather) (below crowded : Bool) (own : Option NameFault)
    → (if is_let below f then not (crowded || is_full own) else true) ≡ not (is_made f && is_full (first_why q below crowded own))
names-cases q Calm true crowded own = refl
names-cases q Calm false true own = refl
names-cases q Calm false false own = refl
names-cases q Unavailable below crowded own = refl
names-cases q Unanswered true crowded own = refl
names-cases q Unanswered false true own = refl
names-cases q Unanswered false false own = refl

names-fit : (s : names.State) (w : World) → NamesStand s w → (k : ℕ) (f : Weather) (o : Op)
    → (if is_applied w k f then fits_store w k (Names o) else true) ≡ not (is_made f && is_full (names.refused s (master k) o))
unfolding refusal
names-fit s w n k f o = ap (λ (b : Bool). if b then fits_store w k (Names o) else true) (let-is w k f)
    ∙ (names-cases w.fence f (nat_lt k w.fence) (names.passes_limit (barred_of w) o) (names.refusal w.content o)
    ∙ ap (λ y. not (is_made f && is_full y)) (sym (why-is s w n k o)))

free-cases : (q : ℕ) (f : Weather) (below crowded : Bool) (own : Option NameFault) → (is_made f && is_full (first_why q below crowded own)) ≡ false → is_let below f ≡ true → crowded ≡ false
free-cases q f below false own e l = refl
free-cases q Calm true true own e l = cc
free-cases q Calm false true own e l = cc
free-cases q Unavailable below true own e l = cc
free-cases q Unanswered true true own e l = cc
free-cases q Unanswered false true own e l = cc

-- a bar that is made, and does not find the namespace full, passes no limit
pub names-free : (s : names.State) (w : World) → NamesStand s w → (k : ℕ) (f : Weather) (o : Op) → (is_made f && is_full (names.refused s (master k) o)) ≡ false
    → is_applied w k f ≡ true → names.passes_limit s.barred o ≡ false
names-free s w n k f o e applied = ap (λ b. names.passes_limit b o) (barred-is s w n)
    ∙ free-cases w.fence f (nat_lt k w.fence) (names.passes_limit (barred_of w) o) (names.refusal w.content o)
    (ap (λ y. is_made f && is_full y) (sym (why-is s w n k o)) ∙ e) (sym (let-is w k f) ∙ applied)

-- ---- a segment: how many bytes it has

abbrev text_width : ℕ → List Record → ℕ
text_width v [] = 0
text_width v (r ∷ rs) = length (head v) + sum_by width (r ∷ rs)

text-len : (v : ℕ) (rs : List Record) → length (text v rs) ≡ text_width v rs
text-len v [] = refl
text-len v (r ∷ rs) = length-append (head v) (lines (r ∷ rs)) ∙ ap (λ n. length (head v) + n) (length-lines (r ∷ rs))

stable-len : (s : SegmentState) → IsSound s → s.is_sealed ≡ false → length s.stable ≡ text_width s.version (records_of s.stable)
stable-len s h e = let o = h.when_open e in
    ap length o.stable_is ∙ (text-len s.version o.first ∙ ap (text_width s.version) (sym (ap records_of o.stable_is ∙ (tells_text s.version o.first h.version o.are_first).0)))

some-bytes : (r : Record) (rs : List Record) → 0 < sum_by width (r ∷ rs)
unfolding width
some-bytes r rs = let e = sum_by-cons width r rs in omega (arith, e)

-- what comes first in a segment in which so much was written
abbrev begins : ℕ → ℕ → List ℕ
begins v n = if nat_eq n 0 then head v else []

begun : (v n : ℕ) → 0 < n → length (begins v n) ≡ 0
begun v n l = ap (λ (b : Bool). length (if b then head v else [])) (not-zero n l)
  where
    not-zero : (n : ℕ) → 0 < n → nat_eq n 0 ≡ false
    not-zero n l = grind (arith, nat_tests, l)

whole-len : (v : ℕ) (rs ts : List Record) (shut : Bool) (a b : ℕ) → a ≡ text_width v rs → b ≡ tail_width (record { version = v; stable = rs; tail = ts; is_sealed = shut })
    → a + b + length (begins v (a + b)) ≡ length (head v) + sum_by width rs + sum_by width ts
whole-len v [] [] shut a b e f = rw (e, f) (omega arith)
whole-len v [] (t ∷ ts) shut a b e f = let p = some-bytes t ts in let z = begun v (a + b) (omega (arith, e, f, p)) in omega (arith, e, f, z)
whole-len v (r ∷ rs) [] shut a b e f = let p = some-bytes r rs in let z = begun v (a + b) (omega (arith, e, f, p)) in omega (arith, e, f, z)
whole-len v (r ∷ rs) (t ∷ ts) shut a b e f = let p = some-bytes r rs in let z = begun v (a + b) (omega (arith, e, f, p)) in omega (arith, e, f, z)

-- those of an open segment, with a record more
open-len : (s : SegmentState) (m : Segment) (r : Record) → Tells s m → s.is_sealed ≡ false
    → length s.stable + length s.tail + length (opening s) + width (as_written s.version r) ≡ length_with m r
open-len s m r t e = ap (λ n. n + width (as_written s.version r))
    (whole-len s.version (records_of s.stable) (recorded s).tail s.is_sealed (length s.stable) (length s.tail) (stable-len s t.sound e) (tail_len s t.sound))
    ∙ ap (λ (x : Segment). length_with x r) t.is

-- ---- an append

-- why it is refused: the master is below the fence, or its segment is sealed, or has no room
abbrev append_why : ℕ → Bool → Bool → Bool → Option HistoryFault
append_why q below shut long = if below then Some (history_fault.Superseded q) else segment.first_of ((shut, history_fault.Sealed) ∷ (long, history_fault.Full) ∷ [])

append-cases : (q : ℕ) (f : Weather) (below shut long : Bool) → (if is_let below f then (shut || not long) else true) ≡ not (is_made f && is_segment_full (append_why q below shut long))
append-cases q Calm true shut long = refl
append-cases q Calm false true long = refl
append-cases q Calm false false true = refl
append-cases q Calm false false false = refl
append-cases q Unavailable below shut long = refl
append-cases q Unanswered true shut long = refl
append-cases q Unanswered false true long = refl
append-cases q Unanswered false false true = refl
append-cases q Unanswered false false false = refl

le-lt : (m n : ℕ) → nat_le n m ≡ not (nat_lt m n)
le-lt m n = grind (arith, nat_tests)

-- whether there is room matters only while the segment is open
room-is : (s : SegmentState) (m : Segment) (r : Record) → Tells s m
    → (m.is_sealed || nat_le (length_with m r) MAX_SEGMENT_LEN) ≡ (s.is_sealed || not (nat_lt MAX_SEGMENT_LEN (length s.stable + length s.tail + length (opening s) + width (as_written s.version r))))
room-is s m r t = ap (λ (x : SegmentRecords). x.is_sealed || nat_le (length_with m r) MAX_SEGMENT_LEN) (sym t.is) ∙ by s.is_sealed refl
  where
    by : (b : Bool) → s.is_sealed ≡ b → (b || nat_le (length_with m r) MAX_SEGMENT_LEN) ≡ (b || not (nat_lt MAX_SEGMENT_LEN (length s.stable + length s.tail + length (opening s) + width (as_written s.version r))))
    by true e = refl
    by false e = ap (λ n. nat_le n MAX_SEGMENT_LEN) (sym (open-len s m r t e)) ∙ le-lt MAX_SEGMENT_LEN _

append-fit : (h : history.State) (w : World) (k : ℕ) (f : Weather) (r : Record) → Tells (segments.segment h k) (w.history k) → h.fence ≡ w.fence
    → (if is_applied w k f then fits_store w k (Append_record r) else true) ≡ not (is_made f && is_segment_full (segments.refused h k (segments.Append r)))
append-fit h w k f r t fence = ap₂ (λ (b c : Bool). if b then c else true) (let-is w k f ∙ ap (λ q. is_let (nat_lt k q) f) (sym fence)) (room-is (segments.segment h k) (w.history k) r t)
    ∙ append-cases h.fence f (nat_lt k h.fence) (segments.segment h k).is_sealed _

long-cases : (q : ℕ) (f : Weather) (below shut long : Bool) → (is_made f && is_segment_full (append_why q below shut long)) ≡ false → is_let below f ≡ true → shut ≡ false → long ≡ false
long-cases q f below shut false e l s = refl
long-cases q Calm true shut true e l s = cc
long-cases q Calm false true true e l s = cc
long-cases q Calm false false true e l s = cc
long-cases q Unavailable below shut true e l s = cc
long-cases q Unanswered true shut true e l s = cc
long-cases q Unanswered false true true e l s = cc
long-cases q Unanswered false false true e l s = cc

-- a record that is appended to an open segment, and does not find it full, has room there
pub append-free : (h : history.State) (w : World) (k : ℕ) (f : Weather) (r : Record) → h.fence ≡ w.fence → (is_made f && is_segment_full (segments.refused h k (segments.Append r))) ≡ false
    → is_applied w k f ≡ true → (segments.segment h k).is_sealed ≡ false
    → nat_lt MAX_SEGMENT_LEN (length (segments.segment h k).stable + length (segments.segment h k).tail + length (opening (segments.segment h k)) + width (as_written (segments.segment h k).version r)) ≡ false
append-free h w k f r fence e applied shut = long-cases h.fence f (nat_lt k h.fence) (segments.segment h k).is_sealed _ e
    (ap (λ q. is_let (nat_lt k q) f) fence ∙ (sym (let-is w k f) ∙ applied)) shut

-- ---- any call

other-cases : (w : World) (k : ℕ) (f : Weather) → (if is_applied w k f then true else true) ≡ not (is_made f && false)
other-cases w k Calm = any (nat_lt k w.fence)
  where
    any : (b : Bool) → (if not b then true else true) ≡ true
    any true = refl
    any false = refl
other-cases w k Unavailable = refl
other-cases w k Unanswered = any (nat_lt k w.fence)
  where
    any : (b : Bool) → (if not b then true else true) ≡ true
    any true = refl
    any false = refl

-- a call finds room in a world exactly where it does not find a store full
pub call-fits : (s : names.State) (h : history.State) (w : World) (k : ℕ) (f : Weather) (c : Store) → StoresStand s h w → Tells (segments.segment h k) (w.history k)
    → (if is_applied w k f then fits_store w k c else true) ≡ not (is_made f && finds_full s h k (store_call c))
call-fits s h w k f (Names o) st t = names-fit s w st.namespace k f o
call-fits s h w k f (Append_record r) st t = append-fit h w k f r t st.fence
call-fits s h w k f Flush st t = other-cases w k f
call-fits s h w k f Read_history st t = other-cases w k f
