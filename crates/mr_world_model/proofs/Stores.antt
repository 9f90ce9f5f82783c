-- A call of the namespace or of the history is the model's: its answer, and what it leaves.
use Rattle.mr_world_model.proofs.Lists.{attempt_eq-true, attempt_eq-refl}
use Rattle.mr_world_model.specs.Effect.{content_after, barred_after}
use Rattle.mr_world_model.specs.Hearing.{has}
use Rattle.mr_world_model.specs.Ids.{Attempt, attempt_eq}
use Rattle.mr_names.specs.Barred.{is_barred, bars}
use Rattle.mr_names.specs.Attempts.{attempt_cmp, attempt_total, attempt_exact}
use Rattle.std.specs.Option.{option_or}
use Rattle.std.specs.Cmp.{Equal-is, tied_itself, both_ways}
use Rattle.std.specs.Ordering.{eq_by_cmp, is_eq}
use Rattle.std.proofs.Common.{zero, suc, ◌-◌, ◌<◌, ℕ, ◌≡◌, refl, sym, ◌∙◌, ap, subst, Bool, true, false, not, [], ◌∷◌, Option, Some, None, Ok, if◌then◌else◌, nat_lt, nat_eq, arith, ◌&&◌, ◌||◌, ◌++◌, List, ◌≤◌}
use Rattle.std.proofs.lemmas.Bool.{eqb-true}
use Rattle.mr_names.specs.declared.fault.NameFault as name
use Rattle.mr_names.specs.declared.fault.NameFault.TheVariants as fault
use Rattle.mr_names.specs.declared.op.Op as named
use Rattle.mr_names.specs.Calls as names
use Rattle.mr_history.specs.declared.fault.HistoryFault.TheVariants as old
use Rattle.mr_history.specs.State.{State}
use Rattle.mr_history.specs.Line as lines
use Rattle.mr_history.specs.Segment as segments
use Rattle.mr_history.specs.Calls as history
use Rattle.std.specs.Prelude.{get_or, replicate}
use Rattle.std.specs.FinSet as set
use Rattle.mr_world_model.specs.Laws.{StoresAreTheModels}
use Rattle.mr_world_model.specs.Content.{Op, MkDirs, Create, Append, Close, Delete, Rename, ListDir, Exist, Read, Bar, refusal, left, children, Superseded, Content, Barred}
use Rattle.mr_world_model.specs.Records.{fresh, Record, Segment, appended, flushed, with_segment, records_below, with_version, sealed_below, sealed}
use Rattle.mr_world_model.specs.Packets.{Fine, Sealed, Refused, Records, Store, Names, Append_record, Flush, Read_history, Caller}
use Rattle.mr_world_model.specs.World.{World, opening_world, reply_of, unless_refused, segment_left, unless_sealed, Made, Calm, has_option, unless_stopped, with_bar, barred_left, names_answer, reply_to}
use Rattle.mr_world_model.specs.Bytes.{Tells, TellsAll}
use Rattle.mr_world_model.specs.Stores.{NamesStand, made_by, reply_of_names, call_of_history, reply_of_history, HasRoom, Stands}
use Rattle.mr_world_model.proofs.Bytes.{tells-length, tells-shut, winner-reads, length-reads, tells-fresh, tells-appended, tells-flushed, tells-with, tells-before, tells-raised, tells-sealed}

-- The namespace

-- an attempt is one of the barred alike in a set and in a list
same-attempt : (a b : Attempt) → eq_by_cmp attempt_cmp a b ≡ attempt_eq a b
same-attempt a b = both_ways (eq_by_cmp attempt_cmp a b) (attempt_eq a b)
    (λ e. subst (λ x. attempt_eq a x ≡ true) (attempt_exact a b ((Equal-is (attempt_cmp a b)).0 e)) (attempt_eq-refl a))
    (λ e. subst (λ x. eq_by_cmp attempt_cmp a x ≡ true) (attempt_eq-true a b e) (ap is_eq (tied_itself attempt_total a)))

has-last : (bs : List Attempt) (a b : Attempt) → has (bs ++ b ∷ []) a ≡ (attempt_eq a b || has bs a)
has-last [] a b = refl
has-last (x ∷ bs) a b = ap (λ y. attempt_eq a x || y) (has-last bs a b) ∙ swap (attempt_eq a x) (attempt_eq a b) (has bs a)
  where
    swap : (x y z : Bool) → (x || (y || z)) ≡ (y || (x || z))
    swap true true z = refl
    swap true false z = refl
    swap false y z = refl

has-barred : (bs : List Attempt) (a b : Attempt) → has (with_bar (Some b) bs) a ≡ (attempt_eq a b || has bs a)
has-barred bs a b = by (has bs b) refl
  where
    by : (t : Bool) → has bs b ≡ t → has (if t then bs else bs ++ b ∷ []) a ≡ (attempt_eq a b || has bs a)
    by false e = has-last bs a b
    by true e = at (attempt_eq a b) refl
      where
        at : (t : Bool) → attempt_eq a b ≡ t → has bs a ≡ (t || has bs a)
        at true q = subst (λ x. has bs x ≡ true) (sym (attempt_eq-true a b q)) e
        at false q = refl

answer-is : (c : Content) (o : Op) → names_answer c o ≡ reply_of_names (Ok (names.answer c o))
unfolding children
answer-is c (MkDirs p) = refl
answer-is c (Create p closed) = refl
answer-is c (Append p bytes) = refl
answer-is c (Close p) = refl
answer-is c (Delete p) = refl
answer-is c (Rename p q) = refl
answer-is c (ListDir p) = refl
answer-is c (Exist p) = refl
answer-is c (Read p) = refl
answer-is c (Bar a) = refl

abbrev why : ℕ → Bool → Bool → Option name.NameFault → Option name.NameFault
why f b t own = option_or (names.first_of ((b, fault.Superseded f) ∷ (t, fault.Barred) ∷ [])) own

reply-cases : (s : names.State) (q : named.Op) (f : ℕ) (b t : Bool) (own : Option name.NameFault) →
    (if t && not b then Refused Barred else (if b then Refused (Superseded f) else unless_refused own (reply_of_names (Ok (names.answer s.content q))))) ≡ reply_of_names (names.settled (why f b t own) s q).0
reply-cases s q f true true own = refl
reply-cases s q f true false own = refl
reply-cases s q f false true own = refl
reply-cases s q f false false None = refl
reply-cases s q f false false (Some x) = refl

stopped-is : (s : names.State) (w : World) → NamesStand s w → (x : Option Attempt) → bars s.barred x ≡ has_option w.barred x
stopped-is s w n None = refl
stopped-is s w n (Some a) = n.barred a

-- why mr_names refuses, in the world's words
why-is : (s : names.State) (w : World) → NamesStand s w → (c : Caller) (o : Op) → names.passes_limit s.barred o ≡ false →
    names.refused s c o ≡ why w.fence (nat_lt c.app w.fence) (has_option w.barred c.attempt) (names.refusal w.content o)
unfolding names.unheard
why-is s w n c o l = rw (l, n.fence, n.content, stopped-is s w n c.attempt) refl

-- the reply is the answer of the call
names-reply : (s : names.State) (w : World) → NamesStand s w → (c : Caller) (o : Op) → names.passes_limit s.barred o ≡ false → reply_to w c (Names o) ≡ reply_of_names (names.call_of s c o).0
unfolding reply_to reply_of refusal
names-reply s w n c o l =
    let e : (if has_option w.barred c.attempt && not (nat_lt c.app w.fence) then Refused Barred else (if nat_lt c.app w.fence then Refused (Superseded w.fence) else unless_refused ((names.refusal w.content o)) (names_answer w.content o))) ≡
    reply_of_names (names.settled (why w.fence (nat_lt c.app w.fence) (has_option w.barred c.attempt) (names.refusal w.content o)) s o).0 =
    rw (answer-is w.content o, sym n.content) (reply-cases s o w.fence (nat_lt c.app w.fence) (has_option w.barred c.attempt) (names.refusal s.content o)) in
    e ∙ ap (λ z. reply_of_names (names.settled z s o).0) (sym (why-is s w n c o l))

-- and so is what it leaves
abbrev asks_for : World → Caller → Op → Bool → Bool → Option Made
asks_for w c o b t = unless_stopped (t && not b) (Some (record { app = c.app; call = Names o; fault = Calm }))

content-cases : (s : names.State) (w : World) → NamesStand s w → (c : Caller) (o : Op) (b t : Bool) (own : Option name.NameFault) → nat_lt c.app w.fence ≡ b → names.refusal w.content o ≡ own →
    (names.settled (why w.fence b t own) s o).1.content ≡ content_after w (asks_for w c o b t)
unfolding refusal left
content-cases s w n c o true true own d e = rw d n.content
content-cases s w n c o true false own d e = rw d n.content
content-cases s w n c o false true own d e = n.content
content-cases s w n c o false false None d e = rw (d, e) (ap (λ z. names.effect z o) n.content)
content-cases s w n c o false false (Some x) d e = rw (d, e) n.content

barred-op : (s : names.State) (w : World) → NamesStand s w → (o : Op) (a : Attempt) → is_barred (names.barred_after s.barred o) a ≡ has (barred_left w.barred (Names o)) a
barred-op s w n (MkDirs p) a = n.barred a
barred-op s w n (Create p closed) a = n.barred a
barred-op s w n (Append p bytes) a = n.barred a
barred-op s w n (Close p) a = n.barred a
barred-op s w n (Delete p) a = n.barred a
barred-op s w n (Rename p q) a = n.barred a
barred-op s w n (ListDir p) a = n.barred a
barred-op s w n (Exist p) a = n.barred a
barred-op s w n (Read p) a = n.barred a
barred-op s w n (Bar b) a = set.contains-insert attempt_total s.barred b a ∙ (rw (same-attempt a b, n.barred a) refl ∙ sym (has-barred w.barred a b))

-- a call that is refused for what the namespace holds is no bar
barred-refused : (s : names.State) (w : World) → NamesStand s w → (o : Op) (a : Attempt) (x : name.NameFault) → names.refusal w.content o ≡ Some x → is_barred s.barred a ≡ has (barred_left w.barred (Names o)) a
barred-refused s w n (MkDirs p) a x e = n.barred a
barred-refused s w n (Create p closed) a x e = n.barred a
barred-refused s w n (Append p bytes) a x e = n.barred a
barred-refused s w n (Close p) a x e = n.barred a
barred-refused s w n (Delete p) a x e = n.barred a
barred-refused s w n (Rename p q) a x e = n.barred a
barred-refused s w n (ListDir p) a x e = n.barred a
barred-refused s w n (Exist p) a x e = n.barred a
barred-refused s w n (Read p) a x e = n.barred a
barred-refused s w n (Bar b) a x e = cc

barred-cases : (s : names.State) (w : World) → NamesStand s w → (c : Caller) (o : Op) (b t : Bool) (own : Option name.NameFault) → nat_lt c.app w.fence ≡ b → names.refusal w.content o ≡ own → (a : Attempt) →
    is_barred (names.settled (why w.fence b t own) s o).1.barred a ≡ has (barred_after w (asks_for w c o b t)) a
barred-cases s w n c o true true own d e a = rw d (n.barred a)
barred-cases s w n c o true false own d e a = rw d (n.barred a)
barred-cases s w n c o false true own d e a = n.barred a
barred-cases s w n c o false false None d e a = rw d (barred-op s w n o a)
barred-cases s w n c o false false (Some x) d e a = rw d (barred-refused s w n o a x e)

fence-cases : (s : names.State) (q : named.Op) (why : Option name.NameFault) → (names.settled why s q).1.fence ≡ s.fence
fence-cases s q None = refl
fence-cases s q (Some x) = refl

names-left : (s : names.State) (w : World) → NamesStand s w → (c : Caller) (o : Op) → names.passes_limit s.barred o ≡ false →
    NamesStand (names.call_of s c o).1 (record w { content = content_after w (made_by w c o); barred = barred_after w (made_by w c o) })
names-left s w n c o l =
    let q = why-is s w n c o l in record {
      content = ap (λ z. (names.settled z s o).1.content) q ∙ content-cases s w n c o (nat_lt c.app w.fence) (has_option w.barred c.attempt) (names.refusal w.content o) refl refl;
      fence = fence-cases s o _ ∙ n.fence;
      barred = λ a. ap (λ z. is_barred (names.settled z s o).1.barred a) q ∙ barred-cases s w n c o (nat_lt c.app w.fence) (has_option w.barred c.attempt) (names.refusal w.content o) refl refl a;
    }

names-raised : (s : names.State) (w : World) (k : ℕ) → NamesStand s w → w.fence ≤ k → NamesStand (names.raised s k) (record w { fence = k })
names-raised s w k n l = record { content = n.content; fence = rw n.fence (omega (arith, l)); barred = n.barred }

-- The history, of one that was raised to k, where a record has room

open-left : (s t : Segment) → s.is_sealed ≡ false → unless_sealed s t ≡ t
open-left s t e = rw e refl

shut-left : (s t : Segment) → s.is_sealed ≡ true → unless_sealed s t ≡ s
shut-left s t e = by s.is_sealed e
  where
    by : (b : Bool) → b ≡ true → (if b then s else t) ≡ s
    by true q = refl
    by false q = cc

module _ (h : State) (w : World) (k : ℕ) (st : Stands h w k) where
  own : Tells (history.segment h k) (w.history k)
  own = st.tells.each k st.from st.to

  shut : (w.history k).is_sealed ≡ (history.segment h k).is_sealed
  shut = tells-shut (history.segment h k) (w.history k) own

  same_reply : (r : Record) (f : ℕ) (b s : Bool) →
      (if b then Refused (Superseded f) else (if s then Sealed else Fine)) ≡ reply_of_history (history.settled (if b then Some (old.Superseded f) else segments.first_of ((s, old.Sealed) ∷ (false, old.Full) ∷ [])) h k (history.Append r)).0
  same_reply r f true s = refl
  same_reply r f false true = refl
  same_reply r f false false = refl

  flush_reply : (f : ℕ) (b s : Bool) →
      (if b then Refused (Superseded f) else (if s then Sealed else Fine)) ≡ reply_of_history (history.settled (if b then Some (old.Superseded f) else segments.first_of ((s, old.Sealed) ∷ [])) h k history.Flush).0
  flush_reply f true s = refl
  flush_reply f false true = refl
  flush_reply f false false = refl

  read_reply : (f : ℕ) (b : Bool) →
      (if b then Refused (Superseded f) else Records (history.records_before h k)) ≡ reply_of_history (history.settled (if b then Some (old.Superseded f) else None) h k history.Read).0
  read_reply f true = refl
  read_reply f false = refl

  fence_is : w.fence ≡ h.fence
  fence_is = sym st.fence

  -- the reply is the answer of the call
  pub history-reply : (call : Store) (q : history.Call) → call_of_history call ≡ Some q → HasRoom h k call → reply_of w k call ≡ reply_of_history (history.call_of h k q).0
  unfolding reply_of
  history-reply (Names o) q e room = cc
  history-reply (Append_record r) q e room = let z : history.Append r ≡ q = cc in
      subst (λ x. reply_of w k (Append_record r) ≡ reply_of_history (history.call_of h k x).0) z (rw (fence_is, shut, room.2) (same_reply r h.fence (nat_lt k h.fence) (history.segment h k).is_sealed))
  history-reply Flush q e room = let z : history.Flush ≡ q = cc in
      subst (λ x. reply_of w k Flush ≡ reply_of_history (history.call_of h k x).0) z (rw (fence_is, shut) (flush_reply h.fence (nat_lt k h.fence) (history.segment h k).is_sealed))
  history-reply Read_history q e room = let z : history.Read ≡ q = cc in
      subst (λ x. reply_of w k Read_history ≡ reply_of_history (history.call_of h k x).0) z (rw (fence_is, read) (read_reply h.fence (nat_lt k h.fence)))
    where
      read : records_below w.history k ≡ history.records_before h k
      read = let a = st.from in let b = st.to in tells-before h w.history k st.tells st.from (omega arith)

  tells-same : TellsAll h (with_segment w.history k (w.history k))
  tells-same = record {
    none = let q = kept 0 in rw q st.tells.none;
    each = λ j a b. let q = kept j in rw q (st.tells.each j a b);
  }
    where
      kept : (j : ℕ) → with_segment w.history k (w.history k) j ≡ w.history j
      kept j = by (nat_eq j k) refl
        where
          by : (b : Bool) → nat_eq j k ≡ b → (if b then w.history k else w.history j) ≡ w.history j
          by true e = ap w.history (sym (eqb-true j k e))
          by false e = refl

  abbrev pub Left : State → Bool → Store → Type 0
  Left g b call = TellsAll g (if not b then with_segment w.history k (segment_left (w.history k) call) else w.history)

  append-left : (r : Record) (f : ℕ) → HasRoom h k (Append_record r) → (b s : Bool) → (history.segment h k).is_sealed ≡ s →
      Left (history.settled (if b then Some (old.Superseded f) else segments.first_of ((s, old.Sealed) ∷ (false, old.Full) ∷ [])) h k (history.Append r)).1 b (Append_record r)
  append-left r f room true s e = st.tells
  append-left r f room false true e = subst (λ (z : Segment). TellsAll h (with_segment w.history k z)) (sym (shut-left (w.history k) (appended (w.history k) r) (shut ∙ e))) tells-same
  append-left r f room false false e = subst (λ (z : Segment). TellsAll (history.with_segment h k (segments.appended r (history.segment h k))) (with_segment w.history k z)) (sym (open-left (w.history k) (appended (w.history k) r) (shut ∙ e))) (tells-with h w.history k _ _ st.tells st.from st.to (tells-appended (history.segment h k) (w.history k) r own e (rw (e, room.2) refl) room.0 room.1))

  flush-left : (f : ℕ) (b s : Bool) → (history.segment h k).is_sealed ≡ s →
      Left (history.settled (if b then Some (old.Superseded f) else segments.first_of ((s, old.Sealed) ∷ [])) h k history.Flush).1 b Flush
  flush-left f true s e = st.tells
  flush-left f false true e = subst (λ (z : Segment). TellsAll h (with_segment w.history k z)) (sym (shut-left (w.history k) (flushed (w.history k)) (shut ∙ e))) tells-same
  flush-left f false false e = subst (λ (z : Segment). TellsAll (history.with_segment h k (segments.flushed (history.segment h k))) (with_segment w.history k z)) (sym (open-left (w.history k) (flushed (w.history k)) (shut ∙ e))) (tells-with h w.history k _ _ st.tells st.from st.to (tells-flushed (history.segment h k) (w.history k) own e))

  read-left : (f : ℕ) (b : Bool) → Left (history.settled (if b then Some (old.Superseded f) else None) h k history.Read).1 b Read_history
  read-left f true = st.tells
  read-left f false = tells-same

  -- and what it leaves tells the model's records
  pub history-left : (call : Store) (q : history.Call) → call_of_history call ≡ Some q → HasRoom h k call → Left (history.call_of h k q).1 (nat_lt k w.fence) call
  history-left (Names o) q e room = cc
  history-left (Append_record r) q e room = let z : history.Append r ≡ q = cc in
      subst (λ x. Left (history.call_of h k x).1 (nat_lt k w.fence) (Append_record r)) z (rw (fence_is, room.2) (append-left r h.fence room (nat_lt k h.fence) (history.segment h k).is_sealed refl))
  history-left Flush q e room = let z : history.Flush ≡ q = cc in
      subst (λ x. Left (history.call_of h k x).1 (nat_lt k w.fence) Flush) z (rw fence_is (flush-left h.fence (nat_lt k h.fence) (history.segment h k).is_sealed refl))
  history-left Read_history q e room = let z : history.Read ≡ q = cc in
      subst (λ x. Left (history.call_of h k x).1 (nat_lt k w.fence) Read_history) z (rw fence_is (read-left h.fence (nat_lt k h.fence)))

-- all segments after a raise, and after a crash
pub raise-tells : (h : State) (w : World) (k kept version : ℕ) → TellsAll h w.history → history.AreUnraised h → h.fence < k → lines.IsVersion version → TellsAll (history.raised k kept version h) (with_version version k (sealed_below k kept w.history))
raise-tells h w k kept version t u l v = tells-raised h w.history k kept version t u l v

pub crash-tells : (h : State) (w : World) (k kept : ℕ) → Stands h w k → TellsAll (history.sealed_at k kept h) (with_segment w.history k (sealed kept (w.history k)))
crash-tells h w k kept st = tells-with h w.history k _ _ st.tells st.from st.to (tells-sealed (history.segment h k) (w.history k) kept (st.tells.each k st.from st.to))

-- at first all segments are fresh
opening-tells : (n : ℕ) → TellsAll (record { segments = replicate n (segments.fresh 1); fence = 0 }) opening_world.history
opening-tells n = record { none = (refl, refl); each = λ j a b. subst (λ z. Tells z fresh) (sym (fresh_at n (j - 1))) (tells-fresh 1 (omega arith, omega arith)) }
  where
    fresh_at : (n i : ℕ) → get_or (replicate n (segments.fresh 1)) i (segments.fresh 1) ≡ segments.fresh 1
    fresh_at zero i = refl
    fresh_at (suc n) zero = refl
    fresh_at (suc n) (suc i) = fresh_at n i

pub stores_are_the_models : StoresAreTheModels
stores_are_the_models = record {
  names_reply = names-reply;
  names_left = names-left;
  names_raised = names-raised;
  history_reply = history-reply;
  history_left = history-left;
  unflushed = λ h w k st. tells-length (history.segment h k) (w.history k) (st.tells.each k st.from st.to);
  winners = λ rs t. (winner-reads rs t, length-reads rs t);
  opening = opening-tells;
  raised = raise-tells;
  crashed = crash-tells;
}
