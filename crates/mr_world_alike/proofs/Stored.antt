-- Where two worlds are alike, a store answers the same, and what a call leaves of the stores is alike.
use Rattle.std.proofs.Common.{ℕ, ◌≡◌, refl, sym, ◌∙◌, ap, Bool, true, false, ◌&&◌, ◌||◌, not, List, [], ◌∷◌, ◌++◌, Option, Some, None, if◌then◌else◌, nat_lt}
use Rattle.std.specs.Option.{option_or}
use Rattle.mr_world_model.specs.Ids.{Attempt, attempt_eq}
use Rattle.mr_world_model.specs.Content.{Superseded, Barred, bar_of, refusal}
use Rattle.mr_world_model.specs.Records.{records_below, with_segment, with_version, sealed_below, sealed}
use Rattle.mr_world_model.specs.Packets.{Config, Caller, Store, Names, Append_record, Flush, Read_history, Fine, Records, Refused, Sealed, Envelope}
use Rattle.mr_world_model.specs.Hearing.{has}
use Rattle.mr_world_model.specs.World.{World, Event, Start, Crash, Weather, Calm, Unavailable, Unanswered, Made, names_answer, unless_refused, own_reply, reply_of, reply_to, has_option, is_stopped, is_applied, names_left, with_bar, barred_left, segment_left}
use Rattle.mr_world_model.specs.Effect.{content_after, barred_after, history_called, history_after, fence_after, version_of}
use Rattle.mr_world_model.specs.Results.{told_by, first_told}
use Rattle.mr_world_alike.proofs.Raised.{Same}

-- ---- lists of bars

or-assoc : (x y z : Bool) → (x || (y || z)) ≡ ((x || y) || z)
or-assoc true y z = refl
or-assoc false y z = refl

has-append : (bs cs : List Attempt) (a : Attempt) → has (bs ++ cs) a ≡ (has bs a || has cs a)
has-append [] cs a = refl
has-append (b ∷ bs) cs a = ap (λ x. attempt_eq a b || x) (has-append bs cs a) ∙ or-assoc (attempt_eq a b) (has bs a) (has cs a)

has-if : (a : Attempt) (b c : Bool) (xs ys xs' ys' : List Attempt) → b ≡ c → has xs a ≡ has xs' a → has ys a ≡ has ys' a → has (if b then xs else ys) a ≡ has (if c then xs' else ys') a
has-if a b c xs ys xs' ys' p f g = by b ∙ ap (λ d. has (if d then xs' else ys') a) p
  where
    by : (d : Bool) → has (if d then xs else ys) a ≡ has (if d then xs' else ys') a
    by true = f
    by false = g

-- ---- the outcome

pub first-append : (xs ys : List Envelope) → first_told (xs ++ ys) ≡ option_or (first_told xs) (first_told ys)
first-append [] ys = refl
first-append (x ∷ xs) ys = by (told_by x.body) (first-append xs ys)
  where
    by : (o : Option Bool) → first_told (xs ++ ys) ≡ option_or (first_told xs) (first_told ys) → option_or o (first_told (xs ++ ys)) ≡ option_or (option_or o (first_told xs)) (first_told ys)
    by (Some b) q = refl
    by None q = q

module _ (cfg : Config) (w u : World) (e : Same cfg w u) where
  own-same : (k : ℕ) (call : Store) → own_reply w k call ≡ own_reply u k call
  own-same k (Names op) = λ i. unless_refused (refusal (e.content i) op) (names_answer (e.content i) op)
  own-same k (Append_record r) = let h = e.history k in λ i. if (h i).is_sealed then Sealed else Fine
  own-same k Flush = let h = e.history k in λ i. if (h i).is_sealed then Sealed else Fine
  own-same k Read_history = λ i. Records (records_below (λ j. e.history j i) k)

  pub reply-same : (k : ℕ) (call : Store) → reply_of w k call ≡ reply_of u k call
  unfolding reply_of
  reply-same k call = let own = own-same k call in λ i. if nat_lt k (e.fence i) then Refused (Superseded (e.fence i)) else own i

  option-same : (o : Option Attempt) → has_option w.barred o ≡ has_option u.barred o
  option-same None = refl
  option-same (Some a) = e.barred a

  pub stopped-same : (c : Caller) → is_stopped w c ≡ is_stopped u c
  stopped-same c = let o = option-same c.attempt in λ i. o i && not (nat_lt c.app (e.fence i))

  pub reply-to-same : (c : Caller) (call : Store) → reply_to w c call ≡ reply_to u c call
  unfolding reply_to
  reply-to-same c call = let s = stopped-same c in let r = reply-same c.app call in λ i. if s i then Refused Barred else r i

  applied-same : (k : ℕ) (f : Weather) → is_applied w k f ≡ is_applied u k f
  applied-same k Calm = λ i. not (nat_lt k (e.fence i))
  applied-same k Unavailable = refl
  applied-same k Unanswered = λ i. not (nat_lt k (e.fence i))

  -- ---- what a call leaves

  pub content-same : (m : Option Made) → content_after w m ≡ content_after u m
  content-same None = e.content
  content-same (Some m) = let a = applied-same m.app m.fault in λ i. if a i then names_left (e.content i) m.call else e.content i

  with-bar-same : (o : Option Attempt) (a : Attempt) → has (with_bar o w.barred) a ≡ has (with_bar o u.barred) a
  with-bar-same None a = e.barred a
  with-bar-same (Some b) a =
      has-if a (has w.barred b) (has u.barred b) w.barred (w.barred ++ b ∷ []) u.barred (u.barred ++ b ∷ []) (e.barred b) (e.barred a)
      (has-append w.barred (b ∷ []) a ∙ (ap (λ x. x || has (b ∷ []) a) (e.barred a) ∙ sym (has-append u.barred (b ∷ []) a)))

  barred-left-same : (call : Store) (a : Attempt) → has (barred_left w.barred call) a ≡ has (barred_left u.barred call) a
  barred-left-same (Names op) a = with-bar-same (bar_of op) a
  barred-left-same (Append_record r) a = e.barred a
  barred-left-same Flush a = e.barred a
  barred-left-same Read_history a = e.barred a

  pub barred-same : (m : Option Made) (a : Attempt) → has (barred_after w m) a ≡ has (barred_after u m) a
  barred-same None a = e.barred a
  barred-same (Some m) a =
      has-if a (is_applied w m.app m.fault) (is_applied u m.app m.fault) (barred_left w.barred m.call) w.barred (barred_left u.barred m.call) u.barred
      (applied-same m.app m.fault) (barred-left-same m.call a) (e.barred a)

  called-same : (m : Option Made) (j : ℕ) → history_called w m j ≡ history_called u m j
  called-same None j = e.history j
  called-same (Some m) j =
      let a = applied-same m.app m.fault in
      let here = e.history m.app in
      λ i. (if a i then with_segment (λ k. e.history k i) m.app (segment_left (here i) m.call) else (λ k. e.history k i)) j

  pub history-same : (x : Event) (m : Option Made) (j : ℕ) → history_after cfg w x m j ≡ history_after cfg u x m j
  history-same (Start k kept) m j = λ i. with_version (version_of cfg k) k (sealed_below k kept (λ n. e.history n i)) j
  history-same (Crash k kept) m j = let here = e.history k in λ i. with_segment (λ n. e.history n i) k (sealed kept (here i)) j
  history-same _ m j = called-same m j

  pub fence-same : (x : Event) → fence_after w x ≡ fence_after u x
  fence-same (Start k kept) = refl
  fence-same _ = e.fence
