-- What a master that reads the records R of the earlier generations keeps true of what it has seen.
use Rattle.std.proofs.Common.{ℕ, ◌≡◌, refl, sym, ◌∙◌, ap, subst, Bool, true, false, ◌&&◌, not, List, [], ◌∷◌, ◌++◌, Option, Some, None, if◌then◌else◌, is_some, nat_eq, nat_lt, nat_le, ◌⊎◌, inl, inr}
use Rattle.std.proofs.lemmas.Bool.{and_parts, false≢true, not-true}
use Rattle.mr_world_model.specs.Ids.{Attempt, ContainerId, is_reduce}
use Rattle.mr_world_model.specs.Records.{Record, winner_in, ReduceSucceeded, MapSucceeded, AttemptFailed, JobUnsuccessful}
use Rattle.mr_world_model.specs.Packets.{Config, Packet, Launch, Kill, Fetch, Won, Outcome, Pending, Poll, Done, Failed, Ended, NodeUp, Where, FetchLost, Answer, DoneAck, MapReady, Piece, Store, Reply, Names, Append_record, Flush, Read_history}
use Rattle.mr_world_model.specs.Content.{bar_of}
use Rattle.mr_world_model.proofs.Closed.{expired-by, bar-by}
use Rattle.mr_world_model.specs.Hearing.{Seen, Phase, Launched, Ending, Placed, has, find_launched, named_in, is_named, is_attempt, may_accept, is_live, heard, after_ask, after_end, after_ended, end_there, only_known, success_record, expired, is_running, ended_by, over_with, failures, is_won, find_container, can_hear}
use Rattle.mr_world_model.specs.Duties.{told, worked, with_phase, with_read, is_fine, is_read, rest_of}
use Rattle.mr_world_model.specs.Claims.{In}
use Rattle.mr_world_model.proofs.Basic.{if_cases}
use Rattle.mr_world_model.proofs.Lists.{In-parts, attempt_eq-true, not-has, found_launched, named-more, named-ended}

-- of the reduce attempts: those launched have no earlier winner; those accepted are named; the successes due or in the tail are accepted
pub record Steady (R : List Record) (launched : List Launched) (accepted asked : List Attempt) (ended : List Ending) (due tail : List Record) : Type 0 where
  pub launches : (l : Launched) → In l launched → is_reduce l.attempt ≡ true → winner_in R l.attempt.task ≡ None
  pub accepts : (a : Attempt) → In a accepted → is_reduce a ≡ true → winner_in R a.task ≡ None
  pub named : (a : Attempt) → In a accepted → is_reduce a ≡ true → named_in asked ended a.task ≡ Some a
  pub dues : (a : Attempt) (z : Option ℕ) → In (ReduceSucceeded a z) due → In a accepted × (is_reduce a ≡ true)
  pub tails : (a : Attempt) (z : Option ℕ) → In (ReduceSucceeded a z) tail → In a accepted × (is_reduce a ≡ true)

abbrev pub SteadyOf : List Record → Seen → Type 0
SteadyOf R s = Steady R s.launched s.accepted s.asked s.ended s.due s.tail

-- two accepted attempts of one reduce are one
pub one_accepted : (R : List Record) (s : Seen) → SteadyOf R s → (a b : Attempt) → In a s.accepted → In b s.accepted →
    (is_reduce a) ≡ true → is_reduce b ≡ true → b.task ≡ a.task → b ≡ a
one_accepted R s o a b i j p q e =
    let u = o.named a i p in
    let v : named_in s.asked s.ended a.task ≡ Some b = subst (λ t. named_in s.asked s.ended t ≡ Some b) e (o.named b j q) in
    cc (u, v)

-- an attempt that is not accepted ends
ends_one : (R : List Record) (s : Seen) (a : Attempt) (f : Bool) (due : List Record) → has s.accepted a ≡ false →
    ((b : Attempt) (z : Option ℕ) → In (ReduceSucceeded b z) due → In (ReduceSucceeded b z) s.due) → SteadyOf R s →
    Steady R s.launched s.accepted s.asked (record { attempt = a; is_failure = f } ∷ s.ended) due s.tail
ends_one R s a f due n d o = record {
  launches = o.launches;
  accepts = o.accepts;
  named = λ b i p. named-ended s.asked _ s.ended b.task b (not-has s.accepted a b n i) (o.named b i p);
  dues = λ b z i. o.dues b z (d b z i);
  tails = o.tails;
}

live_not-accepted : (s : Seen) (a : Attempt) → is_live s a ≡ true → has s.accepted a ≡ false
live_not-accepted s a e = not-true _ (and_parts _ _ (and_parts _ _ e).1).0

no_success : (rs more : List Record) → ((b : Attempt) (z : Option ℕ) → In (ReduceSucceeded b z) more → ⊥) → (b : Attempt) (z : Option ℕ) → In (ReduceSucceeded b z) (rs ++ more) → In (ReduceSucceeded b z) rs
no_success rs more n b z i = by (In-parts _ rs more i)
  where
    by : In (ReduceSucceeded b z) rs ⊎ In (ReduceSucceeded b z) more → In (ReduceSucceeded b z) rs
    by (inl j) = j
    by (inr j) = absurd (n b z j)

ended_by-steady : (cfg : Config) (R : List Record) (s : Seen) (a : Attempt) (f : Bool) → is_live s a ≡ true → SteadyOf R s → SteadyOf R (ended_by cfg s a f)
ended_by-steady cfg R s a false e o = ends_one R s a false s.due (live_not-accepted s a e) (λ b z i. i) o
ended_by-steady cfg R s a true e o =
    if_cases (SteadyOf R) (nat_le cfg.limit (failures (over_with s a true) a) && not (is_won s (is_reduce a) a.task)) _ _
    (λ t. ends_one R s a true _ (live_not-accepted s a e) (no_success s.due _ two) o)
    (λ t. ends_one R s a true _ (live_not-accepted s a e) (no_success s.due _ one) o)
  where
    one : (b : Attempt) (z : Option ℕ) → In (ReduceSucceeded b z) (AttemptFailed a ∷ []) → ⊥
    one b z (inl e) = cc
    one b z (inr i) = i

    two : (b : Attempt) (z : Option ℕ) → In (ReduceSucceeded b z) (AttemptFailed a ∷ JobUnsuccessful ∷ []) → ⊥
    two b z (inl e) = cc
    two b z (inr (inl e)) = cc
    two b z (inr (inr i)) = i

after_end-steady : (cfg : Config) (R : List Record) (s : Seen) (a : Attempt) (f : Bool) → SteadyOf R s → SteadyOf R (after_end cfg s a f)
after_end-steady cfg R s a f o = if_cases (SteadyOf R) (is_live s a) _ _ (λ e. ended_by-steady cfg R s a f e o) (λ e. o)

after_ended-steady : (cfg : Config) (R : List Record) (s : Seen) (c : ContainerId) (l : Option Launched) → SteadyOf R s → SteadyOf R (after_ended cfg s c l)
after_ended-steady cfg R s c None o = o
after_ended-steady cfg R s c (Some l) o = after_end-steady cfg R s _ _ o

end_there-steady : (R : List Record) (n i : ℕ) (ls : List Launched) (s : Seen) → SteadyOf R s → SteadyOf R (end_there n i ls s)
end_there-steady R n i [] s o = o
end_there-steady R n i (l ∷ ls) s o =
    if_cases (SteadyOf R) (nat_eq l.node n && (nat_lt l.incarnation i && is_live s l.attempt)) _ _
    (λ t. end_there-steady R n i ls _ (ends_one R s l.attempt false s.due (live_not-accepted s l.attempt (and_parts _ _ (and_parts _ _ t).1).1) (λ b z j. j) o))
    (λ t. end_there-steady R n i ls s o)

after_ask-steady : (R : List Record) (s : Seen) (a : Attempt) → SteadyOf R s → SteadyOf R (after_ask s a)
after_ask-steady R s a o = if_cases (SteadyOf R) (is_some (find_launched s.launched a) && not (has s.asked a)) _ _
    (λ t. record { launches = o.launches; accepts = o.accepts; named = λ b i p. named-more s.asked _ s.ended b.task b (o.named b i p); dues = o.dues; tails = o.tails })
    (λ t. o)

is_attempt-true : (m : Option Attempt) (a : Attempt) → is_attempt m a ≡ true → m ≡ Some a
is_attempt-true None a e = absurd (false≢true e)
is_attempt-true (Some b) a e = ap Some (sym (attempt_eq-true a b e))

is_named-true : (s : Seen) (a : Attempt) → is_named s a ≡ true → named_in s.asked s.ended a.task ≡ Some a
is_named-true s a e = is_attempt-true _ a (and_parts _ _ e).1

if_true : {A : Type 0} (b : Bool) (x y : A) → b ≡ true → (if b then x else y) ≡ x
if_true true x y e = refl
if_true false x y e = absurd (false≢true e)

success_record-is : (a b : Attempt) (y z : Option ℕ) (l : Option Launched) → ReduceSucceeded b z ≡ success_record a y l → (b ≡ a) × (is_reduce a ≡ true)
success_record-is a b y z None e = cc
success_record-is a b y z (Some l) e = by (is_reduce a) refl e
  where
    by : (t : Bool) → is_reduce a ≡ t → ReduceSucceeded b z ≡ (if t then ReduceSucceeded a y else MapSucceeded a l.node l.incarnation) → (b ≡ a) × (is_reduce a ≡ true)
    by true q e = (cc, q)
    by false q e = cc

done-steady : (R : List Record) (s : Seen) (a : Attempt) (y : Option ℕ) (st : List Placed) → SteadyOf R s → may_accept s a ≡ true →
    Steady R s.launched (a ∷ s.accepted) s.asked s.ended (s.due ++ success_record a y (find_launched s.launched a) ∷ []) s.tail
done-steady R s a y st o e = record {
  launches = o.launches;
  accepts = accepts;
  named = named;
  dues = λ b z i. due b z (In-parts _ s.due _ i);
  tails = λ b z i. let r = o.tails b z i in (inr r.0, r.1);
}
  where
    found : is_some (find_launched s.launched a) ≡ true
    found = (and_parts _ _ e).0

    none : is_reduce a ≡ true → winner_in R a.task ≡ None
    none p = let l = found_launched s.launched a found in
        subst (λ x. winner_in R x.task ≡ None) l.2 (o.launches l.0 l.1 (subst (λ x. (is_reduce x) ≡ true) (sym l.2) p))

    accepts : (b : Attempt) → In b (a ∷ s.accepted) → is_reduce b ≡ true → winner_in R b.task ≡ None
    accepts b (inl q) p = subst (λ x. winner_in R x.task ≡ None) q (none (subst (λ x. (is_reduce x) ≡ true) (sym q) p))
    accepts b (inr i) p = o.accepts b i p

    named : (b : Attempt) → In b (a ∷ s.accepted) → is_reduce b ≡ true → named_in s.asked s.ended b.task ≡ Some b
    named b (inl q) p = subst (λ x. named_in s.asked s.ended x.task ≡ Some x) q
        (is_named-true s a (sym (if_true (is_reduce a) _ _ (subst (λ x. (is_reduce x) ≡ true) (sym q) p)) ∙ (and_parts _ _ (and_parts _ _ e).1).1))
    named b (inr i) p = o.named b i p

    due : (b : Attempt) (z : Option ℕ) → In (ReduceSucceeded b z) s.due ⊎ In (ReduceSucceeded b z) (success_record a y (find_launched s.launched a) ∷ []) → In b (a ∷ s.accepted) × (is_reduce b ≡ true)
    due b z (inl i) = let r = o.dues b z i in (inr r.0, r.1)
    due b z (inr (inl q)) = let r = success_record-is a b y z _ (sym q) in (inl (sym r.0), subst (λ x. (is_reduce x) ≡ true) (sym r.0) r.1)
    due b z (inr (inr i)) = absurd i

pub heard-steady : (cfg : Config) (R : List Record) (s : Seen) (p : Packet) → SteadyOf R s → SteadyOf R (heard cfg s p)
unfolding heard
heard-steady cfg R s (Pending a) o = after_ask-steady R s a o
heard-steady cfg R s (Poll a) o = after_ask-steady R s a o
heard-steady cfg R s (Done a z) o = if_cases (SteadyOf R) (may_accept s a) _ _ (done-steady R s a z s.standing o) (λ t. o)
heard-steady cfg R s (Failed a) o = after_end-steady cfg R s a true o
heard-steady cfg R s (Ended c) o = after_ended-steady cfg R s c _ o
heard-steady cfg R s (NodeUp n i) o = if_cases (SteadyOf R) (nat_lt (s.known n) i) _ _ (λ t. end_there-steady R n i s.launched _ o) (λ t. o)
heard-steady cfg R s (Where c m) o = o
heard-steady cfg R s (FetchLost c a) o = if_cases (SteadyOf R) (is_some (find_container s.launched c) && has s.recorded a) _ _ (λ t. o) (λ t. o)
heard-steady cfg R s (Launch c a i) o = o
heard-steady cfg R s (Kill c) o = o
heard-steady cfg R s (Fetch c a r i off) o = o
heard-steady cfg R s (Won t a) o = o
heard-steady cfg R s (Outcome b) o = o
heard-steady cfg R s (Answer a b) o = o
heard-steady cfg R s (DoneAck a) o = o
heard-steady cfg R s (MapReady m a n i) o = o
heard-steady cfg R s (Piece a r off total b) o = o

pub only_known-steady : (R : List Record) (s : Seen) (p : Packet) → SteadyOf R s → SteadyOf R (only_known s p)
only_known-steady R s (NodeUp n i) o = if_cases (SteadyOf R) (can_hear s.phase && nat_lt (s.known n) i) _ _ (λ t. o) (λ t. o)
only_known-steady R s _ o = o

pub expired-steady : (R : List Record) (n : ℕ) (s : Seen) → SteadyOf R s → SteadyOf R (expired n s)
expired-steady R n s o = expired-by (SteadyOf R) (λ u a t v. ends_one R u a false u.due (live_not-accepted u a t) (λ b z i. i) v) n s (λ st ks bs. o)

-- The answers of store calls

tail_of : (rs : List Record) (b : Record) → In b (rest_of rs) → In b rs
tail_of [] b i = i
tail_of (r ∷ rs) b i = inr i

-- an appended record is the first that is due
abbrev pub IsFirstDue : Seen → Store → Type 0
IsFirstDue s (Append_record r) = In r s.due
IsFirstDue s (Names op) = Unit {0}
IsFirstDue s Flush = Unit {0}
IsFirstDue s Read_history = Unit {0}

appended-steady : (R : List Record) (s : Seen) (r : Record) → In r s.due → SteadyOf R s →
    Steady R s.launched s.accepted s.asked s.ended (rest_of s.due) (s.tail ++ r ∷ [])
appended-steady R s r d o = record {
  launches = o.launches;
  accepts = o.accepts;
  named = o.named;
  dues = λ b z i. o.dues b z (tail_of s.due _ i);
  tails = λ b z i. by b z (In-parts _ s.tail _ i);
}
  where
    by : (b : Attempt) (z : Option ℕ) → In (ReduceSucceeded b z) s.tail ⊎ In (ReduceSucceeded b z) (r ∷ []) → In b s.accepted × (is_reduce b ≡ true)
    by b z (inl i) = o.tails b z i
    by b z (inr (inl q)) = o.dues b z (subst (λ x. In x s.due) q d)
    by b z (inr (inr i)) = absurd i

worked-steady : (R : List Record) (s : Seen) (call : Store) → IsFirstDue s call → SteadyOf R s → SteadyOf R (worked s call)
worked-steady R s (Append_record x) d o = appended-steady R s x d o
worked-steady R s Flush d o = record { launches = o.launches; accepts = o.accepts; named = o.named; dues = o.dues; tails = λ b z i. absurd i }
worked-steady R s (Names op) d o = bar-by (SteadyOf R) s (bar_of op) (λ a t ks. ends_one R s a false s.due (live_not-accepted s a t) (λ b z i. i) o) o
worked-steady R s Read_history d o = o

phased-steady : (R : List Record) (s : Seen) (p : Phase) → SteadyOf R s → SteadyOf R (with_phase p s)
phased-steady R s p o = if_cases (SteadyOf R) (is_running p && not (is_running s.phase)) _ _ (λ t. o) (λ t. o)

read-steady : (cfg : Config) (R : List Record) (s : Seen) (call : Store) (r : Reply) → SteadyOf R s → SteadyOf R (with_read cfg s call r)
read-steady cfg R s call r o = if_cases (SteadyOf R) (is_read call) _ _ (λ t. o) (λ t. o)

pub told-steady : (cfg : Config) (k : ℕ) (R : List Record) (s : Seen) (call : Store) (r : Reply) → IsFirstDue s call → SteadyOf R s → SteadyOf R (told cfg k s call r)
unfolding told
told-steady cfg k R s call r d o =
    phased-steady R _ _ (read-steady cfg R _ call r (if_cases (SteadyOf R) (is_fine r) _ _ (λ t. worked-steady R s call d o) (λ t. o)))
