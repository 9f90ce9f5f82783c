-- A reduce has at most one attempt that is recorded, and until job commit or abort its whole file is kept.
use Rattle.std.proofs.Common.{ℕ, zero, suc, ◌≤◌, ◌≡◌, refl, sym, subst, List, [], ◌∷◌, Option, Some, None, ◌⊎◌, inl, inr, arith, ap, ◌∙◌}
use Rattle.mr_world_model.specs.Ids.{Attempt, is_reduce, task_eq}
use Rattle.mr_world_model.proofs.Names.{task_eq-is}
use Rattle.mr_world_model.specs.Records.{Record, ReduceSucceeded, AttemptStarted, MapSucceeded, AttemptFailed, JobUnsuccessful, records_below, winner_in}
use Rattle.mr_world_model.specs.Packets.{Config}
use Rattle.mr_world_model.specs.World.{World, seen_by}
use Rattle.mr_world_model.specs.Claims.{In, Limits, world_of, IsRecorded, OneAttemptIsRecorded, IsQuiet, NewestHolds, CommittedFileIsTheWinners}
use Rattle.mr_world_model.proofs.Lists.{In-left, In-right, In-parts}
use Rattle.mr_world_model.proofs.Sound.{one_accepted}
use Rattle.mr_world_model.proofs.Told.{Honest}
use Rattle.mr_world_model.proofs.Recorded.{SuccessIn}
use Rattle.mr_world_model.proofs.Found.{always, Sure, newest-holds, as-whole}
use Rattle.mr_world_model.proofs.Basic.{winner-append}
use Rattle.mr_world_model.proofs.Fates.{winner-In, accepted-holds}
use Rattle.std.proofs.Common.{Bool, true, false, if◌then◌else◌}

-- what is among the records has a winner
some-winner : (rs : List Record) (a : Attempt) (z : Option ℕ) → In (ReduceSucceeded a z) rs → winner_in rs a.task ≡ None → ⊥
unfolding winner_in
some-winner [] a z i e = i
some-winner (ReduceSucceeded b y ∷ rs) a z (inl q) e = let p : b ≡ a = cc in by (task_eq b.task a.task) (task_eq-is b.task a.task (subst (λ (z : Attempt). b.task ≡ z.task) p refl)) e
  where
    by : (t : Bool) → t ≡ true → (if t then Some b else winner_in rs a.task) ≡ None → ⊥
    by true q e = cc
    by false q e = cc
some-winner (ReduceSucceeded b y ∷ rs) a z (inr i) e = by (task_eq b.task a.task) e (some-winner rs a z i)
  where
    by : (t : Bool) → (if t then Some b else winner_in rs a.task) ≡ None → (winner_in rs a.task ≡ None → ⊥) → ⊥
    by true e f = cc
    by false e f = f e
some-winner (AttemptStarted b n ∷ rs) a z (inl q) e = cc
some-winner (AttemptStarted b n ∷ rs) a z (inr i) e = some-winner rs a z i e
some-winner (MapSucceeded b n j ∷ rs) a z (inl q) e = cc
some-winner (MapSucceeded b n j ∷ rs) a z (inr i) e = some-winner rs a z i e
some-winner (AttemptFailed b ∷ rs) a z (inl q) e = cc
some-winner (AttemptFailed b ∷ rs) a z (inr i) e = some-winner rs a z i e
some-winner (JobUnsuccessful ∷ rs) a z (inl q) e = cc
some-winner (JobUnsuccessful ∷ rs) a z (inr i) e = some-winner rs a z i e

module _ (cfg : Config) (w : World) (h : Honest cfg w) where
  abbrev pub Accepted : ℕ → Attempt → Type 0
  Accepted k a = In a (seen_by cfg w k).accepted × (is_reduce a ≡ true)

  stable-accepted : (k : ℕ) (a : Attempt) → SuccessIn a (w.history k).stable → Accepted k a
  stable-accepted k a i = h.held k a i.0 (In-left (ReduceSucceeded a i.0) (w.history k).stable (w.history k).tail i.1)

  two-accepted : (k : ℕ) → k ≤ w.fence → (a b : Attempt) → Accepted k a → Accepted k b → a.task ≡ b.task → a ≡ b
  two-accepted k l a b i j e = one_accepted (records_below w.history k) (seen_by cfg w k) (h.steady k l) b a j.0 i.0 j.1 i.1 e

  -- an earlier record and an accepted attempt are of different reduces
  old-new : (k : ℕ) → k ≤ w.fence → (a b : Attempt) → SuccessIn a (records_below w.history k) → Accepted k b → a.task ≡ b.task → ⊥
  old-new k l a b i j e = some-winner (records_below w.history k) a i.0 i.1 (subst (λ t. winner_in (records_below w.history k) t ≡ None) (sym e) ((h.steady k l).accepts b j.0 j.1))

  meet : (k : ℕ) → k ≤ w.fence → (a b : Attempt) → SuccessIn a (records_below w.history k) ⊎ Accepted k a → SuccessIn b (records_below w.history k) ⊎ Accepted k b → a.task ≡ b.task →
      (SuccessIn a (records_below w.history k) → SuccessIn b (records_below w.history k) → a ≡ b) → a ≡ b
  meet k l a b (inl i) (inl j) e f = f i j
  meet k l a b (inl i) (inr j) e f = absurd (old-new k l a b i j e)
  meet k l a b (inr i) (inl j) e f = absurd (old-new k l b a j i (sym e))
  meet k l a b (inr i) (inr j) e f = two-accepted k l a b i j e

  split : (k : ℕ) (a : Attempt) → SuccessIn a (records_below w.history (suc k)) → SuccessIn a (records_below w.history k) ⊎ Accepted k a
  unfolding records_below
  split k a i = by (In-parts (ReduceSucceeded a i.0) (records_below w.history k) (w.history k).stable i.1)
    where
      by : In (ReduceSucceeded a i.0) (records_below w.history k) ⊎ In (ReduceSucceeded a i.0) (w.history k).stable → SuccessIn a (records_below w.history k) ⊎ Accepted k a
      by (inl j) = inl (i.0, j)
      by (inr j) = inr (stable-accepted k a (i.0, j))

  below-one : (k : ℕ) → k ≤ suc w.fence → (a b : Attempt) → SuccessIn a (records_below w.history k) → SuccessIn b (records_below w.history k) → a.task ≡ b.task → a ≡ b
  unfolding records_below
  below-one zero l a b i j e = absurd i.1
  below-one (suc k) l a b i j e = meet k (omega arith) a b (split k a i) (split k b j) e (λ x y. below-one k (omega arith) a b x y e)

  pub recorded-case : (a : Attempt) → IsRecorded cfg w a → SuccessIn a (records_below w.history w.fence) ⊎ Accepted w.fence a
  recorded-case a (z, inl i) = split w.fence a (z, i)
  recorded-case a (z, inr (inl i)) = inr (h.held w.fence a z (In-right (ReduceSucceeded a z) (w.history w.fence).stable (w.history w.fence).tail i))
  recorded-case a (z, inr (inr i)) = inr ((h.steady w.fence (omega arith)).dues a z i)

  pub recorded-one : (a b : Attempt) → IsRecorded cfg w a → IsRecorded cfg w b → a.task ≡ b.task → a ≡ b
  recorded-one a b i j e = meet w.fence (omega arith) a b (recorded-case a i) (recorded-case b j) e (λ x y. below-one w.fence (omega arith) a b x y e)

  -- what is among the records of earlier generations is their winner
  pub old-winner : (k : ℕ) → k ≤ suc w.fence → (a : Attempt) → SuccessIn a (records_below w.history k) → winner_in (records_below w.history k) a.task ≡ Some a
  old-winner k l a i = by (winner_in (records_below w.history k) a.task) refl
    where
      by : (o : Option Attempt) → winner_in (records_below w.history k) a.task ≡ o → winner_in (records_below w.history k) a.task ≡ Some a
      by None q = absurd (some-winner (records_below w.history k) a i.0 i.1 q)
      by (Some b) q = let x = winner-In (records_below w.history k) a.task b q in q ∙ ap Some (below-one k l b a (x.0, x.1) i x.2)

-- its whole file is in the newest committed directory
recorded-holds : (cfg : Config) (w : World) → Sure cfg w → IsQuiet w → (a : Attempt) → IsRecorded cfg w a → NewestHolds w a.task a
unfolding records_below
recorded-holds cfg w s q a i = by (recorded-case cfg w s.known.honest a i)
  where
    by : SuccessIn a (records_below w.history w.fence) ⊎ Accepted cfg w s.known.honest w.fence a → NewestHolds w a.task a
    by (inl j) = newest-holds cfg w s q a.task a (winner-append (records_below w.history w.fence) (w.history w.fence).stable a.task a (old-winner cfg w s.known.honest w.fence (omega arith) a j))
    by (inr j) = record { at = w.fence; old = omega arith; here = as-whole w w.fence a.task a (accepted-holds cfg w s.known (s.dirs q) a j.0 j.1); none_newer = λ n l u. absurd (omega (arith, l, u)) }

pub winners_are_kept : (cfg : Config) (within : Limits) → CommittedFileIsTheWinners cfg within
winners_are_kept cfg within es a q i = recorded-holds cfg (world_of cfg within es) (always cfg within es) q a i

pub one_recorded : (cfg : Config) (within : Limits) → OneAttemptIsRecorded cfg within
one_recorded cfg within = record {
  sealed = λ es j l. (always cfg within es).known.honest.is_aged.older_sealed j l;
  one = λ es a b i j e. recorded-one cfg (world_of cfg within es) (always cfg within es).known.honest a b i j e;
}
