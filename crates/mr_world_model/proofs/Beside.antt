-- What the four facts need beside them: of a recorded attempt's rivals, of the newest committed directory, of yeses, ends and failed commits.
use Rattle.std.proofs.Common.{ℕ, zero, suc, ◌≤◌, ◌<◌, ◌+◌, ◌≡◌, refl, sym, ◌∙◌, subst, true, false, List, ◌++◌, Option, Some, None, is_some, is_none, ◌⊎◌, inl, inr, arith}
use Rattle.std.proofs.lemmas.Bool.{false≢true, true≢false}
use Rattle.mr_ids.specs.Generations.{first_attempt_number, generation_of}
use Rattle.mr_ids.proofs.Generations.{only_own}
use Rattle.mr_world_model.specs.Ids.{Attempt, ContainerId, is_reduce, generation}
use Rattle.mr_world_model.specs.Records.{ReduceSucceeded, History, Record, records_below}
use Rattle.mr_world_model.specs.Packets.{Config, Answer, Done}
use Rattle.mr_world_model.specs.Pasts.{Place}
use Rattle.mr_world_model.specs.Hearing.{Phase, Running, Failing, Launched, has, is_over, named_in}
use Rattle.mr_world_model.specs.World.{World, Event, seen_by, opening_world}
use Rattle.mr_world_model.specs.Effect.{run}
use Rattle.mr_world_model.specs.Sending.{to_app, to_container}
use Rattle.mr_world_model.specs.Claims.{Limits, In, world_of, records, IsRecorded, IsQuiet, HoldsWhole, IsReduce}
use Rattle.mr_world_model.specs.Beside.{OnlyTheRecordedMayCommit, NewestCommittedIsItsOwn, runs_or_fails, OverIsGoneOrBarred, AbortsAreMarked}
use Rattle.mr_world_model.proofs.Basic.{along, run-append}
use Rattle.mr_world_model.proofs.Lists.{In-left, In-parts, Each-In}
use Rattle.mr_world_model.proofs.Closed.{NamedOrOver}
use Rattle.mr_world_model.proofs.Told.{Honest}
use Rattle.mr_world_model.proofs.Cluster.{IsLaunched, IsGone, IsOut, EnvelopeFits, launched_as, lives-on, gone_after, launched_after}
use Rattle.mr_world_model.proofs.Numbers.{Numbers, IsNumbered, numbers, opening-numbers}
use Rattle.mr_world_model.proofs.Reports.{Sender, SaysDone}
use Rattle.mr_world_model.proofs.Steps.{newest}
use Rattle.mr_world_model.proofs.Marks.{FailPhase}
use Rattle.mr_world_model.proofs.Dirs.{Known, R, AllHold, PhaseDirs}
use Rattle.mr_world_model.proofs.Fates.{accepted-holds}
use Rattle.mr_world_model.proofs.Found.{Sure, always, as-whole}
use Rattle.mr_world_model.proofs.Recorded.{SuccessIn}
use Rattle.mr_world_model.proofs.One_recorded.{recorded-case, old-winner}
use Rattle.mr_world_model.proofs.Outcomes.{ever}

-- Whose success is recorded was accepted by the master of its generation

pub record AcceptedAt (cfg : Config) (w : World) (a : Attempt) : Type 0 where
  pub by : ℕ
  pub old : by ≤ w.fence
  pub accepted : In a (seen_by cfg w by).accepted
  pub reduce : is_reduce a ≡ true

-- among the stable records of generations below n
below-at : (h : History) (n : ℕ) (r : Record) → In r (records_below h n) → (k : ℕ) × (k < n) × In r (h k).stable
unfolding records_below
below-at h zero r i = absurd i
below-at h (suc n) r i = by (In-parts r (records_below h n) (h n).stable i) (below-at h n r)
  where
    by : In r (records_below h n) ⊎ In r (h n).stable → (In r (records_below h n) → (k : ℕ) × (k < n) × In r (h k).stable) → (k : ℕ) × (k < suc n) × In r (h k).stable
    by (inl j) f = let q = f j in let l = q.1 in (q.0, omega arith, q.2)
    by (inr j) f = (n, omega arith, j)

pub accepted-at : (cfg : Config) (w : World) → Honest cfg w → (a : Attempt) → IsRecorded cfg w a → AcceptedAt cfg w a
accepted-at cfg w h a i = by (recorded-case cfg w h a i)
  where
    by : SuccessIn a (records_below w.history w.fence) ⊎ (In a (seen_by cfg w w.fence).accepted × (is_reduce a ≡ true)) → AcceptedAt cfg w a
    by (inl s) = let q = below-at w.history w.fence (ReduceSucceeded a s.0) s.1 in let l = q.1 in
        let acc = h.held q.0 a s.0 (In-left (ReduceSucceeded a s.0) (w.history q.0).stable (w.history q.0).tail q.2) in
        record { by = q.0; old = omega arith; accepted = acc.0; reduce = acc.1 }
    by (inr s) = record { by = w.fence; old = omega arith; accepted = s.0; reduce = s.1 }

-- who was accepted was launched there
pub record LaunchedAt (cfg : Config) (w : World) (k : ℕ) (a : Attempt) : Type 0 where
  pub launch : Launched
  pub here : IsLaunched cfg w k launch
  pub attempt : launch.attempt ≡ a

pub launched-at : (cfg : Config) (w : World) → Known cfg w → (k : ℕ) (a : Attempt) → In a (seen_by cfg w k).accepted → is_reduce a ≡ true → LaunchedAt cfg w k a
launched-at cfg w kn k a i d =
    let s : Sender cfg w k a = (let m = kn.masters.said k a i in Each-In (SaysDone cfg w) w.bag kn.reports.done (to_app k (Done a m.0)) m.1 k a m.0 refl d) in
    record { launch = launched_as s.0 s.1.attempt s.1.node s.1.incarnation; here = subst (λ z. IsLaunched cfg w z (launched_as s.0 s.1.attempt s.1.node s.1.incarnation)) s.2 (kn.cluster.places s.0 s.1 s.4).0; attempt = s.3 }

pub numbers-always : (cfg : Config) (within : Limits) (es : List Event) → Numbers cfg (world_of cfg within es)
numbers-always cfg within es = along (Numbers cfg) cfg within (λ w e o n. numbers cfg w e o n) opening_world es (opening-numbers cfg)

generation-is : (n k : ℕ) → 1 ≤ k → first_attempt_number k ≤ n → n < first_attempt_number k + 1000 → generation_of n ≡ k
generation-is n k p l u = only_own n k p l (omega arith)

pub in-generation : (cfg : Config) (w : World) → Numbers cfg w → Known cfg w → (k : ℕ) (a : Attempt) → In a (seen_by cfg w k).accepted → is_reduce a ≡ true → generation a ≡ k
in-generation cfg w o kn k a i d = let l = launched-at cfg w kn k a i d in let r : IsNumbered k l.launch = o.ranged k l.launch l.here in
    subst (λ (z : Attempt). generation z ≡ k) l.attempt (generation-is l.launch.attempt.number k r.0 r.1.0 r.1.1)

-- No other container of its master and reduce may commit

pub recorded-alone : (cfg : Config) (w : World) → Numbers cfg w → Known cfg w → (a b : Attempt) (c : ContainerId) → IsRecorded cfg w a → c.app ≡ generation a → b.task ≡ a.task →
    w.is_alive c ≡ true → has w.barred b ≡ false → In (to_container c (Answer b true)) w.bag → b ≡ a
recorded-alone cfg w o kn a b c i g t live free j = by f.4
  where
    x : AcceptedAt cfg w a
    x = accepted-at cfg w kn.honest a i

    app : c.app ≡ x.by
    app = g ∙ in-generation cfg w o kn x.by a x.accepted x.reduce

    f : (l : Launched) × IsLaunched cfg w c.app l × (l.container ≡ c) × (l.attempt ≡ b) × NamedOrOver b (seen_by cfg w c.app) × (is_reduce b ≡ true)
    f = Each-In (EnvelopeFits cfg w) w.bag kn.cluster.packets _ j

    lives : is_over (seen_by cfg w c.app).ended b ≡ false
    lives = subst (λ z. is_over (seen_by cfg w c.app).ended z ≡ false) f.3
        (lives-on cfg w kn.cluster c.app f.0 f.1 (subst (λ z. is_reduce z ≡ true) (sym f.3) f.5) (subst (λ z. w.is_alive z ≡ true) (sym f.2) live) (subst (λ z. has w.barred z ≡ false) (sym f.3) free))

    mine : named_in (seen_by cfg w c.app).asked (seen_by cfg w c.app).ended a.task ≡ Some a
    mine = subst (λ z. named_in (seen_by cfg w z).asked (seen_by cfg w z).ended a.task ≡ Some a) (sym app) ((kn.honest.steady x.by x.old).named a x.accepted x.reduce)

    by : NamedOrOver b (seen_by cfg w c.app) → b ≡ a
    by (inl v) = absurd (true≢false (sym v ∙ lives))
    by (inr v) = let u : named_in (seen_by cfg w c.app).asked (seen_by cfg w c.app).ended a.task ≡ Some b = subst (λ z. named_in (seen_by cfg w c.app).asked (seen_by cfg w c.app).ended z ≡ Some b) t v in cc (u, mine)

-- a yes is for what the container was launched as
yes-own : (cfg : Config) (w : World) → Known cfg w → (b : Attempt) (c : ContainerId) (p : Place) → w.place c ≡ Some p → In (to_container c (Answer b true)) w.bag → b ≡ p.attempt
yes-own cfg w kn b c p q j = by (Each-In (EnvelopeFits cfg w) w.bag kn.cluster.packets _ j)
  where
    by : (l : Launched) × IsLaunched cfg w c.app l × (l.container ≡ c) × (l.attempt ≡ b) × NamedOrOver b (seen_by cfg w c.app) × (is_reduce b ≡ true) → b ≡ p.attempt
    by f = sym f.3 ∙ subst (λ (z : Launched). z.attempt ≡ p.attempt) ((kn.cluster.distinct c.app).containers (launched_as c p.attempt p.node p.incarnation) f.0 (kn.cluster.places c p q).0 f.1 (sym f.2)) refl

pub only_the_recorded : (cfg : Config) (within : Limits) → OnlyTheRecordedMayCommit cfg within
only_the_recorded cfg within es a b c p i g q t l f j = recorded-alone cfg (world_of cfg within es) (numbers-always cfg within es) kn a p.attempt c i g t l f
    (subst (λ z. In (to_container c (Answer z true)) (world_of cfg within es).bag) (yes-own cfg (world_of cfg within es) kn b c p q j) j)
  where
    kn : Known cfg (world_of cfg within es)
    kn = (always cfg within es).known

-- The newest committed directory is the newest master's own

own-holds : (cfg : Config) (w : World) → Sure cfg w → IsQuiet w → runs_or_fails (newest cfg w).phase ≡ true → (a : Attempt) → IsRecorded cfg w a → HoldsWhole w w.fence a.task a
own-holds cfg w s q r a i = by (recorded-case cfg w s.known.honest a i)
  where
    all : (p : Phase) → runs_or_fails p ≡ true → FailPhase (records w) p → PhaseDirs cfg w w.fence (R w) p → AllHold cfg w w.fence (R w)
    all Running e f d = d
    all (Failing false) e f d = d
    all (Failing true) e f d = absurd (q.not_unsuccessful f)
    all p e f d = absurd (false≢true e)

    small : IsReduce cfg a.task
    small = let x = accepted-at cfg w s.known.honest a i in let l = launched-at cfg w s.known x.by a x.accepted x.reduce in
        subst (λ (z : Attempt). IsReduce cfg z.task) l.attempt (s.known.masters.small x.by l.launch l.here (subst (λ z. is_reduce z ≡ true) (sym l.attempt) x.reduce))

    by : SuccessIn a (records_below w.history w.fence) ⊎ (In a (newest cfg w).accepted × (is_reduce a ≡ true)) → HoldsWhole w w.fence a.task a
    by (inl j) = as-whole w w.fence a.task a (all (newest cfg w).phase r s.marks.fail (s.dirs q).phase a.task a small (old-winner cfg w s.known.honest w.fence (omega arith) a j))
    by (inr j) = as-whole w w.fence a.task a (accepted-holds cfg w s.known (s.dirs q) a j.0 j.1)

pub newest_is_own : (cfg : Config) (within : Limits) → NewestCommittedIsItsOwn cfg within
newest_is_own cfg within es a q r i = own-holds cfg (world_of cfg within es) (always cfg within es) q r a i

-- An end is an end

gone-later : (cfg : Config) (within : Limits) (w : World) (fs : List Event) (k : ℕ) (l : Launched) → Sure cfg w → IsLaunched cfg w k l → IsGone w l → IsGone (run cfg within w fs) l
gone-later cfg within w fs k l s i g = (along (λ u. Sure cfg u × IsLaunched cfg u k l × IsGone u l) cfg within
    (λ u e o n. (Rattle.mr_world_model.proofs.Found.sure cfg u e o.0 n, launched_after cfg u e k l o.1, gone_after cfg u e o.0.known.cluster k l o.1 o.2)) w fs (s, i, g)).2

pub over_is_gone : (cfg : Config) (within : Limits) → OverIsGoneOrBarred cfg within
over_is_gone cfg within es fs k l i d o = by g.3
  where
    s : Sure cfg (world_of cfg within es)
    s = always cfg within es

    g : (m : Launched) × IsLaunched cfg (world_of cfg within es) k m × (m.attempt ≡ l.attempt) × IsOut (world_of cfg within es) m
    g = s.known.cluster.over k l.attempt d o

    same : g.0 ≡ l
    same = (s.known.cluster.distinct k).attempts g.0 l g.1 i g.2

    by : IsOut (world_of cfg within es) g.0 → ((world_of cfg within (es ++ fs)).is_alive l.container ≡ false) ⊎ (has (world_of cfg within es).barred l.attempt ≡ true)
    by (inl x) = inl (subst (λ u. u.is_alive l.container ≡ false) (sym (run-append cfg within opening_world es fs))
        (gone-later cfg within (world_of cfg within es) fs k l s i (subst (IsGone (world_of cfg within es)) same x)).not_alive)
    by (inr b) = inr (subst (λ z. has (world_of cfg within es).barred z ≡ true) g.2 b)

-- A failed commit is marked

there-some : {A : Type 0} (o : Option A) → is_none o ≡ false → is_some o ≡ true
there-some None e = absurd (true≢false e)
there-some (Some x) e = refl

pub aborts_are_marked : (cfg : Config) (within : Limits) → AbortsAreMarked cfg within
aborts_are_marked cfg within es k q = there-some _ ((ever cfg within es).outcomes.aborting k q)
