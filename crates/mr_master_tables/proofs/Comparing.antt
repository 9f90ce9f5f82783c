-- What `==` says of lists that tables keep: it holds exactly where they are equal.
use Rattle.std.proofs.Common.{◌≡◌, ◌&&◌, ℕ, Bool, Option, Some, None, List, nat_eq, refl, sym, ap, ap₂, ◌∙◌, rules, true≢false}
use Rattle.std.proofs.lemmas.Bool.{false≢true}
use Rattle.std.proofs.lemmas.Bool.Decides.{Decides-and, Decides-like}
use Rattle.std.proofs.lemmas.Slice.Eq.{slice_eq-Decides}
use Rattle.std.specs.Bool.{Decides, beq}
use Rattle.std.specs.Cmp.{booleans_Decides}
use Rattle.std.specs.Cmp.Lexicographic.{pointwise}
use Rattle.std.specs.Option.{option_eq}
use Rattle.mr_history.specs.contracts.record.RecordPartialEq.TheImpl as told
use Rattle.mr_history.specs.declared.record.Record.{Record}
use Rattle.mr_history.specs.declared.record.Record.TheVariants as record_of
use Rattle.mr_ids.specs.Attempt.{Attempt}
use Rattle.mr_ids.specs.contracts.id.AttemptIdPartialEq.TheImpl as attempt
use Rattle.mr_ids.proofs.Same.{attempt-is, attempt-itself}
use Rattle.mr_master_model.specs.contracts.launch.LaunchPartialEq.TheImpl as launch
use Rattle.mr_master_model.specs.declared.launch.Launch.{Launch}
use Rattle.mr_packet.specs.contracts.packet.ContainerIdPartialEq.TheImpl as container
use Rattle.mr_packet.specs.declared.packet.ContainerId.{ContainerId}

attempt-decides : (a b : Attempt) → Decides (attempt.eq-value.it a b) (a ≡ b)
attempt-decides a b = (attempt-is a b, λ e. ap (attempt.eq-value.it a) (sym e) ∙ attempt-itself a)

pub attempts_decide : (a b : List Attempt) → Decides (pointwise attempt.eq-value.it a b) (a ≡ b)
attempts_decide a b = slice_eq-Decides attempt-decides a b _ refl

pub bools_decide : (a b : List Bool) → Decides (pointwise beq a b) (a ≡ b)
bools_decide a b = slice_eq-Decides booleans_Decides a b _ refl

numbers-decide : (a b : ℕ) → Decides (nat_eq a b) (a ≡ b)
numbers-decide = search (rules)

containers-decide : (c d : ContainerId) → Decides (container.eq-value.it c d) (c ≡ d)
containers-decide c d =
    let both = Decides-and _ _ (numbers-decide c.app d.app) (numbers-decide c.number d.number) in (
      λ e. let w = both.0 e in λ i. record { app = w.0 i; number = w.1 i },
      λ e. both.1 (ap (λ (x : ContainerId). x.app) e, ap (λ (x : ContainerId). x.number) e),
    )

launch-decides : (a b : Launch) → Decides (launch.eq-value.it a b) (a ≡ b)
launch-decides a b =
    let all = Decides-and _ _ (containers-decide a.container b.container) (Decides-and _ _ (numbers-decide a.node b.node) (numbers-decide a.incarnation b.incarnation)) in (
      λ e. let w = all.0 e in λ i. record { container = w.0 i; node = w.1.0 i; incarnation = w.1.1 i },
      λ e. all.1 (ap (λ (x : Launch). x.container) e, (ap (λ (x : Launch). x.node) e, ap (λ (x : Launch). x.incarnation) e)),
    )

launched-decides : (p q : Attempt × Launch) → Decides (attempt.eq-value.it p.0 q.0 && launch.eq-value.it p.1 q.1) (p ≡ q)
launched-decides p q =
    Decides-like (attempt.eq-value.it p.0 q.0 && launch.eq-value.it p.1 q.1) (λ (e : (p.0 ≡ q.0) × (p.1 ≡ q.1)). λ i. (e.0 i, e.1 i)) (λ (e : p ≡ q). (ap (λ (r : Attempt × Launch). r.0) e, ap (λ (r : Attempt × Launch). r.1) e))
    (Decides-and (attempt.eq-value.it p.0 q.0) (launch.eq-value.it p.1 q.1) (attempt-decides p.0 q.0) (launch-decides p.1 q.1))

pub launches_decide : (a b : List (Attempt × Launch)) → Decides (pointwise (λ (p q : Attempt × Launch). attempt.eq-value.it p.0 q.0 && launch.eq-value.it p.1 q.1) a b) (a ≡ b)
launches_decide a b = slice_eq-Decides {E = λ (p q : Attempt × Launch). attempt.eq-value.it p.0 q.0 && launch.eq-value.it p.1 q.1} launched-decides a b _ refl

lengths-decide : (b d : Option ℕ) → Decides (option_eq nat_eq b d) (b ≡ d)
lengths-decide None None = (λ e. refl, λ e. refl)
lengths-decide None (Some d) = (λ e. absurd (cc), λ e. absurd (cc))
lengths-decide (Some b) None = (λ e. absurd (cc), λ e. absurd (cc))
lengths-decide (Some b) (Some d) = (λ e. ap Some ((numbers-decide b d).0 e), λ e. let same : b ≡ d = cc in (numbers-decide b d).1 same)

-- which record it is
abbrev record_place : Record → ℕ
record_place (record_of.AttemptStarted attempt node) = 0
record_place (record_of.MapSucceeded attempt node incarnation) = 1
record_place (record_of.ReduceSucceeded attempt bytes) = 2
record_place (record_of.AttemptFailed attempt) = 3
record_place record_of.JobUnsuccessful = 4

record-decides : (a b : Record) → Decides (told.eq-value.it a b) (a ≡ b)
record-decides (record_of.AttemptStarted a n) (record_of.AttemptStarted b m) =
    let both = Decides-and _ _ (attempt-decides a b) (numbers-decide n m) in (
      λ e. let w = both.0 e in ap₂ record_of.AttemptStarted w.0 w.1,
      λ e. let x : a ≡ b = cc in let y : n ≡ m = cc in both.1 (x, y),
    )
record-decides (record_of.AttemptStarted a n) _ = (λ e. absurd (false≢true e), λ e. absurd (true≢false (ap (λ (x : Record). nat_eq 0 (record_place x)) e)))
record-decides (record_of.MapSucceeded a n k) (record_of.MapSucceeded b m j) =
    let all = Decides-and _ _ (attempt-decides a b) (Decides-and _ _ (numbers-decide n m) (numbers-decide k j)) in (
      λ e. let w = all.0 e in λ i. record_of.MapSucceeded (w.0 i) (w.1.0 i) (w.1.1 i),
      λ e. let x : a ≡ b = cc in let y : n ≡ m = cc in let z : k ≡ j = cc in all.1 (x, (y, z)),
    )
record-decides (record_of.MapSucceeded a n k) _ = (λ e. absurd (false≢true e), λ e. absurd (true≢false (ap (λ (x : Record). nat_eq 1 (record_place x)) e)))
record-decides (record_of.ReduceSucceeded a n) (record_of.ReduceSucceeded b m) =
    let both = Decides-and _ _ (attempt-decides a b) (lengths-decide n m) in (
      λ e. let w = both.0 e in ap₂ record_of.ReduceSucceeded w.0 w.1,
      λ e. let x : a ≡ b = cc in let y : n ≡ m = cc in both.1 (x, y),
    )
record-decides (record_of.ReduceSucceeded a n) _ = (λ e. absurd (false≢true e), λ e. absurd (true≢false (ap (λ (x : Record). nat_eq 2 (record_place x)) e)))
record-decides (record_of.AttemptFailed a) (record_of.AttemptFailed b) = (λ e. ap record_of.AttemptFailed ((attempt-decides a b).0 e), λ e. let x : a ≡ b = cc in (attempt-decides a b).1 x)
record-decides (record_of.AttemptFailed a) _ = (λ e. absurd (false≢true e), λ e. absurd (true≢false (ap (λ (x : Record). nat_eq 3 (record_place x)) e)))
record-decides record_of.JobUnsuccessful record_of.JobUnsuccessful = (λ e. refl, λ e. refl)
record-decides record_of.JobUnsuccessful _ = (λ e. absurd (false≢true e), λ e. absurd (true≢false (ap (λ (x : Record). nat_eq 4 (record_place x)) e)))

pub records_decide : (a b : List Record) → Decides (pointwise told.eq-value.it a b) (a ≡ b)
records_decide a b = slice_eq-Decides record-decides a b _ refl
