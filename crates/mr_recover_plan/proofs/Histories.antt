-- Segment after segment.
use Rattle.std.proofs.Common.{◌≡◌, ◌+◌, inl, inr, ℕ, List, [], ◌∷◌, ◌++◌, Some, None, refl, sym, ap, subst, ◌∙◌, append_assoc, append-nil}
use Rattle.mr_history.specs.declared.record.Record.{Record}
use Rattle.mr_history.specs.Reading.{bad_line, records_of}
use Rattle.mr_recover.specs.Plan.{IsPlan}
use Rattle.mr_recover.specs.declared.plan.Recovery.{Recovery}
use Rattle.mr_recover.specs.declared.plan.Staging.{Staging}
use Rattle.mr_recover_plan.specs.Order.{AreInOrder}
use Rattle.mr_recover_plan.specs.Plans.{AreWhole, FirstRefused, PlanFails, Plans, deciding, records_in}
use Rattle.mr_recover_plan.specs.declared.fault.PlanFault.{PlanFault}
use Rattle.mr_recover_plan.specs.declared.fault.PlanFault.TheVariants as fault
use Rattle.mr_recover_plan.specs.inner.Segments.{FailsAt, latest_behind}
use Rattle.mr_recover_plan.proofs.Orders.{ordered}

-- the segments that were read are whole and in order, and these are their records; what the rest says is what all say
pub record HasRead (all rest : List (List ℕ)) (n latest : ℕ) (records : List Record) : Type 0 where
  pub whole : AreWhole rest → AreWhole all
  pub is : records ++ records_in rest ≡ records_in all
  pub behind : latest_behind 0 records ≡ Some latest
  pub bad : (e : PlanFault) → FirstRefused (n + 1) records rest e → FirstRefused 1 [] all e

pub none_read : (all : List (List ℕ)) → HasRead all all 0 0 []
none_read all = record { whole = λ w. w; is = refl; behind = refl; bad = λ e b. b }

pub one_more : (all left : List (List ℕ)) (bytes : List ℕ) (rest : List (List ℕ)) (n latest next : ℕ) (records more : List Record) → HasRead all left n latest records → left ≡ bytes ∷ rest → bad_line bytes ≡ None →
    more ≡ records ++ records_of bytes → latest_behind 0 more ≡ Some next → HasRead all rest (n + 1) next more
one_more all left bytes rest n latest next records more read is whole put behind =
    let order : AreInOrder (records ++ records_of bytes) = subst AreInOrder put (ordered more next behind) in
    record {
      whole = λ w. read.whole (subst AreWhole (sym is) (whole, w));
      is = ap (λ x. x ++ records_in rest) put ∙ append_assoc records (records_of bytes) (records_in rest) ∙ ap (λ x. records ++ records_in x) (sym is) ∙ read.is;
      behind = behind;
      bad = λ e b. read.bad e (subst (λ x. FirstRefused (n + 1) records x e) (sym is) (inr ((whole, order), subst (λ x. FirstRefused (n + 1 + 1) x rest e) put b)));
    }

pub fails : (all left : List (List ℕ)) (bytes : List ℕ) (rest : List (List ℕ)) (n latest : ℕ) (records : List Record) (e : PlanFault) → HasRead all left n latest records → left ≡ bytes ∷ rest → FailsAt (n + 1) records bytes e → PlanFails all e
fails all left bytes rest n latest records (fault.BadLine s l) read is at = read.bad (fault.BadLine s l) (subst (λ x. FirstRefused (n + 1) records x (fault.BadLine s l)) (sym is) (inl at))
fails all left bytes rest n latest records (fault.EarlierGeneration s) read is at = read.bad (fault.EarlierGeneration s) (subst (λ x. FirstRefused (n + 1) records x (fault.EarlierGeneration s)) (sym is) (inl at))
fails all left bytes rest n latest records fault.NoMemory read is at = tt

pub all_read : (all : List (List ℕ)) (n latest : ℕ) (records : List Record) → HasRead all [] n latest records → records ≡ records_in all
all_read all n latest records read = sym (append-nil records) ∙ read.is

pub all_whole : (all : List (List ℕ)) (n latest : ℕ) (records : List Record) → HasRead all [] n latest records → AreWhole all
all_whole all n latest records read = read.whole tt

pub are_ordered : (all rest : List (List ℕ)) (n latest : ℕ) (records : List Record) → HasRead all rest n latest records → AreInOrder records
are_ordered all rest n latest records read = ordered records latest read.behind

pub plans : (segments : List (List ℕ)) (records read slice : List Record) (staging marks : Staging) (plan : Recovery) → AreWhole segments → AreInOrder records → records ≡ records_in segments → read ≡ records →
    marks ≡ deciding read staging → slice ≡ records → IsPlan slice marks plan → Plans segments staging plan
plans segments records read slice staging marks plan whole order is told decide same planned =
    let all : slice ≡ records_in segments = same ∙ is in
    let by : marks ≡ deciding slice staging = decide ∙ ap (λ (rs : List Record). deciding rs staging) (told ∙ sym same) in
    record { whole = whole; order = subst AreInOrder is order; is = subst (λ (rs : List Record). IsPlan rs (deciding rs staging) plan) all (subst (λ (m : Staging). IsPlan slice m plan) by planned) }
