-- A success that was told means the marker, and then a reader sees the sequential execution's files.
use Rattle.std.proofs.Common.{◌≡◌, ◌↔◌, ℕ, Bool, true, List, length, map, nat_eq, Some, IsTrue, refl, rules}
use Rattle.std.proofs.lemmas.Slice.Eq.{slice_eq-Decides}
use Rattle.std.specs.Bool.{Decides}
use Rattle.std.specs.Cmp.Lexicographic.{pointwise}
use Rattle.mr_user.specs.Computation.{Computation}
use Rattle.mr_world_events.specs.contracts.plan.PlanFaultPartialEq.TheImpl as planned
use Rattle.mr_world_events.specs.declared.plan.PlanFault.{PlanFault}
use Rattle.mr_shuffle.specs.SequentialText.{AreSplits}
use Rattle.mr_world_model.specs.Claims.{IsMarked}
use Rattle.mr_world_model.specs.Packets.{Config}
use Rattle.mr_world_model.specs.Results.{outcome, visible}
use Rattle.mr_world_model.proofs.Outcomes.{outcomes_agree}
use Rattle.mr_world_model.proofs.Results.{results_stay}
use Rattle.mr_world_files.specs.Jobs.{job_of, LawsOf}
use Rattle.mr_world_files.specs.Shown.{ShowsSequential, MarkedWorldsShowSequential}
use Rattle.mr_board.specs.mr_world.specs.Journal.{Journal, world_in}
use Rattle.mr_board.specs.mr_world.specs.Limits.{within}
use Rattle.mr_board.specs.mr_world.specs.Ranges.{IsInRange}
use Rattle.mr_board.specs.mr_world_state.specs.contracts.config.ConfigPartialEq.TheImpl as compared
use Rattle.mr_board.specs.mr_world.specs.VisibleFiles.{as_pair}
use Rattle.mr_board.specs.mr_world.specs.declared.results.VisibleFile.{VisibleFile}
use Rattle.mr_board.specs.mr_world.proofs.Headlines.{outputs-are-bounded}
use Rattle.mr_board.specs.Boards.{IsFaithfulFor}
use Rattle.mr_board_report.specs.Following.{Follows}
use Rattle.mr_board_report.specs.Reports.{IsReported, IsThrough}
use Rattle.mr_board_report.specs.declared.plan.Plan.{Plan}

pub numbers-decide : (a b : ℕ) → Decides (nat_eq a b) (a ≡ b)
numbers-decide = search (rules)

pub texts-decide : (a b : List ℕ) → Decides (pointwise nat_eq a b) (a ≡ b)
texts-decide a b = slice_eq-Decides numbers-decide a b _ refl

pub splits-decide : (a b : List (List ℕ)) → Decides (pointwise (pointwise nat_eq) a b) (a ≡ b)
splits-decide a b = slice_eq-Decides texts-decide a b _ refl

-- `==` of two configs holds exactly where they are equal
pub same_config : (a b : Config) → Decides (compared.eq-value.it a b) (a ≡ b)
same_config = search (rules, splits-decide)

-- and of the faults of plans
fault-decides : (a b : PlanFault) → Decides (planned.eq-value.it a b) (a ≡ b)
fault-decides = search (rules)

pub same_faults : (a b : List PlanFault) → Decides (pointwise planned.eq-value.it a b) (a ≡ b)
same_faults a b = slice_eq-Decides fault-decides a b _ refl

pub marked : (j : Journal) → outcome (world_in j) ≡ Some true → IsMarked (world_in j)
marked j told = (outcomes_agree j.config (within j.config)).marked j.events ((results_stay j.config (within j.config)).outcome_told j.events true told)

pub shows : {K V : Type 0} (job : Computation K V) (j : Journal) → LawsOf job → MarkedWorldsShowSequential → IsInRange j.config → AreSplits j.config.splits → IsFaithfulFor job j →
    outcome (world_in j) ≡ Some true → ShowsSequential (job_of job) j.config (world_in j)
shows job j laws show range splits faithful told =
    show (job_of job) j.config (within j.config) (laws j.config splits) (outputs-are-bounded j.config) range.reduces.1 j.events faithful (marked j told)

-- a report of a world that was looked at
pub report_is : {K V : Type 0} (job : Computation K V) (plan : Plan) (j : Journal) (succeeded : Bool) (files : List VisibleFile) (by : List ℕ) → LawsOf job → MarkedWorldsShowSequential → IsInRange j.config → AreSplits j.config.splits → IsFaithfulFor job j →
    j.config ≡ plan.config → Follows plan j → length by ≡ length j.events → IsThrough j → map as_pair files ≡ visible (world_in j) → IsTrue succeeded ↔ (outcome (world_in j) ≡ Some true) → IsReported job plan succeeded files by j
report_is job plan j succeeded files by laws show range splits faithful same follows noted through seen told = record {
  config_is = same;
  follows = follows;
  noted = noted;
  faithful = faithful;
  through = through;
  seen = seen;
  told = told.0;
  tells = told.1;
  sequential = λ yes. shows job j laws show range splits faithful (told.0 yes);
}
