-- Of an input of which no run comes near a limit one text is printed.
use Rattle.std.proofs.Common.{◌≡◌, ◌⊎◌, ◌<◌, ◌≤◌, inl, inr, ℕ, Bool, true, false, nat_lt, nltb→le, ltb→lt, List, Option, Some, None, refl, sym, ap, subst, ◌∙◌, arith}
use Rattle.std.specs.Bool.{fails, passes}
use Rattle.mr_script.specs.declared.expectation.Expectation.{Expectation}
use Rattle.mr_sim_commands.proofs.Reduces.{seq_not_both}
use Rattle.mr_sim_commands.specs.Laws.{OneSeqText}
use Rattle.mr_play.specs.Text.{job_line}
use Rattle.mr_explore_search.specs.Runs.{Run}
use Rattle.mr_explore.specs.Ends.{AreFilesOf}
use Rattle.mr_explore.specs.Faults.{most_events}
use Rattle.mr_explore.specs.Laws.{ExploredOrRefused}
use Rattle.mr_explore.specs.Runs.{Exploring, IsRunOf, explored}
use Rattle.mr_explore_likeness.specs.Careful.{careful}
use Rattle.mr_explore_least.specs.Table.{Arrival, Table}
use Rattle.mr_explore_least.proofs.Earlier.{not_so, true_and_false}
use Rattle.mr_explore_merged.specs.Came.{CameCarefully, CameSo, SomePassLimit}
use Rattle.mr_explore_merged.specs.Laws.{IsFarFromLimits, OneTextIsPrinted}
use Rattle.mr_explore_merged.specs.Merged.{AreEnough, HasSought, sought, told_text}
use Rattle.mr_explore_merged.proofs.Labels.{has_few, of_few, of_more}
use Rattle.mr_explore_merged.proofs.LeastTold.{one_list}

-- ---- what is found of one run

module _ (most : ℕ) (input : List ℕ) (far : IsFarFromLimits most input) (first : Exploring) (is_run : IsRunOf input first) where
  -- each run by no more faults is one of which no look ahead passes a limit
  is_careful : (m : ℕ) (a : Arrival) → m ≤ most → CameSo m first a → CameCarefully m first a
  is_careful m a le c =
      let c2 = far.careful first a is_run (record { run = c.run; one = of_more explored most_events m most first (Run a.faults c.run) c.one le; goes = c.goes; is = c.is }) in
      record { run = c2.run; one = of_few careful most_events most m a.faults first c2.run c2.one (has_few explored most_events m a.faults first c.run c.one); goes = c2.goes; is = c2.is }

  none_passes : (m : ℕ) → m ≤ most → SomePassLimit m first → ⊥
  none_passes m le p = far.within first is_run (record { faults = p.faults; run = p.run; one = of_more explored most_events m most first (Run p.faults p.run) p.one le; passes = p.passes })

  module _ (goal : Option (List Expectation)) where
    -- fewer faults are not enough
    not_fewer : (m n : ℕ) (t u : Table) → AreEnough most goal first m t → AreEnough most goal first n u → m < n → ⊥
    not_fewer m n t u x y less = by x.last where
      by : (m ≡ most) ⊎ HasSought goal t.rows → ⊥
      by (inl e) = let le = y.at_most in omega (arith, le, less, e)
      by (inr h) = true_and_false h.1.1 (y.fewer m h.0 less (is_careful m h.0 x.at_most (x.finds.rows.are h.0 h.1.0)))

    same_faults : (m n : ℕ) (t u : Table) → AreEnough most goal first m t → AreEnough most goal first n u → m ≡ n
    same_faults m n t u x y = by (nat_lt m n) (nat_lt n m) refl refl where
      by : (a b : Bool) → nat_lt m n ≡ a → nat_lt n m ≡ b → m ≡ n
      by true b e f = absurd (not_fewer m n t u x y (ltb→lt m n (passes (nat_lt m n) e)))
      by false true e f = absurd (not_fewer n m u t y x (ltb→lt n m (passes (nat_lt n m) f)))
      by false false e f = let p = nltb→le m n (fails (nat_lt m n) e) in let q = nltb→le n m (fails (nat_lt n m) f) in omega (arith, p, q)

    same_table : (m : ℕ) (t u : Table) → AreEnough most goal first m t → AreEnough most goal first m u → t ≡ u
    same_table m t u x y =
        let rows : t.rows ≡ u.rows = one_list (CameSo m first) (CameCarefully m first) t.rows u.rows (λ a c. is_careful m a x.at_most c) x.finds.rows y.finds.rows in
        let limit : t.past_limit ≡ u.past_limit = not_so t.past_limit (λ p. none_passes m x.at_most (x.finds.limit p)) ∙ sym (not_so u.past_limit (λ p. none_passes m y.at_most (y.finds.limit p))) in
        λ i. record { rows = rows i; past_limit = limit i }

-- ---- what is told of it

same_files : OneSeqText → (text : List ℕ) (a b : Option (List ℕ)) → AreFilesOf text a → AreFilesOf text b → a ≡ b
same_files one text (Some a) (Some b) x y = ap (λ (files : List ℕ). Some files) (one text a b x y)
same_files one text (Some a) None x y = absurd (seq_not_both text a x y)
same_files one text None (Some b) x y = absurd (seq_not_both text b y x)
same_files one text None None x y = refl

pub one_merged_law : OneSeqText → ExploredOrRefused → OneTextIsPrinted
one_merged_law one law asked input text other far x y =
    let goal : Option (List Expectation) = sought asked in
    let enough : AreEnough asked.faults goal x.found.run y.faults y.table
    = subst (λ (e : Exploring). AreEnough asked.faults goal e y.faults y.table) (law.one_run input y.found.run x.found.run y.found.is_run x.found.is_run) y.found.enough in
    let faults : x.faults ≡ y.faults = same_faults asked.faults input far x.found.run x.found.is_run goal x.faults y.faults x.table y.table x.found.enough enough in
    let table : x.table ≡ y.table
    = same_table asked.faults input far x.found.run x.found.is_run goal x.faults x.table y.table x.found.enough (subst (λ (n : ℕ). AreEnough asked.faults goal x.found.run n y.table) (sym faults) enough) in
    let files : x.sequential ≡ y.sequential = ap (λ (f : Option (List ℕ)). record { files = f }) (same_files one (job_line input) x.sequential.files y.sequential.files x.of_job y.of_job) in
    x.is ∙ ((λ i. told_text asked.form (files i) (sought asked) (faults i) (table i)) ∙ sym y.is)
