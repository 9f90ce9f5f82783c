-- Of an input one text is printed at most, where no time is given.
use Rattle.std.proofs.Common.{◌≡◌, ◌⊎◌, ◌<◌, ◌≤◌, ℕ, Bool, true, false, ◌||◌, nat_lt, nltb→le, ltb→lt, List, [], ◌∷◌, ◌++◌, map, length, length-append, append_assoc, Option, Some, None, inl, inr, refl, sym, ap, subst, ◌∙◌, arith}
use Rattle.std.specs.Bool.{fails, passes}
use Rattle.std.specs.List.{list_any}
use Rattle.mr_script.specs.declared.expectation.Expectation.{Expectation}
use Rattle.mr_sim_commands.proofs.Reduces.{seq_not_both}
use Rattle.mr_sim_commands.specs.Laws.{OneSeqText}
use Rattle.mr_play.specs.Text.{job_line}
use Rattle.mr_explore_search.specs.Runs.{Found}
use Rattle.mr_explore_ends.specs.Text.{Sequential}
use Rattle.mr_explore.specs.declared.asked.Asked.{Asked}
use Rattle.mr_explore.specs.Ends.{AreFilesOf, told_text}
use Rattle.mr_explore.specs.Explored.{PrintsExplored, found_in, goal_of}
use Rattle.mr_explore.specs.Exploring.{AreEnough, IsFoundLast, IsTimed, MadeRun, NoneMeets, as_found, meets_goal}
use Rattle.mr_explore.specs.Laws.{OneExploredText}
use Rattle.mr_explore.specs.Runs.{Exploring, runs_with}
use Rattle.mr_explore.proofs.Making.{mapped}
use Rattle.mr_explore.proofs.Refused.{head_is, one_run_law, some_meets, tail_is}

-- ---- the runs that were made

-- where as many were made of the same runs, they are the same, and so are those that are left
same_front : (made more : List MadeRun) (left rest : List (Found Exploring)) → length made ≡ length more → map as_found made ++ left ≡ map as_found more ++ rest → (made ≡ more) × (left ≡ rest)
same_front [] [] left rest long e = (refl, e)
same_front [] (k ∷ more) left rest long e = absurd (cc)
same_front (m ∷ made) [] left rest long e = absurd (cc)
same_front (m ∷ made) (k ∷ more) left rest long e =
    let next = same_front made more left rest (omega (arith, long)) (tail_is (as_found m) (as_found k) _ _ e) in
    let first = head_is m k _ _ e in
    ((λ i. first i ∷ next.0 i), next.1)

-- no more runs are made than there are
not_more : (made more : List MadeRun) (left : List (Found Exploring)) → length more < length made → map as_found made ++ left ≡ map as_found more ++ [] → ⊥
not_more [] more left few e = omega (arith, few)
not_more (m ∷ made) [] left few e = cc
not_more (m ∷ made) (k ∷ more) left few e = not_more made more left (omega (arith, few)) (tail_is (as_found m) (as_found k) _ _ e)

-- one of the first runs meets the goal, so one of more of the same runs does
not_met : (goal : Option (List Expectation)) (made more : List MadeRun) (left rest : List (Found Exploring)) → length made ≤ length more → list_any (meets_goal goal) made ≡ true → NoneMeets goal more → map as_found made ++ left ≡ map as_found more ++ rest → ⊥
not_met goal [] more left rest few some none e = cc
not_met goal (m ∷ made) [] left rest few some none e = omega (arith, few)
not_met goal (m ∷ made) (k ∷ more) left rest few some none e = by (meets_goal goal m) (meets_goal goal k) (ap (meets_goal goal) (head_is m k _ _ e)) some none (λ s n. not_met goal made more left rest (omega (arith, few)) s n (tail_is (as_found m) (as_found k) _ _ e)) where
  by : (a b : Bool) → a ≡ b → (a || list_any (meets_goal goal) made) ≡ true → (b || list_any (meets_goal goal) more) ≡ false → (list_any (meets_goal goal) made ≡ true → NoneMeets goal more → ⊥) → ⊥
  by true true e s n next = cc
  by true false e s n next = cc
  by false true e s n next = cc
  by false false e s n next = next s n

last_apart : (made before : List MadeRun) (last : MadeRun) (left : List (Found Exploring)) → made ≡ before ++ last ∷ [] → map as_found made ++ left ≡ map as_found before ++ (as_found last ∷ left)
last_apart made before last left are = ap (λ ms. map as_found ms ++ left) are ∙ (ap (λ xs. xs ++ left) (mapped as_found before (last ∷ [])) ∙ append_assoc (map as_found before) (as_found last ∷ []) left)

-- no run was made behind the first that met the goal
found_not : (goal : Option (List Expectation)) (made more : List MadeRun) (left rest : List (Found Exploring)) → IsFoundLast goal more → IsFoundLast goal made ⊎ NoneMeets goal made → map as_found made ++ left ≡ map as_found more ++ rest → length more < length made → ⊥
found_not goal made more left rest m (inl l) e few =
    let some = ap (list_any (meets_goal goal)) m.are ∙ some_meets goal m.before m.last m.meets in
    let one = ap length l.are ∙ length-append l.before (l.last ∷ []) in
    let most : length more ≤ length l.before = omega (arith, few, one) in
    not_met goal more l.before rest (as_found l.last ∷ left) most some l.none (sym e ∙ last_apart made l.before l.last left l.are)
found_not goal made more left rest m (inr none) e few =
    let some = ap (list_any (meets_goal goal)) m.are ∙ some_meets goal m.before m.last m.meets in
    let most : length more ≤ length made = omega (arith, few) in
    not_met goal more made rest left most some none (sym e)

-- so not fewer are enough
not_fewer : (most : ℕ) (seconds : Option ℕ) (goal : Option (List Expectation)) (made more : List MadeRun) (left rest : List (Found Exploring)) → (IsTimed seconds → ⊥) → AreEnough most seconds goal made left → AreEnough most seconds goal more rest → map as_found made ++ left ≡ map as_found more ++ rest → length more < length made → ⊥
not_fewer most seconds goal made more left rest timed a b e few = by a.1 b.1 where
  met : IsFoundLast goal made ⊎ (NoneMeets goal made × ((length made ≡ most) ⊎ ((left ≡ []) ⊎ IsTimed seconds))) → IsFoundLast goal made ⊎ NoneMeets goal made
  met (inl l) = inl l
  met (inr n) = inr n.0

  stopped : (length more ≡ most) ⊎ ((rest ≡ []) ⊎ IsTimed seconds) → ⊥
  stopped (inl many) = let short = a.0 in omega (arith, few, many, short)
  stopped (inr (inl none)) = not_more made more left few (e ∙ ap (λ xs. map as_found more ++ xs) none)
  stopped (inr (inr t)) = timed t

  by : IsFoundLast goal made ⊎ (NoneMeets goal made × ((length made ≡ most) ⊎ ((left ≡ []) ⊎ IsTimed seconds))) → IsFoundLast goal more ⊎ (NoneMeets goal more × ((length more ≡ most) ⊎ ((rest ≡ []) ⊎ IsTimed seconds))) → ⊥
  by x (inl m) = found_not goal made more left rest m (met x) e few
  by x (inr n) = stopped n.1

same_count : (m n : ℕ) → (m < n → ⊥) → (n < m → ⊥) → m ≡ n
same_count m n a b = by (nat_lt m n) (nat_lt n m) refl refl where
  by : (x y : Bool) → nat_lt m n ≡ x → nat_lt n m ≡ y → m ≡ n
  by true y e f = absurd (a (ltb→lt m n (passes (nat_lt m n) e)))
  by false true e f = absurd (b (ltb→lt n m (passes (nat_lt n m) f)))
  by false false e f = let p = nltb→le m n (fails (nat_lt m n) e) in let q = nltb→le n m (fails (nat_lt n m) f) in omega (arith, p, q)

-- the same runs were made, and the same are left
same_runs : (most : ℕ) (seconds : Option ℕ) (goal : Option (List Expectation)) (made more : List MadeRun) (left rest : List (Found Exploring)) → (IsTimed seconds → ⊥) → AreEnough most seconds goal made left → AreEnough most seconds goal more rest → map as_found made ++ left ≡ map as_found more ++ rest → (made ≡ more) × (left ≡ rest)
same_runs most seconds goal made more left rest timed a b e =
    same_front made more left rest (same_count (length made) (length more) (not_fewer most seconds goal more made rest left timed b a (sym e)) (not_fewer most seconds goal made more left rest timed a b e)) e

-- ---- what is told of them

same_files : OneSeqText → (text : List ℕ) (a b : Option (List ℕ)) → AreFilesOf text a → AreFilesOf text b → a ≡ b
same_files one text (Some a) (Some b) x y = ap (λ files. Some files) (one text a b x y)
same_files one text (Some a) None x y = absurd (seq_not_both text a x y)
same_files one text None (Some b) x y = absurd (seq_not_both text b y x)
same_files one text None None x y = refl

pub one_text_law : OneSeqText → OneExploredText
one_text_law one asked input a b timed x y =
    let run = one_run_law input x.run y.run x.is_run y.is_run in
    let same = same_runs asked.most asked.seconds (goal_of asked) x.made y.made x.rest y.rest timed x.count y.count (sym x.are ∙ (ap (runs_with asked.deep asked.faults) run ∙ y.are)) in
    let files : x.tells.sequential ≡ y.tells.sequential = ap (λ (f : Option (List ℕ)). record { files = f }) (same_files one (job_line input) x.tells.sequential.files y.tells.sequential.files x.tells.of_job y.tells.of_job) in
    x.tells.is ∙ ((λ i. told_text asked.form (files i) (goal_of asked) (found_in asked.faults (same.0 i) (same.1 i))) ∙ sym y.tells.is)
