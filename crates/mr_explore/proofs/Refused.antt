-- An input has one run at most, and nothing is printed of one that is refused.
use Rattle.std.proofs.Common.{◌≡◌, ◌⊎◌, ◌<◌, ℕ, Bool, true, false, ◌||◌, List, [], ◌∷◌, ◌++◌, map, length, Option, Some, None, Result, Ok, inl, inr, refl, sym, ap, subst, ◌∙◌, arith}
use Rattle.std.specs.List.{list_any}
use Rattle.std.specs.Option.{option_map}
use Rattle.mr_script.specs.declared.expectation.Expectation.{Expectation}
use Rattle.mr_sim_commands.specs.declared.fault.JobTextFault.{JobTextFault}
use Rattle.mr_sim_commands.specs.declared.job.submission.Submission.{Submission}
use Rattle.mr_play.specs.mr_world.specs.Limits.{within}
use Rattle.mr_play.specs.Text.{config_of}
use Rattle.mr_play.proofs.Playing.{one_end, one_play_text_law}
use Rattle.mr_explore_search.specs.Runs.{Found, Run, PassesLimit}
use Rattle.mr_explore.specs.declared.asked.Asked.{Asked}
use Rattle.mr_explore.specs.Explored.{IsFullExplored, PrintsExplored, goal_of}
use Rattle.mr_explore.specs.Exploring.{IsFoundLast, IsFullBehind, IsTimed, MadeRun, NoneMeets, as_found, meets_goal}
use Rattle.mr_explore.specs.Laws.{ExploredOrRefused}
use Rattle.mr_explore.specs.Runs.{CannotStart, Exploring, IsLeftBy, IsRunOf, StartsFrom, newest_in, runs_with, start_first, with}

-- ---- one run

ok_is : (x y : Submission) → ◌≡◌ {A = Result Submission JobTextFault} (Ok x) (Ok y) → x ≡ y
ok_is x y e = cc

one_left : (input : List ℕ) (a b : Exploring) → IsLeftBy input a → IsLeftBy input b → a ≡ b
one_left input a b x y =
    let job = ok_is x.prints.job y.prints.job (sym x.prints.said ∙ y.prints.said) in
    let left = one_end within input x.text y.text x.prints y.prints in
    x.is ∙ ((λ i. record { job = (job i).job; config = config_of (job i); played = left i; past_limit = false; deep = false }) ∙ sym y.is)

some_is : (x y : Exploring) → Some x ≡ Some y → x ≡ y
some_is x y e = cc

one_start : (before a b : Exploring) → StartsFrom before a → StartsFrom before b → a ≡ b
one_start before a b (inl x) (inl y) = some_is a b (sym x.1 ∙ y.1)
one_start before a b (inl x) (inr y) = absurd (y.0 x.0)
one_start before a b (inr x) (inl y) = absurd (x.0 y.0)
one_start before a b (inr x) (inr y) = x.1 ∙ sym y.1

pub one_run_law : (input : List ℕ) (a b : Exploring) → IsRunOf input a → IsRunOf input b → a ≡ b
one_run_law input a b x y = one_start x.before a b x.starts (subst (λ (e : Exploring). StartsFrom e b) (one_left input y.before x.before y.left x.left) y.starts)

-- ---- no limit

pub tail_is : {A : Type 0} (x y : A) (xs ys : List A) → x ∷ xs ≡ y ∷ ys → xs ≡ ys
tail_is x y xs ys e = cc

run_is : (m k : MadeRun) → as_found m ≡ as_found k → m ≡ k
run_is m k e = ap made_of e where
  made_of : Found Exploring → MadeRun
  made_of (Run n s) = record { faults = n; run = s }
  made_of PassesLimit = m

pub head_is : (m k : MadeRun) (xs ys : List (Found Exploring)) → as_found m ∷ xs ≡ as_found k ∷ ys → m ≡ k
head_is m k xs ys e = run_is m k (cc)

apart_all : (made more : List MadeRun) (rest : List (Found Exploring)) → map as_found made ++ [] ≡ map as_found more ++ PassesLimit ∷ rest → ⊥
apart_all [] [] rest e = cc
apart_all [] (k ∷ more) rest e = cc
apart_all (m ∷ made) [] rest e = cc
apart_all (m ∷ made) (k ∷ more) rest e = apart_all made more rest (tail_is (as_found m) (as_found k) _ _ e)

apart_most : (made more : List MadeRun) (left rest : List (Found Exploring)) → length more < length made → map as_found made ++ left ≡ map as_found more ++ PassesLimit ∷ rest → ⊥
apart_most [] more left rest few e = omega (arith, few)
apart_most (m ∷ made) [] left rest few e = cc
apart_most (m ∷ made) (k ∷ more) left rest few e = apart_most made more left rest (omega (arith, few)) (tail_is (as_found m) (as_found k) _ _ e)

-- where one of the first runs meets the goal, and none before the limit does, the limit comes before it
pub some_meets : (goal : Option (List Expectation)) (made : List MadeRun) (m : MadeRun) → meets_goal goal m ≡ true → list_any (meets_goal goal) (made ++ m ∷ []) ≡ true
some_meets goal [] m e = ap (λ b. b || false) e
some_meets goal (k ∷ made) m e = by (meets_goal goal k) (some_meets goal made m e) where
  by : (b : Bool) → list_any (meets_goal goal) (made ++ m ∷ []) ≡ true → (b || list_any (meets_goal goal) (made ++ m ∷ [])) ≡ true
  by true h = refl
  by false h = h

apart_found : (goal : Option (List Expectation)) (made more : List MadeRun) (left rest : List (Found Exploring)) → list_any (meets_goal goal) made ≡ true → NoneMeets goal more → map as_found made ++ left ≡ map as_found more ++ PassesLimit ∷ rest → ⊥
apart_found goal [] more left rest some none e = cc
apart_found goal (m ∷ made) [] left rest some none e = cc
apart_found goal (m ∷ made) (k ∷ more) left rest some none e = by (meets_goal goal m) (meets_goal goal k) (ap (meets_goal goal) (head_is m k _ _ e)) some none (λ s n. apart_found goal made more left rest s n (tail_is (as_found m) (as_found k) _ _ e)) where
  by : (a b : Bool) → a ≡ b → (a || list_any (meets_goal goal) made) ≡ true → (b || list_any (meets_goal goal) more) ≡ false → (list_any (meets_goal goal) made ≡ true → NoneMeets goal more → ⊥) → ⊥
  by true true e s n next = cc
  by true false e s n next = cc
  by false true e s n next = cc
  by false false e s n next = next s n

apart : (most : ℕ) (seconds : Option ℕ) (goal : Option (List Expectation)) (made : List MadeRun) (left all : List (Found Exploring)) → all ≡ map as_found made ++ left → IsFoundLast goal made ⊎ (NoneMeets goal made × ((length made ≡ most) ⊎ ((left ≡ []) ⊎ IsTimed seconds))) → IsFullBehind most goal all → IsTimed seconds
apart most seconds goal made left all are (inl last) full =
    absurd (apart_found goal made full.made left full.rest (ap (list_any (meets_goal goal)) last.are ∙ some_meets goal last.before last.last last.meets) full.none (sym are ∙ full.is))
apart most seconds goal made left all are (inr k) full = by k.1 where
  by : (length made ≡ most) ⊎ ((left ≡ []) ⊎ IsTimed seconds) → IsTimed seconds
  by (inl many) = let few = full.few in absurd (apart_most made full.made left full.rest (omega (arith, few, many)) (sym are ∙ full.is))
  by (inr (inl none)) = absurd (apart_all made full.made full.rest (ap (λ xs. map as_found made ++ xs) (sym none) ∙ (sym are ∙ full.is)))
  by (inr (inr timed)) = timed

not_none : (x : Exploring) → None ≡ Some x → ⊥
not_none x e = cc

starts_not : (e new : Exploring) → newest_in e ≡ 0 → start_first e ≡ None → StartsFrom e new → ⊥
starts_not e new newest none (inl s) = not_none new (sym (ap (option_map (with e)) none) ∙ s.1)
starts_not e new newest none (inr s) = s.0 newest

not_started : (input : List ℕ) (run : Exploring) → IsRunOf input run → CannotStart input → ⊥
not_started input run r c = starts_not c.before run c.newest c.none (subst (λ (e : Exploring). StartsFrom e run) (one_left input r.before c.before r.left c.left) r.starts)

not_full_law : (asked : Asked) (input text : List ℕ) → PrintsExplored asked input text → IsFullExplored asked input → IsTimed asked.seconds
not_full_law asked input text p (inl f) = absurd (one_play_text_law.not_full within input p.is_run.left.text p.is_run.left.prints f)
not_full_law asked input text p (inr (inl c)) = absurd (not_started input p.run p.is_run c)
not_full_law asked input text p (inr (inr w)) =
    apart asked.most asked.seconds (goal_of asked) p.made p.rest (runs_with asked.deep asked.faults p.run) p.are p.count.1
    (subst (λ (e : Exploring). IsFullBehind asked.most (goal_of asked) (runs_with asked.deep asked.faults e)) (one_run_law input w.run p.run w.is_run p.is_run) w.full)

pub explored_or_refused_law : ExploredOrRefused
explored_or_refused_law = record {
  one_run = one_run_law;
  not_bad_job = λ asked input text e p h. one_play_text_law.not_bad_job within input p.is_run.left.text e p.is_run.left.prints h;
  not_bad_line = λ asked input text n p h. one_play_text_law.not_bad_line within input p.is_run.left.text n p.is_run.left.prints h;
  not_full = not_full_law;
}
