-- The places from which the runs come, by the number of their faults.
use Rattle.std.proofs.Common.{◌≡◌, ◌<◌, ◌≤◌, ◌+◌, ◌-◌, ℕ, suc, List, [], ◌∷◌, ◌++◌, append_assoc, append-nil, refl, sym, ap, ◌∙◌, arith}
use Rattle.mr_explore_search.specs.Steps.{Steps}
use Rattle.mr_explore_search.specs.Runs.{exactly, runs}
use Rattle.mr_explore_search.specs.declared.level.Level.{Level}
use Rattle.mr_explore_search.specs.inner.Stack.{pass, passes, stack_left}
use Rattle.mr_explore_search.proofs.Turning.{opened_left}

module _ {S F : Type 0} (steps : Steps S F) (most : ℕ) (s : S) where
  pass_left : (n : ℕ) (ls : List (Level S F)) → stack_left steps most (pass steps most n s ∷ ls) ≡ exactly steps most n s ++ stack_left steps most ls
  pass_left n ls = ap (λ xs. xs ++ stack_left steps most ls) (opened_left steps most (record { owed = []; spare = n; departs = n + n; total = n }) 0 most s)

  -- one more comes in front
  pub one_more : (faults n : ℕ) (start before after : List (Level S F)) → n < faults → stack_left steps most before ≡ passes steps most (suc (faults - n)) n s ++ stack_left steps most start → after ≡ pass steps most (faults - n) s ∷ before
      → stack_left steps most after ≡ passes steps most (suc (faults - (n + 1))) (n + 1) s ++ stack_left steps most start
  one_more faults n start before after few left is =
      let rest = stack_left steps most start in
      let less : faults - n ≡ suc (faults - (n + 1)) = omega (arith, few) in
      let up : faults - n + 1 ≡ suc (faults - n) = omega arith in
      let count : n + 1 ≡ suc n = omega arith in
      ap (stack_left steps most) is
      ∙ (pass_left (faults - n) before
      ∙ (ap (λ xs. exactly steps most (faults - n) s ++ xs) left
      ∙ (sym (append_assoc (exactly steps most (faults - n) s) (passes steps most (suc (faults - n)) n s) rest)
      ∙ (ap (λ m. (exactly steps most (faults - n) s ++ passes steps most m n s) ++ rest) (sym up)
      ∙ (ap (λ m. passes steps most m (suc n) s ++ rest) less
      ∙ ap (λ m. passes steps most (suc (faults - (n + 1))) m s ++ rest) (sym count))))))

  pub none_yet : (faults : ℕ) (start : List (Level S F)) → stack_left steps most start ≡ passes steps most (suc (faults - 0)) 0 s ++ stack_left steps most start
  none_yet faults start = refl

  pub all_there : (faults n : ℕ) (start now : List (Level S F)) → faults ≤ n → n ≤ faults → stack_left steps most now ≡ passes steps most (suc (faults - n)) n s ++ stack_left steps most start → stack_left steps most now ≡ passes steps most 1 faults s ++ stack_left steps most start
  all_there faults n start now many few left =
      let all : n ≡ faults = omega (arith, many, few) in
      let one : suc (faults - n) ≡ 1 = omega (arith, many, few) in
      left ∙ (ap (λ m. passes steps most m n s ++ stack_left steps most start) one ∙ ap (λ m. passes steps most 1 m s ++ stack_left steps most start) all)

  -- and at last the run without a fault
  pub all_runs : (faults : ℕ) (start mid after : List (Level S F)) → start ≡ [] → stack_left steps most mid ≡ passes steps most 1 faults s ++ stack_left steps most start → after ≡ pass steps most 0 s ∷ mid → stack_left steps most after ≡ runs steps most faults s
  all_runs faults start mid after none left is =
      ap (stack_left steps most) is
      ∙ (pass_left 0 mid
      ∙ (ap (λ xs. exactly steps most 0 s ++ xs) (left ∙ (ap (λ ls. passes steps most 1 faults s ++ stack_left steps most ls) none ∙ append-nil (passes steps most 1 faults s)))))
