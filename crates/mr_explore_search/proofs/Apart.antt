-- Parts are taken off what is left, and put back.
use Rattle.std.proofs.Common.{◌≡◌, ◌<◌, inl, inr, ℕ, Bool, true, false, List, [], ◌∷◌, ◌++◌, append_assoc, append-nil, map, Option, Some, None, Result, Ok, Err, IfOk, sym, ap, subst, ◌∙◌}
use Rattle.std.specs.List.{flat_map}
use Rattle.mr_explore_search.specs.Steps.{Steps}
use Rattle.mr_explore_search.specs.declared.ended.Ended.{Ended}
use Rattle.mr_explore_search.specs.declared.level.Level.{Level}
use Rattle.mr_explore_search.specs.declared.fault.WalkFault.{WalkFault}
use Rattle.mr_explore_search.specs.declared.fault.WalkFault.TheVariants as fault
use Rattle.mr_explore_search.specs.inner.Parts.{Divided, all_left, with_part}
use Rattle.mr_explore_search.specs.inner.Stack.{Departed, Further, left_of, stack_left, stack_turns}
use Rattle.mr_explore_search.proofs.Turning.{turned_further}

module _ {S F : Type 0} (steps : Steps S F) (most : ℕ) where
  -- ---- a level makes a turn that makes no run

  -- all was tried, and the level goes on
  pub divided_on : (l m : Level S F) (ls between new : List (Level S F)) (r : Result Bool WalkFault) → Departed steps most l ls (Some m) between
      → IfOk r (λ went. m.faults ≡ [] → m.late ≡ 0 → (most' : ℕ) → Divided steps most' (m ∷ between) went new) → IfOk r (λ went. Divided steps most (l ∷ ls) went new)
  divided_on l m ls between new (Ok went) d h =
      subst (λ (ks : List (Level S F)). Divided steps most (l ∷ ks) went new) d.3
      (subst (λ (k : Level S F). Divided steps most (k ∷ between) went new) d.0
      (h (ap (λ (k : Level S F). k.faults) d.0 ∙ d.1) (ap (λ (k : Level S F). k.late) d.0 ∙ d.2) most))
  divided_on l m ls between new (Err f) d h = tt

  -- its fork went on
  pub went_on : (l fork : Level S F) (ls new : List (Level S F)) (o : Option (Ended S)) → fork ≡ l → o ≡ None → Further steps fork ls (Ok o) new → l.faults ≡ [] → l.late ≡ 0 → Divided steps most (l ∷ ls) true new
  went_on l fork ls new o same is h none late =
      turned_further steps most l ls (Ok None) new none late (subst (λ (p : Option (Ended S)). Further steps l ls (Ok p) new) is (subst (λ (k : Level S F). Further steps k ls (Ok o) new) same h))

  -- its fork has ended, or would pass a limit: so it stays
  ended_there : (fork : Level S F) (ls mid : List (Level S F)) (e : Ended S) → Further steps fork ls (Ok (Some e)) mid → mid ≡ ls
  ended_there fork ls mid e (inl k) = absurd (cc)
  ended_there fork ls mid e (inr k) = k.3

  pub stays : (l : Level S F) (ls mid new : List (Level S F)) (r : Result Bool WalkFault) → mid ≡ ls → IfOk r (λ went. (went ≡ false) × (new ≡ l ∷ mid)) → IfOk r (λ went. Divided steps most (l ∷ ls) went new)
  stays l ls mid new (Ok went) same h =
      subst (λ (b : Bool). Divided steps most (l ∷ ls) b new) (sym h.0) (sym (ap (stack_left steps most) (h.1 ∙ ap (λ ks. l ∷ ks) same)))
  stays l ls mid new (Err f) same h = tt

  pub stays_ended : (l fork : Level S F) (ls mid new : List (Level S F)) (o : Option (Ended S)) (e : Ended S) (r : Result Bool WalkFault) → o ≡ Some e → Further steps fork ls (Ok o) mid → IfOk r (λ went. (went ≡ false) × (new ≡ l ∷ mid)) → IfOk r (λ went. Divided steps most (l ∷ ls) went new)
  stays_ended l fork ls mid new o e r is h kept = stays l ls mid new r (ended_there fork ls mid e (subst (λ (p : Option (Ended S)). Further steps fork ls (Ok p) mid) is h)) kept

  pub stays_full : (l fork : Level S F) (ls mid new : List (Level S F)) (f : WalkFault) (r : Result Bool WalkFault) → f ≡ fault.Full → Further steps fork ls (Err f) mid → IfOk r (λ went. (went ≡ false) × (new ≡ l ∷ mid)) → IfOk r (λ went. Divided steps most (l ∷ ls) went new)
  stays_full l fork ls mid new f r is h kept = let full = subst (λ (g : WalkFault). Further steps fork ls (Err g) mid) is h in stays l ls mid new r full.3 kept

  -- ---- turns up to a part

  pub went : (start before rest after : List (Level S F)) (l : Level S F) → stack_left steps most start ≡ stack_left steps most before → before ≡ l ∷ rest → Divided steps most (l ∷ rest) true after → stack_left steps most start ≡ stack_left steps most after
  went start before rest after l left is h = left ∙ (ap (stack_left steps most) is ∙ h.0)

  pub fewer_turns : (before rest after : List (Level S F)) (l : Level S F) → before ≡ l ∷ rest → Divided steps most (l ∷ rest) true after → stack_turns steps most after < stack_turns steps most before
  fewer_turns before rest after l is h = subst (λ (ks : List (Level S F)). stack_turns steps most after < stack_turns steps most ks) (sym is) h.1

  pub found : (start before rest : List (Level S F)) (l : Level S F) → stack_left steps most start ≡ stack_left steps most before → before ≡ l ∷ rest → stack_left steps most start ≡ with_part steps most (Some l) rest
  found start before rest l left is = left ∙ ap (stack_left steps most) is

  pub can_not : (start before rest after : List (Level S F)) (l : Level S F) → stack_left steps most start ≡ stack_left steps most before → before ≡ l ∷ rest → Divided steps most (l ∷ rest) false after → stack_left steps most start ≡ with_part steps most None after
  can_not start before rest after l left is h = left ∙ (ap (stack_left steps most) is ∙ h)

  -- ---- parts, in front of the rest

  one_more : (parts : List (Level S F)) (l : Level S F) (ls : List (Level S F)) → all_left steps most (parts ++ l ∷ []) ls ≡ all_left steps most parts (l ∷ ls)
  one_more [] l ls = ap (λ xs. xs ++ stack_left steps most ls) (append-nil (left_of steps most l))
  one_more (p ∷ ps) l ls =
      append_assoc (left_of steps most p) (flat_map (λ runs. runs) (map (left_of steps most) (ps ++ l ∷ []))) (stack_left steps most ls)
      ∙ (ap (λ xs. left_of steps most p ++ xs) (one_more ps l ls)
      ∙ sym (append_assoc (left_of steps most p) (flat_map (λ runs. runs) (map (left_of steps most) ps)) (stack_left steps most (l ∷ ls))))

  pub taken : (parts : List (Level S F)) (l : Level S F) (before after new : List (Level S F)) → new ≡ parts ++ l ∷ [] → stack_left steps most before ≡ with_part steps most (Some l) after → all_left steps most new after ≡ all_left steps most parts before
  taken parts l before after new is h =
      ap (λ ps. all_left steps most ps after) is
      ∙ (one_more parts l after ∙ ap (λ xs. flat_map (λ runs. runs) (map (left_of steps most) parts) ++ xs) (sym h))

  pub put : (start parts fewer levels before after : List (Level S F)) (l : Level S F) → all_left steps most start before ≡ all_left steps most parts levels → parts ≡ fewer ++ l ∷ [] → after ≡ l ∷ levels → all_left steps most start before ≡ all_left steps most fewer after
  put start parts fewer levels before after l same is h =
      same ∙ (ap (λ ps. all_left steps most ps levels) is ∙ (one_more fewer l levels ∙ ap (all_left steps most fewer) (sym h)))
