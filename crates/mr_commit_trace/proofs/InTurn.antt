-- Calls in turn, as the lines of a table.
use Rattle.std.proofs.Common.{◌≡◌, ◌<◌, ◌+◌, ℕ, suc, true, List, [], ◌∷◌, ◌++◌, append_assoc, arith, drop, drop-cons, get_or, if◌then◌else◌, is_ok, length, map, Option, Some, None, Result, Ok, Err, IfOk, refl, sym, ap, subst, ◌∙◌}
use Rattle.mr_names.specs.declared.fault.NameFault.{NameFault}
use Rattle.mr_names.specs.declared.fault.NameFault.TheVariants as names
use Rattle.mr_names.specs.declared.op.Answer.{Answer}
use Rattle.mr_names.specs.declared.op.Caller.{Caller}
use Rattle.mr_names.specs.declared.op.Op.{Op}
use Rattle.mr_names.specs.declared.op.Op.TheVariants as op
use Rattle.mr_names.specs.Calls.{State, answer, call_of, refused, settled}
use Rattle.mr_commit.specs.declared.fault.CommitFault.{CommitFault}
use Rattle.mr_commit.specs.declared.fault.CommitFault.TheVariants as fault
use Rattle.mr_commit.specs.declared.fault.StepDone.TheVariants as done
use Rattle.mr_commit.specs.Line.{Line, is_answer_to}
use Rattle.mr_commit.specs.Line.Line.{Does}
use Rattle.mr_commit.specs.Steps.{after, done_at, heard, step_of}
use Rattle.mr_commit.proofs.Calls.{answers_own_call}
use Rattle.mr_judge.specs.declared.line.Told.{Told}
use Rattle.mr_sim_commands.specs.declared.fault.SimFault.{SimFault}
use Rattle.mr_sim_commands.specs.committer.Effect.{in_turn, then_on}
use Rattle.mr_commit_trace.specs.Seen.{IsLast, Sees, seen}
use Rattle.mr_commit_trace.specs.Seen.Sees.{last, more}
use Rattle.mr_commit_trace.specs.inner.Turns.{if_made, seen_in_turn}

-- a refused call is the last one
refused_last : (call : Op) (rest : List Line) (f : NameFault) → IsLast (heard (Does call ∷ rest) (Err f)).0
refused_last call rest (names.Superseded fence) = tt
refused_last call rest names.Barred = tt
refused_last call rest names.Missing = tt
refused_last call rest names.Exists = tt
refused_last call rest names.NotDir = tt
refused_last call rest names.NotFile = tt
refused_last call rest names.Closed = tt
refused_last call rest names.NoParent = tt
refused_last call rest names.IntoItself = tt
refused_last call rest names.Full = tt
refused_last call rest names.NoMemory = tt

ok_is : (x y : Answer) → ◌≡◌ {A = Result Answer NameFault} (Ok x) (Ok y) → x ≡ y
ok_is x y e = cc

-- what is answered is an answer of the call
settled_own : (o : Option NameFault) (s : State) (call : Op) (a : Answer) (t : State) → settled o s call ≡ (Ok a, t) → is_answer_to call a ≡ true
settled_own None s call a t e =
    let is = ok_is (answer s.content call) a (ap (λ p. p.0) e) in
    subst (λ b. is_answer_to call b ≡ true) is (answers_own_call s.content call)
settled_own (Some f) s call a t e = let z : ◌≡◌ {A = Result Answer NameFault} (Err f) (Ok a) = ap (λ p. p.0) e in absurd (cc)

answered_step : (call : Op) (rest : List Line) (s : State) (caller : Caller) (a : Answer) (t : State) → call_of s caller call ≡ (Ok a, t) → step_of (Does call ∷ rest) s caller ≡ ((Ok (done_at rest), rest), t)
answered_step call rest s caller a t e =
    let own = settled_own (refused s caller call) s call a t e in
    ap (λ p. (heard (Does call ∷ rest) p.0, p.1)) e ∙ ap (λ b. (after (Does call) rest (if b then Ok [] else Err fault.WrongAnswer), t)) own

refused_step : (call : Op) (rest : List Line) (s : State) (caller : Caller) (f : NameFault) (t : State) → call_of s caller call ≡ (Err f, t) → step_of (Does call ∷ rest) s caller ≡ (heard (Does call ∷ rest) (Err f), t)
refused_step call rest s caller f t e = ap (λ p. (heard (Does call ∷ rest) p.0, p.1)) e

pub sees_turn : (calls : List Op) (s : State) (caller : Caller) → Sees caller (map Does calls) s (seen_in_turn calls s caller)
sees_turn [] s caller = last [] [] s s (Err _) refl tt
sees_turn (call ∷ calls) s caller = by calls (call_of s caller call).0 (call_of s caller call).1 refl (sees_turn calls (call_of s caller call).1 caller)
  where
    by : (calls : List Op) (r : Result Answer NameFault) (t : State) → call_of s caller call ≡ (r, t) → Sees caller (map Does calls) t (seen_in_turn calls t caller)
        → Sees caller (Does call ∷ map Does calls) s (seen s caller call ∷ if_made r (seen_in_turn calls t caller))
    by [] (Ok a) t e behind = last (Does call ∷ []) [] s t (Ok done.Finished) (answered_step call [] s caller a t e) tt
    by (next ∷ calls) (Ok a) t e behind = more (Does call ∷ map Does (next ∷ calls)) (map Does (next ∷ calls)) s t (seen_in_turn (next ∷ calls) t caller) (answered_step call (map Does (next ∷ calls)) s caller a t e) behind
    by calls (Err f) t e behind =
        let lines = map Does calls in
        last (Does call ∷ lines) (heard (Does call ∷ lines) (Err f)).1 s t (heard (Does call ∷ lines) (Err f)).0 (refused_step call lines s caller f t e) (refused_last call lines f)

-- a look leaves the namespace as it is
settled_stays : (o : Option NameFault) (s : State) (path : List (List ℕ)) → (then_on (settled o s (op.Exists path)).0 (settled o s (op.Exists path)).1 (λ t. (Ok tt, t))).1 ≡ s
settled_stays None s path = refl
settled_stays (Some f) s path = refl

pub looks_stay : (s : State) (caller : Caller) (path : List (List ℕ)) → (in_turn (op.Exists path ∷ []) s caller).1 ≡ s
looks_stay s caller path = settled_stays (refused s caller (op.Exists path)) s path

-- what was seen of calls in turn is what is seen of their lines
pub sees_turned : (calls : List Op) (s : State) (caller : Caller) (told : List Told) → told ≡ seen_in_turn calls s caller → Sees caller (map Does calls) s told
sees_turned calls s caller told is = subst (λ xs. Sees caller (map Does calls) s xs) (sym is) (sees_turn calls s caller)

pub sees_all : {A : Type 0} (items : A → List Told) (calls : List Op) (s : State) (caller : Caller) (r : Result A SimFault) → IfOk r (λ v. items v ≡ seen_in_turn calls s caller) → IfOk r (λ v. Sees caller (map Does calls) s (items v))
sees_all items calls s caller (Ok v) is = sees_turned calls s caller (items v) is
sees_all items calls s caller (Err e) is = is

-- of no line nothing is seen
pub sees_nothing : (s : State) (caller : Caller) → Sees caller [] s []
sees_nothing s caller = last [] [] s s (Err fault.Over) refl tt

-- ---- the calls of a list in turn

next_call : (calls : List Op) (i : ℕ) (call : Op) → i < length calls → call ≡ get_or calls i call → drop i calls ≡ call ∷ drop (i + 1) calls
next_call calls i call few is =
    drop-cons calls i call few ∙ (ap (λ x. x ∷ drop (suc i) calls) (sym is) ∙ ap (λ j. call ∷ drop j calls) (let e : suc i ≡ i + 1 = omega arith in e))

made_on : (r : Result Answer NameFault) (behind : List Told) → is_ok r ≡ true → if_made r behind ≡ behind
made_on (Ok a) behind e = refl
made_on (Err f) behind e = absurd (cc)

then_made : (r : Result Answer NameFault) (t : State) (on : State → Result (Unit {0}) CommitFault × State) → is_ok r ≡ true → then_on r t on ≡ on t
then_made (Ok a) t on e = refl
then_made (Err f) t on e = absurd (cc)

pub seen_on : (calls : List Op) (i : ℕ) (call : Op) (s t : State) (caller : Caller) (before now all : List Told) → i < length calls → call ≡ get_or calls i call → is_ok (call_of s caller call).0 ≡ true → t ≡ (call_of s caller call).1
    → now ≡ before ++ seen s caller call ∷ [] → before ++ seen_in_turn (drop i calls) s caller ≡ all → now ++ seen_in_turn (drop (i + 1) calls) t caller ≡ all
seen_on calls i call s t caller before now all few is made leads kept so =
    let rest = seen_in_turn (drop (i + 1) calls) (call_of s caller call).1 caller in
    ap (λ u. now ++ seen_in_turn (drop (i + 1) calls) u caller) leads
    ∙ (ap (λ xs. xs ++ rest) kept
    ∙ (append_assoc before (seen s caller call ∷ []) rest
    ∙ (ap (λ xs. before ++ seen s caller call ∷ xs) (sym (made_on (call_of s caller call).0 rest made))
    ∙ (ap (λ xs. before ++ seen_in_turn xs s caller) (sym (next_call calls i call few is)) ∙ so))))

pub turned_on : (calls : List Op) (i : ℕ) (call : Op) (s t first : State) (caller : Caller) (all : Result (Unit {0}) CommitFault × State) → i < length calls → call ≡ get_or calls i call → is_ok (call_of s caller call).0 ≡ true → t ≡ (call_of s caller call).1
    → (in_turn (drop i calls) s caller).1 ≡ all.1 → (in_turn (drop (i + 1) calls) t caller).1 ≡ all.1
turned_on calls i call s t first caller all few is made leads so =
    let on = λ (u : State). in_turn (drop (i + 1) calls) u caller in
    ap (λ u. (on u).1) leads
    ∙ (ap (λ p. p.1) (sym (then_made (call_of s caller call).0 (call_of s caller call).1 on made))
    ∙ (ap (λ xs. (in_turn xs s caller).1) (sym (next_call calls i call few is)) ∙ so))
