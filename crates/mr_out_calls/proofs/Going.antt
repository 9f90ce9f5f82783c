-- A command that goes on, call by call.
use Rattle.std.proofs.Common.{◌≡◌, ◌⊎◌, inl, inr, ◌≤◌, ◌+◌, ◌^◌, ℕ, List, [], ◌∷◌, ◌++◌, length, Option, Some, None, refl, sym, ap, ◌∙◌, append_assoc, arith}
use Rattle.std.proofs.lemmas.List.{length-append}
use Rattle.mr_out_disk.specs.declared.call.Call.{Call}
use Rattle.mr_out_disk.specs.declared.answer.Answer.{Answer}
use Rattle.mr_out_steps.specs.declared.order.Outcome.{Outcome}
use Rattle.mr_out_steps.specs.declared.order.Outcome.TheVariants as outcome
use Rattle.mr_out_steps.specs.declared.phase.Phase.{Phase}
use Rattle.mr_out_steps.specs.declared.phase.Phase.TheVariants.{Over}
use Rattle.mr_out_steps.specs.Commands.{Command, next_call, call_in, outcome_in}
use Rattle.mr_out_steps.specs.Steps.{heard, Takes}
use Rattle.mr_out_calls.specs.Recorded.{behind, AreCallsOf, IsCarriedOut}

behind-one : (c : Command) (made : List (Call × Answer)) (one : Call × Answer) → behind c (made ++ one ∷ []) ≡ heard (behind c made) one.1
unfolding behind
behind-one c [] one = refl
behind-one c (first ∷ rest) one = behind-one (heard c first.1) rest one

calls-one : (c : Command) (made : List (Call × Answer)) (one : Call × Answer) → AreCallsOf c made → next_call (behind c made) ≡ Some one.0 → AreCallsOf c (made ++ one ∷ [])
unfolding behind AreCallsOf
calls-one c [] one all is = (is, tt)
calls-one c (first ∷ rest) one all is = (all.0, calls-one (heard c first.1) rest one all.1 is)

-- So many calls of a command were made, and it is this now: it has heard the answers, or memory was refused to it.
pub record Going (c : Command) (before after : List (Call × Answer)) (now : Command) (n : ℕ) : Type 0 where
  pub made : List (Call × Answer)
  pub recorded : after ≡ before ++ made
  pub calls : AreCallsOf c made
  pub stands : (now ≡ behind c made) ⊎ (now.phase ≡ Over outcome.NoMemory)
  pub counted : length made ≡ n

append_none : (xs : List (Call × Answer)) → xs ≡ xs ++ []
append_none [] = refl
append_none (x ∷ xs) = ap (λ ys. x ∷ ys) (append_none xs)

pub begins-going : (c : Command) (before : List (Call × Answer)) → Going c before before c 0
unfolding behind AreCallsOf
begins-going c before = record { made = []; recorded = append_none before; calls = tt; stands = inl refl; counted = refl }

none-is-some : (x : Call) → None ≡ Some x → ⊥
none-is-some x e = absurd (cc)

pub goes-on : (c : Command) (before after later : List (Call × Answer)) (now next : Command) (n : ℕ) (call : Call) (answer : Answer)
    → Going c before after now n → next_call now ≡ Some call → later ≡ after ++ (call, answer) ∷ [] → Takes now answer next → Going c before later next (n + 1)
goes-on c before after later now next n call answer g is noted takes = by g.stands
  where
    one : Call × Answer
    one = (call, answer)

    count : length (g.made ++ one ∷ []) ≡ n + 1
    count = length-append g.made (one ∷ []) ∙ ap (λ k. k + 1) g.counted

    stands : now ≡ behind c g.made → (next ≡ heard now answer) ⊎ (next.phase ≡ Over outcome.NoMemory) → (next ≡ behind c (g.made ++ one ∷ [])) ⊎ (next.phase ≡ Over outcome.NoMemory)
    stands same (inl e) = inl (e ∙ ap (λ d. heard d answer) same ∙ sym (behind-one c g.made one))
    stands same (inr e) = inr e

    by : (now ≡ behind c g.made) ⊎ (now.phase ≡ Over outcome.NoMemory) → Going c before later next (n + 1)
    by (inl same) = record {
      made = g.made ++ one ∷ [];
      recorded = noted ∙ ap (λ xs. xs ++ one ∷ []) g.recorded ∙ append_assoc before g.made (one ∷ []);
      calls = calls-one c g.made one g.calls (sym (ap next_call same) ∙ is);
      stands = stands same takes;
      counted = count;
    }
    by (inr over) = absurd (none-is-some call (sym (ap call_in over) ∙ is))

some-same : (x y : Outcome) → Some x ≡ Some y → y ≡ x
some-same x y e = cc

pub ends-going : (c : Command) (before after : List (Call × Answer)) (now : Command) (n : ℕ) (end : Outcome)
    → Going c before after now n → outcome_in now.phase ≡ Some end → IsCarriedOut c before after end
ends-going c before after now n end g is = by g.stands
  where
    by : (now ≡ behind c g.made) ⊎ (now.phase ≡ Over outcome.NoMemory) → IsCarriedOut c before after end
    by (inl same) = record { made = g.made; recorded = g.recorded; calls = g.calls; ends = inl (sym (ap (λ d. outcome_in d.phase) same) ∙ is) }
    by (inr over) = record { made = g.made; recorded = g.recorded; calls = g.calls; ends = inr (inl (some-same outcome.NoMemory end (sym (ap outcome_in over) ∙ is))) }

pub stops-going : (c : Command) (before after : List (Call × Answer)) (now : Command) (n : ℕ) → Going c before after now n → 2 ^ 64 ≤ n + 1 → IsCarriedOut c before after outcome.Failed
stops-going c before after now n g many = record { made = g.made; recorded = g.recorded; calls = g.calls; ends = inr (inr (refl, omega (arith, g.counted, many))) }

-- a command without a next call has ended
pub ended : (p : Phase) → call_in p ≡ None → outcome_in p ≡ None → ⊥
ended (Over o) none open_ = absurd (cc)
ended _ none open_ = absurd (cc)
