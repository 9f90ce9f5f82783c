-- What a call has as its refusal is what it answers.
use Rattle.std.proofs.Common.{◌≡◌, ℕ, true, Option, Some, None, Result, Ok, Err, refl, sym, ap, ◌∙◌, unwrap_or, is_ok}
use Rattle.mr_history.specs.declared.fault.HistoryFault.{HistoryFault}
use Rattle.mr_history.specs.declared.fault.HistoryFault.TheVariants.{NoMemory}
use Rattle.mr_history.specs.State.{State}
use Rattle.mr_history.specs.Calls.{Call, Done, Makes, MakesAlways, refused, effect, answer, settled}

pub refused-call : (old new : State) (k : ℕ) (call : Call) (result : Result (Unit {0}) HistoryFault) (f : HistoryFault) → Makes (λ _. Done) old k call result new → refused old k call ≡ Some f → (result ≡ Err f) × (new ≡ old)
refused-call old new k call (Ok u) f m e = absurd (by (refused old k call) e m)
  where
    by : (o : Option HistoryFault) → o ≡ Some f → settled o old k call ≡ (Ok Done, new) → ⊥
    by None e m = cc
    by (Some g) e m = let said : Err g ≡ Ok Done = ap (λ p. p.0) m in cc
refused-call old new k call (Err g) f m e = (ap Err (m.0 ∙ ap (λ o. unwrap_or o NoMemory) e), m.1)

pub made : (old new : State) (k : ℕ) (call : Call) (u : Unit {0}) → Makes (λ _. Done) old k call (Ok u) new → new ≡ effect old k call
made old new k call u m = by (refused old k call) m
  where
    by : (o : Option HistoryFault) → settled o old k call ≡ (Ok Done, new) → new ≡ effect old k call
    by None m = sym (ap (λ p. p.1) m)
    by (Some g) m = absurd (let said : Err g ≡ Ok Done = ap (λ p. p.0) m in cc)

pub wanting : (old new : State) (k : ℕ) (call : Call) (f : HistoryFault) → Makes {A = Unit {0}} (λ _. Done) old k call (Err f) new → refused old k call ≡ None → (f ≡ NoMemory) × (new ≡ old)
wanting old new k call f m e = (m.0 ∙ ap (λ o. unwrap_or o NoMemory) e, m.1)

pub always-refused : (old new : State) (k : ℕ) (call : Call) (result : Result (Unit {0}) HistoryFault) (f : HistoryFault) → MakesAlways (λ _. Done) old k call result new → refused old k call ≡ Some f → (result ≡ Err f) × (new ≡ old)
always-refused old new k call (Ok u) f m e = refused-call old new k call (Ok u) f m e
always-refused old new k call (Err g) f m e = let p = by (refused old k call) e m in (ap Err p.0, p.1)
  where
    by : (o : Option HistoryFault) → o ≡ Some f → settled o old k call ≡ (Err g, new) → (g ≡ f) × (new ≡ old)
    by None e m = absurd (cc)
    by (Some h) e m = (let said : settled (Some h) old k call ≡ (Err g, new) = m in let told = ap (λ p. p.0) said in cc, sym (ap (λ p. p.1) m))

pub always-made : (old new : State) (k : ℕ) (call : Call) (result : Result (Unit {0}) HistoryFault) → MakesAlways (λ _. Done) old k call result new → refused old k call ≡ None → (is_ok result ≡ true) × (new ≡ effect old k call)
always-made old new k call (Ok u) m e = (refl, made old new k call u m)
always-made old new k call (Err g) m e = absurd (by (refused old k call) e m)
  where
    by : (o : Option HistoryFault) → o ≡ None → settled o old k call ≡ (Err g, new) → ⊥
    by None e m = let said : Ok (answer old k call) ≡ Err g = ap (λ p. p.0) m in cc
    by (Some h) e m = cc
