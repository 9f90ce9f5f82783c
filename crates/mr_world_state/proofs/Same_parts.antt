-- What a comparison of two worlds' parts finds.
use Rattle.std.proofs.Common.{◌≡◌, ◌∙◌, ◌↔◌, ℕ, Bool, true, false, IfOk, IsTrue, List, Result, nat_eq, refl, sym, ap, rules}
use Rattle.std.proofs.lemmas.Bool.{true≢false}
use Rattle.std.proofs.lemmas.Result.{IfOk-weaker}
use Rattle.std.proofs.lemmas.Slice.Eq.{slice_eq-Decides}
use Rattle.std.specs.Bool.{Decides}
use Rattle.std.specs.Cmp.Lexicographic.{pointwise}
use Rattle.std.specs.FinSet as set
use Rattle.mr_ids.specs.Attempt.{Attempt}
use Rattle.mr_names.specs.Attempts.{attempt_total, attempt_exact}
use Rattle.mr_names.specs.Barred.{is_barred}
use Rattle.mr_names.specs.Calls.{State}
use Rattle.mr_world_model.specs.Packets.{Config}
use Rattle.mr_world_state.specs.contracts.config.ConfigPartialEq.TheImpl as compared
use Rattle.mr_world_state.specs.declared.parts.Parts.{Parts}
use Rattle.mr_world_state.specs.Same.{SameParts}
use Rattle.mr_world_state.specs.inner.Compared.{SameMachinesIn, SameStores}

number-decides : (a b : ℕ) → Decides (nat_eq a b) (a ≡ b)
number-decides = search (rules)

bytes-decide : (a b : List ℕ) → Decides (pointwise nat_eq a b) (a ≡ b)
bytes-decide a b = slice_eq-Decides number-decides a b _ refl

splits-decide : (a b : List (List ℕ)) → Decides (pointwise (pointwise nat_eq) a b) (a ≡ b)
splits-decide a b = slice_eq-Decides bytes-decide a b _ refl

-- `==` of two configs holds exactly where they are equal
pub same_config : (a b : Config) → Decides (compared.eq-value.it a b) (a ≡ b)
same_config = search (rules, splits-decide)

names-same : (s t : State) → s.content ≡ t.content → s.fence ≡ t.fence → ((a : Attempt) → is_barred s.barred a ≡ is_barred t.barred a) → s ≡ t
names-same s t content fence each =
    let bars : s.barred ≡ t.barred = set.same_set attempt_total attempt_exact s.barred t.barred each in
    λ i. record { content = content i; fence = fence i; barred = bars i }

module _ (p q : Parts) where
  all-same : SameMachinesIn p q → SameStores p q → SameParts p q
  all-same m s = record {
    config = s.config;
    content = ap (λ (x : State). x.content) s.names;
    fence = ap (λ (x : State). x.fence) s.names;
    barred = λ a. ap (λ (x : State). is_barred x.barred a) s.names;
    history = s.history;
    masters = m.masters;
    living = m.living;
    nodes = m.nodes;
  }

  machines-same : SameParts p q → SameMachinesIn p q
  machines-same all = record { nodes = all.nodes; living = all.living; masters = all.masters }

  stores-same : SameParts p q → SameStores p q
  stores-same all = record { history = all.history; config = all.config; names = names-same p.names q.names all.content all.fence all.barred }

  -- the machines hold the same, and of the stores it is told whether they do
  pub with_machines : {E : Type 0} (r : Result Bool E) (b : Bool) → b ≡ true → (IsTrue b ↔ SameMachinesIn p q) → IfOk r (λ same. IsTrue same ↔ SameStores p q)
      → IfOk r (λ same. IsTrue same ↔ SameParts p q)
  with_machines r b holds machines told = IfOk-weaker r _ _ (λ same is. (λ t. all-same (machines.0 holds) (is.0 t), λ all. is.1 (stores-same all))) told

  -- they do not
  pub other_machines : (b : Bool) → b ≡ false → (IsTrue b ↔ SameMachinesIn p q) → IsTrue false ↔ SameParts p q
  other_machines b fails machines = (λ t. absurd (true≢false (sym t)), λ all. sym fails ∙ machines.1 (machines-same all))

  -- what was compared first is not the same
  pub other_history : (b : Bool) → b ≡ false → (IsTrue b ↔ (p.history ≡ q.history)) → IsTrue false ↔ SameStores p q
  other_history b fails history = (λ t. absurd (true≢false (sym t)), λ all. sym fails ∙ history.1 all.history)

  pub other_config : (b : Bool) → b ≡ false → (IsTrue b ↔ (p.config ≡ q.config)) → IsTrue false ↔ SameStores p q
  other_config b fails config = (λ t. absurd (true≢false (sym t)), λ all. sym fails ∙ config.1 all.config)

  -- the names are left
  pub with_names : {E : Type 0} (r : Result Bool E) → p.history ≡ q.history → p.config ≡ q.config → IfOk r (λ same. IsTrue same ↔ (p.names ≡ q.names)) → IfOk r (λ same. IsTrue same ↔ SameStores p q)
  with_names r history config told = IfOk-weaker r _ _ (λ same is. (λ t. record { history = history; config = config; names = is.0 t }, λ all. is.1 all.names)) told
