-- A tree of marks: a node is marked where one of its two children is.
use Rattle.std.proofs.Common.{◌⊎◌, ℕ, zero, suc, ◌+◌, ◌*◌, ◌/◌, ◌<◌, ◌≤◌, ◌≡◌, sym, ◌∙◌, ap, subst, Bool, true, false, ◌||◌, if◌then◌else◌, List, length, set, slice_index_or, arith, get_or-set_other, get_or-set_same, inl, inr}
use Rattle.std.proofs.lemmas.Bool.{or_parts, or_cases, cases_Bool, cases_eq, cases_lt, true≢false}
use Rattle.std.proofs.lemmas.List.{get_or_past}
use Rattle.mr_master_tables.specs.Marks.{IsNode, NodesBut, NoneBetween}

-- ---- a node is written

other : (t : List Bool) (i j : ℕ) (b : Bool) → (j ≡ i → ⊥) → slice_index_or (set t i b) j false ≡ slice_index_or t j false
other t i j b ne = get_or-set_other t i j b false ne

-- what is written is neither the node nor one of its children
node-other : (t : List Bool) (i k : ℕ) (b : Bool) → (k ≡ i → ⊥) → (2 * k ≡ i → ⊥) → (2 * k + 1 ≡ i → ⊥) → IsNode t k → IsNode (set t i b) k
node-other t i k b x y z e = other t i k b x ∙ e ∙ sym (λ j. other t i (2 * k) b y j || other t i (2 * k + 1) b z j)

-- a place is written: the node above it may be wrong then
pub place-written : (t : List Bool) (size leaf : ℕ) (b : Bool) → NodesBut t size 0 → size ≤ leaf → NodesBut (set t leaf b) size (leaf / 2)
place-written t size leaf b nodes at k some' within ne =
    node-other t leaf k b (λ e. omega arith) (λ e. ne (omega arith)) (λ e. ne (omega arith)) (nodes k some' within (λ e. omega arith))

-- a node is put right: the node above it may be wrong then
pub node-written : (t : List Bool) (size hole : ℕ) (b : Bool) → NodesBut t size hole → 0 < hole → hole < size → length t ≡ 2 * size
    → b ≡ (slice_index_or t (2 * hole) false || slice_index_or t (2 * hole + 1) false) → NodesBut (set t hole b) size (hole / 2)
node-written t size hole b nodes low high count e k some' within ne = by (cases_eq k hole)
  where
    here : IsNode (set t hole b) hole
    here =
        get_or-set_same t hole b false (omega arith) ∙ e
        ∙ sym (λ j. other t hole (2 * hole) b (λ q. omega arith) j || other t hole (2 * hole + 1) b (λ q. omega arith) j)

    by : (k ≡ hole) ⊎ (k ≡ hole → ⊥) → IsNode (set t hole b) k
    by (inl q) = subst (λ (x : ℕ). IsNode (set t hole b) x) (sym q) here
    by (inr q) = node-other t hole k b q (λ f. ne (omega arith)) (λ f. ne (omega arith)) (nodes k some' within q)

pub place-kept : (t : List Bool) (size hole : ℕ) (b : Bool) (j : ℕ) → hole < size → size ≤ j → slice_index_or (set t hole b) j false ≡ slice_index_or t j false
place-kept t size hole b j within at = other t hole j b (λ e. omega arith)

-- ---- the root is not marked

child : (t : List Bool) (size k : ℕ) → NodesBut t size 0 → 0 < k / 2 → k / 2 < size → slice_index_or t (k / 2) false ≡ false → slice_index_or t k false ≡ false
child t size k nodes low high dark = by (cases_eq k (2 * (k / 2)))
  where
    both : (slice_index_or t (2 * (k / 2)) false ≡ false) × (slice_index_or t (2 * (k / 2) + 1) false ≡ false)
    both = or_parts _ _ (sym (nodes (k / 2) low high (λ e. omega arith)) ∙ dark)

    by : (k ≡ 2 * (k / 2)) ⊎ (k ≡ 2 * (k / 2) → ⊥) → slice_index_or t k false ≡ false
    by (inl q) = ap (λ j. slice_index_or t j false) q ∙ both.0
    by (inr q) = let e : k ≡ 2 * (k / 2) + 1 = omega arith in ap (λ j. slice_index_or t j false) e ∙ both.1

dark-to : (t : List Bool) (size : ℕ) → NodesBut t size 0 → length t ≡ 2 * size → slice_index_or t 1 false ≡ false → (bound k : ℕ) → k < bound → 0 < k → slice_index_or t k false ≡ false
dark-to t size nodes count root zero k within some' = absurd (omega arith)
dark-to t size nodes count root (suc bound) k within some' = by (cases_eq k 1) (cases_lt k (2 * size)) (λ low. dark-to t size nodes count root bound (k / 2) (omega arith) low)
  where
    by : (k ≡ 1) ⊎ (k ≡ 1 → ⊥) → (k < 2 * size) ⊎ (2 * size ≤ k) → (0 < k / 2 → slice_index_or t (k / 2) false ≡ false) → slice_index_or t k false ≡ false
    by (inl q) _ above = ap (λ j. slice_index_or t j false) q ∙ root
    by (inr q) (inr past) above = get_or_past t k false (omega arith)
    by (inr q) (inl inside) above = child t size k nodes (omega arith) (omega arith) (above (omega arith))

pub all-dark : (t : List Bool) (size : ℕ) → NodesBut t size 0 → length t ≡ 2 * size → slice_index_or t 1 false ≡ false → (k : ℕ) → 0 < k → slice_index_or t k false ≡ false
all-dark t size nodes count root k some' = dark-to t size nodes count root (suc k) k (omega arith) some'

-- ---- from a marked node to its first marked child

pub record IsFirstOn (t : List Bool) (base node : ℕ) : Type 0 where
  pub after : base ≤ node
  pub within : node < 2 * base
  pub marked : slice_index_or t node false ≡ true
  pub first : NoneBetween t base node

pub goes-down : (t : List Bool) (size base node next : ℕ) → NodesBut t size 0 → IsFirstOn t base node → 0 < base → node < size
    → next ≡ 2 * node + (if slice_index_or t (2 * node) false then 0 else 1) → IsFirstOn t (2 * base) next
goes-down t size base node next nodes on some' high is = by (cases_Bool (slice_index_or t (2 * node) false))
  where
    is-node : (slice_index_or t (2 * node) false || slice_index_or t (2 * node + 1) false) ≡ true
    is-node = sym (nodes node (let e = on.after in omega arith) high (λ e. let f = on.after in omega arith)) ∙ on.marked

    before : (j : ℕ) → 2 * base ≤ j → j < 2 * node → slice_index_or t j false ≡ false
    before j low up = child t size j nodes (omega arith) (let e = on.within in omega arith) (on.first (j / 2) (omega arith) (omega arith))

    right : slice_index_or t (2 * node) false ≡ false → (slice_index_or t (2 * node) false ≡ true) ⊎ (slice_index_or t (2 * node + 1) false ≡ true) → slice_index_or t (2 * node + 1) false ≡ true
    right dark (inl e) = absurd (true≢false (sym e ∙ dark))
    right dark (inr e) = e

    none-but : slice_index_or t (2 * node) false ≡ false → (j : ℕ) → 2 * base ≤ j → j < 2 * node + 1 → (j ≡ 2 * node) ⊎ (j ≡ 2 * node → ⊥) → slice_index_or t j false ≡ false
    none-but dark j low up (inl q) = ap (λ i. slice_index_or t i false) q ∙ dark
    none-but dark j low up (inr q) = before j low (omega arith)

    by : (slice_index_or t (2 * node) false ≡ true) ⊎ (slice_index_or t (2 * node) false ≡ false) → IsFirstOn t (2 * base) next
    by (inl e) =
        let here : next ≡ 2 * node = is ∙ ap (λ (b : Bool). 2 * node + (if b then 0 else 1)) e ∙ (let q : 2 * node + 0 ≡ 2 * node = omega arith in q) in
        subst (λ (n : ℕ). IsFirstOn t (2 * base) n) (sym here) (record {
          after = let f = on.after in omega arith;
          within = let f = on.within in omega arith;
          marked = e;
          first = before;
        })
    by (inr e) =
        let here : next ≡ 2 * node + 1 = is ∙ ap (λ (b : Bool). 2 * node + (if b then 0 else 1)) e in
        subst (λ (n : ℕ). IsFirstOn t (2 * base) n) (sym here) (record {
          after = let f = on.after in omega arith;
          within = let f = on.within in omega arith;
          marked = right e (or_cases _ _ is-node);
          first = λ j low up. none-but e j low up (cases_eq j (2 * node));
        })
