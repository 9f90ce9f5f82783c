-- Contents that are the same.
use Rattle.std.proofs.Common.{◌≡◌, ◌<◌, ◌-◌, ◌||◌, ℕ, zero, suc, Bool, true, false, cond, List, [], ◌∷◌, length, map, nat_eq, None, is_some, refl, sym, ap, subst, ◌∙◌, arith, rules, true≢false}
use Rattle.std.proofs.lemmas.Slice.Eq.{slice_eq-Decides}
use Rattle.std.proofs.lemmas.List.Elements.{All-nil, All-cons, All-head, All-tail}
use Rattle.std.specs.Bool.{Decides}
use Rattle.std.specs.List.{All, list_any}
use Rattle.std.specs.Cmp.Lexicographic.{pointwise}
use Rattle.std.specs.FinMap as finite
use Rattle.mr_paths.specs.Path.{path_total, path_exact}
use Rattle.mr_names_tree.specs.declared.node.Node.{Node}
use Rattle.mr_names_tree.specs.declared.walk.Found.{Found}
use Rattle.mr_names_tree.specs.contracts.node.NodePartialEq.TheImpl as nodes
use Rattle.mr_names_tree.specs.Content.{Content}
use Rattle.mr_names_tree.specs.Walk.{found_of, walk}
use Rattle.mr_names_tree.proofs.ContentLaws.{same, same_path, same_itself}

pub numbers_decide : (a b : ℕ) → Decides (nat_eq a b) (a ≡ b)
numbers_decide = search (rules)

pub bytes_decide : (a b : List ℕ) → Decides (pointwise nat_eq a b) (a ≡ b)
bytes_decide a b = slice_eq-Decides numbers_decide a b _ refl

-- `==` of two nodes holds exactly where they are equal
pub nodes_decide : (a b : Node) → Decides (nodes.eq-value.it a b) (a ≡ b)
nodes_decide = search (rules, bytes_decide)

-- ---- contents with as many entries of which one has what the other has

some_path : (es : List (List (List ℕ) × Node)) (c : Content) → finite.entries c ≡ es → 0 < length es → (p : List (List ℕ)) × (is_some (finite.get c p) ≡ true)
some_path [] c is some = absurd (omega arith)
some_path (e ∷ es) c is some =
    (e.0, finite.contains_key-keys c e.0 ∙ ap (λ (l : List (List (List ℕ) × Node)). list_any (same e.0) (map (λ x. x.0) l)) is ∙ ap (λ b. b || list_any (same e.0) (map (λ (x : List (List ℕ) × Node). x.0) es)) (same_itself e.0))

without_it : (c : Content) (p q : List (List ℕ)) → finite.get (finite.remove c p) q ≡ cond (same q p) None (finite.get c q)
without_it c p q = finite.get-remove path_total c p q

one_less : (c : Content) (p : List (List ℕ)) (k : ℕ) → is_some (finite.get c p) ≡ true → finite.len c ≡ suc k → finite.len (finite.remove c p) ≡ k
one_less c p k there len = finite.len-remove path_total c p ∙ ap (λ b. cond b (finite.len c - 1) (finite.len c)) there ∙ ap (λ n. n - 1) len ∙ omega arith

abbrev Has : Content → Content → Type 0
Has m n = (q : List (List ℕ)) → is_some (finite.get m q) ≡ true → finite.get m q ≡ finite.get n q

still : (m n : Content) (p : List (List ℕ)) → Has m n → Has (finite.remove m p) (finite.remove n p)
still m n p has q there = without_it m p q ∙ by (same q p) refl ∙ sym (without_it n p q)
  where
    by : (b : Bool) → same q p ≡ b → cond (same q p) None (finite.get m q) ≡ cond (same q p) None (finite.get n q)
    by true e = rw e refl
    by false e =
        let kept : finite.get (finite.remove m p) q ≡ finite.get m q = without_it m p q ∙ ap (λ b. cond b None (finite.get m q)) e in
        ap (λ b. cond b None (finite.get m q)) e ∙ has q (ap is_some (sym kept) ∙ there) ∙ ap (λ b. cond b None (finite.get n q)) (sym e)

all_same : (k : ℕ) (m n : Content) → finite.len m ≡ k → finite.len n ≡ k → Has m n → (q : List (List ℕ)) → finite.get m q ≡ finite.get n q
all_same zero m n a b has q = ap (λ (c : Content). finite.get c q) (finite.empty_of_len m a ∙ sym (finite.empty_of_len n b))
all_same (suc k) m n a b has q = by (same q p) refl (all_same k (finite.remove m p) (finite.remove n p) (one_less m p k first.1 a) (one_less n p k beside b) (still m n p has) q)
  where
    first : (p : List (List ℕ)) × (is_some (finite.get m p) ≡ true)
    first = some_path (finite.entries m) m refl (omega (arith, finite.len-entries m, a))

    p : List (List ℕ)
    p = first.0

    beside : is_some (finite.get n p) ≡ true
    beside = ap is_some (sym (has p first.1)) ∙ first.1

    by : (t : Bool) → same q p ≡ t → finite.get (finite.remove m p) q ≡ finite.get (finite.remove n p) q → finite.get m q ≡ finite.get n q
    by true e rest = has q (ap (λ x. is_some (finite.get m x)) (same_path q p e) ∙ first.1)
    by false e rest =
        ap (λ b. cond b None (finite.get m q)) (sym e) ∙ sym (without_it m p q) ∙ rest ∙ without_it n p q ∙ ap (λ b. cond b None (finite.get n q)) e

-- ---- what a walk through one finds is at the same paths of the other

abbrev pub Alike : Content → Content → Found → Type 0
Alike m n found = finite.get m found.path ≡ finite.get n found.path

has_all : (m n : Content) (es : List (List (List ℕ) × Node)) → All (Alike m n) (map found_of es) → (q : List (List ℕ)) → list_any (same q) (map (λ e. e.0) es) ≡ true → finite.get m q ≡ finite.get n q
has_all m n [] all q there = absurd (true≢false (sym there))
has_all m n (e ∷ es) all q there = by (same q e.0) refl (has_all m n es (All-tail (Alike m n) (found_of e) (map found_of es) all) q)
  where
    by : (b : Bool) → same q e.0 ≡ b → (list_any (same q) (map (λ (x : List (List ℕ) × Node). x.0) es) ≡ true → finite.get m q ≡ finite.get n q) → finite.get m q ≡ finite.get n q
    by true is rest = let one : q ≡ e.0 = same_path q e.0 is in ap (finite.get m) one ∙ All-head (Alike m n) (found_of e) (map found_of es) all ∙ ap (finite.get n) (sym one)
    by false is rest = rest (ap (λ b. b || list_any (same q) (map (λ (x : List (List ℕ) × Node). x.0) es)) (sym is) ∙ there)

itself : (m : Content) (found : List Found) → All (Alike m m) found
itself m [] = All-nil (Alike m m)
itself m (f ∷ found) = All-cons (Alike m m) f found refl (itself m found)

-- two contents with as many entries are the same exactly where they are at the paths of a walk through one
pub walk_tells : (m n : Content) (found : List Found) (told : Bool) → finite.len m ≡ finite.len n → found ≡ walk m → Decides told (All (Alike m n) found) → Decides told (m ≡ n)
unfolding walk
walk_tells m n found told len is tells = (
  λ yes.
      let all : All (Alike m n) (map found_of (finite.entries m)) = subst (λ l. All (Alike m n) l) is (tells.0 yes) in
      finite.same_map path_total path_exact m n (all_same (finite.len m) m n refl (sym len) (λ q there. has_all m n (finite.entries m) all q (sym (finite.contains_key-keys m q) ∙ there))),
  λ same. tells.1 (subst (λ (c : Content). All (Alike m c) found) same (itself m found)),
)
