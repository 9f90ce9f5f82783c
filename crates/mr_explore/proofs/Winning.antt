-- Winners by the stable bytes of a history.
use Rattle.std.proofs.Common.{◌≡◌, ◌<◌, ℕ, suc, ◌+◌, List, [], ◌∷◌, ◌++◌, map, take, length, get_or, refl, sym, ap, ap₂, ◌∙◌, append-nil, arith}
use Rattle.std.proofs.lemmas.List.{map-append, take_more}
use Rattle.std.proofs.lemmas.Grind.{flat_map-append}
use Rattle.std.specs.List.{flat_map}
use Rattle.mr_history.specs.Reading.{records_of}
use Rattle.mr_world_model.specs.Records.{History, Record, records_below}

-- the records of the segments that come first, and of one more
pub told_more : (h : History) (segments : List (List ℕ)) (bytes : List ℕ) (k : ℕ) → flat_map records_of segments ≡ records_below h k → records_of bytes ≡ (h k).stable → flat_map records_of (segments ++ bytes ∷ []) ≡ records_below h (suc k)
unfolding records_below
told_more h segments bytes k is stable = flat_map-append records_of segments (bytes ∷ []) ∙ ap₂ (λ (xs ys : List Record). xs ++ ys) is (append-nil (records_of bytes) ∙ stable)

pub told_none : (h : History) → [] ≡ records_below h 0
unfolding records_below
told_none h = refl

-- the same, where a list of them is one longer
told_pushed : {V : Type 0} (f : V → List ℕ) (h : History) (vs ws : List V) (v : V) (k : ℕ) → ws ≡ vs ++ v ∷ [] → flat_map records_of (map f vs) ≡ records_below h k → records_of (f v) ≡ (h k).stable → flat_map records_of (map f ws) ≡ records_below h (k + 1)
told_pushed f h vs ws v k e is stable =
    let one : suc k ≡ k + 1 = omega arith in
    ap (λ us. flat_map records_of (map f us)) e ∙ (ap (flat_map records_of) (map-append f vs (v ∷ [])) ∙ (told_more h (map f vs) (f v) k is stable ∙ ap (records_below h) one))

-- segment after segment
pub told_next : {V : Type 0} (f : V → List ℕ) (h : History) (vs ws : List V) (v : V) (bytes : List ℕ) (k : ℕ) → ws ≡ vs ++ v ∷ [] → f v ≡ bytes → flat_map records_of (map f vs) ≡ records_below h k → records_of bytes ≡ (h k).stable → flat_map records_of (map f ws) ≡ records_below h (k + 1)
told_next f h vs ws v bytes k e b is stable = told_pushed f h vs ws v k e is (ap records_of b ∙ stable)

pub told_first : {V : Type 0} (f : V → List ℕ) (h : History) (vs : List V) (v : V) (bytes : List ℕ) (k : ℕ) → k < length vs → v ≡ get_or vs k v → f v ≡ bytes → flat_map records_of (map f (take k vs)) ≡ records_below h k → records_of bytes ≡ (h k).stable → flat_map records_of (map f (take (k + 1) vs)) ≡ records_below h (k + 1)
told_first f h vs v bytes k few at b is stable = told_next f h (take k vs) (take (k + 1) vs) v bytes k (take_more vs k v few ∙ ap (λ x. take k vs ++ x ∷ []) (sym at)) b is stable
