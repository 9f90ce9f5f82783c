-- Combining each part of the pairs first changes no text.
use Rattle.std.proofs.Common.{◌≡◌, ◌≢◌, Bool, true, false, cond, ◌||◌, List, [], ◌∷◌, ◌++◌, map, filter, refl, sym, ap, subst, ◌∙◌, append_assoc}
use Rattle.std.proofs.lemmas.List.Folds.{list_any-append}
use Rattle.std.proofs.lemmas.List.Elements.{filter-append}
use Rattle.std.specs.Cmp.{IsTotalOrder}
use Rattle.std.specs.Bool.{IsTrue}
use Rattle.std.specs.List.{flat_map, list_any, AllByRecursion}
use Rattle.std.specs.Ordering.{eq_by_cmp}
use Rattle.mr_user.specs.Computation.{Computation}
use Rattle.mr_user.specs.Groups.{keys_of, values_of}
use Rattle.mr_user.specs.Laws.{JobLaws, PairFits, PairsFit, AllFit}
use Rattle.mr_user.specs.Sequential.{key_lines, text_of}
use Rattle.mr_user.proofs.Rising.{tied, map-append, or_false, append_nil, any-rising, rising_same, IsApart, apart-rising, each-rising, member_passes}
use Rattle.mr_mapside.specs.Block.{combined_group, combined_pairs}

pub flat_map-map : {A B C : Type 0} (f : B → List C) (g : A → B) (xs : List A) → flat_map f (map g xs) ≡ flat_map (λ x. f (g x)) xs
flat_map-map f g [] = refl
flat_map-map f g (x ∷ xs) = ap (λ ys. f (g x) ++ ys) (flat_map-map f g xs)

flat_map_agree : {A B : Type 0} (f g : A → List B) (xs : List A) → AllByRecursion (λ x. f x ≡ g x) xs → flat_map f xs ≡ flat_map g xs
flat_map_agree f g [] h = refl
flat_map_agree f g (x ∷ xs) h = (λ i. h.0 i ++ flat_map_agree f g xs h.1 i)

pub all_append : {B : Type 0} (P : B → Type 0) (xs ys : List B) → AllByRecursion P xs → AllByRecursion P ys → AllByRecursion P (xs ++ ys)
all_append P [] ys a b = b
all_append P (x ∷ xs) ys a b = (a.0, all_append P xs ys a.1 b)

flat_map_fits : {A B : Type 0} (P : B → Type 0) (f : A → List B) (xs : List A) → AllByRecursion (λ x. AllByRecursion P (f x)) xs → AllByRecursion P (flat_map f xs)
flat_map_fits P f [] h = tt
flat_map_fits P f (x ∷ xs) h = all_append P (f x) (flat_map f xs) h.0 (flat_map_fits P f xs h.1)

module _ {K V : Type 0} (job : Computation K V) (laws : JobLaws job) (order : IsTotalOrder job.cmp) where
  abbrev pub keys : List (K × V) → List K
  keys ps = map (λ p. p.0) ps

  abbrev has : K → List (K × V) → Bool
  has k ps = list_any (eq_by_cmp job.cmp k) (keys ps)

  abbrev pub tagged : K → List V → List (K × V)
  tagged x vs = map (λ v. (x, v)) vs

  values-append : (k : K) (ps qs : List (K × V)) → values_of job.cmp k (ps ++ qs) ≡ values_of job.cmp k ps ++ values_of job.cmp k qs
  values-append k ps qs = ap (map (λ p. p.1)) (filter-append (λ (p : K × V). eq_by_cmp job.cmp k p.0) ps qs) ∙ map-append (λ p. p.1) _ _

  has-append : (k : K) (ps qs : List (K × V)) → has k (ps ++ qs) ≡ (has k ps || has k qs)
  has-append k ps qs = ap (list_any (eq_by_cmp job.cmp k)) (map-append (λ p. p.0) ps qs) ∙ list_any-append (eq_by_cmp job.cmp k) (keys ps) (keys qs)

  values-tagged : (k x : K) (b : Bool) → eq_by_cmp job.cmp k x ≡ b → (vs : List V) → values_of job.cmp k (tagged x vs) ≡ cond b vs []
  values-tagged k x true e [] = refl
  values-tagged k x false e [] = refl
  values-tagged k x true e (v ∷ vs) =
      let rest = filter (λ (p : K × V). eq_by_cmp job.cmp k p.0) (tagged x vs) in
      ap (λ b. map (λ (p : K × V). p.1) (cond b ((x, v) ∷ rest) rest)) e ∙ ap (λ ws. v ∷ ws) (values-tagged k x true e vs)
  values-tagged k x false e (v ∷ vs) =
      let rest = filter (λ (p : K × V). eq_by_cmp job.cmp k p.0) (tagged x vs) in
      ap (λ b. map (λ (p : K × V). p.1) (cond b ((x, v) ∷ rest) rest)) e ∙ values-tagged k x false e vs

  has-tagged : (k x : K) (vs : List V) → vs ≢ [] → has k (tagged x vs) ≡ eq_by_cmp job.cmp k x
  has-tagged k x [] h = absurd (h refl)
  has-tagged k x (v ∷ []) h = or_false _
  has-tagged k x (v ∷ w ∷ vs) h = ap (λ b. eq_by_cmp job.cmp k x || b) (has-tagged k x (w ∷ vs) (λ e. cc)) ∙ twice (eq_by_cmp job.cmp k x) where
    twice : (b : Bool) → (b || b) ≡ b
    twice true = refl
    twice false = refl

  module _ (g : K → List V) where
    abbrev pub grouped : List K → List (K × V)
    grouped ks = flat_map (λ x. tagged x (g x)) ks

    values-grouped : (k : K) (ks : List K) → IsApart job.cmp order laws.same_key ks → values_of job.cmp k (grouped ks) ≡ cond (list_any (eq_by_cmp job.cmp k) ks) (g k) []
    values-grouped k [] h = refl
    values-grouped k (x ∷ ks) h =
        values-append k (tagged x (g x)) (grouped ks)
        ∙ elim (eq_by_cmp job.cmp k x) as (λ b. eq_by_cmp job.cmp k x ≡ b → values_of job.cmp k (tagged x (g x)) ++ values_of job.cmp k (grouped ks) ≡ cond (b || list_any (eq_by_cmp job.cmp k) ks) (g k) []) [
          | true ↦ λ t. (λ i. values-tagged k x true t (g x) i ++ (values-grouped k ks h.1 ∙ ap (λ b. cond b (g k) []) (h.0 k t)) i) ∙ append_nil (g x) ∙ ap g (sym (laws.same_key k x (tied (job.cmp k x) t)))
          | false ↦ λ t. (λ i. values-tagged k x false t (g x) i ++ values-grouped k ks h.1 i)
        ] refl

    has-grouped : (k : K) (ks : List K) → AllByRecursion (λ x. g x ≢ []) ks → has k (grouped ks) ≡ list_any (eq_by_cmp job.cmp k) ks
    has-grouped k [] h = refl
    has-grouped k (x ∷ ks) h = has-append k (tagged x (g x)) (grouped ks) ∙ (λ i. has-tagged k x (g x) h.0 i || has-grouped k ks h.1 i)

  no_values : (k : K) (ps : List (K × V)) → has k ps ≡ false → values_of job.cmp k ps ≡ []
  no_values k [] h = refl
  no_values k (p ∷ ps) h =
      elim (eq_by_cmp job.cmp k p.0) as (λ b. (b || has k ps) ≡ false → map (λ (p : K × V). p.1) (cond b (p ∷ filter (λ (p : K × V). eq_by_cmp job.cmp k p.0) ps) (filter (λ (p : K × V). eq_by_cmp job.cmp k p.0) ps)) ≡ []) [
        | true ↦ λ e. cc
        | false ↦ λ e. no_values k ps e
      ] h

  pub some_values : (k : K) (ps : List (K × V)) → has k ps ≡ true → values_of job.cmp k ps ≢ []
  some_values k [] h = cc
  some_values k (p ∷ ps) h =
      elim (eq_by_cmp job.cmp k p.0) as (λ b. (b || has k ps) ≡ true → map (λ (p : K × V). p.1) (cond b (p ∷ filter (λ (p : K × V). eq_by_cmp job.cmp k p.0) ps) (filter (λ (p : K × V). eq_by_cmp job.cmp k p.0) ps)) ≢ []) [
        | true ↦ λ e. λ n. cc
        | false ↦ λ e. some_values k ps e
      ] h

  values_fit : (k : K) (ps : List (K × V)) → PairsFit job ps → AllFit job.value (values_of job.cmp k ps)
  values_fit k [] h = tt
  values_fit k (p ∷ ps) h =
      let rest = values_fit k ps h.1 in
      elim (eq_by_cmp job.cmp k p.0) as (λ b. AllFit job.value (map (λ (p : K × V). p.1) (cond b (p ∷ filter (λ (p : K × V). eq_by_cmp job.cmp k p.0) ps) (filter (λ (p : K × V). eq_by_cmp job.cmp k p.0) ps)))) [
        | true ↦ (h.0.1, rest)
        | false ↦ rest
      ]

  keys_fit : (ps : List (K × V)) → PairsFit job ps → AllByRecursion (λ k. IsTrue (job.key.fits k)) (keys ps)
  keys_fit [] h = tt
  keys_fit (p ∷ ps) h = (h.0.0, keys_fit ps h.1)

  key_fits : (k : K) (ps : List (K × V)) → PairsFit job ps → has k ps ≡ true → IsTrue (job.key.fits k)
  key_fits k ps h m = member_passes job.cmp order laws.same_key (λ k. IsTrue (job.key.fits k)) k (keys ps) (keys_fit ps h) m

  -- the combined pairs, by the keys
  pub by_keys : (ps : List (K × V)) → combined_pairs job ps ≡ grouped (λ x. job.functions.combined x (values_of job.cmp x ps)) (keys_of job.cmp ps)
  by_keys ps = flat_map-map (combined_group job) (λ k. (k, values_of job.cmp k ps)) (keys_of job.cmp ps)

  -- the text, by the keys
  text_by_keys : (ps : List (K × V)) → text_of job ps ≡ flat_map (λ k. key_lines job (k, values_of job.cmp k ps)) (keys_of job.cmp ps)
  text_by_keys ps = flat_map-map (key_lines job) (λ k. (k, values_of job.cmp k ps)) (keys_of job.cmp ps)

  -- the values of a key among the combined pairs
  values-combined : (k : K) (ps : List (K × V)) → values_of job.cmp k (combined_pairs job ps) ≡ cond (has k ps) (job.functions.combined k (values_of job.cmp k ps)) []
  values-combined k ps =
      ap (values_of job.cmp k) (by_keys ps)
      ∙ values-grouped (λ x. job.functions.combined x (values_of job.cmp x ps)) k (keys_of job.cmp ps) (apart-rising job.cmp order laws.same_key (keys ps))
      ∙ ap (λ b. cond b (job.functions.combined k (values_of job.cmp k ps)) []) (any-rising job.cmp order laws.same_key k (keys ps))

  -- combining keeps the keys
  has-combined : (k : K) (ps : List (K × V)) → PairsFit job ps → has k (combined_pairs job ps) ≡ has k ps
  has-combined k ps h =
      ap (has k) (by_keys ps)
      ∙ has-grouped (λ x. job.functions.combined x (values_of job.cmp x ps)) k (keys_of job.cmp ps)
      (each-rising job.cmp order laws.same_key (λ x. job.functions.combined x (values_of job.cmp x ps) ≢ []) (keys ps)
      (λ q m. laws.combined_some q (values_of job.cmp q ps) (key_fits q ps h m) (values_fit q ps h) (some_values q ps m)))
      ∙ any-rising job.cmp order laws.same_key k (keys ps)

  tagged_fit : (k : K) (vs : List V) → IsTrue (job.key.fits k) → AllFit job.value vs → PairsFit job (tagged k vs)
  tagged_fit k [] h a = tt
  tagged_fit k (v ∷ vs) h a = ((h, a.0), tagged_fit k vs h a.1)

  -- what is combined fits
  pub combined_pairs_fit : (ps : List (K × V)) → PairsFit job ps → PairsFit job (combined_pairs job ps)
  combined_pairs_fit ps h =
      subst (PairsFit job) (sym (by_keys ps))
      (flat_map_fits (PairFits job) (λ k. tagged k (job.functions.combined k (values_of job.cmp k ps))) (keys_of job.cmp ps)
      (each-rising job.cmp order laws.same_key (λ k. PairsFit job (tagged k (job.functions.combined k (values_of job.cmp k ps)))) (keys ps)
      (λ q m. tagged_fit q _ (key_fits q ps h m) (laws.combined_fit q (values_of job.cmp q ps) (key_fits q ps h m) (values_fit q ps h) (some_values q ps m)))))

  abbrev pub AllPairsFit : List (List (K × V)) → Type 0
  AllPairsFit pss = AllByRecursion (PairsFit job) pss

  all_combined_fit : (pss : List (List (K × V))) → AllPairsFit pss → PairsFit job (flat_map (combined_pairs job) pss)
  all_combined_fit [] h = tt
  all_combined_fit (ps ∷ pss) h = all_append (PairFits job) (combined_pairs job ps) (flat_map (combined_pairs job) pss) (combined_pairs_fit ps h.0) (all_combined_fit pss h.1)

  -- combining each part first changes what no key is reduced to
  reduced_same : (k : K) → IsTrue (job.key.fits k) → (pss : List (List (K × V))) → AllPairsFit pss → (x : List V) → AllFit job.value x →
      job.functions.reduced k (x ++ values_of job.cmp k (flat_map (combined_pairs job) pss)) ≡ job.functions.reduced k (x ++ values_of job.cmp k (flat_map (λ ps. ps) pss))
  reduced_same k fk [] h x fx = refl
  reduced_same k fk (ps ∷ pss) h x fx =
      let y = values_of job.cmp k ps in
      let z = values_of job.cmp k (flat_map (combined_pairs job) pss) in
      let w = values_of job.cmp k (flat_map (λ ps. ps) pss) in
      ap (λ vs. job.functions.reduced k (x ++ vs)) (values-append k (combined_pairs job ps) (flat_map (combined_pairs job) pss) ∙ ap (λ vs. vs ++ z) (values-combined k ps))
      ∙ elim (has k ps) as (λ b. has k ps ≡ b → job.functions.reduced k (x ++ (cond b (job.functions.combined k y) [] ++ z)) ≡ job.functions.reduced k (x ++ (y ++ w))) [
        | true ↦ λ m.
            ap (job.functions.reduced k) (sym (append_assoc x (job.functions.combined k y) z))
            ∙ laws.reduced_combined k x y z fk fx (values_fit k ps h.0) (values_fit k _ (all_combined_fit pss h.1)) (some_values k ps m)
            ∙ reduced_same k fk pss h.1 (x ++ y) (all_append (λ v. IsTrue (job.value.fits v)) x y fx (values_fit k ps h.0))
            ∙ ap (job.functions.reduced k) (append_assoc x y w)
        | false ↦ λ m. reduced_same k fk pss h.1 x fx ∙ ap (λ vs. job.functions.reduced k (x ++ (vs ++ w))) (sym (no_values k ps m))
      ] refl
      ∙ ap (λ vs. job.functions.reduced k (x ++ vs)) (sym (values-append k ps (flat_map (λ ps. ps) pss)))

  has_same : (k : K) (pss : List (List (K × V))) → AllPairsFit pss → has k (flat_map (combined_pairs job) pss) ≡ has k (flat_map (λ ps. ps) pss)
  has_same k [] h = refl
  has_same k (ps ∷ pss) h =
      has-append k (combined_pairs job ps) (flat_map (combined_pairs job) pss)
      ∙ (λ i. has-combined k ps h.0 i || has_same k pss h.1 i)
      ∙ sym (has-append k ps (flat_map (λ ps. ps) pss))

  pub all_fit : (pss : List (List (K × V))) → AllPairsFit pss → PairsFit job (flat_map (λ ps. ps) pss)
  all_fit [] h = tt
  all_fit (ps ∷ pss) h = all_append (PairFits job) ps (flat_map (λ ps. ps) pss) h.0 (all_fit pss h.1)

  -- the text of the parts, each combined first, is that of the parts as they are
  pub text-combined : (pss : List (List (K × V))) → AllPairsFit pss → text_of job (flat_map (combined_pairs job) pss) ≡ text_of job (flat_map (λ ps. ps) pss)
  text-combined pss h =
      let ps = flat_map (λ ps. ps) pss in
      let qs = flat_map (combined_pairs job) pss in
      text_by_keys qs
      ∙ ap (flat_map (λ k. key_lines job (k, values_of job.cmp k qs))) (rising_same job.cmp order laws.same_key (keys qs) (keys ps) (λ q. has_same q pss h))
      ∙ flat_map_agree (λ k. key_lines job (k, values_of job.cmp k qs)) (λ k. key_lines job (k, values_of job.cmp k ps)) (keys_of job.cmp ps)
      (each-rising job.cmp order laws.same_key _ (keys ps) (λ q m. ap (flat_map (λ text. job.functions.key_text q ++ 9 ∷ text ++ 10 ∷ [])) (reduced_same q (key_fits q ps (all_fit pss h) m) pss h [] tt)))
      ∙ sym (text_by_keys ps)
