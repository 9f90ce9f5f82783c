-- A node that is given up: the live attempts that were launched there, task by task, and their bars.
use Rattle.std.proofs.Common.{ℕ, suc, ◌<◌, ◌≡◌, refl, sym, ◌∙◌, ap, subst, Bool, true, false, ◌&&◌, ◌||◌, not, cond, List, [], ◌∷◌, ◌++◌, append_assoc, append-nil, filter, length, if◌then◌else◌, nat_eq, inl, inr, arith}
use Rattle.std.proofs.lemmas.Bool.{false≢true, true≢false}
use Rattle.std.proofs.lemmas.List.Elements.{filter-append}
use Rattle.mr_ids.specs.Attempt.{Attempt}
use Rattle.mr_ids.specs.declared.id.TaskId.{TaskId}
use Rattle.mr_packet.specs.declared.packet.ContainerId.{ContainerId}
use Rattle.mr_world_model.specs.Ids.{task_eq, attempt_eq, is_reduce, of_reduces, bool_eq, container_eq}
use Rattle.mr_world_model.specs.Hearing.{Seen, Launched, has, has_container, is_live, live_on, in_place, in_task_order, more_bars, task_before, containers_of}
use Rattle.mr_world_model.specs.Sending.{live_of}
use Rattle.mr_world_model.specs.Claims.{In}
use Rattle.mr_world_model.proofs.Lists.{attempt_eq-true, attempt_eq-refl}
use Rattle.mr_world_model.proofs.Names.{task_eq-true}
use Rattle.mr_master_refinement.specs.inner.Arrivals.{at_task, attempts}
use Rattle.mr_master_refinement.proofs.Launches.{Numbered}

-- ---- those of a task's launches that are on a node

abbrev pub on_node : ℕ → List Launched → List Launched
on_node n ls = filter (λ l. nat_eq l.node n) ls

same-bool : (b : Bool) → bool_eq b b ≡ true
same-bool true = refl
same-bool false = refl

no-and : {A : Type 0} (x y : Bool) (u v : A) → (if x && (y && false) then u else v) ≡ v
no-and true true u v = refl
no-and true false u v = refl
no-and false y u v = refl

pub live-there : (s : Seen) (r : Bool) (n : ℕ) (t : TaskId) (ls : List Launched) → of_reduces t.kind ≡ r → on_node n (at_task t (live_of s ls)) ≡ at_task t (live_on s r n ls)
live-there s r n t [] e = refl
live-there s r n t (l ∷ ls) e = by (is_live s l.attempt) (task_eq l.attempt.task t) refl (live-there s r n t ls e)
  where
    rest : List Launched
    rest = live_on s r n ls

    kind : task_eq l.attempt.task t ≡ true → bool_eq (is_reduce l.attempt) r ≡ true
    kind q = (λ i. bool_eq (of_reduces (task_eq-true l.attempt.task t q i).kind) (sym e i)) ∙ same-bool (of_reduces t.kind)

    here : (b : Bool) → nat_eq l.node n ≡ b → (c : Bool) → task_eq l.attempt.task t ≡ c → c ≡ true → on_node n (at_task t (live_of s ls)) ≡ at_task t rest →
        on_node n (at_task t (live_of s ls)) ++ (if b then l ∷ [] else []) ≡ at_task t (if b && (bool_eq (is_reduce l.attempt) r && true) then l ∷ rest else rest)
    here true f c q y go =
        ap (λ z. z ++ l ∷ []) go ∙ (ap (λ (b : Bool). if b then at_task t rest ++ l ∷ [] else at_task t rest) (sym (q ∙ y))
        ∙ ap (λ (b : Bool). at_task t (if b && true then l ∷ rest else rest)) (sym (kind (q ∙ y))))
    here false f c q y go = append-nil (on_node n (at_task t (live_of s ls))) ∙ go

    other : (b c : Bool) → task_eq l.attempt.task t ≡ false → on_node n (at_task t (live_of s ls)) ≡ at_task t rest → on_node n (at_task t (live_of s ls)) ≡ at_task t (if b && (c && true) then l ∷ rest else rest)
    other true true q go = go ∙ ap (λ (b : Bool). if b then at_task t rest ++ l ∷ [] else at_task t rest) (sym q)
    other true false q go = go
    other false c q go = go

    last : (b : Bool) → nat_eq l.node n ≡ b → on_node n (at_task t (live_of s ls) ++ l ∷ []) ≡ on_node n (at_task t (live_of s ls)) ++ (if b then l ∷ [] else [])
    last b f = filter-append (λ x. nat_eq x.node n) (at_task t (live_of s ls)) (l ∷ []) ∙ ap (λ (b : Bool). on_node n (at_task t (live_of s ls)) ++ (if b then l ∷ [] else [])) f

    by : (x y : Bool) → task_eq l.attempt.task t ≡ y → on_node n (at_task t (live_of s ls)) ≡ at_task t rest →
        on_node n (at_task t (if x then l ∷ live_of s ls else live_of s ls)) ≡ at_task t (if nat_eq l.node n && (bool_eq (is_reduce l.attempt) r && x) then l ∷ rest else rest)
    by true true q go = ap (λ (b : Bool). on_node n (if b then at_task t (live_of s ls) ++ l ∷ [] else at_task t (live_of s ls))) q
        ∙ (last (nat_eq l.node n) refl ∙ here (nat_eq l.node n) refl (task_eq l.attempt.task t) refl q go)
    by true false q go = ap (λ (b : Bool). on_node n (if b then at_task t (live_of s ls) ++ l ∷ [] else at_task t (live_of s ls))) q ∙ other (nat_eq l.node n) (bool_eq (is_reduce l.attempt) r) q go
    by false y q go = go ∙ ap (at_task t) (sym (no-and (nat_eq l.node n) (bool_eq (is_reduce l.attempt) r) (l ∷ rest) rest))

-- ---- which they are

pub live-in : (s : Seen) (r : Bool) (n : ℕ) (ls : List Launched) (l : Launched) → In l (live_on s r n ls) → In l ls × (is_reduce l.attempt ≡ r)
live-in s r n [] l i = absurd i
live-in s r n (x ∷ ls) l i = by (nat_eq x.node n) (bool_eq (is_reduce x.attempt) r) refl (is_live s x.attempt) i (live-in s r n ls l)
  where
    kind : (b c : Bool) → bool_eq b c ≡ true → b ≡ c
    kind true c e = sym e
    kind false true e = e
    kind false false e = refl

    more : In l ls × (is_reduce l.attempt ≡ r) → In l (x ∷ ls) × (is_reduce l.attempt ≡ r)
    more u = (inr u.0, u.1)

    by : (a b : Bool) → bool_eq (is_reduce x.attempt) r ≡ b → (c : Bool) → In l (if a && (b && c) then x ∷ live_on s r n ls else live_on s r n ls) → (In l (live_on s r n ls) → In l ls × (is_reduce l.attempt ≡ r)) →
        In l (x ∷ ls) × (is_reduce l.attempt ≡ r)
    by true true q true (inl e) go = (inl e, ap (λ (y : Launched). is_reduce y.attempt) (sym e) ∙ kind (is_reduce x.attempt) r q)
    by true true q true (inr j) go = more (go j)
    by true true q false j go = more (go j)
    by true false q c j go = more (go j)
    by false b q c j go = more (go j)

in-place : (x : Launched) (ms : List Launched) (l : Launched) → In l (in_place x ms) → In l (x ∷ ms)
in-place x [] l i = i
in-place x (m ∷ ms) l i = by (task_before x.attempt m.attempt) i (in-place x ms l)
  where
    swap : In l (x ∷ ms) → In l (x ∷ m ∷ ms)
    swap (inl e) = inl e
    swap (inr j) = inr (inr j)

    by : (b : Bool) → In l (if b then x ∷ m ∷ ms else m ∷ in_place x ms) → (In l (in_place x ms) → In l (x ∷ ms)) → In l (x ∷ m ∷ ms)
    by true j go = j
    by false (inl e) go = inr (inl e)
    by false (inr j) go = swap (go j)

pub in-order : (ls : List Launched) (l : Launched) → In l (in_task_order ls) → In l ls
in-order [] l i = i
in-order (x ∷ ls) l i = more (in-place x (in_task_order ls) l i) (in-order ls l)
  where
    more : In l (x ∷ in_task_order ls) → (In l (in_task_order ls) → In l ls) → In l (x ∷ ls)
    more (inl e) go = inl e
    more (inr j) go = inr (go j)

-- ---- the order does not matter

or-swap : (x y z : Bool) → (x || (y || z)) ≡ (y || (x || z))
or-swap true true z = refl
or-swap true false z = refl
or-swap false true z = refl
or-swap false false z = refl

place-has : (l : Launched) (ms : List Launched) (a : Attempt) → has (attempts (in_place l ms)) a ≡ (attempt_eq a l.attempt || has (attempts ms) a)
place-has l [] a = refl
place-has l (m ∷ ms) a = by (task_before l.attempt m.attempt) (place-has l ms a)
  where
    by : (b : Bool) → has (attempts (in_place l ms)) a ≡ (attempt_eq a l.attempt || has (attempts ms) a) →
        has (attempts (if b then l ∷ m ∷ ms else m ∷ in_place l ms)) a ≡ (attempt_eq a l.attempt || (attempt_eq a m.attempt || has (attempts ms) a))
    by true rest = refl
    by false rest = ap (λ b. attempt_eq a m.attempt || b) rest ∙ or-swap (attempt_eq a m.attempt) (attempt_eq a l.attempt) (has (attempts ms) a)

order-has : (ls : List Launched) (a : Attempt) → has (attempts (in_task_order ls)) a ≡ has (attempts ls) a
order-has [] a = refl
order-has (l ∷ ls) a = place-has l (in_task_order ls) a ∙ ap (λ b. attempt_eq a l.attempt || b) (order-has ls a)

place-containers : (l : Launched) (ms : List Launched) (c : ContainerId) → has_container (containers_of (in_place l ms)) c ≡ (container_eq c l.container || has_container (containers_of ms) c)
place-containers l [] c = refl
place-containers l (m ∷ ms) c = by (task_before l.attempt m.attempt) (place-containers l ms c)
  where
    by : (b : Bool) → has_container (containers_of (in_place l ms)) c ≡ (container_eq c l.container || has_container (containers_of ms) c) →
        has_container (containers_of (if b then l ∷ m ∷ ms else m ∷ in_place l ms)) c ≡ (container_eq c l.container || (container_eq c m.container || has_container (containers_of ms) c))
    by true rest = refl
    by false rest = ap (λ b. container_eq c m.container || b) rest ∙ or-swap (container_eq c m.container) (container_eq c l.container) (has_container (containers_of ms) c)

pub order-containers : (ls : List Launched) (c : ContainerId) → has_container (containers_of (in_task_order ls)) c ≡ has_container (containers_of ls) c
order-containers [] c = refl
order-containers (l ∷ ls) c = place-containers l (in_task_order ls) c ∙ ap (λ b. container_eq c l.container || b) (order-containers ls c)

pub containers-append : (xs ys : List ContainerId) (c : ContainerId) → has_container (xs ++ ys) c ≡ (has_container xs c || has_container ys c)
containers-append [] ys c = refl
containers-append (x ∷ xs) ys c = ap (λ b. container_eq c x || b) (containers-append xs ys c) ∙ assoc (container_eq c x) (has_container xs c) (has_container ys c)
  where
    assoc : (x y z : Bool) → (x || (y || z)) ≡ ((x || y) || z)
    assoc true y z = refl
    assoc false y z = refl

-- ---- no attempt twice

abbrev pub Once_each : List Launched → Type 0
Once_each [] = Unit {0}
Once_each (l ∷ ls) = (has (attempts ls) l.attempt ≡ false) × Once_each ls

numbered-low : (k : ℕ) (ls : List Launched) → Numbered k ls → (l : Launched) → In l ls → l.container.number < length ls
numbered-low k [] o l i = absurd i
numbered-low k (x ∷ ls) o l (inl e) = subst (λ (y : Launched). y.container.number < suc (length ls)) e (at (ap (λ (c : ContainerId). c.number) o.0))
  where
    at : x.container.number ≡ length ls → x.container.number < suc (length ls)
    at q = omega (arith, q)
numbered-low k (x ∷ ls) o l (inr i) = let q = numbered-low k ls o.1 l i in omega (arith, q)

has-launched : (ls : List Launched) (a : Attempt) → has (attempts ls) a ≡ true → (l : Launched) × In l ls × (l.attempt ≡ a)
has-launched [] a e = absurd (false≢true e)
has-launched (l ∷ ls) a e = by (attempt_eq a l.attempt) refl e (has-launched ls a)
  where
    by : (b : Bool) → attempt_eq a l.attempt ≡ b → (b || has (attempts ls) a) ≡ true → (has (attempts ls) a ≡ true → (x : Launched) × In x ls × (x.attempt ≡ a)) → (x : Launched) × In x (l ∷ ls) × (x.attempt ≡ a)
    by true q e go = (l, inl refl, sym (attempt_eq-true a l.attempt q))
    by false q e go = let u = go e in (u.0, inr u.1, u.2)

pub once-each : (k : ℕ) (ls : List Launched) → Numbered k ls → ((l m : Launched) → In l ls → In m ls → l.attempt ≡ m.attempt → l ≡ m) → Once_each ls
once-each k [] o d = tt
once-each k (l ∷ ls) o d = (by (has (attempts ls) l.attempt) refl, once-each k ls o.1 (λ x y i j. d x y (inr i) (inr j)))
  where
    again : (u : (x : Launched) × In x ls × (x.attempt ≡ l.attempt)) → ⊥
    again u =
        let same = d u.0 l (inr u.1) (inl refl) u.2 in
        let low = numbered-low k ls o.1 u.0 u.1 in
        let number : u.0.container.number ≡ length ls = ap (λ (x : Launched). x.container.number) same ∙ ap (λ (c : ContainerId). c.number) o.0 in
        omega (arith, low, number)

    by : (b : Bool) → has (attempts ls) l.attempt ≡ b → b ≡ false
    by true e = absurd (again (has-launched ls l.attempt e))
    by false e = refl

live-none : (s : Seen) (r : Bool) (n : ℕ) (ls : List Launched) (a : Attempt) → has (attempts ls) a ≡ false → has (attempts (live_on s r n ls)) a ≡ false
live-none s r n [] a e = refl
live-none s r n (l ∷ ls) a e = by (attempt_eq a l.attempt) refl e (nat_eq l.node n && (bool_eq (is_reduce l.attempt) r && is_live s l.attempt)) (live-none s r n ls a)
  where
    by : (b : Bool) → attempt_eq a l.attempt ≡ b → (b || has (attempts ls) a) ≡ false → (c : Bool) → (has (attempts ls) a ≡ false → has (attempts (live_on s r n ls)) a ≡ false) →
        has (attempts (if c then l ∷ live_on s r n ls else live_on s r n ls)) a ≡ false
    by true q e c go = absurd (true≢false e)
    by false q e true go = (λ i. q i || has (attempts (live_on s r n ls)) a) ∙ go e
    by false q e false go = go e

pub live-once : (s : Seen) (r : Bool) (n : ℕ) (ls : List Launched) → Once_each ls → Once_each (live_on s r n ls)
live-once s r n [] o = tt
live-once s r n (l ∷ ls) o = by (nat_eq l.node n && (bool_eq (is_reduce l.attempt) r && is_live s l.attempt)) (live-once s r n ls o.1)
  where
    by : (c : Bool) → Once_each (live_on s r n ls) → Once_each (if c then l ∷ live_on s r n ls else live_on s r n ls)
    by true rest = (live-none s r n ls l.attempt o.0, rest)
    by false rest = rest

turned : (a b : Attempt) → attempt_eq a b ≡ false → attempt_eq b a ≡ false
turned a b e = by (attempt_eq b a) refl
  where
    by : (c : Bool) → attempt_eq b a ≡ c → c ≡ false
    by true q = absurd (true≢false (sym (attempt_eq-refl a) ∙ subst (λ x. attempt_eq a x ≡ false) (attempt_eq-true b a q) e))
    by false q = refl

place-once : (l : Launched) (ms : List Launched) → has (attempts ms) l.attempt ≡ false → Once_each ms → Once_each (in_place l ms)
place-once l [] e o = (refl, tt)
place-once l (m ∷ ms) e o = by (attempt_eq l.attempt m.attempt) refl e (task_before l.attempt m.attempt) (place-once l ms)
  where
    by : (b : Bool) → attempt_eq l.attempt m.attempt ≡ b → (b || has (attempts ms) l.attempt) ≡ false → (c : Bool) → (has (attempts ms) l.attempt ≡ false → Once_each ms → Once_each (in_place l ms)) →
        Once_each (if c then l ∷ m ∷ ms else m ∷ in_place l ms)
    by true q f c go = absurd (true≢false f)
    by false q f true go = (e, o)
    by false q f false go = (place-has l ms m.attempt ∙ ((λ i. turned l.attempt m.attempt q i || has (attempts ms) m.attempt) ∙ o.0), go f o.1)

pub order-once : (ls : List Launched) → Once_each ls → Once_each (in_task_order ls)
order-once [] o = tt
order-once (l ∷ ls) o = place-once l (in_task_order ls) (order-has ls l.attempt ∙ o.0) (order-once ls o.1)

-- ---- bars

has-last : (bs : List Attempt) (a b : Attempt) → has (bs ++ a ∷ []) b ≡ (has bs b || attempt_eq b a)
has-last [] a b = none (attempt_eq b a)
  where
    none : (x : Bool) → (x || false) ≡ x
    none true = refl
    none false = refl
has-last (x ∷ bs) a b = ap (λ c. attempt_eq b x || c) (has-last bs a b) ∙ assoc (attempt_eq b x) (has bs b) (attempt_eq b a)
  where
    assoc : (x y z : Bool) → (x || (y || z)) ≡ ((x || y) || z)
    assoc true y z = refl
    assoc false y z = refl

kept-same : (f g : Attempt → Bool) (xs : List Attempt) → ((a : Attempt) → has xs a ≡ true → f a ≡ g a) → filter f xs ≡ filter g xs
kept-same f g [] e = refl
kept-same f g (x ∷ xs) e =
    let here = e x (ap (λ b. b || has xs x) (itself x)) in
    let rest = kept-same f g xs (λ a q. e a (ap (λ b. attempt_eq a x || b) q ∙ last (attempt_eq a x))) in
    λ i. cond (here i) (x ∷ rest i) (rest i)
  where
    last : (b : Bool) → (b || true) ≡ true
    last true = refl
    last false = refl

    itself : (x : Attempt) → attempt_eq x x ≡ true
    itself x = attempt_eq-refl x

pub bars-are : (bs : List Attempt) (ls : List Launched) → Once_each ls → more_bars bs ls ≡ bs ++ filter (λ a. not (has bs a)) (attempts ls)
bars-are bs [] o = sym (append-nil bs)
bars-are bs (l ∷ ls) o = by (has bs l.attempt) refl (λ cs. bars-are cs ls o.1)
  where
    -- the others are other attempts
    others : (a : Attempt) → has (attempts ls) a ≡ true → not (has (bs ++ l.attempt ∷ []) a) ≡ not (has bs a)
    others a q = ap not (has-last bs l.attempt a ∙ differ (attempt_eq a l.attempt) refl)
      where
        none : (x : Bool) → (x || false) ≡ x
        none true = refl
        none false = refl

        differ : (c : Bool) → attempt_eq a l.attempt ≡ c → (has bs a || attempt_eq a l.attempt) ≡ has bs a
        differ true e = absurd (false≢true (sym o.0 ∙ (ap (has (attempts ls)) (sym (attempt_eq-true a l.attempt e)) ∙ q)))
        differ false e = ap (λ c. has bs a || c) e ∙ none (has bs a)

    by : (c : Bool) → has bs l.attempt ≡ c → ((cs : List Attempt) → more_bars cs ls ≡ cs ++ filter (λ a. not (has cs a)) (attempts ls)) → more_bars (if c then bs else bs ++ l.attempt ∷ []) ls ≡ bs ++ cond (not c) (l.attempt ∷ filter (λ a. not (has bs a)) (attempts ls)) (filter (λ a. not (has bs a)) (attempts ls))
    by true e go = go bs
    by false e go = go (bs ++ l.attempt ∷ [])
        ∙ (append_assoc bs (l.attempt ∷ []) (filter (λ a. not (has (bs ++ l.attempt ∷ []) a)) (attempts ls))
        ∙ ap (λ z. bs ++ l.attempt ∷ z) (kept-same (λ a. not (has (bs ++ l.attempt ∷ []) a)) (λ a. not (has bs a)) (attempts ls) others))
