-- What a reduce's container has fetched: the blocks of the maps below its present one, and of that one a front.
use Rattle.std.proofs.Common.{ℕ, zero, suc, ◌+◌, ◌≤◌, ◌<◌, ◌≡◌, refl, sym, ◌∙◌, ap, subst, Bool, true, false, ◌&&◌, List, [], ◌∷◌, ◌++◌, Option, Some, None, if◌then◌else◌, nat_eq, nat_lt, append_assoc, append-nil, arith, slice_get, length, take, drop}
use Rattle.std.specs.Option.{option_map}
use Rattle.std.proofs.lemmas.Bool.{and_parts, false≢true, eqb-true, ltb-true, ltb-false, leb-true}
use Rattle.mr_world_model.specs.Ids.{Attempt, attempt_eq, is_reduce}
use Rattle.mr_world_model.specs.Packets.{Config, Packet, MapReady, Piece, FetchLost}
use Rattle.mr_world_model.specs.Pasts.{Step, Got, Sent, Computed, Called, Wish, To_ask_where, To_fetch, To_say_lost, To_compute, computed}
use Rattle.mr_world_model.proofs.Nexts.{next_wish, ask_from, is_awaited, is_all, completed, with_block}
use Rattle.mr_world_model.specs.World.{piece_limit}
use Rattle.mr_world_model.specs.Effect.{wants_compute}
use Rattle.mr_world_model.specs.Sequential.{Job, JobLaws, blocks_from, in_front}
use Rattle.mr_world_model.proofs.Basic.{if_cases, Extends, Extends-more}
use Rattle.mr_world_model.proofs.Lists.{attempt_eq-true}
use Rattle.mr_world_model.proofs.Closed.{or-true}
use Rattle.mr_world_model.proofs.Wishes.{is_late, is_result, StepOk, late-next, computed-same}

-- the block of map m for reduce r
pub record IsBlock (job : Job) (cfg : Config) (m r : ℕ) (block : List ℕ) : Type 0 where
  pub split : List ℕ
  pub of_map : slice_get cfg.splits m ≡ Some split
  pub is : job.block cfg.reduces r m split ≡ Some block

pub one_block : (job : Job) (cfg : Config) (m r : ℕ) (b c : List ℕ) → IsBlock job cfg m r b → IsBlock job cfg m r c → b ≡ c
one_block job cfg m r b c x y =
    let s : x.split ≡ y.split = some_is (sym x.of_map ∙ y.of_map) in
    some_is (sym x.is ∙ (ap (job.block cfg.reduces r m) s ∙ y.is))
  where
    some_is : {u v : List ℕ} → Some u ≡ Some v → u ≡ v
    some_is e = cc

-- a piece of a block, from an offset on
pub record IsPiece (job : Job) (cfg : Config) (a : Attempt) (r o total : ℕ) (bytes : List ℕ) : Type 0 where
  pub block : List ℕ
  pub is : IsBlock job cfg a.task.number r block
  pub total_is : total ≡ length block
  pub bytes_are : bytes ≡ take piece_limit (drop o block)

-- what is known of a packet that comes to a container of attempt x
abbrev pub Arrives : Job → Config → Attempt → Packet → Type 0
Arrives job cfg x (Piece a r o total bytes) = IsPiece job cfg a r o total bytes × (r ≡ x.task.number)
Arrives job cfg x (MapReady m a n i) = a.task.number ≡ m
Arrives job cfg x _ = Unit {0}

-- the blocks of the first m maps
abbrev pub AreFirst : Job → Config → (r m : ℕ) → List (List ℕ) → Type 0
AreFirst job cfg r m blocks = blocks_from job cfg.reduces r 0 (take m cfg.splits) ≡ Some blocks

snoc-blocks : (job : Job) (n r m : ℕ) (splits : List (List ℕ)) (split : List ℕ) (blocks : List (List ℕ)) (block : List ℕ) →
    blocks_from job n r m splits ≡ Some blocks → job.block n r (m + length splits) split ≡ Some block → blocks_from job n r m (splits ++ split ∷ []) ≡ Some (blocks ++ block ∷ [])
snoc-blocks job n r m [] split blocks block e f =
    let z : m + 0 ≡ m = omega arith in
    let g : job.block n r m split ≡ Some block = subst (λ k. job.block n r k split ≡ Some block) z f in
    let h : [] ≡ blocks = cc in rw (g, ← h) refl
snoc-blocks job n r m (s ∷ splits) split blocks block e f = by (job.block n r m s) refl (blocks_from job n r (m + 1) splits) refl e (λ bs q g. snoc-blocks job n r (m + 1) splits split bs block q g)
  where
    by : (x : Option (List ℕ)) → job.block n r m s ≡ x → (y : Option (List (List ℕ))) → blocks_from job n r (m + 1) splits ≡ y → in_front x y ≡ Some blocks →
        ((bs : List (List ℕ)) → blocks_from job n r (m + 1) splits ≡ Some bs → job.block n r ((m + 1) + length splits) split ≡ Some block → blocks_from job n r (m + 1) (splits ++ split ∷ []) ≡ Some (bs ++ block ∷ [])) →
        in_front (job.block n r m s) (blocks_from job n r (m + 1) (splits ++ split ∷ [])) ≡ Some (blocks ++ block ∷ [])
    by None p y q e g = cc
    by (Some b) p None q e g = cc
    by (Some b) p (Some bs) q e g =
        let z : m + suc (length splits) ≡ (m + 1) + length splits = omega arith in
        let ih = g bs q (subst (λ k. job.block n r k split ≡ Some block) z f) in
        let h : b ∷ bs ≡ blocks = cc in rw (p, ih, ← h) refl

take-snoc : {A : Type 0} (xs : List A) (m : ℕ) (x : A) → slice_get xs m ≡ Some x → (take (suc m) xs ≡ take m xs ++ x ∷ []) × (length (take m xs) ≡ m)
take-snoc [] m x e = cc
take-snoc (y ∷ xs) zero x e = let f : y ≡ x = cc in (rw f refl, refl)
take-snoc (y ∷ xs) (suc m) x e = let r = take-snoc xs m x e in (ap (λ z. y ∷ z) r.0, ap suc r.1)

-- the next block
pub next-first : (job : Job) (cfg : Config) (r m : ℕ) (blocks : List (List ℕ)) (block : List ℕ) → AreFirst job cfg r m blocks → IsBlock job cfg m r block → AreFirst job cfg r (suc m) (blocks ++ block ∷ [])
next-first job cfg r m blocks block a b =
    let t = take-snoc cfg.splits m b.split b.of_map in
    let z : 0 + length (take m cfg.splits) ≡ m = omega (arith, t.1) in
    rw t.0 (snoc-blocks job cfg.reduces r 0 (take m cfg.splits) b.split blocks block a (subst (λ k. job.block cfg.reduces r k b.split ≡ Some block) (sym z) b.is))

take-all : {A : Type 0} (xs : List A) → take (length xs) xs ≡ xs
take-all [] = refl
take-all (x ∷ xs) = ap (λ z. x ∷ z) (take-all xs)

-- all blocks make the sequential text
pub first-all : (job : Job) (cfg : Config) (r : ℕ) (blocks : List (List ℕ)) (text : List ℕ) → JobLaws job cfg → AreFirst job cfg r (length cfg.splits) blocks → job.part blocks ≡ Some text →
    job.sequential cfg.reduces r cfg.splits ≡ Some text
first-all job cfg r blocks text laws a p =
    let b : blocks_from job cfg.reduces r 0 cfg.splits ≡ Some blocks = subst (λ z. blocks_from job cfg.reduces r 0 z ≡ Some blocks) (take-all cfg.splits) a in
    by (job.sequential cfg.reduces r cfg.splits) refl (sym (ap (option_map job.part) b) ∙ laws.part_of_blocks r)
  where
    by : (o : Option (List ℕ)) → job.sequential cfg.reduces r cfg.splits ≡ o → Some (job.part blocks) ≡ option_map Some o → job.sequential cfg.reduces r cfg.splits ≡ Some text
    by None q e = cc
    by (Some t) q e = let f : job.part blocks ≡ Some t = cc in let g : t ≡ text = cc (f, p) in q ∙ ap Some g

-- what is fetched, by wish
abbrev pub Early : Job → Config → (r : ℕ) → List (List ℕ) → Wish → Type 0
Early job cfg r blocks (To_ask_where m) = (m < length cfg.splits) × AreFirst job cfg r m blocks
Early job cfg r blocks (To_fetch m a n i got) = (m < length cfg.splits) × AreFirst job cfg r m blocks × (a.task.number ≡ m) × ((b : List ℕ) → IsBlock job cfg m r b → Extends got b)
Early job cfg r blocks (To_say_lost m a) = (m < length cfg.splits) × AreFirst job cfg r m blocks
Early job cfg r blocks To_compute = AreFirst job cfg r (length cfg.splits) blocks
Early job cfg r blocks _ = Unit {0}

late-early : (job : Job) (cfg : Config) (r : ℕ) (blocks : List (List ℕ)) (v : Wish) → is_late v ≡ true → Early job cfg r blocks v
late-early job cfg r blocks (To_ask_where m) e = absurd (false≢true e)
late-early job cfg r blocks (To_fetch m a n i got) e = absurd (false≢true e)
late-early job cfg r blocks (To_say_lost m a) e = absurd (false≢true e)
late-early job cfg r blocks To_compute e = absurd (false≢true e)
late-early job cfg r blocks v e = tt

-- after the first m maps
pub asks-early : (job : Job) (cfg : Config) (r m : ℕ) (blocks : List (List ℕ)) → m ≤ length cfg.splits → AreFirst job cfg r m blocks → Early job cfg r blocks (ask_from (length cfg.splits) m)
asks-early job cfg r m blocks l f = if_cases (Early job cfg r blocks) (nat_lt m (length cfg.splits)) _ _ (λ t. (ltb-true _ _ t, f))
    (λ t. let g = ltb-false _ _ t in let e : m ≡ length cfg.splits = omega arith in subst (λ z. AreFirst job cfg r z blocks) e f)

-- a front of a block that is as long as the block
front-all : (got block : List ℕ) → Extends got block → length block ≤ length got → got ≡ block
front-all got block x l = by x.rest x.is
  where
    by : (rest : List ℕ) → got ++ rest ≡ block → got ≡ block
    by [] e = sym (append-nil got) ∙ e
    by (y ∷ rest) e = let q : length (got ++ y ∷ rest) ≤ length got = subst (λ z. length z ≤ length got) (sym e) l in absurd (longer got rest y q)
      where
        longer : (got rest : List ℕ) (y : ℕ) → length (got ++ y ∷ rest) ≤ length got → ⊥
        longer [] rest y l = omega arith
        longer (g ∷ got) rest y l = longer got rest y (omega arith)

drop-front : (got rest : List ℕ) → drop (length got) (got ++ rest) ≡ rest
drop-front [] rest = refl
drop-front (g ∷ got) rest = drop-front got rest

take-extends : (n : ℕ) (xs : List ℕ) → Extends (take n xs) xs
take-extends zero xs = record { rest = xs; is = refl }
take-extends (suc n) [] = record { rest = []; is = refl }
take-extends (suc n) (x ∷ xs) = let e = take-extends n xs in record { rest = e.rest; is = ap (λ z. x ∷ z) e.is }

-- a front of a block and a piece from its end on
front-more : (got block bytes : List ℕ) → Extends got block → bytes ≡ take piece_limit (drop (length got) block) → Extends (got ++ bytes) block
front-more got block bytes x e =
    let d : drop (length got) block ≡ x.rest = subst (λ z. drop (length got) z ≡ x.rest) x.is (drop-front got x.rest) in
    let b : bytes ≡ take piece_limit x.rest = e ∙ ap (take piece_limit) d in
    let t = take-extends piece_limit x.rest in
    record { rest = t.rest; is = append_assoc got bytes t.rest ∙ (ap (λ z. got ++ (z ++ t.rest)) b ∙ (ap (λ z. got ++ z) t.is ∙ x.is)) }

-- what is asked of a step: what came was sent so
abbrev pub CameFits : Job → Config → Attempt → Step → Type 0
CameFits job cfg x (Got p) = Arrives job cfg x p
CameFits job cfg x (Sent p) = Unit {0}
CameFits job cfg x (Computed bytes) = Unit {0}
CameFits job cfg x (Called op r) = Unit {0}

abbrev PieceEarly : Job → Config → Attempt → List (List ℕ) → (m : ℕ) → Attempt → (n i : ℕ) → (got : List ℕ) → (total : ℕ) → (bytes : List ℕ) → (t u : Bool) → Type 0
PieceEarly job cfg x blocks m a n i got total bytes t u = Early job cfg x.task.number (with_block blocks (if t && u then Some (got ++ bytes) else None))
    (if t then (if u then ask_from (length cfg.splits) (suc m) else To_fetch m a n i (got ++ bytes)) else To_fetch m a n i got)

piece-early : (job : Job) (cfg : Config) (x : Attempt) (blocks : List (List ℕ)) (m : ℕ) (a : Attempt) (n i : ℕ) (got : List ℕ) (b : Attempt) (r o total : ℕ) (bytes : List ℕ) →
    IsPiece job cfg b r o total bytes → r ≡ x.task.number → m < length cfg.splits → AreFirst job cfg x.task.number m blocks → a.task.number ≡ m → ((c : List ℕ) → IsBlock job cfg m x.task.number c → Extends got c) →
    (t u : Bool) → is_awaited x a got b r o ≡ t → is_all total (got ++ bytes) ≡ u → PieceEarly job cfg x blocks m a n i got total bytes t u
piece-early job cfg x blocks m a n i got b r o total bytes p own-r l f at g false true t u = (l, f, at, g)
piece-early job cfg x blocks m a n i got b r o total bytes p own-r l f at g false false t u = (l, f, at, g)
piece-early job cfg x blocks m a n i got b r o total bytes p own-r l f at g true u t v = by u v
  where
    parts : (attempt_eq a b ≡ true) × (nat_eq o (length got) ≡ true)
    parts = let p = and_parts (attempt_eq a b) (nat_eq r x.task.number && nat_eq o (length got)) t in (p.0, (and_parts (nat_eq r x.task.number) (nat_eq o (length got)) p.1).1)

    own : IsBlock job cfg m x.task.number p.block
    own = subst (λ z. IsBlock job cfg m z p.block) own-r
        (subst (λ z. IsBlock job cfg z r p.block) (ap (λ (z : Attempt). z.task.number) (sym (attempt_eq-true a b parts.0)) ∙ at) p.is)

    more : Extends (got ++ bytes) p.block
    more = front-more got p.block bytes (g p.block own) (subst (λ z. bytes ≡ take piece_limit (drop z p.block)) (eqb-true o (length got) parts.1) p.bytes_are)

    by : (u : Bool) → is_all total (got ++ bytes) ≡ u → PieceEarly job cfg x blocks m a n i got total bytes true u
    by true v =
        let long = leb-true total (length (got ++ bytes)) v in let all = p.total_is in
        let whole : got ++ bytes ≡ p.block = front-all (got ++ bytes) p.block more (omega arith) in
        asks-early job cfg x.task.number (suc m) (blocks ++ (got ++ bytes) ∷ []) l (subst (λ z. AreFirst job cfg x.task.number (suc m) (blocks ++ z ∷ [])) (sym whole) (next-first job cfg x.task.number m blocks p.block f own))
    by false v = (l, f, at, λ c y. subst (λ z. Extends (got ++ bytes) z) (one_block job cfg m x.task.number p.block c own y) more)

pub early-next : (job : Job) (cfg : Config) (x : Attempt) (blocks : List (List ℕ)) (v : Wish) (s : Step) → StepOk v s → CameFits job cfg x s → Early job cfg x.task.number blocks v →
    Early job cfg x.task.number (with_block blocks (completed x v s)) (next_wish (length cfg.splits) x v s)
unfolding next_wish
early-next job cfg x blocks (To_ask_where m) (Got (MapReady m' a n i)) k c o =
    if_cases (Early job cfg x.task.number blocks) (nat_eq m m') _ _ (λ t. (o.0, o.1, c ∙ sym (eqb-true m m' t), λ b y. Extends-more [] b)) (λ t. o)
early-next job cfg x blocks (To_ask_where m) s k c o = o
early-next job cfg x blocks (To_fetch m a n i got) (Got (Piece b r off total bytes)) k c o =
    piece-early job cfg x blocks m a n i got b r off total bytes c.0 c.1 o.0 o.1 o.2 o.3 (is_awaited x a got b r off) (is_all total (got ++ bytes)) refl refl
early-next job cfg x blocks (To_fetch m a n i got) (Got (FetchLost d b)) k c o = if_cases (Early job cfg x.task.number blocks) (attempt_eq a b) _ _ (λ t. (o.0, o.1)) (λ t. o)
early-next job cfg x blocks (To_fetch m a n i got) s k c o = o
early-next job cfg x blocks (To_say_lost m a) (Sent p) k c o = o
early-next job cfg x blocks (To_say_lost m a) s k c o = o
early-next job cfg x blocks To_compute (Computed bytes) k c o = if_cases (Early job cfg x.task.number blocks) (is_reduce x) _ _ (λ t. tt) (λ t. tt)
early-next job cfg x blocks To_compute s k c o = o
early-next job cfg x blocks v s k c o = late-early job cfg x.task.number blocks (next_wish (length cfg.splits) x v s) (sym (late-next (length cfg.splits) x v s k) ∙ or-true (is_result s))

-- what is computed is the sequential text
abbrev pub IsText : Job → Config → ℕ → List ℕ → Type 0
IsText job cfg r text = job.sequential cfg.reduces r cfg.splits ≡ Some text

-- a result is the definition's
abbrev pub ResultFits : Job → List (List ℕ) → Step → Type 0
ResultFits job blocks (Computed bytes) = job.part blocks ≡ Some bytes
ResultFits job blocks (Got p) = Unit {0}
ResultFits job blocks (Sent p) = Unit {0}
ResultFits job blocks (Called op r) = Unit {0}

wants-all : (job : Job) (cfg : Config) (r : ℕ) (blocks : List (List ℕ)) (v : Wish) → wants_compute v ≡ true → Early job cfg r blocks v → AreFirst job cfg r (length cfg.splits) blocks
wants-all job cfg r blocks To_compute e o = o
wants-all job cfg r blocks v e o = absurd (false≢true e)

computed-is : (bytes : List ℕ) (h : List Step) → computed (Computed bytes ∷ h) ≡ bytes
unfolding computed
computed-is bytes h = refl

pub late-text : (job : Job) (cfg : Config) (x : Attempt) (blocks : List (List ℕ)) (h : List Step) (v : Wish) (s : Step) → JobLaws job cfg → StepOk v s → ResultFits job blocks s → Early job cfg x.task.number blocks v →
    (is_late v ≡ true → IsText job cfg x.task.number (computed h)) → is_late (next_wish (length cfg.splits) x v s) ≡ true → IsText job cfg x.task.number (computed (s ∷ h))
late-text job cfg x blocks h v (Computed bytes) laws k c o old late =
    rw (computed-is bytes h) (first-all job cfg x.task.number blocks bytes laws (wants-all job cfg x.task.number blocks v k o) c)
late-text job cfg x blocks h v (Got p) laws k c o old late = rw (computed-same (Got p) h refl) (old (late-next (length cfg.splits) x v (Got p) tt ∙ late))
late-text job cfg x blocks h v (Sent p) laws k c o old late = rw (computed-same (Sent p) h refl) (old (late-next (length cfg.splits) x v (Sent p) tt ∙ late))
late-text job cfg x blocks h v (Called op r) laws k c o old late = rw (computed-same (Called op r) h refl) (old (late-next (length cfg.splits) x v (Called op r) tt ∙ late))
