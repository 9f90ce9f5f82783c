-- `==` of what machines of containers store holds exactly where it is equal.
use Rattle.std.proofs.Common.{◌≡◌, ◌∙◌, ◌&&◌, ℕ, true, List, nat_eq, refl, sym, ap, subst, rules}
use Rattle.std.proofs.lemmas.Bool.{and_parts, eqb-true, true≢false}
use Rattle.std.proofs.lemmas.Slice.Eq.{slice_eq-Decides}
use Rattle.std.specs.Bool.{Decides}
use Rattle.std.specs.Cmp.Lexicographic.{pointwise}
use Rattle.mr_ids.proofs.Same.{attempt-is}
use Rattle.mr_ids.specs.contracts.id.AttemptIdPartialEq.TheImpl as attempt
use Rattle.mr_packet.proofs.Same.{eq-same, same-is}
use Rattle.mr_packet.specs.contracts.packet.ContainerIdPartialEq.TheImpl as id
use Rattle.mr_container.specs.Readings.{Pieces}
use Rattle.mr_container.specs.Same.{same_pieces}
use Rattle.mr_container.specs.State.{Container}
use Rattle.mr_container.specs.contracts.machine.ContainerMachineEq.TheImpl.Laws.{laws-law}
use Rattle.mr_container.specs.contracts.machine.ContainerMachinePartialEq.TheImpl as machine
use Rattle.mr_container.specs.contracts.place.PlacePartialEq.TheImpl as launched
use Rattle.mr_container.specs.contracts.wish.WishPartialEq.TheImpl as wished
use Rattle.mr_container.specs.declared.place.Place.{Place}
use Rattle.mr_container.specs.declared.wish.Wish.{Wish}
use Rattle.mr_container.specs.declared.wish.Wish.TheVariants as wish

place-is : (p q : Place) → launched.eq-value.it p q ≡ true → p ≡ q
place-is p q e =
    let s = and_parts (attempt.eq-value.it p.attempt q.attempt) (nat_eq p.node q.node && nat_eq p.incarnation q.incarnation) e in
    let t = and_parts (nat_eq p.node q.node) (nat_eq p.incarnation q.incarnation) s.1 in
    let from : p.attempt ≡ q.attempt = attempt-is p.attempt q.attempt s.0 in
    let node : p.node ≡ q.node = eqb-true p.node q.node t.0 in
    let incarnation : p.incarnation ≡ q.incarnation = eqb-true p.incarnation q.incarnation t.1 in
    λ i. record { attempt = from i; node = node i; incarnation = incarnation i }

wish-is : (v w : Wish) → wished.eq-value.it v w ≡ true → v ≡ w
wish-is (wish.Where m) (wish.Where n) e = ap wish.Where (eqb-true m n e)
wish-is (wish.Where m) _ e = absurd (true≢false (sym e))
wish-is (wish.Fetch a n i) (wish.Fetch b k j) e =
    let p = and_parts (attempt.eq-value.it a b) (nat_eq n k && nat_eq i j) e in
    let q = and_parts (nat_eq n k) (nat_eq i j) p.1 in
    λ t. wish.Fetch (attempt-is a b p.0 t) (eqb-true n k q.0 t) (eqb-true i j q.1 t)
wish-is (wish.Fetch a n i) _ e = absurd (true≢false (sym e))
wish-is (wish.Lost a) (wish.Lost b) e = ap wish.Lost (attempt-is a b e)
wish-is (wish.Lost a) _ e = absurd (true≢false (sym e))
wish-is wish.Compute wish.Compute e = refl
wish-is wish.Compute _ e = absurd (true≢false (sym e))
wish-is wish.Mkdirs wish.Mkdirs e = refl
wish-is wish.Mkdirs _ e = absurd (true≢false (sym e))
wish-is wish.Create wish.Create e = refl
wish-is wish.Create _ e = absurd (true≢false (sym e))
wish-is wish.Write wish.Write e = refl
wish-is wish.Write _ e = absurd (true≢false (sym e))
wish-is wish.Close wish.Close e = refl
wish-is wish.Close _ e = absurd (true≢false (sym e))
wish-is wish.Needs wish.Needs e = refl
wish-is wish.Needs _ e = absurd (true≢false (sym e))
wish-is wish.Pending wish.Pending e = refl
wish-is wish.Pending _ e = absurd (true≢false (sym e))
wish-is wish.Poll wish.Poll e = refl
wish-is wish.Poll _ e = absurd (true≢false (sym e))
wish-is wish.Look wish.Look e = refl
wish-is wish.Look _ e = absurd (true≢false (sym e))
wish-is wish.Clear wish.Clear e = refl
wish-is wish.Clear _ e = absurd (true≢false (sym e))
wish-is wish.Rename wish.Rename e = refl
wish-is wish.Rename _ e = absurd (true≢false (sym e))
wish-is wish.Report wish.Report e = refl
wish-is wish.Report _ e = absurd (true≢false (sym e))
wish-is wish.Abort wish.Abort e = refl
wish-is wish.Abort _ e = absurd (true≢false (sym e))
wish-is wish.Failed wish.Failed e = refl
wish-is wish.Failed _ e = absurd (true≢false (sym e))
wish-is wish.Over wish.Over e = refl
wish-is wish.Over _ e = absurd (true≢false (sym e))

number-decides : (a b : ℕ) → Decides (nat_eq a b) (a ≡ b)
number-decides = search (rules)

bytes-decide : (a b : List ℕ) → Decides (pointwise nat_eq a b) (a ≡ b)
bytes-decide a b = slice_eq-Decides number-decides a b _ refl

blocks-decide : (a b : List (List ℕ)) → Decides (pointwise (pointwise nat_eq) a b) (a ≡ b)
blocks-decide a b = slice_eq-Decides bytes-decide a b _ refl

pieces-is : (p q : Pieces) → same_pieces p q ≡ true → p ≡ q
pieces-is p q e =
    let s = and_parts (pointwise nat_eq p.got q.got) (pointwise (pointwise nat_eq) p.blocks q.blocks) e in
    let got : p.got ≡ q.got = (bytes-decide p.got q.got).0 s.0 in
    let blocks : p.blocks ≡ q.blocks = (blocks-decide p.blocks q.blocks).0 s.1 in
    λ i. record { got = got i; blocks = blocks i }

machine-is : (m n : Container) → machine.eq-value.it m n ≡ true → m ≡ n
machine-is m n e =
    let p = and_parts (id.eq-value.it m.id n.id) (launched.eq-value.it m.place n.place && (nat_eq m.maps n.maps && (wished.eq-value.it m.seen.wish n.seen.wish && (same_pieces m.seen.pieces n.seen.pieces && pointwise nat_eq m.seen.result n.seen.result)))) e in
    let q = and_parts (launched.eq-value.it m.place n.place) (nat_eq m.maps n.maps && (wished.eq-value.it m.seen.wish n.seen.wish && (same_pieces m.seen.pieces n.seen.pieces && pointwise nat_eq m.seen.result n.seen.result))) p.1 in
    let r = and_parts (nat_eq m.maps n.maps) (wished.eq-value.it m.seen.wish n.seen.wish && (same_pieces m.seen.pieces n.seen.pieces && pointwise nat_eq m.seen.result n.seen.result)) q.1 in
    let s = and_parts (wished.eq-value.it m.seen.wish n.seen.wish) (same_pieces m.seen.pieces n.seen.pieces && pointwise nat_eq m.seen.result n.seen.result) r.1 in
    let t = and_parts (same_pieces m.seen.pieces n.seen.pieces) (pointwise nat_eq m.seen.result n.seen.result) s.1 in
    let one : m.id ≡ n.id = same-is m.id n.id (sym (eq-same m.id n.id) ∙ p.0) in
    let place : m.place ≡ n.place = place-is m.place n.place q.0 in
    let maps : m.maps ≡ n.maps = eqb-true m.maps n.maps r.0 in
    let wish : m.seen.wish ≡ n.seen.wish = wish-is m.seen.wish n.seen.wish s.0 in
    let pieces : m.seen.pieces ≡ n.seen.pieces = pieces-is m.seen.pieces n.seen.pieces t.0 in
    let result : m.seen.result ≡ n.seen.result = (bytes-decide m.seen.result n.seen.result).0 t.1 in
    λ i. record { id = one i; place = place i; maps = maps i; seen = record { wish = wish i; pieces = pieces i; result = result i } }

-- what `==` of two machines answers
pub machines_decide : (m n : Container) → Decides (machine.eq-value.it m n) (m ≡ n)
machines_decide m n = (machine-is m n, λ same. subst (λ (x : Container). machine.eq-value.it m x ≡ true) same (laws-law.refl m))
