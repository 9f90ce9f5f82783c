-- What `==` says of packets: it holds exactly where they are equal. And what lies behind the last one.
use Rattle.std.proofs.Common.{◌≡◌, ◌≤◌, ℕ, Option, Some, None, List, nat_eq, length, drop, refl, sym, ap, ap₂, ◌∙◌, rules, true≢false}
use Rattle.std.proofs.Math.Seq.{drop-length}
use Rattle.std.proofs.lemmas.Bool.{false≢true}
use Rattle.std.proofs.lemmas.Bool.Decides.{Decides-and}
use Rattle.std.proofs.lemmas.List.{drop_all}
use Rattle.std.proofs.lemmas.Slice.Eq.{slice_eq-Decides}
use Rattle.std.specs.Bool.{Decides}
use Rattle.std.specs.Cmp.{booleans_Decides}
use Rattle.std.specs.Cmp.Lexicographic.{pointwise}
use Rattle.std.specs.Option.{option_eq}
use Rattle.mr_ids.specs.Attempt.{Attempt}
use Rattle.mr_ids.specs.declared.id.TaskId.{TaskId}
use Rattle.mr_ids.specs.contracts.id.AttemptIdPartialEq.TheImpl as attempts
use Rattle.mr_ids.specs.contracts.id.TaskIdPartialEq.TheImpl as tasks
use Rattle.mr_ids.proofs.Same.{attempt-is, attempt-itself}
use Rattle.mr_packet.specs.contracts.packet.AddressPartialEq.TheImpl as addresses
use Rattle.mr_packet.specs.contracts.packet.ContainerIdPartialEq.TheImpl as containers
use Rattle.mr_packet.specs.contracts.packet.EnvelopePartialEq.TheImpl as envelopes
use Rattle.mr_packet.specs.contracts.packet.PacketPartialEq.TheImpl as packets
use Rattle.mr_packet.specs.declared.packet.Address.{Address}
use Rattle.mr_packet.specs.declared.packet.Address.TheVariants as address
use Rattle.mr_packet.specs.declared.packet.ContainerId.{ContainerId}
use Rattle.mr_packet.specs.declared.packet.Envelope.{Envelope}
use Rattle.mr_packet.specs.declared.packet.Packet.{Packet}
use Rattle.mr_packet.specs.declared.packet.Packet.TheVariants as packet

numbers-decide : (a b : ℕ) → Decides (nat_eq a b) (a ≡ b)
numbers-decide = search (rules)

bytes-decide : (a b : List ℕ) → Decides (pointwise nat_eq a b) (a ≡ b)
bytes-decide a b = slice_eq-Decides numbers-decide a b _ refl

attempts-decide : (a b : Attempt) → Decides (attempts.eq-value.it a b) (a ≡ b)
attempts-decide a b = (attempt-is a b, λ e. ap (attempts.eq-value.it a) (sym e) ∙ attempt-itself a)

tasks-decide : (t u : TaskId) → Decides (tasks.eq-value.it t u) (t ≡ u)
tasks-decide = search (rules)

containers-decide : (c d : ContainerId) → Decides (containers.eq-value.it c d) (c ≡ d)
containers-decide c d =
    let both = Decides-and _ _ (numbers-decide c.app d.app) (numbers-decide c.number d.number) in (
      λ e. let w = both.0 e in λ i. record { app = w.0 i; number = w.1 i },
      λ e. both.1 (ap (λ (x : ContainerId). x.app) e, ap (λ (x : ContainerId). x.number) e),
    )

lengths-decide : (b d : Option ℕ) → Decides (option_eq nat_eq b d) (b ≡ d)
lengths-decide None None = (λ e. refl, λ e. refl)
lengths-decide None (Some d) = (λ e. absurd (cc), λ e. absurd (cc))
lengths-decide (Some b) None = (λ e. absurd (cc), λ e. absurd (cc))
lengths-decide (Some b) (Some d) = (λ e. ap Some ((numbers-decide b d).0 e), λ e. let same : b ≡ d = cc in (numbers-decide b d).1 same)

addresses-decide : (a b : Address) → Decides (addresses.eq-value.it a b) (a ≡ b)
addresses-decide (address.Master m) (address.Master n) = (λ e. ap address.Master ((numbers-decide m n).0 e), λ e. let same : m ≡ n = cc in (numbers-decide m n).1 same)
addresses-decide (address.Master m) (address.Container d) = (λ e. absurd (cc), λ e. absurd (cc))
addresses-decide (address.Master m) (address.Node n) = (λ e. absurd (cc), λ e. absurd (cc))
addresses-decide (address.Container c) (address.Master n) = (λ e. absurd (cc), λ e. absurd (cc))
addresses-decide (address.Container c) (address.Container d) = (λ e. ap address.Container ((containers-decide c d).0 e), λ e. let same : c ≡ d = cc in (containers-decide c d).1 same)
addresses-decide (address.Container c) (address.Node n) = (λ e. absurd (cc), λ e. absurd (cc))
addresses-decide (address.Node m) (address.Master n) = (λ e. absurd (cc), λ e. absurd (cc))
addresses-decide (address.Node m) (address.Container d) = (λ e. absurd (cc), λ e. absurd (cc))
addresses-decide (address.Node m) (address.Node n) = (λ e. ap address.Node ((numbers-decide m n).0 e), λ e. let same : m ≡ n = cc in (numbers-decide m n).1 same)

-- which packet it is
abbrev packet_place : Packet → ℕ
packet_place (packet.Launch container attempt incarnation) = 0
packet_place (packet.Kill container) = 1
packet_place (packet.Fetch container attempt reduce incarnation offset) = 2
packet_place (packet.Won task attempt) = 3
packet_place (packet.Outcome succeeded) = 4
packet_place (packet.Pending attempt) = 5
packet_place (packet.Poll attempt) = 6
packet_place (packet.Done attempt bytes) = 7
packet_place (packet.Failed attempt) = 8
packet_place (packet.Ended container) = 9
packet_place (packet.NodeUp node incarnation) = 10
packet_place (packet.Where container map) = 11
packet_place (packet.FetchLost container attempt) = 12
packet_place (packet.Answer attempt says) = 13
packet_place (packet.DoneAck attempt) = 14
packet_place (packet.MapReady map attempt node incarnation) = 15
packet_place (packet.Piece attempt reduce offset total bytes) = 16

packets_decide : (a b : Packet) → Decides (packets.eq-value.it a b) (a ≡ b)
packets_decide (packet.Launch c a n) (packet.Launch d b m) =
    let all = Decides-and _ _ (containers-decide c d) (Decides-and _ _ (attempts-decide a b) (numbers-decide n m)) in (
      λ e. let w = all.0 e in λ i. packet.Launch (w.0 i) (w.1.0 i) (w.1.1 i),
      λ e. let x : c ≡ d = cc in let y : a ≡ b = cc in let z : n ≡ m = cc in all.1 (x, (y, z)),
    )
packets_decide (packet.Launch c a n) _ = (λ e. absurd (false≢true e), λ e. absurd (true≢false (ap (λ (x : Packet). nat_eq 0 (packet_place x)) e)))
packets_decide (packet.Kill c) (packet.Kill d) = (λ e. ap packet.Kill ((containers-decide c d).0 e), λ e. let x : c ≡ d = cc in (containers-decide c d).1 x)
packets_decide (packet.Kill c) _ = (λ e. absurd (false≢true e), λ e. absurd (true≢false (ap (λ (x : Packet). nat_eq 1 (packet_place x)) e)))
packets_decide (packet.Fetch c a r n o) (packet.Fetch d b s m p) =
    let all = Decides-and _ _ (containers-decide c d) (Decides-and _ _ (attempts-decide a b) (Decides-and _ _ (numbers-decide r s) (Decides-and _ _ (numbers-decide n m) (numbers-decide o p)))) in (
      λ e. let w = all.0 e in λ i. packet.Fetch (w.0 i) (w.1.0 i) (w.1.1.0 i) (w.1.1.1.0 i) (w.1.1.1.1 i),
      λ e. let v : c ≡ d = cc in let w : a ≡ b = cc in let x : r ≡ s = cc in let y : n ≡ m = cc in let z : o ≡ p = cc in all.1 (v, (w, (x, (y, z)))),
    )
packets_decide (packet.Fetch c a r n o) _ = (λ e. absurd (false≢true e), λ e. absurd (true≢false (ap (λ (x : Packet). nat_eq 2 (packet_place x)) e)))
packets_decide (packet.Won t a) (packet.Won u b) =
    let both = Decides-and _ _ (tasks-decide t u) (attempts-decide a b) in (
      λ e. let w = both.0 e in ap₂ packet.Won w.0 w.1,
      λ e. let x : t ≡ u = cc in let y : a ≡ b = cc in both.1 (x, y),
    )
packets_decide (packet.Won t a) _ = (λ e. absurd (false≢true e), λ e. absurd (true≢false (ap (λ (x : Packet). nat_eq 3 (packet_place x)) e)))
packets_decide (packet.Outcome s) (packet.Outcome t) = (λ e. ap packet.Outcome ((booleans_Decides s t).0 e), λ e. let x : s ≡ t = cc in (booleans_Decides s t).1 x)
packets_decide (packet.Outcome s) _ = (λ e. absurd (false≢true e), λ e. absurd (true≢false (ap (λ (x : Packet). nat_eq 4 (packet_place x)) e)))
packets_decide (packet.Pending a) (packet.Pending b) = (λ e. ap packet.Pending ((attempts-decide a b).0 e), λ e. let x : a ≡ b = cc in (attempts-decide a b).1 x)
packets_decide (packet.Pending a) _ = (λ e. absurd (false≢true e), λ e. absurd (true≢false (ap (λ (x : Packet). nat_eq 5 (packet_place x)) e)))
packets_decide (packet.Poll a) (packet.Poll b) = (λ e. ap packet.Poll ((attempts-decide a b).0 e), λ e. let x : a ≡ b = cc in (attempts-decide a b).1 x)
packets_decide (packet.Poll a) _ = (λ e. absurd (false≢true e), λ e. absurd (true≢false (ap (λ (x : Packet). nat_eq 6 (packet_place x)) e)))
packets_decide (packet.Done a n) (packet.Done b m) =
    let both = Decides-and _ _ (attempts-decide a b) (lengths-decide n m) in (
      λ e. let w = both.0 e in ap₂ packet.Done w.0 w.1,
      λ e. let x : a ≡ b = cc in let y : n ≡ m = cc in both.1 (x, y),
    )
packets_decide (packet.Done a n) _ = (λ e. absurd (false≢true e), λ e. absurd (true≢false (ap (λ (x : Packet). nat_eq 7 (packet_place x)) e)))
packets_decide (packet.Failed a) (packet.Failed b) = (λ e. ap packet.Failed ((attempts-decide a b).0 e), λ e. let x : a ≡ b = cc in (attempts-decide a b).1 x)
packets_decide (packet.Failed a) _ = (λ e. absurd (false≢true e), λ e. absurd (true≢false (ap (λ (x : Packet). nat_eq 8 (packet_place x)) e)))
packets_decide (packet.Ended c) (packet.Ended d) = (λ e. ap packet.Ended ((containers-decide c d).0 e), λ e. let x : c ≡ d = cc in (containers-decide c d).1 x)
packets_decide (packet.Ended c) _ = (λ e. absurd (false≢true e), λ e. absurd (true≢false (ap (λ (x : Packet). nat_eq 9 (packet_place x)) e)))
packets_decide (packet.NodeUp k n) (packet.NodeUp j m) =
    let both = Decides-and _ _ (numbers-decide k j) (numbers-decide n m) in (
      λ e. let w = both.0 e in ap₂ packet.NodeUp w.0 w.1,
      λ e. let x : k ≡ j = cc in let y : n ≡ m = cc in both.1 (x, y),
    )
packets_decide (packet.NodeUp k n) _ = (λ e. absurd (false≢true e), λ e. absurd (true≢false (ap (λ (x : Packet). nat_eq 10 (packet_place x)) e)))
packets_decide (packet.Where c n) (packet.Where d m) =
    let both = Decides-and _ _ (containers-decide c d) (numbers-decide n m) in (
      λ e. let w = both.0 e in ap₂ packet.Where w.0 w.1,
      λ e. let x : c ≡ d = cc in let y : n ≡ m = cc in both.1 (x, y),
    )
packets_decide (packet.Where c n) _ = (λ e. absurd (false≢true e), λ e. absurd (true≢false (ap (λ (x : Packet). nat_eq 11 (packet_place x)) e)))
packets_decide (packet.FetchLost c a) (packet.FetchLost d b) =
    let both = Decides-and _ _ (containers-decide c d) (attempts-decide a b) in (
      λ e. let w = both.0 e in ap₂ packet.FetchLost w.0 w.1,
      λ e. let x : c ≡ d = cc in let y : a ≡ b = cc in both.1 (x, y),
    )
packets_decide (packet.FetchLost c a) _ = (λ e. absurd (false≢true e), λ e. absurd (true≢false (ap (λ (x : Packet). nat_eq 12 (packet_place x)) e)))
packets_decide (packet.Answer a s) (packet.Answer b t) =
    let both = Decides-and _ _ (attempts-decide a b) (booleans_Decides s t) in (
      λ e. let w = both.0 e in ap₂ packet.Answer w.0 w.1,
      λ e. let x : a ≡ b = cc in let y : s ≡ t = cc in both.1 (x, y),
    )
packets_decide (packet.Answer a s) _ = (λ e. absurd (false≢true e), λ e. absurd (true≢false (ap (λ (x : Packet). nat_eq 13 (packet_place x)) e)))
packets_decide (packet.DoneAck a) (packet.DoneAck b) = (λ e. ap packet.DoneAck ((attempts-decide a b).0 e), λ e. let x : a ≡ b = cc in (attempts-decide a b).1 x)
packets_decide (packet.DoneAck a) _ = (λ e. absurd (false≢true e), λ e. absurd (true≢false (ap (λ (x : Packet). nat_eq 14 (packet_place x)) e)))
packets_decide (packet.MapReady k a n o) (packet.MapReady j b m p) =
    let all = Decides-and _ _ (numbers-decide k j) (Decides-and _ _ (attempts-decide a b) (Decides-and _ _ (numbers-decide n m) (numbers-decide o p))) in (
      λ e. let w = all.0 e in λ i. packet.MapReady (w.0 i) (w.1.0 i) (w.1.1.0 i) (w.1.1.1 i),
      λ e. let w : k ≡ j = cc in let x : a ≡ b = cc in let y : n ≡ m = cc in let z : o ≡ p = cc in all.1 (w, (x, (y, z))),
    )
packets_decide (packet.MapReady k a n o) _ = (λ e. absurd (false≢true e), λ e. absurd (true≢false (ap (λ (x : Packet). nat_eq 15 (packet_place x)) e)))
packets_decide (packet.Piece a r o t x) (packet.Piece b s p u y) =
    let all = Decides-and _ _ (attempts-decide a b) (Decides-and _ _ (numbers-decide r s) (Decides-and _ _ (numbers-decide o p) (Decides-and _ _ (numbers-decide t u) (bytes-decide x y)))) in (
      λ e. let w = all.0 e in λ i. packet.Piece (w.0 i) (w.1.0 i) (w.1.1.0 i) (w.1.1.1.0 i) (w.1.1.1.1 i),
      λ e. let v : a ≡ b = cc in let w : r ≡ s = cc in let z : o ≡ p = cc in let g : t ≡ u = cc in let h : x ≡ y = cc in all.1 (v, (w, (z, (g, h)))),
    )
packets_decide (packet.Piece a r o t x) _ = (λ e. absurd (false≢true e), λ e. absurd (true≢false (ap (λ (x : Packet). nat_eq 16 (packet_place x)) e)))

envelope_decides : (a b : Envelope) → Decides (envelopes.eq-value.it a b) (a ≡ b)
envelope_decides a b =
    let both = Decides-and _ _ (addresses-decide a.to b.to) (packets_decide a.body b.body) in (
      λ e. let w = both.0 e in λ i. record { to = w.0 i; body = w.1 i },
      λ e. both.1 (ap (λ (x : Envelope). x.to) e, ap (λ (x : Envelope). x.body) e),
    )

pub envelopes_decide : (a b : List Envelope) → Decides (pointwise envelopes.eq-value.it a b) (a ≡ b)
envelopes_decide a b = slice_eq-Decides envelope_decides a b _ refl

pub none_behind : (xs : List Envelope) (i : ℕ) → length xs ≤ i → drop (length xs) xs ≡ drop i xs
none_behind xs i most = drop-length xs ∙ sym (drop_all i xs most)
