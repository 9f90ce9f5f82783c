-- Properties of what a master has seen that every kind of change keeps, the one named, and why an attempt is over.
use Rattle.std.proofs.Common.{ℕ, ◌<◌, ◌≡◌, refl, sym, ◌∙◌, subst, Bool, true, false, ◌&&◌, ◌||◌, not, List, [], ◌∷◌, ◌++◌, Option, Some, None, if◌then◌else◌, is_some, nat_eq, nat_lt, nat_le, ◌⊎◌, inl, inr}
use Rattle.std.proofs.lemmas.Bool.{and_parts, false≢true, eqb-true, ltb-true, eq-eqb, not-true}
use Rattle.mr_world_model.specs.Ids.{Attempt, ContainerId, attempt_eq, container_eq, is_reduce}
use Rattle.mr_world_model.specs.Records.{Record}
use Rattle.mr_world_model.specs.Content.{Op, bar_of}
use Rattle.mr_world_model.specs.Packets.{Config, Packet, Store, Reply, Names, Append_record, Flush, Read_history}
use Rattle.mr_world_model.specs.Hearing.{Seen, Phase, Launched, Ending, Placed, Todo_winner, expired, end_maps, after_bar, is_running, heard, only_known, after_end, after_ended, end_there, ended_by, over_with, has, find_launched, find_container, may_accept, is_live, is_won, failures, is_over, named_in, can_hear}
use Rattle.mr_world_model.specs.Duties.{Master_step, Came, Launches, Expires, Asks, next_seen, told, worked, with_phase, with_read, is_fine, is_read, phase_told}
use Rattle.mr_world_model.specs.Claims.{In}
use Rattle.mr_world_model.proofs.Basic.{if_cases, or_parts}
use Rattle.mr_world_model.proofs.Lists.{attempt_eq-true, attempt_eq-refl, named-more, named-ended}

-- What an expiry and an answered bar change: only live attempts end, and what is lost, killed and due to be barred
end_maps-by : (P : Seen → Type 0) → ((s : Seen) (a : Attempt) → is_live s a ≡ true → P s → P (record s { ended = over_with s a false })) → (n : ℕ) (ls : List Launched) (s : Seen) → P s → P (end_maps n ls s)
end_maps-by P f n [] s o = o
end_maps-by P f n (l ∷ ls) s o =
    if_cases P (nat_eq l.node n && (not (is_reduce l.attempt) && is_live s l.attempt)) _ _
    (λ t. end_maps-by P f n ls _ (f s l.attempt (and_parts _ _ (and_parts _ _ t).1).1 o)) (λ t. end_maps-by P f n ls s o)

pub expired-by : (P : Seen → Type 0) → ((s : Seen) (a : Attempt) → is_live s a ≡ true → P s → P (record s { ended = over_with s a false })) → (n : ℕ) (s : Seen) →
    ((st : List Placed) (ks : List ContainerId) (bs : List Attempt) → P (record s { standing = st; killed = ks; bars = bs })) → P (expired n s)
unfolding expired
expired-by P f n s o = end_maps-by P f n s.launched _ (o _ _ _)

pub bar-by : (P : Seen → Type 0) (s : Seen) (m : Option Attempt) → ((a : Attempt) → is_live s a ≡ true → (ks : List ContainerId) → P (record s { ended = over_with s a false; killed = ks })) → P s → P (after_bar s m)
bar-by P s None f o = o
bar-by P s (Some a) f o = if_cases P (is_live s a) _ _ (λ t. f a t _) (λ t. o)

pub record Closed (cfg : Config) (L : Seen → Launched → Type 0) (P : Seen → Type 0) : Type 0 where
  pub asks : (s : Seen) (a : Attempt) → P s → P (record s { asked = s.asked ++ a ∷ [] })
  pub ends : (s : Seen) (a : Attempt) (f : Bool) (due : List Record) (p : Phase) → P s → P (record s { ended = over_with s a f; due = due; phase = p })
  pub accepts : (s : Seen) (a : Attempt) (st : List Placed) (due : List Record) → P s → P (record s { accepted = a ∷ s.accepted; standing = st; due = due })
  pub knows : (s : Seen) (f : ℕ → ℕ) (ps : List Placed) → P s → P (record s { known = f; standing = ps })
  pub calls : (s : Seen) (p : Phase) (ws : List Todo_winner) (st : List Placed) (rs : List Attempt) (ks : List ContainerId) (h due tail : List Record) → P s →
      P (record s { phase = p; winners = ws; standing = st; recorded = rs; killed = ks; history = h; due = due; tail = tail })
  pub launches : (s : Seen) (l : Launched) (due : List Record) → L s l → P s → P (record s { launched = l ∷ s.launched; due = due })
  pub expires : (s : Seen) (ks : List ContainerId) (bs : List Attempt) → P s → P (record s { killed = ks; bars = bs })

-- what is asked of a step that is a launch
abbrev pub LaunchFits : (Seen → Launched → Type 0) → Seen → Master_step → Type 0
LaunchFits L s (Came p) = Unit {0}
LaunchFits L s (Launches l) = L s l
LaunchFits L s (Expires n) = Unit {0}
LaunchFits L s (Asks call r) = Unit {0}

module _ (cfg : Config) (L : Seen → Launched → Type 0) (P : Seen → Type 0) (c : Closed cfg L P) where
  ended_by-closed : (s : Seen) (b : Attempt) (f : Bool) → P s → P (ended_by cfg s b f)
  ended_by-closed s b false o = c.ends s b false s.due s.phase o
  ended_by-closed s b true o = if_cases P (nat_le cfg.limit (failures (over_with s b true) b) && not (is_won s (is_reduce b) b.task)) _ _ (λ t. c.ends s b true _ _ o) (λ t. c.ends s b true _ s.phase o)

  after_end-closed : (s : Seen) (b : Attempt) (f : Bool) → P s → P (after_end cfg s b f)
  after_end-closed s b f o = if_cases P (is_live s b) _ _ (λ e. ended_by-closed s b f o) (λ e. o)

  after_ended-closed : (s : Seen) (d : ContainerId) (l : Option Launched) → P s → P (after_ended cfg s d l)
  after_ended-closed s d None o = o
  after_ended-closed s d (Some l) o = after_end-closed s _ _ o

  end_there-closed : (n i : ℕ) (ls : List Launched) (s : Seen) → P s → P (end_there n i ls s)
  end_there-closed n i [] s o = o
  end_there-closed n i (l ∷ ls) s o =
      if_cases P (nat_eq l.node n && (nat_lt l.incarnation i && is_live s l.attempt)) _ _ (λ t. end_there-closed n i ls _ (c.ends s l.attempt false s.due s.phase o)) (λ t. end_there-closed n i ls s o)

  expired-closed : (n : ℕ) (s : Seen) → P s → P (expired n s)
  expired-closed n s o = expired-by P (λ u a t v. c.ends u a false u.due u.phase v) n s (λ st ks bs. c.expires _ ks bs (c.knows s s.known st o))

  bar-closed : (s : Seen) (a : Option Attempt) → P s → P (after_bar s a)
  bar-closed s m o = bar-by P s m (λ a t ks. c.expires _ ks s.bars (c.ends s a false s.due s.phase o)) o

  pub heard-closed : (s : Seen) (p : Packet) → P s → P (heard cfg s p)
  unfolding heard
  heard-closed s (Packet.Pending b) o = if_cases P (is_some (find_launched s.launched b) && not (has s.asked b)) _ _ (λ t. c.asks s b o) (λ t. o)
  heard-closed s (Packet.Poll b) o = if_cases P (is_some (find_launched s.launched b) && not (has s.asked b)) _ _ (λ t. c.asks s b o) (λ t. o)
  heard-closed s (Packet.Done b z) o = if_cases P (may_accept s b) _ _ (λ t. c.accepts s b _ _ o) (λ t. o)
  heard-closed s (Packet.Failed b) o = after_end-closed s b true o
  heard-closed s (Packet.Ended d) o = after_ended-closed s d _ o
  heard-closed s (Packet.NodeUp m i) o = if_cases P (nat_lt (s.known m) i) _ _ (λ t. end_there-closed m i s.launched _ (c.knows s _ _ o)) (λ t. o)
  heard-closed s (Packet.FetchLost d b) o = if_cases P (is_some (find_container s.launched d) && has s.recorded b) _ _ (λ t. c.knows s s.known _ o) (λ t. o)
  heard-closed s (Packet.Where d m) o = o
  heard-closed s _ o = o

  known-closed : (s : Seen) (p : Packet) → P s → P (only_known s p)
  known-closed s (Packet.NodeUp m i) o = if_cases P (can_hear s.phase && nat_lt (s.known m) i) _ _ (λ t. c.knows s _ s.standing o) (λ t. o)
  known-closed s _ o = o

  worked-closed : (s : Seen) (call : Store) → P s → P (worked s call)
  worked-closed s (Append_record r) o = c.calls s s.phase s.winners s.standing s.recorded s.killed s.history _ _ o
  worked-closed s Flush o = c.calls s s.phase s.winners s.standing _ _ s.history s.due _ o
  worked-closed s (Names op) o = bar-closed s (bar_of op) o
  worked-closed s Read_history o = o

  phased-closed : (s : Seen) (p : Phase) → P s → P (with_phase p s)
  phased-closed s p o = if_cases P (is_running p && not (is_running s.phase)) _ _ (λ t. c.calls s p s.winners _ _ s.killed s.history s.due s.tail o) (λ t. c.calls s p s.winners s.standing s.recorded s.killed s.history s.due s.tail o)

  read-closed : (s : Seen) (call : Store) (r : Reply) → P s → P (with_read cfg s call r)
  read-closed s call r o = if_cases P (is_read call) _ _ (λ t. c.calls s s.phase _ s.standing s.recorded s.killed _ s.due s.tail o) (λ t. o)

  pub next-closed : (k : ℕ) (s : Seen) (x : Master_step) → LaunchFits L s x → P s → P (next_seen cfg k s x)
  unfolding next_seen told
  next-closed k s (Came p) u o = if_cases P (is_running s.phase) _ _ (λ t. heard-closed s p o) (λ t. known-closed s p o)
  next-closed k s (Launches l) u o = c.launches s l _ u o
  next-closed k s (Expires n) u o = expired-closed n s o
  next-closed k s (Asks call r) u o = phased-closed (with_read cfg (if is_fine r then worked s call else s) call r) (phase_told k s s.phase call r) (read-closed (if is_fine r then worked s call else s) call r (if_cases P (is_fine r) _ _ (λ t. worked-closed s call o) (λ t. o)))

-- An attempt that was named stays so or is over

abbrev pub NamedOrOver : Attempt → Seen → Type 0
NamedOrOver a s = (is_over s.ended a ≡ true) ⊎ (named_in s.asked s.ended a.task ≡ Some a)

pub or-true : (b : Bool) → (b || true) ≡ true
or-true true = refl
or-true false = refl

pub over-more : (e : Ending) (es : List Ending) (a : Attempt) → is_over es a ≡ true → is_over (e ∷ es) a ≡ true
over-more e es a q = rw q (or-true (attempt_eq a e.attempt))

named-end : (a : Attempt) (s : Seen) (b : Attempt) (f : Bool) → NamedOrOver a s → NamedOrOver a (record s { ended = over_with s b f })
named-end a s b f (inl o) = inl (over-more (record { attempt = b; is_failure = f }) s.ended a o)
named-end a s b f (inr n) = by (attempt_eq a b) refl
  where
    by : (t : Bool) → attempt_eq a b ≡ t → NamedOrOver a (record s { ended = over_with s b f })
    by true q = inl (rw q refl)
    by false q = inr (named-ended s.asked _ s.ended a.task a (λ e. false≢true (sym q ∙ subst (λ x. attempt_eq a x ≡ true) e (attempt_eq-refl a))) n)

pub named-closed : (cfg : Config) (a : Attempt) → Closed cfg (λ s l. Unit {0}) (NamedOrOver a)
named-closed cfg a = record {
  asks = asks;
  ends = λ s b f due p o. named-end a s b f o;
  accepts = λ s b st due o. o;
  knows = λ s f ps o. o;
  calls = λ s p ws st rs ks h due tail o. o;
  launches = λ s l due u o. o;
  expires = λ s ks bs o. o;
}
  where
    asks : (s : Seen) (b : Attempt) → NamedOrOver a s → NamedOrOver a (record s { asked = s.asked ++ b ∷ [] })
    asks s b (inl o) = inl o
    asks s b (inr n) = inr (named-more s.asked _ s.ended a.task a n)

-- what was launched stays launched
pub launched-closed : (cfg : Config) (l : Launched) → Closed cfg (λ s m. Unit {0}) (λ s. In l s.launched)
launched-closed cfg l = record {
  asks = λ s b o. o;
  ends = λ s b f due p o. o;
  accepts = λ s b st due o. o;
  knows = λ s f ps o. o;
  calls = λ s p ws st rs ks h due tail o. o;
  launches = λ s m due u o. inr o;
  expires = λ s ks bs o. o;
}

-- what was accepted stays accepted
accepted-closed : (cfg : Config) (a : Attempt) → Closed cfg (λ s l. Unit {0}) (λ s. In a s.accepted)
accepted-closed cfg a = record {
  asks = λ s b o. o;
  ends = λ s b f due p o. o;
  accepts = λ s b st due o. inr o;
  knows = λ s f ps o. o;
  calls = λ s p ws st rs ks h due tail o. o;
  launches = λ s l due u o. o;
  expires = λ s ks bs o. o;
}

-- Why an attempt is over

-- that a packet makes an attempt over
pub data Ends (ls : List Launched) (a : Attempt) : Packet → Type 0 where
  by_failed : Ends ls a (Packet.Failed a)
  by_end : (l : Launched) → In l ls → l.attempt ≡ a → Ends ls a (Packet.Ended l.container)
  by_node : (l : Launched) (i : ℕ) → In l ls → l.attempt ≡ a → l.incarnation < i → Ends ls a (Packet.NodeUp l.node i)

-- an attempt that a property of attempts explains is over; so is each that the packet ends
abbrev Explains : (Attempt → Type 0) → Seen → Type 0
Explains Q s = (a : Attempt) → is_over s.ended a ≡ true → Q a

explains-end : (Q : Attempt → Type 0) (s : Seen) (b : Attempt) (f : Bool) → Q b → Explains Q s → Explains Q (record s { ended = over_with s b f })
explains-end Q s b f q o a e = by (or_parts _ _ e)
  where
    by : (attempt_eq a b ≡ true) ⊎ (is_over s.ended a ≡ true) → Q a
    by (inl t) = subst Q (sym (attempt_eq-true a b t)) q
    by (inr t) = o a t

ended_by-explains : (cfg : Config) (Q : Attempt → Type 0) (s : Seen) (b : Attempt) (f : Bool) → Q b → Explains Q s → Explains Q (ended_by cfg s b f)
ended_by-explains cfg Q s b false q o = explains-end Q s b false q o
ended_by-explains cfg Q s b true q o = if_cases (Explains Q) (nat_le cfg.limit (failures (over_with s b true) b) && not (is_won s (is_reduce b) b.task)) _ _ (λ t. explains-end Q s b true q o) (λ t. explains-end Q s b true q o)

after_end-explains : (cfg : Config) (Q : Attempt → Type 0) (s : Seen) (b : Attempt) (f : Bool) → (is_live s b ≡ true → Q b) → Explains Q s → Explains Q (after_end cfg s b f)
after_end-explains cfg Q s b f q o = if_cases (Explains Q) (is_live s b) _ _ (λ e. ended_by-explains cfg Q s b f (q e) o) (λ e. o)

pub found_container : (ls : List Launched) (c : ContainerId) (l : Launched) → find_container ls c ≡ Some l → In l ls × (container_eq c l.container ≡ true)
found_container [] c l e = cc
found_container (m ∷ ls) c l e = by (container_eq c m.container) refl e (found_container ls c l)
  where
    by : (t : Bool) → container_eq c m.container ≡ t → (if t then Some m else find_container ls c) ≡ Some l → (find_container ls c ≡ Some l → In l ls × (container_eq c l.container ≡ true)) → In l (m ∷ ls) × (container_eq c l.container ≡ true)
    by true q e f = let g : m ≡ l = cc in (inl g, subst (λ (x : Launched). container_eq c x.container ≡ true) g q)
    by false q e f = let r = f e in (inr r.0, r.1)

pub container_eq-true : (c d : ContainerId) → container_eq c d ≡ true → c ≡ d
container_eq-true c d e = let p = and_parts _ _ e in λ i. record { app = eqb-true c.app d.app p.0 i; number = eqb-true c.number d.number p.1 i }

pub container_eq-refl : (c : ContainerId) → container_eq c c ≡ true
container_eq-refl c = rw (eq-eqb c.app c.app refl, eq-eqb c.number c.number refl) refl

end_there-explains : (Q : Attempt → Type 0) (n i : ℕ) (ls : List Launched) → ((l : Launched) → In l ls → l.node ≡ n → l.incarnation < i → Q l.attempt) → (s : Seen) → Explains Q s → Explains Q (end_there n i ls s)
end_there-explains Q n i [] q s o = o
end_there-explains Q n i (l ∷ ls) q s o =
    if_cases (Explains Q) (nat_eq l.node n && (nat_lt l.incarnation i && is_live s l.attempt)) _ _
    (λ t. let u = and_parts _ _ t in let v = and_parts _ _ u.1 in
    end_there-explains Q n i ls (λ m j. q m (inr j)) _ (explains-end Q s l.attempt false (q l (inl refl) (eqb-true l.node n u.0) (ltb-true _ _ v.0)) o))
    (λ t. end_there-explains Q n i ls (λ m j. q m (inr j)) s o)

pub heard-explains : (cfg : Config) (Q : Attempt → Type 0) (s : Seen) (p : Packet) → ((a : Attempt) → Ends s.launched a p → Q a) → Explains Q s → Explains Q (heard cfg s p)
unfolding heard
heard-explains cfg Q s (Packet.Pending b) q o = if_cases (Explains Q) (is_some (find_launched s.launched b) && not (has s.asked b)) _ _ (λ t. o) (λ t. o)
heard-explains cfg Q s (Packet.Poll b) q o = if_cases (Explains Q) (is_some (find_launched s.launched b) && not (has s.asked b)) _ _ (λ t. o) (λ t. o)
heard-explains cfg Q s (Packet.Done b z) q o = if_cases (Explains Q) (may_accept s b) _ _ (λ t. o) (λ t. o)
heard-explains cfg Q s (Packet.Failed b) q o = after_end-explains cfg Q s b true (λ t. q b by_failed) o
heard-explains cfg Q s (Packet.Ended c) q o = by (find_container s.launched c) refl
  where
    by : (l : Option Launched) → find_container s.launched c ≡ l → Explains Q (after_ended cfg s c l)
    by None e = o
    by (Some l) e = let f = found_container s.launched c l e in
        after_end-explains cfg Q s l.attempt _ (λ t. q l.attempt (subst (λ x. Ends s.launched l.attempt (Packet.Ended x)) (sym (container_eq-true c l.container f.1)) (by_end l f.0 refl))) o
heard-explains cfg Q s (Packet.NodeUp m i) q o = if_cases (Explains Q) (nat_lt (s.known m) i) _ _
    (λ t. end_there-explains Q m i s.launched (λ l j e f. q l.attempt (subst (λ x. Ends s.launched l.attempt (Packet.NodeUp x i)) e (by_node l i j refl f))) _ o) (λ t. o)
heard-explains cfg Q s (Packet.FetchLost d b) q o = if_cases (Explains Q) (is_some (find_container s.launched d) && has s.recorded b) _ _ (λ t. o) (λ t. o)
heard-explains cfg Q s (Packet.Where d m) q o = o
heard-explains cfg Q s _ q o = o

any-launch : (s : Seen) (x : Master_step) → LaunchFits (λ s l. Unit {0}) s x
any-launch s (Came p) = tt
any-launch s (Launches l) = tt
any-launch s (Expires n) = tt
any-launch s (Asks call r) = tt

pub next-named : (cfg : Config) (k : ℕ) (s : Seen) (x : Master_step) (a : Attempt) → NamedOrOver a s → NamedOrOver a (next_seen cfg k s x)
next-named cfg k s x a o = next-closed cfg (λ s l. Unit {0}) (NamedOrOver a) (named-closed cfg a) k s x (any-launch s x) o

pub next-launched : (cfg : Config) (k : ℕ) (s : Seen) (x : Master_step) (l : Launched) → In l s.launched → In l (next_seen cfg k s x).launched
next-launched cfg k s x l o = next-closed cfg (λ s l. Unit {0}) (λ s. In l s.launched) (launched-closed cfg l) k s x (any-launch s x) o

pub next-accepted : (cfg : Config) (k : ℕ) (s : Seen) (x : Master_step) (a : Attempt) → In a s.accepted → In a (next_seen cfg k s x).accepted
next-accepted cfg k s x a o = next-closed cfg (λ s l. Unit {0}) (λ s. In a s.accepted) (accepted-closed cfg a) k s x (any-launch s x) o

-- the packets that a step ends attempts by
abbrev pub StepEnds : Seen → Attempt → Master_step → Type 0
StepEnds s a (Came p) = Ends s.launched a p
StepEnds s a (Launches l) = ⊥
StepEnds s a (Expires n) = (is_reduce a) ≡ false
StepEnds s a (Asks call r) = (is_fine r ≡ true) × (op : Op) × (call ≡ Names op) × (bar_of op ≡ Some a) × (is_live s a ≡ true)

end_maps-explains : (Q : Attempt → Type 0) (n : ℕ) (ls : List Launched) → ((a : Attempt) → is_reduce a ≡ false → Q a) → (s : Seen) → Explains Q s → Explains Q (end_maps n ls s)
end_maps-explains Q n [] q s o = o
end_maps-explains Q n (l ∷ ls) q s o =
    if_cases (Explains Q) (nat_eq l.node n && (not (is_reduce l.attempt) && is_live s l.attempt)) _ _
    (λ t. end_maps-explains Q n ls q _ (explains-end Q s l.attempt false (q l.attempt (not-true _ (and_parts _ _ (and_parts _ _ t).1).0)) o))
    (λ t. end_maps-explains Q n ls q s o)

expired-explains : (Q : Attempt → Type 0) (n : ℕ) (s : Seen) → ((a : Attempt) → is_reduce a ≡ false → Q a) → Explains Q s → Explains Q (expired n s)
unfolding expired
expired-explains Q n s q o = end_maps-explains Q n s.launched q _ o

bar-explains : (Q : Attempt → Type 0) (s : Seen) (m : Option Attempt) → ((a : Attempt) → m ≡ Some a → is_live s a ≡ true → Q a) → Explains Q s → Explains Q (after_bar s m)
bar-explains Q s None q o = o
bar-explains Q s (Some a) q o = if_cases (Explains Q) (is_live s a) _ _ (λ t. explains-end Q s a false (q a refl t) o) (λ t. o)

told-explains : (cfg : Config) (Q : Attempt → Type 0) (k : ℕ) (s : Seen) (call : Store) (r : Reply) → ((a : Attempt) → StepEnds s a (Asks call r) → Q a) → Explains Q s → Explains Q (told cfg k s call r)
unfolding told
told-explains cfg Q k s call r q o =
    if_cases (Explains Q) (is_running (phase_told k s s.phase call r) && not (is_running (with_read cfg (if is_fine r then worked s call else s) call r).phase)) _ _ (λ t. read) (λ t. read)
  where
    works : (call : Store) → ((a : Attempt) → (op : Op) × (call ≡ Names op) × (bar_of op ≡ Some a) × (is_live s a ≡ true) → Q a) → Explains Q (worked s call)
    works (Append_record x) f = o
    works Flush f = o
    works (Names op) f = bar-explains Q s (bar_of op) (λ a e t. f a (op, refl, e, t)) o
    works Read_history f = o

    fine : Explains Q (if is_fine r then worked s call else s)
    fine = if_cases (Explains Q) (is_fine r) _ _ (λ t. works call (λ a x. q a (t, x.0, x.1, x.2, x.3))) (λ t. o)

    read : Explains Q (with_read cfg (if is_fine r then worked s call else s) call r)
    read = if_cases (Explains Q) (is_read call) _ _ (λ t. fine) (λ t. fine)

pub next-explains : (cfg : Config) (Q : Attempt → Type 0) (k : ℕ) (s : Seen) (x : Master_step) → ((a : Attempt) → StepEnds s a x → Q a) →
    ((a : Attempt) → is_over s.ended a ≡ true → Q a) → (a : Attempt) → is_over (next_seen cfg k s x).ended a ≡ true → Q a
unfolding next_seen
next-explains cfg Q k s (Came p) q o = if_cases (Explains Q) (is_running s.phase) _ _ (λ t. heard-explains cfg Q s p q o) (λ t. known p)
  where
    known : (p : Packet) → Explains Q (only_known s p)
    known (Packet.NodeUp m i) = if_cases (Explains Q) (can_hear s.phase && nat_lt (s.known m) i) _ _ (λ t. o) (λ t. o)
    known _ = o
next-explains cfg Q k s (Launches l) q o = o
next-explains cfg Q k s (Expires n) q o = expired-explains Q n s q o
next-explains cfg Q k s (Asks call r) q o = told-explains cfg Q k s call r q o
