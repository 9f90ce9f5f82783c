-- To be like: what is like another run is like itself, and what is like one that is like a third run is like that.
use Rattle.std.proofs.Common.{ℕ, ◌-◌, ◌≡◌, inl, inr, refl, sym, ◌∙◌, subst, arith, Bool, true, false, List, [], ◌∷◌, length, nat_lt}
use Rattle.std.proofs.lemmas.Bool.{ltb-true, ltb-false}
use Rattle.mr_sim_commands.specs.declared.job.submission.JobKind.{JobKind}
use Rattle.mr_world_model.specs.Packets.{Config, Envelope}
use Rattle.mr_world_model.specs.Sequential.{Job}
use Rattle.mr_world_alike.proofs.Agreeing.{equivalence}
use Rattle.mr_world_state.specs.Limits.{within}
use Rattle.mr_play.specs.Played.{Played}
use Rattle.mr_play.specs.Text.{job_as}
use Rattle.mr_play_alike.specs.Plays.{SamePlay}
use Rattle.mr_explore_faults.specs.declared.fault.Fault.{Fault}
use Rattle.mr_explore_faults.specs.declared.fault.Fault.TheVariants as fault
use Rattle.mr_script_order.proofs.Ordered.{in_order}
use Rattle.mr_explore.specs.Runs.{Exploring}
use Rattle.mr_explore_likeness.specs.Owed.{AreOneLater, IsOneLater}
use Rattle.mr_explore_likeness.specs.Plays.{IsNoNearer, IsOnePacket, LikePlays, cluster}
use Rattle.mr_explore_likeness.specs.Runs.{before, like}
use Rattle.mr_explore_likeness.proofs.Moves.{as-many}

-- ---- one is like itself

one-itself : (xs : List Envelope) (m i : ℕ) → IsOnePacket xs xs m m i i
one-itself xs m i = by (nat_lt i m) refl
  where
    by : (b : Bool) → nat_lt i m ≡ b → IsOnePacket xs xs m m i i
    by true e = let l = ltb-true i m e in inl (l, l, refl)
    by false e = let l = ltb-false i m e in inr (i - m, omega (arith, l), omega (arith, l))

later-itself : (xs ys : List Envelope) (m n : ℕ) (f g : Fault) → IsOneLater xs ys m n f g → IsOneLater xs xs m m f f
later-itself xs ys m n (fault.Late i) g a = one-itself xs m i
later-itself xs ys m n fault.Next g a = tt
later-itself xs ys m n f g a = absurd a

laters-itself : (xs ys : List Envelope) (m n : ℕ) (o p : List Fault) → AreOneLater xs ys m n o p → AreOneLater xs xs m m o o
laters-itself xs ys m n [] p a = tt
laters-itself xs ys m n (f ∷ fs) [] a = absurd a
laters-itself xs ys m n (f ∷ fs) (g ∷ gs) a = (later-itself xs ys m n f g a.0, laters-itself xs ys m n fs gs a.1)

pub likes-itself : (level : Bool) (job : Job) (cfg : Config) (s : Played) → SamePlay job cfg (within cfg) s s → LikePlays level job cfg s s
likes-itself level job cfg s o = record {
  same = o;
  delivered = λ i q. (i, q, one-itself (cluster cfg s).bag s.cursor i);
  asking = refl;
  history = refl;
  no_nearer = record { events = omega arith; packets = omega arith; launches = omega arith };
  no_farther = λ l. record { events = omega arith; packets = omega arith; launches = omega arith };
}

same-itself : (job : Job) (cfg : Config) (s t : Played) → SamePlay job cfg (within cfg) s t → SamePlay job cfg (within cfg) s s
same-itself job cfg s t a = record {
  alike = equivalence.itself cfg (within cfg) s.events;
  packets = record { from = a.packets.from; to = a.packets.from; ahead = refl; are_sent = a.packets.are_sent; delivered = λ x d. d };
  dropped = λ i. refl;
  stepped = refl;
}

pub itself : (level : Bool) (s t : Exploring) (o p : List Fault) → like level s o t p → like level s o s o
itself level s t o p e = record {
  job = refl;
  config = refl;
  goes = e.goes;
  goes_too = e.goes;
  shallow = e.shallow;
  shallow_too = e.shallow;
  begun = e.begun;
  begun_too = e.begun;
  plays = likes-itself level (job_as s.job) s.config s.played (same-itself (job_as s.job) s.config s.played t.played e.plays.same);
  owed = laters-itself (cluster s.config s.played).bag (cluster s.config t.played).bag s.played.cursor t.played.cursor o p e.owed;
}

-- ---- one is like another one, which is like a third one

one-through : (xs ys zs : List Envelope) (m n k i j l : ℕ) → IsOnePacket xs ys m n i j → IsOnePacket ys zs n k j l → IsOnePacket xs zs m k i l
one-through xs ys zs m n k i j l (inl a) (inl b) = inl (a.0, b.1, a.2 ∙ b.2)
one-through xs ys zs m n k i j l (inl a) (inr b) = let x = a.1 in let y = b.1 in absurd (omega (arith, x, y))
one-through xs ys zs m n k i j l (inr a) (inl b) = let x = a.2 in let y = b.0 in absurd (omega (arith, x, y))
one-through xs ys zs m n k i j l (inr a) (inr b) = let x = a.2 in let y = b.1 in let z = b.2 in inr (a.0, a.1, omega (arith, x, y, z))

later-through : (xs ys zs : List Envelope) (m n k : ℕ) (f g h : Fault) → IsOneLater xs ys m n f g → IsOneLater ys zs n k g h → IsOneLater xs zs m k f h
later-through xs ys zs m n k (fault.Late i) (fault.Late j) (fault.Late l) a b = one-through xs ys zs m n k i j l a b
later-through xs ys zs m n k (fault.Late i) (fault.Late j) h a b = absurd b
later-through xs ys zs m n k (fault.Late i) g h a b = absurd a
later-through xs ys zs m n k fault.Next fault.Next fault.Next a b = tt
later-through xs ys zs m n k fault.Next fault.Next h a b = absurd b
later-through xs ys zs m n k fault.Next g h a b = absurd a
later-through xs ys zs m n k f g h a b = absurd a

laters-through : (xs ys zs : List Envelope) (m n k : ℕ) (o p q : List Fault) → AreOneLater xs ys m n o p → AreOneLater ys zs n k p q → AreOneLater xs zs m k o q
laters-through xs ys zs m n k [] [] [] a b = tt
laters-through xs ys zs m n k [] [] (h ∷ hs) a b = absurd b
laters-through xs ys zs m n k [] (g ∷ gs) q a b = absurd a
laters-through xs ys zs m n k (f ∷ fs) [] q a b = absurd a
laters-through xs ys zs m n k (f ∷ fs) (g ∷ gs) [] a b = absurd b
laters-through xs ys zs m n k (f ∷ fs) (g ∷ gs) (h ∷ hs) a b = (later-through xs ys zs m n k f g h a.0 b.0, laters-through xs ys zs m n k fs gs hs a.1 b.1)

limits-through : (cfg : Config) (s t u : Played) → IsNoNearer cfg s t → IsNoNearer cfg t u → IsNoNearer cfg s u
limits-through cfg s t u a b =
    let x = a.events in
    let y = b.events in
    let v = a.packets in
    let w = b.packets in
    let p = a.launches in
    let q = b.launches in
    record { events = omega (arith, x, y); packets = omega (arith, v, w); launches = omega (arith, p, q) }

module _ (level : Bool) (job : Job) (cfg : Config) where
  same-through : (s t u : Played) → SamePlay job cfg (within cfg) s t → SamePlay job cfg (within cfg) t u → SamePlay job cfg (within cfg) s u
  same-through s t u a b = record {
    alike = equivalence.through cfg (cluster cfg s) (cluster cfg t) (cluster cfg u) a.alike b.alike;
    packets = record {
      from = a.packets.from;
      to = b.packets.to;
      ahead = a.packets.ahead ∙ b.packets.ahead;
      are_sent = a.packets.are_sent;
      delivered = λ x w. b.packets.delivered x (a.packets.delivered x w);
    };
    dropped = λ i. a.dropped i ∙ b.dropped i;
    stepped = a.stepped ∙ b.stepped;
  }

  plays-through : (s t u : Played) → LikePlays level job cfg s t → LikePlays level job cfg t u → LikePlays level job cfg s u
  plays-through s t u a b = record {
    same = same-through s t u a.same b.same;
    delivered = λ i q.
        let d = a.delivered i q in
        let e = b.delivered d.0 d.1 in
        (e.0, e.1, one-through (cluster cfg s).bag (cluster cfg t).bag (cluster cfg u).bag s.cursor t.cursor u.cursor i d.0 e.0 d.2 e.2);
    asking = a.asking ∙ b.asking;
    history = a.history ∙ b.history;
    no_nearer = limits-through cfg s t u a.no_nearer b.no_nearer;
    no_farther = λ l. limits-through cfg u t s (b.no_farther l) (a.no_farther l);
  }

pub through : (level : Bool) (s t u : Exploring) (o p q : List Fault) → like level s o t p → like level t p u q → like level s o u q
through level s t u o p q e f =
    let plays : LikePlays level (job_as s.job) s.config t.played u.played =
    subst (λ (k : JobKind). LikePlays level (job_as k) s.config t.played u.played) (sym e.job) (subst (λ (c : Config). LikePlays level (job_as t.job) c t.played u.played) (sym e.config) f.plays) in
    let owed : AreOneLater (cluster s.config t.played).bag (cluster s.config u.played).bag t.played.cursor u.played.cursor p q =
    subst (λ (c : Config). AreOneLater (cluster c t.played).bag (cluster c u.played).bag t.played.cursor u.played.cursor p q) (sym e.config) f.owed in
    record {
      job = e.job ∙ f.job;
      config = e.config ∙ f.config;
      goes = e.goes;
      goes_too = f.goes_too;
      shallow = e.shallow;
      shallow_too = f.shallow_too;
      begun = e.begun;
      begun_too = f.begun_too;
      plays = plays-through level (job_as s.job) s.config s.played t.played u.played e.plays plays;
      owed = laters-through (cluster s.config s.played).bag (cluster s.config t.played).bag (cluster s.config u.played).bag s.played.cursor t.played.cursor u.played.cursor o p q e.owed owed;
    }

-- ---- scripts are in an order

pub scripts-in-order : (s t u : Exploring) → before s t ≡ true → before t u ≡ true → before s u ≡ true
scripts-in-order s t u = in_order.onward s.played.events t.played.events u.played.events

-- ---- as much was put off

pub as-many-owed : (level : Bool) (s t : Exploring) (o p : List Fault) → like level s o t p → length o ≡ length p
as-many-owed level s t o p e = as-many (cluster s.config s.played).bag (cluster s.config t.played).bag s.played.cursor t.played.cursor o p e.owed
