-- What the parts of a comparison find makes runs alike.
use Rattle.std.proofs.Common.{ℕ, ◌≤◌, ◌≡◌, sym, ◌∙◌, subst, true, false, List, length}
use Rattle.std.proofs.lemmas.Bool.{true≢false}
use Rattle.mr_world_model.specs.Packets.{Config}
use Rattle.mr_world_alike.specs.Alike.{Alike}
use Rattle.mr_world_alike.specs.Packets.{SamePackets}
use Rattle.mr_world_state.specs.Limits.{launch_count}
use Rattle.mr_world.specs.Histories.{history_of}
use Rattle.mr_play.specs.Played.{Played}
use Rattle.mr_play.specs.declared.player.Player.{Player}
use Rattle.mr_play.specs.Players.{state_in}
use Rattle.mr_play.specs.Text.{job_as}
use Rattle.mr_sim_commands.specs.declared.job.submission.JobKind.{JobKind}
use Rattle.mr_explore_faults.specs.declared.fault.Fault.{Fault}
use Rattle.mr_explore.specs.Runs.{Exploring}
use Rattle.mr_explore_likeness.specs.Owed.{AreOneLater}
use Rattle.mr_explore_likeness.specs.Plays.{IsOnePacket, LikePlays, asking_last, cluster, was_delivered}
use Rattle.mr_explore_likeness.specs.Runs.{like}
use Rattle.mr_explore_compared.specs.inner.Compared.{AreComparable, AreDroppedAlike, AreOwedAlike, HaveLedAlike, PlayersLookAlike}
use Rattle.mr_explore_compared.proofs.Came.{each-came, one-before}
use Rattle.mr_explore_compared.proofs.Dropped.{dropped-alike}

-- What is found of two plays of these configs.
record Found (cfg other : Config) (s t : Played) (o r : List Fault) : Type 0 where
  alike : Alike cfg (cluster cfg s) (cluster other t)
  packets : SamePackets (cluster cfg s) (cluster other t) s.events t.events s.cursor t.cursor
  dropped : AreDroppedAlike s t
  stepped : s.stepped ≡ t.stepped
  delivered : (i : ℕ) → was_delivered s.events i ≡ true → (j : ℕ) × (was_delivered t.events j ≡ true) × IsOnePacket (cluster cfg s).bag (cluster other t).bag s.cursor t.cursor i j
  asking : asking_last (cluster cfg s).bag ≡ asking_last (cluster other t).bag
  history : history_of cfg s.events ≡ history_of other t.events
  events : length t.events ≤ length s.events
  many : length (cluster other t).bag ≤ length (cluster cfg s).bag
  launches : launch_count (cluster other t) ≤ launch_count (cluster cfg s)
  owed : AreOneLater (cluster cfg s).bag (cluster other t).bag s.cursor t.cursor o r

found : (p q : Player) (o r : List Fault) → PlayersLookAlike p q → AreOwedAlike p q o r → HaveLedAlike p q → Found p.world.config q.world.config (state_in p) (state_in q) o r
found p q o r look owed led = record {
  alike = led.same.alike;
  packets = one-before p q look.ahead led.came;
  dropped = look.dropped;
  stepped = look.stepped;
  delivered = λ i d. (each-came p q (state_in q).events (state_in p).events led.came i d).1;
  asking = look.asking;
  history = led.same.history;
  events = look.no_nearer.events;
  many = look.no_nearer.packets;
  launches = look.no_nearer.launches;
  owed = owed;
}

plays-alike : (job : JobKind) (cfg : Config) (s t : Played) (o r : List Fault) → Found cfg cfg s t o r → LikePlays false (job_as job) cfg s t
plays-alike job cfg s t o r f = record {
  same = record { alike = f.alike; packets = f.packets; dropped = dropped-alike s t f.dropped; stepped = f.stepped };
  delivered = f.delivered;
  asking = f.asking;
  history = f.history;
  no_nearer = record { events = f.events; packets = f.many; launches = f.launches };
  no_farther = λ e. absurd (true≢false (sym e));
}

-- two runs of which that is found are alike
runs-alike : (s t : Exploring) (o r : List Fault) → AreComparable s t → s.config ≡ t.config → Found s.config t.config s.played t.played o r → like false s o t r
runs-alike s t o r both same it =
    let f = subst (λ (cfg : Config). Found s.config cfg s.played t.played o r) (sym same) it in
    record {
      job = both.job;
      config = same;
      goes = both.here.goes;
      goes_too = both.there.goes;
      shallow = both.here.shallow;
      shallow_too = both.there.shallow;
      begun = both.here.begun;
      begun_too = both.there.begun;
      plays = plays-alike s.job s.config s.played t.played o r f;
      owed = f.owed;
    }

-- the same, by their players
pub likens : (s t : Exploring) (o r : List Fault) (p q : Player) → p.world.config ≡ s.config → state_in p ≡ s.played → q.world.config ≡ t.config → state_in q ≡ t.played
    → AreComparable s t → PlayersLookAlike p q → AreOwedAlike p q o r → HaveLedAlike p q → like false s o t r
likens s t o r p q a b c d both look owed led =
    let f1 = subst (λ (cfg : Config). Found cfg q.world.config (state_in p) (state_in q) o r) a (found p q o r look owed led) in
    let f2 = subst (λ (x : Played). Found s.config q.world.config x (state_in q) o r) b f1 in
    let f3 = subst (λ (cfg : Config). Found s.config cfg s.played (state_in q) o r) c f2 in
    let f4 = subst (λ (x : Played). Found s.config t.config s.played x o r) d f3 in
    runs-alike s t o r both (sym a ∙ (led.same.config ∙ c)) f4
