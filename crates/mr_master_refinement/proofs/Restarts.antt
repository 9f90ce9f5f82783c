-- A node's restart: while a master runs, its machine stays with it where a node tells a greater incarnation.
use Rattle.std.proofs.Common.{ℕ, ◌≡◌, refl, sym, ◌∙◌, ap, subst, Bool, true, false, ◌&&◌, not, List, [], ◌∷◌, if◌then◌else◌, nat_eq, nat_lt}
use Rattle.std.proofs.lemmas.Bool.{false≢true}
use Rattle.mr_ids.specs.declared.id.TaskId.{TaskId}
use Rattle.mr_packet.specs.declared.packet.Packet.TheVariants as packet
use Rattle.mr_grant.specs.Attempts as grant
use Rattle.mr_task.specs.Readings as task
use Rattle.mr_master_model.specs.declared.setting.Setting.{Setting}
use Rattle.mr_master_model.specs.Job as job
use Rattle.mr_master_model.specs.Past.{Work, Runs}
use Rattle.mr_master_model.specs.Readings as read
use Rattle.mr_master_model.specs.Readings.{told_each}
use Rattle.mr_master_model.specs.Hearing as hears
use Rattle.mr_master_model.specs.Sends as sends
use Rattle.mr_master_model.specs.Sends.{killed_by}
use Rattle.mr_master_model.specs.Next as next
use Rattle.mr_world_model.specs.Packets.{Config}
use Rattle.mr_world_model.specs.Hearing.{Seen, Launched, Ending, is_running, is_live, heard, only_known, end_there, still_there, know}
use Rattle.mr_world_model.specs.Duties.{Master_step, Came, seen, next_seen}
use Rattle.mr_world_model.specs.Calls.{Calls, calls, next_calls, calls_heard, tell_each, below, lost_below}
use Rattle.mr_world_model.specs.Made.{AllMade}
use Rattle.mr_world_model.proofs.Standing.{below-gone}
use Rattle.mr_master_refinement.specs.Steps.{setting, step_of}
use Rattle.mr_master_refinement.specs.Points.{Alike}
use Rattle.mr_master_refinement.specs.Begins.{attempts_in}
use Rattle.mr_master_refinement.specs.Holds.{Holds, Kept}
use Rattle.mr_master_refinement.proofs.Works.{runs-is}
use Rattle.mr_master_refinement.proofs.Turn.{if_cases}
use Rattle.mr_master_refinement.proofs.Begins.{told-is}
use Rattle.mr_master_refinement.proofs.Deaths.{dies, loses, alike-each}
use Rattle.mr_master_refinement.proofs.Picks.{is_under, below-picked, live-picked, lost-picked}
use Rattle.mr_master_refinement.proofs.Held.{At, at-of, of-at}

-- what is over, stands and is recorded is not held
pub ended-at : (cfg : Config) (k : ℕ) (s : Seen) (c : Calls) (m : read.Seen) (es : List Ending) → At cfg k s c m → At cfg k (record s { ended = es }) c m
ended-at cfg k s c m es o = record { work = o.work; can = o.can; due = o.due; tail = o.tail; bars = o.bars; tasks = o.tasks; launched = o.launched; known = o.known; earlier = o.earlier; killed = o.killed }

there-at : (cfg : Config) (k n i : ℕ) (ls : List Launched) (s : Seen) (c : Calls) (m : read.Seen) → At cfg k s c m → At cfg k (end_there n i ls s) c m
there-at cfg k n i [] s c m o = o
there-at cfg k n i (l ∷ ls) s c m o = if_cases (λ u. At cfg k u c m) (nat_eq l.node n && (nat_lt l.incarnation i && is_live s l.attempt)) _ _
    (λ e. there-at cfg k n i ls _ c m (ended-at cfg k s c m (record { attempt = l.attempt; is_failure = false } ∷ s.ended) o)) (λ e. there-at cfg k n i ls s c m o)

not-over : (w : Work) → read.is_running w ≡ true → read.is_over w ≡ false
not-over Runs e = refl
not-over w e = absurd (false≢true e)

module _ (cfg : Config) (k : ℕ) (h : List Master_step) (m : read.Seen) (made : AllMade cfg k h) (o : Holds cfg k h m) (run : is_running (seen cfg k h).phase ≡ true) where
  abbrev W : Setting
  W = setting cfg k

  abbrev S : Seen
  S = seen cfg k h

  abbrev C : Calls
  C = calls cfg k h

  here : At cfg k S C m
  here = at-of cfg k h m o

  runs : read.is_running m.work ≡ true
  runs = ap read.is_running o.stands.work ∙ (runs-is k S.phase o.stands.can ∙ run)

  goes-on : read.is_over m.work ≡ false
  goes-on = not-over m.work runs

  module _ (n i : ℕ) where
    abbrev Told : Calls
    Told = tell_each dies (below n i S.launched) (tell_each loses (lost_below S.recorded n i S.standing) C)

    alike-there : (t : TaskId) → job.is_task W t ≡ true → Alike (task.seen t k (Told t)) (task.seen t k ((hears.after_restart W m n i).calls t))
    alike-there t own =
        subst (λ c. Alike (task.seen t k c) (task.seen t k ((hears.after_restart W m n i).calls t))) (sym told)
        (subst (λ c. Alike (task.seen t k (told_each dies (attempts_in t (below n i S.launched)) (told_each loses (attempts_in t (lost_below S.recorded n i S.standing)) (C t)))) (task.seen t k c)) (sym machine)
        (alike-each t k (C t) (m.calls t) _ _ (hears.dead_below W m n i t) (hears.lost_below W m n i t) (o.stands.tasks run t own)
        (λ a e. live-picked cfg k h m made o run t own (read.launched_below n i) (is_under n i) refl (λ l q. refl) a e ∙ (λ j. grant.has (attempts_in t (sym (below-picked n i S.launched) j)) a))
        (λ a e kept. lost-picked cfg k h m made o run t own (read.lies_below n i) (λ p. nat_eq p.node n && nat_lt p.incarnation i) (λ p. refl) a e kept
        ∙ (λ j. grant.has (attempts_in t (sym (below-gone S.recorded n i S.standing) j)) a))))
      where
        told : Told t ≡ told_each dies (attempts_in t (below n i S.launched)) (told_each loses (attempts_in t (lost_below S.recorded n i S.standing)) (C t))
        told = told-is dies t (below n i S.launched) (tell_each loses (lost_below S.recorded n i S.standing) C)
            ∙ ap (told_each dies (attempts_in t (below n i S.launched))) (told-is loses t (lost_below S.recorded n i S.standing) C)

        machine : (hears.after_restart W m n i).calls t ≡ told_each loses (hears.lost_below W m n i t) (told_each dies (hears.dead_below W m n i t) (m.calls t))
        machine = λ j. if own j then told_each loses (hears.lost_below W m n i t) (if own j then told_each dies (hears.dead_below W m n i t) (m.calls t) else m.calls t)
            else (if own j then told_each dies (hears.dead_below W m n i t) (m.calls t) else m.calls t)

    there : At cfg k (record S { known = know S.known n i; standing = still_there S.recorded n i S.standing }) Told (hears.with_known (hears.after_restart W m n i) n i)
    there = record {
      work = here.work;
      can = here.can;
      due = here.due;
      tail = here.tail;
      bars = here.bars;
      tasks = λ go. alike-there;
      launched = here.launched;
      known = (let q = here.known in λ j x. if nat_eq x n then i else q j x);
      earlier = here.earlier;
      killed = here.killed;
    }

    greater : (b : Bool) → At cfg k (if b then end_there n i S.launched (record S { known = know S.known n i; standing = still_there S.recorded n i S.standing }) else S)
        (if b then Told else C) (if not b then m else hears.with_known (hears.after_restart W m n i) n i)
    greater true = there-at cfg k n i S.launched _ Told _ there
    greater false = here

    restart-keeps : Holds cfg k (Came (packet.NodeUp n i) ∷ h) (next.next_seen W m (step_of (Came (packet.NodeUp n i))))
    unfolding next_seen next_calls heard calls_heard next.next_seen next.moved next.sent_by hears.delivered hears.heard sends.replies killed_by
    restart-keeps = of-at cfg k h (Came (packet.NodeUp n i)) _
        (subst (λ z. At cfg k z (next_calls cfg k S (Came (packet.NodeUp n i)) C) (next.next_seen W m (step_of (Came (packet.NodeUp n i))))) (λ j. if sym run j then heard cfg S (packet.NodeUp n i) else only_known S (packet.NodeUp n i))
        (subst (λ z. At cfg k (heard cfg S (packet.NodeUp n i)) z (next.next_seen W m (step_of (Came (packet.NodeUp n i))))) (λ j. if sym run j then calls_heard S (packet.NodeUp n i) C else C)
        (subst (λ z. At cfg k (heard cfg S (packet.NodeUp n i)) (calls_heard S (packet.NodeUp n i) C) z) (sym machine-is) (greater (nat_lt (S.known n) i)))))
      where
        machine-is : next.next_seen W m (step_of (Came (packet.NodeUp n i))) ≡ (if not (nat_lt (S.known n) i) then m else hears.with_known (hears.after_restart W m n i) n i)
        machine-is = (λ j. next.with_kills (if runs j then [] else [])
            (if goes-on j then m else (if not (nat_lt (o.known j n) i) then m else (if runs j then hears.with_known (hears.after_restart W m n i) n i else hears.with_known m n i))))

pub restarts_keep : (cfg : Config) (k : ℕ) (h : List Master_step) (m : read.Seen) (n i : ℕ) → Kept cfg k h m (Came (packet.NodeUp n i))
restarts_keep cfg k h m n i made o run = restart-keeps cfg k h m made.1 o run n i
