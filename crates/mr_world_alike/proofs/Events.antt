-- Where two runs have led to alike worlds, the same event is permitted in both, and leaves alike worlds: each event in turn.
use Rattle.std.proofs.Common.{ℕ, suc, ◌≡◌, refl, sym, ◌∙◌, ap, Bool, true, false, List, ◌∷◌, Option, Some, None, is_some, nat_eq, if◌then◌else◌}
use Rattle.std.specs.Option.{option_or}
use Rattle.std.proofs.lemmas.Bool.{true≢false, eq-eqb, ne_eqb}
use Rattle.mr_ids.specs.declared.id.TaskId.{TaskId}
use Rattle.mr_master_model.specs.Past as machine
use Rattle.mr_master_model.specs.Next as next
use Rattle.mr_world_model.specs.Packets.{Config, Store}
use Rattle.mr_world_model.specs.Hearing.{has}
use Rattle.mr_world_model.specs.Duties.{Launches, Expires, Asks}
use Rattle.mr_world_model.specs.World.{World, Event, Start, Crash, Duty, LaunchOn, ContainerStep, Expire, Weather, Made, duty, duty_act, master_act, call_of, duty_made, launch_of, seen_by, reply_of, reply_under}
use Rattle.mr_world_model.specs.Sending.{sent, master_sends}
use Rattle.mr_world_model.specs.Effect.{Why, WrongGeneration, NoMaster, NoDuty, unless, not_now, effect, content_after, barred_after, history_after, fence_after, with_master_step}
use Rattle.mr_world_model.specs.Claims.{Limits, world_of}
use Rattle.mr_world_model.specs.Results.{first_told}
use Rattle.mr_world_model.specs.Actors.{BoundsBytes, is_of_masters}
use Rattle.mr_world_model.proofs.Basic.{unless_parts}
use Rattle.mr_world_model.proofs.Made.{pasts_are_made}
use Rattle.mr_world_model.proofs.Acts.{masters_act}
use Rattle.mr_master_refinement.specs.Steps.{setting, steps, answer_of}
use Rattle.mr_master_refinement.specs.Agreement.{machine_seen}
use Rattle.mr_master_refinement.specs.Points.{launch_why, expire_why}
use Rattle.mr_master_refinement.specs.Stores.{MasterMoves}
use Rattle.mr_master_refinement.proofs.Stores.{masters_go_on, masters_send}
use Rattle.mr_world_alike.proofs.Raised.{Same}
use Rattle.mr_world_alike.proofs.Sending.{sent-same}
use Rattle.mr_world_alike.proofs.Stored.{reply-same, content-same, barred-same, history-same, fence-same, first-append}
use Rattle.mr_world_alike.proofs.Masters.{MastersAlike, due-same, launch-same, expiry-same, masters-move, masters-start, masters-crash}
use Rattle.mr_world_alike.proofs.Actors.{ContainersAlike, NodesAlike, containers-rest, nodes-rest}

-- ---- the parts of a world

pub masters-of : (cfg : Config) (w u : World) → Same cfg w u → MastersAlike cfg w u
masters-of cfg w u e = record { living = e.is_master; same = e.masters }

pub containers-of : (cfg : Config) (w u : World) → Same cfg w u → ContainersAlike cfg w u
containers-of cfg w u e = record { living = e.is_alive; same = e.containers }

-- An event that calls the same, sends the same, and leaves masters, containers and nodes alike. A step of a master is a step of its machine
-- (mr_master_refinement), so no reading of a cluster's master is looked into.
pub join : (cfg : Config) (w u : World) (e : Same cfg w u) (x y : Event) → call_of cfg w x ≡ call_of cfg u y
    → ((m : Option Made) (j : ℕ) → history_after cfg w x m j ≡ history_after cfg u y m j) → fence_after w x ≡ fence_after u y → sent cfg w x ≡ sent cfg u y
    → MastersAlike cfg (effect cfg w x) (effect cfg u y) → ContainersAlike cfg (effect cfg w x) (effect cfg u y) → NodesAlike cfg (effect cfg w x) (effect cfg u y)
    → Same cfg (effect cfg w x) (effect cfg u y)
join cfg w u e x y calls histories fences sends m c n = record {
  content = content-same cfg w u e (call_of cfg w x) ∙ ap (λ (o : Option Made). content_after u o) calls;
  fence = fences;
  barred = λ a. barred-same cfg w u e (call_of cfg w x) a ∙ ap (λ (o : Option Made). has (barred_after u o) a) calls;
  history = λ j. histories (call_of cfg w x) j ∙ ap (λ (o : Option Made). history_after cfg u y o j) calls;
  is_master = m.living;
  masters = m.same;
  is_alive = c.living;
  containers = c.same;
  nodes = n;
  told = first-append w.bag (sent cfg w x) ∙ ((λ i. option_or (e.told i) (first_told (sends i))) ∙ sym (first-append u.bag (sent cfg u y)));
}

pub unless-same : (b c : Bool) (why : Why) (x y : Option Why) → b ≡ c → (b ≡ true → x ≡ y) → unless b why x ≡ unless c why y
unless-same true c why x y p f = f refl ∙ ap (λ d. unless d why y) p
unless-same false c why x y p f = ap (λ d. unless d why y) p

-- a store call is a step of its master
duty-moves : (cfg : Config) (w : World) (k : ℕ) (f : Weather) (call : Store) → duty cfg w k ≡ Some call → MasterMoves cfg w (Duty k f) k (Asks call (reply_under f (reply_of w k call)))
unfolding master_act sent
duty-moves cfg w k f call d =
    let act : master_act cfg w (Duty k f) ≡ Some (record { who = k; step = Asks call (reply_under f (reply_of w k call)) }) = ap (duty_act w k f) d in
    record {
      now = ap steps (ap (λ a. with_master_step w.master_past a k) act ∙ ap (λ b. if b then Asks call (reply_under f (reply_of w k call)) ∷ w.master_past k else w.master_past k) (eq-eqb k k refl));
      others = λ j n. ap (λ a. with_master_step w.master_past a j) act ∙ ap (λ b. if b then Asks call (reply_under f (reply_of w k call)) ∷ w.master_past j else w.master_past j) (ne_eqb j k n);
      living = λ j. refl;
      sends = ap (master_sends cfg w) act;
    }

abbrev pub calls_nothing : Event → Bool
calls_nothing (Duty k f) = false
calls_nothing (ContainerStep c f) = false
calls_nothing _ = true

pub none-called : (cfg : Config) (w : World) (x : Event) → calls_nothing x ≡ true → call_of cfg w x ≡ None
unfolding call_of
none-called cfg w (Duty k f) t = absurd (true≢false (sym t))
none-called cfg w (ContainerStep c f) t = absurd (true≢false (sym t))
none-called cfg w _ t = refl

-- what comes of an event that is permitted
pub record Follows (cfg : Config) (w u : World) (x y : Event) : Type 0 where
  pub sends : sent cfg w x ≡ sent cfg u y
  pub left : Same cfg (effect cfg w x) (effect cfg u y)

module _ (cfg : Config) (within : Limits) (bound : BoundsBytes within) (es fs : List Event) (e : Same cfg (world_of cfg within es) (world_of cfg within fs)) where
  abbrev W : World
  W = world_of cfg within es

  abbrev U : World
  U = world_of cfg within fs

  -- ---- masters

  of-masters : (x : Event) → is_of_masters x ≡ true → ContainersAlike cfg (effect cfg W x) (effect cfg U x)
  of-masters x t = containers-rest cfg W U (containers-of cfg W U e) (effect cfg W x) (effect cfg U x) (masters_act.containers cfg W x t) (masters_act.containers cfg U x t)

  of-masters-nodes : (x : Event) → is_of_masters x ≡ true → NodesAlike cfg (effect cfg W x) (effect cfg U x)
  of-masters-nodes x t = nodes-rest cfg W U e.nodes (effect cfg W x) (effect cfg U x) (masters_act.nodes cfg W x t) (masters_act.nodes cfg U x t)

  -- a master's machine sends the same at a step
  pub step-sends : (k : ℕ) → W.is_master k ≡ true → (x : machine.Step) → next.sent_by (setting cfg k) (machine_seen cfg k (W.master_past k)) x ≡ next.sent_by (setting cfg k) (machine_seen cfg k (U.master_past k)) x
  step-sends k lives x = sent-same (setting cfg k) (machine_seen cfg k (W.master_past k)) (machine_seen cfg k (U.master_past k)) (e.masters k lives) x

  pub start-permitted : (k kept : ℕ) → not_now cfg W (Start k kept) ≡ not_now cfg U (Start k kept)
  unfolding not_now
  start-permitted k kept = λ i. unless (nat_eq k (suc (e.fence i))) WrongGeneration None

  pub start-follows : (k kept : ℕ) → not_now cfg W (Start k kept) ≡ None → Follows cfg W U (Start k kept) (Start k kept)
  start-follows k kept now =
      let a = masters_go_on.starts cfg within es k kept now in
      let b = masters_go_on.starts cfg within fs k kept (sym (start-permitted k kept) ∙ now) in
      let sends = a.sends ∙ sym b.sends in
      record {
        sends = sends;
        left = join cfg W U e (Start k kept) (Start k kept) (none-called cfg W (Start k kept) refl ∙ sym (none-called cfg U (Start k kept) refl)) (history-same cfg W U e (Start k kept)) (fence-same cfg W U e (Start k kept)) sends
            (masters-start cfg W U (masters-of cfg W U e) k kept a b) (of-masters (Start k kept) refl) (of-masters-nodes (Start k kept) refl);
      }

  pub crash-permitted : (k kept : ℕ) → not_now cfg W (Crash k kept) ≡ not_now cfg U (Crash k kept)
  unfolding not_now
  crash-permitted k kept = let lives = e.is_master k in λ i. unless (lives i) NoMaster None

  pub crash-follows : (k kept : ℕ) → Follows cfg W U (Crash k kept) (Crash k kept)
  crash-follows k kept =
      let a = masters_go_on.crashes cfg W k kept in
      let b = masters_go_on.crashes cfg U k kept in
      let sends = a.sends ∙ sym b.sends in
      record {
        sends = sends;
        left = join cfg W U e (Crash k kept) (Crash k kept) (none-called cfg W (Crash k kept) refl ∙ sym (none-called cfg U (Crash k kept) refl)) (history-same cfg W U e (Crash k kept)) (fence-same cfg W U e (Crash k kept)) sends
            (masters-crash cfg W U (masters-of cfg W U e) k kept a b) (of-masters (Crash k kept) refl) (of-masters-nodes (Crash k kept) refl);
      }

  -- a store call

  duty-is : (k : ℕ) → W.is_master k ≡ true → duty cfg W k ≡ duty cfg U k
  duty-is k lives = due-same cfg k (W.master_past k) (U.master_past k) (e.masters k lives) (pasts_are_made.made cfg within es k) (pasts_are_made.made cfg within fs k)

  pub duty-permitted : (k : ℕ) (f : Weather) → not_now cfg W (Duty k f) ≡ not_now cfg U (Duty k f)
  unfolding not_now
  duty-permitted k f = unless-same (W.is_master k) (U.is_master k) NoMaster (unless (is_some (duty cfg W k)) NoDuty None) (unless (is_some (duty cfg U k)) NoDuty None) (e.is_master k)
      (λ t. ap (λ (o : Option Store). unless (is_some o) NoDuty None) (duty-is k t))

  duty-parts : (k : ℕ) (f : Weather) → not_now cfg W (Duty k f) ≡ None → (W.is_master k ≡ true) × (is_some (duty cfg W k) ≡ true)
  unfolding not_now
  duty-parts k f now =
      let a = unless_parts (W.is_master k) NoMaster (unless (is_some (duty cfg W k)) NoDuty None) now in
      let b = unless_parts (is_some (duty cfg W k)) NoDuty None a.1 in
      (a.0, b.0)

  duty-calls : (k : ℕ) (f : Weather) → W.is_master k ≡ true → call_of cfg W (Duty k f) ≡ call_of cfg U (Duty k f)
  unfolding call_of
  duty-calls k f lives = ap (duty_made k f) (duty-is k lives)

  pub duty-follows : (k : ℕ) (f : Weather) → not_now cfg W (Duty k f) ≡ None → Follows cfg W U (Duty k f) (Duty k f)
  duty-follows k f now = let parts = duty-parts k f now in by parts.0 (duty cfg W k) refl parts.1
    where
      by : W.is_master k ≡ true → (o : Option Store) → duty cfg W k ≡ o → is_some (duty cfg W k) ≡ true → Follows cfg W U (Duty k f) (Duty k f)
      by lives None d some = absurd (true≢false (sym some ∙ ap is_some d))
      by lives (Some call) d some =
          let du : duty cfg U k ≡ Some call = sym (duty-is k lives) ∙ d in
          let too = sym (duty-permitted k f) ∙ now in
          let replies : reply_under f (reply_of W k call) ≡ reply_under f (reply_of U k call) = ap (reply_under f) (reply-same cfg W U e k call) in
          let sends : sent cfg W (Duty k f) ≡ sent cfg U (Duty k f) =
          sym (masters_send.calls cfg within es k f call d now)
          ∙ (step-sends k lives (machine.Answered (answer_of call (reply_under f (reply_of W k call))))
          ∙ (ap (λ r. next.sent_by (setting cfg k) (machine_seen cfg k (U.master_past k)) (machine.Answered (answer_of call r))) replies
          ∙ masters_send.calls cfg within fs k f call du too)) in
          record {
            sends = sends;
            left = join cfg W U e (Duty k f) (Duty k f) (duty-calls k f lives) (history-same cfg W U e (Duty k f)) (fence-same cfg W U e (Duty k f)) sends
                (masters-move cfg W U (masters-of cfg W U e) (Duty k f) (Duty k f) k (Asks call (reply_under f (reply_of W k call))) (Asks call (reply_under f (reply_of U k call))) lives
                (ap (λ r. machine.Answered (answer_of call r)) replies) (duty-moves cfg W k f call d) (duty-moves cfg U k f call du))
                (of-masters (Duty k f) refl) (of-masters-nodes (Duty k f) refl);
          }

  -- a launch, and a node that is given up

  pub launch-permitted : (k : ℕ) (t : TaskId) (n : ℕ) → not_now cfg W (LaunchOn k t n) ≡ not_now cfg U (LaunchOn k t n)
  unfolding not_now
  launch-permitted k t n = unless-same (W.is_master k) (U.is_master k) NoMaster (launch_why cfg (seen_by cfg W k) t n) (launch_why cfg (seen_by cfg U k) t n) (e.is_master k)
      (λ l. launch-same cfg k (W.master_past k) (U.master_past k) (e.masters k l) (pasts_are_made.made cfg within es k) (pasts_are_made.made cfg within fs k) t n)

  launch-lives : (k : ℕ) (t : TaskId) (n : ℕ) → not_now cfg W (LaunchOn k t n) ≡ None → W.is_master k ≡ true
  unfolding not_now
  launch-lives k t n now = (unless_parts (W.is_master k) NoMaster (launch_why cfg (seen_by cfg W k) t n) now).0

  pub launch-follows : (k : ℕ) (t : TaskId) (n : ℕ) → not_now cfg W (LaunchOn k t n) ≡ None → Follows cfg W U (LaunchOn k t n) (LaunchOn k t n)
  launch-follows k t n now =
      let lives = launch-lives k t n now in
      let sends : sent cfg W (LaunchOn k t n) ≡ sent cfg U (LaunchOn k t n) =
      sym (masters_send.launches cfg within es k t n now) ∙ (step-sends k lives (machine.Launches t n) ∙ masters_send.launches cfg within fs k t n (sym (launch-permitted k t n) ∙ now)) in
      record {
        sends = sends;
        left = join cfg W U e (LaunchOn k t n) (LaunchOn k t n) (none-called cfg W (LaunchOn k t n) refl ∙ sym (none-called cfg U (LaunchOn k t n) refl)) (history-same cfg W U e (LaunchOn k t n)) (fence-same cfg W U e (LaunchOn k t n)) sends
            (masters-move cfg W U (masters-of cfg W U e) (LaunchOn k t n) (LaunchOn k t n) k (Launches (launch_of k (seen_by cfg W k) t n)) (Launches (launch_of k (seen_by cfg U k) t n)) lives refl
            (masters_go_on.launches cfg W k t n) (masters_go_on.launches cfg U k t n))
            (of-masters (LaunchOn k t n) refl) (of-masters-nodes (LaunchOn k t n) refl);
      }

  pub expire-permitted : (k n : ℕ) → not_now cfg W (Expire k n) ≡ not_now cfg U (Expire k n)
  unfolding not_now
  expire-permitted k n = unless-same (W.is_master k) (U.is_master k) NoMaster (expire_why cfg (seen_by cfg W k) n) (expire_why cfg (seen_by cfg U k) n) (e.is_master k)
      (λ l. expiry-same cfg k (W.master_past k) (U.master_past k) (e.masters k l) (pasts_are_made.made cfg within es k) (pasts_are_made.made cfg within fs k) n)

  expire-lives : (k n : ℕ) → not_now cfg W (Expire k n) ≡ None → W.is_master k ≡ true
  unfolding not_now
  expire-lives k n now = (unless_parts (W.is_master k) NoMaster (expire_why cfg (seen_by cfg W k) n) now).0

  pub expire-follows : (k n : ℕ) → not_now cfg W (Expire k n) ≡ None → Follows cfg W U (Expire k n) (Expire k n)
  expire-follows k n now =
      let lives = expire-lives k n now in
      let sends : sent cfg W (Expire k n) ≡ sent cfg U (Expire k n) =
      sym (masters_send.expires cfg within es k n now) ∙ (step-sends k lives (machine.Expires n) ∙ masters_send.expires cfg within fs k n (sym (expire-permitted k n) ∙ now)) in
      record {
        sends = sends;
        left = join cfg W U e (Expire k n) (Expire k n) (none-called cfg W (Expire k n) refl ∙ sym (none-called cfg U (Expire k n) refl)) (history-same cfg W U e (Expire k n)) (fence-same cfg W U e (Expire k n)) sends
            (masters-move cfg W U (masters-of cfg W U e) (Expire k n) (Expire k n) k (Expires n) (Expires n) lives refl (masters_go_on.expires cfg W k n) (masters_go_on.expires cfg U k n))
            (of-masters (Expire k n) refl) (of-masters-nodes (Expire k n) refl);
      }
