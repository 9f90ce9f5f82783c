-- Until it runs, a master has launched nothing and is due nothing: what it and its machine have seen is told by the phase, the winners, the nodes and what was read.
use Rattle.std.proofs.Common.{ℕ, zero, suc, ◌-◌, ◌≡◌, refl, sym, ◌∙◌, ap, subst, Bool, true, false, ◌&&◌, not, List, [], ◌∷◌, ◌++◌, map, Option, Some, None, if◌then◌else◌, nat_eq, nat_le, append-nil, append_assoc, arith, inl}
use Rattle.std.specs.Option.{option_map}
use Rattle.std.proofs.lemmas.Bool.{false≢true}
use Rattle.std.proofs.lemmas.Bool.Decides.{nat_tests}
use Rattle.mr_ids.specs.declared.id.TaskKind.{TaskKind}
use Rattle.mr_ids.specs.Same.{same_task, same_kind}
use Rattle.mr_ids.specs.declared.id.TaskKind.TheVariants.{Map, Reduce}
use Rattle.mr_packet.specs.declared.packet.Envelope.{Envelope}
use Rattle.mr_packet.specs.declared.packet.Packet.TheVariants as packet
use Rattle.mr_history.specs.declared.record.Record.{Record}
use Rattle.mr_recover.specs.declared.winner.TaskWinner.{TaskWinner}
use Rattle.mr_recover.specs.Plan as plan
use Rattle.mr_master_model.specs.Hearing as machine_hears
use Rattle.mr_world_model.specs.Sending as sending
use Rattle.mr_recover.specs.Plan.{winners_among, with_first}
use Rattle.mr_task.specs.Calls as task_call
use Rattle.mr_task.specs.Calls.{TaskCall}
use Rattle.mr_master_model.specs.declared.setting.Setting.{Setting}
use Rattle.mr_master_model.specs.Job.{first_tasks}
use Rattle.mr_master_model.specs.Past.{Work}
use Rattle.mr_master_model.specs.Readings as read
use Rattle.mr_master_model.specs.Duty.{duty}
use Rattle.mr_master_model.specs.Sends as sends
use Rattle.mr_master_model.specs.Sends.{answer_sends, killed_by, with_kill}
use Rattle.mr_master_model.specs.Next as next
use Rattle.mr_world_model.specs.Ids.{Attempt, TaskId, task_eq, reduce_of}
use Rattle.mr_world_model.specs.Content.{bar_of}
use Rattle.mr_world_model.specs.Packets.{Config, Store, Names, Append_record, Flush, Read_history, Reply, Fine, Found, Bytes, Records}
use Rattle.mr_world_model.specs.Records.{winner_in, length_in}
use Rattle.mr_world_model.specs.Hearing.{Seen, Phase, Opening, Setting_up, Recovering, Running, Committing, Failing, Finished, Stopped, Todo_winner, Recover_step, Look_below, Measure, Clear_own, Move_from, is_running, can_hear, after_bar}
use Rattle.mr_world_model.specs.Duties.{newest_maps, attempts_of, Master_step, Came, Launches, Expires, Asks, next_seen, opening, duty_of, phase_told, told, with_phase, with_read, is_fine, is_read, records_of, winners_of, one_winner, mark_at, looked, recover_rest, recovering, found_at, is_unsuccessful, is_cleared, right_length, recover_call}
use Rattle.mr_world_model.specs.Sending.{to_all, step_sends, won_by_recovery, flush_sends, bar_sends, duty_sends}
use Rattle.mr_world_model.specs.Claims.{has_not_run, In}
use Rattle.mr_world_model.specs.Calls.{tell, tell_each, winning, Calls}
use Rattle.mr_world_model.specs.Made.{IsMade}
use Rattle.mr_world_model.proofs.Stores.{stores_are_the_models}
use Rattle.mr_world_model.proofs.Lists.{In-right}
use Rattle.mr_master_refinement.specs.Steps.{setting, answer_of, step_of}
use Rattle.mr_master_refinement.specs.Works.{CanBe, work_at, winner_of, named}
use Rattle.mr_master_refinement.specs.Agreement.{SetUp}
use Rattle.mr_master_refinement.proofs.Works.{runs-is, duty-is}
use Rattle.mr_master_refinement.proofs.Turns.{some-is}
use Rattle.mr_master_refinement.proofs.Turn.{if_cases, can-after}
use Rattle.mr_master_refinement.proofs.Changes.{change_at, sends_at}
use Rattle.mr_master_refinement.proofs.Answering.{outcome_in, machine-outcome, is_finished, answered, answer-sent, sent-is, Plain, plain-sends, recovery-sends, not-started}

-- ---- winners

winners-append : (rs : List Record) (xs ys : List TaskId) → winners_among rs (xs ++ ys) ≡ winners_among rs xs ++ winners_among rs ys
winners-append rs [] ys = refl
winners-append rs (x ∷ xs) ys = ap (with_first (plan.winner_of rs x)) (winners-append rs xs ys) ∙ by (plan.winner_of rs x)
  where
    by : (o : Option TaskWinner) → with_first o (winners_among rs xs ++ winners_among rs ys) ≡ with_first o (winners_among rs xs) ++ winners_among rs ys
    by None = refl
    by (Some w) = refl

map-append : (xs ys : List Todo_winner) → map winner_of (xs ++ ys) ≡ map winner_of xs ++ map winner_of ys
map-append [] ys = refl
map-append (x ∷ xs) ys = ap (λ l. winner_of x ∷ l) (map-append xs ys)

winners-are : (cfg : Config) (k : ℕ) (rs : List Record) (n : ℕ) → winners_among rs (first_tasks (setting cfg k) Reduce n) ≡ map winner_of (winners_of rs cfg.job n)
unfolding first_tasks winners_of
winners-are cfg k rs zero = refl
winners-are cfg k rs (suc n) =
    winners-append rs (first_tasks (setting cfg k) Reduce n) (reduce_of cfg.job n ∷ [])
    ∙ ((λ i. winners-are cfg k rs n i ++ one i) ∙ sym (map-append (winners_of rs cfg.job n) (one_winner (reduce_of cfg.job n) (length_in rs (reduce_of cfg.job n)) (winner_in rs (reduce_of cfg.job n)))))
  where
    by : (o : Option Attempt) → with_first (option_map (λ a. record { task = reduce_of cfg.job n; attempt = a; bytes = length_in rs (reduce_of cfg.job n) }) o) []
        ≡ map winner_of (one_winner (reduce_of cfg.job n) (length_in rs (reduce_of cfg.job n)) o)
    by None = refl
    by (Some a) = refl

    one : winners_among rs (reduce_of cfg.job n ∷ []) ≡ map winner_of (one_winner (reduce_of cfg.job n) (length_in rs (reduce_of cfg.job n)) (winner_in rs (reduce_of cfg.job n)))
    one = (let p = stores_are_the_models.winners rs (reduce_of cfg.job n) in λ i. with_first (option_map (λ a. record { task = reduce_of cfg.job n; attempt = a; bytes = sym p.1 i }) (sym p.0 i)) [])
        ∙ by (winner_in rs (reduce_of cfg.job n))

-- ---- what is seen until it runs

abbrev pub early_seen : Phase → List Todo_winner → (ℕ → ℕ) → List Record → Seen
early_seen p ws f read' = record opening { phase = p; winners = ws; known = f; history = read' }

abbrev pub early_machine : Work → (ℕ → ℕ) → List Record → Calls → read.Seen
early_machine w f read' cs = record read.opening { work = w; known = f; earlier = read'; calls = cs }

abbrev pub no_calls : Calls
no_calls t = []

-- the tasks were told of the winners that were taken over
abbrev pub recovered : List Todo_winner → Calls
recovered ws = tell_each (λ a. task_call.Recovers a) (winning ws) no_calls

abbrev pub OwnTasks : List Todo_winner → Type 0
OwnTasks [] = Unit {0}
OwnTasks (w ∷ ws) = (w.attempt.task ≡ w.task) × OwnTasks ws

abbrev pub Taken : Config → Phase → List Todo_winner → List Record → Calls → Type 0
Taken cfg (Opening n) ws read' cs = (read' ≡ []) × (ws ≡ []) × (cs ≡ no_calls)
Taken cfg Setting_up ws read' cs = (ws ≡ winners_of read' cfg.job cfg.reduces) × (cs ≡ no_calls)
Taken cfg (Recovering todo at) ws read' cs = (ws ≡ winners_of read' cfg.job cfg.reduces) × (done : List Todo_winner) × (done ++ todo ≡ ws) × (cs ≡ recovered done)
Taken cfg p ws read' cs = Unit {0}

-- what is sent at each step that can be made
abbrev pub SendsAlike : Config → ℕ → Seen → read.Seen → Type 0
SendsAlike cfg k s m = (x : Master_step) → IsMade cfg k s x → next.sent_by (setting cfg k) m (step_of x) ≡ step_sends cfg s (next_seen cfg k s x) x

pub record Early (cfg : Config) (k : ℕ) (s : Seen) (m : read.Seen) : Type 0 where
  pub phase : Phase
  pub winners : List Todo_winner
  pub known : ℕ → ℕ
  pub read' : List Record
  pub told : Calls
  pub seen-is : s ≡ early_seen phase winners known read'
  pub machine-is : m ≡ early_machine (work_at k phase) known read' told
  pub can : CanBe phase
  pub young : has_not_run phase ≡ true
  pub taken : Taken cfg phase winners read' told

pub young-runs : (p : Phase) → has_not_run p ≡ true → is_running p ≡ false
young-runs (Opening n) e = refl
young-runs Setting_up e = refl
young-runs (Recovering ws at) e = refl
young-runs _ e = absurd (false≢true e)

pub young-hears : (p : Phase) → has_not_run p ≡ true → can_hear p ≡ true
young-hears (Opening n) e = refl
young-hears Setting_up e = refl
young-hears (Recovering ws at) e = refl
young-hears _ e = absurd (false≢true e)

-- ---- the calls that are due then

abbrev pub Mute : Store → Type 0
Mute (Names op) = bar_of op ≡ None
Mute Read_history = Unit {0}
Mute Flush = ⊥
Mute (Append_record x) = ⊥

mute-plain : (call : Store) → Mute call → Plain call
mute-plain (Names op) o = o
mute-plain Read_history o = tt
mute-plain Flush o = o
mute-plain (Append_record x) o = tt

mark-mute : (n : ℕ) → Mute (mark_at n)
mark-mute zero = refl
mark-mute (suc zero) = refl
mark-mute (suc (suc zero)) = refl
mark-mute (suc (suc (suc n))) = tt

pub mute : (cfg : Config) (k : ℕ) (s : Seen) (p : Phase) (call : Store) → has_not_run p ≡ true → CanBe p → duty_of cfg k s p ≡ Some call → Mute call
unfolding duty_of
mute cfg k s (Opening n) call y o d = subst Mute (some-is (mark_at n) call d) (mark-mute n)
mute cfg k s Setting_up call y o d = subst Mute (some-is _ call d) refl
mute cfg k s (Recovering [] at) call y o d = absurd o
mute cfg k s (Recovering (x ∷ todo) (Look_below j)) call y o d = subst Mute (some-is _ call d) refl
mute cfg k s (Recovering (x ∷ todo) (Measure j)) call y o d = subst Mute (some-is _ call d) refl
mute cfg k s (Recovering (x ∷ todo) (Clear_own j)) call y o d = subst Mute (some-is _ call d) refl
mute cfg k s (Recovering (x ∷ todo) (Move_from j)) call y o d = subst Mute (some-is _ call d) refl
mute cfg k s _ call y o d = absurd (false≢true y)

pub same-if : {A : Type 0} (b : Bool) (x : A) → (if b then x else x) ≡ x
same-if true x = refl
same-if false x = refl

-- ---- what is sent for an answer

own-sends : (cfg : Config) (k : ℕ) (m : read.Seen) (p : Phase) (call : Store) (r : Reply) → has_not_run p ≡ true → CanBe p → sends_at cfg k m p call r ≡ won_by_recovery cfg.nodes p r
own-sends cfg k m (Opening n) call r y o = refl
own-sends cfg k m Setting_up call r y o = refl
own-sends cfg k m (Recovering [] at) call r y o = absurd o
own-sends cfg k m (Recovering (x ∷ todo) (Look_below j)) call r y o = refl
own-sends cfg k m (Recovering (x ∷ todo) (Measure j)) call r y o = refl
own-sends cfg k m (Recovering (x ∷ todo) (Clear_own j)) call r y o = refl
own-sends cfg k m (Recovering (x ∷ todo) (Move_from j)) call r y o = recovery-sends cfg k m x todo j call r
own-sends cfg k m _ call r y o = absurd (false≢true y)

not-finished : (p : Phase) → has_not_run p ≡ true → is_finished p ≡ false
not-finished (Opening n) e = refl
not-finished Setting_up e = refl
not-finished (Recovering ws at) e = refl
not-finished _ e = absurd (false≢true e)

module _ (cfg : Config) (k : ℕ) (p : Phase) (ws : List Todo_winner) (f : ℕ → ℕ) (read' : List Record) (cs : Calls) (can : CanBe p) (young : has_not_run p ≡ true) (taken : Taken cfg p ws read' cs) where
  abbrev W : Setting
  W = setting cfg k

  abbrev S : Seen
  S = early_seen p ws f read'

  abbrev M : read.Seen
  M = early_machine (work_at k p) f read' cs

  pub set-up : SetUp cfg k S M p
  set-up = by p taken
    where
      by : (q : Phase) → Taken cfg q ws read' cs → SetUp cfg k S M q
      by Setting_up t = winners-are cfg k read' cfg.reduces ∙ ap (map winner_of) (sym t.0)
      by (Opening n) t = tt
      by (Recovering todo at) t = tt
      by Running t = tt
      by (Committing at) t = tt
      by (Failing b) t = tt
      by (Finished b) t = tt
      by Stopped t = tt

  pub early-duty : duty W M ≡ named p (duty_of cfg k S p)
  early-duty = duty-is cfg k S M p can refl refl (λ e. absurd (false≢true (sym (young-runs p young) ∙ e)))

  early-sends : (call : Store) (r : Reply) → duty_of cfg k S p ≡ Some call → answer_sends W M (answer_of call r) ≡ duty_sends cfg S (told cfg k S call r) call r
  early-sends call r d = sent-is cfg k S M p call r can refl set-up refl d (early-duty ∙ ap (named p) d) refl
      (own-sends cfg k M p call r young can ∙ (sym (append-nil (won_by_recovery cfg.nodes p r)) ∙ ap (λ x. won_by_recovery cfg.nodes p r ++ x) (sym (plain-sends cfg.nodes S call r (mute-plain call (mute cfg k S p call young can d))))))
      (not-finished p young)

  pub early-sent : SendsAlike cfg k S M
  unfolding next.sent_by next_seen
  early-sent = sent-at
    where
      idle : is_running p ≡ false
      idle = young-runs p young

      sent-at : (x : Master_step) → IsMade cfg k S x → next.sent_by W M (step_of x) ≡ step_sends cfg S (next_seen cfg k S x) x
      sent-at (Came q) o = ap (λ b. if b then sends.replies W M (machine_hears.heard W M q) q else []) (runs-is k p can ∙ idle)
          ∙ ap (λ b. if b then sending.replies S (next_seen cfg k S (Came q)) q else []) (sym idle)
      sent-at (Launches l) o = absurd (false≢true (sym idle ∙ o.2))
      sent-at (Expires n) o = absurd (false≢true (sym idle ∙ o.0))
      sent-at (Asks call r) o = early-sends call r o.0

  -- ---- what is seen after an answer

  next_phase : Store → Reply → Phase
  next_phase call r = phase_told k S p call r

  pub told-is : (call : Store) (r : Reply) → Mute call → is_running (phase_told k S p call r) ≡ false →
      told cfg k S call r ≡ early_seen (phase_told k S p call r) (if is_read call then winners_of (records_of r) cfg.job cfg.reduces else ws) f (if is_read call then records_of r else read')
  unfolding told
  told-is (Names op) r o idle =
      (λ i. with_phase (phase_told k S p (Names op) r) (if is_fine r then after_bar S (o i) else S))
      ∙ (ap (with_phase (phase_told k S p (Names op) r)) (same-if (is_fine r) S)
      ∙ ap (λ (b : Bool). if b && not (is_running p) then with_phase_running (phase_told k S p (Names op) r) else record S { phase = phase_told k S p (Names op) r }) idle)
    where
      with_phase_running : Phase → Seen
      with_phase_running q = record S { phase = q; standing = newest_maps f read' []; recorded = attempts_of (newest_maps f read' []) }
  told-is Read_history r o idle =
      ap (λ u. with_phase (phase_told k S p Read_history r) (with_read cfg u Read_history r)) (same-if (is_fine r) S)
      ∙ ap (λ (b : Bool). if b && not (is_running p) then with_phase_running (phase_told k S p Read_history r) else record (with_read cfg S Read_history r) { phase = phase_told k S p Read_history r }) idle
    where
      with_phase_running : Phase → Seen
      with_phase_running q = record (with_read cfg S Read_history r) { phase = q; standing = newest_maps f (records_of r) []; recorded = attempts_of (newest_maps f (records_of r) []) }
  told-is Flush r o idle = absurd o
  told-is (Append_record x) r o idle = absurd o

  -- no container was sent a Kill
  abbrev Kills : List Envelope → Type 0
  Kills es = (g : ℕ → Bool) → killed_by es g ≡ g

  kills-append : (xs ys : List Envelope) → Kills xs → Kills ys → Kills (xs ++ ys)
  unfolding killed_by
  kills-append xs ys x y g = along xs g ∙ (ap (killed_by ys) (x g) ∙ y g)
    where
      along : (xs : List Envelope) (g : ℕ → Bool) → killed_by (xs ++ ys) g ≡ killed_by ys (killed_by xs g)
      along [] g = refl
      along (e ∷ xs) g = along xs (with_kill e.body g)

  kills-won : (n : ℕ) (t : TaskId) (a : Attempt) → Kills (to_all n (packet.Won t a))
  unfolding to_all killed_by
  kills-won zero t a g = refl
  kills-won (suc n) t a g = kills-append (to_all n (packet.Won t a)) _ (kills-won n t a) (λ g. refl) g

  kills-outcome : (n : ℕ) (b : Bool) → Kills (to_all n (packet.Outcome b))
  unfolding to_all killed_by
  kills-outcome zero b g = refl
  kills-outcome (suc n) b g = kills-append (to_all n (packet.Outcome b)) _ (kills-outcome n b) (λ g. refl) g

  outcome-kills : (q : Phase) → Kills (outcome_in cfg.nodes q)
  unfolding killed_by
  outcome-kills (Finished b) g = kills-outcome cfg.nodes b g
  outcome-kills (Opening n) g = refl
  outcome-kills _ g = refl

  recovery-kills : (q : Phase) (r : Reply) → Kills (won_by_recovery cfg.nodes q r)
  unfolding killed_by
  recovery-kills (Recovering (x ∷ todo) (Move_from j)) Fine g = kills-won cfg.nodes x.task x.attempt g
  recovery-kills (Recovering (x ∷ todo) (Move_from j)) r g = other r g
    where
      other : (r : Reply) → Kills (won_by_recovery cfg.nodes (Recovering (x ∷ todo) (Move_from j)) r)
      other Fine g = kills-won cfg.nodes x.task x.attempt g
      other _ g = refl
  recovery-kills (Recovering [] at) r g = refl
  recovery-kills (Recovering (x ∷ todo) (Look_below j)) r g = refl
  recovery-kills (Recovering (x ∷ todo) (Measure j)) r g = refl
  recovery-kills (Recovering (x ∷ todo) (Clear_own j)) r g = refl
  recovery-kills (Opening n) r g = refl
  recovery-kills _ r g = refl

  pub none-killed : (call : Store) (r : Reply) → duty_of cfg k S p ≡ Some call → Kills (answer_sends W M (answer_of call r))
  none-killed call r d = subst Kills
      (sym (answer-sent cfg k S M p call r can refl set-up refl d (early-duty ∙ ap (named p) d)
      ∙ (λ i. own-sends cfg k M p call r young can i ++ machine-outcome cfg k (phase_told k S p call r) (can-after k S p call r can) i)))
      (kills-append (won_by_recovery cfg.nodes p r) _ (recovery-kills p r) (outcome-kills (phase_told k S p call r)))

  -- what its machine has seen
  pub machine-after : (call : Store) (r : Reply) → duty_of cfg k S p ≡ Some call → is_running (phase_told k S p call r) ≡ false →
      next.next_seen W M (step_of (Asks call r)) ≡ record (change_at cfg k M p call r) { work = work_at k (phase_told k S p call r); killed = (change_at cfg k M p call r).killed }
  unfolding next.next_seen next.moved next.sent_by
  machine-after call r d idle =
      (let q = answered cfg k S M p call r can refl set-up refl d (early-duty ∙ ap (named p) d) ∙ not-started cfg k (change_at cfg k M p call r) (phase_told k S p call r) (can-after k S p call r can) idle in
      λ i. next.with_kills (answer_sends W M (answer_of call r)) (q i))
      ∙ (λ i. record (change_at cfg k M p call r) { work = work_at k (phase_told k S p call r); killed = none-killed call r d (change_at cfg k M p call r).killed i })

  -- ---- it stays so, until it runs

  abbrev After : Store → Reply → Type 0
  After call r = has_not_run (phase_told k S p call r) ≡ true → Early cfg k (told cfg k S call r) (next.next_seen W M (step_of (Asks call r)))

  -- where the winners and what was read are as before
  keeps-early : (call : Store) (r : Reply) → duty_of cfg k S p ≡ Some call → is_read call ≡ false → (cs' : Calls) → change_at cfg k M p call r ≡ early_machine (work_at k p) f read' cs' →
      (has_not_run (phase_told k S p call r) ≡ true → Taken cfg (phase_told k S p call r) ws read' cs') → After call r
  keeps-early call r d n cs' c t y = let idle = young-runs (phase_told k S p call r) y in record {
    phase = phase_told k S p call r;
    winners = ws;
    known = f;
    read' = read';
    told = cs';
    seen-is = told-is call r (mute cfg k S p call young can d) idle
        ∙ ap (λ b. early_seen (phase_told k S p call r) (if b then winners_of (records_of r) cfg.job cfg.reduces else ws) f (if b then records_of r else read')) n;
    machine-is = machine-after call r d idle ∙ ap (λ (x : read.Seen). record x { work = work_at k (phase_told k S p call r); killed = x.killed }) c;
    can = can-after k S p call r can;
    young = y;
    taken = t y;
  }

-- ---- by phases

pub nat-sym : (a b : ℕ) → nat_eq a b ≡ nat_eq b a
nat-sym a b = grind (arith, nat_tests)

kind-sym : (a b : TaskKind) → same_kind a b ≡ same_kind b a
kind-sym Map Map = refl
kind-sym Map Reduce = refl
kind-sym Reduce Map = refl
kind-sym Reduce Reduce = refl

pub same_sym : (t u : TaskId) → same_task t u ≡ task_eq u t
unfolding task_eq
same_sym t u = let a = nat-sym t.job.start u.job.start in let b = nat-sym t.job.number u.job.number in let c = kind-sym t.kind u.kind in let d = nat-sym t.number u.number in
    λ i. a i && b i && c i && d i

young-looked : (cfg : Config) (ws : List Todo_winner) (read' : List Record) (cs : Calls) (n i : ℕ) (r : Reply) → Taken cfg (Opening n) ws read' cs → has_not_run (looked i r) ≡ true → Taken cfg (looked i r) ws read' cs
young-looked cfg ws read' cs n i (Found (Some x)) t y = tt
young-looked cfg ws read' cs n i (Found None) t y = t
young-looked cfg ws read' cs n i Fine t y = tt
young-looked cfg ws read' cs n i _ t y = tt

young-rest : (cfg : Config) (k : ℕ) (ws todo : List Todo_winner) (read' : List Record) (cs : Calls) (done : List Todo_winner) → ws ≡ winners_of read' cfg.job cfg.reduces → done ++ todo ≡ ws → cs ≡ recovered done →
    Taken cfg (recover_rest k todo) ws read' cs
young-rest cfg k ws [] read' cs done w d c = tt
young-rest cfg k ws (x ∷ todo) read' cs done w d c = if_cases (λ q. Taken cfg q ws read' cs) (nat_le k 1) _ _ (λ e. tt) (λ e. (w, done, d, c))

-- one more was taken over
winning-append : (xs ys : List Todo_winner) → winning (xs ++ ys) ≡ winning xs ++ winning ys
winning-append [] ys = refl
winning-append (x ∷ xs) ys = ap (λ l. x.attempt ∷ l) (winning-append xs ys)

tell-append : (g : Attempt → TaskCall) (xs ys : List Attempt) (c : Calls) → tell_each g (xs ++ ys) c ≡ tell_each g ys (tell_each g xs c)
tell-append g [] ys c = refl
tell-append g (x ∷ xs) ys c = tell-append g xs ys (tell x.task (g x) c)

pub one-more : (x : Todo_winner) (done : List Todo_winner) (cs : Calls) → x.attempt.task ≡ x.task → cs ≡ recovered done →
    (λ (u : TaskId). if same_task u x.task then task_call.Recovers x.attempt ∷ cs u else cs u) ≡ recovered (done ++ x ∷ [])
one-more x done cs own c =
    (λ i u. if same-both u i then task_call.Recovers x.attempt ∷ c i u else c i u)
    ∙ sym ((λ i. tell_each (λ a. task_call.Recovers a) (winning-append done (x ∷ []) i) no_calls) ∙ tell-append (λ a. task_call.Recovers a) (winning done) (x.attempt ∷ []) no_calls)
  where
    same-both : (u : TaskId) → same_task u x.task ≡ task_eq x.attempt.task u
    same-both u = same_sym u x.task ∙ ap (λ t. task_eq t u) (sym own)

young-recover : (cfg : Config) (k : ℕ) (ws todo : List Todo_winner) (x : Todo_winner) (read' : List Record) (cs : Calls) (at : Recover_step) (j : ℕ) (r : Reply) →
    ((b : Recover_step) → Taken cfg (Recovering (x ∷ todo) b) ws read' cs) → Taken cfg (recovering k (x ∷ todo) (Look_below j) r) ws read' cs
young-recover cfg k ws todo x read' cs at j (Found (Some y)) t = t (found_at (x ∷ todo) j)
young-recover cfg k ws todo x read' cs at j (Found None) t = if_cases (λ q. Taken cfg q ws read' cs) (nat_le j 1) _ _ (λ e. tt) (λ e. t (Look_below (j - 1)))
young-recover cfg k ws todo x read' cs at j _ t = tt

young-measure : (cfg : Config) (k : ℕ) (ws todo : List Todo_winner) (x : Todo_winner) (read' : List Record) (cs : Calls) (j : ℕ) (r : Reply) →
    ((b : Recover_step) → Taken cfg (Recovering (x ∷ todo) b) ws read' cs) → Taken cfg (recovering k (x ∷ todo) (Measure j) r) ws read' cs
young-measure cfg k ws todo x read' cs j (Bytes bytes) t = if_cases (λ q. Taken cfg q ws read' cs) (right_length (x ∷ todo) bytes) _ _ (λ e. t (Clear_own j)) (λ e. tt)
young-measure cfg k ws todo x read' cs j _ t = tt

module _ (cfg : Config) (k : ℕ) (ws : List Todo_winner) (f : ℕ → ℕ) (read' : List Record) (cs : Calls) where
  abbrev Leads : (p : Phase) → CanBe p → has_not_run p ≡ true → Taken cfg p ws read' cs → Store → Reply → Type 0
  Leads p can young taken call r = has_not_run (phase_told k (early_seen p ws f read') p call r) ≡ true →
      Early cfg k (told cfg k (early_seen p ws f read') call r) (next.next_seen (setting cfg k) (early_machine (work_at k p) f read' cs) (step_of (Asks call r)))

  read-next : (n : ℕ) (taken : Taken cfg (Opening n) ws read' cs) (r : Reply) → duty_of cfg k (early_seen (Opening n) ws f read') (Opening n) ≡ Some Read_history → Leads (Opening n) tt refl taken Read_history r
  unfolding phase_told
  read-next n taken (Records rs) d y = record {
    phase = q;
    winners = winners_of rs cfg.job cfg.reduces;
    known = f;
    read' = rs;
    told = cs;
    seen-is = told-is cfg k (Opening n) ws f read' cs tt refl taken Read_history (Records rs) tt (young-runs q y);
    machine-is = machine-after cfg k (Opening n) ws f read' cs tt refl taken Read_history (Records rs) d (young-runs q y);
    can = can-after k (early_seen (Opening n) ws f read') (Opening n) Read_history (Records rs) tt;
    young = y;
    taken = by (is_unsuccessful rs);
  }
    where
      q : Phase
      q = phase_told k (early_seen (Opening n) ws f read') (Opening n) Read_history (Records rs)

      by : (b : Bool) → Taken cfg (if b then Failing true else Setting_up) (winners_of rs cfg.job cfg.reduces) rs cs
      by true = tt
      by false = (refl, taken.2)
  read-next n taken Fine d y = absurd (false≢true y)
  read-next n taken _ d y = absurd (false≢true y)

  opening-next : (n : ℕ) (taken : Taken cfg (Opening n) ws read' cs) (r : Reply) → duty_of cfg k (early_seen (Opening n) ws f read') (Opening n) ≡ Some (mark_at n) → Leads (Opening n) tt refl taken (mark_at n) r
  unfolding phase_told
  opening-next zero taken r d = keeps-early cfg k (Opening zero) ws f read' cs tt refl taken (mark_at zero) r d refl cs refl (young-looked cfg ws read' cs zero zero r taken)
  opening-next (suc zero) taken r d = keeps-early cfg k (Opening 1) ws f read' cs tt refl taken (mark_at 1) r d refl cs refl (young-looked cfg ws read' cs 1 1 r taken)
  opening-next (suc (suc zero)) taken r d = keeps-early cfg k (Opening 2) ws f read' cs tt refl taken (mark_at 2) r d refl cs refl (young-looked cfg ws read' cs 2 2 r taken)
  opening-next (suc (suc (suc n))) taken r d = read-next (suc (suc (suc n))) taken r d

  recovery-next : (x : Todo_winner) (todo : List Todo_winner) (at : Recover_step) (can : CanBe (Recovering (x ∷ todo) at)) (taken : Taken cfg (Recovering (x ∷ todo) at) ws read' cs) (call : Store) (r : Reply) →
      ((w : Todo_winner) → In w ws → w.attempt.task ≡ w.task) → Some call ≡ recover_call k (x ∷ todo) at → Leads (Recovering (x ∷ todo) at) can refl taken call r
  unfolding phase_told duty_of
  recovery-next x todo (Look_below j) can taken call r own d = subst (λ c. Leads (Recovering (x ∷ todo) (Look_below j)) can refl taken c r) (sym (some-is call _ d))
      (keeps-early cfg k (Recovering (x ∷ todo) (Look_below j)) ws f read' cs can refl taken _ r refl refl cs refl (λ y. young-recover cfg k ws todo x read' cs (Look_below j) j r (λ b. taken)))
  recovery-next x todo (Measure j) can taken call r own d = subst (λ c. Leads (Recovering (x ∷ todo) (Measure j)) can refl taken c r) (sym (some-is call _ d))
      (keeps-early cfg k (Recovering (x ∷ todo) (Measure j)) ws f read' cs can refl taken _ r refl refl cs refl (λ y. young-measure cfg k ws todo x read' cs j r (λ b. taken)))
  recovery-next x todo (Clear_own j) can taken call r own d = subst (λ c. Leads (Recovering (x ∷ todo) (Clear_own j)) can refl taken c r) (sym (some-is call _ d))
      (keeps-early cfg k (Recovering (x ∷ todo) (Clear_own j)) ws f read' cs can refl taken _ r refl refl cs refl (λ y. if_cases (λ q. Taken cfg q ws read' cs) (is_cleared r) _ _ (λ e. taken) (λ e. tt)))
  recovery-next x todo (Move_from j) can taken call r own d = subst (λ c. Leads (Recovering (x ∷ todo) (Move_from j)) can refl taken c r) (sym (some-is call _ d))
      (keeps-early cfg k (Recovering (x ∷ todo) (Move_from j)) ws f read' cs can refl taken _ r refl refl (if is_fine r then more else cs) (change (is_fine r)) (λ y. then-taken (is_fine r)))
    where
      more : Calls
      more u = if same_task u x.task then task_call.Recovers x.attempt ∷ cs u else cs u

      M : read.Seen
      M = early_machine (work_at k (Recovering (x ∷ todo) (Move_from j))) f read' cs

      change : (b : Bool) → (if b then read.tell M x.task (task_call.Recovers x.attempt) else M) ≡ early_machine (work_at k (Recovering (x ∷ todo) (Move_from j))) f read' (if b then more else cs)
      change true = refl
      change false = refl

      here : x.attempt.task ≡ x.task
      here = own x (subst (In x) taken.2 (In-right x taken.1 (x ∷ todo) (inl refl)))

      then-taken : (b : Bool) → Taken cfg (if b then recover_rest k todo else Stopped) ws read' (if b then more else cs)
      then-taken true = young-rest cfg k ws todo read' more (taken.1 ++ x ∷ []) taken.0 (append_assoc taken.1 (x ∷ []) todo ∙ taken.2) (one-more x taken.1 cs here taken.3)
      then-taken false = tt

  pub early-next : (p : Phase) (can : CanBe p) (young : has_not_run p ≡ true) (taken : Taken cfg p ws read' cs) (call : Store) (r : Reply) →
      ((w : Todo_winner) → In w ws → w.attempt.task ≡ w.task) → duty_of cfg k (early_seen p ws f read') p ≡ Some call → Leads p can young taken call r
  unfolding duty_of phase_told
  early-next (Opening n) can young taken call r own d = subst (λ c. Leads (Opening n) can young taken c r) (some-is (mark_at n) call d) (opening-next n taken r refl)
  early-next Setting_up can young taken call r own d = subst (λ c. Leads Setting_up can young taken c r) (some-is _ call d)
      (keeps-early cfg k Setting_up ws f read' cs can young taken _ r refl refl cs refl (λ y. if_cases (λ q. Taken cfg q ws read' cs) (is_fine r) _ _ (λ e. young-rest cfg k ws ws read' cs [] taken.0 refl taken.1) (λ e. tt)))
  early-next (Recovering [] at) can young taken call r own d = absurd can
  early-next (Recovering (x ∷ todo) at) can young taken call r own d = recovery-next x todo at can taken call r own (sym d)
  early-next _ can young taken call r own d = absurd (false≢true young)
