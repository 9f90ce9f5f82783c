-- What is sent for an answer, and for a launch: a machine that stands with its master sends the same.
use Rattle.std.proofs.Common.{ℕ, ◌≡◌, refl, sym, ◌∙◌, ap, subst, Bool, true, false, List, [], ◌∷◌, ◌++◌, append-nil, Option, Some, None, if◌then◌else◌, is_none}
use Rattle.std.specs.List.{find}
use Rattle.std.specs.Option.{option_map}
use Rattle.std.proofs.lemmas.Bool.{true≢false}
use Rattle.mr_ids.specs.Attempt.{Attempt}
use Rattle.mr_packet.specs.declared.packet.Envelope.{Envelope}
use Rattle.mr_packet.specs.declared.packet.Packet.{Packet}
use Rattle.mr_packet.specs.declared.packet.Packet.TheVariants as packet
use Rattle.mr_packet.specs.Sends.{to_node}
use Rattle.mr_master_model.specs.declared.setting.Setting.{Setting}
use Rattle.mr_master_model.specs.Readings as read
use Rattle.mr_master_model.specs.Hearing as hears
use Rattle.mr_master_model.specs.Sends as sends
use Rattle.mr_master_model.specs.Next as next
use Rattle.mr_world_model.specs.Ids.{temporary, commit_started}
use Rattle.mr_world_model.specs.Content.{Create, Delete, Bar}
use Rattle.mr_world_model.specs.Packets.{Config, Store, Names, Append_record, Flush, Read_history, Reply, Fine}
use Rattle.mr_world_model.specs.Hearing.{Seen, Phase, Opening, Setting_up, Recovering, Running, Committing, Failing, Finished, Stopped, Commit_step, Launched, is_running, find_launched}
use Rattle.mr_world_model.specs.Duties.{Master_step, Came, Launches, Asks, seen, next_seen, is_fine, duty_of, first_bar}
use Rattle.mr_world_model.specs.Sending.{step_sends, replies, won_by_recovery, flush_each, flush_sends, bar_sends, bar_kill, kill_to, is_failing}
use Rattle.mr_world_model.specs.Claims.{has_not_run}
use Rattle.mr_world_model.specs.Made.{IsMade, AllMade}
use Rattle.mr_master_refinement.specs.Steps.{setting, step_of}
use Rattle.mr_master_refinement.specs.Works.{CanBe, named}
use Rattle.mr_master_refinement.specs.Agreement.{SetUp}
use Rattle.mr_master_refinement.specs.Points.{launch_as}
use Rattle.mr_master_refinement.specs.Holds.{Holds}
use Rattle.mr_master_refinement.proofs.Works.{runs-is}
use Rattle.mr_master_refinement.proofs.Turn.{at-running, at-failing}
use Rattle.mr_master_refinement.proofs.Changes.{sends_at}
use Rattle.mr_master_refinement.proofs.Answering.{is_finished, sent-is, Plain, plain-sends}
use Rattle.mr_master_refinement.proofs.Points.{point, bars-at}
use Rattle.mr_master_refinement.proofs.Launches.{AllAlike, found}
use Rattle.mr_master_refinement.proofs.Keeps.{refused-none, attempt-is, launched-is}
use Rattle.mr_master_refinement.proofs.Late.{NoBar, commit-plain}
use Rattle.mr_master_refinement.proofs.Replies.{first-due}
use Rattle.mr_master_refinement.proofs.Flushing.{flush-sent}
use Rattle.mr_master_refinement.proofs.Falling.{Falls}

no-bar : (call : Store) → NoBar call → Plain call
no-bar (Names op) o = o
no-bar (Append_record x) o = absurd o
no-bar Flush o = absurd o
no-bar Read_history o = absurd o

late-set : (cfg : Config) (k : ℕ) (s : Seen) (m : read.Seen) (p : Phase) → has_not_run p ≡ false → SetUp cfg k s m p
late-set cfg k s m Setting_up y = absurd (true≢false y)
late-set cfg k s m (Opening n) y = tt
late-set cfg k s m (Recovering ws at) y = tt
late-set cfg k s m Running y = tt
late-set cfg k s m (Committing at) y = tt
late-set cfg k s m (Failing f) y = tt
late-set cfg k s m (Finished b) y = tt
late-set cfg k s m Stopped y = tt

module _ (cfg : Config) (k : ℕ) (h : List Master_step) (m : read.Seen) (made : AllMade cfg k h) (o : Holds cfg k h m) where
  abbrev W : Setting
  W = setting cfg k

  abbrev S : Seen
  S = seen cfg k h

  -- what is sent for the call itself
  abbrev Own : Phase → Store → Reply → Type 0
  Own p call r = sends_at cfg k m p call r ≡ won_by_recovery cfg.nodes p r ++ (flush_sends cfg.nodes S call r ++ bar_sends S call r)

  abbrev none : List Envelope
  none = []

  nothing : (call : Store) (r : Reply) → Plain call → (if is_fine r then none else none) ≡ flush_sends cfg.nodes S call r ++ bar_sends S call r
  nothing call r p = by (is_fine r) ∙ sym (plain-sends cfg.nodes S call r p)
    where
      by : (b : Bool) → (if b then none else none) ≡ none
      by true = refl
      by false = refl

  flushed : AllAlike cfg k h m → (r : Reply) → (if is_fine r then sends.flush_sends W m m.tail else []) ≡ flush_sends cfg.nodes S Flush r ++ bar_sends S Flush r
  flushed alike Fine = flush-sent cfg k h m made o.launched alike o.stands.tail ∙ sym (append-nil (flush_each cfg.nodes S S.tail))
  flushed alike r = other r
    where
      other : (r : Reply) → (if is_fine r then sends.flush_sends W m m.tail else []) ≡ flush_sends cfg.nodes S Flush r ++ bar_sends S Flush r
      other Fine = flush-sent cfg k h m made o.launched alike o.stands.tail ∙ sym (append-nil (flush_each cfg.nodes S S.tail))
      other _ = refl

  barred : (run : is_running S.phase ≡ true) (a : Attempt) → first_bar S S.bars ≡ Some a → (r : Reply) →
      (if is_fine r then sends.bar_sends W m (find (read.is_live W m) m.bars) else []) ≡ flush_sends cfg.nodes S (Names (Bar a)) r ++ bar_sends S (Names (Bar a)) r
  barred run a e r = by r
    where
      kill : (f : Option Launched) → sends.kill_at (option_map launch_as f) ≡ kill_to f
      kill None = refl
      kill (Some l) = refl

      fine : sends.bar_sends W m (find (read.is_live W m) m.bars) ≡ bar_kill S (Some a)
      fine = ap (sends.bar_sends W m) (bars-at cfg k h m made o.stands run ∙ e) ∙ (ap (λ f. sends.kill_at f) ((found cfg k h m made o run).launch a) ∙ kill (find_launched S.launched a))

      by : (r : Reply) → (if is_fine r then sends.bar_sends W m (find (read.is_live W m) m.bars) else []) ≡ flush_sends cfg.nodes S (Names (Bar a)) r ++ bar_sends S (Names (Bar a)) r
      by Fine = fine
      by _ = refl

  own-running : (run : is_running S.phase ≡ true) (call : Store) (r : Reply) → duty_of cfg k S Running ≡ Some call → Own Running call r
  own-running run call r d = at-running (λ c. duty_of cfg k S Running ≡ Some c → Own Running c r)
      (λ x d. nothing (Append_record x) r tt) (λ d. flushed (o.stands.tasks run) r) (λ a d. barred run a (first-due cfg k S a d) r) (λ d. nothing (Names (Create commit_started true)) r refl) cfg k S call d d

  own-failing : (f : Bool) → AllAlike cfg k h m → (call : Store) (r : Reply) → duty_of cfg k S (Failing f) ≡ Some call → Own (Failing f) call r
  own-failing f alike call r d = at-failing (λ c. Own (Failing f) c r) (λ x. nothing (Append_record x) r tt) (flushed alike r) (nothing (Names (Delete temporary)) r refl) cfg k S f call d

  own-committing : (at : Commit_step) → is_running S.phase ≡ false → CanBe (Committing at) → (call : Store) (r : Reply) → duty_of cfg k S (Committing at) ≡ Some call → Own (Committing at) call r
  unfolding duty_of
  own-committing at idle can call r d = sym (plain-sends cfg.nodes S call r (no-bar call (commit-plain k at call can d)))

  -- ---- an answer, once it has run or never will

  own-late : Falls cfg k h m → (call : Store) (r : Reply) → has_not_run S.phase ≡ false → (p : Phase) → S.phase ≡ p → duty_of cfg k S p ≡ Some call → Own p call r × (is_finished p ≡ false)
  unfolding duty_of
  own-late falls call r late (Opening n) e d = absurd (true≢false (ap (λ q. has_not_run q) (sym e) ∙ late))
  own-late falls call r late Setting_up e d = absurd (true≢false (ap (λ q. has_not_run q) (sym e) ∙ late))
  own-late falls call r late (Recovering ws at) e d = absurd (true≢false (ap (λ q. has_not_run q) (sym e) ∙ late))
  own-late falls call r late Running e d = (own-running (ap (λ q. is_running q) e) call r d, refl)
  own-late falls call r late (Committing at) e d = (own-committing at (ap (λ q. is_running q) e) (subst CanBe e o.stands.can) call r d, refl)
  own-late falls call r late (Failing f) e d = (own-failing f (falls (ap (λ q. is_failing q) e)) call r d, refl)
  own-late falls call r late (Finished b) e d = cc
  own-late falls call r late Stopped e d = cc

  pub asks-sent : Falls cfg k h m → has_not_run S.phase ≡ false → (call : Store) (r : Reply) → duty_of cfg k S S.phase ≡ Some call →
      next.sent_by W m (step_of (Asks call r)) ≡ step_sends cfg S (next_seen cfg k S (Asks call r)) (Asks call r)
  unfolding next.sent_by next_seen
  asks-sent falls late call r d =
      let own = own-late falls call r late S.phase refl d in
      sent-is cfg k S m S.phase call r o.stands.can o.stands.work (late-set cfg k S m S.phase late) o.stands.tail d ((point cfg k h m made o.stands).duty ∙ ap (named S.phase) d) refl own.0 own.1

  -- ---- a launch

  pub launch-sent : (run : is_running S.phase ≡ true) (l : Launched) (u : IsMade cfg k S (Launches l)) → next.sent_by W m (step_of (Launches l)) ≡ step_sends cfg S (next_seen cfg k S (Launches l)) (Launches l)
  unfolding next.sent_by
  launch-sent run l u =
      (λ i. if is_none (refused-none cfg k h m made o run l u i) then to_node l.node (packet.Launch (read.launched_as W m l.node).container (read.next_attempt W m l.attempt.task) (read.launched_as W m l.node).incarnation) ∷ [] else [])
      ∙ (λ i. to_node l.node (packet.Launch (launched-is cfg k h m made o run l u i).container (attempt-is cfg k h m made o run l u i) (launched-is cfg k h m made o run l u i).incarnation) ∷ [])

  -- ---- a packet that comes while it does not run

  pub idle-sent : is_running S.phase ≡ false → (p : Packet) → next.sent_by W m (step_of (Came p)) ≡ step_sends cfg S (next_seen cfg k S (Came p)) (Came p)
  unfolding next.sent_by
  idle-sent idle p =
      (let still = ap read.is_running o.stands.work ∙ (runs-is k S.phase o.stands.can ∙ idle) in λ i. if still i then sends.replies W m (hears.heard W m p) p else [])
      ∙ (λ i. if sym idle i then replies S (next_seen cfg k S (Came p)) p else [])
