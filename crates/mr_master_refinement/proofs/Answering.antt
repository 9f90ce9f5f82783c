-- An answer as a whole: what is seen after it, and what is sent for it.
use Rattle.std.proofs.Common.{ℕ, zero, suc, ◌≡◌, refl, sym, ◌∙◌, ap, Bool, true, false, ◌&&◌, not, List, [], ◌∷◌, ◌++◌, Some, None, if◌then◌else◌, is_some, append_assoc}
use Rattle.std.proofs.lemmas.Bool.{false≢true, true≢false}
use Rattle.mr_packet.specs.declared.packet.Envelope.{Envelope}
use Rattle.mr_packet.specs.declared.packet.Packet.{Packet}
use Rattle.mr_packet.specs.declared.packet.Packet.TheVariants as packet
use Rattle.mr_master_model.specs.declared.setting.Setting.{Setting}
use Rattle.mr_master_model.specs.Past.{Work}
use Rattle.mr_master_model.specs.Readings as read
use Rattle.mr_master_model.specs.Duty.{duty}
use Rattle.mr_master_model.specs.Answered.{after_answer, with_work, with_maps, changed, work_after}
use Rattle.mr_master_model.specs.Sends as sends
use Rattle.mr_master_model.specs.Sends.{answer_sends, work_sends}
use Rattle.mr_world_model.specs.Content.{bar_of}
use Rattle.mr_world_model.specs.Packets.{Config, Store, Names, Append_record, Flush, Read_history, Reply, Fine}
use Rattle.mr_world_model.specs.Hearing.{Seen, Phase, Opening, Setting_up, Recovering, Running, Committing, Failing, Finished, Stopped, Todo_winner, Move_from, List_job, Merging, Cleaning, Marking, Succeeding, Failing_mark, Aborting, is_running}
use Rattle.mr_world_model.specs.Duties.{duty_of, phase_told, told, with_phase, with_read, worked, is_fine}
use Rattle.mr_world_model.specs.Sending.{to_all, outcome_of, won_by_recovery, flush_sends, bar_sends, bar_kill, duty_sends, to_node}
use Rattle.mr_master_refinement.specs.Steps.{setting, answer_of}
use Rattle.mr_master_refinement.specs.Works.{CanBe, work_at, opening_work, named}
use Rattle.mr_master_refinement.specs.Agreement.{SetUp}
use Rattle.mr_master_refinement.proofs.Works.{runs-is}
use Rattle.mr_master_refinement.proofs.Turn.{if_cases, turn, can-after}
use Rattle.mr_master_refinement.proofs.Changes.{change_at, sends_at, changes}

pub to-all-is : (n : ℕ) (p : Packet) → sends.to_all n p ≡ to_all n p
unfolding to_all sends.to_all
to-all-is zero p = refl
to-all-is (suc n) p = ap (λ es. es ++ to_node n p ∷ []) (to-all-is n p)

-- ---- outcomes

abbrev pub is_finished : Phase → Bool
is_finished (Finished b) = true
is_finished _ = false

opening-outcome : (cfg : Config) (k n : ℕ) → sends.outcome_of (setting cfg k) (opening_work n) ≡ []
opening-outcome cfg k zero = refl
opening-outcome cfg k (suc zero) = refl
opening-outcome cfg k (suc (suc zero)) = refl
opening-outcome cfg k (suc (suc (suc n))) = refl

abbrev pub outcome_in : ℕ → Phase → List Envelope
outcome_in n (Finished b) = to_all n (packet.Outcome b)
outcome_in n _ = []

pub machine-outcome : (cfg : Config) (k : ℕ) (q : Phase) → CanBe q → sends.outcome_of (setting cfg k) (work_at k q) ≡ outcome_in cfg.nodes q
unfolding work_at
machine-outcome cfg k (Opening n) o = opening-outcome cfg k n
machine-outcome cfg k Setting_up o = refl
machine-outcome cfg k (Recovering [] at) o = absurd o
machine-outcome cfg k (Recovering (x ∷ todo) at) o = refl
machine-outcome cfg k Running o = refl
machine-outcome cfg k (Committing List_job) o = refl
machine-outcome cfg k (Committing (Merging todo)) o = refl
machine-outcome cfg k (Committing Cleaning) o = refl
machine-outcome cfg k (Committing Marking) o = refl
machine-outcome cfg k (Committing Succeeding) o = refl
machine-outcome cfg k (Committing Failing_mark) o = refl
machine-outcome cfg k (Committing Aborting) o = refl
machine-outcome cfg k (Failing f) o = refl
machine-outcome cfg k (Finished b) o = to-all-is cfg.nodes (packet.Outcome b)
machine-outcome cfg k Stopped o = refl

-- where the outcome was not told before
master-outcome : (n : ℕ) (p q : Phase) → is_finished p ≡ false → outcome_of n p q ≡ outcome_in n q
master-outcome n (Finished b) q e = absurd (true≢false e)
master-outcome n (Opening i) (Finished b) e = refl
master-outcome n (Opening i) q e = other q
  where
    other : (q : Phase) → outcome_of n (Opening i) q ≡ outcome_in n q
    other (Finished b) = refl
    other _ = refl
master-outcome n Setting_up q e = other q
  where
    other : (q : Phase) → outcome_of n Setting_up q ≡ outcome_in n q
    other (Finished b) = refl
    other _ = refl
master-outcome n (Recovering ws at) q e = other q
  where
    other : (q : Phase) → outcome_of n (Recovering ws at) q ≡ outcome_in n q
    other (Finished b) = refl
    other _ = refl
master-outcome n Running q e = other q
  where
    other : (q : Phase) → outcome_of n Running q ≡ outcome_in n q
    other (Finished b) = refl
    other _ = refl
master-outcome n (Committing at) q e = other q
  where
    other : (q : Phase) → outcome_of n (Committing at) q ≡ outcome_in n q
    other (Finished b) = refl
    other _ = refl
master-outcome n (Failing f) q e = other q
  where
    other : (q : Phase) → outcome_of n (Failing f) q ≡ outcome_in n q
    other (Finished b) = refl
    other _ = refl
master-outcome n Stopped q e = other q
  where
    other : (q : Phase) → outcome_of n Stopped q ≡ outcome_in n q
    other (Finished b) = refl
    other _ = refl

-- ---- the phase after an answer

pub told-phase : (cfg : Config) (k : ℕ) (s : Seen) (call : Store) (r : Reply) → (told cfg k s call r).phase ≡ phase_told k s s.phase call r
unfolding told
told-phase cfg k s call r = at (phase_told k s s.phase call r) (with_read cfg (if is_fine r then worked s call else s) call r)
  where
    at : (p : Phase) (u : Seen) → (with_phase p u).phase ≡ p
    at p u = if_cases (λ (x : Seen). x.phase ≡ p) (is_running p && not (is_running u.phase)) _ _ (λ t. refl) (λ t. refl)

-- ---- as a whole

module _ (cfg : Config) (k : ℕ) (s : Seen) (m : read.Seen) where
  abbrev W : Setting
  W = setting cfg k

  module _ (p : Phase) (call : Store) (r : Reply) (o : CanBe p) (w : m.work ≡ work_at k p) (u : SetUp cfg k s m p) (t : m.tail ≡ s.tail) (d : duty_of cfg k s p ≡ Some call)
      (e : duty W m ≡ named p (Some call)) where
    pub answered : after_answer W m (answer_of call r) ≡ with_work W (change_at cfg k m p call r) (work_at k (phase_told k s p call r))
    answered = (λ i. if is_some (e i) then with_work W (changed W m (answer_of call r) (w i)) (work_after W m (answer_of call r) (w i)) else m)
        ∙ (let c = changes cfg k s m p call r o d e in let n = turn cfg k s m p call r o u t d e in λ i. with_work W (c.0 i) (n i))

    pub answer-sent : answer_sends W m (answer_of call r) ≡ sends_at cfg k m p call r ++ sends.outcome_of W (work_at k (phase_told k s p call r))
    answer-sent = (λ i. if is_some (e i) then work_sends W m (answer_of call r) (w i) ++ sends.outcome_of W (work_after W m (answer_of call r) (w i)) else [])
        ∙ (let c = changes cfg k s m p call r o d e in let n = turn cfg k s m p call r o u t d e in λ i. c.1 i ++ sends.outcome_of W (n i))

    -- what is sent is what the cluster's master sends, if what Running and Failing send for the duty itself is
    pub sent-is : s.phase ≡ p → sends_at cfg k m p call r ≡ won_by_recovery cfg.nodes p r ++ (flush_sends cfg.nodes s call r ++ bar_sends s call r) → is_finished p ≡ false →
        answer_sends W m (answer_of call r) ≡ duty_sends cfg s (told cfg k s call r) call r
    sent-is q own f =
        answer-sent
        ∙ ((let x = machine-outcome cfg k (phase_told k s p call r) (can-after k s p call r o) in λ i. own i ++ x i)
        ∙ (three (won_by_recovery cfg.nodes p r) (flush_sends cfg.nodes s call r) (bar_sends s call r) (outcome_in cfg.nodes (phase_told k s p call r))
        ∙ last))
      where
        three : (a b c d : List Envelope) → (a ++ (b ++ c)) ++ d ≡ a ++ (b ++ (c ++ d))
        three a b c d = append_assoc a (b ++ c) d ∙ ap (λ x. a ++ x) (append_assoc b c d)

        phase : (told cfg k s call r).phase ≡ phase_told k s p call r
        phase = told-phase cfg k s call r ∙ ap (λ z. phase_told k s z call r) q

        last : won_by_recovery cfg.nodes p r ++ (flush_sends cfg.nodes s call r ++ (bar_sends s call r ++ outcome_in cfg.nodes (phase_told k s p call r)))
            ≡ duty_sends cfg s (told cfg k s call r) call r
        last = (λ i. won_by_recovery cfg.nodes (sym q i) r ++ (flush_sends cfg.nodes s call r ++ (bar_sends s call r ++ sym (master-outcome cfg.nodes p (phase_told k s p call r) f) i)))
            ∙ (λ i. won_by_recovery cfg.nodes s.phase r ++ (flush_sends cfg.nodes s call r ++ (bar_sends s call r ++ outcome_of cfg.nodes (sym q i) (sym phase i))))

-- where it neither flushes nor bars
abbrev pub Plain : Store → Type 0
Plain (Names op) = bar_of op ≡ None
Plain Read_history = Unit {0}
Plain Flush = ⊥
Plain (Append_record x) = Unit {0}

pub plain-sends : (n : ℕ) (s : Seen) (call : Store) (r : Reply) → Plain call → flush_sends n s call r ++ bar_sends s call r ≡ []
plain-sends n s (Names op) Fine o = ap (λ b. bar_kill s b) o
plain-sends n s (Names op) r o = other r
  where
    other : (r : Reply) → flush_sends n s (Names op) r ++ bar_sends s (Names op) r ≡ []
    other Fine = ap (λ b. bar_kill s b) o
    other _ = refl
plain-sends n s Read_history r o = refl
plain-sends n s Flush r o = absurd o
plain-sends n s (Append_record x) r o = refl

-- a recovery's win
pub recovery-sends : (cfg : Config) (k : ℕ) (m : read.Seen) (x : Todo_winner) (todo : List Todo_winner) (j : ℕ) (call : Store) (r : Reply) →
    sends_at cfg k m (Recovering (x ∷ todo) (Move_from j)) call r ≡ won_by_recovery cfg.nodes (Recovering (x ∷ todo) (Move_from j)) r
recovery-sends cfg k m x todo j call Fine = to-all-is cfg.nodes (packet.Won x.task x.attempt)
recovery-sends cfg k m x todo j call _ = refl

-- ---- not started: no map is taken over

pub not-started : (cfg : Config) (k : ℕ) (x : read.Seen) (q : Phase) → CanBe q → is_running q ≡ false → with_work (setting cfg k) x (work_at k q) ≡ record x { work = work_at k q }
not-started cfg k x q o f =
    ap (λ (b : Bool). (record (if b && not (read.is_running x.work) then with_maps (setting cfg k) x else x) { work = work_at k q })) (runs-is k q o ∙ f)

pub runs-on : (cfg : Config) (k : ℕ) (x : read.Seen) (w : Work) → read.is_running x.work ≡ true → with_work (setting cfg k) x w ≡ record x { work = w }
runs-on cfg k x w e = by (read.is_running w) (read.is_running x.work) e
  where
    by : (b c : Bool) → c ≡ true → record (if b && not c then with_maps (setting cfg k) x else x) { work = w } ≡ record x { work = w }
    by true true e = refl
    by false c e = refl
    by true false e = absurd (false≢true e)
