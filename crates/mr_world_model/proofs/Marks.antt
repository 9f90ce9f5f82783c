-- The mark of a begun commit against the phase of the newest master, and so that a quiet world's master makes no loud call.
use Rattle.std.proofs.Common.{ℕ, zero, suc, ◌≡◌, refl, sym, ◌∙◌, ap, subst, Bool, true, false, ◌||◌, List, [], ◌∷◌, Option, Some, None, if◌then◌else◌, is_some, is_none, ◌⊎◌, inl, inr, arith}
use Rattle.std.proofs.lemmas.Bool.{false≢true, true≢false}
use Rattle.mr_world_model.specs.Ids.{Attempt, commit_started}
use Rattle.mr_world_model.specs.Records.{Record, JobUnsuccessful, AttemptFailed, AttemptStarted, ReduceSucceeded, MapSucceeded, records_below}
use Rattle.mr_world_model.specs.Packets.{Config, Store, Reply, Names, Append_record, Flush, Read_history, Found, Records}
use Rattle.mr_world_model.specs.Content.{Content, Entry, File, entry_at, left, Op, Create, Exist, Bar, bar_of, option_kind}
use Rattle.mr_world_model.specs.Hearing.{Seen, Phase, Opening, Setting_up, Recovering, Running, Committing, Failing, Finished, Stopped, List_job, is_running}
use Rattle.mr_world_model.specs.Duties.{Master_step, Came, Launches, Expires, Asks, bar_call, first_bar, next_seen, is_fine, is_cleared, is_read, phase_told, was_read, looked, is_unsuccessful, running, failing, duty_of, records_of}
use Rattle.mr_world_model.specs.World.{duty, reply_of, reply_under, World, Event, seen_by}
use Rattle.mr_world_model.specs.Effect.{effect, not_now}
use Rattle.mr_world_model.specs.Claims.{In}
use Rattle.mr_world_model.proofs.Basic.{if_cases}
use Rattle.mr_world_model.proofs.Lists.{In-left, In-right, In-parts}
use Rattle.mr_world_model.proofs.Masters.{came-phase, told-phase, launches-phase, expires-phase}
use Rattle.mr_world_model.proofs.Phases.{ReadFits}
use Rattle.mr_world_model.proofs.Allowed.{read-replies}
use Rattle.mr_world_model.proofs.Mild.{Mild, failing-bad, is_bad, running-not-bad, Clean}
use Rattle.mr_world_model.proofs.Regions.{AwayFrom, away-same, Leaves, did, made-left, Answered, good, no, lost, answered, is_loud}
use Rattle.mr_world_model.proofs.Regions
use Rattle.mr_world_model.proofs.Paths.{put-same}
use Rattle.mr_world_model.proofs.Steps.{Case, still, hears, asks, calls, starts, case_of, newest, IsHeard}
use Rattle.mr_world_model.proofs.Dirs.{Known, R, calls-away}
use Rattle.mr_world_model.proofs.Grows.{records_extend}
use Rattle.mr_world_model.proofs.Basic.{Extends}
use Rattle.mr_world_model.proofs.Told.{fine-applied, called_at}
use Rattle.mr_world_model.specs.Claims.{records, IsQuiet}
use Rattle.mr_world_model.specs.Duties.{mark_at, record_call, all_won, wants_flush}
use Rattle.mr_world_model.specs.World.{Weather, Calm, call_of, own_reply, is_applied}
use Rattle.mr_world_model.specs.Effect.{content_after}
pub use Rattle.mr_world_model.proofs.Reaching.{Started, Reaches, CallReaches, mark-reaches, record-reaches, bar-reaches, recover-reaches, ours-away, merge-reaches, commit-reaches, duty-reaches, is_settled, may_run, refused-settled, merging-settled, committing-settled, rest-runs, recovering-runs}

-- What a phase says of the mark, s being what is there, and of the record of failure

abbrev pub StartPhase : Option Entry → Phase → Type 0
StartPhase s (Opening zero) = Unit {0}
StartPhase s (Opening (suc zero)) = Unit {0}
StartPhase s (Opening (suc (suc zero))) = Unit {0}
StartPhase s (Opening (suc (suc (suc n)))) = s ≡ None
StartPhase s Setting_up = s ≡ None
StartPhase s (Recovering ws at) = s ≡ None
StartPhase s Running = s ≡ None
StartPhase s (Failing f) = s ≡ None
StartPhase s (Committing at) = is_none s ≡ false
StartPhase s (Finished b) = Unit {0}
StartPhase s Stopped = Unit {0}

abbrev pub FailPhase : List Record → Phase → Type 0
FailPhase rs (Failing true) = In JobUnsuccessful rs
FailPhase rs (Failing false) = Unit {0}
FailPhase rs (Opening n) = Unit {0}
FailPhase rs Setting_up = Unit {0}
FailPhase rs (Recovering ws at) = Unit {0}
FailPhase rs Running = Unit {0}
FailPhase rs (Committing at) = Unit {0}
FailPhase rs (Finished b) = Unit {0}
FailPhase rs Stopped = Unit {0}

settled-start : (s : Option Entry) (p : Phase) → is_settled p ≡ true → is_none s ≡ false → StartPhase s p
settled-start s (Committing at) e n = n
settled-start s (Finished b) e n = tt
settled-start s Stopped e n = tt
settled-start s p e n = absurd (false≢true e)

runs-start : (s : Option Entry) (p : Phase) → may_run p ≡ true → s ≡ None → StartPhase s p
runs-start s (Recovering ws at) e n = n
runs-start s Running e n = n
runs-start s Stopped e n = tt
runs-start s p e n = absurd (false≢true e)

bad-start : (s : Option Entry) (p : Phase) → is_bad p ≡ true → s ≡ None → StartPhase s p
bad-start s (Failing f) e n = n
bad-start s (Finished b) e n = tt
bad-start s Stopped e n = tt
bad-start s p e n = absurd (false≢true e)

settled-fail : (rs : List Record) (p : Phase) → is_settled p ≡ true → FailPhase rs p
settled-fail rs (Committing at) e = tt
settled-fail rs (Finished b) e = tt
settled-fail rs Stopped e = tt
settled-fail rs p e = absurd (false≢true e)

runs-fail : (rs : List Record) (p : Phase) → may_run p ≡ true → FailPhase rs p
runs-fail rs (Recovering ws at) e = tt
runs-fail rs Running e = tt
runs-fail rs Stopped e = tt
runs-fail rs p e = absurd (false≢true e)

pub unsuccessful-In : (rs : List Record) → is_unsuccessful rs ≡ true → In JobUnsuccessful rs
unsuccessful-In [] e = absurd (false≢true e)
unsuccessful-In (JobUnsuccessful ∷ rs) e = inl refl
unsuccessful-In (AttemptStarted a n ∷ rs) e = inr (unsuccessful-In rs e)
unsuccessful-In (MapSucceeded a n i ∷ rs) e = inr (unsuccessful-In rs e)
unsuccessful-In (ReduceSucceeded a z ∷ rs) e = inr (unsuccessful-In rs e)
unsuccessful-In (AttemptFailed a ∷ rs) e = inr (unsuccessful-In rs e)

pub In-unsuccessful : (rs : List Record) → In JobUnsuccessful rs → is_unsuccessful rs ≡ true
In-unsuccessful [] i = absurd i
In-unsuccessful (JobUnsuccessful ∷ rs) i = refl
In-unsuccessful (AttemptStarted a n ∷ rs) (inl e) = cc
In-unsuccessful (MapSucceeded a n j ∷ rs) (inl e) = cc
In-unsuccessful (ReduceSucceeded a z ∷ rs) (inl e) = cc
In-unsuccessful (AttemptFailed a ∷ rs) (inl e) = cc
In-unsuccessful (AttemptStarted a n ∷ rs) (inr i) = In-unsuccessful rs i
In-unsuccessful (MapSucceeded a n j ∷ rs) (inr i) = In-unsuccessful rs i
In-unsuccessful (ReduceSucceeded a z ∷ rs) (inr i) = In-unsuccessful rs i
In-unsuccessful (AttemptFailed a ∷ rs) (inr i) = In-unsuccessful rs i

pub record Marks (cfg : Config) (w : World) : Type 0 where
  pub start : StartPhase (Started w) (newest cfg w).phase
  pub fail : FailPhase (records w) (newest cfg w).phase

-- a quiet world's master makes no loud call
pub quiet-not-loud : (cfg : Config) (w : World) → Marks cfg w → IsQuiet w → is_loud (newest cfg w).phase ≡ false
quiet-not-loud cfg w m q = by (newest cfg w).phase m.start m.fail
  where
    by : (p : Phase) → StartPhase (Started w) p → FailPhase (records w) p → is_loud p ≡ false
    by (Committing at) s f = absurd (true≢false (sym (rw q.not_started refl) ∙ s))
    by (Failing true) s f = absurd (q.not_unsuccessful f)
    by (Failing false) s f = refl
    by (Opening n) s f = refl
    by Setting_up s f = refl
    by (Recovering ws at) s f = refl
    by Running s f = refl
    by (Finished b) s f = refl
    by Stopped s f = refl

-- a master that runs is in a quiet world
pub running-quiet : (cfg : Config) (w : World) → Marks cfg w → Mild cfg w → is_running (newest cfg w).phase ≡ true → IsQuiet w
unfolding records_below
running-quiet cfg w m d r = record { not_started = by (newest cfg w).phase r m.start; not_unsuccessful = λ i. no_record (In-parts _ (R w) (w.history w.fence).stable i) }
  where
    by : (p : Phase) → is_running p ≡ true → StartPhase (Started w) p → Started w ≡ None
    by Running e s = s
    by p e s = absurd (false≢true e)

    cl : (p : Phase) → is_running p ≡ true → Clean (is_unsuccessful (R w)) p → is_unsuccessful (R w) ≡ false
    cl Running e s = s
    cl p e s = absurd (false≢true e)

    no_record : In JobUnsuccessful (R w) ⊎ In JobUnsuccessful (w.history w.fence).stable → ⊥
    no_record (inl i) = true≢false (sym (In-unsuccessful (R w) i) ∙ cl (newest cfg w).phase r (d.clean w.fence (omega arith)))
    no_record (inr i) = running-not-bad (newest cfg w).phase r (d.stored w.fence (In-left _ (w.history w.fence).stable (w.history w.fence).tail i))

abbrev RunCall : Option Store → Type 0
RunCall None = Unit {0}
RunCall (Some (Names op)) = (op ≡ Create commit_started true) ⊎ ((a : Attempt) × (op ≡ Bar a))
RunCall (Some (Append_record r)) = Unit {0}
RunCall (Some Flush) = Unit {0}
RunCall (Some Read_history) = Unit {0}

run-record : (due tail : List Record) (o : Option Store) → RunCall o → RunCall (record_call due tail o)
run-record (r ∷ due) tail o q = tt
run-record [] tail o q = if_cases RunCall (wants_flush tail) _ _ (λ t. tt) (λ t. q)

run-bar : (m : Option Attempt) (o : Option Store) → RunCall o → RunCall (bar_call m o)
run-bar None o q = q
run-bar (Some a) o q = inr (a, refl)

run-call : (cfg : Config) (k : ℕ) (s : Seen) → RunCall (duty_of cfg k s Running)
unfolding duty_of
run-call cfg k s = run-bar (first_bar s s.bars) _ (run-record s.due s.tail _ (if_cases RunCall (all_won s.recorded s.winners cfg.job cfg.reduces) _ _ (λ t. inl refl) (λ t. tt)))

pub opening-call : (cfg : Config) (k : ℕ) (s : Seen) (i : ℕ) (call : Store) → duty_of cfg k s (Opening i) ≡ Some call → mark_at i ≡ call
unfolding duty_of
opening-call cfg k s i call d = cc

module _ (cfg : Config) (w : World) (e : Event) (kn : Known cfg w) (md : Mild cfg w) (m : Marks cfg w) (n : not_now cfg w e ≡ None) where
  abbrev S' : Option Entry
  S' = Started (effect cfg w e)

  at-mark : (op : Op) → AwayFrom op commit_started → entry_at (left w.content op) commit_started ≡ Started w
  at-mark op a = away-same w.content op commit_started a []

  call-started : (call : Store) (g : Weather) → duty cfg w w.fence ≡ Some call → (effect cfg w e).content ≡ content_after w (Some (record { app = w.fence; call = call; fault = g })) → is_running (newest cfg w).phase ≡ false → S' ≡ Started w
  call-started call g du c nr = ap (λ z. entry_at z commit_started) c ∙ by (made-left w w.fence call g)
    where
      by : Leaves w.content call (content_after w (Some (record { app = w.fence; call = call; fault = g }))) → entry_at (content_after w (Some (record { app = w.fence; call = call; fault = g }))) commit_started ≡ Started w
      by (Regions.same q) = ap (λ z. entry_at z commit_started) q
      by (did op q ok l) = ap (λ z. entry_at z commit_started) l ∙ reach (subst (CallReaches (newest cfg w).phase) (du ∙ ap Some q) (duty-reaches cfg w.fence (newest cfg w) (newest cfg w).phase (md.ours w.fence)))
        where
          reach : Reaches (newest cfg w).phase op → entry_at (left w.content op) commit_started ≡ Started w
          reach (inl a) = at-mark op a
          reach (inr a) = absurd (false≢true (sym nr ∙ subst (λ z. is_running z ≡ true) (sym a.0) refl))

  look-start : (r : Reply) → StartPhase S' (looked 0 r) × StartPhase S' (looked 1 r)
  look-start (Found (Some k)) = (tt, tt)
  look-start (Found None) = (tt, tt)
  look-start _ = (tt, tt)

  found-start : (o : Option Entry) → Started w ≡ o → S' ≡ Started w → StartPhase S' (looked 2 (Found (option_kind o)))
  found-start None q s = s ∙ q
  found-start (Some x) q s = tt

  third-start : (c' : Content) (r : Reply) → S' ≡ Started w → Answered w.content (Exist commit_started) c' r → StartPhase S' (looked 2 r)
  third-start c' _ s (good ok l) = found-start (Started w) refl s
  third-start c' _ s (no f l) = tt
  third-start c' _ s lost = tt

  read-start : (r : Reply) → S' ≡ None → StartPhase S' (was_read r)
  read-start (Records rs) s = if_cases (StartPhase S') (is_unsuccessful rs) _ _ (λ t. s) (λ t. s)
  read-start _ s = tt

  create-start : (c' : Content) (r : Reply) → (effect cfg w e).content ≡ c' → Answered w.content (Create commit_started true) c' r → StartPhase S' (if is_fine r then Committing List_job else Stopped)
  unfolding left
  create-start c' _ c (good ok l) = rw (ap (λ z. entry_at z commit_started) (c ∙ l) ∙ put-same w.content commit_started (File [] true)) refl
  create-start c' _ c (no f l) = tt
  create-start c' _ c lost = tt

  asks-start : (p : Phase) (call : Store) (g : Weather) → (newest cfg w).phase ≡ p → duty_of cfg w.fence (newest cfg w) p ≡ Some call → (effect cfg w e).content ≡ content_after w (Some (record { app = w.fence; call = call; fault = g })) →
      StartPhase (Started w) p → StartPhase S' (phase_told w.fence (newest cfg w) p call (reply_under g (reply_of w w.fence call)))
  unfolding phase_told left
  asks-start p call g ph du c s = by p ph du s
    where
      r : Reply
      r = reply_under g (reply_of w w.fence call)

      du0 : (p : Phase) → (newest cfg w).phase ≡ p → duty_of cfg w.fence (newest cfg w) p ≡ Some call → duty cfg w w.fence ≡ Some call
      du0 p z d = subst (λ q. duty_of cfg w.fence (newest cfg w) q ≡ Some call) (sym z) d

      same : (p : Phase) → (newest cfg w).phase ≡ p → duty_of cfg w.fence (newest cfg w) p ≡ Some call → is_running p ≡ false → S' ≡ Started w
      same p z d f = call-started call g (du0 p z d) c (subst (λ q. is_running q ≡ false) (sym z) f)

      mark : (i : ℕ) → (newest cfg w).phase ≡ Opening i → duty_of cfg w.fence (newest cfg w) (Opening i) ≡ Some call → mark_at i ≡ call → StartPhase (Started w) (Opening i) → StartPhase S' (if is_read call then was_read r else looked i r)
      mark zero z d f s = subst (λ q. StartPhase S' (if is_read q then was_read r else looked 0 r)) f (look-start r).0
      mark (suc zero) z d f s = subst (λ q. StartPhase S' (if is_read q then was_read r else looked 1 r)) f (look-start r).1
      mark (suc (suc zero)) z d f s = subst (λ q. StartPhase S' (if is_read q then was_read r else looked 2 r)) f
          (third-start _ r (same (Opening 2) z d refl) (subst (λ y. Answered w.content (Exist commit_started) (content_after w (Some (record { app = w.fence; call = y; fault = g }))) (reply_under g (reply_of w w.fence y))) f (answered w w.fence (Exist commit_started) g)))
      mark (suc (suc (suc i))) z d f s = subst (λ q. StartPhase S' (if is_read q then was_read r else looked (suc (suc (suc i))) r)) f (read-start r (same (Opening (suc (suc (suc i)))) z d refl ∙ s))

      some-is : (x y : Store) → Some x ≡ Some y → x ≡ y
      some-is x y q = cc

      run : (call2 : Store) → call ≡ call2 → RunCall (Some call2) → Started w ≡ None → StartPhase S' (running (newest cfg w).tail call2 r)
      run (Names op) q (inl f) s = let cr : call ≡ Names (Create commit_started true) = q ∙ ap Names f in subst (λ o. StartPhase S' (running (newest cfg w).tail (Names o) r)) (sym f) (create-start _ r c
          (subst (λ y. Answered w.content (Create commit_started true) (content_after w (Some (record { app = w.fence; call = y; fault = g }))) (reply_under g (reply_of w w.fence y))) (sym cr) (answered w w.fence (Create commit_started true) g)))
      run (Names op) q (inr f) s = subst (λ o. StartPhase S' (running (newest cfg w).tail (Names o) r)) (sym f.1) (if_cases (StartPhase S') (is_fine r) _ _ (λ t. barring ∙ s) (λ t. tt))
        where
          barring : S' ≡ Started w
          barring = ap (λ z. entry_at z commit_started) c ∙ lv (made-left w w.fence call g)
            where
              lv : Leaves w.content call (content_after w (Some (record { app = w.fence; call = call; fault = g }))) → entry_at (content_after w (Some (record { app = w.fence; call = call; fault = g }))) commit_started ≡ Started w
              lv (Regions.same u) = ap (λ z. entry_at z commit_started) u
              lv (did op2 u ok l) = let v : Names op ≡ Names op2 = sym q ∙ u in let x : op ≡ op2 = cc in ap (λ z. entry_at z commit_started) (l ∙ ap (left w.content) (sym x ∙ f.1))
      run (Append_record x) q f s = if_cases (StartPhase S') (is_fine r) _ _ (λ t. still-there (λ op u. let v = sym q ∙ u in cc) ∙ s) (λ t. tt)
        where
          still-there : ((op : Op) → call ≡ Names op → ⊥) → S' ≡ Started w
          still-there no_op = ap (λ z. entry_at z commit_started) c ∙ lv (made-left w w.fence call g)
            where
              lv : Leaves w.content call (content_after w (Some (record { app = w.fence; call = call; fault = g }))) → entry_at (content_after w (Some (record { app = w.fence; call = call; fault = g }))) commit_started ≡ Started w
              lv (Regions.same q) = ap (λ z. entry_at z commit_started) q
              lv (did op q ok l) = absurd (no_op op q)
      run Flush q f s = if_cases (StartPhase S') (is_fine r) _ _ (λ t. still-there (λ op u. let v = sym q ∙ u in cc) ∙ s) (λ t. tt)
        where
          still-there : ((op : Op) → call ≡ Names op → ⊥) → S' ≡ Started w
          still-there no_op = ap (λ z. entry_at z commit_started) c ∙ lv (made-left w w.fence call g)
            where
              lv : Leaves w.content call (content_after w (Some (record { app = w.fence; call = call; fault = g }))) → entry_at (content_after w (Some (record { app = w.fence; call = call; fault = g }))) commit_started ≡ Started w
              lv (Regions.same q) = ap (λ z. entry_at z commit_started) q
              lv (did op q ok l) = absurd (no_op op q)
      run Read_history q f s = tt

      by : (p : Phase) → (newest cfg w).phase ≡ p → duty_of cfg w.fence (newest cfg w) p ≡ Some call → StartPhase (Started w) p → StartPhase S' (phase_told w.fence (newest cfg w) p call r)
      by (Opening i) z d s = mark i z d (opens i d) s
        where
          opens : (i : ℕ) → duty_of cfg w.fence (newest cfg w) (Opening i) ≡ Some call → mark_at i ≡ call
          opens i d = opening-call cfg w.fence (newest cfg w) i call d
      by Setting_up z d s = runs-start S' _ (if_cases (λ q. may_run q ≡ true) (is_fine r) _ _ (λ t. rest-runs w.fence (newest cfg w).winners) (λ t. refl)) (same Setting_up z d refl ∙ s)
      by (Recovering ws at) z d s = runs-start S' _ (recovering-runs w.fence ws at r) (same (Recovering ws at) z d refl ∙ s)
      by Running z d s = run call refl (subst RunCall d (run-call cfg w.fence (newest cfg w))) s
      by (Failing f) z d s = bad-start S' _ (failing-bad f (newest cfg w).tail call r) (same (Failing f) z d refl ∙ s)
      by (Committing at) z d s = settled-start S' _ (committing-settled w.fence at r) (subst (λ o. is_none o ≡ false) (sym (same (Committing at) z d refl)) s)
      by (Finished b) z d s = tt
      by Stopped z d s = tt

  hears-start : (x : Master_step) → IsHeard x → S' ≡ Started w → StartPhase S' (next_seen cfg w.fence (newest cfg w) x).phase
  hears-start (Came p) i s = by (came-phase cfg w.fence (newest cfg w) p)
    where
      fails : (q : Phase) → StartPhase S' q → is_running q ≡ true → S' ≡ None
      fails Running o t = o
      fails q o t = absurd (false≢true t)

      same : StartPhase S' (newest cfg w).phase
      same = subst (λ z. StartPhase z (newest cfg w).phase) (sym s) m.start

      by : ((next_seen cfg w.fence (newest cfg w) (Came p)).phase ≡ (newest cfg w).phase) ⊎ ((is_running (newest cfg w).phase ≡ true) × ((next_seen cfg w.fence (newest cfg w) (Came p)).phase ≡ Failing false)) → StartPhase S' (next_seen cfg w.fence (newest cfg w) (Came p)).phase
      by (inl q) = subst (StartPhase S') (sym q) same
      by (inr q) = subst (StartPhase S') (sym q.1) (fails (newest cfg w).phase same q.0)
  hears-start (Launches l) i s = subst (StartPhase S') (sym (launches-phase cfg w.fence (newest cfg w) l)) (subst (λ z. StartPhase z (newest cfg w).phase) (sym s) m.start)
  hears-start (Expires n) i s = subst (StartPhase S') (sym (expires-phase cfg w.fence (newest cfg w) n)) (subst (λ z. StartPhase z (newest cfg w).phase) (sym s) m.start)
  hears-start (Asks call r) i s = absurd i

  to-newest : (P : Phase → Type 0) → (effect cfg w e).fence ≡ w.fence → P (seen_by cfg (effect cfg w e) w.fence).phase → P (newest cfg (effect cfg w e)).phase
  to-newest P fe o = subst (λ z. P (seen_by cfg (effect cfg w e) z).phase) (sym fe) o

  start_after : StartPhase S' (newest cfg (effect cfg w e)).phase
  start_after = by (case_of cfg w e kn.honest kn.cluster n)
    where
      by : Case cfg w e → StartPhase S' (newest cfg (effect cfg w e)).phase
      by (still fe c s) = to-newest (StartPhase S') fe (subst (λ (z : Seen). StartPhase S' z.phase) (sym s) (subst (λ z. StartPhase z (newest cfg w).phase) (sym (ap (λ z. entry_at z commit_started) c)) m.start))
      by (hears y h al sf fe c s) = to-newest (StartPhase S') fe (subst (λ (z : Seen). StartPhase S' z.phase) (sym s) (hears-start y h (ap (λ z. entry_at z commit_started) c)))
      by (calls k) = to-newest (StartPhase S') k.fence (subst (λ (z : Seen). StartPhase S' z.phase) (sym k.seen)
          (subst (λ z. StartPhase z (newest cfg w).phase) (sym (ap (λ z. entry_at z commit_started) k.content ∙ at-mark k.op (calls-away cfg w e kn n k commit_started (inl refl) (λ t. inl refl)))) m.start))
      by (asks call g ev du fe c s) = to-newest (StartPhase S') fe (subst (λ (z : Seen). StartPhase S' z.phase) (sym s)
          (subst (StartPhase S') (sym (told-phase cfg w.fence (newest cfg w) call (reply_under g (reply_of w w.fence call)))) (asks-start (newest cfg w).phase call g refl du c m.start)))
      by (starts fe c s) = subst (λ z. StartPhase S' (seen_by cfg (effect cfg w e) z).phase) (sym fe) (subst (λ (z : Seen). StartPhase S' z.phase) (sym s) tt)

  abbrev Rs' : List Record
  Rs' = records (effect cfg w e)

  grows : Extends (records w) Rs'
  grows = records_extend cfg w e kn.honest.is_aged n

  more : (x : Record) → In x (records w) → In x Rs'
  more x i = subst (λ z. In x z) grows.is (In-left x (records w) grows.rest i)

  fail-more : (p : Phase) → FailPhase (records w) p → FailPhase Rs' p
  fail-more (Failing true) i = more JobUnsuccessful i
  fail-more (Failing false) i = tt
  fail-more (Opening i) o = tt
  fail-more Setting_up o = tt
  fail-more (Recovering ws at) o = tt
  fail-more Running o = tt
  fail-more (Committing at) o = tt
  fail-more (Finished b) o = tt
  fail-more Stopped o = tt

  older : (x : Record) → In x (R w) → In x (records w)
  unfolding records_below
  older x i = In-left x (R w) (w.history w.fence).stable i

  read-fail : (r : Reply) → records_of r ≡ R w → FailPhase Rs' (was_read r)
  read-fail (Records rs) q = by (is_unsuccessful rs) refl
    where
      by : (b : Bool) → is_unsuccessful rs ≡ b → FailPhase Rs' (if b then Failing true else Setting_up)
      by true u = more JobUnsuccessful (older JobUnsuccessful (subst (λ z. In JobUnsuccessful z) q (unsuccessful-In rs u)))
      by false u = tt
  read-fail _ q = tt

  opening-fail : (i : ℕ) (call : Store) (r : Reply) → ReadFits (R w) call r → FailPhase Rs' (if is_read call then was_read r else looked i r)
  opening-fail i call r f = by (is_read call) refl
    where
      look : (r : Reply) → FailPhase Rs' (looked i r)
      look (Found (Some k)) = tt
      look (Found None) = tt
      look _ = tt

      by : (b : Bool) → is_read call ≡ b → FailPhase Rs' (if b then was_read r else looked i r)
      by false q = look r
      by true q = two (f q)
        where
          two : (records_of r ≡ R w) ⊎ (was_read r ≡ Stopped) → FailPhase Rs' (was_read r)
          two (inl u) = read-fail r u
          two (inr u) = subst (FailPhase Rs') (sym u) tt

  -- a flush that was answered has made the tail stable
  flushed-In : (g : Weather) → e ≡ Event.Duty w.fence g → duty cfg w w.fence ≡ Some Flush → (effect cfg w e).fence ≡ w.fence → is_fine (reply_under g (reply_of w w.fence Flush)) ≡ true → In JobUnsuccessful (newest cfg w).tail → In JobUnsuccessful Rs'
  unfolding call_of records_below
  flushed-In g ev du fe fine i = subst (λ z. In JobUnsuccessful (records_below (effect cfg w e).history (suc z))) (sym fe)
      (In-right JobUnsuccessful (records_below (effect cfg w e).history w.fence) _ (subst (λ (z : Rattle.mr_world_model.specs.Records.Segment). In JobUnsuccessful z.stable) (sym segment) (kn.honest.tailed w.fence unsealed JobUnsuccessful i).1))
    where
      ok : (is_applied w w.fence g ≡ true) × (is_fine (own_reply w w.fence Flush) ≡ true) × (g ≡ Calm)
      ok = fine-applied w w.fence g Flush fine

      unsealed : (w.history w.fence).is_sealed ≡ false
      unsealed = open_if (w.history w.fence).is_sealed ok.1
        where
          open_if : (b : Bool) → is_fine (if b then Reply.Sealed else Reply.Fine) ≡ true → b ≡ false
          open_if true e = absurd (false≢true e)
          open_if false e = refl

      segment : (effect cfg w e).history w.fence ≡ Rattle.mr_world_model.specs.Records.flushed (w.history w.fence)
      segment = subst (λ z. (effect cfg w z).history w.fence ≡ Rattle.mr_world_model.specs.Records.flushed (w.history w.fence)) (sym ev) (rw (du, called_at w w.fence g Flush ok.0, unsealed) refl)

  asks-fail : (p : Phase) (call : Store) (g : Weather) → (newest cfg w).phase ≡ p → e ≡ Event.Duty w.fence g → (effect cfg w e).fence ≡ w.fence → duty cfg w w.fence ≡ Some call → FailPhase (records w) p → FailPhase Rs' (phase_told w.fence (newest cfg w) p call (reply_under g (reply_of w w.fence call)))
  unfolding phase_told
  asks-fail p call g ph ev fe du o = by p o
    where
      r : Reply
      r = reply_under g (reply_of w w.fence call)

      fails : (f : Bool) (call2 : Store) → call ≡ call2 → FailPhase (records w) (Failing f) → FailPhase Rs' (failing f (newest cfg w).tail call2 r)
      fails f (Names op) q o = if_cases (FailPhase Rs') (is_cleared r) _ _ (λ t. tt) (λ t. tt)
      fails f (Append_record x) q o = if_cases (FailPhase Rs') (is_fine r) _ _ (λ t. fail-more (Failing f) o) (λ t. tt)
      fails f Flush q o = if_cases (FailPhase Rs') (is_fine r) _ _ (λ t. two f o t (is_unsuccessful (newest cfg w).tail) refl) (λ t. tt)
        where
          two : (f : Bool) → FailPhase (records w) (Failing f) → is_fine r ≡ true → (b : Bool) → is_unsuccessful (newest cfg w).tail ≡ b → FailPhase Rs' (Failing (f || b))
          two true o t b u = more JobUnsuccessful o
          two false o t false u = tt
          two false o t true u = flushed-In g ev (du ∙ ap Some q) fe (subst (λ y. is_fine (reply_under g (reply_of w w.fence y)) ≡ true) q t) (unsuccessful-In (newest cfg w).tail u)
      fails f Read_history q o = tt

      runs : (call2 : Store) → FailPhase Rs' (running (newest cfg w).tail call2 r)
      runs (Names op) = if_cases (FailPhase Rs') (is_fine r) _ _ (λ t. if_cases (FailPhase Rs') (is_some (bar_of op)) _ _ (λ b. tt) (λ b. tt)) (λ t. tt)
      runs (Append_record x) = if_cases (FailPhase Rs') (is_fine r) _ _ (λ t. tt) (λ t. tt)
      runs Flush = if_cases (FailPhase Rs') (is_fine r) _ _ (λ t. tt) (λ t. tt)
      runs Read_history = tt

      by : (p : Phase) → FailPhase (records w) p → FailPhase Rs' (phase_told w.fence (newest cfg w) p call r)
      by (Opening i) o = opening-fail i call r (read-replies w w.fence g call r refl)
      by Setting_up o = runs-fail Rs' _ (if_cases (λ q. may_run q ≡ true) (is_fine r) _ _ (λ t. rest-runs w.fence (newest cfg w).winners) (λ t. refl))
      by (Recovering ws at) o = runs-fail Rs' _ (recovering-runs w.fence ws at r)
      by Running o = runs call
      by (Failing f) o = fails f call refl o
      by (Committing at) o = settled-fail Rs' _ (committing-settled w.fence at r)
      by (Finished b) o = tt
      by Stopped o = tt

  hears-fail : (x : Master_step) → IsHeard x → FailPhase Rs' (next_seen cfg w.fence (newest cfg w) x).phase
  hears-fail (Came p) i = by (came-phase cfg w.fence (newest cfg w) p)
    where
      by : ((next_seen cfg w.fence (newest cfg w) (Came p)).phase ≡ (newest cfg w).phase) ⊎ ((is_running (newest cfg w).phase ≡ true) × ((next_seen cfg w.fence (newest cfg w) (Came p)).phase ≡ Failing false)) → FailPhase Rs' (next_seen cfg w.fence (newest cfg w) (Came p)).phase
      by (inl q) = subst (FailPhase Rs') (sym q) (fail-more (newest cfg w).phase m.fail)
      by (inr q) = subst (FailPhase Rs') (sym q.1) tt
  hears-fail (Launches l) i = subst (FailPhase Rs') (sym (launches-phase cfg w.fence (newest cfg w) l)) (fail-more (newest cfg w).phase m.fail)
  hears-fail (Expires n) i = subst (FailPhase Rs') (sym (expires-phase cfg w.fence (newest cfg w) n)) (fail-more (newest cfg w).phase m.fail)
  hears-fail (Asks call r) i = absurd i

  fail_after : FailPhase Rs' (newest cfg (effect cfg w e)).phase
  fail_after = by (case_of cfg w e kn.honest kn.cluster n)
    where
      by : Case cfg w e → FailPhase Rs' (newest cfg (effect cfg w e)).phase
      by (still fe c s) = to-newest (FailPhase Rs') fe (subst (λ (z : Seen). FailPhase Rs' z.phase) (sym s) (fail-more (newest cfg w).phase m.fail))
      by (hears y h al sf fe c s) = to-newest (FailPhase Rs') fe (subst (λ (z : Seen). FailPhase Rs' z.phase) (sym s) (hears-fail y h))
      by (calls k) = to-newest (FailPhase Rs') k.fence (subst (λ (z : Seen). FailPhase Rs' z.phase) (sym k.seen) (fail-more (newest cfg w).phase m.fail))
      by (asks call g ev du fe c s) = to-newest (FailPhase Rs') fe (subst (λ (z : Seen). FailPhase Rs' z.phase) (sym s)
          (subst (FailPhase Rs') (sym (told-phase cfg w.fence (newest cfg w) call (reply_under g (reply_of w w.fence call)))) (asks-fail (newest cfg w).phase call g refl ev fe du m.fail)))
      by (starts fe c s) = subst (λ z. FailPhase Rs' (seen_by cfg (effect cfg w e) z).phase) (sym fe) (subst (λ (z : Seen). FailPhase Rs' z.phase) (sym s) tt)

  pub marks_after : Marks cfg (effect cfg w e)
  marks_after = record { start = start_after; fail = fail_after }

  -- what is quiet after an event was so before
  pub quiet-before : IsQuiet (effect cfg w e) → IsQuiet w
  quiet-before q = record { not_started = by (newest cfg w).phase refl (is_none (Started w)) refl; not_unsuccessful = λ i. q.not_unsuccessful (more JobUnsuccessful i) }
    where
      none-is : (o : Option Entry) → is_none o ≡ true → o ≡ None
      none-is None e = refl
      none-is (Some x) e = absurd (false≢true e)

      kept : is_running (newest cfg w).phase ≡ false → S' ≡ Started w
      kept nr = at (case_of cfg w e kn.honest kn.cluster n)
        where
          at : Case cfg w e → S' ≡ Started w
          at (still fe c s) = ap (λ z. entry_at z commit_started) c
          at (hears y h al sf fe c s) = ap (λ z. entry_at z commit_started) c
          at (calls k) = ap (λ z. entry_at z commit_started) k.content ∙ at-mark k.op (calls-away cfg w e kn n k commit_started (inl refl) (λ t. inl refl))
          at (asks call g ev du fe c s) = call-started call g du c nr
          at (starts fe c s) = ap (λ z. entry_at z commit_started) c

      by : (p : Phase) → (newest cfg w).phase ≡ p → (b : Bool) → is_none (Started w) ≡ b → Started w ≡ None
      by p z true u = none-is (Started w) u
      by p z false u = runs (is_running (newest cfg w).phase) refl
        where
          run-none : (p : Phase) → is_running p ≡ true → StartPhase (Started w) p → Started w ≡ None
          run-none Running e s = s
          run-none p e s = absurd (false≢true e)

          runs : (b : Bool) → is_running (newest cfg w).phase ≡ b → Started w ≡ None
          runs true v = run-none (newest cfg w).phase v m.start
          runs false v = sym (kept v) ∙ q.not_started
