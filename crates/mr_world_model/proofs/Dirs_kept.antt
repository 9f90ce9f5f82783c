-- So the invariant on directories is kept.
use Rattle.std.proofs.Common.{ℕ, suc, ◌-◌, ◌≤◌, ◌<◌, ◌≡◌, refl, sym, ◌∙◌, ap, subst, Bool, true, false, ◌||◌, List, [], ◌∷◌, ◌++◌, Option, Some, None, if◌then◌else◌, is_some, nat_le, ◌⊎◌, inl, inr, arith}
use Rattle.std.proofs.lemmas.Bool.{false≢true, true≢false, cases_lt}
use Rattle.std.proofs.lemmas.Bool.Decides.{nat_tests}
use Rattle.mr_world_model.specs.Claims.{IsReduce}
use Rattle.mr_world_model.specs.Ids.{Path, Attempt, ContainerId, task_attempt, committed, job_attempt, task_name, TaskId, is_reduce, task_eq, attempt_name, temporary_name}
use Rattle.mr_world_model.proofs.Names.{task_eq-true, task_eq-false}
use Rattle.mr_world_model.specs.Content.{Content, Entry, File, entry_at, Rename, Exist, bar_of, left, refusal}
use Rattle.mr_world_model.specs.Records.{Record, ReduceSucceeded, records_below, winner_in}
use Rattle.mr_world_model.specs.Packets.{Config, Store, Reply, Names, Append_record, Flush, Read_history, Found, Bytes, Records}
use Rattle.mr_world_model.specs.Pasts.{Place}
use Rattle.mr_world_model.specs.Hearing.{Seen, Phase, Opening, Setting_up, Recovering, Running, Committing, Failing, Finished, Stopped, Recover_step, Look_below, Measure, Clear_own, Move_from, Todo_winner, Launched, has_winner, is_over, named_in}
use Rattle.mr_world_model.specs.Duties.{right_length, duty_of, Master_step, Came, Launches, Expires, Asks, opening, winners_of, next_seen}
use Rattle.mr_world_model.specs.World.{World, Event, Weather, reply_of, reply_under, seen_by, ContainerStep}
use Rattle.mr_world_model.specs.Effect.{content_after, effect, not_now}
use Rattle.mr_world_model.specs.Claims.{In, IsWhole}
use Rattle.mr_world_model.proofs.Basic.{if_cases}
use Rattle.mr_world_model.proofs.Lists.{Each}
use Rattle.mr_world_model.proofs.Files.{Absent, Holds, Absent-same, Holds-same}
use Rattle.mr_world_model.proofs.Apart.{elsewhere-away}
use Rattle.mr_world_model.proofs.Phases.{Wins, winners-win, PhaseFits}
use Rattle.mr_world_model.proofs.Told.{below_same}
use Rattle.mr_world_model.proofs.Cluster.{IsLaunched, launched_as}
use Rattle.mr_world_model.proofs.Sends.{cluster}
use Rattle.mr_world_model.proofs.Masters.{is_early, came-phase, launches-phase, expires-phase, told-phase}
use Rattle.mr_world_model.proofs.Steps.{Calls, Case, still, hears, asks, calls, starts, case_of, newest, IsHeard}
use Rattle.mr_world_model.proofs.Regions.{away-same, committed_other, is_loud, Answered, good, no, lost, answered}
use Rattle.mr_world_model.proofs.Dirs.{Known, R, HoldsAt, Old, AllHold, NoTwice, Looked, RecoverHead, AbsentAt, IsSmall, RecDirs, PhaseDirs, Dirs, calls-new, move-head, clear-head, unborn_after, names_after, unplaced_after, own_after, none-some}
use Rattle.mr_world_model.proofs.Lists.{In-left}
use Rattle.mr_world_model.proofs.Files.{at_itself}
use Rattle.mr_world_model.proofs.Told.{stores_after, StoredOrDue, written-success}
use Rattle.mr_world_model.proofs.Allowed.{first-due}
use Rattle.mr_world_model.specs.Content.{option_kind}
use Rattle.mr_world_model.specs.Hearing.{Ending}
use Rattle.mr_world_model.specs.Duties.{phase_told, recovering, recover_rest, looked, was_read, running, failing, is_fine, is_cleared, is_read, is_unsuccessful}
use Rattle.mr_world_model.proofs.Winners.{winner-split, Each-map, winners-small, winners-once, winners-has, empty-launched, accepted-holds}
use Rattle.mr_world_model.proofs.Fates.{Kept, Fate, Fates, whole, move-holds, fates, tidy_after, early-recovering, renamed_after, old_kept}
use Rattle.mr_world_model.proofs.Fates.Fate.{kept, by_container, by_clear}

module _ (cfg : Config) (w : World) (e : Event) (kn : Known cfg w) (n : not_now cfg w e ≡ None) (loud : is_loud (newest cfg w).phase ≡ false) (dirs : Dirs cfg w) where
  -- What the phase says of the directories

  record Keeps (p : Phase) : Type 0 where
    gone : is_early p ≡ true → (j : ℕ) (t : TaskId) → j ≤ w.fence → Absent w.content (committed j t) → Absent (effect cfg w e).content (committed j t)
    held : (t : TaskId) (a : Attempt) → winner_in (R w) t ≡ Some a → HoldsAt w w.fence t a → HoldsAt (effect cfg w e) w.fence t a

  abbrev Now : Phase → Type 0
  Now p = PhaseDirs cfg w w.fence (R w) p

  abbrev Then : Phase → Type 0
  Then p = PhaseDirs cfg (effect cfg w e) w.fence (R w) p

  abbrev MyRec : List Todo_winner → Recover_step → Type 0
  MyRec ws at = RecDirs cfg w w.fence (R w) ws at

  abbrev ThenRec : List Todo_winner → Recover_step → Type 0
  ThenRec ws at = RecDirs cfg (effect cfg w e) w.fence (R w) ws at

  looked-kept : (t : TaskId) (j : ℕ) → ((j : ℕ) (t : TaskId) → j ≤ w.fence → Absent w.content (committed j t) → Absent (effect cfg w e).content (committed j t)) → Looked w w.fence t j → Looked (effect cfg w e) w.fence t j
  looked-kept t j f o = (o.0, λ i l m. f i t (omega arith) (o.1 i l m))

  abbrev Others : List Todo_winner → Type 0
  Others ws = (t : TaskId) (a : Attempt) → IsReduce cfg t → winner_in (R w) t ≡ Some a → (has_winner ws t ≡ true) ⊎ HoldsAt (effect cfg w e) w.fence t a

  rec-kept : (p : Phase) → Keeps p → is_early p ≡ true → (ws : List Todo_winner) (at at' : Recover_step) → MyRec ws at → RecoverHead (effect cfg w e) w.fence ws at' → ThenRec ws at'
  rec-kept p k early ws at at' o h = record {
    small = o.small;
    once = o.once;
    wins = o.wins;
    absent = Each-map (AbsentAt w w.fence) (AbsentAt (effect cfg w e) w.fence) ws (λ x a. k.gone early w.fence x.task (omega arith) a) o.absent;
    head = h;
    others = λ t a l q. other t a q (o.others t a l q);
  }
    where
      other : (t : TaskId) (a : Attempt) → winner_in (R w) t ≡ Some a → (has_winner ws t ≡ true) ⊎ HoldsAt w w.fence t a → (has_winner ws t ≡ true) ⊎ HoldsAt (effect cfg w e) w.fence t a
      other t a q (inl b) = inl b
      other t a q (inr b) = inr (k.held t a q b)

  head-kept : (p : Phase) → Keeps p → is_early p ≡ true → (ws : List Todo_winner) (at : Recover_step) → RecoverHead w w.fence ws at → RecoverHead (effect cfg w e) w.fence ws at
  head-kept p k early [] at h = tt
  head-kept p k early (x ∷ ws) (Look_below j) h = looked-kept x.task j (k.gone early) h
  head-kept p k early (x ∷ ws) (Measure j) h = (h.0, looked-kept x.task j (k.gone early) h.1)
  head-kept p k early (x ∷ ws) (Clear_own j) h = looked-kept x.task j (k.gone early) h
  head-kept p k early (x ∷ ws) (Move_from j) h = looked-kept x.task j (k.gone early) h

  hold-kept : (p : Phase) → Keeps p → AllHold cfg w w.fence (R w) → AllHold cfg (effect cfg w e) w.fence (R w)
  hold-kept p k o t a l q = k.held t a q (o t a l q)

  keep : (p : Phase) → Keeps p → Now p → Then p
  keep (Opening i) k o = λ t. k.gone refl w.fence t (omega arith) (o t)
  keep Setting_up k o = λ t. k.gone refl w.fence t (omega arith) (o t)
  keep (Recovering ws at) k o = rec-kept (Recovering ws at) k refl ws at at o (head-kept (Recovering ws at) k refl ws at o.head)
  keep Running k o = hold-kept Running k o
  keep (Failing false) k o = hold-kept (Failing false) k o
  keep (Failing true) k o = tt
  keep (Committing at) k o = tt
  keep (Finished b) k o = tt
  keep Stopped k o = tt

  same-keeps : (p : Phase) → ((x : Path) → entry_at (effect cfg w e).content x ≡ entry_at w.content x) → Keeps p
  same-keeps p f = record {
    gone = λ u j t l a x. f _ ∙ a x;
    held = λ t a q h. record { bytes = h.bytes; whole = whole cfg w e kn n loud dirs a h.bytes h.whole; holds = Holds-same w.content (effect cfg w e).content (committed w.fence t) t _ (λ x. f _) h.holds };
  }

  calls-keeps : (k : Calls cfg w e) → Keeps (newest cfg w).phase
  calls-keeps k = record {
    gone = λ u j t l a. absurd (empty-launched cfg w kn u k.who k.place k.app k.placed);
    held = λ t a q h. held t a q h (fates cfg w e kn n loud dirs t);
  }
    where
      held : (t : TaskId) (a : Attempt) → winner_in (R w) t ≡ Some a → HoldsAt w w.fence t a → Fates cfg w e kn n loud dirs t → HoldsAt (effect cfg w e) w.fence t a
      held t a q h (inl m) = absurd (empty-launched cfg w kn (early-recovering cfg w e kn n loud dirs m.winner m.todo (Move_from m.from) m.phase) k.who k.place k.app k.placed)
      held t a q h (inr f) = one (f w.fence)
        where
          one : Fate cfg w e kn n loud dirs w.fence t → HoldsAt (effect cfg w e) w.fence t a
          one (kept g) = record { bytes = h.bytes; whole = whole cfg w e kn n loud dirs a h.bytes h.whole; holds = Holds-same w.content (effect cfg w e).content (committed w.fence t) t _ g h.holds }
          one (by_container c m u v x) = none-some (sym (calls-new cfg w e kn n c) ∙ subst (λ z. winner_in (R w) z ≡ Some a) (sym v) q)
          one (by_clear x ws i ph u v z) = absurd (empty-launched cfg w kn (early-recovering cfg w e kn n loud dirs x ws (Clear_own i) ph) k.who k.place k.app k.placed)

  -- a call that moves nothing
  abbrev IsMove : Phase → Type 0
  IsMove p = (x : Todo_winner) × (ws : List Todo_winner) × (i : ℕ) × (p ≡ Recovering (x ∷ ws) (Move_from i))

  duty-keeps : (call : Store) (g : Weather) → e ≡ Event.Duty w.fence g → (IsMove (newest cfg w).phase → ⊥) → Keeps (newest cfg w).phase
  duty-keeps call g ev nm = record { gone = λ u j t l a. lost-or j t a (fates cfg w e kn n loud dirs t); held = λ t a q h. held t a q h (fates cfg w e kn n loud dirs t) }
    where
      no-calls : (k : Calls cfg w e) → ⊥
      no-calls k = let f : Event.Duty w.fence g ≡ ContainerStep k.who k.weather = sym ev ∙ k.event in cc

      lost-or : (j : ℕ) (t : TaskId) → Absent w.content (committed j t) → Fates cfg w e kn n loud dirs t → Absent (effect cfg w e).content (committed j t)
      lost-or j t a (inl m) = absurd (nm (m.winner, m.todo, m.from, m.phase))
      lost-or j t a (inr f) = one (f j)
        where
          one : Fate cfg w e kn n loud dirs j t → Absent (effect cfg w e).content (committed j t)
          one (kept g) = Absent-same w.content (effect cfg w e).content (committed j t) g a
          one (by_container k m u v x) = absurd (no-calls k)
          one (by_clear x ws i ph u v z) = z

      held : (t : TaskId) (a : Attempt) → winner_in (R w) t ≡ Some a → HoldsAt w w.fence t a → Fates cfg w e kn n loud dirs t → HoldsAt (effect cfg w e) w.fence t a
      held t a q h (inl m) = absurd (nm (m.winner, m.todo, m.from, m.phase))
      held t a q h (inr f) = one (f w.fence)
        where
          one : Fate cfg w e kn n loud dirs w.fence t → HoldsAt (effect cfg w e) w.fence t a
          one (kept g) = record { bytes = h.bytes; whole = whole cfg w e kn n loud dirs a h.bytes h.whole; holds = Holds-same w.content (effect cfg w e).content (committed w.fence t) t _ g h.holds }
          one (by_container k m u v x) = absurd (no-calls k)
          one (by_clear x ws i ph u v z) = none-some (sym (at_itself w.content (committed w.fence t) None (subst (λ y. Absent w.content (committed w.fence y)) v (clear-head cfg w e kn n loud dirs x ws i ph).absent.0 [])) ∙ h.holds.dir)

  -- the next task of a recovery, or the end of it
  rest-then : (ws : List Todo_winner) → Each (IsSmall cfg) ws → NoTwice ws → Each (Wins (R w)) ws → Each (AbsentAt (effect cfg w e) w.fence) ws → Others ws → Then (recover_rest w.fence ws)
  rest-then [] s o wi a oth = λ t b l q. done (oth t b l q)
    where
      done : {t : TaskId} {b : Attempt} → (has_winner [] t ≡ true) ⊎ HoldsAt (effect cfg w e) w.fence t b → HoldsAt (effect cfg w e) w.fence t b
      done (inl f) = absurd (false≢true f)
      done (inr h) = h
  rest-then (x ∷ ws) s o wi a oth = if_cases Then (nat_le w.fence 1) _ _ (λ t. tt)
      (λ t. record { small = s; once = o; wins = wi; absent = a; head = (grind (arith, nat_tests), λ i l m. absurd (omega arith)); others = oth })

  opening-then : (i : ℕ) (call : Store) (r : Reply) → Keeps (Opening i) → Now (Opening i) → Then (if is_read call then was_read r else looked i r)
  opening-then i call r k o = if_cases Then (is_read call) _ _ (λ t. read r) (λ t. look r)
    where
      all : (t : TaskId) → Absent (effect cfg w e).content (committed w.fence t)
      all t = k.gone refl w.fence t (omega arith) (o t)

      read : (r : Reply) → Then (was_read r)
      read (Records rs) = if_cases Then (is_unsuccessful rs) _ _ (λ t. tt) (λ t. all)
      read _ = tt

      look : (r : Reply) → Then (looked i r)
      look (Found (Some kd)) = tt
      look (Found None) = all
      look _ = tt

  setup-then : (ws : List Todo_winner) (r : Reply) → ws ≡ winners_of (R w) cfg.job cfg.reduces → Keeps Setting_up → Now Setting_up → Then (if is_fine r then recover_rest w.fence ws else Stopped)
  setup-then ws r q k o = if_cases Then (is_fine r) _ _
      (λ t. subst (λ z. Then (recover_rest w.fence z)) (sym q) (rest-then (winners_of (R w) cfg.job cfg.reduces) (winners-small (R w) cfg.job cfg.reduces) (winners-once (R w) cfg.job cfg.reduces) (winners-win (R w) cfg.job cfg.reduces)
      (Each-all (winners_of (R w) cfg.job cfg.reduces)) (λ t a l u. inl (winners-has (R w) cfg.job cfg.reduces t a l u)))) (λ t. tt)
    where
      Each-all : (xs : List Todo_winner) → Each (AbsentAt (effect cfg w e) w.fence) xs
      Each-all [] = tt
      Each-all (x ∷ xs) = (k.gone refl w.fence x.task (omega arith) (o x.task), Each-all xs)

  look-then : (x : Todo_winner) (ws : List Todo_winner) (j : ℕ) → Keeps (Recovering (x ∷ ws) (Look_below j)) → MyRec (x ∷ ws) (Look_below j) → (o : Option Entry) → entry_at w.content (committed j x.task) ≡ o →
      Then (recovering w.fence (x ∷ ws) (Look_below j) (Found (option_kind o)))
  look-then x ws j k o (Some en) q = if_cases (λ z. Then (Recovering (x ∷ ws) z)) (is_some x.bytes) _ _
      (λ t. rec-kept _ k refl (x ∷ ws) (Look_below j) (Measure j) o (t, looked-kept x.task j (k.gone refl) o.head)) (λ t. rec-kept _ k refl (x ∷ ws) (Look_below j) (Clear_own j) o (looked-kept x.task j (k.gone refl) o.head))
  look-then x ws j k o None q = if_cases Then (nat_le j 1) _ _ (λ t. tt)
      (λ t. rec-kept _ k refl (x ∷ ws) (Look_below j) (Look_below (j - 1)) o ((let u = o.head.0 in omega arith), λ i l m. below i (cases_lt j i) l m))
    where
      below : (i : ℕ) → (j < i) ⊎ (i ≤ j) → j - 1 < i → i < w.fence → Absent (effect cfg w e).content (committed i x.task)
      below i (inl u) l m = k.gone refl i x.task (omega arith) (o.head.1 i u m)
      below i (inr u) l m = let same : j ≡ i = omega arith in k.gone refl i x.task (omega arith) (subst (λ z. Absent w.content (committed z x.task)) same (dirs.tidy j x.task q))

  looking-then : (x : Todo_winner) (ws : List Todo_winner) (j : ℕ) (c' : Content) (r : Reply) → Keeps (Recovering (x ∷ ws) (Look_below j)) → MyRec (x ∷ ws) (Look_below j) → Answered w.content (Exist (committed j x.task)) c' r → Then (recovering w.fence (x ∷ ws) (Look_below j) r)
  looking-then x ws j c' _ k o (good ok l) = look-then x ws j k o (entry_at w.content (committed j x.task)) refl
  looking-then x ws j c' _ k o (no f l) = tt
  looking-then x ws j c' _ k o lost = tt

  has-other : (x : Todo_winner) (ws : List Todo_winner) (t : TaskId) → (x.task ≡ t → ⊥) → has_winner (x ∷ ws) t ≡ true → has_winner ws t ≡ true
  has-other x ws t ne q = by (task_eq x.task t) refl q
    where
      by : (b : Bool) → task_eq x.task t ≡ b → (b || has_winner ws t) ≡ true → has_winner ws t ≡ true
      by true u v = absurd (ne (task_eq-true x.task t u))
      by false u v = v

  moved-then : (x : Todo_winner) (ws : List Todo_winner) (j : ℕ) → (newest cfg w).phase ≡ Recovering (x ∷ ws) (Move_from j) → (refusal w.content (Rename (committed j x.task) (committed w.fence x.task)) ≡ None) →
      (effect cfg w e).content ≡ left w.content (Rename (committed j x.task) (committed w.fence x.task)) → Then (recover_rest w.fence ws)
  moved-then x ws j ph ok l = rest-then ws h.small.1 h.once.1 h.wins.1 (absents ws h.once.0 h.absent.1) others
    where
      h : MyRec (x ∷ ws) (Move_from j)
      h = move-head cfg w e kn n loud dirs x ws j ph

      m : (bytes : List ℕ) × IsWhole w x.attempt bytes × Holds (left w.content (Rename (committed j x.task) (committed w.fence x.task))) (committed w.fence x.task) x.task (File bytes true)
      m = move-holds cfg w e kn n loud dirs x ws j ph ok

      other : (t : TaskId) → (x.task ≡ t → ⊥) → Kept cfg w e kn n loud dirs w.fence t
      other t ne = λ y. ap (λ z. entry_at z (committed w.fence t ++ y)) l ∙ away-same w.content (Rename (committed j x.task) (committed w.fence x.task)) (committed w.fence t)
          (λ y. elsewhere-away (Rename (committed j x.task) (committed w.fence x.task)) (committed w.fence t) y (committed_other j w.fence x.task t (λ u v. ne v), committed_other w.fence w.fence x.task t (λ u v. ne v))) y

      absents : (ys : List Todo_winner) → has_winner ys x.task ≡ false → Each (AbsentAt w w.fence) ys → Each (AbsentAt (effect cfg w e) w.fence) ys
      absents [] q a = tt
      absents (y ∷ ys) q a = by (task_eq y.task x.task) refl q (absents ys)
        where
          by : (b : Bool) → task_eq y.task x.task ≡ b → (b || has_winner ys x.task) ≡ false → (has_winner ys x.task ≡ false → Each (AbsentAt w w.fence) ys → Each (AbsentAt (effect cfg w e) w.fence) ys) → Each (AbsentAt (effect cfg w e) w.fence) (y ∷ ys)
          by true u v f = absurd (true≢false v)
          by false u v f = (Absent-same w.content (effect cfg w e).content (committed w.fence y.task) (other y.task (λ z. let r = task_eq-false y.task x.task u in r (sym z))) a.0, f v a.1)

      others : Others ws
      others t a lt q = by (task_eq x.task t) refl (h.others t a lt q)
        where
          by : (b : Bool) → task_eq x.task t ≡ b → (has_winner (x ∷ ws) t ≡ true) ⊎ HoldsAt w w.fence t a → (has_winner ws t ≡ true) ⊎ HoldsAt (effect cfg w e) w.fence t a
          by true u v = let xt = task_eq-true x.task t u in
              let same : x.attempt ≡ a = (let z : winner_in (R w) t ≡ Some x.attempt = subst (λ z. winner_in (R w) z ≡ Some x.attempt) xt h.wins.0.0 in cc (z, q)) in
              inr (subst (HoldsAt (effect cfg w e) w.fence t) same (subst (λ z. HoldsAt (effect cfg w e) w.fence z x.attempt) xt
              (record { bytes = m.0; whole = whole cfg w e kn n loud dirs x.attempt m.0 m.1; holds = subst (λ z. Holds z (committed w.fence x.task) x.task (File m.0 true)) (sym l) m.2 })))
          by false u (inl v) = inl (has-other x ws t (λ z. let r = task_eq-false x.task t u in r z) v)
          by false u (inr v) = inr (record { bytes = v.bytes; whole = whole cfg w e kn n loud dirs a v.bytes v.whole; holds = Holds-same w.content (effect cfg w e).content (committed w.fence t) t _ (other t (λ z. let r = task_eq-false x.task t u in r z)) v.holds })

  moving-then : (x : Todo_winner) (ws : List Todo_winner) (j : ℕ) (c' : Content) (r : Reply) → (newest cfg w).phase ≡ Recovering (x ∷ ws) (Move_from j) → (effect cfg w e).content ≡ c' →
      Answered w.content (Rename (committed j x.task) (committed w.fence x.task)) c' r → Then (recovering w.fence (x ∷ ws) (Move_from j) r)
  moving-then x ws j c' _ ph c (good ok l) = moved-then x ws j ph ok (c ∙ l)
  moving-then x ws j c' _ ph c (no f l) = tt
  moving-then x ws j c' _ ph c lost = tt

  running-then : (tail : List Record) (call : Store) (r : Reply) → Then Running → Then (running tail call r)
  running-then tail (Names op) r o = if_cases Then (is_fine r) _ _ (λ t. if_cases Then (is_some (bar_of op)) _ _ (λ b. o) (λ b. tt)) (λ t. tt)
  running-then tail (Append_record x) r o = if_cases Then (is_fine r) _ _ (λ t. o) (λ t. tt)
  running-then tail Flush r o = if_cases Then (is_fine r) _ _ (λ t. o) (λ t. tt)
  running-then tail Read_history r o = tt

  failing-then : (tail : List Record) (call : Store) (r : Reply) → Then (Failing false) → Then (failing false tail call r)
  failing-then tail (Names op) r o = if_cases Then (is_cleared r) _ _ (λ t. tt) (λ t. tt)
  failing-then tail (Append_record x) r o = if_cases Then (is_fine r) _ _ (λ t. o) (λ t. tt)
  failing-then tail Flush r o = if_cases Then (is_fine r) _ _ (λ t. by (is_unsuccessful tail)) (λ t. tt)
    where
      by : (b : Bool) → Then (Failing b)
      by true = tt
      by false = o
  failing-then tail Read_history r o = tt

  asks-then : (p : Phase) (call : Store) (g : Weather) → (newest cfg w).phase ≡ p → e ≡ Event.Duty w.fence g → duty_of cfg w.fence (newest cfg w) p ≡ Some call →
      (effect cfg w e).content ≡ content_after w (Some (record { app = w.fence; call = call; fault = g })) → Now p → is_loud p ≡ false →
      Then (phase_told w.fence (newest cfg w) p call (reply_under g (reply_of w w.fence call)))
  unfolding phase_told duty_of
  asks-then p call g ph ev du c o l = by p ph du o l
    where
      r : Reply
      r = reply_under g (reply_of w w.fence call)

      keeps : (q : Phase) → (newest cfg w).phase ≡ q → (IsMove q → ⊥) → Keeps q
      keeps q z nm = subst Keeps z (duty-keeps call g ev (λ m. nm (subst IsMove z m)))

      by : (p : Phase) → (newest cfg w).phase ≡ p → duty_of cfg w.fence (newest cfg w) p ≡ Some call → Now p → is_loud p ≡ false → Then (phase_told w.fence (newest cfg w) p call r)
      by (Opening i) z du o l = opening-then i call r (keeps (Opening i) z (λ m. let y = m.3 in cc)) o
      by Setting_up z du o l = setup-then (newest cfg w).winners r (subst (PhaseFits (R w) cfg.job cfg.reduces (newest cfg w).winners) z (kn.honest.fits w.fence (omega arith))) (keeps Setting_up z (λ m. let y = m.3 in cc)) o
      by (Recovering [] at) z du o l = none-some du
      by (Recovering (x ∷ ws) (Look_below j)) z du o l = let f : Names (Exist (committed j x.task)) ≡ call = cc in
          looking-then x ws j _ r (keeps (Recovering (x ∷ ws) (Look_below j)) z (λ m. let y = m.3 in cc)) o
          (subst (λ y. Answered w.content (Exist (committed j x.task)) (content_after w (Some (record { app = w.fence; call = y; fault = g }))) (reply_under g (reply_of w w.fence y))) f (answered w w.fence (Exist (committed j x.task)) g))
      by (Recovering (x ∷ ws) (Measure j)) z du o l = measured (keeps (Recovering (x ∷ ws) (Measure j)) z (λ m. let y = m.3 in cc)) o r
        where
          measured : Keeps (Recovering (x ∷ ws) (Measure j)) → MyRec (x ∷ ws) (Measure j) → (r : Reply) → Then (recovering w.fence (x ∷ ws) (Measure j) r)
          measured k o (Bytes bs) = if_cases Then (right_length (x ∷ ws) bs) _ _ (λ t. rec-kept _ k refl (x ∷ ws) (Measure j) (Clear_own j) o (looked-kept x.task j (k.gone refl) o.head.1)) (λ t. tt)
          measured k o _ = tt
      by (Recovering (x ∷ ws) (Clear_own j)) z du o l = if_cases Then (is_cleared r) _ _
          (λ t. let k = keeps (Recovering (x ∷ ws) (Clear_own j)) z (λ m. let y = m.3 in cc) in rec-kept _ k refl (x ∷ ws) (Clear_own j) (Move_from j) o (looked-kept x.task j (k.gone refl) o.head)) (λ t. tt)
      by (Recovering (x ∷ ws) (Move_from j)) z du o l = let f : Names (Rename (committed j x.task) (committed w.fence x.task)) ≡ call = cc in
          moving-then x ws j _ r z c
          (subst (λ y. Answered w.content (Rename (committed j x.task) (committed w.fence x.task)) (content_after w (Some (record { app = w.fence; call = y; fault = g }))) (reply_under g (reply_of w w.fence y))) f (answered w w.fence (Rename (committed j x.task) (committed w.fence x.task)) g))
      by Running z du o l = running-then (newest cfg w).tail call r (keep Running (keeps Running z (λ m. let y = m.3 in cc)) o)
      by (Failing true) z du o l = absurd (true≢false l)
      by (Failing false) z du o l = failing-then (newest cfg w).tail call r (keep (Failing false) (keeps (Failing false) z (λ m. let y = m.3 in cc)) o)
      by (Committing at) z du o l = absurd (true≢false l)
      by (Finished b) z du o l = tt
      by Stopped z du o l = tt

  hears-then : (x : Master_step) → IsHeard x → Keeps (newest cfg w).phase → Then (next_seen cfg w.fence (newest cfg w) x).phase
  hears-then (Came p) i k = by (came-phase cfg w.fence (newest cfg w) p)
    where
      fails : (q : Phase) → Then q → Rattle.mr_world_model.specs.Hearing.is_running q ≡ true → Then (Failing false)
      fails Running o t = o
      fails q o t = absurd (false≢true t)

      by : ((next_seen cfg w.fence (newest cfg w) (Came p)).phase ≡ (newest cfg w).phase) ⊎ ((Rattle.mr_world_model.specs.Hearing.is_running (newest cfg w).phase ≡ true) × ((next_seen cfg w.fence (newest cfg w) (Came p)).phase ≡ Failing false)) → Then (next_seen cfg w.fence (newest cfg w) (Came p)).phase
      by (inl q) = subst Then (sym q) (keep (newest cfg w).phase k dirs.phase)
      by (inr q) = subst Then (sym q.1) (fails (newest cfg w).phase (keep (newest cfg w).phase k dirs.phase) q.0)
  hears-then (Launches l) i k = subst Then (sym (launches-phase cfg w.fence (newest cfg w) l)) (keep (newest cfg w).phase k dirs.phase)
  hears-then (Expires n) i k = subst Then (sym (expires-phase cfg w.fence (newest cfg w) n)) (keep (newest cfg w).phase k dirs.phase)
  hears-then (Asks call r) i k = absurd i

  -- The whole, where the generation stays and where the next starts

  below : records_below (effect cfg w e).history w.fence ≡ R w
  below = below_same cfg w e kn.honest.is_aged n w.fence (omega arith)

  stays-dirs : (effect cfg w e).fence ≡ w.fence → Then (seen_by cfg (effect cfg w e) w.fence).phase → Dirs cfg (effect cfg w e)
  stays-dirs fe ph = record {
    unborn = unborn_after cfg w e kn n loud dirs;
    unplaced = λ a o. subst (λ z. Absent (effect cfg w e).content (task_attempt z a)) (sym fe) (unplaced_after cfg w e kn n loud dirs fe a o);
    own = λ c p app. own_after cfg w e kn n loud dirs c p (app ∙ fe);
    tidy = tidy_after cfg w e kn n loud dirs;
    renamed = λ c p app q d r o. renamed_after cfg w e kn n loud dirs c p (app ∙ fe) q d r (subst (λ z. is_over (seen_by cfg (effect cfg w e) z).ended p.attempt ≡ false) fe o);
    old = λ t a q. old_kept cfg w e kn n loud dirs t a (sym (ap (λ z. winner_in z t) below) ∙ subst (λ z. winner_in (records_below (effect cfg w e).history z) t ≡ Some a) fe q) fe;
    names = λ x i o. subst (λ z. Absent (effect cfg w e).content (job_attempt z ++ x ∷ [])) (sym fe) (names_after cfg w e kn n loud dirs fe x i o);
    phase = subst (λ z. PhaseDirs cfg (effect cfg w e) z (records_below (effect cfg w e).history z) (seen_by cfg (effect cfg w e) z).phase) (sym fe)
        (subst (λ rs. PhaseDirs cfg (effect cfg w e) w.fence rs (seen_by cfg (effect cfg w e) w.fence).phase) (sym below) ph);
  }

  start-old : (effect cfg w e).fence ≡ suc w.fence → (effect cfg w e).content ≡ w.content → (t : TaskId) (a : Attempt) → winner_in (records_below (effect cfg w e).history (suc w.fence)) t ≡ Some a → Old (effect cfg w e) t a
  unfolding records_below
  start-old fe c t a q = by (winner-split (records_below (effect cfg w e).history w.fence) ((effect cfg w e).history w.fence).stable t a q)
    where
      moved : (k : ℕ) → HoldsAt w k t a → HoldsAt (effect cfg w e) k t a
      moved k h = record { bytes = h.bytes; whole = whole cfg w e kn n loud dirs a h.bytes h.whole; holds = subst (λ z. Holds z (committed k t) t (File h.bytes true)) (sym c) h.holds }

      fresh : (x : Path) → entry_at (effect cfg w e).content (committed (suc w.fence) t ++ x) ≡ None
      fresh x = ap (λ z. entry_at z (committed (suc w.fence) t ++ x)) c ∙ dirs.unborn (suc w.fence) (omega arith) (task_name t ∷ x)

      newer : (at : ℕ) → ((i : ℕ) → at < i → i ≤ w.fence → Absent w.content (committed i t)) → (i : ℕ) → at < i → i ≤ (effect cfg w e).fence → Absent (effect cfg w e).content (committed i t)
      newer at f i l u = part (cases_lt w.fence i)
        where
          part : (w.fence < i) ⊎ (i ≤ w.fence) → Absent (effect cfg w e).content (committed i t)
          part (inl v) = let same : suc w.fence ≡ i = omega (arith, fe, u, v) in subst (λ z. Absent (effect cfg w e).content (committed z t)) same fresh
          part (inr v) = λ x. ap (λ z. entry_at z (committed i t ++ x)) c ∙ f i l v x

      by : (winner_in (records_below (effect cfg w e).history w.fence) t ≡ Some a) ⊎ ((z : Option ℕ) × In (ReduceSucceeded a z) ((effect cfg w e).history w.fence).stable × (a.task ≡ t)) → Old (effect cfg w e) t a
      by (inl v) = let o = dirs.old t a (sym (ap (λ z. winner_in z t) below) ∙ v) in
          record { at = o.at; old = (let u = o.old in omega (arith, fe)); here = moved o.at o.here; none_newer = newer o.at o.none_newer }
      by (inr v) = record { at = w.fence; old = omega (arith, fe); here = moved w.fence (subst (λ z. HoldsAt w w.fence z a) v.2 (accepted-holds cfg w kn dirs a acc.0 acc.1)); none_newer = newer w.fence (λ i l u. absurd (omega arith)) }
        where
          acc : In a (newest cfg w).accepted × (is_reduce a ≡ true)
          acc = from (stores_after cfg w e n w.fence (ReduceSucceeded a v.0) (In-left _ ((effect cfg w e).history w.fence).stable ((effect cfg w e).history w.fence).tail v.1))
            where
              from : StoredOrDue cfg w w.fence (ReduceSucceeded a v.0) → In a (newest cfg w).accepted × (is_reduce a ≡ true)
              from (inl s) = kn.honest.held w.fence a v.0 s
              from (inr s) = let r = written-success s.3 s.1 a v.0 s.4 in
                  (kn.honest.steady w.fence (omega arith)).dues a r.0 (subst (λ x. In x (newest cfg w).due) r.1 (first-due cfg w.fence (newest cfg w) (Append_record s.1) s.2))

  start-dirs : (effect cfg w e).fence ≡ suc w.fence → (effect cfg w e).content ≡ w.content → seen_by cfg (effect cfg w e) (suc w.fence) ≡ opening → Dirs cfg (effect cfg w e)
  start-dirs fe c s = record {
    unborn = unborn_after cfg w e kn n loud dirs;
    unplaced = λ a o. subst (λ z. Absent (effect cfg w e).content (task_attempt z a)) (sym fe) (λ x. fresh (temporary_name ∷ attempt_name a ∷ x));
    own = λ c p app q d. absurd (nobody c p app q);
    tidy = tidy_after cfg w e kn n loud dirs;
    renamed = λ c p app q d r o. absurd (nobody c p app q);
    old = λ t a q. start-old fe c t a (subst (λ z. winner_in (records_below (effect cfg w e).history z) t ≡ Some a) fe q);
    names = λ x i o. subst (λ z. Absent (effect cfg w e).content (job_attempt z ++ x ∷ [])) (sym fe) (λ y. fresh (x ∷ y));
    phase = subst (λ z. PhaseDirs cfg (effect cfg w e) z (records_below (effect cfg w e).history z) (seen_by cfg (effect cfg w e) z).phase) (sym fe)
        (subst (λ (z : Seen). PhaseDirs cfg (effect cfg w e) (suc w.fence) (records_below (effect cfg w e).history (suc w.fence)) z.phase) (sym s) (λ t x. fresh (task_name t ∷ x)));
  }
    where
      fresh : (x : Path) → entry_at (effect cfg w e).content (job_attempt (suc w.fence) ++ x) ≡ None
      fresh x = ap (λ z. entry_at z (job_attempt (suc w.fence) ++ x)) c ∙ dirs.unborn (suc w.fence) (omega arith) x

      nobody : (c : ContainerId) (p : Place) → c.app ≡ (effect cfg w e).fence → (effect cfg w e).place c ≡ Some p → ⊥
      nobody c p app q = let h' = cluster cfg w e kn.cluster n in
          subst (λ (z : Seen). In (launched_as c p.attempt p.node p.incarnation) z.launched) s (subst (λ z. IsLaunched cfg (effect cfg w e) z (launched_as c p.attempt p.node p.incarnation)) (app ∙ fe) (h'.places c p q).0)

  pub dirs_after : Dirs cfg (effect cfg w e)
  dirs_after = by (case_of cfg w e kn.honest kn.cluster n)
    where
      by : Case cfg w e → Dirs cfg (effect cfg w e)
      by (still fe c s) = stays-dirs fe (subst (λ (z : Seen). Then z.phase) (sym s) (keep (newest cfg w).phase (same-keeps (newest cfg w).phase (λ x. ap (λ z. entry_at z x) c)) dirs.phase))
      by (hears y h al sf fe c s) = stays-dirs fe (subst (λ (z : Seen). Then z.phase) (sym s) (hears-then y h (same-keeps (newest cfg w).phase (λ x. ap (λ z. entry_at z x) c))))
      by (calls k) = stays-dirs k.fence (subst (λ (z : Seen). Then z.phase) (sym k.seen) (keep (newest cfg w).phase (calls-keeps k) dirs.phase))
      by (asks call g ev du fe c s) = stays-dirs fe (subst (λ (z : Seen). Then z.phase) (sym s)
          (subst Then (sym (told-phase cfg w.fence (newest cfg w) call (reply_under g (reply_of w w.fence call)))) (asks-then (newest cfg w).phase call g refl ev du c dirs.phase loud)))
      by (starts fe c s) = start-dirs fe c s
