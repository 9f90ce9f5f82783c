-- Of a reduce an attempt is Succeeded exactly where this master recorded one, or took an earlier winner over.
use Rattle.std.proofs.Common.{ℕ, ◌≡◌, refl, sym, ◌∙◌, ap, Bool, true, false, ◌&&◌, ◌||◌, not, List, [], ◌∷◌, ◌++◌, Option, Some, None, if◌then◌else◌, is_some, ◌⊎◌, inl, inr}
use Rattle.std.proofs.lemmas.Bool.{false≢true, true≢false}
use Rattle.mr_grant.specs.Attempts as grant
use Rattle.mr_grant.specs.Attempts.{same_attempt, first_of}
use Rattle.mr_task.specs.Calls as task_call
use Rattle.mr_task.specs.Calls.{TaskCall}
use Rattle.mr_task.specs.Readings as task
use Rattle.mr_world_model.specs.Ids.{Attempt, TaskId, task_eq, is_reduce, of_reduces}
use Rattle.mr_world_model.specs.Content.{bar_of}
use Rattle.mr_world_model.specs.Records.{Record, AttemptStarted, MapSucceeded, ReduceSucceeded, AttemptFailed, JobUnsuccessful}
use Rattle.mr_world_model.specs.Packets.{Config, Packet, Store, Names, Append_record, Flush, Read_history, Reply}
use Rattle.mr_world_model.specs.Hearing.{Running, Failing, Seen, Phase, Launched, is_running, accepts_task, has_winner, heard, only_known}
use Rattle.mr_world_model.specs.Duties.{Master_step, Came, Launches, Expires, Asks, seen, next_seen, told, worked, with_read, phase_told, is_fine, is_read, successes, newest_maps, attempts_of, records_of, winners_of}
use Rattle.mr_world_model.specs.Claims.{In}
use Rattle.mr_world_model.specs.Calls.{Calls, tell, tell_each, tell_barred, maps_on, lost_on, calls_heard, calls_worked, calls_told, next_calls, calls, winning, TakenEarlier, AllFit}
use Rattle.mr_world_model.specs.Made.{IsMade, AllMade, TellsOf}
use Rattle.mr_world_model.proofs.Basic.{if_cases}
use Rattle.mr_world_model.proofs.Lists.{Each-In, In-has}
use Rattle.mr_world_model.proofs.Closed.{expired-by, bar-by}
use Rattle.mr_world_model.proofs.Told.{opening-steady}
use Rattle.mr_world_model.proofs.Told as closing
use Rattle.mr_world_model.proofs.Masters.{is_early, expires-phase, told-early, heard-phase, known-phase}
use Rattle.mr_world_model.proofs.Wins.{Both, both, starts-early, runs-on}
use Rattle.mr_world_model.proofs.Made.{all-fit}
use Rattle.mr_master_refinement.proofs.Still.{steady, tails, Level, succeeded-is, still-tell, still-each, still-barred, still-heard, silent-tell, records-each, level-each}
use Rattle.mr_master_refinement.specs.Recorded.{ReducesAreRecorded}

-- ---- along a past

in-successes : (rs : List Record) (a : Attempt) → is_reduce a ≡ true → In a (successes rs) → ((b : Attempt) (n i : ℕ) → In (MapSucceeded b n i) rs → is_reduce b ≡ false) → (z : Option ℕ) × In (ReduceSucceeded a z) rs
in-successes [] a q i maps = absurd i
in-successes (ReduceSucceeded b z ∷ rs) a q (inl e) maps = (z, inl (ap (λ x. ReduceSucceeded x z) e))
in-successes (ReduceSucceeded b z ∷ rs) a q (inr i) maps = let u = in-successes rs a q i (λ b n j h. maps b n j (inr h)) in (u.0, inr u.1)
in-successes (MapSucceeded b n j ∷ rs) a q (inl e) maps = absurd (false≢true (sym (maps b n j (inl refl)) ∙ (ap (λ x. is_reduce x) e ∙ q)))
in-successes (MapSucceeded b n j ∷ rs) a q (inr i) maps = let u = in-successes rs a q i (λ b n j h. maps b n j (inr h)) in (u.0, inr u.1)
in-successes (AttemptStarted b n ∷ rs) a q i maps = let u = in-successes rs a q i (λ b n j h. maps b n j (inr h)) in (u.0, inr u.1)
in-successes (AttemptFailed b ∷ rs) a q i maps = let u = in-successes rs a q i (λ b n j h. maps b n j (inr h)) in (u.0, inr u.1)
in-successes (JobUnsuccessful ∷ rs) a q i maps = let u = in-successes rs a q i (λ b n j h. maps b n j (inr h)) in (u.0, inr u.1)

accepts-append : (xs ys : List Attempt) (t : TaskId) → accepts_task (xs ++ ys) t ≡ (accepts_task xs t || accepts_task ys t)
accepts-append [] ys t = refl
accepts-append (x ∷ xs) ys t = ap (λ b. (is_reduce x && task_eq x.task t) || b) (accepts-append xs ys t) ∙ assoc (is_reduce x && task_eq x.task t) (accepts_task xs t) (accepts_task ys t)
  where
    assoc : (x y z : Bool) → (x || (y || z)) ≡ ((x || y) || z)
    assoc true y z = refl
    assoc false y z = refl

running-late : (p : Phase) → is_running p ≡ true → is_early p ≡ true → ⊥
running-late Running e f = false≢true f
running-late p e f = false≢true e

-- what a packet leaves of what is recorded, and of the winners
abbrev Parts : Seen → Seen → Type 0
Parts s x = (x.recorded ≡ s.recorded) × (x.winners ≡ s.winners)

heard-parts : (cfg : Config) (s : Seen) (p : Packet) → Parts s (heard cfg s p)
heard-parts cfg s p = closing.heard-closed cfg (Parts s) (record { asks = λ s a o. o; ends = λ s a f o. o; fails = λ s a due p o. o; accepts = λ s a st due o. o; knows = λ s f ps o. o }) s p (refl, refl)

known-parts : (cfg : Config) (s : Seen) (p : Packet) → Parts s (only_known s p)
known-parts cfg s p = closing.known-closed cfg (Parts s) (record { asks = λ s a o. o; ends = λ s a f o. o; fails = λ s a due p o. o; accepts = λ s a st due o. o; knows = λ s f ps o. o }) s p (refl, refl)

module _ (cfg : Config) (k : ℕ) (t : TaskId) (reduces : of_reduces t.kind ≡ true) where
  abbrev R : Calls → task.Seen
  R c = task.seen t k (c t)

  abbrev One : Calls → Bool
  One c = is_some (first_of (R c).recorded)

  pub record Recs (s : Seen) (c : Calls) : Type 0 where
    pub early : is_early s.phase ≡ true → (R c).recorded ≡ []
    pub during : is_running s.phase ≡ true → One c ≡ (accepts_task s.recorded t || has_winner s.winners t)

  -- what neither records nor recovers
  same-recs : (s x : Seen) (c d : Calls) → (R d).recorded ≡ (R c).recorded → Parts s x → (is_early x.phase ≡ true → is_early s.phase ≡ true) → (is_running x.phase ≡ true → is_running s.phase ≡ true) → Recs s c → Recs x d
  same-recs s x c d e p f g o = record {
    early = λ h. e ∙ o.early (f h);
    during = λ h. ap (λ l. is_some (first_of l)) e ∙ (o.during (g h) ∙ (λ i. accepts_task (sym p.0 i) t || has_winner (sym p.1 i) t));
  }

  came-recs : (s : Seen) (c : Calls) (p : Packet) → Recs s c → Recs (next_seen cfg k s (Came p)) (next_calls cfg k s (Came p) c)
  unfolding next_seen next_calls
  came-recs s c p o = by (is_running s.phase) refl (heard-phase cfg s p)
    where
      late : is_running s.phase ≡ true → ((heard cfg s p).phase ≡ s.phase) ⊎ ((heard cfg s p).phase ≡ Failing false) → is_early (heard cfg s p).phase ≡ true → is_early s.phase ≡ true
      late e (inl q) h = ap (λ z. is_early z) (sym q) ∙ h
      late e (inr q) h = absurd (false≢true (ap (λ z. is_early z) (sym q) ∙ h))

      by : (b : Bool) → is_running s.phase ≡ b → ((heard cfg s p).phase ≡ s.phase) ⊎ ((heard cfg s p).phase ≡ Failing false) → Recs (if b then heard cfg s p else only_known s p) (if b then calls_heard s p c else c)
      by true e f = same-recs s (heard cfg s p) c (calls_heard s p c) (still-heard t k s p c) (heard-parts cfg s p) (late e f) (λ h. e) o
      by false e f = same-recs s (only_known s p) c c refl (known-parts cfg s p) (λ h. ap (λ z. is_early z) (sym (known-phase s p)) ∙ h) (λ h. ap (λ z. is_running z) (sym (known-phase s p)) ∙ h) o

  expires-recs : (s : Seen) (c : Calls) (n : ℕ) → Recs s c → Recs (next_seen cfg k s (Expires n)) (next_calls cfg k s (Expires n) c)
  unfolding next_calls next_seen
  expires-recs s c n o = same-recs s _ c _
      (still-each t k (λ a. task_call.Dies a) (λ a. refl) (maps_on n s.launched) (tell_each (λ a. task_call.Loses a) (lost_on s.recorded n s.standing) c)
      ∙ still-each t k (λ a. task_call.Loses a) (λ a. refl) (lost_on s.recorded n s.standing) c)
      (expired-by (Parts s) (λ u a t v. v) n s (λ st ks bs. (refl, refl)))
      (λ h. ap (λ z. is_early z) (sym (expires-phase cfg k s n)) ∙ h) (λ h. ap (λ z. is_running z) (sym (expires-phase cfg k s n)) ∙ h) o

  launches-recs : (s : Seen) (c : Calls) (l : Launched) → Recs s c → Recs (next_seen cfg k s (Launches l)) (next_calls cfg k s (Launches l) c)
  unfolding next_seen next_calls
  launches-recs s c l o = same-recs s _ c _ (still-tell t k l.attempt.task task_call.Launches c refl) (refl, refl) (λ h. h) (λ h. h) o

  -- ---- answers

  recorded-none : (a : Attempt) (c : Calls) → (R c).accepted ≡ [] → (R (tell a.task (task_call.Records a) c)).recorded ≡ (R c).recorded
  unfolding task.seen task.next_seen
  recorded-none a c e = by (task_eq a.task t)
    where
      by : (b : Bool) → (task.seen t k (if b then task_call.Records a ∷ c t else c t)).recorded ≡ (R c).recorded
      by true = ap (λ l. (if grant.has l a then record (R c) { recorded = a ∷ (R c).recorded } else R c).recorded) e
      by false = refl

  -- where none was accepted, none is recorded
  none-recorded : (xs : List Attempt) (c : Calls) → (R c).accepted ≡ [] → (R (tell_each (λ a. task_call.Records a) xs c)).recorded ≡ (R c).recorded
  none-recorded [] c e = refl
  none-recorded (a ∷ xs) c e = none-recorded xs (tell a.task (task_call.Records a) c) (silent-tell t k a.task (task_call.Records a) c refl ∙ e) ∙ one
    where
      one : (R (tell a.task (task_call.Records a) c)).recorded ≡ (R c).recorded
      one = recorded-none a c e

  fine-calls : (s : Seen) (call : Store) (b : Bool) (c : Calls) → Calls
  fine-calls s call b c = if b then calls_worked s call c else c

  worked-recorded : (s : Seen) (call : Store) (c : Calls) → (R c).accepted ≡ [] → (R (calls_worked s call c)).recorded ≡ (R c).recorded
  worked-recorded s (Append_record x) c e = refl
  worked-recorded s Flush c e = none-recorded (successes s.tail) c e
  worked-recorded s (Names op) c e = still-barred t k (bar_of op) c
  worked-recorded s Read_history c e = refl

  maps-only : (xs : List Attempt) → ((a : Attempt) → In a xs → is_reduce a ≡ false) → accepts_task xs t ≡ false
  maps-only [] o = refl
  maps-only (a ∷ xs) o = let e = o a (inl refl) in let rest = maps-only xs (λ b i. o b (inr i)) in λ i. (e i && task_eq a.task t) || rest i

  module _ (s : Seen) (c : Calls) (call : Store) (r : Reply) (o : Recs s c) (early : is_early s.phase ≡ true → ((R c).accepted ≡ []) × (accepts_task s.accepted t ≡ false))
      (was : (a : Attempt) → In a (successes s.tail) → a.task ≡ t → grant.has (R c).accepted a ≡ true) where
    abbrev U : Seen
    U = with_read cfg (if is_fine r then worked s call else s) call r

    abbrev D : Calls
    D = if is_fine r then calls_worked s call c else c

    abbrev P : Phase
    P = phase_told k s s.phase call r

    abbrev A : Seen
    A = record U { phase = P; standing = newest_maps U.known U.history []; recorded = attempts_of (newest_maps U.known U.history []) }

    abbrev B : Seen
    B = record U { phase = P }

    abbrev C : Calls
    C = tell_each (λ a. task_call.Recovers a) (attempts_of (newest_maps U.known U.history [])) (tell_each (λ a. task_call.Recovers a) (winning U.winners) D)

    phase-kept : U.phase ≡ s.phase
    phase-kept = if_cases (λ (x : Seen). x.phase ≡ s.phase) (is_read call) _ _ (λ t. at (is_fine r)) (λ t. at (is_fine r))
      where
        worked-phase : (call : Store) → (worked s call).phase ≡ s.phase
        worked-phase (Append_record x) = refl
        worked-phase Flush = refl
        worked-phase (Names op) = bar-by (λ (x : Seen). x.phase ≡ s.phase) s (bar_of op) (λ a t ks. refl) refl
        worked-phase Read_history = refl

        at : (b : Bool) → (if b then worked s call else s).phase ≡ s.phase
        at true = worked-phase call
        at false = refl

    accepted-kept : U.accepted ≡ s.accepted
    accepted-kept = if_cases (λ (x : Seen). x.accepted ≡ s.accepted) (is_read call) _ _ (λ t. at (is_fine r)) (λ t. at (is_fine r))
      where
        worked-accepted : (call : Store) → (worked s call).accepted ≡ s.accepted
        worked-accepted (Append_record x) = refl
        worked-accepted Flush = refl
        worked-accepted (Names op) = bar-by (λ (x : Seen). x.accepted ≡ s.accepted) s (bar_of op) (λ a t ks. refl) refl
        worked-accepted Read_history = refl

        at : (b : Bool) → (if b then worked s call else s).accepted ≡ s.accepted
        at true = worked-accepted call
        at false = refl

    fresh-calls : is_early s.phase ≡ true → (R D).recorded ≡ []
    fresh-calls e = at (is_fine r)
      where
        at : (b : Bool) → (R (if b then calls_worked s call c else c)).recorded ≡ []
        at true = worked-recorded s call c (early e).0 ∙ o.early e
        at false = o.early e

    worked-silent : (call : Store) → (R (calls_worked s call c)).accepted ≡ (R c).accepted
    worked-silent (Append_record x) = refl
    worked-silent Flush = each (successes s.tail) c
      where
        each : (xs : List Attempt) (c : Calls) → (R (tell_each (λ a. task_call.Records a) xs c)).accepted ≡ (R c).accepted
        each [] c = refl
        each (a ∷ xs) c = each xs (tell a.task (task_call.Records a) c) ∙ silent-tell t k a.task (task_call.Records a) c refl
    worked-silent (Names op) = barred (bar_of op)
      where
        barred : (m : Option Attempt) → (R (tell_barred m c)).accepted ≡ (R c).accepted
        barred None = refl
        barred (Some a) = silent-tell t k a.task (task_call.Dies a) c refl
    worked-silent Read_history = refl

    level-now : is_early s.phase ≡ true → Level t k (R D)
    level-now e = fresh-calls e ∙ sym (at (is_fine r))
      where
        at : (b : Bool) → (R (if b then calls_worked s call c else c)).accepted ≡ []
        at true = worked-silent call ∙ (early e).0
        at false = (early e).0

    -- while it runs
    runs : is_running s.phase ≡ true → is_running P ≡ true → One D ≡ (accepts_task U.recorded t || has_winner U.winners t)
    runs e f = at (is_fine r) ∙ (λ i. accepts_task (kept i).recorded t || has_winner (kept i).winners t)
      where
        kept : (if is_fine r then worked s call else s) ≡ U
        kept = sym (ap (λ (b : Bool). if b then record (if is_fine r then worked s call else s) { history = records_of r; winners = winners_of (records_of r) cfg.job cfg.reduces } else (if is_fine r then worked s call else s)) (runs-on k s s.phase call r e f))

        works : (call : Store) → One (calls_worked s call c) ≡ (accepts_task (worked s call).recorded t || has_winner (worked s call).winners t)
        works (Append_record x) = o.during e
        works Flush = records-each t k (successes s.tail) c reduces was
            ∙ ((λ i. accepts_task (successes s.tail) t || o.during e i) ∙ (assoc (accepts_task (successes s.tail) t) (accepts_task s.recorded t) (has_winner s.winners t)
            ∙ ap (λ b. b || has_winner s.winners t) (sym (accepts-append (successes s.tail) s.recorded t))))
          where
            assoc : (x y z : Bool) → (x || (y || z)) ≡ ((x || y) || z)
            assoc true y z = refl
            assoc false y z = refl
        works (Names op) = ap (λ l. is_some (first_of l)) (still-barred t k (bar_of op) c)
            ∙ (o.during e ∙ (let q = bar-by (Parts s) s (bar_of op) (λ a t ks. (refl, refl)) (refl, refl) in λ i. accepts_task (sym q.0 i) t || has_winner (sym q.1 i) t))
        works Read_history = o.during e

        at : (b : Bool) → One (if b then calls_worked s call c else c) ≡ (accepts_task (if b then worked s call else s).recorded t || has_winner (if b then worked s call else s).winners t)
        at true = works call
        at false = o.during e

    abbrev Won : Seen → Calls → Type 0
    Won x d = is_running x.phase ≡ true → is_some (first_of (R d).accepted) ≡ (accepts_task x.accepted t || has_winner x.winners t)

    choice : (b q : Bool) → is_running P ≡ b → is_running U.phase ≡ q → TakenEarlier k U → Won (if b && not q then A else B) (if b && not q then C else D) → Recs (if b && not q then A else B) (if b && not q then C else D)
    choice false q e f taken won = record {
      early = λ h. fresh-calls (told-early k s s.phase call r h);
      during = λ h. absurd (true≢false (sym h ∙ e));
    }
    choice true true e f taken won = record {
      early = λ h. absurd (running-late P e h);
      during = λ h. runs (ap (λ z. is_running z) (sym phase-kept) ∙ f) e;
    }
    choice true false e f taken won = let start = starts-early k s s.phase call r e (ap (λ z. is_running z) (sym phase-kept) ∙ f) in record {
      early = λ h. absurd (running-late P e h);
      during = λ h. ap (λ l. is_some (first_of l)) (level-each t k (attempts_of (newest_maps U.known U.history [])) _ (level-each t k (winning U.winners) D (level-now start)))
          ∙ (won h ∙ ap (λ b. b || has_winner U.winners t) (ap (λ l. accepts_task l t) accepted-kept ∙ ((early start).1 ∙ sym (maps-only (attempts_of (newest_maps U.known U.history [])) taken.are_maps))));
    }

    asks-recs : TakenEarlier k U → Won (told cfg k s call r) (calls_told cfg k s call r c) → Recs (told cfg k s call r) (calls_told cfg k s call r c)
    unfolding told
    asks-recs taken won = choice (is_running P) (is_running U.phase) refl refl taken won

  as-told : (s : Seen) (c : Calls) (call : Store) (r : Reply) → Recs s c → (is_early s.phase ≡ true → ((R c).accepted ≡ []) × (accepts_task s.accepted t ≡ false)) →
      ((a : Attempt) → In a (successes s.tail) → a.task ≡ t → grant.has (R c).accepted a ≡ true) → Both t (next_seen cfg k s (Asks call r)) (task.seen t k (next_calls cfg k s (Asks call r) c t)) →
      TakenEarlier k (with_read cfg (if is_fine r then worked s call else s) call r) → Recs (next_seen cfg k s (Asks call r)) (next_calls cfg k s (Asks call r) c)
  unfolding next_seen next_calls
  as-told s c call r o early was w taken = asks-recs s c call r o early was taken w.wins.during

  pub recs : (h : List Master_step) → AllMade cfg k h → Recs (seen cfg k h) (calls cfg k h)
  unfolding seen calls task.seen
  recs [] m = record { early = λ e. refl; during = λ e. absurd (false≢true e) }
  recs (x ∷ h) m = step x m.0 (recs h m.1) (both cfg k (x ∷ h) t reduces (all-fit cfg k (x ∷ h) m)) (all-fit cfg k (x ∷ h) m)
    where
      b : Both t (seen cfg k h) (R (calls cfg k h))
      b = both cfg k h t reduces (all-fit cfg k h m.1)

      accepted : (a : Attempt) → In a (successes (seen cfg k h).tail) → a.task ≡ t → grant.has (R (calls cfg k h)).accepted a ≡ true
      accepted a i q =
          let kind = ap (λ (u : TaskId). of_reduces u.kind) q ∙ reduces in
          let z = in-successes (seen cfg k h).tail a kind i (λ d n j u. (Each-In (TellsOf cfg k) (seen cfg k h).tail (tails cfg k h m.1) _ u).1) in
          let there = In-has (seen cfg k h).accepted a ((steady cfg k h m.1).tails a z.0 z.1).0 in
          b.agrees.accepted a q (b.agrees.known a there) ∙ there

      step : (x : Master_step) → IsMade cfg k (seen cfg k h) x → Recs (seen cfg k h) (calls cfg k h) → Both t (next_seen cfg k (seen cfg k h) x) (task.seen t k (next_calls cfg k (seen cfg k h) x (calls cfg k h) t)) →
          AllFit cfg k (x ∷ h) → Recs (next_seen cfg k (seen cfg k h) x) (next_calls cfg k (seen cfg k h) x (calls cfg k h))
      step (Came p) u o w fit = came-recs (seen cfg k h) (calls cfg k h) p o
      step (Launches l) u o w fit = launches-recs (seen cfg k h) (calls cfg k h) l o
      step (Expires n) u o w fit = expires-recs (seen cfg k h) (calls cfg k h) n o
      step (Asks call r) u o w fit = as-told (seen cfg k h) (calls cfg k h) call r o (λ e. (b.wins.early e).1) accepted w fit.0

pub reduces_are_recorded : ReducesAreRecorded
reduces_are_recorded cfg k h t reduces made run = succeeded-is t k (calls cfg k h t) reduces ∙ (recs cfg k t reduces h made).during run
