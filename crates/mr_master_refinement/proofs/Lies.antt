-- Where the output of what stands lies: where it was launched, or, if it was taken over, where its record says.
use Rattle.std.proofs.Common.{ℕ, ◌-◌, ◌*◌, ◌≤◌, ◌<◌, ◌≡◌, refl, sym, ◌∙◌, ap, subst, Bool, true, false, ◌&&◌, not, List, [], ◌∷◌, ◌++◌, Option, Some, None, if◌then◌else◌, is_some, nat_eq, nat_lt, nat_le, ◌⊎◌, inl, inr, arith}
use Rattle.std.specs.Option.{option_map}
use Rattle.std.proofs.lemmas.Bool.{false≢true}
use Rattle.mr_ids.specs.Attempt.{Attempt}
use Rattle.mr_ids.specs.declared.id.TaskId.{TaskId}
use Rattle.mr_packet.specs.declared.packet.Packet.{Packet}
use Rattle.mr_packet.specs.declared.packet.Packet.TheVariants as packet
use Rattle.mr_packet.specs.declared.packet.ContainerId.{ContainerId}
use Rattle.mr_history.specs.declared.record.Record.{Record}
use Rattle.mr_history.specs.declared.record.Record.TheVariants.{AttemptStarted, MapSucceeded, ReduceSucceeded, AttemptFailed, JobUnsuccessful}
use Rattle.mr_grant.specs.Attempts.{same_attempt}
use Rattle.mr_grant.proofs.Same.{same-itself}
use Rattle.mr_master_model.specs.Readings.{Place, place_in, place_by, or_else}
use Rattle.mr_world_model.specs.Ids.{task_eq, attempt_eq, is_reduce}
use Rattle.mr_world_model.specs.Content.{bar_of}
use Rattle.mr_world_model.specs.Packets.{Config, Store, Names, Append_record, Flush, Read_history, Reply}
use Rattle.mr_world_model.specs.Hearing.{Seen, Phase, Failing, Launched, Placed, is_running, is_live, is_won, failures, heard, only_known, can_hear, after_end, ended_by, over_with, after_ended, has_container, find_container, find_launched, has, may_accept, placed, end_there, end_maps, still_there, lose_there, without_placed, expired}
use Rattle.mr_world_model.specs.Duties.{Master_step, Came, Launches, Expires, Asks, seen, next_seen, told, with_read, worked, phase_told, is_fine, is_read, newest_maps, attempts_of, without_task, duty_of}
use Rattle.mr_world_model.specs.Claims.{In}
use Rattle.mr_world_model.specs.Made.{IsMade, AllMade, TellsOf, BelongsTo}
use Rattle.mr_world_model.proofs.Basic.{if_cases}
use Rattle.mr_world_model.proofs.Lists.{Each-In, attempt_eq-true}
use Rattle.mr_world_model.proofs.Closed.{Closed, LaunchFits, next-closed, bar-by}
use Rattle.mr_world_model.proofs.Masters.{is_early, told-early, told-phase, came-phase, expires-phase}
use Rattle.mr_world_model.proofs.Accounted.{duty-shape, is_opening}
use Rattle.mr_world_model.proofs.Standing.{keep, kept-in, is_below, is_on, is_of, still-keep, lose-keep, without-keep}
use Rattle.mr_world_model.proofs.Made.{fitted}
use Rattle.mr_world_model.proofs.Distinct.{Distinct}
use Rattle.mr_master_refinement.specs.Points.{launch_as}
use Rattle.mr_master_refinement.proofs.Launches.{places, found-in}

abbrev pub place_as : Placed → Place
place_as p = record { node = p.node; incarnation = p.incarnation }

abbrev pub lies_at : List Launched → List Record → Attempt → Option Place
lies_at ls rs a = place_by (option_map launch_as (find_launched ls a)) (place_in rs a)

-- ---- what was read of maps

abbrev Told : Placed → List Record → Type 0
Told p rs = In (MapSucceeded p.attempt p.node p.incarnation) rs

without-in : (t : TaskId) (ps : List Placed) (p : Placed) → In p (without_task t ps) → In p ps × (task_eq p.attempt.task t ≡ false)
without-in t [] p i = absurd i
without-in t (x ∷ ps) p i = by (task_eq x.attempt.task t) refl i (without-in t ps p)
  where
    by : (b : Bool) → task_eq x.attempt.task t ≡ b → In p (if b then without_task t ps else x ∷ without_task t ps) → (In p (without_task t ps) → In p ps × (task_eq p.attempt.task t ≡ false)) →
        In p (x ∷ ps) × (task_eq p.attempt.task t ≡ false)
    by true e i go = let u = go i in (inr u.0, u.1)
    by false e (inl q) go = (inl q, subst (λ (y : Placed). task_eq y.attempt.task t ≡ false) q e)
    by false e (inr i) go = let u = go i in (inr u.0, u.1)

-- what stands of the newest maps lies where the records say; what stood before, if they say nothing of it
abbrev Newest : List Record → List Placed → Placed → Type 0
Newest rs ps p = ((place_in rs p.attempt ≡ Some (place_as p)) × Told p rs) ⊎ (In p ps × (place_in rs p.attempt ≡ None))

newest-lies : (f : ℕ → ℕ) (rs : List Record) (ps : List Placed) (p : Placed) → In p (newest_maps f rs ps) → Newest rs ps p
unfolding newest_maps same_attempt task_eq
newest-lies f [] ps p i = inr (i, refl)
newest-lies f (MapSucceeded a n j ∷ rs) ps p i = by (newest-lies f rs (if nat_lt j (f n) then without_task a.task ps else record { attempt = a; node = n; incarnation = j } ∷ without_task a.task ps) p i)
  where
    Here : Option Place
    Here = if same_attempt p.attempt a then Some (record { node = n; incarnation = j }) else None

    old : In p (without_task a.task ps) → place_in rs p.attempt ≡ None → Newest (MapSucceeded a n j ∷ rs) ps p
    old i e = let u = without-in a.task ps p i in
        inr (u.0, (λ x. or_else (e x) (if u.1 x && nat_eq p.attempt.number a.number then Some (record { node = n; incarnation = j }) else None)))

    new : record { attempt = a; node = n; incarnation = j } ≡ p → place_in rs p.attempt ≡ None → Newest (MapSucceeded a n j ∷ rs) ps p
    new q e = inl (
      ap (λ o. or_else o Here) e ∙ subst (λ (y : Placed). (if same_attempt y.attempt a then Some (record { node = n; incarnation = j }) else None) ≡ Some (place_as y)) q
          (ap (λ (b : Bool). if b then Some (record { node = n; incarnation = j }) else None) (same-itself a)),
      inl (ap (λ (y : Placed). MapSucceeded y.attempt y.node y.incarnation) q),
    )

    choose : (b : Bool) → In p (if b then without_task a.task ps else record { attempt = a; node = n; incarnation = j } ∷ without_task a.task ps) → place_in rs p.attempt ≡ None → Newest (MapSucceeded a n j ∷ rs) ps p
    choose true i e = old i e
    choose false (inl q) e = new q e
    choose false (inr i) e = old i e

    by : Newest rs (if nat_lt j (f n) then without_task a.task ps else record { attempt = a; node = n; incarnation = j } ∷ without_task a.task ps) p → Newest (MapSucceeded a n j ∷ rs) ps p
    by (inl u) = inl (ap (λ o. or_else o Here) u.0, inr u.1)
    by (inr u) = choose (nat_lt j (f n)) u.0 u.1
newest-lies f (AttemptStarted a n ∷ rs) ps p i = more (newest-lies f rs ps p i)
  where
    more : Newest rs ps p → Newest (AttemptStarted a n ∷ rs) ps p
    more (inl u) = inl (u.0, inr u.1)
    more (inr u) = inr u
newest-lies f (ReduceSucceeded a z ∷ rs) ps p i = more (newest-lies f rs ps p i)
  where
    more : Newest rs ps p → Newest (ReduceSucceeded a z ∷ rs) ps p
    more (inl u) = inl (u.0, inr u.1)
    more (inr u) = inr u
newest-lies f (AttemptFailed a ∷ rs) ps p i = more (newest-lies f rs ps p i)
  where
    more : Newest rs ps p → Newest (AttemptFailed a ∷ rs) ps p
    more (inl u) = inl (u.0, inr u.1)
    more (inr u) = inr u
newest-lies f (JobUnsuccessful ∷ rs) ps p i = more (newest-lies f rs ps p i)
  where
    more : Newest rs ps p → Newest (JobUnsuccessful ∷ rs) ps p
    more (inl u) = inl (u.0, inr u.1)
    more (inr u) = inr u

-- ---- numbers of what is launched

abbrev Later : ℕ → Seen → Type 0
Later k s = (l : Launched) → In l s.launched → 1000 * (k - 1) ≤ l.attempt.number

later-closed : (cfg : Config) (k : ℕ) → Closed cfg (λ s l. 1000 * (k - 1) ≤ l.attempt.number) (Later k)
later-closed cfg k = record {
  asks = λ s a o. o;
  ends = λ s a f due p o. o;
  accepts = λ s a st due o. o;
  knows = λ s f ps o. o;
  calls = λ s p ws st rs ks h due tail o. o;
  expires = λ s ks bs o. o;
  launches = more;
}
  where
    more : (s : Seen) (l : Launched) (due : List Record) → 1000 * (k - 1) ≤ l.attempt.number → Later k s → (m : Launched) → In m (l ∷ s.launched) → 1000 * (k - 1) ≤ m.attempt.number
    more s l due u o m (inl e) = subst (λ (x : Launched). 1000 * (k - 1) ≤ x.attempt.number) e u
    more s l due u o m (inr i) = o m i

later : (cfg : Config) (k : ℕ) (h : List Master_step) → AllMade cfg k h → Later k (seen cfg k h)
unfolding seen
later cfg k [] m = λ l i. absurd i
later cfg k (x ∷ h) m = next-closed cfg (λ s l. 1000 * (k - 1) ≤ l.attempt.number) (Later k) (later-closed cfg k) k (seen cfg k h) x (fits x m.0) (later cfg k h m.1)
  where
    fits : (x : Master_step) → IsMade cfg k (seen cfg k h) x → LaunchFits (λ s l. 1000 * (k - 1) ≤ l.attempt.number) (seen cfg k h) x
    fits (Launches l) u = subst (λ (y : Launched). 1000 * (k - 1) ≤ y.attempt.number) (sym u.0) (omega arith)
    fits (Came p) u = tt
    fits (Expires n) u = tt
    fits (Asks call r) u = tt

not-launched : (k : ℕ) (s : Seen) (a : Attempt) → Later k s → a.number < 1000 * (k - 1) → find_launched s.launched a ≡ None
not-launched k s a o low = by (find_launched s.launched a) refl
  where
    by : (f : Option Launched) → find_launched s.launched a ≡ f → f ≡ None
    by None e = refl
    by (Some l) e = let q = found-in s.launched a l e in absurd (too (o l q.0) (ap (λ (x : Attempt). x.number) q.1))
      where
        too : 1000 * (k - 1) ≤ l.attempt.number → l.attempt.number ≡ a.number → ⊥
        too u v = omega (arith, low, u, v)

-- ---- where what stands lies

-- a map's attempt: taken over, or launched there
abbrev pub Lie : Config → ℕ → List Launched → List Record → Placed → Type 0
Lie cfg k ls rs p = (is_reduce p.attempt ≡ false)
    × ((BelongsTo cfg (k - 1) p.attempt × (find_launched ls p.attempt ≡ None) × (place_in rs p.attempt ≡ Some (place_as p)))
    ⊎ ((l : Launched) × (find_launched ls p.attempt ≡ Some l) × (place_as p ≡ record { node = l.node; incarnation = l.incarnation })))

pub record Lies (cfg : Config) (k : ℕ) (s : Seen) : Type 0 where
  pub early : is_early s.phase ≡ true → s.standing ≡ []
  pub lie : (p : Placed) → In p s.standing → Lie cfg k s.launched s.history p

pub lies-is : (cfg : Config) (k : ℕ) (ls : List Launched) (rs : List Record) (p : Placed) → Lie cfg k ls rs p → lies_at ls rs p.attempt ≡ Some (place_as p)
lies-is cfg k ls rs p (is-map, inl u) = λ i. place_by (option_map launch_as (u.1 i)) (u.2 i)
lies-is cfg k ls rs p (is-map, inr u) = (λ i. place_by (option_map launch_as (u.1 i)) (place_in rs p.attempt)) ∙ ap Some (sym u.2)

-- ---- a step

abbrev AllLie : Config → ℕ → Seen → Type 0
AllLie cfg k s = (p : Placed) → In p s.standing → Lie cfg k s.launched s.history p

fewer : (cfg : Config) (k : ℕ) (s : Seen) (f : Placed → Bool) (qs : List Placed) → qs ≡ keep f s.standing → AllLie cfg k s → AllLie cfg k (record s { standing = qs })
fewer cfg k s f qs e o p i = o p (kept-in f s.standing p (subst (λ l. In p l) e i))

end-lies : (cfg : Config) (k : ℕ) (s : Seen) (a : Attempt) (f : Bool) → AllLie cfg k s → AllLie cfg k (after_end cfg s a f)
end-lies cfg k s a f o = if_cases (AllLie cfg k) (is_live s a) _ _ (λ t. by f) (λ t. o)
  where
    by : (f : Bool) → AllLie cfg k (ended_by cfg s a f)
    by false = o
    by true = if_cases (AllLie cfg k) (nat_le cfg.limit (failures (over_with s a true) a) && not (is_won s (is_reduce a) a.task)) _ _ (λ t. o) (λ t. o)

ended-lies : (cfg : Config) (k : ℕ) (s : Seen) (c : ContainerId) (f : Option Launched) → AllLie cfg k s → AllLie cfg k (after_ended cfg s c f)
ended-lies cfg k s c None o = o
ended-lies cfg k s c (Some l) o = end-lies cfg k s l.attempt (not (has_container s.killed c)) o

there-lies : (cfg : Config) (k n i : ℕ) (ls : List Launched) (s : Seen) → AllLie cfg k s → AllLie cfg k (end_there n i ls s)
there-lies cfg k n i [] s o = o
there-lies cfg k n i (l ∷ ls) s o = if_cases (AllLie cfg k) (nat_eq l.node n && (nat_lt l.incarnation i && is_live s l.attempt)) _ _ (λ t. there-lies cfg k n i ls _ o) (λ t. there-lies cfg k n i ls s o)

maps-lie : (cfg : Config) (k n : ℕ) (ls : List Launched) (s : Seen) → AllLie cfg k s → AllLie cfg k (end_maps n ls s)
maps-lie cfg k n [] s o = o
maps-lie cfg k n (l ∷ ls) s o = if_cases (AllLie cfg k) (nat_eq l.node n && (not (is_reduce l.attempt) && is_live s l.attempt)) _ _ (λ t. maps-lie cfg k n ls _ o) (λ t. maps-lie cfg k n ls s o)

heard-lies : (cfg : Config) (k : ℕ) (s : Seen) (p : Packet) → AllLie cfg k s → AllLie cfg k (heard cfg s p)
unfolding heard
heard-lies cfg k s (packet.Pending a) o = if_cases (AllLie cfg k) (is_some (find_launched s.launched a) && not (has s.asked a)) _ _ (λ t. o) (λ t. o)
heard-lies cfg k s (packet.Poll a) o = if_cases (AllLie cfg k) (is_some (find_launched s.launched a) && not (has s.asked a)) _ _ (λ t. o) (λ t. o)
heard-lies cfg k s (packet.Done a z) o = if_cases (AllLie cfg k) (may_accept s a) _ _ (λ t. here (find_launched s.launched a) refl) (λ t. o)
  where
    own : (l : Launched) (b : Bool) → is_reduce a ≡ b → find_launched s.launched a ≡ Some l → (p : Placed) →
        In p ((if b then [] else record { attempt = a; node = l.node; incarnation = l.incarnation } ∷ []) ++ s.standing) → Lie cfg k s.launched s.history p
    own l true is-reduce e p i = o p i
    own l false is-map e p (inl q) = subst (Lie cfg k s.launched s.history) q (is-map, inr (l, e, refl))
    own l false is-map e p (inr i) = o p i

    here : (f : Option Launched) → find_launched s.launched a ≡ f → (p : Placed) → In p (placed a f ++ s.standing) → Lie cfg k s.launched s.history p
    here None e p i = o p i
    here (Some l) e p i = own l (is_reduce a) refl e p i
heard-lies cfg k s (packet.Failed a) o = end-lies cfg k s a true o
heard-lies cfg k s (packet.Ended c) o = ended-lies cfg k s c (find_container s.launched c) o
heard-lies cfg k s (packet.NodeUp n i) o = if_cases (AllLie cfg k) (nat_lt (s.known n) i) _ _
    (λ t. there-lies cfg k n i s.launched _ (fewer cfg k s (is_below s.recorded n i) (still_there s.recorded n i s.standing) (still-keep s.recorded n i s.standing) o)) (λ t. o)
heard-lies cfg k s (packet.FetchLost c a) o = if_cases (AllLie cfg k) (is_some (find_container s.launched c) && has s.recorded a) _ _
    (λ t. fewer cfg k s (is_of a) (without_placed s.standing a) (without-keep s.standing a) o) (λ t. o)
heard-lies cfg k s _ o = o

known-lies : (cfg : Config) (k : ℕ) (s : Seen) (p : Packet) → AllLie cfg k s → AllLie cfg k (only_known s p)
known-lies cfg k s (packet.NodeUp n i) o = if_cases (AllLie cfg k) (can_hear s.phase && nat_lt (s.known n) i) _ _ (λ t. o) (λ t. o)
known-lies cfg k s _ o = o

launch-lies : (cfg : Config) (k : ℕ) (s : Seen) (l : Launched) (due : List Record) → 1000 * (k - 1) ≤ l.attempt.number → Distinct k (l ∷ s.launched) → AllLie cfg k s → AllLie cfg k (record s { launched = l ∷ s.launched; due = due })
launch-lies cfg k s l due high d o p i = by (attempt_eq p.attempt l.attempt) refl (o p i)
  where
    by : (b : Bool) → attempt_eq p.attempt l.attempt ≡ b → Lie cfg k s.launched s.history p → Lie cfg k (l ∷ s.launched) s.history p
    by true e (is-map, inl u) = absurd (low u.0.0 (ap (λ (x : Attempt). x.number) (attempt_eq-true p.attempt l.attempt e)))
      where
        low : p.attempt.number < 1000 * (k - 1) → p.attempt.number ≡ l.attempt.number → ⊥
        low v w = omega (arith, high, v, w)
    by true e (is-map, inr u) =
        let q = found-in s.launched p.attempt u.0 u.1 in
        let one = d.attempts l u.0 (inl refl) (inr q.0) (sym (q.1 ∙ attempt_eq-true p.attempt l.attempt e)) in
        (is-map, inr (l, (λ x. if e x then Some l else find_launched s.launched p.attempt), u.2 ∙ (λ x. record { node = (sym one x).node; incarnation = (sym one x).incarnation })))
    by false e (is-map, inl u) = (is-map, inl (u.0, (λ x. if e x then Some l else u.1 x), u.2))
    by false e (is-map, inr u) = (is-map, inr (u.0, (λ x. if e x then Some l else u.1 x), u.2))

worked-lies : (cfg : Config) (k : ℕ) (s : Seen) (call : Store) → AllLie cfg k s → AllLie cfg k (worked s call)
worked-lies cfg k s (Append_record r) o = o
worked-lies cfg k s Flush o = o
worked-lies cfg k s (Names op) o = bar-by (AllLie cfg k) s (bar_of op) (λ a t ks. o) o
worked-lies cfg k s Read_history o = o

opens-early : (p : Phase) → is_opening p ≡ true → is_early p ≡ true
opens-early (Phase.Opening n) e = refl
opens-early _ e = absurd (false≢true e)

reads-early : (cfg : Config) (k : ℕ) (s : Seen) (call : Store) → duty_of cfg k s s.phase ≡ Some call → is_read call ≡ true → is_early s.phase ≡ true
reads-early cfg k s Read_history d e = opens-early s.phase (duty-shape cfg k s Read_history d)
reads-early cfg k s (Append_record r) d e = absurd (false≢true e)
reads-early cfg k s Flush d e = absurd (false≢true e)
reads-early cfg k s (Names op) d e = absurd (false≢true e)

worked-stands : (s : Seen) (call : Store) → (worked s call).standing ≡ s.standing
worked-stands s (Append_record r) = refl
worked-stands s Flush = refl
worked-stands s (Names op) = bar-by (λ (u : Seen). u.standing ≡ s.standing) s (bar_of op) (λ a t ks. refl) refl
worked-stands s Read_history = refl

module _ (cfg : Config) (k : ℕ) (s : Seen) (call : Store) (r : Reply) (d : duty_of cfg k s s.phase ≡ Some call) (o : Lies cfg k s) where
  abbrev F : Seen
  F = if is_fine r then worked s call else s

  abbrev U : Seen
  U = with_read cfg F call r

  fine-lies : AllLie cfg k F
  fine-lies = if_cases (AllLie cfg k) (is_fine r) _ _ (λ t. worked-lies cfg k s call o.lie) (λ t. o.lie)

  fine-stands : F.standing ≡ s.standing
  fine-stands = if_cases (λ (u : Seen). u.standing ≡ s.standing) (is_fine r) _ _ (λ t. worked-stands s call) (λ t. refl)

  read-stands : U.standing ≡ s.standing
  read-stands = if_cases (λ (u : Seen). u.standing ≡ s.standing) (is_read call) _ _ (λ t. fine-stands) (λ t. fine-stands)

  read-lies : AllLie cfg k U
  read-lies = if_cases (AllLie cfg k) (is_read call) _ _
      (λ t p i. absurd (subst (λ l. In p l) (fine-stands ∙ o.early (reads-early cfg k s call d t)) i)) (λ t. fine-lies)

  told-lies : Later k (told cfg k s call r) → ((x : Record) → In x (told cfg k s call r).history → TellsOf cfg (k - 1) x) → AllLie cfg k (told cfg k s call r)
  unfolding told
  told-lies late fit = by (is_running (phase_told k s s.phase call r) && not (is_running U.phase)) refl late fit
    where
      P : Phase
      P = phase_told k s s.phase call r

      starts : Later k (record U { phase = P }) → ((x : Record) → In x U.history → TellsOf cfg (k - 1) x) → (p : Placed) → In p (newest_maps U.known U.history []) → Lie cfg k U.launched U.history p
      starts late fit p i = at (newest-lies U.known U.history [] p i)
        where
          at : Newest U.history [] p → Lie cfg k U.launched U.history p
          at (inl u) = let own = fit (MapSucceeded p.attempt p.node p.incarnation) u.1 in (own.1, inl (own.0, not-launched k (record U { phase = P }) p.attempt late own.0.0, u.0))
          at (inr u) = absurd u.0

      by : (b : Bool) → (is_running P && not (is_running U.phase)) ≡ b →
          Later k (if b then record U { phase = P; standing = newest_maps U.known U.history []; recorded = attempts_of (newest_maps U.known U.history []) } else record U { phase = P }) →
          ((x : Record) → In x (if b then record U { phase = P; standing = newest_maps U.known U.history []; recorded = attempts_of (newest_maps U.known U.history []) } else record U { phase = P }).history → TellsOf cfg (k - 1) x) →
          AllLie cfg k (if b then record U { phase = P; standing = newest_maps U.known U.history []; recorded = attempts_of (newest_maps U.known U.history []) } else record U { phase = P })
      by true e late fit = starts late fit
      by false e late fit = read-lies

  told-stands : is_early (phase_told k s s.phase call r) ≡ true → (told cfg k s call r).standing ≡ []
  unfolding told
  told-stands e = if_cases (λ (u : Seen). u.standing ≡ []) (is_running (phase_told k s s.phase call r) && not (is_running U.phase)) _ _
      (λ t. absurd (runs-late (phase_told k s s.phase call r) e t)) (λ t. read-stands ∙ o.early (told-early k s s.phase call r e))
    where
      runs-late : (p : Phase) → is_early p ≡ true → (is_running p && not (is_running U.phase)) ≡ true → ⊥
      runs-late Phase.Running e t = false≢true e
      runs-late p e t = false≢true t

runs-late : (p : Phase) → is_running p ≡ true → is_early p ≡ true → ⊥
runs-late Phase.Running t e = false≢true e
runs-late p t e = false≢true t

known-stands : (s : Seen) (p : Packet) → (only_known s p).standing ≡ s.standing
known-stands s (packet.NodeUp n i) = if_cases (λ (u : Seen). u.standing ≡ s.standing) (can_hear s.phase && nat_lt (s.known n) i) _ _ (λ t. refl) (λ t. refl)
known-stands s _ = refl

came-stands : (cfg : Config) (k : ℕ) (s : Seen) (p : Packet) → (is_early s.phase ≡ true → s.standing ≡ []) → is_early (next_seen cfg k s (Came p)).phase ≡ true → (next_seen cfg k s (Came p)).standing ≡ []
unfolding next_seen
came-stands cfg k s p o e = by (came-phase cfg k s p)
  where
    still : (b : Bool) → is_running s.phase ≡ b → is_early s.phase ≡ true → (if b then heard cfg s p else only_known s p).standing ≡ []
    still true t f = absurd (runs-late s.phase t f)
    still false t f = known-stands s p ∙ o f

    by : ((next_seen cfg k s (Came p)).phase ≡ s.phase) ⊎ ((is_running s.phase ≡ true) × ((next_seen cfg k s (Came p)).phase ≡ Failing false)) → (next_seen cfg k s (Came p)).standing ≡ []
    by (inl q) = still (is_running s.phase) refl (ap (λ z. is_early z) (sym q) ∙ e)
    by (inr q) = absurd (false≢true (ap (λ z. is_early z) (sym q.1) ∙ e))

next-lies : (cfg : Config) (k : ℕ) (s : Seen) (x : Master_step) → IsMade cfg k s x → Later k (next_seen cfg k s x) → Distinct k (next_seen cfg k s x).launched →
    ((y : Record) → In y (next_seen cfg k s x).history → TellsOf cfg (k - 1) y) → Lies cfg k s → Lies cfg k (next_seen cfg k s x)
unfolding next_seen expired
next-lies cfg k s (Came p) m late d fit o = record { early = came-stands cfg k s p o.early; lie = if_cases (AllLie cfg k) (is_running s.phase) _ _ (λ t. heard-lies cfg k s p o.lie) (λ t. known-lies cfg k s p o.lie) }
next-lies cfg k s (Launches l) m late d fit o = record { early = λ e. absurd (runs-late s.phase m.2 e); lie = launch-lies cfg k s l (s.due ++ AttemptStarted l.attempt l.node ∷ []) (late l (inl refl)) d o.lie }
next-lies cfg k s (Expires n) m late d fit o = record {
  early = λ e. absurd (runs-late s.phase m.0 (ap (λ z. is_early z) (sym (expires-phase cfg k s n)) ∙ e));
  lie = maps-lie cfg k n s.launched _ (fewer cfg k s (is_on s.recorded n) (lose_there s.recorded n s.standing) (lose-keep s.recorded n s.standing) o.lie);
}
next-lies cfg k s (Asks call r) m late d fit o = record {
  early = λ e. told-stands cfg k s call r m.0 o (ap (λ z. is_early z) (sym (told-phase cfg k s call r)) ∙ e);
  lie = told-lies cfg k s call r m.0 o late fit;
}

pub lies : (cfg : Config) (k : ℕ) (h : List Master_step) → AllMade cfg k h → Lies cfg k (seen cfg k h)
unfolding seen
lies cfg k [] m = record { early = λ e. refl; lie = λ p i. absurd i }
lies cfg k (x ∷ h) m = next-lies cfg k (seen cfg k h) x m.0 (later cfg k (x ∷ h) m) (places cfg k (x ∷ h) m).0
    (λ y i. Each-In (TellsOf cfg (k - 1)) _ (fitted cfg k (x ∷ h) m).read y i) (lies cfg k h m.1)
