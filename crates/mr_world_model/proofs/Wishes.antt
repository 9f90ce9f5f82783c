-- What a container's wish says of its past: it computed, and its rename was answered.
use Rattle.std.proofs.Common.{ℕ, ◌≡◌, refl, sym, ◌∙◌, ap, subst, Bool, true, false, ◌||◌, List, [], ◌∷◌, None, if◌then◌else◌, nat_eq, ◌⊎◌, inl, inr}
use Rattle.std.proofs.lemmas.Bool.{false≢true, true≢false}
use Rattle.mr_world_model.specs.Ids.{Attempt, attempt_eq, is_reduce}
use Rattle.mr_world_model.specs.Packets.{Answer, MapReady, Piece, FetchLost, DoneAck}
use Rattle.mr_world_model.specs.Content.{Op}
use Rattle.mr_container.specs.declared.reply.Reply.{Reply}
use Rattle.mr_container.specs.Readings.{is_fine, is_found, is_cleared}
use Rattle.mr_world_model.specs.Pasts.{Step, Got, Sent, Computed, Called, Wish, To_ask_where, To_fetch, To_say_lost, To_compute, To_mkdirs, To_create, To_write, To_close, To_need, To_pend, To_poll, To_look, To_clear, To_rename, To_report, To_abort, To_fail, Over, wish, wished_op, was_computed, computed}
use Rattle.mr_world_model.proofs.Nexts.{wish-first, wish-step, next_wish, is_awaited, if_fine, if_found, if_cleared}
use Rattle.mr_world_model.specs.Effect.{wants_compute}
use Rattle.mr_world_model.proofs.Pieces.{piece-wish}
use Rattle.mr_world_model.proofs.Basic.{if_cases, or_parts}

-- past its computing
abbrev pub is_late : Wish → Bool
is_late (To_ask_where m) = false
is_late (To_fetch m a n i got) = false
is_late (To_say_lost m a) = false
is_late To_compute = false
is_late _ = true

-- a result is handed in only where it is wished
abbrev pub StepOk : Wish → Step → Type 0
StepOk w (Computed bytes) = wants_compute w ≡ true
StepOk w (Got p) = Unit {0}
StepOk w (Sent p) = Unit {0}
StepOk w (Called op r) = Unit {0}

abbrev pub is_result : Step → Bool
is_result (Computed bytes) = true
is_result (Got p) = false
is_result (Sent p) = false
is_result (Called op r) = false

fine-late : (r : Reply) (w : Wish) → is_late w ≡ true → is_late (if_fine r w) ≡ true
fine-late r w e = if_cases (λ v. is_late v ≡ true) (is_fine r) _ _ (λ t. e) (λ t. refl)

found-late : (r : Reply) (w : Wish) → is_late w ≡ true → is_late (if_found r w) ≡ true
found-late r w e = if_cases (λ v. is_late v ≡ true) (is_found r) _ _ (λ t. e) (λ t. refl)

cleared-late : (r : Reply) (w : Wish) → is_late w ≡ true → is_late (if_cleared r w) ≡ true
cleared-late r w e = if_cases (λ v. is_late v ≡ true) (is_cleared r) _ _ (λ t. e) (λ t. refl)

pub late-next : (maps : ℕ) (x : Attempt) (w : Wish) (s : Step) → StepOk w s → (is_result s || is_late w) ≡ is_late (next_wish maps x w s)
unfolding next_wish
late-next maps x To_compute (Computed bytes) o = if_cases (λ v. true ≡ is_late v) (is_reduce x) _ _ (λ t. refl) (λ t. refl)
late-next maps x (To_ask_where m) (Got (MapReady m' a n i)) o = if_cases (λ v. false ≡ is_late v) (nat_eq m m') _ _ (λ t. refl) (λ t. refl)
late-next maps x (To_fetch m a n i got) (Got (Piece a' q off total bytes)) o = piece-wish (λ v. false ≡ is_late v) maps m a n i got (is_awaited x a got a' q off) total bytes refl refl (λ g. refl)
late-next maps x (To_fetch m a n i got) (Got (FetchLost c a')) o = if_cases (λ v. false ≡ is_late v) (attempt_eq a a') _ _ (λ t. refl) (λ t. refl)
late-next maps x (To_say_lost m a) (Sent p) o = refl
late-next maps x To_mkdirs (Called op r) o = sym (fine-late r To_create refl)
late-next maps x To_create (Called op r) o = sym (fine-late r To_write refl)
late-next maps x To_write (Called op r) o = sym (fine-late r To_close refl)
late-next maps x To_close (Called op r) o = sym (fine-late r To_need refl)
late-next maps x To_need (Called op r) o = sym (found-late r To_pend refl)
late-next maps x To_pend (Sent p) o = refl
late-next maps x To_poll (Sent p) o = refl
late-next maps x To_pend (Got (Answer a true)) o = if_cases (λ v. true ≡ is_late v) (attempt_eq x a) _ _ (λ t. refl) (λ t. refl)
late-next maps x To_pend (Got (Answer a false)) o = if_cases (λ v. true ≡ is_late v) (attempt_eq x a) _ _ (λ t. refl) (λ t. refl)
late-next maps x To_poll (Got (Answer a true)) o = if_cases (λ v. true ≡ is_late v) (attempt_eq x a) _ _ (λ t. refl) (λ t. refl)
late-next maps x To_poll (Got (Answer a false)) o = if_cases (λ v. true ≡ is_late v) (attempt_eq x a) _ _ (λ t. refl) (λ t. refl)
late-next maps x To_look (Called op r) o = sym (found-late r To_clear refl)
late-next maps x To_clear (Called op r) o = sym (cleared-late r To_rename refl)
late-next maps x To_rename (Called op r) o = sym (fine-late r To_report refl)
late-next maps x To_report (Got (DoneAck a)) o = if_cases (λ v. true ≡ is_late v) (attempt_eq x a) _ _ (λ t. refl) (λ t. refl)
late-next maps x To_abort (Called op r) o = refl
late-next maps x To_fail (Sent p) o = refl
late-next maps x w (Computed bytes) o = absurd (false≢true o)
late-next maps x w s o = refl

pub computed-step : (s : Step) (h : List Step) → was_computed (s ∷ h) ≡ (is_result s || was_computed h)
unfolding was_computed
computed-step (Computed bytes) h = refl
computed-step (Got p) h = refl
computed-step (Sent p) h = refl
computed-step (Called op r) h = refl

pub computed-same : (s : Step) (h : List Step) → is_result s ≡ false → computed (s ∷ h) ≡ computed h
unfolding computed
computed-same (Computed bytes) h e = absurd (true≢false e)
computed-same (Got p) h e = refl
computed-same (Sent p) h e = refl
computed-same (Called op r) h e = refl

pub wants-early : (w : Wish) → wants_compute w ≡ true → is_late w ≡ false
wants-early To_compute e = refl
wants-early w e = absurd (false≢true e)

-- The rename was answered

abbrev pub renames : Wish → Step → Bool
renames To_rename (Called op r) = is_fine r
renames w s = false

unfoldable pub renamed : ℕ → Attempt → List Step → Bool
renamed maps x [] = false
renamed maps x (s ∷ h) = renamed maps x h || renames (wish maps x h) s

abbrev pub is_report : Wish → Bool
is_report To_report = true
is_report _ = false

abbrev pub is_done : Wish → Bool
is_done To_report = true
is_done Over = true
is_done _ = false

none-report : {P : Type 0} (b : Bool) → b ≡ false → b ≡ true → P
none-report b e f = absurd (false≢true (sym e ∙ f))

fine-report : (r : Reply) (w : Wish) → is_report w ≡ false → is_report (if_fine r w) ≡ false
fine-report r w e = if_cases (λ v. is_report v ≡ false) (is_fine r) _ _ (λ t. e) (λ t. refl)

found-report : (r : Reply) (w : Wish) → is_report w ≡ false → is_report (if_found r w) ≡ false
found-report r w e = if_cases (λ v. is_report v ≡ false) (is_found r) _ _ (λ t. e) (λ t. refl)

cleared-report : (r : Reply) (w : Wish) → is_report w ≡ false → is_report (if_cleared r w) ≡ false
cleared-report r w e = if_cases (λ v. is_report v ≡ false) (is_cleared r) _ _ (λ t. e) (λ t. refl)

rename-report : (op : Op) (r : Reply) → is_report (if_fine r To_report) ≡ true → renames To_rename (Called op r) ≡ true
rename-report op r e = by (is_fine r) e
  where
    by : (t : Bool) → is_report (if t then To_report else To_abort) ≡ true → t ≡ true
    by true e = refl
    by false e = absurd (false≢true e)

pub report-next : (maps : ℕ) (x : Attempt) (w : Wish) (s : Step) → is_reduce x ≡ true → is_report (next_wish maps x w s) ≡ true → (is_report w ≡ true) ⊎ (renames w s ≡ true)
unfolding next_wish
report-next maps x To_report s r e = inl refl
report-next maps x To_rename (Called op q) r e = inr (rename-report op q e)
report-next maps x To_look (Called op q) r e = none-report _ (found-report q To_clear refl) e
report-next maps x To_clear (Called op q) r e = none-report _ (cleared-report q To_rename refl) e
report-next maps x (To_ask_where m) (Got (MapReady m' a n i)) r e = none-report _ (if_cases (λ w. is_report w ≡ false) (nat_eq m m') _ _ (λ t. refl) (λ t. refl)) e
report-next maps x (To_fetch m a n i got) (Got (Piece a' q off total bytes)) r e = none-report _ (piece-wish (λ w. is_report w ≡ false) maps m a n i got (is_awaited x a got a' q off) total bytes refl refl (λ g. refl)) e
report-next maps x (To_fetch m a n i got) (Got (FetchLost c a')) r e = none-report _ (if_cases (λ w. is_report w ≡ false) (attempt_eq a a') _ _ (λ t. refl) (λ t. refl)) e
report-next maps x To_compute (Computed bytes) r e = none-report _ (subst (λ b. is_report (if b then To_mkdirs else To_report) ≡ false) (sym r) refl) e
report-next maps x To_mkdirs (Called op q) r e = none-report _ (fine-report q To_create refl) e
report-next maps x To_create (Called op q) r e = none-report _ (fine-report q To_write refl) e
report-next maps x To_write (Called op q) r e = none-report _ (fine-report q To_close refl) e
report-next maps x To_close (Called op q) r e = none-report _ (fine-report q To_need refl) e
report-next maps x To_need (Called op q) r e = none-report _ (found-report q To_pend refl) e
report-next maps x (To_say_lost m a) (Sent p) r e = absurd (false≢true e)
report-next maps x To_pend (Sent p) r e = absurd (false≢true e)
report-next maps x To_poll (Sent p) r e = absurd (false≢true e)
report-next maps x To_pend (Got (Answer a true)) r e = none-report _ (if_cases (λ w. is_report w ≡ false) (attempt_eq x a) _ _ (λ t. refl) (λ t. refl)) e
report-next maps x To_poll (Got (Answer a true)) r e = none-report _ (if_cases (λ w. is_report w ≡ false) (attempt_eq x a) _ _ (λ t. refl) (λ t. refl)) e
report-next maps x To_pend (Got (Answer a false)) r e = none-report _ (if_cases (λ w. is_report w ≡ false) (attempt_eq x a) _ _ (λ t. refl) (λ t. refl)) e
report-next maps x To_poll (Got (Answer a false)) r e = none-report _ (if_cases (λ w. is_report w ≡ false) (attempt_eq x a) _ _ (λ t. refl) (λ t. refl)) e
report-next maps x To_abort (Called op q) r e = absurd (false≢true e)
report-next maps x To_fail (Sent p) r e = absurd (false≢true e)
report-next maps x w s r e = absurd (false≢true e)

renames-done : (maps : ℕ) (x : Attempt) (w : Wish) (s : Step) → renames w s ≡ true → is_done (next_wish maps x w s) ≡ true
unfolding next_wish
renames-done maps x To_rename (Called op r) e = rw e refl
renames-done maps x w s e = absurd (false≢true e)

done-next : (maps : ℕ) (x : Attempt) (w : Wish) (s : Step) → is_done w ≡ true → is_done (next_wish maps x w s) ≡ true
unfolding next_wish
done-next maps x To_report (Got (DoneAck a)) e = if_cases (λ v. is_done v ≡ true) (attempt_eq x a) _ _ (λ t. refl) (λ t. refl)
done-next maps x To_report s e = refl
done-next maps x Over s e = refl
done-next maps x w s e = absurd (false≢true e)

-- after it nothing is called
pub renamed-done : (maps : ℕ) (x : Attempt) (h : List Step) → renamed maps x h ≡ true → is_done (wish maps x h) ≡ true
unfolding renamed
renamed-done maps x [] e = absurd (false≢true e)
renamed-done maps x (s ∷ h) e = ap is_done (wish-step maps x h s) ∙ by (or_parts _ _ e) (renamed-done maps x h)
  where
    by : (renamed maps x h ≡ true) ⊎ (renames (wish maps x h) s ≡ true) → (renamed maps x h ≡ true → is_done (wish maps x h) ≡ true) → is_done (next_wish maps x (wish maps x h) s) ≡ true
    by (inl t) f = done-next maps x (wish maps x h) s (f t)
    by (inr t) f = renames-done maps x (wish maps x h) s t

pub done-late : (w : Wish) → is_done w ≡ true → is_late w ≡ true
done-late To_report e = refl
done-late Over e = refl
done-late w e = absurd (false≢true e)

pub done-no_op : (k : ℕ) (a : Attempt) (bytes : List ℕ) (w : Wish) → is_done w ≡ true → wished_op k a bytes w ≡ None
unfolding wished_op
done-no_op k a bytes To_report e = refl
done-no_op k a bytes Over e = refl
done-no_op k a bytes w e = absurd (false≢true e)

-- A map makes no call

abbrev pub is_maps : Wish → Bool
is_maps To_compute = true
is_maps To_report = true
is_maps Over = true
is_maps _ = false

maps-next : (maps : ℕ) (x : Attempt) (w : Wish) (s : Step) → is_reduce x ≡ false → is_maps w ≡ true → is_maps (next_wish maps x w s) ≡ true
unfolding next_wish
maps-next maps x To_compute (Computed bytes) r e = rw r refl
maps-next maps x To_compute s r e = refl
maps-next maps x To_report (Got (DoneAck a)) r e = if_cases (λ v. is_maps v ≡ true) (attempt_eq x a) _ _ (λ t. refl) (λ t. refl)
maps-next maps x To_report s r e = refl
maps-next maps x Over s r e = refl
maps-next maps x w s r e = absurd (false≢true e)

pub map-wish : (maps : ℕ) (x : Attempt) (h : List Step) → is_reduce x ≡ false → is_maps (wish maps x h) ≡ true
map-wish maps x [] r = ap is_maps (wish-first maps x) ∙ rw r refl
map-wish maps x (s ∷ h) r = ap is_maps (wish-step maps x h s) ∙ maps-next maps x (wish maps x h) s r (map-wish maps x h r)

pub maps-no_op : (k : ℕ) (a : Attempt) (bytes : List ℕ) (w : Wish) → is_maps w ≡ true → wished_op k a bytes w ≡ None
unfolding wished_op
maps-no_op k a bytes To_compute e = refl
maps-no_op k a bytes To_report e = refl
maps-no_op k a bytes Over e = refl
maps-no_op k a bytes w e = absurd (false≢true e)
