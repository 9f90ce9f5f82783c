-- What a reduce's container has written is at most a file long: a longer write is refused.
use Rattle.std.proofs.Common.{ℕ, ◌≤◌, ◌≡◌, refl, sym, ◌∙◌, ap, subst, Bool, true, false, ◌||◌, List, [], ◌∷◌, Option, Some, None, ◌+◌, nat_lt, if◌then◌else◌, ◌⊎◌, inl, inr, length, arith}
use Rattle.std.proofs.lemmas.Bool.{false≢true, true≢false, ltb-false}
use Rattle.mr_names.specs.declared.namespace.TheConstants.{MAX_FILE_LEN}
use Rattle.mr_world_model.specs.Ids.{Attempt, ContainerId, is_reduce}
use Rattle.mr_world_model.specs.Content.{Content, Op, Append, refusal, bytes_of, entry_at}
use Rattle.mr_world_model.specs.Packets.{Config, Reply, MapReady, Piece, FetchLost}
use Rattle.mr_world_model.specs.Pasts.{Place, Step, Got, Sent, Computed, Called, Wish, To_ask_where, To_fetch, To_say_lost, To_compute, To_mkdirs, To_create, To_write, To_close, To_need, To_pend, To_poll, To_look, To_clear, To_rename, To_report, To_abort, To_fail, Over, wish, computed, wished_op, part_at}
use Rattle.mr_container.specs.declared.reply.Reply as reply
use Rattle.mr_container.specs.Readings as container
use Rattle.mr_world_model.proofs.Nexts.{next_wish, if_fine, ask_from, is_awaited, wish-step, wish-first}
use Rattle.mr_world_model.specs.World.{World, Event, caller_as, opening_world, as_heard}
use Rattle.mr_world_model.specs.Effect.{effect, not_now}
use Rattle.mr_world_model.specs.Claims.{Limits, world_of}
use Rattle.mr_world_model.proofs.Basic.{if_cases, along, or_parts}
use Rattle.mr_world_model.proofs.Wishes.{StepOk, renamed, renames, renamed-done, is_done, computed-same}
use Rattle.mr_world_model.proofs.Reports.{wish_as, renamed_as, place_was}
use Rattle.mr_world_model.proofs.Regions
use Rattle.mr_world_model.proofs.Regions.{Answered, answered-to}
use Rattle.mr_world_model.proofs.Own.{PastCase, stays, takes, called, past_case, IsPlain}
use Rattle.mr_world_model.proofs.Dirs.{Known}
use Rattle.mr_world_model.proofs.Found.{Sure, sure, opening-sure}

-- the wishes once the write was answered
abbrev pub has_written : Wish → Bool
has_written To_close = true
has_written To_need = true
has_written To_pend = true
has_written To_poll = true
has_written To_look = true
has_written To_clear = true
has_written To_rename = true
has_written To_report = true
has_written _ = false

abbrev IsShort : List ℕ → Type 0
IsShort bytes = nat_lt MAX_FILE_LEN (length bytes) ≡ false

-- which step leads there
none-written : {P : Type 0} (b : Bool) → b ≡ false → b ≡ true → P
none-written b e f = absurd (false≢true (sym e ∙ f))

fine-written : (r : reply.Reply) (v : Wish) → has_written v ≡ false → has_written (if_fine r v) ≡ false
fine-written r v e = if_cases (λ z. has_written z ≡ false) (container.is_fine r) _ _ (λ t. e) (λ t. refl)

is_fine-of : (r : reply.Reply) (v : Wish) → has_written (if_fine r v) ≡ true → container.is_fine r ≡ true
is_fine-of r v e = by (container.is_fine r) e
  where
    by : (t : Bool) → has_written (if t then v else To_abort) ≡ true → t ≡ true
    by true e = refl
    by false e = absurd (false≢true e)

call-written : (maps : ℕ) (x : Attempt) (v : Wish) (op : Op) (r : reply.Reply) → has_written (next_wish maps x v (Called op r)) ≡ true → (has_written v ≡ true) ⊎ ((v ≡ To_write) × (container.is_fine r ≡ true))
unfolding next_wish
call-written maps x To_write op r e = inr (refl, is_fine-of r To_close e)
call-written maps x To_mkdirs op r e = none-written _ (fine-written r To_create refl) e
call-written maps x To_create op r e = none-written _ (fine-written r To_write refl) e
call-written maps x To_close op r e = inl refl
call-written maps x To_need op r e = inl refl
call-written maps x To_pend op r e = inl refl
call-written maps x To_poll op r e = inl refl
call-written maps x To_look op r e = inl refl
call-written maps x To_clear op r e = inl refl
call-written maps x To_rename op r e = inl refl
call-written maps x To_report op r e = inl refl
call-written maps x (To_ask_where m) op r e = absurd (false≢true e)
call-written maps x (To_fetch m a n i got) op r e = absurd (false≢true e)
call-written maps x (To_say_lost m a) op r e = absurd (false≢true e)
call-written maps x To_compute op r e = absurd (false≢true e)
call-written maps x To_abort op r e = absurd (false≢true e)
call-written maps x To_fail op r e = absurd (false≢true e)
call-written maps x Over op r e = absurd (false≢true e)

ask-written : (maps m : ℕ) → has_written (ask_from maps m) ≡ false
ask-written maps m = if_cases (λ v. has_written v ≡ false) (nat_lt m maps) _ _ (λ t. refl) (λ t. refl)

plain-written : (maps : ℕ) (x : Attempt) (v : Wish) (s : Step) → IsPlain s → is_reduce x ≡ true → has_written (next_wish maps x v s) ≡ true → has_written v ≡ true
unfolding next_wish
plain-written maps x v (Called op r) i d e = absurd i
plain-written maps x To_close s i d e = refl
plain-written maps x To_need s i d e = refl
plain-written maps x To_pend s i d e = refl
plain-written maps x To_poll s i d e = refl
plain-written maps x To_look s i d e = refl
plain-written maps x To_clear s i d e = refl
plain-written maps x To_rename s i d e = refl
plain-written maps x To_report s i d e = refl
plain-written maps x To_compute (Computed bytes) i d e = none-written _ (if_cases (λ z. has_written z ≡ false) (is_reduce x) _ _ (λ t. refl) (λ t. absurd (true≢false (sym d ∙ t)))) e
plain-written maps x (To_ask_where m) (Got (MapReady m' a n j)) i d e = none-written _ (if_cases (λ z. has_written z ≡ false) (Rattle.std.proofs.Common.nat_eq m m') _ _ (λ t. refl) (λ t. refl)) e
plain-written maps x (To_fetch m a n j got) (Got (Piece a' q off total bytes)) i d e = none-written _ (Rattle.mr_world_model.proofs.Pieces.piece-wish (λ z. has_written z ≡ false) maps m a n j got (is_awaited x a got a' q off) total bytes refl refl (λ g. refl)) e
plain-written maps x (To_fetch m a n j got) (Got (FetchLost c a')) i d e = none-written _ (if_cases (λ z. has_written z ≡ false) (Rattle.mr_world_model.specs.Ids.attempt_eq a a') _ _ (λ t. refl) (λ t. refl)) e
plain-written maps x (To_say_lost m a) (Sent p) i d e = absurd (false≢true e)
plain-written maps x To_fail (Sent p) i d e = absurd (false≢true e)
plain-written maps x v s i d e = e

-- an append that was answered was short
fine-refusal : (c c' : Content) (op : Op) (r : Reply) → Answered c op c' r → container.is_fine (as_heard r) ≡ true → refusal c op ≡ None
fine-refusal c c' op _ (Regions.good e l) q = e
fine-refusal c c' op _ (Regions.no f l) q = absurd (false≢true q)
fine-refusal c c' op _ Regions.lost q = absurd (false≢true q)

append-short : (c : Content) (p : Rattle.mr_world_model.specs.Ids.Path) (bytes : List ℕ) → refusal c (Append p bytes) ≡ None → IsShort bytes
unfolding refusal
append-short c p bytes e = let f = Rattle.mr_names.proofs.CallLaws.answered_only c (Rattle.mr_names.specs.declared.op.Op.TheVariants.Append p bytes) e in
    let l = f.fits in short (length bytes) (length (bytes_of (entry_at c p))) l
  where
    short : (n m : ℕ) → m + n ≤ MAX_FILE_LEN → nat_lt MAX_FILE_LEN n ≡ false
    short n m l = by (nat_lt MAX_FILE_LEN n) refl
      where
        by : (b : Bool) → nat_lt MAX_FILE_LEN n ≡ b → nat_lt MAX_FILE_LEN n ≡ false
        by false q = q
        by true q = let g = Rattle.std.proofs.lemmas.Bool.ltb-true MAX_FILE_LEN n q in absurd (omega (arith, g, l))

-- So over every list

abbrev pub Sized : Config → World → Type 0
Sized cfg w = (c : ContainerId) (p : Place) → w.place c ≡ Some p → is_reduce p.attempt ≡ true → (has_written (wish_as cfg w c p) ≡ true) ⊎ (renamed_as cfg w c p ≡ true) → IsShort (computed (w.container_past c))

abbrev Out : ℕ → Attempt → List Step → Type 0
Out maps x h = (has_written (wish maps x h) ≡ true) ⊎ (renamed maps x h ≡ true) → IsShort (computed h)

rename-written : (v : Wish) (s : Step) → renames v s ≡ true → has_written v ≡ true
rename-written To_rename s e = refl
rename-written v s e = absurd (false≢true e)

plain-renames : (v : Wish) (s : Step) → IsPlain s → renames v s ≡ false
plain-renames v (Called op r) i = absurd i
plain-renames To_rename (Got p) i = refl
plain-renames To_rename (Sent p) i = refl
plain-renames To_rename (Computed b) i = refl
plain-renames v s i = refl

-- what was handed in is not handed in again
not-done : (v : Wish) (s : Step) → StepOk v s → is_done v ≡ true → Rattle.mr_world_model.proofs.Wishes.is_result s ≡ false
not-done v (Got p) k e = refl
not-done v (Sent p) k e = refl
not-done v (Called op r) k e = refl
not-done To_report (Computed b) k e = absurd (false≢true k)
not-done Over (Computed b) k e = absurd (false≢true k)
not-done v (Computed b) k e = absurd (false≢true e)

not-written : (v : Wish) (s : Step) → StepOk v s → has_written v ≡ true → Rattle.mr_world_model.proofs.Wishes.is_result s ≡ false
not-written v (Got p) k e = refl
not-written v (Sent p) k e = refl
not-written v (Called op r) k e = refl
not-written To_compute (Computed b) k e = absurd (false≢true e)
not-written v (Computed b) k e = absurd (false≢true k)

plain-out : (maps : ℕ) (x : Attempt) (h : List Step) (s : Step) → is_reduce x ≡ true → IsPlain s → StepOk (wish maps x h) s → Out maps x h → Out maps x (s ∷ h)
unfolding renamed
plain-out maps x h s d i k o (inl e) = let v = plain-written maps x (wish maps x h) s i d (ap has_written (sym (wish-step maps x h s)) ∙ e) in subst IsShort (sym (computed-same s h (not-written (wish maps x h) s k v))) (o (inl v))
plain-out maps x h s d i k o (inr e) = by (or_parts _ _ e)
  where
    by : (renamed maps x h ≡ true) ⊎ (renames (wish maps x h) s ≡ true) → IsShort (computed (s ∷ h))
    by (inl r) = subst IsShort (sym (computed-same s h (not-done (wish maps x h) s k (renamed-done maps x h r)))) (o (inr r))
    by (inr r) = absurd (false≢true (sym (plain-renames (wish maps x h) s i) ∙ r))

write-op : (k : ℕ) (x : Attempt) (bytes : List ℕ) (op : Op) → wished_op k x bytes To_write ≡ Some op → Append (part_at k x) bytes ≡ op
unfolding wished_op
write-op k x bytes op e = cc

call-out : (maps k : ℕ) (x : Attempt) (h : List Step) (op : Op) (r : Reply) (c c' : Content) → wished_op k x (computed h) (wish maps x h) ≡ Some op → Answered c op c' r → Out maps x h → Out maps x (Called op (as_heard r) ∷ h)
unfolding renamed
call-out maps k x h op r c c' wi a o t = subst IsShort (sym (computed-same (Called op (as_heard r)) h refl)) (by t)
  where
    written : (has_written (wish maps x h) ≡ true) ⊎ ((wish maps x h ≡ To_write) × (container.is_fine (as_heard r) ≡ true)) → IsShort (computed h)
    written (inl e) = o (inl e)
    written (inr e) = append-short c (part_at k x) (computed h)
        (subst (λ z. refusal c z ≡ None) (sym (write-op k x (computed h) op (subst (λ z. wished_op k x (computed h) z ≡ Some op) e.0 wi))) (fine-refusal c c' op r a e.1))

    by : (has_written (wish maps x (Called op (as_heard r) ∷ h)) ≡ true) ⊎ ((renamed maps x h || renames (wish maps x h) (Called op (as_heard r))) ≡ true) → IsShort (computed h)
    by (inl e) = written (call-written maps x (wish maps x h) op (as_heard r) (ap has_written (sym (wish-step maps x h (Called op (as_heard r)))) ∙ e))
    by (inr e) = two (or_parts _ _ e)
      where
        two : (renamed maps x h ≡ true) ⊎ (renames (wish maps x h) (Called op (as_heard r)) ≡ true) → IsShort (computed h)
        two (inl q) = o (inr q)
        two (inr q) = o (inl (rename-written (wish maps x h) (Called op (as_heard r)) q))

first-out : (cfg : Config) (x : Attempt) → is_reduce x ≡ true → Out (length cfg.splits) x []
unfolding renamed
first-out cfg x d (inl e) = none-written _ (subst (λ b. has_written (if b then ask_from (length cfg.splits) 0 else To_compute) ≡ false) (sym d) (ask-written (length cfg.splits) 0)) (ap has_written (sym (wish-first (length cfg.splits) x)) ∙ e)
first-out cfg x d (inr e) = absurd (false≢true e)

sized-after : (cfg : Config) (w : World) (e : Event) → Known cfg w → not_now cfg w e ≡ None → Sized cfg w → Sized cfg (effect cfg w e)
sized-after cfg w e kn n o c p q d = by (place_was cfg w e kn.cluster kn.heard n c p q)
  where
    P : List Step → Type 0
    P h = Out (length cfg.splits) p.attempt h

    past : w.place c ≡ Some p → PastCase cfg w e c p → P ((effect cfg w e).container_past c)
    past z (stays u v) = subst P (sym u) (o c p z d)
    past z (takes s u i k v) = subst P (sym u) (plain-out (length cfg.splits) p.attempt (w.container_past c) s d i k (o c p z d))
    past z (called op g ev wi u v) = subst P (sym u) (call-out (length cfg.splits) c.app p.attempt (w.container_past c) op _ w.content _ wi (answered-to w (caller_as c p.attempt) op g) (o c p z d))

    by : (w.place c ≡ Some p) ⊎ ((w.place c ≡ None) × ((effect cfg w e).container_past c ≡ [])) → P ((effect cfg w e).container_past c)
    by (inl z) = past z (past_case cfg w e n c p z)
    by (inr z) = subst P (sym z.1) (first-out cfg p.attempt d)

pub always-sized : (cfg : Config) (within : Limits) (es : List Event) → Sized cfg (world_of cfg within es)
always-sized cfg within es = (along (λ w. Sure cfg w × Sized cfg w) cfg within (λ w e s n. (sure cfg w e s.0 n, sized-after cfg w e s.0.known n s.1)) opening_world es (opening-sure cfg, λ c p e. cc)).1
