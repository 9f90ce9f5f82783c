-- A container that looks, clears, renames or reports was told yes.
use Rattle.std.proofs.Common.{ℕ, ◌≡◌, refl, sym, ◌∙◌, subst, Bool, true, false, if◌then◌else◌, nat_eq, ◌⊎◌, inl, inr}
use Rattle.std.proofs.lemmas.Bool.{false≢true}
use Rattle.mr_world_model.specs.Ids.{Attempt, attempt_eq, is_reduce}
use Rattle.mr_world_model.specs.Packets.{Answer, MapReady, Piece, FetchLost}
use Rattle.mr_container.specs.declared.reply.Reply.{Reply}
use Rattle.mr_container.specs.Readings.{is_fine, is_found}
use Rattle.mr_world_model.specs.Pasts.{Step, Got, Sent, Computed, Called, Wish, To_ask_where, To_fetch, To_say_lost, To_compute, To_mkdirs, To_create, To_write, To_close, To_need, To_pend, To_poll, To_look, To_clear, To_rename, To_report, To_abort, To_fail}
use Rattle.mr_world_model.proofs.Nexts.{next_wish, is_awaited, if_fine, if_found}
use Rattle.mr_world_model.proofs.Pieces.{piece-wish}
use Rattle.mr_world_model.proofs.Basic.{if_cases}

abbrev pub past_yes : Wish → Bool
past_yes To_look = true
past_yes To_clear = true
past_yes To_rename = true
past_yes To_report = true
past_yes _ = false

-- a map has no such wishes but its report
abbrev Heard : Wish → Step → Type 0
Heard w s = (past_yes w ≡ true) ⊎ ((a : Attempt) × (s ≡ Got (Answer a true)))

fine-none : (r : Reply) (w : Wish) → past_yes w ≡ false → past_yes (if_fine r w) ≡ false
fine-none r w e = if_cases (λ v. past_yes v ≡ false) (is_fine r) _ _ (λ t. e) (λ t. refl)

found-none : (r : Reply) (w : Wish) → past_yes w ≡ false → past_yes (if_found r w) ≡ false
found-none r w e = if_cases (λ v. past_yes v ≡ false) (is_found r) _ _ (λ t. e) (λ t. refl)

none-yes : {P : Type 0} (b : Bool) → b ≡ false → b ≡ true → P
none-yes b e f = absurd (false≢true (sym e ∙ f))

pub next-yes : (maps : ℕ) (x : Attempt) (w : Wish) (s : Step) → is_reduce x ≡ true → past_yes (next_wish maps x w s) ≡ true → Heard w s
unfolding next_wish
next-yes maps x To_look s r e = inl refl
next-yes maps x To_clear s r e = inl refl
next-yes maps x To_rename s r e = inl refl
next-yes maps x To_report s r e = inl refl
next-yes maps x To_pend (Got (Answer a true)) r e = inr (a, refl)
next-yes maps x To_poll (Got (Answer a true)) r e = inr (a, refl)
next-yes maps x (To_ask_where m) (Got (MapReady m' a n i)) r e = none-yes _ (if_cases (λ w. past_yes w ≡ false) (nat_eq m m') _ _ (λ t. refl) (λ t. refl)) e
next-yes maps x (To_fetch m a n i got) (Got (Piece a' q off total bytes)) r e = none-yes _ (piece-wish (λ w. past_yes w ≡ false) maps m a n i got (is_awaited x a got a' q off) total bytes refl refl (λ g. refl)) e
next-yes maps x (To_fetch m a n i got) (Got (FetchLost c a')) r e = none-yes _ (if_cases (λ w. past_yes w ≡ false) (attempt_eq a a') _ _ (λ t. refl) (λ t. refl)) e
next-yes maps x To_compute (Computed bytes) r e = none-yes _ (subst (λ b. past_yes (if b then To_mkdirs else To_report) ≡ false) (sym r) refl) e
next-yes maps x To_mkdirs (Called op q) r e = none-yes _ (fine-none q To_create refl) e
next-yes maps x To_create (Called op q) r e = none-yes _ (fine-none q To_write refl) e
next-yes maps x To_write (Called op q) r e = none-yes _ (fine-none q To_close refl) e
next-yes maps x To_close (Called op q) r e = none-yes _ (fine-none q To_need refl) e
next-yes maps x To_need (Called op q) r e = none-yes _ (found-none q To_pend refl) e
next-yes maps x (To_say_lost m a) (Sent p) r e = absurd (false≢true e)
next-yes maps x To_pend (Sent p) r e = absurd (false≢true e)
next-yes maps x To_poll (Sent p) r e = absurd (false≢true e)
next-yes maps x To_pend (Got (Answer a false)) r e = none-yes _ (if_cases (λ w. past_yes w ≡ false) (attempt_eq x a) _ _ (λ t. refl) (λ t. refl)) e
next-yes maps x To_poll (Got (Answer a false)) r e = none-yes _ (if_cases (λ w. past_yes w ≡ false) (attempt_eq x a) _ _ (λ t. refl) (λ t. refl)) e
next-yes maps x To_abort (Called op q) r e = absurd (false≢true e)
next-yes maps x To_fail (Sent p) r e = absurd (false≢true e)
next-yes maps x w s r e = absurd (false≢true e)
