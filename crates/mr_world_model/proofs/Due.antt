-- Each record that a master has due has a line: its attempt is of the kind that succeeds so, and its incarnation is one.
use Rattle.std.proofs.Common.{ℕ, ◌≤◌, ◌≡◌, refl, ◌∙◌, subst, Bool, true, false, ◌&&◌, not, List, [], ◌∷◌, ◌++◌, Option, Some, None, if◌then◌else◌, is_some, nat_eq, nat_lt, nat_le, inl, inr, arith}
use Rattle.std.proofs.lemmas.Bool.{false≢true, true≢false, ltb-true, le-leb, and_parts}
use Rattle.mr_history.specs.Line as lines
use Rattle.mr_world_model.specs.Ids.{Attempt, ContainerId, TaskKind, Map, Reduce, is_reduce, of_reduces, attempt_eq}
use Rattle.mr_world_model.specs.Records.{Record, AttemptStarted, MapSucceeded, ReduceSucceeded, AttemptFailed, JobUnsuccessful}
use Rattle.mr_world_model.specs.Packets.{Config, Packet, Store, Names, Append_record, Flush, Read_history, Reply}
use Rattle.mr_world_model.specs.Content.{bar_of}
use Rattle.mr_world_model.specs.Hearing.{Seen, Phase, Launched, has, know, find_launched, may_accept, is_live, is_won, failures, over_with, ended_by, after_end, after_ended, end_there, success_record, heard, only_known, is_running, find_container, can_hear}
use Rattle.mr_world_model.specs.Duties.{Master_step, Came, Launches, Expires, Asks, worked, rest_of, with_phase, with_read, is_read, is_fine, told, phase_told, next_seen, seen}
use Rattle.mr_world_model.specs.World.{World, Event, master_act, seen_by, duty, opening_world}
use Rattle.mr_world_model.specs.Effect.{effect}
use Rattle.mr_world_model.proofs.Lengths.{due-length}
use Rattle.mr_world_model.specs.Claims.{Limits, In, world_of}
use Rattle.mr_world_model.proofs.Basic.{if_cases, along}
use Rattle.mr_world_model.proofs.Lists.{Each, Each-append, Each-In}
use Rattle.mr_world_model.proofs.Closed.{expired-by, bar-by}
use Rattle.mr_world_model.proofs.Allowed.{seen_after, first-due}
use Rattle.mr_world_model.proofs.Cluster.{StepFits, step-fits}

abbrev pub HasLine : Record → Type 0
HasLine (AttemptStarted a n) = Unit {0}
HasLine (MapSucceeded a n i) = (is_reduce a ≡ false) × (1 ≤ i)
HasLine (ReduceSucceeded a z) = is_reduce a ≡ true
HasLine (AttemptFailed a) = Unit {0}
HasLine JobUnsuccessful = Unit {0}

map-kind : (k : TaskKind) → of_reduces k ≡ false → lines.is_map k ≡ true
map-kind Map e = refl
map-kind Reduce e = absurd (true≢false e)

reduce-kind : (k : TaskKind) → of_reduces k ≡ true → lines.is_reduce k ≡ true
reduce-kind Map e = absurd (false≢true e)
reduce-kind Reduce e = refl

-- it is what the history asks of a record that is appended, but for a length
pub line-fits : (r : Record) → HasLine r → lines.fits (lines.as_written 1 r) ≡ true
line-fits (AttemptStarted a n) o = refl
line-fits (MapSucceeded a n i) o = let m = map-kind a.task.kind o.0 in let l : nat_le 1 i ≡ true = le-leb 1 i o.1 in rw (m, l) refl
line-fits (ReduceSucceeded a z) o = rw (reduce-kind a.task.kind o) refl
line-fits (AttemptFailed a) o = refl
line-fits JobUnsuccessful o = refl

pub record Lined (known : ℕ → ℕ) (launched : List Launched) (due : List Record) : Type 0 where
  pub knows : (n : ℕ) → 1 ≤ known n
  pub launches : (l : Launched) → In l launched → 1 ≤ l.incarnation
  pub dues : Each HasLine due

abbrev pub LinedOf : Seen → Type 0
LinedOf s = Lined s.known s.launched s.due

more : (f : ℕ → ℕ) (ls : List Launched) (due rs : List Record) → Each HasLine rs → Lined f ls due → Lined f ls (due ++ rs)
more f ls due rs e o = record { knows = o.knows; launches = o.launches; dues = Each-append HasLine due rs o.dues e }

ended_by-lined : (cfg : Config) (s : Seen) (a : Attempt) (f : Bool) → LinedOf s → LinedOf (ended_by cfg s a f)
ended_by-lined cfg s a false o = o
ended_by-lined cfg s a true o = if_cases LinedOf (nat_le cfg.limit (failures (over_with s a true) a) && not (is_won s (is_reduce a) a.task)) _ _
    (λ t. more s.known s.launched s.due (AttemptFailed a ∷ JobUnsuccessful ∷ []) (tt, (tt, tt)) o) (λ t. more s.known s.launched s.due (AttemptFailed a ∷ []) (tt, tt) o)

after_end-lined : (cfg : Config) (s : Seen) (a : Attempt) (f : Bool) → LinedOf s → LinedOf (after_end cfg s a f)
after_end-lined cfg s a f o = if_cases LinedOf (is_live s a) _ _ (λ e. ended_by-lined cfg s a f o) (λ e. o)

after_ended-lined : (cfg : Config) (s : Seen) (c : ContainerId) (l : Option Launched) → LinedOf s → LinedOf (after_ended cfg s c l)
after_ended-lined cfg s c None o = o
after_ended-lined cfg s c (Some l) o = after_end-lined cfg s _ _ o

end_there-lined : (n i : ℕ) (ls : List Launched) (s : Seen) → LinedOf s → LinedOf (end_there n i ls s)
end_there-lined n i [] s o = o
end_there-lined n i (l ∷ ls) s o = if_cases LinedOf (nat_eq l.node n && (nat_lt l.incarnation i && is_live s l.attempt)) _ _ (λ t. end_there-lined n i ls _ o) (λ t. end_there-lined n i ls s o)

know-lined : (f : ℕ → ℕ) (ls : List Launched) (due : List Record) (n i : ℕ) → nat_lt (f n) i ≡ true → Lined f ls due → Lined (know f n i) ls due
know-lined f ls due n i t o = record { knows = λ m. if_cases (λ x. 1 ≤ x) (nat_eq m n) _ _ (λ e. let q = ltb-true (f n) i t in omega (arith, q)) (λ e. o.knows m); launches = o.launches; dues = o.dues }

found-In : (ls : List Launched) (a : Attempt) (l : Launched) → find_launched ls a ≡ Some l → In l ls
found-In [] a l e = cc
found-In (m ∷ ls) a l e = by (attempt_eq a m.attempt) e (found-In ls a l)
  where
    by : (b : Bool) → (if b then Some m else find_launched ls a) ≡ Some l → (find_launched ls a ≡ Some l → In l ls) → In l (m ∷ ls)
    by true q f = inl cc
    by false q f = inr (f q)

success-lined : (s : Seen) (a : Attempt) (z : Option ℕ) (o : Option Launched) → find_launched s.launched a ≡ o → LinedOf s → HasLine (success_record a z o)
success-lined s a z None e o = tt
success-lined s a z (Some l) e o = if_cases HasLine (is_reduce a) _ _ (λ t. t) (λ t. (t, o.launches l (found-In s.launched a l e)))

heard-lined : (cfg : Config) (s : Seen) (p : Packet) → LinedOf s → LinedOf (heard cfg s p)
unfolding heard
heard-lined cfg s (Packet.Pending b) o = if_cases LinedOf (is_some (find_launched s.launched b) && not (has s.asked b)) _ _ (λ t. o) (λ t. o)
heard-lined cfg s (Packet.Poll b) o = if_cases LinedOf (is_some (find_launched s.launched b) && not (has s.asked b)) _ _ (λ t. o) (λ t. o)
heard-lined cfg s (Packet.Done b z) o = if_cases LinedOf (may_accept s b) _ _
    (λ t. more s.known s.launched s.due (success_record b z (find_launched s.launched b) ∷ []) (success-lined s b z (find_launched s.launched b) refl o, tt) o) (λ t. o)
heard-lined cfg s (Packet.Failed b) o = after_end-lined cfg s b true o
heard-lined cfg s (Packet.Ended d) o = after_ended-lined cfg s d _ o
heard-lined cfg s (Packet.NodeUp m i) o = if_cases LinedOf (nat_lt (s.known m) i) _ _ (λ t. end_there-lined m i s.launched _ (know-lined s.known s.launched s.due m i t o)) (λ t. o)
heard-lined cfg s (Packet.FetchLost d b) o = if_cases LinedOf (is_some (find_container s.launched d) && has s.recorded b) _ _ (λ t. o) (λ t. o)
heard-lined cfg s (Packet.Where d m) o = o
heard-lined cfg s _ o = o

known-lined : (s : Seen) (p : Packet) → LinedOf s → LinedOf (only_known s p)
known-lined s (Packet.NodeUp m i) o = if_cases LinedOf (can_hear s.phase && nat_lt (s.known m) i) _ _ (λ t. know-lined s.known s.launched s.due m i (and_parts _ _ t).1 o) (λ t. o)
known-lined s _ o = o

rest-lined : (rs : List Record) → Each HasLine rs → Each HasLine (rest_of rs)
rest-lined [] o = o
rest-lined (r ∷ rs) o = o.1

worked-lined : (s : Seen) (call : Store) → LinedOf s → LinedOf (worked s call)
worked-lined s (Append_record r) o = record { knows = o.knows; launches = o.launches; dues = rest-lined s.due o.dues }
worked-lined s Flush o = o
worked-lined s (Names op) o = bar-by LinedOf s (bar_of op) (λ a t ks. o) o
worked-lined s Read_history o = o

told-lined : (cfg : Config) (k : ℕ) (s : Seen) (call : Store) (r : Reply) → LinedOf s → LinedOf (told cfg k s call r)
unfolding told
told-lined cfg k s call r o = phased (phase_told k s s.phase call r) (with_read cfg (if is_fine r then worked s call else s) call r) (read (if is_fine r then worked s call else s) (if_cases LinedOf (is_fine r) _ _ (λ t. worked-lined s call o) (λ t. o)))
  where
    phased : (p : Phase) (u : Seen) → LinedOf u → LinedOf (with_phase p u)
    phased p u v = if_cases LinedOf (is_running p && not (is_running u.phase)) _ _ (λ t. v) (λ t. v)

    read : (u : Seen) → LinedOf u → LinedOf (with_read cfg u call r)
    read u v = if_cases LinedOf (is_read call) _ _ (λ t. v) (λ t. v)

pub next-lined : (cfg : Config) (w : World) (k : ℕ) (x : Master_step) → StepFits cfg w k x → LinedOf (seen_by cfg w k) → LinedOf (next_seen cfg k (seen_by cfg w k) x)
unfolding next_seen
next-lined cfg w k (Came p) u o = if_cases LinedOf (is_running (seen_by cfg w k).phase) _ _ (λ t. heard-lined cfg _ p o) (λ t. known-lined _ p o)
next-lined cfg w k (Launches l) u o = record {
  knows = o.knows;
  launches = launches;
  dues = Each-append HasLine (seen_by cfg w k).due (AttemptStarted l.attempt l.node ∷ []) o.dues (tt, tt);
}
  where
    launches : (m : Launched) → In m (l ∷ (seen_by cfg w k).launched) → 1 ≤ m.incarnation
    launches m (inl e) = subst (λ (z : Launched). 1 ≤ z.incarnation) (u.2 ∙ e) (o.knows u.1)
    launches m (inr i) = o.launches m i
next-lined cfg w k (Expires n) u o = expired-by LinedOf (λ s a t v. v) n (seen_by cfg w k) (λ st ks bs. o)
next-lined cfg w k (Asks call r) u o = told-lined cfg k _ call r o

lined_after : (cfg : Config) (w : World) (e : Event) → ((k : ℕ) → LinedOf (seen_by cfg w k)) → (k : ℕ) → LinedOf (seen_by cfg (effect cfg w e) k)
lined_after cfg w e h k = seen_after LinedOf cfg w (master_act cfg w e) k (h k) (λ a q m. next-lined cfg w k a.step (subst (λ z. StepFits cfg w z a.step) m (step-fits cfg w e a q)) (h k))

opening-lined : (cfg : Config) (k : ℕ) → LinedOf (seen_by cfg opening_world k)
unfolding seen
opening-lined cfg k = record { knows = λ n. omega arith; launches = λ l i. absurd i; dues = tt }

pub always-lined : (cfg : Config) (within : Limits) (es : List Event) (k : ℕ) → LinedOf (seen_by cfg (world_of cfg within es) k)
always-lined cfg within es = along (λ w. (k : ℕ) → LinedOf (seen_by cfg w k)) cfg within (λ w e h n. lined_after cfg w e h) opening_world es (λ k. opening-lined cfg k)

-- whatever a master appends has a line
-- each version can take it
suited : (cfg : Config) (within : Limits) (es : List Event) (k version : ℕ) (r : Record) → HasLine r → In r (seen_by cfg (world_of cfg within es) k).due → lines.suits version r ≡ true
suited cfg within es k version (AttemptStarted a n) o i = refl
suited cfg within es k version (MapSucceeded a n m) o i = refl
suited cfg within es k version (ReduceSucceeded a z) o i = if_cases (λ b. b ≡ true) (nat_eq version 2) _ _ (λ t. due-length cfg within es k a z o i) (λ t. refl)
suited cfg within es k version (AttemptFailed a) o i = refl
suited cfg within es k version JobUnsuccessful o i = refl

pub appended-fits : (cfg : Config) (within : Limits) (es : List Event) (k : ℕ) (r : Record) → duty cfg (world_of cfg within es) k ≡ Some (Append_record r) → (lines.fits (lines.as_written 1 r) ≡ true) × ((version : ℕ) → lines.suits version r ≡ true)
appended-fits cfg within es k r d =
    let i = first-due cfg k (seen_by cfg (world_of cfg within es) k) (Append_record r) d in
    let o = Each-In HasLine (seen_by cfg (world_of cfg within es) k).due (always-lined cfg within es k).dues r i in
    (line-fits r o, λ version. suited cfg within es k version r o i)
