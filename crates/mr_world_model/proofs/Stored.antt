-- What each event leaves of both stores.
use Rattle.std.proofs.Common.{ℕ, suc, ◌≤◌, ◌<◌, ◌≡◌, refl, sym, ◌∙◌, ap, subst, Bool, true, false, not, List, [], ◌∷◌, Option, Some, None, Ok, Err, if◌then◌else◌, is_none, nat_lt, nat_le, nat_eq, filter, arith}
use Rattle.std.proofs.lemmas.Bool.{eqb-true}
use Rattle.std.specs.FinMap as finite
use Rattle.mr_paths.specs.Path.{prefixes}
use Rattle.mr_names.specs.declared.fault.NameFault.TheVariants as fault
use Rattle.mr_names.specs.Barred.{Barred}
use Rattle.mr_names_tree.specs.Content.{with_dirs}
use Rattle.mr_names.specs.Calls as names
use Rattle.mr_history.specs.State.{State}
use Rattle.mr_history.specs.Line as lines
use Rattle.mr_history.specs.Calls as history
use Rattle.mr_history.specs.Laws.{IsHistory, IsCall, Calls, Seals, Raises}
use Rattle.mr_history.proofs.Histories.{raised-above}
use Rattle.mr_history.proofs.Staying.{history_new, history_after}
use Rattle.mr_world_model.specs.Ids.{Attempt, ContainerId, staged}
use Rattle.mr_world_model.specs.Content.{Op, MkDirs, Create, Append, Close, Delete, Rename, ListDir, Exist, Read, Bar, Content, Dir, put}
use Rattle.mr_world_model.specs.Records.{History, Segment, with_segment}
use Rattle.mr_world_model.specs.Packets.{Config, Caller, Store, Names, Append_record, Flush, Read_history}
use Rattle.mr_world_model.specs.Pasts.{Place, Step, Wish, wished_op, computed, To_ask_where, To_fetch, To_say_lost, To_compute, To_mkdirs, To_create, To_write, To_close, To_need, To_pend, To_poll, To_look, To_clear, To_rename, To_report, To_abort, To_fail, Over}
use Rattle.mr_world_model.specs.Hearing.{has}
use Rattle.mr_world_model.specs.World.{World, Event, Start, Crash, Duty, LaunchOn, Deliver, ContainerStep, Compute, Die, NodeRestart, Expire, Weather, Calm, Unavailable, Unanswered, Made, opening_world, duty, duty_made, op_made, op_of, op_at, call_of, caller_of, is_applied, is_stopped, unless_stopped, as_heard, reply_under, reply_to}
use Rattle.mr_world_model.specs.Effect.{effect, not_now, version_of, content_after, barred_after, history_after as history_then, history_called}
use Rattle.mr_world_model.specs.Bytes.{Tells, TellsAll}
use Rattle.mr_world_model.specs.Stores.{NamesStand, call_of_history, HasRoom, Stands}
use Rattle.mr_world_model.specs.Claims.{world_of}
use Rattle.mr_world_model.specs.Stored.{StoresStand, StoresGoOn, ContainerCalls, left_in, heard_in, master, calls_none}
use Rattle.mr_world_model.proofs.Basic.{if_cases}
use Rattle.mr_world_model.proofs.Grows.{is_started}
use Rattle.mr_world_model.proofs.Stores.{stores_are_the_models}
use Rattle.mr_world_model.proofs.Living.{masters_are_raised}
use Rattle.mr_world_model.proofs.Runs.{answers_are_heard}
use Rattle.mr_world_model.proofs.Entries.{entries-empty, entries-put, entry-in, refusal-in}

some-is : (x y : Op) → Some x ≡ Some y → x ≡ y
some-is x y e = cc

-- ---- the history of a world where a call changes no segment

same-segment : (h : History) (k j : ℕ) → with_segment h k (h k) j ≡ h j
same-segment h k j = by (nat_eq j k) refl
  where
    by : (b : Bool) → nat_eq j k ≡ b → (if b then h k else h j) ≡ h j
    by true e = ap h (sym (eqb-true j k e))
    by false e = refl

tells-kept : (h : State) (m : History) (k : ℕ) → TellsAll h m → TellsAll h (with_segment m k (m k))
tells-kept h m k t = record {
  none = subst (λ (z : Segment). (z.stable ≡ []) × (z.tail ≡ [])) (sym (same-segment m k 0)) t.none;
  each = λ j a b. subst (Tells (history.segment h j)) (sym (same-segment m k j)) (t.each j a b);
}

names-tells : (h : State) (w : World) (k : ℕ) (f : Weather) (o : Op) → TellsAll h w.history → TellsAll h (history_called w (Some (record { app = k; call = Names o; fault = f })))
names-tells h w k f o t = if_cases (TellsAll h) (is_applied w k f) _ _ (λ e. tells-kept h w.history k t) (λ e. t)

stopped-tells : (h : State) (w : World) (k : ℕ) (f : Weather) (o : Op) (b : Bool) → TellsAll h w.history → TellsAll h (history_called w (unless_stopped b (Some (record { app = k; call = Names o; fault = f }))))
stopped-tells h w k f o true t = t
stopped-tells h w k f o false t = names-tells h w k f o t

-- ---- an event by the call that it makes

abbrev Left : World → Option Made → names.State → Type 0
Left w m s = NamesStand s (record w { content = content_after w m; barred = barred_after w m })

called-stands : (cfg : Config) (w : World) (e : Event) (m : Option Made) (s : names.State) (h : State) → (effect cfg w e).fence ≡ w.fence → history_then cfg w e (call_of cfg w e) ≡ history_called w (call_of cfg w e) → call_of cfg w e ≡ m →
    Left w m s → TellsAll h (history_called w m) → h.fence ≡ w.fence → IsHistory h → StoresStand s h (effect cfg w e)
called-stands cfg w e m s h fe hi q n t f i = record {
  namespace = record { content = n.content ∙ ap (content_after w) (sym q); fence = n.fence ∙ sym fe; barred = λ a. n.barred a ∙ ap (λ z. has (barred_after w z) a) (sym q) };
  tells = subst (TellsAll h) (ap (history_called w) (sym q) ∙ sym hi) t;
  fence = f ∙ sym fe;
  sound = i;
}

-- ---- a call of a master's of the namespace

pub superseded : (s : names.State) (w : World) (k : ℕ) (o : Op) → NamesStand s w → nat_lt k w.fence ≡ true → names.call_of s (master k) o ≡ (Err (fault.Superseded s.fence), s)
unfolding names.unheard
superseded s w k o n e = let q : nat_lt k s.fence ≡ true = ap (nat_lt k) n.fence ∙ e in rw q refl

-- one that is not made, or not heard, changes nothing
abbrev asked : ℕ → Op → Weather → Option Made
asked k o f = Some (record { app = k; call = Names o; fault = f })

names-applied : (s : names.State) (w : World) (k : ℕ) (o : Op) → NamesStand s w → (nat_lt k w.fence ≡ false → names.passes_limit s.barred o ≡ false) → Left w (asked k o Calm) (names.call_of s (master k) o).1
names-applied s w k o n l = by (nat_lt k w.fence) refl
  where
    by : (b : Bool) → nat_lt k w.fence ≡ b → Left w (asked k o Calm) (names.call_of s (master k) o).1
    by false e = stores_are_the_models.names_left s w n (master k) o (l e)
    by true e = rw (superseded s w k o n e, e) (record { content = n.content; fence = n.fence; barred = n.barred })

names-in : (s : names.State) (w : World) (k : ℕ) (f : Weather) (o : Op) → NamesStand s w → (is_applied w k f ≡ true → names.passes_limit s.barred o ≡ false) → Left w (asked k o f) (left_in f s (names.call_of s (master k) o).1)
names-in s w k Calm o n l = names-applied s w k o n (λ e. l (ap not e))
names-in s w k Unanswered o n l = names-applied s w k o n (λ e. l (ap not e))
names-in s w k Unavailable o n l = record { content = n.content; fence = n.fence; barred = n.barred }

names-called : (cfg : Config) (w : World) (s : names.State) (h : State) (k : ℕ) (f : Weather) (o : Op) → StoresStand s h w → duty cfg w k ≡ Some (Names o) →
    (is_applied w k f ≡ true → names.passes_limit s.barred o ≡ false) → StoresStand (left_in f s (names.call_of s (master k) o).1) h (effect cfg w (Duty k f))
unfolding call_of
names-called cfg w s h k f o st d l = called-stands cfg w (Duty k f) (asked k o f) _ h refl refl (ap (duty_made k f) d) (names-in s w k f o st.namespace l) (names-tells h w k f o st.tells) st.fence st.sound

-- ---- and of the history

history-superseded : (h : State) (w : World) (k : ℕ) (q : history.Call) → h.fence ≡ w.fence → nat_lt k w.fence ≡ true → (history.call_of h k q).1 ≡ h
history-superseded h w k q f e = let b : nat_lt k h.fence ≡ true = ap (nat_lt k) f ∙ e in rw b refl

abbrev written : ℕ → Store → Weather → Option Made
written k call f = Some (record { app = k; call = call; fault = f })

-- the namespace is as it was
same-names : (s : names.State) (w : World) (k : ℕ) (f : Weather) (call : Store) (q : history.Call) → call_of_history call ≡ Some q → NamesStand s w → Left w (written k call f) s
same-names s w k f (Names o) q e n = cc
same-names s w k f (Append_record r) q e n = record {
  content = if_cases (λ x. s.content ≡ x) (is_applied w k f) _ _ (λ t. n.content) (λ t. n.content);
  fence = n.fence;
  barred = λ a. if_cases (λ x. Rattle.mr_names.specs.Barred.is_barred s.barred a ≡ has x a) (is_applied w k f) _ _ (λ t. n.barred a) (λ t. n.barred a);
}
same-names s w k f Flush q e n = record {
  content = if_cases (λ x. s.content ≡ x) (is_applied w k f) _ _ (λ t. n.content) (λ t. n.content);
  fence = n.fence;
  barred = λ a. if_cases (λ x. Rattle.mr_names.specs.Barred.is_barred s.barred a ≡ has x a) (is_applied w k f) _ _ (λ t. n.barred a) (λ t. n.barred a);
}
same-names s w k f Read_history q e n = record {
  content = if_cases (λ x. s.content ≡ x) (is_applied w k f) _ _ (λ t. n.content) (λ t. n.content);
  fence = n.fence;
  barred = λ a. if_cases (λ x. Rattle.mr_names.specs.Barred.is_barred s.barred a ≡ has x a) (is_applied w k f) _ _ (λ t. n.barred a) (λ t. n.barred a);
}

-- what a history call asks of a record, it has where there is room
may-call : (h : State) (k : ℕ) (call : Store) (q : history.Call) → call_of_history call ≡ Some q → HasRoom h k call → IsCall (history.segment h k) q
may-call h k (Names o) q e r = cc
may-call h k (Append_record x) q e r = let z : history.Append x ≡ q = cc in subst (IsCall (history.segment h k)) z (r.0, r.1)
may-call h k Flush q e r = let z : history.Flush ≡ q = cc in subst (IsCall (history.segment h k)) z tt
may-call h k Read_history q e r = let z : history.Read ≡ q = cc in subst (IsCall (history.segment h k)) z tt

-- the history after the call: it stands, and it is one
pub record Kept (h : State) (w : World) (m : History) : Type 0 where
  pub tells : TellsAll h m
  pub fence : h.fence ≡ w.fence
  pub sound : IsHistory h

call-fence : (h : State) (k : ℕ) (q : history.Call) → (history.call_of h k q).1.fence ≡ h.fence
call-fence h k q = by (history.refused h k q) q
  where
    by : (o : Option Rattle.mr_history.specs.declared.fault.HistoryFault.HistoryFault) (q : history.Call) → (history.settled o h k q).1.fence ≡ h.fence
    by None (history.Append r) = refl
    by None history.Flush = refl
    by None history.Read = refl
    by (Some f) q = refl

module _ (h : State) (w : World) (k : ℕ) (t : TellsAll h w.history) (f : h.fence ≡ w.fence) (i : IsHistory h) (low : 1 ≤ k) (high : k ≤ w.fence) where
  stands : Stands h w k
  stands = record { tells = t; fence = f; from = low; to = let c = i.count in let b = i.bound in omega arith }

  history-applied : (call : Store) (q : history.Call) → call_of_history call ≡ Some q → (nat_lt k w.fence ≡ false → HasRoom h k call) →
      Kept (history.call_of h k q).1 w (history_called w (written k call Calm))
  history-applied call q e room = by (nat_lt k w.fence) refl
    where
      by : (b : Bool) → nat_lt k w.fence ≡ b → Kept (history.call_of h k q).1 w (history_called w (written k call Calm))
      by false b = record {
        tells = stores_are_the_models.history_left h w k stands call q e (room b);
        fence = call-fence h k q ∙ f;
        sound = history_after h (Calls k q) i (low, omega (arith, high, f), may-call h k call q e (room b));
      }
      by true b = rw (history-superseded h w k q f b, b) (record { tells = t; fence = f; sound = i })

  history-in : (g : Weather) (call : Store) (q : history.Call) → call_of_history call ≡ Some q → (is_applied w k g ≡ true → HasRoom h k call) →
      Kept (left_in g h (history.call_of h k q).1) w (history_called w (written k call g))
  history-in Calm call q e room = history-applied call q e (λ b. room (ap not b))
  history-in Unanswered call q e room = history-applied call q e (λ b. room (ap not b))
  history-in Unavailable call q e room = record { tells = t; fence = f; sound = i }

history-called : (cfg : Config) (w : World) (s : names.State) (h : State) (k : ℕ) (f : Weather) (call : Store) (q : history.Call) → 1 ≤ k → k ≤ w.fence → StoresStand s h w →
    duty cfg w k ≡ Some call → call_of_history call ≡ Some q → (is_applied w k f ≡ true → HasRoom h k call) →
    StoresStand s (left_in f h (history.call_of h k q).1) (effect cfg w (Duty k f))
unfolding call_of
history-called cfg w s h k f call q low high st d e room =
    let x = history-in h w k st.tells st.fence st.sound low high f call q e room in
    called-stands cfg w (Duty k f) (written k call f) s _ refl refl (ap (duty_made k f) d) (same-names s w k f call q e st.namespace) x.tells x.fence x.sound

-- ---- a container's call

-- it bars nobody
wished-free : (b : Barred) (k : ℕ) (a : Attempt) (bytes : List ℕ) (x : Wish) (o : Op) → wished_op k a bytes x ≡ Some o → names.passes_limit b o ≡ false
unfolding wished_op
wished-free b k a bytes To_mkdirs o e = let q = some-is _ o e in subst (λ z. names.passes_limit b z ≡ false) q refl
wished-free b k a bytes To_create o e = let q = some-is _ o e in subst (λ z. names.passes_limit b z ≡ false) q refl
wished-free b k a bytes To_write o e = let q = some-is _ o e in subst (λ z. names.passes_limit b z ≡ false) q refl
wished-free b k a bytes To_close o e = let q = some-is _ o e in subst (λ z. names.passes_limit b z ≡ false) q refl
wished-free b k a bytes To_need o e = let q = some-is _ o e in subst (λ z. names.passes_limit b z ≡ false) q refl
wished-free b k a bytes To_look o e = let q = some-is _ o e in subst (λ z. names.passes_limit b z ≡ false) q refl
wished-free b k a bytes To_clear o e = let q = some-is _ o e in subst (λ z. names.passes_limit b z ≡ false) q refl
wished-free b k a bytes To_rename o e = let q = some-is _ o e in subst (λ z. names.passes_limit b z ≡ false) q refl
wished-free b k a bytes To_abort o e = let q = some-is _ o e in subst (λ z. names.passes_limit b z ≡ false) q refl
wished-free b k a bytes (To_ask_where m) o e = cc
wished-free b k a bytes (To_fetch m x n i got) o e = cc
wished-free b k a bytes (To_say_lost m x) o e = cc
wished-free b k a bytes To_compute o e = cc
wished-free b k a bytes To_pend o e = cc
wished-free b k a bytes To_poll o e = cc
wished-free b k a bytes To_report o e = cc
wished-free b k a bytes To_fail o e = cc
wished-free b k a bytes Over o e = cc

op-free : (b : Barred) (cfg : Config) (c : ContainerId) (p : Option Place) (past : List Step) (o : Op) → op_at cfg c p past ≡ Some o → names.passes_limit b o ≡ false
op-free b cfg c None past o e = cc
op-free b cfg c (Some p) past o e = wished-free b c.app p.attempt (computed past) _ o e

-- in fine weather and in bad
container-in : (s : names.State) (w : World) (c : Caller) (f : Weather) (o : Op) → NamesStand s w → names.passes_limit s.barred o ≡ false →
    Left w (unless_stopped (is_stopped w c) (asked c.app o f)) (left_in f s (names.call_of s c o).1)
container-in s w c Calm o n l = stores_are_the_models.names_left s w n c o l
container-in s w c Unanswered o n l = let x = stores_are_the_models.names_left s w n c o l in record {
  content = x.content ∙ ap (λ b. content_after w (unless_stopped b (asked c.app o Calm))) refl ∙ same (is_stopped w c);
  fence = x.fence;
  barred = λ a. x.barred a ∙ ap (λ z. has z a) (same-barred (is_stopped w c));
}
  where
    same : (b : Bool) → content_after w (unless_stopped b (asked c.app o Calm)) ≡ content_after w (unless_stopped b (asked c.app o Unanswered))
    same true = refl
    same false = refl

    same-barred : (b : Bool) → barred_after w (unless_stopped b (asked c.app o Calm)) ≡ barred_after w (unless_stopped b (asked c.app o Unanswered))
    same-barred true = refl
    same-barred false = refl
container-in s w c Unavailable o n l = by (is_stopped w c)
  where
    by : (b : Bool) → Left w (unless_stopped b (asked c.app o Unavailable)) s
    by true = record { content = n.content; fence = n.fence; barred = n.barred }
    by false = record { content = n.content; fence = n.fence; barred = n.barred }

container-hears : (s : names.State) (w : World) (c : Caller) (f : Weather) (o : Op) → NamesStand s w → names.passes_limit s.barred o ≡ false →
    as_heard (reply_under f (reply_to w c (Names o))) ≡ heard_in f (names.call_of s c o).0
container-hears s w c Calm o n l = answers_are_heard.called s w n c o l
container-hears s w c Unavailable o n l = refl
container-hears s w c Unanswered o n l = refl

container-calls : (cfg : Config) (w : World) (s : names.State) (h : State) (c : ContainerId) (f : Weather) (o : Op) → StoresStand s h w → op_of cfg w c ≡ Some o → ContainerCalls cfg w s h c f o
unfolding call_of
container-calls cfg w s h c f o st e =
    let l = op-free s.barred cfg c (w.place c) (w.container_past c) o e in record {
      heard = container-hears s w (caller_of w c) f o st.namespace l;
      left = called-stands cfg w (ContainerStep c f) (unless_stopped (is_stopped w (caller_of w c)) (asked c.app o f)) _ h refl refl (ap (λ x. unless_stopped (is_stopped w (caller_of w c)) (op_made c.app f x)) e)
          (container-in s w (caller_of w c) f o st.namespace l) (stopped-tells h w c.app f o (is_stopped w (caller_of w c)) st.tells) st.fence st.sound;
    }

-- ---- events that call no store

quiet-stands : (cfg : Config) (w : World) (e : Event) (s : names.State) (h : State) → (effect cfg w e).fence ≡ w.fence → history_then cfg w e (call_of cfg w e) ≡ history_called w (call_of cfg w e) → call_of cfg w e ≡ None →
    StoresStand s h w → StoresStand s h (effect cfg w e)
quiet-stands cfg w e s h fe hi q st = called-stands cfg w e None s h fe hi q (record { content = st.namespace.content; fence = st.namespace.fence; barred = st.namespace.barred }) st.tells st.fence st.sound

no-call : (cfg : Config) (w : World) (c : ContainerId) (f : Weather) (o : Option Op) → is_none o ≡ true → (b : Bool) → unless_stopped b (op_made c.app f o) ≡ None
no-call cfg w c f None e true = refl
no-call cfg w c f None e false = refl
no-call cfg w c f (Some o) e b = cc

rests : (cfg : Config) (w : World) (s : names.State) (h : State) (e : Event) → StoresStand s h w → calls_none cfg w e ≡ true → StoresStand s h (effect cfg w e)
unfolding call_of
rests cfg w s h (Start k kept) st t = cc
rests cfg w s h (Crash k kept) st t = cc
rests cfg w s h (Duty k f) st t = cc
rests cfg w s h (ContainerStep c f) st t = quiet-stands cfg w (ContainerStep c f) s h refl refl (no-call cfg w c f (op_of cfg w c) t (is_stopped w (caller_of w c))) st
rests cfg w s h (LaunchOn k u n) st t = quiet-stands cfg w (LaunchOn k u n) s h refl refl refl st
rests cfg w s h (Deliver i) st t = quiet-stands cfg w (Deliver i) s h refl refl refl st
rests cfg w s h (Compute c bytes) st t = quiet-stands cfg w (Compute c bytes) s h refl refl refl st
rests cfg w s h (Die c) st t = quiet-stands cfg w (Die c) s h refl refl refl st
rests cfg w s h (NodeRestart n) st t = quiet-stands cfg w (NodeRestart n) s h refl refl refl st
rests cfg w s h (Expire k n) st t = quiet-stands cfg w (Expire k n) s h refl refl refl st

-- ---- starts and crashes

is-version : (cfg : Config) (k : ℕ) → lines.IsVersion (version_of cfg k)
is-version cfg k = if_cases lines.IsVersion (nat_le cfg.v2_from k) 2 1 (λ t. (omega arith, omega arith)) (λ t. (omega arith, omega arith))

starts : (cfg : Config) (w : World) (s : names.State) (h : State) (k kept : ℕ) → StoresStand s h w → not_now cfg w (Start k kept) ≡ None → k ≤ 1000 →
    StoresStand (names.raised s k) (history.raised k kept (version_of cfg k) h) (effect cfg w (Start k kept))
unfolding call_of
starts cfg w s h k kept st e l =
    let next : k ≡ suc w.fence = is_started cfg w k kept e in
    let f = st.fence in
    let above : h.fence < k = omega (arith, next, f) in
    let n = stores_are_the_models.names_raised s w k st.namespace (omega (arith, next)) in record {
      namespace = record { content = n.content; fence = n.fence; barred = n.barred };
      tells = stores_are_the_models.raised h w k kept (version_of cfg k) st.tells st.sound.unraised above (is-version cfg k);
      fence = ap (λ (x : State). x.fence) (raised-above h k kept (version_of cfg k) above);
      sound = history_after h (Raises k kept (version_of cfg k)) st.sound (omega (arith, next), l, is-version cfg k);
    }

crashes : (cfg : Config) (w : World) (s : names.State) (h : State) (k kept : ℕ) → 1 ≤ k → k ≤ w.fence → StoresStand s h w → StoresStand s (history.sealed_at k kept h) (effect cfg w (Crash k kept))
unfolding call_of
crashes cfg w s h k kept low high st = record {
  namespace = record { content = st.namespace.content; fence = st.namespace.fence; barred = st.namespace.barred };
  tells = stores_are_the_models.crashed h w k kept (stands h w k st.tells st.fence st.sound low high);
  fence = st.fence;
  sound = let f = st.fence in history_after h (Seals k kept) st.sound (low, omega (arith, high, f));
}

-- ---- at first

abbrev root : Content
root = names.opening.content

root-entries : finite.entries root ≡ ([], Dir) ∷ []
root-entries = entries-put finite.empty [] Dir ∙ ap (Rattle.std.specs.FinMap.Entries.put Rattle.mr_paths.specs.Path.path_cmp [] Dir) entries-empty

staged-missing : names.missing root staged ≡ staged ∷ []
staged-missing = λ i. filter (λ p. is_none (entry-in root (([], Dir) ∷ []) root-entries p i)) (prefixes staged)

-- an opening namespace refuses no staging folder
pub staging-allowed : names.refused names.opening (master 1) (MkDirs staged) ≡ None
unfolding names.unheard Rattle.mr_world_model.specs.Content.refusal
staging-allowed = refusal-in root (([], Dir) ∷ []) root-entries (MkDirs staged)

staged-made : names.call_of names.opening (master 1) (MkDirs staged) ≡ (Ok Rattle.mr_names.specs.declared.op.Answer.TheVariants.Done, record names.opening { content = with_dirs root (staged ∷ []) })
staged-made = rw (staging-allowed, staged-missing) refl

opens : StoresStand (names.call_of names.opening (master 1) (MkDirs staged)).1 (record { segments = Rattle.std.specs.Prelude.replicate 1000 (Rattle.mr_history.specs.Segment.fresh 1); fence = 0 }) opening_world
opens = rw staged-made (record {
  namespace = record { content = refl; fence = refl; barred = λ a. Rattle.std.specs.FinSet.contains-empty _ a };
  tells = stores_are_the_models.opening 1000;
  fence = refl;
  sound = history_new;
})

pub stores_go_on : StoresGoOn
stores_go_on = record {
  opens = opens;
  starts = starts;
  crashes = λ cfg within es s h k kept st m. let r = masters_are_raised.raised cfg within es k m in crashes cfg (world_of cfg within es) s h k kept r.0 r.1 st;
  names_called = names-called;
  history_called = λ cfg within es s h k f call q st m d e room. let r = masters_are_raised.raised cfg within es k m in history-called cfg (world_of cfg within es) s h k f call q r.0 r.1 st d e room;
  container_calls = container-calls;
  rests = rests;
}
