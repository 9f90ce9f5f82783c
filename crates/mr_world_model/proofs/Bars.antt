-- Barred attempts: the bars only grow, and an answered bar is among them.
use Rattle.std.proofs.Common.{ℕ, ◌≡◌, refl, sym, ◌∙◌, ap, subst, Bool, true, false, ◌||◌, List, [], ◌∷◌, ◌++◌, Option, Some, None, if◌then◌else◌, inl}
use Rattle.std.proofs.lemmas.Bool.{false≢true}
use Rattle.mr_world_model.specs.Ids.{Attempt, attempt_eq}
use Rattle.mr_world_model.specs.Content.{Op, bar_of}
use Rattle.mr_world_model.specs.Packets.{Config, Store, Reply, Names, Append_record, Flush, Read_history}
use Rattle.mr_world_model.specs.Hearing.{has, Seen, is_live}
use Rattle.mr_world_model.specs.Duties.{Launches, Expires, Asks, is_fine, first_bar}
use Rattle.mr_world_model.specs.World.{World, Event, Start, Crash, Duty, LaunchOn, Deliver, ContainerStep, Compute, Die, NodeRestart, Expire, Weather, Made, Master_act, call_of, master_act, duty_act, duty, duty_made, with_bar, barred_left, is_applied, reply_of, reply_under, launch_of, seen_by}
use Rattle.mr_world_model.specs.Effect.{effect, barred_after}
use Rattle.mr_world_model.proofs.Basic.{if_cases}
use Rattle.mr_world_model.proofs.Lists.{In-right, In-has}
use Rattle.mr_world_model.proofs.Told.{fine-applied, came_act-is}

or-true : (b : Bool) → (b || true) ≡ true
or-true true = refl
or-true false = refl

pub has-more : (as' bs : List Attempt) (a : Attempt) → has as' a ≡ true → has (as' ++ bs) a ≡ true
has-more [] bs a e = absurd (false≢true e)
has-more (x ∷ as') bs a e = by (attempt_eq a x) e (has-more as' bs a)
  where
    by : (t : Bool) → (t || has as' a) ≡ true → (has as' a ≡ true → has (as' ++ bs) a ≡ true) → (t || has (as' ++ bs) a) ≡ true
    by true e f = refl
    by false e f = f e

pub bar-kept : (m : Option Attempt) (bs : List Attempt) (a : Attempt) → has bs a ≡ true → has (with_bar m bs) a ≡ true
bar-kept None bs a e = e
bar-kept (Some b) bs a e = if_cases (λ x. has x a ≡ true) (has bs b) _ _ (λ t. e) (λ t. has-more bs _ a e)

pub bar-there : (bs : List Attempt) (a : Attempt) → has (with_bar (Some a) bs) a ≡ true
bar-there bs a = if_cases (λ x. has x a ≡ true) (has bs a) _ _ (λ t. t) (λ t. In-has (bs ++ a ∷ []) a (In-right a bs (a ∷ []) (inl refl)))

left-kept : (bs : List Attempt) (call : Store) (a : Attempt) → has bs a ≡ true → has (barred_left bs call) a ≡ true
left-kept bs (Names op) a e = bar-kept (bar_of op) bs a e
left-kept bs (Append_record r) a e = e
left-kept bs Flush a e = e
left-kept bs Read_history a e = e

-- what is barred stays barred
pub barred_kept : (cfg : Config) (w : World) (e : Event) (a : Attempt) → has w.barred a ≡ true → has (effect cfg w e).barred a ≡ true
barred_kept cfg w e a h = by (call_of cfg w e)
  where
    by : (m : Option Made) → has (barred_after w m) a ≡ true
    by None = h
    by (Some m) = if_cases (λ x. has x a ≡ true) (is_applied w m.app m.fault) _ _ (λ t. left-kept w.barred m.call a h) (λ t. h)

duty-barred : (cfg : Config) (w : World) (k : ℕ) (f : Weather) (o : Option Store) (x : Master_act) (call : Store) (r : Reply) (op : Op) (a : Attempt) → duty_act w k f o ≡ Some x → x.step ≡ Asks call r → is_fine r ≡ true →
    call ≡ Names op → bar_of op ≡ Some a → has (barred_after w (duty_made k f o)) a ≡ true
duty-barred cfg w k f None x call r op a q s t c b = cc
duty-barred cfg w k f (Some call2) x call r op a q s t c b =
    let n : record { who = k; step = Asks call2 (reply_under f (reply_of w k call2)) } ≡ x = cc in
    let y : Asks call2 (reply_under f (reply_of w k call2)) ≡ Asks call r = ap (λ (z : Master_act). z.step) n ∙ s in
    let cr : call2 ≡ call = cc in let rr : reply_under f (reply_of w k call2) ≡ r = cc in
    let ok = (fine-applied w k f call2 (subst (λ z. is_fine z ≡ true) (sym rr) t)).0 in
    rw (ok, cr ∙ c, b) (bar-there w.barred a)

-- an answered bar is in force from then on
pub barred-now : (cfg : Config) (w : World) (e : Event) (x : Master_act) → master_act cfg w e ≡ Some x → (call : Store) (r : Reply) → x.step ≡ Asks call r → is_fine r ≡ true →
    (op : Op) → call ≡ Names op → (a : Attempt) → bar_of op ≡ Some a → has (effect cfg w e).barred a ≡ true
unfolding master_act call_of
barred-now cfg w (Duty k f) x q call r s t op c a b = duty-barred cfg w k f (duty cfg w k) x call r op a q s t c b
barred-now cfg w (LaunchOn k u n) x q call r s t op c a b = let y : record { who = k; step = Launches (launch_of k (seen_by cfg w k) u n) } ≡ x = cc in let z = ap (λ (z : Master_act). z.step) y ∙ s in cc
barred-now cfg w (Deliver i) x q call r s t op c a b = let p = came_act-is _ x q in let z = sym p.1 ∙ s in cc
barred-now cfg w (Expire k n) x q call r s t op c a b = let y : record { who = k; step = Expires n } ≡ x = cc in let z = ap (λ (z : Master_act). z.step) y ∙ s in cc
barred-now cfg w (Start k kept) x q call r s t op c a b = cc
barred-now cfg w (Crash k kept) x q call r s t op c a b = cc
barred-now cfg w (ContainerStep d f) x q call r s t op c a b = cc
barred-now cfg w (Compute d bs) x q call r s t op c a b = cc
barred-now cfg w (Die d) x q call r s t op c a b = cc
barred-now cfg w (NodeRestart n) x q call r s t op c a b = cc

-- the first bar due is of an attempt that lives
pub first-lives : (s : Seen) (as' : List Attempt) (a : Attempt) → first_bar s as' ≡ Some a → is_live s a ≡ true
first-lives s [] a e = cc
first-lives s (b ∷ bs) a e = by (is_live s b) refl e (first-lives s bs a)
  where
    by : (t : Bool) → is_live s b ≡ t → (if t then Some b else first_bar s bs) ≡ Some a → (first_bar s bs ≡ Some a → is_live s a ≡ true) → is_live s a ≡ true
    by true q e f = let g : b ≡ a = cc in subst (λ z. is_live s z ≡ true) g q
    by false q e f = f e
