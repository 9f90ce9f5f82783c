-- Each attempt whose bar was ever due was launched, so it is one of the job's.
use Rattle.std.proofs.Common.{ℕ, ◌≡◌, refl, sym, subst, Bool, true, false, ◌&&◌, not, List, [], ◌∷◌, ◌++◌, if◌then◌else◌, nat_eq, ◌⊎◌, inl, inr}
use Rattle.mr_world_model.specs.Ids.{Attempt, is_reduce, bool_eq}
use Rattle.mr_world_model.specs.Content.{bar_of}
use Rattle.mr_world_model.specs.Packets.{Config, Store, Names, Append_record, Flush, Read_history}
use Rattle.mr_world_model.specs.Hearing.{Seen, Phase, Launched, is_running, heard, only_known, live_on, in_task_order, in_place, task_before, more_bars, has, is_live}
use Rattle.mr_world_model.specs.Duties.{Master_step, Came, Launches, Expires, Asks, seen, next_seen, told, worked, with_phase, with_read, is_fine, is_read, phase_told}
use Rattle.mr_world_model.specs.Claims.{In}
use Rattle.mr_world_model.proofs.Basic.{if_cases}
use Rattle.mr_world_model.proofs.Lists.{In-parts}
use Rattle.mr_world_model.proofs.Closed.{bar-by}
use Rattle.mr_world_model.proofs.Told as closing
use Rattle.mr_world_model.specs.Hearing as hearing

abbrev pub Launched_as : List Launched → Attempt → Type 0
Launched_as ls a = (l : Launched) × In l ls × (l.attempt ≡ a)

abbrev pub BarsLaunched : Seen → Type 0
BarsLaunched s = (a : Attempt) → In a s.bars → Launched_as s.launched a

placed-in : (l : Launched) (ms : List Launched) (x : Launched) → In x (in_place l ms) → In x (l ∷ ms)
placed-in l [] x i = i
placed-in l (m ∷ ms) x i = by (task_before l.attempt m.attempt) (placed-in l ms x) i
  where
    by : (b : Bool) → (In x (in_place l ms) → In x (l ∷ ms)) → In x (if b then l ∷ m ∷ ms else m ∷ in_place l ms) → In x (l ∷ m ∷ ms)
    by true go j = j
    by false go (inl e) = inr (inl e)
    by false go (inr j) = swap (go j)
      where
        swap : In x (l ∷ ms) → In x (l ∷ m ∷ ms)
        swap (inl e) = inl e
        swap (inr j) = inr (inr j)

ordered-in : (ls : List Launched) (x : Launched) → In x (in_task_order ls) → In x ls
ordered-in [] x i = i
ordered-in (l ∷ ls) x i = by (ordered-in ls x) (placed-in l (in_task_order ls) x i)
  where
    by : (In x (in_task_order ls) → In x ls) → In x (l ∷ in_task_order ls) → In x (l ∷ ls)
    by go (inl e) = inl e
    by go (inr j) = inr (go j)

live-in : (s : Seen) (r : Bool) (n : ℕ) (ls : List Launched) (x : Launched) → In x (live_on s r n ls) → In x ls
live-in s r n [] x i = i
live-in s r n (l ∷ ls) x i = by (nat_eq l.node n && (bool_eq (is_reduce l.attempt) r && is_live s l.attempt)) (live-in s r n ls x) i
  where
    by : (b : Bool) → (In x (live_on s r n ls) → In x ls) → In x (if b then l ∷ live_on s r n ls else live_on s r n ls) → In x (l ∷ ls)
    by true go (inl e) = inl e
    by true go (inr j) = inr (go j)
    by false go j = inr (go j)

more-in : (bs : List Attempt) (ls : List Launched) (a : Attempt) → In a (more_bars bs ls) → In a bs ⊎ Launched_as ls a
more-in bs [] a i = inl i
more-in bs (l ∷ ls) a i = by (more-in (if has bs l.attempt then bs else bs ++ l.attempt ∷ []) ls a i)
  where
    added : (b : Bool) → In a (if b then bs else bs ++ l.attempt ∷ []) → In a bs ⊎ Launched_as (l ∷ ls) a
    added true j = inl j
    added false j = last (In-parts a bs (l.attempt ∷ []) j)
      where
        last : In a bs ⊎ In a (l.attempt ∷ []) → In a bs ⊎ Launched_as (l ∷ ls) a
        last (inl j) = inl j
        last (inr (inl e)) = inr (l, inl refl, e)
        last (inr (inr j)) = absurd j

    by : In a (if has bs l.attempt then bs else bs ++ l.attempt ∷ []) ⊎ Launched_as ls a → In a bs ⊎ Launched_as (l ∷ ls) a
    by (inl j) = added (has bs l.attempt) j
    by (inr q) = inr (q.0, inr q.1, q.2)

-- what keeps both
abbrev Same : Seen → Seen → Type 0
Same s x = (x.bars ≡ s.bars) × (x.launched ≡ s.launched)

carried : (s x : Seen) → Same s x → BarsLaunched s → BarsLaunched x
carried s x q o a i = subst (λ ls. Launched_as ls a) (sym q.1) (o a (subst (In a) q.0 i))

step-bars : (cfg : Config) (k : ℕ) (s : Seen) (x : Master_step) → BarsLaunched s → BarsLaunched (next_seen cfg k s x)
unfolding next_seen told hearing.expired
step-bars cfg k s (Came p) o = if_cases BarsLaunched (is_running s.phase) _ _
    (λ t. carried s (heard cfg s p) (closing.heard-closed cfg (Same s) (record { asks = λ s a o. o; ends = λ s a f o. o; fails = λ s a due p o. o; accepts = λ s a st due o. o; knows = λ s f ps o. o }) s p (refl, refl)) o)
    (λ t. carried s (only_known s p) (closing.known-closed cfg (Same s) (record { asks = λ s a o. o; ends = λ s a f o. o; fails = λ s a due p o. o; accepts = λ s a st due o. o; knows = λ s f ps o. o }) s p (refl, refl)) o)
step-bars cfg k s (Launches l) o = λ a i. let q = o a i in (q.0, inr q.1, q.2)
step-bars cfg k s (Expires n) o = ended n s.launched _ (λ a i. new a (more-in s.bars (in_task_order (live_on s true n s.launched)) a i))
  where
    new : (a : Attempt) → In a s.bars ⊎ Launched_as (in_task_order (live_on s true n s.launched)) a → Launched_as s.launched a
    new a (inl i) = o a i
    new a (inr q) = (q.0, live-in s true n s.launched q.0 (ordered-in (live_on s true n s.launched) q.0 q.1), q.2)

    ended : (n : ℕ) (ls : List Launched) (u : Seen) → BarsLaunched u → BarsLaunched (hearing.end_maps n ls u)
    ended n [] u v = v
    ended n (l ∷ ls) u v = if_cases BarsLaunched (nat_eq l.node n && (not (is_reduce l.attempt) && is_live u l.attempt)) _ _ (λ t. ended n ls _ v) (λ t. ended n ls u v)
step-bars cfg k s (Asks call r) o = phased (phase_told k s s.phase call r) (with_read cfg (if is_fine r then worked s call else s) call r)
    (read (if is_fine r then worked s call else s) (if_cases BarsLaunched (is_fine r) _ _ (λ t. works call) (λ t. o)))
  where
    works : (call : Store) → BarsLaunched (worked s call)
    works (Append_record r) = o
    works Flush = o
    works (Names op) = bar-by BarsLaunched s (bar_of op) (λ a t ks. o) o
    works Read_history = o

    phased : (p : Phase) (u : Seen) → BarsLaunched u → BarsLaunched (with_phase p u)
    phased p u v = if_cases BarsLaunched (is_running p && not (is_running u.phase)) _ _ (λ t. v) (λ t. v)

    read : (u : Seen) → BarsLaunched u → BarsLaunched (with_read cfg u call r)
    read u v = if_cases BarsLaunched (is_read call) _ _ (λ t. v) (λ t. v)

pub bars-launched : (cfg : Config) (k : ℕ) (h : List Master_step) → BarsLaunched (seen cfg k h)
unfolding seen
bars-launched cfg k [] a i = absurd i
bars-launched cfg k (x ∷ h) a i = step-bars cfg k (seen cfg k h) x (bars-launched cfg k h) a i
