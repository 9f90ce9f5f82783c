-- A fault of an exploration keeps fewer than 2 ^ 64 bytes, and puts off nothing that keeps more.
use Rattle.std.proofs.Common.{◌≡◌, ◌<◌, ◌+◌, ◌^◌, inl, inr, ℕ, zero, suc, Bool, true, false, cond, ◌==◌, not, List, [], ◌∷◌, ◌++◌, length, take, drop, map, remove, slice_get, Option, Some, None, option_to_list, subst, arith}
use Rattle.std.proofs.lemmas.List.{length-drop}
use Rattle.std.specs.List.{AllByRecursion, filter, flat_map, list_any, range_with_len}
use Rattle.mr_ids.specs.declared.id.JobId.{JobId}
use Rattle.mr_ids.specs.declared.id.TaskKind.{TaskKind}
use Rattle.mr_ids.specs.declared.id.TaskKind.TheVariants.{Map, Reduce}
use Rattle.mr_world_model.specs.Packets.{Config}
use Rattle.mr_world_model.specs.World.{Event, Start, Crash, Duty, LaunchOn, Deliver, ContainerStep, Compute, Die, NodeRestart, Expire}
use Rattle.mr_world_model.specs.Claims.{Limits}
use Rattle.mr_world_model.specs.Sequential.{Job}
use Rattle.mr_play.specs.mr_world.specs.Readings.{living, unflushed_in}
use Rattle.mr_play.specs.Played.{Played, world}
use Rattle.mr_explore_search.specs.Laws.{In}
use Rattle.mr_explore_faults.specs.declared.fault.Fault.{Fault}
use Rattle.mr_explore_faults.specs.declared.fault.Fault.TheVariants as fault
use Rattle.mr_explore_faults.specs.Kinds.{ends_from, is_delivery, later, of_attempts, of_delivered, of_kept, of_node, of_tasks}
use Rattle.mr_explore_faults.specs.Next.{is_next}
use Rattle.mr_explore.specs.Faults.{faults_at, kept, kept_all, kept_in, listed, newest, next_event, of_crashes, of_event, of_world, stable_in, told}
use Rattle.mr_explore_repeated.proofs.Short.{stable_short}

-- what it keeps is little
abbrev pub IsSmall : Fault → Type 0
IsSmall (fault.Crash kept) = kept < 2 ^ 64
IsSmall (fault.Halt kept) = kept < 2 ^ 64
IsSmall (fault.Superseded kept) = kept < 2 ^ 64
IsSmall (fault.SupersededLate kept) = kept < 2 ^ 64
IsSmall _ = Unit {0}

abbrev pub AreSmall : List Fault → Type 0
AreSmall fs = AllByRecursion IsSmall fs

-- ---- lists

small_append : (fs gs : List Fault) → AreSmall fs → AreSmall gs → AreSmall (fs ++ gs)
small_append [] gs h k = k
small_append (f ∷ fs) gs h k = (h.0, small_append fs gs h.1 k)

small_flat : {A : Type 0} (g : A → List Fault) (xs : List A) → ((x : A) → AreSmall (g x)) → AreSmall (flat_map g xs)
small_flat g [] h = tt
small_flat g (x ∷ xs) h = small_append (g x) (flat_map g xs) (h x) (small_flat g xs h)

small_map : {A : Type 0} (g : A → Fault) (xs : List A) → ((x : A) → IsSmall (g x)) → AreSmall (map g xs)
small_map g [] h = tt
small_map g (x ∷ xs) h = (h x, small_map g xs h)

small_filter : (p : Fault → Bool) (fs : List Fault) → AreSmall fs → AreSmall (filter p fs)
small_filter p [] h = tt
small_filter p (f ∷ fs) h = by (p f) (small_filter p fs h.1)
  where
    by : (b : Bool) → AreSmall (filter p fs) → AreSmall (cond b (f ∷ filter p fs) (filter p fs))
    by true k = (h.0, k)
    by false k = k

pub small_in : (fs : List Fault) (f : Fault) → AreSmall fs → In f fs → IsSmall f
small_in [] f h i = absurd i
small_in (g ∷ fs) f h (inl e) = subst IsSmall e h.0
small_in (g ∷ fs) f h (inr i) = small_in fs f h.1 i

pub small_at : (fs : List Fault) (i : ℕ) (f : Fault) → AreSmall fs → slice_get fs i ≡ Some f → IsSmall f
small_at [] i f h e = absurd (cc e)
small_at (g ∷ fs) zero f h e = let same : g ≡ f = cc in subst IsSmall same h.0
small_at (g ∷ fs) (suc i) f h e = small_at fs i f h.1 e

small_take : (i : ℕ) (fs : List Fault) → AreSmall fs → AreSmall (take i fs)
small_take zero [] h = tt
small_take (suc i) [] h = tt
small_take zero (f ∷ fs) h = tt
small_take (suc i) (f ∷ fs) h = (h.0, small_take i fs h.1)

small_drop : (i : ℕ) (fs : List Fault) → AreSmall fs → AreSmall (drop i fs)
small_drop zero [] h = tt
small_drop (suc i) [] h = tt
small_drop zero (f ∷ fs) h = h
small_drop (suc i) (f ∷ fs) h = small_drop i fs h.1

pub small_remove : (fs : List Fault) (i : ℕ) → AreSmall fs → AreSmall (remove fs i)
small_remove fs i h = small_append (take i fs) (drop (suc i) fs) (small_take i fs h) (small_drop (suc i) fs h)

pub small_later : (fs : List Fault) (f : Fault) → AreSmall fs → AreSmall (fs ++ option_to_list (later f))
small_later fs f h = small_append fs (option_to_list (later f)) h (by f)
  where
    by : (f : Fault) → AreSmall (option_to_list (later f))
    by (fault.Lost i) = (tt, tt)
    by (fault.Halt kept) = (tt, tt)
    by (fault.Duty weather) = tt
    by (fault.Step c weather) = tt
    by (fault.Late i) = tt
    by (fault.Again i) = tt
    by (fault.Crash kept) = tt
    by fault.Next = tt
    by (fault.Superseded kept) = tt
    by (fault.SupersededLate kept) = tt
    by (fault.Death c) = tt
    by (fault.Restart n) = tt
    by (fault.Expiry n) = tt
    by (fault.Attempt t n) = tt

-- ---- what stays

abbrev Little : List ℕ → Type 0
Little ns = AllByRecursion (λ n. n < 2 ^ 64) ns

little_ends : (n : ℕ) (bs : List ℕ) → n + length bs < 2 ^ 64 → Little (ends_from n bs)
little_ends n [] h = tt
little_ends n (b ∷ bs) h = by (b == 10) (little_ends (n + 1) bs (omega (arith, h)))
  where
    by : (t : Bool) → Little (ends_from (n + 1) bs) → Little (cond t ((n + 1) ∷ ends_from (n + 1) bs) (ends_from (n + 1) bs))
    by true k = (omega (arith, h), k)
    by false k = k

small_kept : (n : ℕ) → n < 2 ^ 64 → AreSmall (of_kept n)
small_kept n h = (h, (h, (h, (h, tt))))

small_kepts : (ns : List ℕ) → Little ns → AreSmall (flat_map of_kept ns)
small_kepts [] h = tt
small_kepts (n ∷ ns) h = small_append (of_kept n) (flat_map of_kept ns) (small_kept n h.0) (small_kepts ns h.1)

module _ (job : Job) (cfg : Config) (within : Limits) where
  little_in : (k : ℕ) (s : Played) (o : Option Played) → Little (kept_in job cfg within k s o)
  little_in k s None = tt
  little_in k s (Some t) =
      let short = stable_short cfg t.events k in
      let rest = length-drop (length (stable_in job cfg within k s)) (stable_in job cfg within k t) in
      little_ends 0 (drop (length (stable_in job cfg within k s)) (stable_in job cfg within k t)) (omega (arith, short, rest))

  little_all : (k : ℕ) (s : Played) (o : Option ℕ) → Little (kept_all job cfg within k s o)
  little_all k s None = tt
  little_all k s (Some bytes) = little_in k s (told job cfg within (Crash k bytes) s)

  small_event : (o : Option Event) → AreSmall (of_event o)
  small_event None = tt
  small_event (Some (Duty k w)) = (tt, (tt, tt))
  small_event (Some (ContainerStep c w)) = (tt, (tt, tt))
  small_event (Some (Deliver i)) = (tt, tt)
  small_event (Some (Start k n)) = tt
  small_event (Some (Crash k n)) = tt
  small_event (Some (LaunchOn k t n)) = tt
  small_event (Some (Compute c bytes)) = tt
  small_event (Some (Die c)) = tt
  small_event (Some (NodeRestart n)) = tt
  small_event (Some (Expire k n)) = tt

  small_delivered : (es : List Event) (i : ℕ) → AreSmall (of_delivered es i)
  small_delivered es i = by (list_any (is_delivery i) es)
    where
      by : (b : Bool) → AreSmall (cond b (fault.Again i ∷ []) [])
      by true = (tt, tt)
      by false = tt

  small_tasks : (id : JobId) (kind : TaskKind) (count nodes : ℕ) → AreSmall (of_tasks id kind count nodes)
  small_tasks id kind count nodes = small_flat (λ n. of_attempts nodes (record { job = id; kind = kind; number = n })) (range_with_len 0 count) (λ n. small_map (fault.Attempt (record { job = id; kind = kind; number = n })) (range_with_len 0 nodes) (λ m. tt))

  small_world : (s : Played) → AreSmall (of_world job cfg within s)
  small_world s =
      let again = flat_map (of_delivered s.events) (range_with_len 0 (length (world job cfg within s).bag)) in
      let deaths = map fault.Death (living cfg (world job cfg within s)) in
      let nodes = flat_map of_node (range_with_len 0 cfg.nodes) in
      let maps = of_tasks cfg.job Map (length cfg.splits) cfg.nodes in
      let reduces = of_tasks cfg.job Reduce cfg.reduces cfg.nodes in
      let one = small_flat (of_delivered s.events) (range_with_len 0 (length (world job cfg within s).bag)) (small_delivered s.events) in
      let two = small_map fault.Death (living cfg (world job cfg within s)) (λ c. tt) in
      let three = small_flat of_node (range_with_len 0 cfg.nodes) (λ n. (tt, (tt, tt))) in
      small_append (((again ++ deaths) ++ nodes) ++ maps) reduces
      (small_append ((again ++ deaths) ++ nodes) maps (small_append (again ++ deaths) nodes (small_append again deaths one two) three) (small_tasks cfg.job Map (length cfg.splits) cfg.nodes))
      (small_tasks cfg.job Reduce cfg.reduces cfg.nodes)

  small_crashes : (s : Played) → AreSmall (of_crashes job cfg within s)
  small_crashes s = small_append (of_kept 0) (flat_map of_kept (kept job cfg within s)) (small_kept 0 (omega arith)) (small_kepts (kept job cfg within s) (little_all (newest job cfg within s) s (unflushed_in (world job cfg within s) (newest job cfg within s))))

  small_listed : (o : Option Event) (s : Played) → AreSmall (listed job cfg within o s)
  small_listed o s = small_append (of_event o ++ of_world job cfg within s) (of_crashes job cfg within s) (small_append (of_event o) (of_world job cfg within s) (small_event o) (small_world s)) (small_crashes s)

  pub small_faults : (deep : Bool) (s : Played) → AreSmall (faults_at job cfg within deep s)
  small_faults deep s = small_filter (λ f. not (is_next (next_event job cfg within deep s) f)) (listed job cfg within (next_event job cfg within deep s) s) (small_listed (next_event job cfg within deep s) s)
