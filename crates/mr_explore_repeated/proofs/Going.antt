-- All events of a run can be repeated: those of the script, of what a run makes by itself, and of its faults.
use Rattle.std.proofs.Common.{◌≡◌, ◌<◌, ◌^◌, inl, inr, ℕ, suc, Bool, true, false, cond, ◌&&◌, not, nat_lt, List, [], ◌++◌, length, remove, Option, Some, None, is_none, option_map, option_to_list, refl, sym, ap, subst, ◌∙◌, append-nil, arith}
use Rattle.mr_ids.specs.declared.id.TheConstants.{MAX_APP_ATTEMPTS}
use Rattle.mr_world_events.specs.declared.event.Weather.TheVariants.{Calm}
use Rattle.mr_world_events.specs.declared.why.Why.{Why}
use Rattle.mr_world_model.specs.Packets.{Config}
use Rattle.mr_world_model.specs.World.{World, Event, Start, Crash, Duty, LaunchOn, Deliver, ContainerStep, Die, NodeRestart, Expire}
use Rattle.mr_world_model.specs.Effect.{not_now}
use Rattle.mr_world_model.specs.Claims.{Limits}
use Rattle.mr_world_model.specs.Sequential.{Job}
use Rattle.mr_script_writer.specs.Repeating.{repeating}
use Rattle.mr_play.specs.mr_world.specs.Limits.{within}
use Rattle.mr_play.specs.mr_world.specs.Readings.{unflushed_in}
use Rattle.mr_sim_commands.specs.declared.job.submission.Submission.{Submission}
use Rattle.mr_play.specs.Played.{Played, stepped_by, taken, world}
use Rattle.mr_play.specs.Text.{PrintsPlay, config_of, job_as, script_lines}
use Rattle.mr_play.specs.WorldText.{world_text}
use Rattle.mr_play_repeated.specs.Repeated.{AreRepeatable, IsComputed, KeepsFew}
use Rattle.mr_play_repeated.proofs.Again.{runs_are_repeated_law}
use Rattle.mr_play_repeated.proofs.Scripted.{calms_repeat, scripts_are_repeatable_law, taken_repeats}
use Rattle.mr_explore_search.specs.Steps.{Onward, Goes, Ends, Full}
use Rattle.mr_explore_search.specs.Runs.{Found, Run, PassesLimit}
use Rattle.mr_explore_search.specs.Laws.{Departs, Has_ended, Has_made_all, Would_pass, Went, Was_befallen, Came_later, IsOneBy}
use Rattle.mr_explore_faults.specs.declared.fault.Fault.{Fault}
use Rattle.mr_explore_faults.specs.declared.fault.Fault.TheVariants as fault
use Rattle.mr_explore_ends.specs.Outcomes.{outcome_text}
use Rattle.mr_explore.specs.Exploring.{outcome_of}
use Rattle.mr_explore.specs.Faults.{Fate, Happens, NotPermitted, PastLimit, and_then, befallen, befallen_by, calm, faults_at, goes_in_vain, happening, newest, onward, onward_by, starting, starts_next, told, unless_past}
use Rattle.mr_explore.specs.Runs.{Exploring, IsRunOf, StartsFrom, befallen_with, explored, onward_with, start_first, with, world_of}
use Rattle.mr_explore.specs.Laws.{OutcomesArePrinted}
use Rattle.mr_explore_repeated.proofs.Kept.{AreSmall, IsSmall, small_at, small_faults, small_in, small_later, small_remove}
use Rattle.mr_explore_repeated.specs.Leading.{ScriptsLeadToTheirEnds}

some_is : {A : Type 0} (x y : A) → Some x ≡ Some y → x ≡ y
some_is x y e = cc

none_is : {A : Type 0} (x : A) → None ≡ Some x → ⊥
none_is x e = cc

goes_to : {A : Type 0} (s t : A) → ◌≡◌ {A = Onward A} (Goes s) (Goes t) → s ≡ t
goes_to s t e = cc

ends_as : {A : Type 0} (s t : A) → ◌≡◌ {A = Onward A} (Ends s) (Ends t) → s ≡ t
ends_as s t e = cc

module _ (sub : Submission) where
  abbrev job : Job
  job = job_as sub.job

  abbrev cfg : Config
  cfg = config_of sub

  abbrev lim : Limits
  lim = within cfg

  abbrev Repeats : Played → Type 0
  Repeats s = AreRepeatable sub [] s.events

  -- ---- one event

  -- an event without bytes
  abbrev Plain : Event → Type 0
  Plain e = ((w : World) → IsComputed sub w e) × KeepsFew e

  none_there : (o : Option Why) → is_none o ≡ true → o ≡ None
  none_there None e = refl
  none_there (Some x) e = absurd (cc e)

  abbrev Fine : Fate → Type 0
  Fine (Happens t) = Repeats t
  Fine NotPermitted = Unit {0}
  Fine (PastLimit t) = Repeats t

  happening_fine : (e : Event) → Plain e → (s : Played) → Repeats s → Fine (happening job cfg lim e s)
  happening_fine e plain s h = by (is_none (not_now cfg (world job cfg lim s) e)) refl
    where
      taken_fine : not_now cfg (world job cfg lim s) e ≡ None → (o : Option Played) → taken job cfg lim e (stepped_by job cfg lim e s.stepped) s ≡ o → Fine (unless_past s o)
      taken_fine now None q = h
      taken_fine now (Some t) q = taken_repeats sub e (stepped_by job cfg lim e s.stepped) s t h now (plain.0 (world job cfg lim s), plain.1) q

      by : (b : Bool) → is_none (not_now cfg (world job cfg lim s) e) ≡ b → Fine (cond b (unless_past s (taken job cfg lim e (stepped_by job cfg lim e s.stepped) s)) NotPermitted)
      by true is = taken_fine (none_there (not_now cfg (world job cfg lim s) e) is) (taken job cfg lim e (stepped_by job cfg lim e s.stepped) s) refl
      by false is = tt

  told_repeats : (e : Event) → Plain e → (s t : Played) → Repeats s → told job cfg lim e s ≡ Some t → Repeats t
  told_repeats e plain s t h q = by (is_none (not_now cfg (world job cfg lim s) e)) refl q
    where
      by : (b : Bool) → is_none (not_now cfg (world job cfg lim s) e) ≡ b → cond b (taken job cfg lim e (stepped_by job cfg lim e s.stepped) s) None ≡ Some t → Repeats t
      by true is q = taken_repeats sub e (stepped_by job cfg lim e s.stepped) s t h (none_there (not_now cfg (world job cfg lim s) e) is) (plain.0 (world job cfg lim s), plain.1) q
      by false is q = absurd (none_is t q)

  -- ---- a fault

  then_fine : (more : Played → Fate) → ((s : Played) → Repeats s → Fine (more s)) → (x : Fate) → Fine x → Fine (and_then more x)
  then_fine more keeps (Happens s) h = keeps s h
  then_fine more keeps NotPermitted h = tt
  then_fine more keeps (PastLimit s) h = h

  starting_fine : (k kept : ℕ) → kept < 2 ^ 64 → (s : Played) → Repeats s → Fine (starting job cfg lim k kept s)
  starting_fine k kept few s h = by (nat_lt k MAX_APP_ATTEMPTS)
    where
      by : (b : Bool) → Fine (cond b (happening job cfg lim (Start (suc k) kept) s) (PastLimit s))
      by true = happening_fine (Start (suc k) kept) ((λ w. tt), few) s h
      by false = h

  next_fine : (k : ℕ) (o : Option ℕ) (s : Played) → Repeats s → Fine (starts_next job cfg lim k o s)
  next_fine k None s h = starting_fine k 0 (omega arith) s h
  next_fine k (Some unflushed) s h = tt

  befallen_fine : (k : ℕ) (f : Fault) → IsSmall f → (s : Played) → Repeats s → Fine (befallen_by job cfg lim k f s)
  befallen_fine k (fault.Duty weather) few s h = happening_fine (Duty k weather) ((λ w. tt), tt) s h
  befallen_fine k (fault.Step c weather) few s h = happening_fine (ContainerStep c weather) ((λ w. tt), tt) s h
  befallen_fine k (fault.Lost i) few s h = h
  befallen_fine k (fault.Late i) few s h = happening_fine (Deliver i) ((λ w. tt), tt) s h
  befallen_fine k (fault.Again i) few s h = happening_fine (Deliver i) ((λ w. tt), tt) s h
  befallen_fine k (fault.Crash kept) few s h =
      then_fine (starting job cfg lim k 0) (starting_fine k 0 (omega arith)) (happening job cfg lim (Crash k kept) s) (happening_fine (Crash k kept) ((λ w. tt), few) s h)
  befallen_fine k (fault.Halt kept) few s h = happening_fine (Crash k kept) ((λ w. tt), few) s h
  befallen_fine k fault.Next few s h = next_fine k (unflushed_in (world job cfg lim s) k) s h
  befallen_fine k (fault.Superseded kept) few s h = starting_fine k kept few s h
  befallen_fine k (fault.SupersededLate kept) few s h =
      then_fine (happening job cfg lim (Duty k Calm)) (happening_fine (Duty k Calm) ((λ w. tt), tt)) (starting job cfg lim k kept s) (starting_fine k kept few s h)
  befallen_fine k (fault.Death c) few s h = happening_fine (Die c) ((λ w. tt), tt) s h
  befallen_fine k (fault.Restart n) few s h = happening_fine (NodeRestart n) ((λ w. tt), tt) s h
  befallen_fine k (fault.Expiry n) few s h = happening_fine (Expire k n) ((λ w. tt), tt) s h
  befallen_fine k (fault.Attempt t n) few s h = happening_fine (LaunchOn k t n) ((λ w. tt), tt) s h

  -- ---- by itself

  abbrev FineOn : Onward Played → Type 0
  FineOn (Goes t) = Repeats t
  FineOn (Ends t) = Repeats t
  FineOn Full = Unit {0}

  calm_fine : (s : Played) → Repeats s → FineOn (onward_by s (calm job cfg lim 1 s))
  calm_fine s h = by (calm job cfg lim 1 s) refl
    where
      on : (t : Played) → Repeats t → (b : Bool) → FineOn (cond b (Goes t) (Ends t))
      on t g true = g
      on t g false = g

      by : (o : Option Played) → calm job cfg lim 1 s ≡ o → FineOn (onward_by s o)
      by None q = tt
      by (Some t) q = on t (calms_repeat sub (newest job cfg lim s) None 1 s t h q) (nat_lt (length s.events) (length t.events))

  onward_fine : (deep : Bool) (s : Played) → Repeats s → FineOn (onward job cfg lim deep s)
  onward_fine deep s h = by (not deep && goes_in_vain job cfg lim s)
    where
      by : (b : Bool) → FineOn (cond b (Ends s) (onward_by s (calm job cfg lim 1 s)))
      by true = h
      by false = calm_fine s h

  -- ---- runs

  -- a run of this job, whose events can be repeated
  pub record IsOurs (e : Exploring) : Type 0 where
    pub job : e.job ≡ sub.job
    pub config : e.config ≡ config_of sub
    pub repeats : Repeats e.played

  -- the same run, said with this job
  abbrev ours : Exploring → Exploring
  ours e = record e { job = sub.job; config = config_of sub }

  same : (e : Exploring) → IsOurs e → e ≡ ours e
  same e h = λ i. record e { job = h.job i; config = h.config i }

  is_with : (e t : Exploring) (s : Played) → Repeats s → with (ours e) s ≡ t → IsOurs t
  is_with e t s h q = subst IsOurs q (record { job = refl; config = refl; repeats = h })

  goes_ours : (e t : Exploring) → IsOurs e → explored.onward e ≡ Goes t → IsOurs t
  goes_ours e t h q = by e.past_limit (subst (λ (x : Exploring). explored.onward x ≡ Goes t) (same e h) q)
    where
      on : (w : Onward Played) → FineOn w → onward_with (ours e) w ≡ Goes t → IsOurs t
      on (Goes s) g q = is_with e t s g (goes_to (with (ours e) s) t q)
      on (Ends s) g q = absurd (cc q)
      on Full g q = absurd (cc q)

      by : (b : Bool) → cond b (Ends (ours e)) (onward_with (ours e) (onward job cfg lim e.deep e.played)) ≡ Goes t → IsOurs t
      by true q = absurd (cc q)
      by false q = on (onward job cfg lim e.deep e.played) (onward_fine e.deep e.played h.repeats) q

  ends_ours : (e t : Exploring) → IsOurs e → explored.onward e ≡ Ends t → IsOurs t
  ends_ours e t h q = by e.past_limit (subst (λ (x : Exploring). explored.onward x ≡ Ends t) (same e h) q)
    where
      on : (w : Onward Played) → FineOn w → onward_with (ours e) w ≡ Ends t → IsOurs t
      on (Goes s) g q = absurd (cc q)
      on (Ends s) g q = is_with e t s g (ends_as (with (ours e) s) t q)
      on Full g q = absurd (cc q)

      by : (b : Bool) → cond b (Ends (ours e)) (onward_with (ours e) (onward job cfg lim e.deep e.played)) ≡ Ends t → IsOurs t
      by true q = is_with e t e.played h.repeats (ends_as (ours e) t q)
      by false q = on (onward job cfg lim e.deep e.played) (onward_fine e.deep e.played h.repeats) q

  befallen_ours : (f : Fault) → IsSmall f → (e t : Exploring) → IsOurs e → explored.befallen f e ≡ Some t → IsOurs t
  befallen_ours f few e t h q = by e.past_limit (subst (λ (x : Exploring). explored.befallen f x ≡ Some t) (same e h) q)
    where
      fares : (x : Fate) → Fine x → befallen_with (ours e) x ≡ Some t → IsOurs t
      fares (Happens s) g q = is_with e t s g (some_is (with (ours e) s) t q)
      fares NotPermitted g q = absurd (none_is t q)
      fares (PastLimit s) g q = subst IsOurs (some_is (record (ours e) { played = s; past_limit = true }) t q) (record { job = refl; config = refl; repeats = g })

      by : (b : Bool) → cond b None (befallen_with (ours e) (befallen job cfg lim f e.played)) ≡ Some t → IsOurs t
      by true q = absurd (none_is t q)
      by false q = fares (befallen job cfg lim f e.played) (befallen_fine (newest job cfg lim e.played) f few e.played h.repeats) q

  module _ (most total : ℕ) where
    abbrev AreOurs : Found Exploring → Type 0
    AreOurs (Run k t) = IsOurs t
    AreOurs PassesLimit = Unit {0}

    faults_small : (s : Exploring) → AreSmall (explored.faults s)
    faults_small s = by s.past_limit
      where
        by : (b : Bool) → AreSmall (cond b [] (faults_at (job_as s.job) s.config (within s.config) s.deep s.played))
        by true = tt
        by false = small_faults (job_as s.job) s.config (within s.config) s.deep s.played

    are_ours : (n ripe left : ℕ) (o : List Fault) (s : Exploring) (r : Found Exploring) → IsOurs s → AreSmall o → Departs explored most total n ripe left o s r → AreOurs r
    are_ours m i a os v r h l (Has_ended ripe left o s t w) = ends_ours s t h w
    are_ours m i a os v r h l (Has_made_all ripe o s) = h
    are_ours m i a os v r h l (Would_pass n ripe left o s w) = tt
    are_ours m i a os v r h l (Went n ripe left o s t q w d) = are_ours n (length o) left o t q (goes_ours s t h w) l d
    are_ours m i a os v r h l (Was_befallen n ripe left o s t q f may w d) =
        are_ours n (length o) most (o ++ option_to_list (explored.later f)) t q (befallen_ours f (small_in (explored.faults s) f (faults_small s) may) s t h w) (small_later o f l) d
    are_ours m i a os v r h l (Came_later n ripe left o s t q place f lt g w d) = are_ours n (length (remove o place)) most (remove o place) t q (befallen_ours f (small_at o place f l g) s t h w) (small_remove o place l) d

  -- ---- the run of an input

  starts_ours : (e t : Exploring) → IsOurs e → StartsFrom e t → IsOurs t
  starts_ours e t h (inl p) = by (start_first (ours e)) refl (subst (λ (x : Exploring). option_map (with x) (start_first x) ≡ Some t) (same e h) p.1)
    where
      by : (o : Option Played) → start_first (ours e) ≡ o → option_map (with (ours e)) o ≡ Some t → IsOurs t
      by None is q = absurd (none_is t q)
      by (Some s) is q = is_with e t s (told_repeats (Start 1 0) ((λ w. tt), omega arith) e.played s h.repeats is) (some_is (with (ours e) s) t q)
  starts_ours e t h (inr p) = subst IsOurs (sym p.1) h

  left_ours : (e : Exploring) (s : Played) → Repeats s → e ≡ record { job = sub.job; config = config_of sub; played = s; past_limit = false; deep = false } → IsOurs e
  left_ours e s h is = subst IsOurs (sym is) (record { job = refl; config = refl; repeats = h })

  deep_ours : (e : Exploring) (deep : Bool) → IsOurs e → IsOurs (record e { deep = deep })
  deep_ours e deep h = record { job = h.job; config = h.config; repeats = h.repeats }

-- the events of a run can be repeated, and it is of the job of its input
runs_are_ours : (input : List ℕ) (most faults k : ℕ) (deep : Bool) (first s : Exploring) (h : IsRunOf input first) → IsOneBy explored most faults (record first { deep = deep }) (Run k s) → IsOurs h.left.prints.job s
runs_are_ours input most faults k deep first s h d =
    let p = h.left.prints in
    let left = scripts_are_repeatable_law p.job 2 (script_lines input) p.commands p.left p.read p.comes in
    let begun = starts_ours p.job h.before first (left_ours p.job h.before p.left left h.left.is) h.starts in
    are_ours p.job most d.0 d.0 0 most [] (record first { deep = deep }) (Run k s) (deep_ours p.job first deep begun) tt d.2

pub scripts_lead_to_their_ends_law : OutcomesArePrinted → ScriptsLeadToTheirEnds
scripts_lead_to_their_ends_law printed input most faults k deep s (first, run, one) =
    let p = run.left.prints in
    let h = runs_are_ours input most faults k deep first s run one in
    let again = runs_are_repeated_law input (repeating s.played.events) p.job s.played.events p.said h.repeats ([], sym (append-nil (repeating s.played.events))) in
    let text : world_text (config_of p.job) (world_of (ours p.job s)) ≡ outcome_text (outcome_of s.config (world_of s)) =
    ap (λ (x : Exploring). world_text x.config (world_of x)) (sym (same p.job s h)) ∙ sym (printed s.config (world_of s)) in
    subst (PrintsPlay within _) text again.prints
