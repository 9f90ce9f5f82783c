-- What a script of a run leads to.
use Rattle.std.proofs.Common.{◌≡◌, ◌⊎◌, ℕ, zero, suc, Bool, true, false, cond, ◌&&◌, nat_lt, List, [], ◌∷◌, ◌++◌, length, Option, Some, None, Result, Ok, Err, inl, inr, refl, sym, ap, subst, ◌∙◌, append-nil, append_assoc}
use Rattle.std.specs.Option.{option_and_then}
use Rattle.mr_ids.specs.declared.id.TaskKind.TheVariants.{Map}
use Rattle.mr_world_events.specs.declared.why.Why.{Why}
use Rattle.mr_packet.specs.declared.packet.ContainerId.{ContainerId}
use Rattle.mr_master_model.specs.declared.phase.DutyName.{DutyName}
use Rattle.mr_master_model.specs.declared.phase.DutyName.TheVariants as duty
use Rattle.mr_container.specs.declared.wish.Wish.{Wish}
use Rattle.mr_container.specs.declared.wish.Wish.TheVariants as wish
use Rattle.mr_script.specs.declared.command.Command.{Command}
use Rattle.mr_script.specs.declared.command.Command.TheVariants as command
use Rattle.mr_script.specs.declared.event_name.EventName.{EventName}
use Rattle.mr_script.specs.declared.expectation.Expectation.{Expectation}
use Rattle.mr_script.specs.declared.event_name.EventName.TheVariants as name
use Rattle.mr_script.proofs.Readings.{one_reading_law as one_script, read_or_bad_law as script_or_bad}
use Rattle.mr_world_model.specs.Packets.{Config}
use Rattle.mr_world_model.specs.World.{Event}
use Rattle.mr_world_model.specs.Effect.{not_now}
use Rattle.mr_world_model.specs.Claims.{Limits, IsMarked, LooksTheSame, winner, world_of}
use Rattle.mr_world_model.specs.Sequential.{Job}
use Rattle.mr_world_model.proofs.Grows.{winner_stays}
use Rattle.mr_world_model.proofs.Outcomes.{no_later_event}
use Rattle.mr_world.specs.declared.limits.TheConstants.{MAX_EVENTS}
use Rattle.mr_sim_commands.specs.declared.job.submission.Submission.{Submission}
use Rattle.mr_play.specs.EventNames.{duty_event, wish_event, stops_at}
use Rattle.mr_play.specs.Expectations.{is_met, unmet_line, value_in}
use Rattle.mr_play.specs.Played.{Played, Next, world, computing, taken, unless_refused, made, calmed, calmed_by, calms, is_through, cursor_at, next_of, stepped_by, stop_of, most_of, losing, expecting, obeyed, played}
use Rattle.mr_play.specs.Sources.{noted, stretch_of, stretches}
use Rattle.mr_script.specs.Lines.{after}
use Rattle.mr_script.specs.Script.{AreCommands, IsFirstBad}
use Rattle.mr_sim_commands.specs.declared.fault.JobTextFault.{JobTextFault}
use Rattle.mr_sim_commands.specs.job.Text.{submission_of}
use Rattle.mr_play.specs.Text.{PrintsPlay, IsBadPlayJob, IsBadPlayLine, IsFullPlay, played_of, played_text, job_line, script_by, script_lines}
use Rattle.mr_play.specs.Laws.{NamesAreOfDutiesAndWishes, OnePlayText, GoesOn, ScriptsGoOn}

some_is : {A : Type 0} (x y : A) → Some x ≡ Some y → x ≡ y
some_is x y e = cc

none_is : {A : Type 0} (x : A) → None ≡ Some x → ⊥
none_is x e = cc

-- ---- names

every : (n : EventName) → (n ≡ name.Launch) ⊎ ((n ≡ name.Step) ⊎ (((d : DutyName) × (duty_event d ≡ n)) ⊎ ((w : Wish) × (wish_event w ≡ Some n))))
every name.Marks = inr (inr (inl (duty.Marks, refl)))
every name.Read = inr (inr (inl (duty.Read, refl)))
every name.Setup = inr (inr (inl (duty.Setup, refl)))
every name.Recover = inr (inr (inl (duty.Recover, refl)))
every name.Bar = inr (inr (inl (duty.Bar, refl)))
every name.Append = inr (inr (inl (duty.Append, refl)))
every name.Flush = inr (inr (inl (duty.Flush, refl)))
every name.Started = inr (inr (inl (duty.Started, refl)))
every name.Merge = inr (inr (inl (duty.Merge, refl)))
every name.Cleanup = inr (inr (inl (duty.Cleanup, refl)))
every name.Marker = inr (inr (inl (duty.Marker, refl)))
every name.Success = inr (inr (inl (duty.Success, refl)))
every name.Fail = inr (inr (inl (duty.Fail, refl)))
every name.Abort = inr (inr (inl (duty.Abort, refl)))
every name.Compute = inr (inr (inr (wish.Compute, refl)))
every name.Where = inr (inr (inr (wish.Where 0, refl)))
every name.Fetch = inr (inr (inr (wish.Fetch (record { task = record { job = record { start = 0; number = 0 }; kind = Map; number = 0 }; number = 0 }) 0 0, refl)))
every name.Lost = inr (inr (inr (wish.Lost (record { task = record { job = record { start = 0; number = 0 }; kind = Map; number = 0 }; number = 0 }), refl)))
every name.Mkdirs = inr (inr (inr (wish.Mkdirs, refl)))
every name.Create = inr (inr (inr (wish.Create, refl)))
every name.Write = inr (inr (inr (wish.Write, refl)))
every name.Close = inr (inr (inr (wish.Close, refl)))
every name.Needs = inr (inr (inr (wish.Needs, refl)))
every name.Pending = inr (inr (inr (wish.Pending, refl)))
every name.Poll = inr (inr (inr (wish.Poll, refl)))
every name.Look = inr (inr (inr (wish.Look, refl)))
every name.Clear = inr (inr (inr (wish.Clear, refl)))
every name.Rename = inr (inr (inr (wish.Rename, refl)))
every name.Report = inr (inr (inr (wish.Report, refl)))
every name.Failed = inr (inr (inr (wish.Failed, refl)))
every name.Launch = inl refl
every name.Step = inr (inl refl)

duty_back : EventName → DutyName
duty_back name.Marks = duty.Marks
duty_back name.Read = duty.Read
duty_back name.Setup = duty.Setup
duty_back name.Recover = duty.Recover
duty_back name.Bar = duty.Bar
duty_back name.Append = duty.Append
duty_back name.Flush = duty.Flush
duty_back name.Started = duty.Started
duty_back name.Merge = duty.Merge
duty_back name.Cleanup = duty.Cleanup
duty_back name.Marker = duty.Marker
duty_back name.Success = duty.Success
duty_back name.Fail = duty.Fail
duty_back _ = duty.Abort

back : (d : DutyName) → duty_back (duty_event d) ≡ d
unfolding duty_back
back duty.Marks = refl
back duty.Read = refl
back duty.Setup = refl
back duty.Recover = refl
back duty.Bar = refl
back duty.Append = refl
back duty.Flush = refl
back duty.Started = refl
back duty.Merge = refl
back duty.Cleanup = refl
back duty.Marker = refl
back duty.Success = refl
back duty.Fail = refl
back duty.Abort = refl

pub names_are_of_duties_and_wishes_law : NamesAreOfDutiesAndWishes
names_are_of_duties_and_wishes_law = record { every = every; apart = λ d e h. sym (back d) ∙ ap duty_back h ∙ back e }

-- ---- a script that goes on

Longer : Played → Played → Type 0
Longer s t = (more : List Event) × (t.events ≡ s.events ++ more)

longer_refl : (s : Played) → Longer s s
unfolding Longer
longer_refl s = ([], sym (append-nil s.events))

longer_same : (s t : Played) → Some s ≡ Some t → Longer s t
unfolding Longer
longer_same s t e = ([], ap (λ (p : Played). p.events) (sym (some_is s t e)) ∙ sym (append-nil s.events))

longer_trans : (s t u : Played) → Longer s t → Longer t u → Longer s u
unfolding Longer
longer_trans s t u (m, e) (n, f) = (m ++ n, f ∙ ap (λ es. es ++ n) e ∙ append_assoc s.events m n)

module _ (job : Job) (cfg : Config) (within : Limits) where
  taken_longer : (e : Event) (last : Option ContainerId) (s t : Played) → taken job cfg within e last s ≡ Some t → Longer s t
  unfolding Longer
  taken_longer e last s t h = by (nat_lt (length s.events) MAX_EVENTS && within (world job cfg within s) e) h where
    by : (b : Bool) → cond b (Some (record s { events = s.events ++ e ∷ []; stepped = last })) None ≡ Some t → (more : List Event) × (t.events ≡ s.events ++ more)
    by true h = (e ∷ [], ap (λ (p : Played). p.events) (sym (some_is (record s { events = s.events ++ e ∷ []; stepped = last }) t h)))
    by false h = absurd (none_is t h)

  made_longer : (line : ℕ) (e : Event) (last : Option ContainerId) (s t : Played) → made job cfg within line e last s ≡ Some t → Longer s t
  unfolding Longer
  made_longer line e last s t h = by (not_now cfg (world job cfg within s) e) h where
    by : (o : Option Why) → unless_refused job cfg within line e last s o ≡ Some t → (more : List Event) × (t.events ≡ s.events ++ more)
    by None h = taken_longer e last s t h
    by (Some reason) h = ([], ap (λ (p : Played). p.events) (sym (some_is _ t h)) ∙ sym (append-nil s.events))

  -- a computation, or an event of a script that is there
  if_there : (f : Event → Option Played) (o : Option Event) (s t : Played) → ((e : Event) → f e ≡ Some t → Longer s t) → option_and_then f o ≡ Some t → Longer s t
  if_there f None s t go h = absurd (none_is t h)
  if_there f (Some e) s t go h = go e h

  Grows : (Played → Option Played) → Type 0
  Grows f = (s t : Played) → f s ≡ Some t → Longer s t

  then_longer : (more : Played → Option Played) → Grows more → (o : Option Played) (s t : Played) → ((u : Played) → o ≡ Some u → Longer s u) → option_and_then more o ≡ Some t → Longer s t
  unfolding Grows
  then_longer more grows None s t first h = absurd (none_is t h)
  then_longer more grows (Some u) s t first h = longer_trans s u t (first u refl) (grows u t h)

  calmed_longer : (more : Played → Option Played) → Grows more → (e : Event) (last : Option ContainerId) (s t : Played) (o : Option Why) → calmed job cfg within more e last s o ≡ Some t → Longer s t
  calmed_longer more grows e last s t None h = then_longer more grows (taken job cfg within e last s) s t (λ u h. taken_longer e last s u h) h
  calmed_longer more grows e last s t (Some reason) h = longer_same s t h

  moved_longer : (n : ℕ) (s t : Played) → Longer (record s { cursor = n }) t → Longer s t
  unfolding Longer
  moved_longer n s t h = h

  calmed_by_longer : (stop : Option EventName) (more : Played → Option Played) → Grows more → (s t : Played) (o : Option Next) → calmed_by job cfg within stop more s o ≡ Some t → Longer s t
  calmed_by_longer stop more grows s t None h = longer_same s t h
  calmed_by_longer stop more grows s t (Some next) h = by (stops_at stop next.names) h where
    go : option_and_then (λ e. calmed job cfg within more e next.stepped (record s { cursor = next.cursor }) (not_now cfg (world job cfg within s) e)) next.event ≡ Some t → Longer s t
    go h = if_there _ next.event s t (λ e h. moved_longer next.cursor s t (calmed_longer more grows e next.stepped (record s { cursor = next.cursor }) t (not_now cfg (world job cfg within s) e) h)) h

    by : (b : Bool) → cond b (Some s) (option_and_then (λ e. calmed job cfg within more e next.stepped (record s { cursor = next.cursor }) (not_now cfg (world job cfg within s) e)) next.event) ≡ Some t → Longer s t
    by true h = longer_same s t h
    by false h = go h

  calms_longer : (k : ℕ) (stop : Option EventName) (most : ℕ) → Grows (calms job cfg within k stop most)
  unfolding Grows
  calms_longer k stop zero s t h = longer_same s t h
  calms_longer k stop (suc most) s t h = by (calms_longer k stop most) (is_through cfg (world job cfg within s) k) h where
    by : ((s t : Played) → calms job cfg within k stop most s ≡ Some t → Longer s t) → (b : Bool) → cond b (Some s) (calmed_by job cfg within stop (calms job cfg within k stop most) (record s { cursor = cursor_at (world job cfg within s) s.dropped s.cursor }) (next_of job cfg within (world job cfg within s) k s.stepped (cursor_at (world job cfg within s) s.dropped s.cursor))) ≡ Some t → Longer s t
    by grows true h = longer_same s t h
    by grows false h = moved_longer (cursor_at (world job cfg within s) s.dropped s.cursor) s t (calmed_by_longer stop (calms job cfg within k stop most) grows (record s { cursor = cursor_at (world job cfg within s) s.dropped s.cursor }) t _ h)

  expecting_longer : (line : ℕ) (e : Expectation) (s : Played) → Longer s (expecting job cfg within line e s)
  unfolding Longer
  expecting_longer line e s = by (is_met cfg (world job cfg within s) e) where
    by : (b : Bool) → (more : List Event) × ((cond b s (record s { told = s.told ++ unmet_line line e (value_in cfg (world job cfg within s) e); met = false })).events ≡ s.events ++ more)
    by true = ([], sym (append-nil s.events))
    by false = ([], sym (append-nil s.events))

  lost_longer : (place : ℕ) (s t : Played) → Longer (losing job cfg within place s) t → Longer s t
  unfolding Longer
  lost_longer place s t h = h

  obeyed_longer : (line : ℕ) (c : Command) → Grows (obeyed job cfg within line c)
  unfolding Grows
  obeyed_longer line (command.Makes e) s t h = made_longer line e (stepped_by job cfg within e s.stepped) s t h
  obeyed_longer line (command.Compute c) s t h = if_there _ (computing job cfg within (world job cfg within s) c) s t (λ e h. made_longer line e (Some c) s t h) h
  obeyed_longer line (command.Calm k until) s t h = calms_longer k (stop_of until) (most_of until) s t h
  obeyed_longer line (command.Drop place) s t h = lost_longer place s t (longer_same (losing job cfg within place s) t h)
  obeyed_longer line (command.Expect e) s t h = longer_trans s (expecting job cfg within line e s) t (expecting_longer line e s) (longer_same (expecting job cfg within line e s) t h)

  played_longer : (cs : List (ℕ × Command)) → Grows (played job cfg within cs)
  unfolding Grows
  played_longer [] s t h = longer_same s t h
  played_longer (c ∷ cs) s t h = then_longer (played job cfg within cs) (played_longer cs) (obeyed job cfg within c.0 c.1 s) s t (λ u h. obeyed_longer c.0 c.1 s u h) h

  -- commands behind others begin where those ended
  pub played_then : (cs ds : List (ℕ × Command)) (begin s : Played) → played job cfg within cs begin ≡ Some s → played job cfg within (cs ++ ds) begin ≡ played job cfg within ds s
  played_then [] ds begin s h = ap (played job cfg within ds) (some_is begin s h)
  played_then (c ∷ cs) ds begin s h = by (obeyed job cfg within c.0 c.1 begin) (λ u h. played_then cs ds u s h) h where
    by : (o : Option Played) → ((u : Played) → played job cfg within cs u ≡ Some s → played job cfg within (cs ++ ds) u ≡ played job cfg within ds s) → option_and_then (played job cfg within cs) o ≡ Some s → option_and_then (played job cfg within (cs ++ ds)) o ≡ played job cfg within ds s
    by None go h = absurd (none_is s h)
    by (Some u) go h = go u h

  -- and what they make is noted behind
  pub noted_then : (cs ds : List (ℕ × Command)) (begin s : Played) → played job cfg within cs begin ≡ Some s → stretches job cfg within (cs ++ ds) begin ≡ stretches job cfg within cs begin ++ stretches job cfg within ds s
  noted_then [] ds begin s h = ap (stretches job cfg within ds) (some_is begin s h)
  noted_then (c ∷ cs) ds begin s h = by (obeyed job cfg within c.0 c.1 begin) (λ u h. noted_then cs ds u s h) h where
    by : (o : Option Played) → ((u : Played) → played job cfg within cs u ≡ Some s → stretches job cfg within (cs ++ ds) u ≡ stretches job cfg within cs u ++ stretches job cfg within ds s) →
        option_and_then (played job cfg within cs) o ≡ Some s →
        noted job cfg within (stretches job cfg within (cs ++ ds)) c o ≡ noted job cfg within (stretches job cfg within cs) c o ++ stretches job cfg within ds s
    by None go h = absurd (none_is s h)
    by (Some u) go h = ap (λ xs. stretch_of c.0 c.1 (length u.events) ∷ xs) (go u h)

  goes_on : (s t : Played) → Longer s t → GoesOn job cfg within s t
  unfolding Longer
  goes_on s t (more, e) = record {
    events = (more, e);
    winners = λ r a h. ap (λ es. winner (world_of cfg within es) r) e ∙ winner_stays cfg within s.events more r a h;
    marked = λ h.
        let final = no_later_event cfg within s.events more h in
        (subst (λ es. IsMarked (world_of cfg within es)) (sym e) final.0, subst (λ es. LooksTheSame (world_of cfg within s.events) (world_of cfg within es)) (sym e) final.1);
  }

pub scripts_go_on_law : ScriptsGoOn
unfolding Grows
scripts_go_on_law job cfg within cs ds begin s t first all =
    goes_on job cfg within s t (played_longer job cfg within ds s t (sym (played_then job cfg within cs ds begin s first) ∙ all))

-- ---- one text, or none

ok_is : {A E : Type 0} (x y : A) → ◌≡◌ {A = Result A E} (Ok x) (Ok y) → x ≡ y
ok_is x y e = cc

not_both : {A E : Type 0} (x : A) (e : E) → ◌≡◌ {A = Result A E} (Ok x) (Err e) → ⊥
not_both x e h = absurd cc

module _ (within : Config → Limits) (input : List ℕ) where
  same_job : (i j : Submission) → submission_of (job_line input) ≡ Ok i → submission_of (job_line input) ≡ Ok j → i ≡ j
  same_job i j e f = ok_is {E = JobTextFault} i j (sym e ∙ f)

  same_commands : (i j : Submission) (cs ds : List (ℕ × Command)) → i ≡ j → AreCommands i.id 2 (script_lines input) cs → AreCommands j.id 2 (script_lines input) ds → cs ≡ ds
  same_commands i j cs ds e x y = one_script i.id 2 (script_by (after 10 input)) cs ds x (subst (λ (j : Submission). AreCommands j.id 2 (script_lines input) ds) (sym e) y)

  -- it comes to one end
  pub one_end : (text other : List ℕ) (p : PrintsPlay within input text) (q : PrintsPlay within input other) → p.left ≡ q.left
  one_end text other p q =
      let job : p.job ≡ q.job = same_job p.job q.job p.said q.said in
      let commands : p.commands ≡ q.commands = same_commands p.job q.job p.commands q.commands job p.read q.read in
      some_is p.left q.left (sym p.comes ∙ (λ i. played_of within (job i) (commands i)) ∙ q.comes)

  one_text : (text other : List ℕ) → PrintsPlay within input text → PrintsPlay within input other → text ≡ other
  one_text text other p q =
      let job : p.job ≡ q.job = same_job p.job q.job p.said q.said in
      let left : p.left ≡ q.left = one_end text other p q in
      p.is ∙ (λ i. played_text within (job i) (left i)) ∙ sym q.is

  not_bad_job : (text : List ℕ) (e : JobTextFault) → PrintsPlay within input text → IsBadPlayJob input e → ⊥
  not_bad_job text e p h = not_both p.job e (sym p.said ∙ h)

  not_bad_line : (text : List ℕ) (n : ℕ) → PrintsPlay within input text → IsBadPlayLine input n → ⊥
  not_bad_line text n p h =
      let job : h.job ≡ p.job = same_job h.job p.job h.said p.said in
      script_or_bad p.job.id 2 (script_by (after 10 input)) p.commands n p.read (subst (λ (j : Submission). IsFirstBad j.id 2 (script_lines input) n) job h.bad)

  not_full : (text : List ℕ) → PrintsPlay within input text → IsFullPlay within input → ⊥
  not_full text p f =
      let job : f.job ≡ p.job = same_job f.job p.job f.said p.said in
      let commands : f.commands ≡ p.commands = same_commands f.job p.job f.commands p.commands job f.read p.read in
      none_is p.left (sym f.full ∙ (λ i. played_of within (job i) (commands i)) ∙ p.comes)

pub one_play_text_law : OnePlayText
one_play_text_law = record { one = one_text; not_bad_job = not_bad_job; not_bad_line = not_bad_line; not_full = not_full }
