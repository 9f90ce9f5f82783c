-- Of each fault that came, where it was made or refused; and that nothing else happened.
use Rattle.std.proofs.Common.{◌≡◌, ◌⊎◌, ◌<◌, ◌≤◌, ℕ, zero, suc, ◌+◌, Bool, true, false, List, [], ◌∷◌, ◌++◌, length, map, take, slice_get, Option, Some, None, if◌then◌else◌, nat_eq, nat_lt, nltb→le, ltb→lt, not-suc-le-zero, ◌&&◌, All, flat_map, append_assoc, append-nil, refl, sym, ap, subst, inl, inr, arith, ◌∙◌}
use Rattle.std.specs.Bool.{fails, passes}
use Rattle.std.proofs.lemmas.List.Elements.{All-push}
use Rattle.std.proofs.lemmas.List.Concat.{flat_map-append}
use Rattle.mr_world_events.specs.declared.event.Event.{Event}
use Rattle.mr_world_events.specs.declared.event.Event.TheVariants as event
use Rattle.mr_world_events.specs.declared.plan.PlanAct.{PlanAct}
use Rattle.mr_world_events.specs.declared.plan.PlanAct.TheVariants as act
use Rattle.mr_world_events.specs.declared.plan.PlanFault.{PlanFault}
use Rattle.mr_world_events.specs.declared.why.Why.{Why}
use Rattle.mr_world_model.specs.Effect.{not_now}
use Rattle.mr_board.specs.mr_world.specs.Journal.{Journal, world_in}
use Rattle.mr_board_report.specs.Following.{Made, Opens, Planned, Refused, Started, Went, comes_by_itself, due_after, event_of, with_event}
use Rattle.mr_board_report.specs.Laws.{Empty, IsPartOf, MadeOrRefused, With, Without, acts_of, is_quiet}

-- ---- lists

some-is : {A : Type 0} {y z : A} → Some y ≡ Some z → y ≡ z
some-is e = cc

take-one : {A : Type 0} (xs : List A) (n : ℕ) (x : A) → slice_get xs n ≡ Some x → take (suc n) xs ≡ take n xs ++ x ∷ []
take-one [] n x is = absurd (cc is)
take-one (y ∷ ys) zero x is = ap (λ z. z ∷ []) (some-is is)
take-one (y ∷ ys) (suc n) x is = ap (λ zs. y ∷ zs) (take-one ys n x is)

more-suc : (n : ℕ) → n + 1 ≡ suc n
more-suc n = omega arith

acts-taken : (faults : List PlanFault) (came : ℕ) (f : PlanFault) → slice_get faults came ≡ Some f → map (λ (g : PlanFault). g.act) (take (came + 1) faults) ≡ map (λ (g : PlanFault). g.act) (take came faults) ++ f.act ∷ []
acts-taken faults came f is =
    ap (λ n. map (λ (g : PlanFault). g.act) (take n faults)) (more-suc came) ∙ (ap (map (λ (g : PlanFault). g.act)) (take-one faults came f is) ∙ mapped (take came faults))
  where
    mapped : (xs : List PlanFault) → map (λ (g : PlanFault). g.act) (xs ++ f ∷ []) ≡ map (λ (g : PlanFault). g.act) xs ++ f.act ∷ []
    mapped [] = refl
    mapped (x ∷ xs) = ap (λ zs. x.act ∷ zs) (mapped xs)

-- ---- what is due

-- the fault that is due is the next one, and its time has come
due-is : (events : ℕ) (o : Option PlanFault) (f : PlanFault) → due_after events o ≡ Some f → (o ≡ Some f) × (f.after ≤ events)
due-is events None f is = absurd (cc is)
due-is events (Some g) f is = by (nat_lt events g.after) refl is where
  by : (early : Bool) → nat_lt events g.after ≡ early → (if early then None else Some g) ≡ Some f → (Some g ≡ Some f) × (f.after ≤ events)
  by true e same = absurd (cc same)
  by false e same = (same, subst (λ (h : PlanFault). h.after ≤ events) (some-is same) (nltb→le events g.after (fails (nat_lt events g.after) e)))

-- ---- where a fault came

-- one event more
goes-on : (f : PlanFault) (j : Journal) (e : Event) → MadeOrRefused f j → MadeOrRefused f (with_event j e)
goes-on f j e m = record {
  before = m.before;
  behind = m.behind ++ e ∷ [];
  is = λ i. record { config = (m.is i).config; events = longer i };
  due = m.due;
  made = by m.made;
}
  where
    longer : j.events ++ e ∷ [] ≡ m.before.events ++ (m.behind ++ e ∷ [])
    longer = ap (λ (x : Journal). x.events ++ e ∷ []) m.is ∙ append_assoc m.before.events m.behind (e ∷ [])

    by : ((rest : List Event) × (m.behind ≡ event_of (world_in m.before).fence f.act ∷ rest)) ⊎ ((why : Why) × (not_now m.before.config (world_in m.before) (event_of (world_in m.before).fence f.act) ≡ Some why))
        → ((rest : List Event) × (m.behind ++ e ∷ [] ≡ event_of (world_in m.before).fence f.act ∷ rest)) ⊎ ((why : Why) × (not_now m.before.config (world_in m.before) (event_of (world_in m.before).fence f.act) ≡ Some why))
    by (inl made) = inl (made.0 ++ e ∷ [], ap (λ es. es ++ e ∷ []) made.1)
    by (inr refused) = inr refused

or-last : (i came : ℕ) → i < came + 1 → (i < came) ⊎ (i ≡ came)
or-last i came h = by (nat_lt i came) refl where
  by : (less : Bool) → nat_lt i came ≡ less → (i < came) ⊎ (i ≡ came)
  by true e = inl (ltb→lt i came (passes (nat_lt i came) e))
  by false e = let k = nltb→le i came (fails (nat_lt i came) e) in inr (omega (arith, h, k))

-- the fault that came last is this one
last-is : (faults : List PlanFault) (i came : ℕ) (f g : PlanFault) → i ≡ came → slice_get faults i ≡ Some f → slice_get faults came ≡ Some g → g ≡ f
last-is faults i came f g same is there = some-is (sym there ∙ (ap (slice_get faults) (sym same) ∙ is))

pub made_or_refused : (faults : List PlanFault) (came : ℕ) (j : Journal) → Planned faults came j → (i : ℕ) (f : PlanFault) → i < came → slice_get faults i ≡ Some f → MadeOrRefused f j
made_or_refused faults n k (Opens config) i f h is = absurd (not-suc-le-zero h)
made_or_refused faults n k (Went came j e planned living none calm) i f h is = goes-on f j e (made_or_refused faults came j planned i f h is)
made_or_refused faults n k (Started came j planned crashed) i f h is = goes-on f j (event.Start ((world_in j).fence + 1) 0) (made_or_refused faults came j planned i f h is)
made_or_refused faults n k (Made came j g planned living comes) i f h is = by (or-last i came h) (λ less. made_or_refused faults came j planned i f less is) where
  by : (i < came) ⊎ (i ≡ came) → (i < came → MadeOrRefused f j) → MadeOrRefused f (with_event j (event_of (world_in j).fence g.act))
  by (inl less) earlier = goes-on f j (event_of (world_in j).fence g.act) (earlier less)
  by (inr same) earlier =
      let found = due-is (length j.events) (slice_get faults came) g comes in
      subst (λ (x : PlanFault). MadeOrRefused x (with_event j (event_of (world_in j).fence g.act))) (last-is faults i came f g same is found.0) (record {
        before = j;
        behind = event_of (world_in j).fence g.act ∷ [];
        is = refl;
        due = found.1;
        made = inl ([], refl);
      })
made_or_refused faults n k (Refused came j g why planned living comes refusal) i f h is = by (or-last i came h) (λ less. made_or_refused faults came j planned i f less is) where
  by : (i < came) ⊎ (i ≡ came) → (i < came → MadeOrRefused f j) → MadeOrRefused f j
  by (inl less) earlier = earlier less
  by (inr same) earlier =
      let found = due-is (length j.events) (slice_get faults came) g comes in
      subst (λ (x : PlanFault). MadeOrRefused x j) (last-is faults i came f g same is found.0) (record {
        before = j;
        behind = [];
        is = λ i. record { config = j.config; events = sym (append-nil j.events) i };
        due = found.1;
        made = inr (why, refusal);
      })

-- ---- nothing else

calm-acts : (e : Event) → comes_by_itself e ≡ true → acts_of e ≡ []
calm-acts (event.Start k kept) calm = refl
calm-acts (event.Crash k kept) calm = absurd (cc calm)
calm-acts (event.Duty k w) calm = refl
calm-acts (event.LaunchOn k t n) calm = refl
calm-acts (event.Deliver i) calm = refl
calm-acts (event.ContainerStep c w) calm = refl
calm-acts (event.Computed c bytes) calm = refl
calm-acts (event.Die c) calm = refl
calm-acts (event.NodeRestart n) calm = absurd (cc calm)
calm-acts (event.Expire k n) calm = absurd (cc calm)

second : (a b : Bool) → (a && b) ≡ true → b ≡ true
second true b e = e
second false b e = absurd (cc e)

calm-quiet : (e : Event) → comes_by_itself e ≡ true → is_quiet e ≡ true
calm-quiet (event.Start k kept) calm = second (nat_eq k 1) (nat_eq kept 0) calm
calm-quiet (event.Crash k kept) calm = refl
calm-quiet (event.Duty k w) calm = calm
calm-quiet (event.LaunchOn k t n) calm = refl
calm-quiet (event.Deliver i) calm = refl
calm-quiet (event.ContainerStep c w) calm = calm
calm-quiet (event.Computed c bytes) calm = refl
calm-quiet (event.Die c) calm = refl
calm-quiet (event.NodeRestart n) calm = refl
calm-quiet (event.Expire k n) calm = refl

fault-acts : (newest : ℕ) (a : PlanAct) → acts_of (event_of newest a) ≡ a ∷ []
fault-acts newest (act.Node node) = refl
fault-acts newest (act.Master kept) = refl
fault-acts newest (act.Expire node) = refl

fault-quiet : (newest : ℕ) (a : PlanAct) → is_quiet (event_of newest a) ≡ true
fault-quiet newest (act.Node node) = refl
fault-quiet newest (act.Master kept) = refl
fault-quiet newest (act.Expire node) = refl

-- an event more
acts-more : (es : List Event) (e : Event) → flat_map acts_of (es ++ e ∷ []) ≡ flat_map acts_of es ++ acts_of e
acts-more es e = flat_map-append acts_of es (e ∷ []) ∙ ap (λ xs. flat_map acts_of es ++ xs) (append-nil (acts_of e))

acts-same : (es : List Event) (e : Event) → acts_of e ≡ [] → flat_map acts_of (es ++ e ∷ []) ≡ flat_map acts_of es
acts-same es e none = acts-more es e ∙ (ap (λ xs. flat_map acts_of es ++ xs) none ∙ append-nil (flat_map acts_of es))

part : (faults : List PlanFault) (came : ℕ) (j : Journal) → Planned faults came j → IsPartOf (flat_map acts_of j.events) (map (λ (f : PlanFault). f.act) (take came faults))
part faults n k (Opens config) = Empty
part faults n k (Went came j e planned living none calm) = subst (λ xs. IsPartOf xs (map (λ (f : PlanFault). f.act) (take came faults))) (sym (acts-same j.events e (calm-acts e calm))) (part faults came j planned)
part faults n k (Started came j planned crashed) = subst (λ xs. IsPartOf xs (map (λ (f : PlanFault). f.act) (take came faults))) (sym (acts-same j.events (event.Start ((world_in j).fence + 1) 0) refl)) (part faults came j planned)
part faults n k (Made came j f planned living comes) =
    let e = event_of (world_in j).fence f.act in
    let found = due-is (length j.events) (slice_get faults came) f comes in
    subst (λ xs. IsPartOf xs (map (λ (f : PlanFault). f.act) (take (came + 1) faults))) (sym (acts-more j.events e ∙ ap (λ xs. flat_map acts_of j.events ++ xs) (fault-acts (world_in j).fence f.act)))
    (subst (λ ys. IsPartOf (flat_map acts_of j.events ++ f.act ∷ []) ys) (sym (acts-taken faults came f found.0)) (With (flat_map acts_of j.events) (map (λ (f : PlanFault). f.act) (take came faults)) f.act (part faults came j planned)))
part faults n k (Refused came j f why planned living comes refused) =
    let found = due-is (length j.events) (slice_get faults came) f comes in
    subst (λ ys. IsPartOf (flat_map acts_of j.events) ys) (sym (acts-taken faults came f found.0)) (Without (flat_map acts_of j.events) (map (λ (f : PlanFault). f.act) (take came faults)) f.act (part faults came j planned))

quiet : (faults : List PlanFault) (came : ℕ) (j : Journal) → Planned faults came j → All (λ e. is_quiet e ≡ true) j.events
quiet faults n k (Opens config) = λ i d h. absurd (not-suc-le-zero h)
quiet faults n k (Went came j e planned living none calm) = All-push (λ e. is_quiet e ≡ true) j.events e (quiet faults came j planned) (calm-quiet e calm)
quiet faults n k (Started came j planned crashed) = All-push (λ e. is_quiet e ≡ true) j.events (event.Start ((world_in j).fence + 1) 0) (quiet faults came j planned) refl
quiet faults n k (Made came j f planned living comes) = All-push (λ e. is_quiet e ≡ true) j.events (event_of (world_in j).fence f.act) (quiet faults came j planned) (fault-quiet (world_in j).fence f.act)
quiet faults n k (Refused came j f why planned living comes refused) = quiet faults came j planned

pub only_planned : (faults : List PlanFault) (came : ℕ) (j : Journal) → Planned faults came j → IsPartOf (flat_map acts_of j.events) (map (λ (f : PlanFault). f.act) (take came faults)) × All (λ e. is_quiet e ≡ true) j.events
only_planned faults came j planned = (part faults came j planned, quiet faults came j planned)
