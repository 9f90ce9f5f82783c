-- An answer to a command, by its phase.
use Rattle.std.proofs.Common.{◌≡◌, ◌⊎◌, inl, inr, true, List, [], ◌∷◌, length, Option, Some, None, refl, sym, ap, subst, ◌∙◌}
use Rattle.mr_log_entries.specs.declared.entry.Entry.{Entry}
use Rattle.mr_log_disk.specs.declared.place.Item.{Item}
use Rattle.mr_log_disk.specs.declared.place.Node.{Node}
use Rattle.mr_log_disk.specs.declared.place.Place.{Place}
use Rattle.mr_log_disk.specs.declared.place.Place.TheVariants.{Top, Beneath, Marker, Inside}
use Rattle.mr_log_disk.specs.declared.place.Folder.TheVariants as folder
use Rattle.mr_log_disk.specs.declared.call.Call.{Call}
use Rattle.mr_log_disk.specs.declared.call.Call.TheVariants as call
use Rattle.mr_log_disk.specs.declared.answer.Answer.{Answer}
use Rattle.mr_log_disk.specs.declared.answer.Answer.TheVariants.{Says, Told, Listed}
use Rattle.mr_log_disk.specs.declared.answer.Reply.{Reply}
use Rattle.mr_log_disk.specs.declared.answer.Reply.TheVariants.{Done, Taken, Found}
use Rattle.mr_log_disk.specs.Names.{IsVisible, Moments}
use Rattle.mr_log_disk.specs.Log.{Disk}
use Rattle.mr_log_disk.specs.Calls.{Names, FolderIsSynced, Looks, EffectOnNames}
use Rattle.mr_log_standing.specs.declared.job.Job.{Job}
use Rattle.mr_log_standing.specs.declared.order.Outcome.TheVariants as outcome
use Rattle.mr_log_standing.specs.declared.standing.Win.{Win}
use Rattle.mr_log_steps.specs.declared.phase.Step.{Step}
use Rattle.mr_log_steps.specs.declared.phase.Step.TheVariants as step
use Rattle.mr_log_steps.specs.declared.phase.Phase.{Phase}
use Rattle.mr_log_steps.specs.declared.phase.Phase.TheVariants.{Reading, SyncingLog, Putting, SyncingPut, ReadingOn, MakingWork, Claiming, TakingNote, ListingKept, HandingIn, DroppingNote, SyncingKept, ReadingList, Linking, Comparing, Marking, Emptying, EmptyingAll, Forgetting, SyncingForgotten, Over}
use Rattle.mr_log_steps.specs.Lists.{marking}
use Rattle.mr_log_steps.specs.Commands.{Command, own_entry, handing_call, publishing_call, first_call, first_place, place_of, call_in}
use Rattle.mr_log_steps.specs.Turns as turns
use Rattle.mr_log_steps.specs.Turns.{goes, heard, hears, reads, lists, is_same}
use Rattle.mr_log_model.specs.Worlds.{Setting}
use Rattle.mr_log_model.specs.Runs.{MayAnswer}
use Rattle.mr_log_model.specs.Promises.{with_last, IsFront, IsDecided}
use Rattle.mr_log_model.specs.Visible.{IsOutputOf}
use Rattle.mr_log_model.proofs.Fronts.{front-self, front-trans}
use Rattle.mr_log_model.proofs.Names as names
use Rattle.mr_log_model.proofs.Names.{There, Lasts, there-turn, node-turn, made-there, taken-there, looked-there, synced-lasts}
use Rattle.mr_log_model.proofs.Steps.{Makes, Syncs, Linked, Progress, Keeps, still, output-visible, progress-stays, progress-next, progress-folder, ToShow, to-show-stays, AllShown, all-shown-stays}
use Rattle.mr_log_model.proofs.Invariant.{Knows, stage, At, marker_next, marker_last, MarkAt, Publishing, SeesAt, Fits, Amid}
use Rattle.mr_log_model.proofs.Deciding.{IsShowing}
use Rattle.mr_log_model.proofs.Hearing.{rest_of, MarkNext, ends-so, known-hears, on-work, on-listed, on-not-read, on-linking, on-comparing, on-marking, on-forgetting}
use Rattle.mr_log_model.proofs.Moving.{so-stays, publishing-stays, fits-front, put-stays, IsQuietAny, quiet-any, quiet-first, quiet-step, quiet-show, quiet-place, Turned, turned, Before, on-putting, on-log, on-own, on-read, on-read-on}

-- ---- names after an answer

pub keeps : (d new : Disk) (x : Call) (answer : Answer) → EffectOnNames d x answer new → Keeps d.names new.names
keeps d new x answer e = record {
  there = λ p v t. there-turn x p (d.names p) (new.names p) (names.turns d new x answer e p v) t;
  lasts = λ p v n l. node-turn x p (d.names p) (new.names p) n (names.turns d new x answer e p v) l;
}

pub keeps-any : (s : Setting) (d new : Disk) (x : Option Call) (answer : Answer) → MayAnswer s d x answer new → Keeps d.names new.names
keeps-any s d new None answer e = absurd e
keeps-any s d new (Some x) answer e = keeps d new x answer e.0.names

-- a step that was made
step-made : (d new : Disk) (x : Step) → EffectOnNames d (publishing_call x) (Says Done) new → (p : Place) → IsVisible p → Makes p x → There (new.names p)
step-made d new (step.Link from to file) e p v m = let P : Place → Type 0 = λ q. Names d q (Says Done) new in made-there d new p v (subst P m e)
step-made d new (step.MakeFolder q) e p v m = let P : Place → Type 0 = λ q. Names d q (Says Done) new in made-there d new p v (subst P m e)
step-made d new (step.SyncFile q) e p v m = absurd m
step-made d new (step.SyncFolder f) e p v m = absurd m
step-made d new step.WriteList e p v m = absurd m
step-made d new step.LinkMarker e p v m = absurd m

step-synced : (d new : Disk) (x : Step) → EffectOnNames d (publishing_call x) (Says Done) new → (p : Place) → IsVisible p → Syncs p x → There (d.names p) → Lasts (new.names p)
step-synced d new (step.SyncFolder f) e p v h t = synced-lasts d new f p v h e t
step-synced d new (step.Link from to file) e p v h t = absurd h
step-synced d new (step.MakeFolder q) e p v h t = absurd h
step-synced d new (step.SyncFile q) e p v h t = absurd h
step-synced d new step.WriteList e p v h t = absurd h
step-synced d new step.LinkMarker e p v h t = absurd h

-- one that was found made
found-made : (d new : Disk) (x : Step) (rest : List Step) (n : Node) → Looks d (place_of x) (Says (Found n)) new → (p : Place) → IsVisible p → Makes p x → There (new.names p)
found-made d new (step.Link from to file) rest n e p v m = let P : Place → Type 0 = λ q. Looks d q (Says (Found n)) new in looked-there d new p n v (subst P m e)
found-made d new (step.MakeFolder q) rest n e p v m = let P : Place → Type 0 = λ q. Looks d q (Says (Found n)) new in looked-there d new p n v (subst P m e)
found-made d new (step.SyncFile q) rest n e p v m = absurd m
found-made d new (step.SyncFolder f) rest n e p v m = absurd m
found-made d new step.WriteList rest n e p v m = absurd m
found-made d new step.LinkMarker rest n e p v m = absurd m

-- what is compared is no sync
no-sync : (x : Step) (rest : List Step) (n : Node) (p : Place) → is_same (x ∷ rest) n ≡ true → Syncs p x → ⊥
no-sync (step.SyncFolder f) rest n p e h = absurd (cc)
no-sync (step.Link from to file) rest n p e h = h
no-sync (step.MakeFolder q) rest n p e h = h
no-sync (step.SyncFile q) rest n p e h = h
no-sync step.WriteList rest n p e h = h
no-sync step.LinkMarker rest n p e h = h

-- ---- any phase whose call adds no entry

lands : (s : Setting) (durable : List Entry) (last : Option Entry) (d new : Disk) (c : Command) (p : Phase) → IsQuietAny (call_in p c) → Before s durable last d new c → (answer : Answer) → MayAnswer s d (call_in p c) answer new
    → ((later all : List Entry) → IsFront durable later → Fits s later new.names c.job c.host c.origin c.amiss c.is_shown → Amid s new.names later all (heard (goes p c) answer)) → Turned s durable last new (heard (goes p c) answer)
lands s durable last d new c p q b answer e a =
    let x = quiet-any s durable last d new (call_in p c) answer q b.0 e in
    turned s durable last new (heard (goes p c) answer) b.1 x (a x.durable_now (with_last x.durable_now x.last_now) x.front (fits-front s durable x.durable_now new.names c x.front b.2))

failed : (s : Setting) (v : Place → Moments) (later all : List Entry) (c : Command) → Fits s later v c.job c.host c.origin c.amiss c.is_shown → Amid s v later all (turns.over outcome.Failed c)
failed s v later all c f = ends-so s v later all c outcome.Failed refl f

-- a phase that only knows a durable front, and reads nothing
known-lands : (s : Setting) (v : Place → Moments) (durable later all : List Entry) (c : Command) (p : Phase) → Fits s later v c.job c.host c.origin c.amiss c.is_shown → IsFront c.entries durable → IsFront durable later → stage p ≡ Knows
    → ((items : List Item) → Amid s v later all (lists p items (goes p c))) → ((es : List Entry) → Amid s v later all (reads p es (goes p c))) → (answer : Answer) → Amid s v later all (heard (goes p c) answer)
known-lands s v durable later all c p f k g e ls rs (Says r) = known-hears s v later all (goes p c) p e r f (front-trans c.entries durable later k g)
known-lands s v durable later all c p f k g e ls rs (Told es) = rs es
known-lands s v durable later all c p f k g e ls rs (Listed items) = ls items

-- a durable front by which the job may be published stays one
shows-later : (durable later : List Entry) (c : Command) → IsFront durable later → IsShowing durable c → IsShowing later c
shows-later durable later c g k = (front-trans c.entries durable later k.0 g, k.1)

-- ---- publishing

linking : (s : Setting) (durable later all : List Entry) (d new : Disk) (c : Command) (w : Win) → Fits s later new.names c.job c.host c.origin c.amiss c.is_shown → IsShowing durable c → IsFront durable later
    → Publishing s durable d.names (w ∷ c.left) → Progress s d.names w c.todo → (r : Reply) → MayAnswer s d (first_call publishing_call c.todo) (Says r) new
    → Amid s new.names later all (turns.linking_heard r w (goes (Linking w) c))
linking s durable later all d new c w f k g h q r e =
    let ks = keeps-any s d new (first_call publishing_call c.todo) (Says r) e in
    on-linking s new.names later all r w (goes (Linking w) c) f (shows-later durable later c g k) (publishing-stays s durable later d.names new.names (w ∷ c.left) g ks h)
    (progress-stays s d.names new.names w c.todo ks q) (λ done. by c.todo q (let P : Reply → Type 0 = λ y. MayAnswer s d (first_call publishing_call c.todo) (Says y) new in subst P done e))
  where
    by : (xs : List Step) → Progress s d.names w xs → MayAnswer s d (first_call publishing_call xs) (Says Done) new → Progress s new.names w (rest_of xs)
    by [] q e = absurd e
    by (x ∷ rest) q e = progress-next s d.names new.names w x rest (keeps d new (publishing_call x) (Says Done) e.0.names) (step-made d new x e.0.names) (step-synced d new x e.0.names) q

comparing : (s : Setting) (durable later all : List Entry) (d new : Disk) (c : Command) (w : Win) → Fits s later new.names c.job c.host c.origin c.amiss c.is_shown → IsShowing durable c → IsFront durable later
    → Publishing s durable d.names (w ∷ c.left) → Progress s d.names w c.todo → (r : Reply) → MayAnswer s d (first_place c.todo) (Says r) new
    → Amid s new.names later all (turns.comparing_heard r w (goes (Comparing w) c))
comparing s durable later all d new c w f k g h q r e =
    let ks = keeps-any s d new (first_place c.todo) (Says r) e in
    on-comparing s new.names later all r w (goes (Comparing w) c) f (shows-later durable later c g k) (publishing-stays s durable later d.names new.names (w ∷ c.left) g ks h)
    (λ n found same. by c.todo n q same (let P : Reply → Type 0 = λ y. MayAnswer s d (first_place c.todo) (Says y) new in subst P found e))
  where
    by : (xs : List Step) (n : Node) → Progress s d.names w xs → is_same xs n ≡ true → MayAnswer s d (first_place xs) (Says (Found n)) new → Progress s new.names w (rest_of xs)
    by [] n q same e = absurd e
    by (x ∷ rest) n q same e =
        progress-next s d.names new.names w x rest (keeps d new (call.Look (place_of x)) (Says (Found n)) e.0.names) (found-made d new x rest n e.0.names) (λ p v h t. absurd (no-sync x rest n p same h)) q

-- the output folder was synced: what was there is there for good
all-synced : (s : Setting) (durable later : List Entry) (d new : Disk) → IsFront durable later → Keeps d.names new.names → FolderIsSynced d folder.Output new → ToShow s durable d.names [] → AllShown s later new.names
all-synced s durable later d new g k e h n l =
    let x = to-show-stays s durable later d.names d.names [] g (record { there = λ p v t. t; lasts = λ p v n t. t }) h n l in
    record { win = x.win; is = x.is; each = λ p o. by x.win x.state p o }
  where
    each : (w : Win) → Linked s d.names w → (p : Place) → IsOutputOf s w p → Lasts (new.names p)
    each w q (Top m) o = synced-lasts d new folder.Output (Top m) tt refl e (q.names (Top m) o)
    each w q (Beneath m i f) o = still d.names new.names k.lasts (Beneath m i f) tt (q.inner m i f o)
    each w q Marker o = synced-lasts d new folder.Output Marker tt refl e (q.names Marker o)
    each w q (Inside a i f) o = absurd (output-visible s w (Inside a i f) o)

    by : (w : Win) → (⊥ ⊎ Linked s d.names w) → (p : Place) → IsOutputOf s w p → Lasts (new.names p)
    by w (inl none) p o = absurd none
    by w (inr q) p o = each w q p o

mark : (s : Setting) (durable later all : List Entry) (d new : Disk) (c : Command) → Fits s later new.names c.job c.host c.origin c.amiss c.is_shown → IsShowing durable c → IsFront durable later
    → MarkAt s durable d.names c.todo → (r : Reply) → MayAnswer s d (first_call publishing_call c.todo) (Says r) new → Amid s new.names later all (turns.marking_heard r (goes Marking c))
mark s durable later all d new c f k g m r e =
    on-marking s new.names later all r (goes Marking c) f (shows-later durable later c g k)
    (λ done. made m (let P : Reply → Type 0 = λ y. MayAnswer s d (first_call publishing_call c.todo) (Says y) new in subst P done e))
    (λ taken rest is. there m (let P : Reply → Type 0 = λ y. MayAnswer s d (first_call publishing_call c.todo) (Says y) new in subst P taken e) rest is)
  where
    ks : Keeps d.names new.names
    ks = keeps-any s d new (first_call publishing_call c.todo) (Says r) e

    made : MarkAt s durable d.names c.todo → MayAnswer s d (first_call publishing_call c.todo) (Says Done) new → MarkNext s later new.names (rest_of c.todo)
    made (inl x) e =
        let P : List Step → Type 0 = λ xs. MayAnswer s d (first_call publishing_call xs) (Says Done) new in
        let effect : MayAnswer s d (first_call publishing_call marking) (Says Done) new = subst P x.0 e in
        inl (inr (inl (ap rest_of x.0, all-synced s durable later d new g ks effect.0.names x.1)))
    made (inr (inl x)) e =
        let P : List Step → Type 0 = λ xs. MayAnswer s d (first_call publishing_call xs) (Says Done) new in
        let effect : MayAnswer s d (first_call publishing_call marker_next) (Says Done) new = subst P x.0 e in
        inl (inr (inr (ap rest_of x.0, all-shown-stays s durable later d.names new.names g ks.lasts x.1, made-there d new Marker tt effect.0.names)))
    made (inr (inr x)) e =
        let P : List Step → Type 0 = λ xs. MayAnswer s d (first_call publishing_call xs) (Says Done) new in
        let effect : MayAnswer s d (first_call publishing_call marker_last) (Says Done) new = subst P x.0 e in
        inr (ap rest_of x.0, (all-shown-stays s durable later d.names new.names g ks.lasts x.1, synced-lasts d new folder.Output Marker tt refl effect.0.names x.2))

    no-sync-first : (rest : List Step) → marking ≡ step.LinkMarker ∷ rest → ⊥
    no-sync-first rest e = absurd (cc)

    no-sync-last : (rest : List Step) → marker_last ≡ step.LinkMarker ∷ rest → ⊥
    no-sync-last rest e = absurd (cc)

    there : MarkAt s durable d.names c.todo → MayAnswer s d (first_call publishing_call c.todo) (Says Taken) new → (rest : List Step) → c.todo ≡ step.LinkMarker ∷ rest → MarkNext s later new.names rest
    there (inl x) e rest is = absurd (no-sync-first rest (sym x.0 ∙ is))
    there (inr (inl x)) e rest is =
        let P : List Step → Type 0 = λ xs. MayAnswer s d (first_call publishing_call xs) (Says Taken) new in
        let effect : MayAnswer s d (first_call publishing_call marker_next) (Says Taken) new = subst P x.0 e in
        inl (inr (inr (ap rest_of (sym is ∙ x.0), all-shown-stays s durable later d.names new.names g ks.lasts x.1, taken-there d new Marker tt effect.0.names)))
    there (inr (inr x)) e rest is = absurd (no-sync-last rest (sym x.0 ∙ is))

-- ---- the end of an answer, by the phase

pub answered : (s : Setting) (durable : List Entry) (last : Option Entry) (d new : Disk) (c : Command) (p : Phase) → Before s durable last d new c
    → At c.job durable (with_last durable last) c.order c.entries (own_entry c) c.begun (stage p) → SeesAt s durable d.names c.lines c.left c.todo p
    → (answer : Answer) → MayAnswer s d (call_in p c) answer new → Turned s durable last new (heard (goes p c) answer)
unfolding hears reads lists
answered s durable last d new c Reading b h y answer e = on-read s durable last d new c b h answer e.0.log
answered s durable last d new c SyncingLog b h y answer e = on-log s durable last d new c b h answer e.0.log
answered s durable last d new c Putting b h y answer e = on-putting s durable last d new c b h.0 (let P : Job → Type 0 = λ j. IsDecided j c.entries (own_entry c) in subst P b.2.job h.1)
    (put-stays s d.names new.names durable durable c.lines (front-self durable) (keeps d new (call.Put (length c.entries) (own_entry c)) answer e.0.names) y) answer e.0.log
answered s durable last d new c SyncingPut b h y answer e = on-own s durable last d new c b h.0 h.1 answer e.0.log
answered s durable last d new c ReadingOn b h y answer e = on-read-on s durable last d new c b h answer e.0.log
answered s durable last d new c (MakingWork a) b h y answer e = lands s durable last d new c (MakingWork a) tt b answer e (λ later all g f. by later all g f answer)
  where
    by : (later all : List Entry) → IsFront durable later → Fits s later new.names c.job c.host c.origin c.amiss c.is_shown → (x : Answer) → Amid s new.names later all (heard (goes (MakingWork a) c) x)
    by later all g f (Says r) = on-work s new.names later all r a (goes (MakingWork a) c) f (front-trans c.entries durable later h.0 g) h.1
    by later all g f (Told es) = failed s new.names later all (goes (MakingWork a) c) f
    by later all g f (Listed items) = failed s new.names later all (goes (MakingWork a) c) f
answered s durable last d new c (Claiming a) b h y answer e =
    lands s durable last d new c (Claiming a) tt b answer e (λ later all g f. known-lands s new.names durable later all c (Claiming a) f h g refl (λ items. failed s new.names later all (goes (Claiming a) c) f) (λ es. failed s new.names later all (goes (Claiming a) c) f) answer)
answered s durable last d new c (TakingNote a) b h y answer e =
    lands s durable last d new c (TakingNote a) tt b answer e (λ later all g f. known-lands s new.names durable later all c (TakingNote a) f h g refl (λ items. failed s new.names later all (goes (TakingNote a) c) f) (λ es. failed s new.names later all (goes (TakingNote a) c) f) answer)
answered s durable last d new c (ListingKept a) b h y answer e =
    lands s durable last d new c (ListingKept a) tt b answer e (λ later all g f. known-lands s new.names durable later all c (ListingKept a) f h g refl
    (λ items. on-listed s new.names later all items a (goes (ListingKept a) c) f (front-trans c.entries durable later h g)) (λ es. failed s new.names later all (goes (ListingKept a) c) f) answer)
answered s durable last d new c (HandingIn a) b h y answer e =
    lands s durable last d new c (HandingIn a) (quiet-first (handing_call a c) (quiet-step a c) c.todo) b answer e
    (λ later all g f. known-lands s new.names durable later all c (HandingIn a) f h g refl (λ items. failed s new.names later all (goes (HandingIn a) c) f) (λ es. failed s new.names later all (goes (HandingIn a) c) f) answer)
answered s durable last d new c (DroppingNote a) b h y answer e =
    lands s durable last d new c (DroppingNote a) tt b answer e (λ later all g f. known-lands s new.names durable later all c (DroppingNote a) f h g refl (λ items. failed s new.names later all (goes (DroppingNote a) c) f) (λ es. failed s new.names later all (goes (DroppingNote a) c) f) answer)
answered s durable last d new c (SyncingKept a) b h y answer e =
    lands s durable last d new c (SyncingKept a) tt b answer e (λ later all g f. known-lands s new.names durable later all c (SyncingKept a) f h g refl (λ items. failed s new.names later all (goes (SyncingKept a) c) f) (λ es. failed s new.names later all (goes (SyncingKept a) c) f) answer)
answered s durable last d new c (ReadingList w) b h y answer e = lands s durable last d new c (ReadingList w) tt b answer e (λ later all g f. by later all g f answer e)
  where
    by : (later all : List Entry) → IsFront durable later → Fits s later new.names c.job c.host c.origin c.amiss c.is_shown → (x : Answer) → MayAnswer s d (call_in (ReadingList w) c) x new → Amid s new.names later all (heard (goes (ReadingList w) c) x)
    by later all g f (Says r) e = on-not-read s new.names later all r w (goes (ReadingList w) c) f (shows-later durable later c g h)
    by later all g f (Told es) e = failed s new.names later all (goes (ReadingList w) c) f
    by later all g f (Listed items) e = record {
      fits = f;
      here = shows-later durable later c g h;
      sees = (publishing-stays s durable later d.names new.names (w ∷ c.left) g (keeps d new (call.ReadList w.attempt w.id) (Listed items) e.0.names) y.0, progress-folder s new.names w y.1.0 items y.1.1 e.1.0 e.1.1);
    }
answered s durable last d new c (Linking w) b h y answer e = lands s durable last d new c (Linking w) (quiet-first publishing_call quiet-show c.todo) b answer e (λ later all g f. by later all g f answer e)
  where
    by : (later all : List Entry) → IsFront durable later → Fits s later new.names c.job c.host c.origin c.amiss c.is_shown → (x : Answer) → MayAnswer s d (first_call publishing_call c.todo) x new → Amid s new.names later all (heard (goes (Linking w) c) x)
    by later all g f (Says r) e = linking s durable later all d new c w f h g y.0 y.1 r e
    by later all g f (Told es) e = failed s new.names later all (goes (Linking w) c) f
    by later all g f (Listed items) e = failed s new.names later all (goes (Linking w) c) f
answered s durable last d new c (Comparing w) b h y answer e = lands s durable last d new c (Comparing w) (quiet-place c.todo) b answer e (λ later all g f. by later all g f answer e)
  where
    by : (later all : List Entry) → IsFront durable later → Fits s later new.names c.job c.host c.origin c.amiss c.is_shown → (x : Answer) → MayAnswer s d (first_place c.todo) x new → Amid s new.names later all (heard (goes (Comparing w) c) x)
    by later all g f (Says r) e = comparing s durable later all d new c w f h g y.0 y.1 r e
    by later all g f (Told es) e = failed s new.names later all (goes (Comparing w) c) f
    by later all g f (Listed items) e = failed s new.names later all (goes (Comparing w) c) f
answered s durable last d new c Marking b h y answer e = lands s durable last d new c Marking (quiet-first publishing_call quiet-show c.todo) b answer e (λ later all g f. by later all g f answer e)
  where
    by : (later all : List Entry) → IsFront durable later → Fits s later new.names c.job c.host c.origin c.amiss c.is_shown → (x : Answer) → MayAnswer s d (first_call publishing_call c.todo) x new → Amid s new.names later all (heard (goes Marking c) x)
    by later all g f (Says r) e = mark s durable later all d new c f h g y r e
    by later all g f (Told es) e = failed s new.names later all (goes Marking c) f
    by later all g f (Listed items) e = failed s new.names later all (goes Marking c) f
answered s durable last d new c (Emptying a o) b h y answer e = lands s durable last d new c (Emptying a o) tt b answer e (λ later all g f. by later all g f answer)
  where
    by : (later all : List Entry) → IsFront durable later → Fits s later new.names c.job c.host c.origin c.amiss c.is_shown → (x : Answer) → Amid s new.names later all (heard (goes (Emptying a o) c) x)
    by later all g f (Says r) = record { fits = f; here = so-stays c.job durable later c.order o g h.0; sees = tt }
    by later all g f (Told es) = failed s new.names later all (goes (Emptying a o) c) f
    by later all g f (Listed items) = failed s new.names later all (goes (Emptying a o) c) f
answered s durable last d new c (EmptyingAll o) b h y answer e = lands s durable last d new c (EmptyingAll o) tt b answer e (λ later all g f. by later all g f answer)
  where
    by : (later all : List Entry) → IsFront durable later → Fits s later new.names c.job c.host c.origin c.amiss c.is_shown → (x : Answer) → Amid s new.names later all (heard (goes (EmptyingAll o) c) x)
    by later all g f (Says r) = record { fits = f; here = so-stays c.job durable later c.order o g h.0; sees = tt }
    by later all g f (Told es) = failed s new.names later all (goes (EmptyingAll o) c) f
    by later all g f (Listed items) = failed s new.names later all (goes (EmptyingAll o) c) f
answered s durable last d new c Forgetting b h y answer e = lands s durable last d new c Forgetting tt b answer e (λ later all g f. by later all g f answer)
  where
    by : (later all : List Entry) → IsFront durable later → Fits s later new.names c.job c.host c.origin c.amiss c.is_shown → (x : Answer) → Amid s new.names later all (heard (goes Forgetting c) x)
    by later all g f (Says r) = on-forgetting s new.names later all r (goes Forgetting c) f (front-trans c.entries durable later h.0 g)
    by later all g f (Told es) = failed s new.names later all (goes Forgetting c) f
    by later all g f (Listed items) = failed s new.names later all (goes Forgetting c) f
answered s durable last d new c SyncingForgotten b h y answer e =
    lands s durable last d new c SyncingForgotten tt b answer e (λ later all g f. known-lands s new.names durable later all c SyncingForgotten f h g refl (λ items. failed s new.names later all (goes SyncingForgotten c) f) (λ es. failed s new.names later all (goes SyncingForgotten c) f) answer)
answered s durable last d new c (Over o) b h y answer e = absurd e
