-- Each answer to a command keeps the invariant, whoever else is under way.
use Rattle.std.proofs.Common.{◌≡◌, ◌⊎◌, inl, inr, ℕ, Bool, true, false, ◌||◌, List, [], ◌∷◌, ◌++◌, length, Option, Some, None, refl, sym, ap, subst, ◌∙◌, append-nil, true≢false}
use Rattle.mr_ids.specs.Attempt.{Attempt}
use Rattle.mr_log_entries.specs.declared.line.Line.{Line}
use Rattle.mr_log_entries.specs.declared.entry.Entry.{Entry}
use Rattle.mr_log_entries.specs.Recorded.{lines_of}
use Rattle.mr_log_disk.specs.declared.place.Folder.{Folder}
use Rattle.mr_log_disk.specs.declared.place.Folder.TheVariants as folder
use Rattle.mr_log_disk.specs.declared.call.Call.{Call}
use Rattle.mr_log_disk.specs.declared.call.Call.TheVariants as call
use Rattle.mr_log_disk.specs.declared.answer.Answer.{Answer}
use Rattle.mr_log_disk.specs.declared.answer.Answer.TheVariants.{Says, Told, Listed}
use Rattle.mr_log_disk.specs.declared.answer.Reply.{Reply}
use Rattle.mr_log_disk.specs.declared.answer.Reply.TheVariants.{Done, Taken, Failed}
use Rattle.mr_log_disk.specs.Log.{Disk, with_entry}
use Rattle.std.proofs.lemmas.List.Folds.{list_any-append}
use Rattle.mr_log_disk.specs.declared.place.Place.{Place}
use Rattle.mr_log_disk.specs.declared.place.Place.TheVariants.{Marker}
use Rattle.mr_log_disk.specs.Names.{Moments}
use Rattle.mr_log_disk.specs.Calls.{LogStays, IsMade, LogIsSynced, Puts, Syncs, Reads, EffectOnLog}
use Rattle.mr_log_standing.specs.declared.job.Job.{Job}
use Rattle.mr_log_standing.specs.declared.order.Order.{Order}
use Rattle.mr_log_standing.specs.declared.order.Outcome.{Outcome}
use Rattle.mr_log_standing.specs.declared.order.Outcome.TheVariants as outcome
use Rattle.mr_log_standing.specs.declared.standing.Standing.{Standing}
use Rattle.mr_log_standing.specs.Standing.{is_publishable, is_published, is_publication}
use Rattle.mr_log_steps.specs.declared.phase.Step.{Step}
use Rattle.mr_log_steps.specs.declared.phase.Step.TheVariants as step
use Rattle.mr_log_steps.specs.declared.phase.Phase.{Phase}
use Rattle.mr_log_steps.specs.declared.phase.Phase.TheVariants.{Reading, SyncingLog, Putting, SyncingPut, ReadingOn, MakingWork, Claiming, TakingNote, ListingKept, HandingIn, DroppingNote, SyncingKept, ReadingList, Linking, Comparing, Marking, Emptying, EmptyingAll, Forgetting, SyncingForgotten, Over}
use Rattle.mr_log_steps.specs.Commands.{Command, own_entry, handing_call, publishing_call, first_call, first_place, place_of, call_in}
use Rattle.mr_log_steps.specs.Turns as turns
use Rattle.mr_log_steps.specs.Turns.{goes, heard, hears, reads, lists, begun_by}
use Rattle.mr_log_standing.specs.declared.standing.Win.{Win}
use Rattle.mr_log_model.specs.Worlds.{Setting}
use Rattle.mr_log_model.specs.Runs.{MayAnswer}
use Rattle.mr_log_model.specs.Promises.{IsLog, with_last, IsFront, IsDecided, AreDecided, IsAllowed}
use Rattle.mr_log_model.proofs.Fronts.{lines-more, front-self, front-none, front-more, front-trans, front-last}
use Rattle.mr_log_model.proofs.Logs.{Kept, kept-stays, kept-synced, kept-maybe, log-synced, Ends, ends-here, log-made, log-read}
use Rattle.mr_log_model.proofs.Lawful.{decided-one}
use Rattle.mr_log_model.proofs.Steps.{Keeps, KeepsLasting, to-show-stays, progress-stays, are-wins-stay, all-shown-stays, IsShown, is-shown-stays}
use Rattle.mr_log_model.proofs.Invariant as inv
use Rattle.mr_log_model.proofs.Invariant.{Stood, Permits, IsSo, AreBegun, Stage, Found, Noted, Makes, Knows, Opens, Shows, Drops, Clears, stage, At, MarkAt, Publishing, SeesAt, Fits, Amid, AmidAny}
use Rattle.mr_log_model.proofs.Deciding.{decides-amid}
use Rattle.mr_log_model.proofs.Hearing.{ends-so, makes-amid, begun-entry, read-amid, read-on-amid}

-- ---- what a command knows stays

permits-stays : (job : Job) (durable more : List Entry) (x : Call) → IsFront durable more → Permits job durable x → Permits job more x
permits-stays job durable more x f p = record { by = p.by; front = front-trans p.by durable more p.front f; allows = p.allows }

pub stood-stays : (job : Job) (durable more : List Entry) (a : Attempt) (st : Standing) → IsFront durable more → Stood job durable a st → Stood job more a st
stood-stays job durable more a st f x = record { by = x.by; front = front-trans x.by durable more x.front f; stands = x.stands }

pub so-stays : (job : Job) (durable more : List Entry) (o : Order) (end : Outcome) → IsFront durable more → IsSo job durable o end → IsSo job more o end
so-stays job durable more o end f h = record {
  stands = λ a st about e. stood-stays job durable more a st f (h.stands a st about e);
  begun = λ a e. permits-stays job durable more (call.MakeWork a) f (h.begun a e);
}

at-stays : (job : Job) (durable all durable_later all_later : List Entry) (o : Order) (es : List Entry) (own : Entry) (begun : List Attempt) (s : Stage) → IsFront durable durable_later → IsFront all all_later
    → At job durable all o es own begun s → At job durable_later all_later o es own begun s
at-stays job durable all durable_later all_later o es own begun Found f g h = front-trans es all all_later h g
at-stays job durable all durable_later all_later o es own begun Noted f g h = (front-trans es all all_later h.0 g, h.1)
at-stays job durable all durable_later all_later o es own begun Makes f g h = (front-trans es durable durable_later h.0 f, h.1)
at-stays job durable all durable_later all_later o es own begun Knows f g h = front-trans es durable durable_later h f
at-stays job durable all durable_later all_later o es own begun (Opens a) f g h = (front-trans es durable durable_later h.0 f, h.1)
at-stays job durable all durable_later all_later o es own begun Shows f g h = (front-trans es durable durable_later h.0 f, h.1)
at-stays job durable all durable_later all_later o es own begun Drops f g h = (front-trans es durable durable_later h.0 f, h.1)
at-stays job durable all durable_later all_later o es own begun (inv.Says end) f g h = so-stays job durable durable_later o end f h
at-stays job durable all durable_later all_later o es own begun (Clears x end) f g h = (so-stays job durable durable_later o end f h.0, permits-stays job durable durable_later x f h.1)

mark-stays : (s : Setting) (v u : Place → Moments) (durable more : List Entry) (todo : List Step) → IsFront durable more → Keeps v u → MarkAt s durable v todo → MarkAt s more u todo
mark-stays s v u durable more todo f k (inl x) = inl (x.0, to-show-stays s durable more v u [] f k x.1)
mark-stays s v u durable more todo f k (inr (inl x)) = inr (inl (x.0, all-shown-stays s durable more v u f k.lasts x.1))
mark-stays s v u durable more todo f k (inr (inr x)) = inr (inr (x.0, all-shown-stays s durable more v u f k.lasts x.1, k.there Marker tt x.2))

-- the winners that are to be published
pub publishing-stays : (s : Setting) (durable more : List Entry) (v u : Place → Moments) (ws : List Win) → IsFront durable more → Keeps v u → Publishing s durable v ws → Publishing s more u ws
publishing-stays s durable more v u ws f k h = record { to_show = to-show-stays s durable more v u ws f k h.to_show; wins = are-wins-stay durable more ws f h.wins }

pub fits-stays : (s : Setting) (durable more : List Entry) (v u : Place → Moments) (c : Command) → IsFront durable more → KeepsLasting v u → Fits s durable v c.job c.host c.origin c.amiss c.is_shown → Fits s more u c.job c.host c.origin c.amiss c.is_shown
fits-stays s durable more v u c f k h = record { job = h.job; boot = h.boot; amiss = h.amiss; visible = λ e. is-shown-stays s durable more v u f k (h.visible e) }

pub fits-front : (s : Setting) (durable more : List Entry) (v : Place → Moments) (c : Command) → IsFront durable more → Fits s durable v c.job c.host c.origin c.amiss c.is_shown → Fits s more v c.job c.host c.origin c.amiss c.is_shown
fits-front s durable more v c f h = fits-stays s durable more v v c f (λ p x n l. l) h

pub put-stays : (s : Setting) (v u : Place → Moments) (durable more : List Entry) (lines : List Line) → IsFront durable more → Keeps v u → (is_published lines ≡ false) ⊎ IsShown s durable v → (is_published lines ≡ false) ⊎ IsShown s more u
put-stays s v u durable more lines f k (inl e) = inl e
put-stays s v u durable more lines f k (inr h) = inr (is-shown-stays s durable more v u f k.lasts h)

sees-stays : (s : Setting) (v u : Place → Moments) (durable more : List Entry) (lines : List Line) (left : List Win) (todo : List Step) (p : Phase) → IsFront durable more → Keeps v u → SeesAt s durable v lines left todo p → SeesAt s more u lines left todo p
sees-stays s v u durable more lines left todo Putting f k h = put-stays s v u durable more lines f k h
sees-stays s v u durable more lines left todo (ReadingList w) f k h = (publishing-stays s durable more v u (w ∷ left) f k h.0, h.1)
sees-stays s v u durable more lines left todo (Linking w) f k h = (publishing-stays s durable more v u (w ∷ left) f k h.0, progress-stays s v u w todo k h.1)
sees-stays s v u durable more lines left todo (Comparing w) f k h = (publishing-stays s durable more v u (w ∷ left) f k h.0, progress-stays s v u w todo k h.1)
sees-stays s v u durable more lines left todo Marking f k h = mark-stays s v u durable more todo f k h
sees-stays s v u durable more lines left todo _ f k h = tt

pub amid-stays : (s : Setting) (v u : Place → Moments) (durable all durable_later all_later : List Entry) (c : Option Command) → IsFront durable durable_later → IsFront all all_later → Keeps v u → AmidAny s v durable all c → AmidAny s u durable_later all_later c
amid-stays s v u durable all durable_later all_later None f g k a = tt
amid-stays s v u durable all durable_later all_later (Some c) f g k a = record {
  fits = fits-stays s durable durable_later v u c f k.lasts a.fits;
  here = at-stays c.job durable all durable_later all_later c.order c.entries (own_entry c) c.begun (stage c.phase) f g a.here;
  sees = sees-stays s v u durable durable_later c.lines c.left c.todo c.phase f k a.sees;
}

pub calls-stay : (job : Job) (durable more : List Entry) (x : Call) → IsFront durable more → Permits job durable x → Permits job more x
calls-stay job durable more x f p = permits-stays job durable more x f p

-- ---- a call is allowed

abbrev pub PermitsAny : Job → List Entry → Option Call → Type 0
PermitsAny job durable None = Unit {0}
PermitsAny job durable (Some x) = Permits job durable x

-- what no entry need allow
free : (job : Job) (durable : List Entry) (x : Call) → ((ls : List Line) → IsAllowed job ls x) → Permits job durable x
free job durable x h = record { by = []; front = front-none durable; allows = h (lines_of []) }

handing-free : (job : Job) (durable : List Entry) (a : Attempt) (c : Command) (xs : List Step) → PermitsAny job durable (first_call (handing_call a c) xs)
handing-free job durable a c [] = tt
handing-free job durable a c (x ∷ xs) = by x
  where
    by : (y : Step) → Permits job durable (handing_call a c y)
    by (step.SyncFile p) = free job durable (call.SyncFile p) (λ ls. tt)
    by (step.SyncFolder f) = free job durable (call.SyncFolder f) (λ ls. tt)
    by step.WriteList = free job durable (call.WriteList a c.origin.id c.items) (λ ls. tt)
    by (step.Link from to file) = free job durable (call.SyncFolder folder.Kept) (λ ls. tt)
    by (step.MakeFolder p) = free job durable (call.SyncFolder folder.Kept) (λ ls. tt)
    by step.LinkMarker = free job durable (call.SyncFolder folder.Kept) (λ ls. tt)

showing : (job : Job) (durable es : List Entry) → IsFront es durable → is_publishable job (lines_of es) ≡ true → (xs : List Step) → PermitsAny job durable (first_call publishing_call xs)
showing job durable es k p [] = tt
showing job durable es k p (x ∷ xs) = by x
  where
    by : (y : Step) → Permits job durable (publishing_call y)
    by (step.SyncFile q) = free job durable (call.SyncFolder folder.Output) (λ ls. tt)
    by (step.SyncFolder f) = free job durable (call.SyncFolder f) (λ ls. tt)
    by step.WriteList = free job durable (call.SyncFolder folder.Output) (λ ls. tt)
    by (step.Link from to file) = record { by = es; front = k; allows = p }
    by (step.MakeFolder q) = record { by = es; front = k; allows = p }
    by step.LinkMarker = record { by = es; front = k; allows = p }

looking-free : (job : Job) (durable : List Entry) (xs : List Step) → PermitsAny job durable (first_place xs)
looking-free job durable [] = tt
looking-free job durable (x ∷ xs) = free job durable (call.Look (place_of x)) (λ ls. tt)

pub permitted : (job : Job) (durable all : List Entry) (c : Command) (p : Phase) → At job durable all c.order c.entries (own_entry c) c.begun (stage p) → PermitsAny job durable (call_in p c)
permitted job durable all c Reading h = free job durable (call.ReadLog (length c.entries)) (λ ls. tt)
permitted job durable all c SyncingLog h = free job durable (call.SyncFolder folder.Log) (λ ls. tt)
permitted job durable all c Putting h = free job durable (call.Put (length c.entries) (own_entry c)) (λ ls. tt)
permitted job durable all c SyncingPut h = free job durable (call.SyncFolder folder.Log) (λ ls. tt)
permitted job durable all c ReadingOn h = free job durable (call.ReadLog (length c.entries)) (λ ls. tt)
permitted job durable all c (MakingWork a) h = record { by = c.entries; front = h.0; allows = h.1.0 }
permitted job durable all c (Claiming a) h = free job durable (call.Claim a) (λ ls. tt)
permitted job durable all c (TakingNote a) h = free job durable (call.TakeNote a) (λ ls. tt)
permitted job durable all c (ListingKept a) h = free job durable (call.ListKept a) (λ ls. tt)
permitted job durable all c (HandingIn a) h = handing-free job durable a c c.todo
permitted job durable all c (DroppingNote a) h = free job durable (call.DropNote a) (λ ls. tt)
permitted job durable all c (SyncingKept a) h = free job durable (call.SyncFolder folder.Kept) (λ ls. tt)
permitted job durable all c (ReadingList w) h = free job durable (call.ReadList w.attempt w.id) (λ ls. tt)
permitted job durable all c (Linking w) h = showing job durable c.entries h.0 h.1 c.todo
permitted job durable all c (Comparing w) h = looking-free job durable c.todo
permitted job durable all c Marking h = showing job durable c.entries h.0 h.1 c.todo
permitted job durable all c (Emptying a o) h = h.1
permitted job durable all c (EmptyingAll o) h = h.1
permitted job durable all c Forgetting h = record { by = c.entries; front = h.0; allows = h.1 }
permitted job durable all c SyncingForgotten h = free job durable (call.SyncFolder folder.Output) (λ ls. tt)
permitted job durable all c (Over o) h = tt

-- ---- calls that add no entry

abbrev pub IsQuiet : Call → Type 0
IsQuiet (call.Put number entry) = ⊥
IsQuiet _ = Unit {0}

abbrev pub IsQuietAny : Option Call → Type 0
IsQuietAny None = Unit {0}
IsQuietAny (Some x) = IsQuiet x

quiet-read : (durable : List Entry) (last : Option Entry) (d new : Disk) (from : ℕ) (answer : Answer) → IsLog d durable last → Reads d from answer new → Kept durable last new
quiet-read durable last d new from (Told es) l e = kept-stays durable last d new l e.1
quiet-read durable last d new from (Says r) l e = kept-stays durable last d new l e
quiet-read durable last d new from (Listed items) l e = kept-stays durable last d new l e

quiet-sync : (durable : List Entry) (last : Option Entry) (d new : Disk) (f : Folder) (answer : Answer) → IsLog d durable last → Syncs d f answer new → Kept durable last new
quiet-sync durable last d new folder.Log (Says Done) l e = kept-synced durable last d new l e
quiet-sync durable last d new folder.Log (Says _) l e = kept-maybe durable last d new l e
quiet-sync durable last d new folder.Log (Told es) l e = kept-maybe durable last d new l e
quiet-sync durable last d new folder.Log (Listed items) l e = kept-maybe durable last d new l e
quiet-sync durable last d new _ answer l e = kept-stays durable last d new l e

quiet : (durable : List Entry) (last : Option Entry) (d new : Disk) (x : Call) (answer : Answer) → IsQuiet x → IsLog d durable last → EffectOnLog d x answer new → Kept durable last new
quiet durable last d new (call.Put number entry) answer q l e = absurd q
quiet durable last d new (call.ReadLog from) answer q l e = quiet-read durable last d new from answer l e
quiet durable last d new (call.SyncFolder f) answer q l e = quiet-sync durable last d new f answer l e
quiet durable last d new _ answer q l e = kept-stays durable last d new l e

pub quiet-any : (s : Setting) (durable : List Entry) (last : Option Entry) (d new : Disk) (x : Option Call) (answer : Answer) → IsQuietAny x → IsLog d durable last → MayAnswer s d x answer new → Kept durable last new
quiet-any s durable last d new None answer q l e = absurd e
quiet-any s durable last d new (Some x) answer q l e = quiet durable last d new x answer q l e.0.log

pub quiet-step : (a : Attempt) (c : Command) (x : Step) → IsQuiet (handing_call a c x)
quiet-step a c (step.SyncFile p) = tt
quiet-step a c (step.SyncFolder f) = tt
quiet-step a c step.WriteList = tt
quiet-step a c (step.Link from to file) = tt
quiet-step a c (step.MakeFolder p) = tt
quiet-step a c step.LinkMarker = tt

pub quiet-show : (x : Step) → IsQuiet (publishing_call x)
quiet-show (step.SyncFile p) = tt
quiet-show (step.SyncFolder f) = tt
quiet-show step.WriteList = tt
quiet-show (step.Link from to file) = tt
quiet-show (step.MakeFolder p) = tt
quiet-show step.LinkMarker = tt

pub quiet-first : (f : Step → Call) → ((x : Step) → IsQuiet (f x)) → (xs : List Step) → IsQuietAny (first_call f xs)
quiet-first f h [] = tt
quiet-first f h (x ∷ xs) = h x

pub quiet-place : (xs : List Step) → IsQuietAny (first_place xs)
quiet-place [] = tt
quiet-place (x ∷ xs) = tt

-- ---- what an answer leaves

pub record Turned (s : Setting) (durable : List Entry) (last : Option Entry) (d : Disk) (c : Command) : Type 0 where
  pub durable_now : List Entry
  pub last_now : Option Entry
  pub log : IsLog d durable_now last_now
  pub front : IsFront durable durable_now
  pub all : IsFront (with_last durable last) (with_last durable_now last_now)
  pub decided : AreDecided s.job [] (with_last durable_now last_now)
  -- who notes that the job is published has published it
  pub published : is_published (lines_of (with_last durable_now last_now)) ≡ true → (is_published (lines_of (with_last durable last)) ≡ true) ⊎ IsShown s durable_now d.names
  pub amid : Amid s d.names durable_now (with_last durable_now last_now) c

same-front : (xs ys : List Entry) → xs ≡ ys → IsFront ys xs
same-front xs ys e = record { rest = []; is = e ∙ sym (append-nil ys) }

-- the same entries, and a command that lands
pub turned : (s : Setting) (durable : List Entry) (last : Option Entry) (d : Disk) (c : Command) → AreDecided s.job [] (with_last durable last) → (x : Kept durable last d)
    → Amid s d.names x.durable_now (with_last x.durable_now x.last_now) c → Turned s durable last d c
turned s durable last d c ds x a = record {
  durable_now = x.durable_now;
  last_now = x.last_now;
  log = x.log;
  front = x.front;
  all = same-front (with_last x.durable_now x.last_now) (with_last durable last) x.all;
  decided = let P : List Entry → Type 0 = λ es. AreDecided s.job [] es in subst P (sym x.all) ds;
  published = λ e. inl (let Q : List Entry → Type 0 = λ es. is_published (lines_of es) ≡ true in subst Q x.all e);
  amid = a;
}

-- what is known before an answer
abbrev pub Before : Setting → List Entry → Option Entry → Disk → Disk → Command → Type 0
Before s durable last d new c = IsLog d durable last × AreDecided s.job [] (with_last durable last) × Fits s durable new.names c.job c.host c.origin c.amiss c.is_shown

-- the log is the same
stays : (s : Setting) (durable : List Entry) (last : Option Entry) (d new : Disk) (c : Command) → IsLog d durable last → AreDecided s.job [] (with_last durable last) → LogStays d new → Amid s new.names durable (with_last durable last) c → Turned s durable last new c
stays s durable last d new c l ds same a = record {
  durable_now = durable;
  last_now = last;
  log = record { names = λ n. same n ∙ l.names n };
  front = front-self durable;
  all = front-self (with_last durable last);
  decided = ds;
  published = λ e. inl e;
  amid = a;
}

-- ---- an entry is made

-- whatever the command does then, if it only needs what it knew, or that its own entry follows
record Made (s : Setting) (durable : List Entry) (last : Option Entry) (d : Disk) (own : Entry) (entries : List Entry) : Type 0 where
  pub log : IsLog d durable (Some own)
  pub all : IsFront (with_last durable last) (durable ++ own ∷ [])
  pub decided : AreDecided s.job [] (durable ++ own ∷ [])
  pub own_front : IsFront (entries ++ own ∷ []) (durable ++ own ∷ [])
  pub none : last ≡ None

made : (s : Setting) (durable : List Entry) (last : Option Entry) (d new : Disk) (own : Entry) (entries : List Entry) → IsLog d durable last → AreDecided s.job [] (with_last durable last)
    → IsFront entries durable → IsDecided s.job entries own → IsMade d (length entries) own new → Made s durable last new own entries
made s durable last d new own entries l ds k own_decided m = by (ends-here entries durable last d l k m.was_absent)
  where
    by : Ends entries durable last → Made s durable last new own entries
    by e =
        let P : Option Entry → Type 0 = λ o. IsLog d durable o in
        let Q : List Entry → Type 0 = λ es. (n : ℕ) → new.log n ≡ with_entry (length es) own d n in
        let R : List Entry → Type 0 = λ es. IsDecided s.job es own in
        let S : List Entry → Type 0 = λ es. IsFront (es ++ own ∷ []) (durable ++ own ∷ []) in
        let T : Option Entry → Type 0 = λ o. IsFront (with_last durable o) (durable ++ own ∷ []) in
        let U : Option Entry → Type 0 = λ o. AreDecided s.job [] (with_last durable o) in
        record {
          log = log-made durable own d new (subst P e.none l) (subst Q (sym e.same) m.is);
          all = subst T (sym e.none) (front-more durable (own ∷ []));
          decided = decided-one s.job [] durable own (subst U e.none ds) (subst R (sym e.same) own_decided);
          own_front = subst S e.same (front-self (durable ++ own ∷ []));
          none = e.none;
        }

-- where one's own entry says that the job is published, it is
put-published : (s : Setting) (durable : List Entry) (last : Option Entry) (v : Place → Moments) (own : Entry) → last ≡ None → (is_published own.lines ≡ false) ⊎ IsShown s durable v → is_published (lines_of (durable ++ own ∷ [])) ≡ true
    → (is_published (lines_of (with_last durable last)) ≡ true) ⊎ IsShown s durable v
unfolding lines_of
put-published s durable last v own none w e =
    by (is_published (lines_of durable)) refl w
    (sym (list_any-append is_publication (lines_of durable) (own.lines ++ [])) ∙ ap is_published (sym (lines-more durable (own ∷ []))) ∙ e)
  where
    by : (b : Bool) → is_published (lines_of durable) ≡ b → (is_published own.lines ≡ false) ⊎ IsShown s durable v → (is_published (lines_of durable) || is_published (own.lines ++ [])) ≡ true
        → (is_published (lines_of (with_last durable last)) ≡ true) ⊎ IsShown s durable v
    by true q w e = inl (ap (λ (o : Option Entry). is_published (lines_of (with_last durable o))) none ∙ q)
    by false q (inr h) e = inr h
    by false q (inl m) e =
        let first : (is_published (lines_of durable) || is_published (own.lines ++ [])) ≡ is_published (own.lines ++ []) = ap (λ b. b || is_published (own.lines ++ [])) q in
        absurd (true≢false (sym e ∙ (first ∙ (ap is_published (append-nil own.lines) ∙ m))))

-- a put that was made
on-made : (s : Setting) (durable : List Entry) (last : Option Entry) (new : Disk) (own : Entry) (entries : List Entry) (c : Command) → Made s durable last new own entries → (is_published own.lines ≡ false) ⊎ IsShown s durable new.names
    → Amid s new.names durable (durable ++ own ∷ []) c → Turned s durable last new c
on-made s durable last new own entries c m w a = record {
  durable_now = durable;
  last_now = Some own;
  log = m.log;
  front = front-self durable;
  all = m.all;
  decided = m.decided;
  published = put-published s durable last new.names own m.none w;
  amid = a;
}

on-put : (s : Setting) (durable : List Entry) (last : Option Entry) (d new : Disk) (c : Command) → Before s durable last d new c → IsFront c.entries durable → IsDecided s.job c.entries (own_entry c)
    → (is_published c.lines ≡ false) ⊎ IsShown s durable new.names → (r : Reply) → Puts d (length c.entries) (own_entry c) (Says r) new → Turned s durable last new (turns.put_heard r c)
on-put s durable last d new c b k o w Done e =
    let m = made s durable last d new (own_entry c) c.entries b.0 b.1 k o e in
    on-made s durable last new (own_entry c) c.entries (record c { entries = c.entries ++ own_entry c ∷ []; phase = SyncingPut }) m w (record { fits = b.2; here = (m.own_front, begun-entry c.entries [] (own_entry c)); sees = tt })
on-put s durable last d new c b k o w Taken (inl e) = stays s durable last d new (goes ReadingOn c) b.0 b.1 e.1 (record { fits = b.2; here = k; sees = tt })
on-put s durable last d new c b k o w Taken (inr e) = on-made s durable last new (own_entry c) c.entries (goes ReadingOn c) (made s durable last d new (own_entry c) c.entries b.0 b.1 k o e) w (record { fits = b.2; here = k; sees = tt })
on-put s durable last d new c b k o w Failed (inl e) = stays s durable last d new (turns.over outcome.NotKnown c) b.0 b.1 e (ends-so s new.names durable (with_last durable last) c outcome.NotKnown refl b.2)
on-put s durable last d new c b k o w Failed (inr e) = on-made s durable last new (own_entry c) c.entries (turns.over outcome.NotKnown c) (made s durable last d new (own_entry c) c.entries b.0 b.1 k o e) w (ends-so s new.names durable (durable ++ own_entry c ∷ []) c outcome.NotKnown refl b.2)
on-put s durable last d new c b k o w _ e = stays s durable last d new (turns.over outcome.NotKnown c) b.0 b.1 e (ends-so s new.names durable (with_last durable last) c outcome.NotKnown refl b.2)

pub on-putting : (s : Setting) (durable : List Entry) (last : Option Entry) (d new : Disk) (c : Command) → Before s durable last d new c → IsFront c.entries durable → IsDecided s.job c.entries (own_entry c)
    → (is_published c.lines ≡ false) ⊎ IsShown s durable new.names → (answer : Answer) → Puts d (length c.entries) (own_entry c) answer new → Turned s durable last new (heard (goes Putting c) answer)
unfolding hears reads lists
on-putting s durable last d new c b k o w (Says r) e = on-put s durable last d new (goes Putting c) b k o w r e
on-putting s durable last d new c b k o w (Told es) e = stays s durable last d new (turns.over outcome.Failed c) b.0 b.1 e (ends-so s new.names durable (with_last durable last) c outcome.Failed refl b.2)
on-putting s durable last d new c b k o w (Listed items) e = stays s durable last d new (turns.over outcome.Failed c) b.0 b.1 e (ends-so s new.names durable (with_last durable last) c outcome.Failed refl b.2)

-- ---- the log is synced

-- all entries are durable now
on-synced : (s : Setting) (durable : List Entry) (last : Option Entry) (d new : Disk) (c e : Command) → Before s durable last d new c → LogIsSynced d new → Amid s new.names (with_last durable last) (with_last durable last) e → Turned s durable last new e
on-synced s durable last d new c e b y a = record {
  durable_now = with_last durable last;
  last_now = None;
  log = log-synced durable last d new b.0 y;
  front = front-last durable last;
  all = front-self (with_last durable last);
  decided = b.1;
  published = λ e. inl e;
  amid = a;
}

-- the sync failed, or something else was answered
not-synced : (s : Setting) (durable : List Entry) (last : Option Entry) (d new : Disk) (c : Command) (o : Outcome) → Before s durable last d new c → Kept durable last new
    → ((x y : List Entry) → IsFront durable x → Amid s new.names x y (turns.over o c)) → Turned s durable last new (turns.over o c)
not-synced s durable last d new c o b x a = turned s durable last new (turns.over o c) b.1 x (a x.durable_now (with_last x.durable_now x.last_now) x.front)

pub on-log : (s : Setting) (durable : List Entry) (last : Option Entry) (d new : Disk) (c : Command) → Before s durable last d new c → IsFront c.entries (with_last durable last) → (answer : Answer) → Syncs d folder.Log answer new
    → Turned s durable last new (heard (goes SyncingLog c) answer)
unfolding hears reads lists
on-log s durable last d new c b k (Says Done) e = on-synced s durable last d new c _ b e (decides-amid s new.names (with_last durable last) (with_last durable last) (goes SyncingLog c) (fits-front s durable (with_last durable last) new.names c (front-last durable last) b.2) k)
on-log s durable last d new c b k (Says _) e = not-synced s durable last d new c outcome.NotKnown b (kept-maybe durable last d new b.0 e) (λ x y g. ends-so s new.names x y c outcome.NotKnown refl (fits-front s durable x new.names c g b.2))
on-log s durable last d new c b k (Told es) e = not-synced s durable last d new c outcome.Failed b (kept-maybe durable last d new b.0 e) (λ x y g. ends-so s new.names x y c outcome.Failed refl (fits-front s durable x new.names c g b.2))
on-log s durable last d new c b k (Listed items) e = not-synced s durable last d new c outcome.Failed b (kept-maybe durable last d new b.0 e) (λ x y g. ends-so s new.names x y c outcome.Failed refl (fits-front s durable x new.names c g b.2))

pub on-own : (s : Setting) (durable : List Entry) (last : Option Entry) (d new : Disk) (c : Command) → Before s durable last d new c → IsFront c.entries (with_last durable last) → AreBegun (lines_of c.entries) (begun_by c.lines) → (answer : Answer) → Syncs d folder.Log answer new
    → Turned s durable last new (heard (goes SyncingPut c) answer)
unfolding hears reads lists
on-own s durable last d new c b k g (Says Done) e = on-synced s durable last d new c _ b e (makes-amid s new.names (with_last durable last) (with_last durable last) (begun_by c.lines) (goes SyncingPut c) (fits-front s durable (with_last durable last) new.names c (front-last durable last) b.2) k g)
on-own s durable last d new c b k g (Says _) e = not-synced s durable last d new c outcome.NotKnown b (kept-maybe durable last d new b.0 e) (λ x y g. ends-so s new.names x y c outcome.NotKnown refl (fits-front s durable x new.names c g b.2))
on-own s durable last d new c b k g (Told es) e = not-synced s durable last d new c outcome.Failed b (kept-maybe durable last d new b.0 e) (λ x y g. ends-so s new.names x y c outcome.Failed refl (fits-front s durable x new.names c g b.2))
on-own s durable last d new c b k g (Listed items) e = not-synced s durable last d new c outcome.Failed b (kept-maybe durable last d new b.0 e) (λ x y g. ends-so s new.names x y c outcome.Failed refl (fits-front s durable x new.names c g b.2))

-- ---- the log is read

pub on-read : (s : Setting) (durable : List Entry) (last : Option Entry) (d new : Disk) (c : Command) → Before s durable last d new c → IsFront c.entries durable → (answer : Answer) → Reads d (length c.entries) answer new
    → Turned s durable last new (heard (goes Reading c) answer)
unfolding hears reads lists
on-read s durable last d new c b k (Says r) e = not-synced s durable last d new c outcome.Failed b (kept-stays durable last d new b.0 e) (λ x y g. ends-so s new.names x y c outcome.Failed refl (fits-front s durable x new.names c g b.2))
on-read s durable last d new c b k (Told es) e =
    stays s durable last d new (turns.knows es c) b.0 b.1 e.1 (read-amid s new.names durable (with_last durable last) (goes Reading c) es b.2 (log-read durable last d c.entries es b.0 (front-trans c.entries durable (with_last durable last) k (front-last durable last)) e.0))
on-read s durable last d new c b k (Listed items) e = not-synced s durable last d new c outcome.Failed b (kept-stays durable last d new b.0 e) (λ x y g. ends-so s new.names x y c outcome.Failed refl (fits-front s durable x new.names c g b.2))

pub on-read-on : (s : Setting) (durable : List Entry) (last : Option Entry) (d new : Disk) (c : Command) → Before s durable last d new c → IsFront c.entries durable → (answer : Answer) → Reads d (length c.entries) answer new
    → Turned s durable last new (heard (goes ReadingOn c) answer)
unfolding hears reads lists
on-read-on s durable last d new c b k (Says r) e = not-synced s durable last d new c outcome.NotKnown b (kept-stays durable last d new b.0 e) (λ x y g. ends-so s new.names x y c outcome.NotKnown refl (fits-front s durable x new.names c g b.2))
on-read-on s durable last d new c b k (Told es) e =
    stays s durable last d new (turns.reads_on es (goes ReadingOn c)) b.0 b.1 e.1 (read-on-amid s new.names durable (with_last durable last) (goes ReadingOn c) es b.2 (log-read durable last d c.entries es b.0 (front-trans c.entries durable (with_last durable last) k (front-last durable last)) e.0))
on-read-on s durable last d new c b k (Listed items) e = not-synced s durable last d new c outcome.Failed b (kept-stays durable last d new b.0 e) (λ x y g. ends-so s new.names x y c outcome.Failed refl (fits-front s durable x new.names c g b.2))
