-- Each move keeps the invariant; so decisions stay.
use Rattle.std.proofs.Common.{◌≡◌, ◌≢◌, ◌⊎◌, inl, inr, ◌==◌, ℕ, Bool, true, false, cond, List, [], ◌∷◌, ◌++◌, Option, Some, None, refl, sym, ap, subst, ◌∙◌, true≢false}
use Rattle.mr_ids.specs.Attempt.{Attempt}
use Rattle.mr_ids.specs.declared.id.TaskId.{TaskId}
use Rattle.mr_ids.specs.Same.{same_attempt}
use Rattle.mr_ids.proofs.Same.{same_attempt-itself}
use Rattle.mr_log_entries.specs.declared.line.Line.{Line}
use Rattle.mr_log_entries.specs.declared.entry.Entry.{Entry}
use Rattle.mr_log_entries.specs.Recorded.{lines_of}
use Rattle.mr_log_disk.specs.declared.call.Call.{Call}
use Rattle.mr_log_disk.specs.declared.call.Call.TheVariants as call
use Rattle.mr_log_disk.specs.declared.place.Place.{Place}
use Rattle.mr_log_disk.specs.declared.place.Place.TheVariants.{Marker}
use Rattle.mr_log_disk.specs.declared.place.Node.{Node}
use Rattle.mr_log_disk.specs.Names.{IsVisible, Moments}
use Rattle.mr_log_disk.specs.Calls.{seen}
use Rattle.mr_log_disk.specs.Log.{Disk}
use Rattle.mr_log_disk.specs.declared.answer.Answer.{Answer}
use Rattle.mr_log_standing.specs.declared.standing.Win.{Win}
use Rattle.mr_log_standing.specs.declared.job.Job.{Job}
use Rattle.mr_log_standing.specs.declared.order.Order.{Order}
use Rattle.mr_log_standing.specs.declared.order.Outcome.{Outcome}
use Rattle.mr_log_standing.specs.declared.order.Outcome.TheVariants as outcome
use Rattle.mr_log_standing.specs.declared.standing.Standing.{Standing}
use Rattle.mr_log_standing.specs.declared.standing.Standing.TheVariants as stands
use Rattle.mr_log_standing.specs.Standing.{is_of_job, task_of, win_of, winner_of, against, unwon, standing, is_over, is_published, is_publishable, is_publication}
use Rattle.mr_log_standing.specs.Lawful.{are_lawful}
use Rattle.mr_log_standing.specs.Host.{Host}
use Rattle.mr_log_entries.specs.declared.entry.Origin.{Origin}
use Rattle.mr_log_standing.specs.Laws.{IsLost}
use Rattle.mr_log_standing.proofs.Lost.{won-stays, has-won, lost-stays}
use Rattle.mr_log_standing.proofs.Jobs.{any-stays, failed}
use Rattle.mr_log_standing.proofs.Winning.{winner-task, win-is}
use Rattle.mr_log_steps.specs.declared.phase.Phase.{Phase}
use Rattle.mr_log_steps.specs.declared.phase.Phase.TheVariants.{Over}
use Rattle.mr_log_steps.specs.Commands.{Command, own_entry, opening, next_call, outcome_in}
use Rattle.mr_log_steps.specs.Turns.{heard}
use Rattle.mr_log_model.specs.Worlds.{Setting, World, begun, with_command}
use Rattle.mr_log_model.specs.Runs.{Move, Starts, Answers, Ends, Stops, Cuts, heard_by, with_call, called_by, ended, ends_with, happens, MayAnswer, MayHear, May, after, IsRun}
use Rattle.mr_log_model.specs.Visible.{IsOutputOf, IsWhole, IsDone, OutputsStay}
use Rattle.mr_log_model.specs.Visible as visible
use Rattle.mr_log_model.specs.Promises.{with_last, IsFront, AreDecided, IsAbout, HasSaid, HasSaidLoss, HasSaidStart, IsAllowed, IsAmong, Promises, DecisionsStay}
use Rattle.mr_log_model.proofs.Fronts.{front-self, front-none, front-trans, front-last, lines-more}
use Rattle.mr_log_model.proofs.Logs.{cut-log}
use Rattle.mr_log_model.proofs.Lawful.{decided-front, decided-rest, lawful, published-never-over, allowed-stays}
use Rattle.mr_log_model.proofs.Invariant.{Stood, Permits, IsSo, Source, MayShow, stage, At, Amid, AmidAny, Holds}
use Rattle.mr_log_model.proofs.Moving.{stood-stays, fits-stays, amid-stays, calls-stay, PermitsAny, permitted, Turned}
use Rattle.mr_log_model.proofs.Names.{IsNode, Every, every-map, every-left, every-turn, turns, IsTarget, IfThere, if-there-map, lasts-there}
use Rattle.mr_log_model.proofs.Steps.{Keeps, KeepsLasting, AllShown, Whole, output-visible, all-shown-stays, IsShown, is-shown-stays, win-front}
use Rattle.mr_log_model.proofs.Answering.{keeps-any, answered}
use Rattle.mr_log_model.proofs.Targets.{MarkerAny, marker-made, SourceOf, SourceAny, source-made}

-- ---- a move

pub record Onward (s : Setting) (w : World) (durable : List Entry) (v : World) : Type 0 where
  pub durable_now : List Entry
  pub last_now : Option Entry
  pub holds : Holds s v durable_now last_now
  pub front : IsFront durable durable_now
  pub lasting : KeepsLasting w.disk.names v.disk.names
  pub calls : (x : Call) → IsAmong x w.calls → IsAmong x v.calls
  pub said : (a : Attempt) (st : Standing) → HasSaid w.said a st → HasSaid v.said a st
  pub started : (a : Attempt) → HasSaidStart w.said a → HasSaidStart v.said a

source-stays : (durable more : List Entry) (from to : Place) → IsFront durable more → Source durable from to → Source more from to
source-stays durable more from to f x = record { win = x.win; task = x.task; is = win-front durable more x.task x.win f x.is; own = x.own }

-- a log that says that the job is published says so once it is longer
published-front : (xs ys : List Entry) → IsFront xs ys → is_published (lines_of xs) ≡ true → is_published (lines_of ys) ≡ true
published-front xs ys f e = let P : List Line → Type 0 = λ ls. is_published ls ≡ true in subst P (sym (ap lines_of f.is ∙ lines-more xs f.rest)) (any-stays is_publication (lines_of xs) (lines_of f.rest) e)

-- one command is another now
one-amid : (s : Setting) (v : Place → Moments) (durable all : List Entry) (k : ℕ) (c : Option Command) (running : ℕ → Option Command) → AmidAny s v durable all c → ((i : ℕ) → AmidAny s v durable all (running i)) → (i : ℕ) → AmidAny s v durable all (with_command k c running i)
one-amid s v durable all k c running h g i = by (i == k)
  where
    by : (b : Bool) → AmidAny s v durable all (cond b c (running i))
    by true = h
    by false = g i

starts : (s : Setting) (w : World) (durable : List Entry) (last : Option Entry) → Holds s w durable last → (k : ℕ) (o : Order) (host : Host) (origin : Origin) → May s w (Starts k o host origin) → Onward s w durable (happens s w (Starts k o host origin))
unfolding May happens
starts s w durable last h k o host origin m = record {
  durable_now = durable;
  last_now = last;
  holds = record {
    log = h.log;
    decided = h.decided;
    amid = one-amid s w.disk.names durable (with_last durable last) k (Some (opening o s.job s.folders host origin)) w.running (record { fits = record { job = refl; boot = m.1; amiss = tt; visible = λ e. absurd (true≢false (sym e)) }; here = front-none durable; sees = tt }) h.amid;
    early = h.early;
    marker = h.marker;
    published = h.published;
    sourced = h.sourced;
    allowed = h.allowed;
    said = h.said;
    started = h.started;
  };
  front = front-self durable;
  lasting = λ p v n l. l;
  calls = λ x i. i;
  said = λ a st t. t;
  started = λ a t. t;
}

answers : (s : Setting) (w : World) (durable : List Entry) (last : Option Entry) → Holds s w durable last → (k : ℕ) (answer : Answer) (left : Disk) → May s w (Answers k answer left) → Onward s w durable (happens s w (Answers k answer left))
unfolding May happens
answers s w durable last h k answer left m = by (w.running k) (h.amid k) m
  where
    made : (c : Command) → Amid s w.disk.names durable (with_last durable last) c → PermitsAny s.job durable (next_call c)
    made c a = let P : Job → Type 0 = λ j. PermitsAny j durable (next_call c) in subst P a.fits.job (permitted c.job durable (with_last durable last) c c.phase a.here)

    among : (y : Option Call) → PermitsAny s.job durable y → (x : Call) → IsAmong x (with_call y w.calls) → Permits s.job durable x
    among None p x i = h.allowed x i
    among (Some y) p x (inl e) = let P : Call → Type 0 = λ z. Permits s.job durable z in subst P e p
    among (Some y) p x (inr i) = h.allowed x i

    published_now : (now : List Entry) → IsFront durable now → Keeps w.disk.names left.names → (is_published (lines_of (with_last durable last)) ≡ true) ⊎ IsShown s now left.names → IsShown s now left.names
    published_now now f ks (inl e) = is-shown-stays s durable now w.disk.names left.names f ks.lasts (h.published e)
    published_now now f ks (inr x) = x

    sources : (y : Option Call) → SourceAny durable y → (from to : Place) → IsAmong (call.Link from to) (with_call y w.calls) → Source durable from to
    sources None q from to i = h.sourced from to i
    sources (Some x) q from to (inl e) = subst (SourceOf durable) e q
    sources (Some x) q from to (inr i) = h.sourced from to i

    -- a name that the call made was allowed
    may : (x : Call) (p : Place) → Permits s.job durable x → IsTarget x p → MayShow s.job durable
    may (call.Link from to) p q t = record { by = q.by; front = q.front; may = q.allows }
    may (call.MakeFolder r) p q t = record { by = q.by; front = q.front; may = q.allows }
    may call.LinkMarker p q t = record { by = q.by; front = q.front; may = q.allows }
    may _ p q t = absurd t

    early_now : (y : Option Call) → PermitsAny s.job durable y → (now : List Entry) → IsFront durable now → MayAnswer s w.disk y answer left → (p : Place) → IsVisible p → Every (IfThere (MayShow s.job now)) (left.names p)
    early_now None q now f e p v = absurd e
    early_now (Some x) q now f e p v =
        every-map (IfThere (MayShow s.job durable)) (IfThere (MayShow s.job now)) (left.names p) (if-there-map (MayShow s.job durable) (MayShow s.job now) (λ z. record { by = z.by; front = front-trans z.by durable now z.front f; may = z.may }))
        (every-turn (IfThere (MayShow s.job durable)) x p (w.disk.names p) (left.names p) (turns w.disk left x answer e.0.names p v) (λ t n. may x p q t) (h.early p v))

    marker_now : (y : Option Call) → MarkerAny s durable w.disk.names y → (now : List Entry) → IsFront durable now → Keeps w.disk.names left.names → MayAnswer s w.disk y answer left → Every (IfThere (AllShown s now left.names)) (left.names Marker)
    marker_now None q now f ks e = absurd e
    marker_now (Some x) q now f ks e =
        every-turn (IfThere (AllShown s now left.names)) x Marker (w.disk.names Marker) (left.names Marker) (turns w.disk left x answer e.0.names Marker tt) (λ t n. all-shown-stays s durable now w.disk.names left.names f ks.lasts (q t))
        (every-map (IfThere (AllShown s durable w.disk.names)) (IfThere (AllShown s now left.names)) (w.disk.names Marker) (if-there-map (AllShown s durable w.disk.names) (AllShown s now left.names) (all-shown-stays s durable now w.disk.names left.names f ks.lasts)) h.marker)

    more : (y : Option Call) (x : Call) → IsAmong x w.calls → IsAmong x (with_call y w.calls)
    more None x i = i
    more (Some y) x i = inr i

    by : (c : Option Command) → AmidAny s w.disk.names durable (with_last durable last) c → MayHear s w.disk c answer left → Onward s w durable (record w { disk = left; running = with_command k (heard_by c answer) w.running; calls = called_by c w.calls })
    by None a m = absurd m
    by (Some c) a m =
        let t : Turned s durable last left (heard c answer) = answered s durable last w.disk left c c.phase (h.log, h.decided, fits-stays s durable durable w.disk.names left.names c (front-self durable) (keeps-any s w.disk left (next_call c) answer m).lasts a.fits) a.here a.sees answer m in
        let ks : Keeps w.disk.names left.names = keeps-any s w.disk left (next_call c) answer m in
        record {
          durable_now = t.durable_now;
          last_now = t.last_now;
          holds = record {
            log = t.log;
            decided = t.decided;
            amid = one-amid s left.names t.durable_now (with_last t.durable_now t.last_now) k (Some (heard c answer)) w.running t.amid
                (λ i. amid-stays s w.disk.names left.names durable (with_last durable last) t.durable_now (with_last t.durable_now t.last_now) (w.running i) t.front t.all ks (h.amid i));
            early = early_now (next_call c) (made c a) t.durable_now t.front m;
            marker = marker_now (next_call c) (marker-made s durable w.disk.names c c.phase a.sees) t.durable_now t.front ks m;
            published = λ e. published_now t.durable_now t.front ks (t.published e);
            sourced = λ from to i. source-stays durable t.durable_now from to t.front (sources (next_call c) (source-made s durable w.disk.names c c.phase a.sees) from to i);
            allowed = λ x i. calls-stay s.job durable t.durable_now x t.front (among (next_call c) (made c a) x i);
            said = λ b st x. stood-stays s.job durable t.durable_now b st t.front (h.said b st x);
            started = λ b x. calls-stay s.job durable t.durable_now (call.MakeWork b) t.front (h.started b x);
          };
          front = t.front;
          lasting = ks.lasts;
          calls = λ x i. more (next_call c) x i;
          said = λ b st x. x;
          started = λ b x. x;
        }

-- nothing changed but which commands are under way
still : (s : Setting) (w : World) (durable : List Entry) (last : Option Entry) → Holds s w durable last → Onward s w durable w
still s w durable last h = record { durable_now = durable; last_now = last; holds = h; front = front-self durable; lasting = λ p v n l. l; calls = λ x i. i; said = λ a st t. t; started = λ a t. t }

ends : (s : Setting) (w : World) (durable : List Entry) (last : Option Entry) → Holds s w durable last → (k : ℕ) → Onward s w durable (happens s w (Ends k))
unfolding happens
ends s w durable last h k = by (w.running k) (h.amid k)
  where
    says : (c : Command) (o : Outcome) → Amid s w.disk.names durable (with_last durable last) c → IsSo c.job durable c.order o → Onward s w durable (ended w k c (Some o))
    says c o a so = record {
      durable_now = durable;
      last_now = last;
      holds = record {
        log = h.log;
        decided = h.decided;
        amid = one-amid s w.disk.names durable (with_last durable last) k None w.running tt h.amid;
        early = h.early;
        marker = h.marker;
        published = h.published;
        sourced = h.sourced;
        allowed = h.allowed;
        said = λ b st x. at b st x;
        started = λ b x. from b x;
      };
      front = front-self durable;
      lasting = λ p v n l. l;
      calls = λ x i. i;
      said = λ b st x. inr x;
      started = λ b x. inr x;
    }
      where
        from : (b : Attempt) → ((o ≡ outcome.Started b) ⊎ HasSaidStart w.said b) → Permits s.job durable (call.MakeWork b)
        from b (inl e) = let P : Job → Type 0 = λ j. Permits j durable (call.MakeWork b) in subst P a.fits.job (so.begun b e)
        from b (inr x) = h.started b x

        at : (b : Attempt) (st : Standing) → ((IsAbout c.order b × (o ≡ outcome.Stands st)) ⊎ HasSaid w.said b st) → Stood s.job durable b st
        at b st (inl x) = let P : Job → Type 0 = λ j. Stood j durable b st in subst P a.fits.job (so.stands b st x.0 x.1)
        at b st (inr x) = h.said b st x

    over : (c : Command) (p : Phase) → Amid s w.disk.names durable (with_last durable last) c → At c.job durable (with_last durable last) c.order c.entries (own_entry c) c.begun (stage p) → Onward s w durable (ended w k c (outcome_in p))
    over c (Over o) a here = says c o a here
    over c _ a here = still s w durable last h

    by : (c : Option Command) → AmidAny s w.disk.names durable (with_last durable last) c → Onward s w durable (ends_with w k c)
    by None a = still s w durable last h
    by (Some c) a = over c c.phase a a.here

stops : (s : Setting) (w : World) (durable : List Entry) (last : Option Entry) → Holds s w durable last → (k : ℕ) → Onward s w durable (happens s w (Stops k))
unfolding happens
stops s w durable last h k = record {
  durable_now = durable;
  last_now = last;
  holds = record { log = h.log; decided = h.decided; amid = one-amid s w.disk.names durable (with_last durable last) k None w.running tt h.amid; early = h.early; marker = h.marker; published = h.published; sourced = h.sourced; allowed = h.allowed; said = h.said; started = h.started };
  front = front-self durable;
  lasting = λ p v n l. l;
  calls = λ x i. i;
  said = λ a st t. t;
  started = λ a t. t;
}

cuts : (s : Setting) (w : World) (durable : List Entry) (last : Option Entry) → Holds s w durable last → (left : Disk) → May s w (Cuts left) → Onward s w durable (happens s w (Cuts left))
unfolding May happens
cuts s w durable last h left m =
    let x = cut-log durable last w.disk left h.log m in
    let lasting : KeepsLasting w.disk.names left.names = λ p v n l. every-left (IsNode n) (w.disk.names p) (left.names p) (m.names p v) l in
    let P : List Entry → Type 0 = λ es. AreDecided s.job [] es in
    record {
      durable_now = x.durable_now;
      last_now = None;
      holds = record {
        log = x.log;
        decided = decided-front s.job [] x.durable_now x.within.rest (subst P x.within.is h.decided);
        amid = λ i. tt;
        early = λ p v. every-left (IfThere (MayShow s.job x.durable_now)) (w.disk.names p) (left.names p) (m.names p v)
            (every-map (IfThere (MayShow s.job durable)) (IfThere (MayShow s.job x.durable_now)) (w.disk.names p) (if-there-map (MayShow s.job durable) (MayShow s.job x.durable_now) (λ z. record { by = z.by; front = front-trans z.by durable x.durable_now z.front x.front; may = z.may })) (h.early p v));
        marker = every-left (IfThere (AllShown s x.durable_now left.names)) (w.disk.names Marker) (left.names Marker) (m.names Marker tt)
            (every-map (IfThere (AllShown s durable w.disk.names)) (IfThere (AllShown s x.durable_now left.names)) (w.disk.names Marker) (if-there-map (AllShown s durable w.disk.names) (AllShown s x.durable_now left.names) (all-shown-stays s durable x.durable_now w.disk.names left.names x.front lasting)) h.marker);
        published = λ e. is-shown-stays s durable x.durable_now w.disk.names left.names x.front lasting (h.published (published-front x.durable_now (with_last durable last) x.within e));
        sourced = λ from to i. source-stays durable x.durable_now from to x.front (h.sourced from to i);
        allowed = λ y i. calls-stay s.job durable x.durable_now y x.front (h.allowed y i);
        said = λ a st t. stood-stays s.job durable x.durable_now a st x.front (h.said a st t);
        started = λ a t. calls-stay s.job durable x.durable_now (call.MakeWork a) x.front (h.started a t);
      };
      front = x.front;
      lasting = lasting;
      calls = λ y i. i;
      said = λ a st t. t;
      started = λ a t. t;
    }

moves-on : (s : Setting) (w : World) (durable : List Entry) (last : Option Entry) → Holds s w durable last → (m : Move) → May s w m → Onward s w durable (happens s w m)
moves-on s w durable last h (Starts k o host origin) m = starts s w durable last h k o host origin m
moves-on s w durable last h (Answers k answer left) m = answers s w durable last h k answer left m
moves-on s w durable last h (Ends k) m = ends s w durable last h k
moves-on s w durable last h (Stops k) m = stops s w durable last h k
moves-on s w durable last h (Cuts left) m = cuts s w durable last h left m

-- ---- a list of moves

runs-on : (s : Setting) (moves : List Move) (w : World) (durable : List Entry) (last : Option Entry) → Holds s w durable last → IsRun s w moves → Onward s w durable (after s w moves)
unfolding IsRun after
runs-on s [] w durable last h r = still s w durable last h
runs-on s (m ∷ moves) w durable last h r =
    let one = moves-on s w durable last h m r.0 in
    let more = runs-on s moves (happens s w m) one.durable_now one.last_now one.holds r.1 in
    record { durable_now = more.durable_now; last_now = more.last_now; holds = more.holds; front = front-trans durable one.durable_now more.durable_now one.front more.front; lasting = λ p v n l. more.lasting p v n (one.lasting p v n l); calls = λ x i. more.calls x (one.calls x i); said = λ a st t. more.said a st (one.said a st t); started = λ a t. more.started a (one.started a t) }

begun-holds : (s : Setting) → Holds s begun [] None
unfolding AreDecided lines_of
begun-holds s = record { log = record { names = λ n. refl }; decided = tt; amid = λ k. tt; early = λ p v. (tt, tt); marker = (tt, tt); published = λ e. absurd (true≢false (sym e)); sourced = λ from to i. absurd i; allowed = λ x i. absurd i; said = λ a st t. absurd t; started = λ a t. absurd t }

-- ---- what is promised

lost-not-winner : (job : Job) (ls : List Line) (a : Attempt) → IsLost (standing job ls a) → winner_of ls a.task ≡ Some a → ⊥
unfolding standing
lost-not-winner job ls a l w = by (is_of_job job a) l
  where
    won : (o : Option Attempt) → o ≡ Some a → IsLost (against o a (unwon ls a)) → ⊥
    won None e x = absurd (cc)
    won (Some b) e x =
        let same : b ≡ a = cc in
        let P : Bool → Type 0 = λ m. IsLost (cond m stands.Won stands.Beaten) in
        subst P (ap (λ (y : Attempt). same_attempt y a) same ∙ same_attempt-itself a) x

    by : (m : Bool) → IsLost (cond m (against (winner_of ls a.task) a (unwon ls a)) stands.Unknown) → ⊥
    by true x = won (winner_of ls a.task) w x
    by false x = x

front-lines : (xs ys : List Entry) → IsFront xs ys → (rest : List Line) × (lines_of ys ≡ lines_of xs ++ rest)
front-lines xs ys f = (lines_of f.rest, ap lines_of f.is ∙ lines-more xs f.rest)

won-later : (job : Job) (durable later : List Entry) (a : Attempt) → IsFront durable later → Stood job durable a stands.Won → winner_of (lines_of later) a.task ≡ Some a
won-later job durable later a f x =
    let p = front-lines x.by later (front-trans x.by durable later x.front f) in
    let P : List Line → Type 0 = λ ls. standing job ls a ≡ stands.Won in
    has-won job (lines_of later) a (subst P (sym p.1) (won-stays job (lines_of x.by) p.0 a x.stands))

lost-later : (job : Job) (durable all : List Entry) (a : Attempt) (st : Standing) → IsLost st → IsFront durable all → AreDecided job [] all → Stood job durable a st → winner_of (lines_of all) a.task ≢ Some a
lost-later job durable all a st lost f ds x =
    let g = front-trans x.by durable all x.front f in
    let P : List Entry → Type 0 = λ es. AreDecided job [] es in
    let Q : List Line → Type 0 = λ ls. IsLost (standing job ls a) in
    let more : are_lawful job (lines_of x.by) (lines_of g.rest) ≡ true = lawful job x.by g.rest (decided-rest job [] x.by g.rest (subst P g.is ds)) in
    let all_lost = lost-stays job (lines_of x.by) (lines_of g.rest) a (subst IsLost (sym x.stands) lost) more in
    lost-not-winner job (lines_of all) a (subst Q (sym (ap lines_of g.is ∙ lines-more x.by g.rest)) all_lost)

-- what durable entries allowed, all that are durable allow
allowed-later : (job : Job) (durable all : List Entry) → IsFront durable all → AreDecided job [] all → (x : Call) → Permits job durable x → IsAllowed job (lines_of durable) x
allowed-later job durable all f ds x p =
    let P : List Entry → Type 0 = λ es. AreDecided job [] es in
    let Q : List Line → Type 0 = λ ls. IsAllowed job ls x in
    let is : AreDecided job [] durable = decided-front job [] durable f.rest (subst P f.is ds) in
    let more : are_lawful job (lines_of p.by) (lines_of p.front.rest) ≡ true = lawful job p.by p.front.rest (decided-rest job [] p.by p.front.rest (subst P p.front.is is)) in
    subst Q (sym (ap lines_of p.front.is ∙ lines-more p.by p.front.rest)) (allowed-stays job (lines_of p.by) (lines_of p.front.rest) x more p.allows)

published : (job : Job) (durable all : List Entry) → IsFront durable all → AreDecided job [] all → is_published (lines_of durable) ≡ true → is_over (lines_of all) ≡ false
unfolding lines_of
published job durable all f ds e =
    let P : List Entry → Type 0 = λ es. AreDecided job [] es in
    let Q : List Line → Type 0 = λ ls. is_over ls ≡ false in
    let is : AreDecided job [] (durable ++ f.rest) = subst P f.is ds in
    subst Q (sym (ap lines_of f.is ∙ lines-more durable f.rest))
    (published-never-over job (lines_of durable) (lines_of f.rest) (lawful job [] durable (decided-front job [] durable f.rest is)) (lawful job durable f.rest (decided-rest job [] durable f.rest is)) e)

promised : (s : Setting) (w v : World) (durable : List Entry) (last : Option Entry) → Holds s w durable last → Onward s w durable v → Promises s w v
promised s w v durable last h o =
    let all = with_last o.durable_now o.last_now in
    let front : IsFront durable all = front-trans durable o.durable_now all o.front (front-last o.durable_now o.last_now) in
    record {
      durable = durable;
      last = last;
      log = h.log;
      durable_later = o.durable_now;
      last_later = o.last_now;
      log_later = o.holds.log;
      stay = o.front;
      decided = o.holds.decided;
      won = λ a t. won-later s.job durable o.durable_now a o.front (h.said a stands.Won t);
      lost = λ a t. lost a t front;
      started = λ a t. allowed-later s.job o.durable_now all (front-last o.durable_now o.last_now) o.holds.decided (call.MakeWork a) (calls-stay s.job durable o.durable_now (call.MakeWork a) o.front (h.started a t));
      allowed = λ x i. (allowed-later s.job durable all front o.holds.decided x (h.allowed x i), allowed-later s.job o.durable_now all (front-last o.durable_now o.last_now) o.holds.decided x (calls-stay s.job durable o.durable_now x o.front (h.allowed x i)));
      ended = λ e. let p = front-lines durable all front in let P : List Line → Type 0 = λ ls. is_publishable s.job ls ≡ false in subst P (sym p.1) (failed s.job (lines_of durable) p.0 e);
      published = λ e. published s.job durable all front o.holds.decided e;
    }
  where
    lost : (a : Attempt) → HasSaidLoss w.said a → IsFront durable (with_last o.durable_now o.last_now) → winner_of (lines_of (with_last o.durable_now o.last_now)) a.task ≢ Some a
    lost a (inl t) f = lost-later s.job durable (with_last o.durable_now o.last_now) a stands.Beaten tt f o.holds.decided (h.said a stands.Beaten t)
    lost a (inr (inl t)) f = lost-later s.job durable (with_last o.durable_now o.last_now) a stands.GivenUp tt f o.holds.decided (h.said a stands.GivenUp t)
    lost a (inr (inr t)) f = lost-later s.job durable (with_last o.durable_now o.last_now) a stands.JobOver tt f o.holds.decided (h.said a stands.JobOver t)

pub keeps : DecisionsStay
keeps s moves more r q =
    let first = runs-on s moves begun [] None (begun-holds s) r in
    let w = after s begun moves in
    promised s w (after s w more) first.durable_now first.last_now first.holds (runs-on s more w first.durable_now first.last_now first.holds q)

-- ---- what is visible

stands-there : (X : Type 0) (x : Option Node) → x ≢ None → IfThere X x → X
stands-there X None h i = absurd (h refl)
stands-there X (Some n) h i = i

there-not-none : (x : Option Node) (n : Node) → x ≡ Some n → x ≢ None
there-not-none x n e f = absurd (cc)

whole-now : (s : Setting) (durable : List Entry) (d : Disk) (n : ℕ) → Whole s durable d.names n → IsWhole s durable d n
whole-now s durable d n x = record { win = x.win; is = x.is; each = λ p o. let t = lasts-there (d.names p) (x.each p o) in there-not-none (seen d p) t.node t.now }

same-win : (x : Option Win) (a b : Win) → x ≡ Some a → x ≡ Some b → a ≡ b
same-win x a b e f = cc

may-now : (job : Job) (durable all : List Entry) → IsFront durable all → AreDecided job [] all → MayShow job durable → is_publishable job (lines_of durable) ≡ true
may-now job durable all f ds m = allowed-later job durable all f ds call.LinkMarker (record { by = m.by; front = m.front; allows = m.may })

-- where the marker is there, or the log says that the job is published
done-shown : (s : Setting) (w : World) (durable : List Entry) (last : Option Entry) → Holds s w durable last → IsDone w durable → AllShown s durable w.disk.names
done-shown s w durable last h (inl e) = stands-there (AllShown s durable w.disk.names) (seen w.disk Marker) e h.marker.0
done-shown s w durable last h (inr e) = (h.published (published-front durable (with_last durable last) (front-last durable last) e)).0

outputs : (s : Setting) (w v : World) (durable : List Entry) (last : Option Entry) → Holds s w durable last → Onward s w durable v → visible.Promises s w v
outputs s w v durable last h o = record {
  durable = durable;
  last = last;
  log = h.log;
  early = λ p x e. may-now s.job durable (with_last durable last) (front-last durable last) h.decided (stands-there (MayShow s.job durable) (seen w.disk p) e (h.early p x).0);
  whose = λ from to i. let x = h.sourced from to i in record { winner = x.win.attempt; recorded = own x.win x.task x.is; own = x.own };
  whole = λ e n l. whole-now s durable w.disk n (done-shown s w durable last h e n l);
  stays = λ e n win l is p out. same n win (done-shown s w durable last h e n l) is p out;
  published = marked;
  forgotten = λ i. marked (allowed-later s.job durable (with_last durable last) (front-last durable last) h.decided call.Forget (h.allowed call.Forget i));
}
  where
    own : (win : Win) (t : TaskId) → win_of durable t ≡ Some win → winner_of (lines_of durable) win.attempt.task ≡ Some win.attempt
    own win t is =
        let e : winner_of (lines_of durable) t ≡ Some win.attempt = win-is durable t win is in
        ap (winner_of (lines_of durable)) (winner-task (lines_of durable) t win.attempt e) ∙ e

    marked : is_published (lines_of durable) ≡ true → (seen w.disk Marker ≢ None) × (seen v.disk Marker ≢ None)
    marked e =
        let x = (h.published (published-front durable (with_last durable last) (front-last durable last) e)).1 in
        let later : Every (IsNode x.node) (v.disk.names Marker) = o.lasting Marker tt x.node x.every in
        (there-not-none (seen w.disk Marker) x.node x.every.0, there-not-none (seen v.disk Marker) x.node later.0)

    same : (n : ℕ) (win : Win) → Whole s durable w.disk.names n → win_of durable (task_of s.job.id n) ≡ Some win → (p : Place) → IsOutputOf s win p → seen v.disk p ≡ seen w.disk p
    same n win x is p out =
        let P : Win → Type 0 = λ y. IsOutputOf s y p in
        let own : IsOutputOf s x.win p = subst P (sym (same-win (win_of durable (task_of s.job.id n)) x.win win x.is is)) out in
        let lasts = x.each p own in
        let later : Every (IsNode lasts.node) (v.disk.names p) = o.lasting p (output-visible s x.win p own) lasts.node lasts.every in
        later.0 ∙ sym lasts.every.0

pub outputs-stay : OutputsStay
outputs-stay s moves more r q =
    let first = runs-on s moves begun [] None (begun-holds s) r in
    let w = after s begun moves in
    outputs s w (after s w more) first.durable_now first.last_now first.holds (runs-on s more w first.durable_now first.last_now first.holds q)
