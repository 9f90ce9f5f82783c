-- Where a command is once it has decided.
use Rattle.std.proofs.Common.{◌≡◌, inl, inr, Bool, true, false, cond, not, ◌&&◌, List, [], ◌∷◌, Option, Some, None, refl, sym, ap, subst, ◌∙◌, true≢false}
use Rattle.mr_ids.specs.Attempt.{Attempt}
use Rattle.mr_log_entries.specs.declared.line.Line.{Line}
use Rattle.mr_log_entries.specs.declared.line.Line.TheVariants as line
use Rattle.mr_log_entries.specs.declared.line.Handed.{Handed}
use Rattle.mr_log_entries.specs.declared.line.Handed.TheVariants as handed
use Rattle.mr_log_entries.specs.declared.entry.Entry.{Entry}
use Rattle.mr_log_entries.specs.Recorded.{lines_of}
use Rattle.mr_log_disk.specs.declared.call.Call.TheVariants as call
use Rattle.mr_log_standing.specs.declared.job.Job.{Job}
use Rattle.mr_log_standing.specs.declared.order.Order.{Order}
use Rattle.mr_log_standing.specs.declared.order.Order.TheVariants as order
use Rattle.mr_log_standing.specs.declared.order.Outcome.{Outcome}
use Rattle.mr_log_standing.specs.declared.order.Outcome.TheVariants as outcome
use Rattle.mr_log_standing.specs.declared.standing.Standing.{Standing}
use Rattle.mr_log_standing.specs.declared.standing.Standing.TheVariants as stands
use Rattle.mr_log_standing.specs.declared.standing.Win.{Win}
use Rattle.mr_log_standing.specs.declared.decision.Decision.{Decision}
use Rattle.mr_log_standing.specs.declared.decision.Decision.TheVariants.{Ends, Publishes, HandsIn, Puts, Begins, Forgets}
use Rattle.mr_log_standing.specs.declared.decision.Conclusion.{Conclusion}
use Rattle.mr_log_standing.specs.Host.{Host}
use Rattle.mr_log_standing.specs.Standing.{standing, is_under_way, is_published, is_publishable, begun_in, is_this}
use Rattle.mr_log_standing.specs.Laws.{IsLost}
use Rattle.mr_log_standing.specs.Deciding.{decided, concluded, conclusion, ends, of_attempt, hands_in, failing}
use Rattle.mr_log_steps.specs.Commands.{Command, own_entry}
use Rattle.mr_log_steps.specs.Lists.{wins}
use Rattle.mr_log_steps.specs.Turns as turns
use Rattle.mr_log_steps.specs.Turns.{decision_of, empties, clears_up, clears, acts, decides, publishes, publishes_one, publishes_all, publishes_unless, puts}
use Rattle.mr_log_model.specs.Promises.{IsFront, IsPutBy, IsDecided, IsAbout}
use Rattle.mr_log_disk.specs.declared.place.Place.{Place}
use Rattle.mr_log_disk.specs.Names.{Moments}
use Rattle.mr_log_steps.specs.declared.phase.Step.{Step}
use Rattle.mr_log_model.specs.Worlds.{Setting}
use Rattle.mr_log_model.proofs.Publications.{PutsMute, mute-decision}
use Rattle.mr_log_model.proofs.Steps.{ToShow, to-show-all, are-wins-all, progress-file}
use Rattle.mr_log_model.proofs.Lawful.{starts_none, IsFair, fair-decision}
use Rattle.mr_log_model.proofs.Invariant.{Permits, IsSo, stage, At, is_plain, IsPlain, Publishing, SeesAt, Fits, Amid}

-- ---- what a decision says is so

-- what the command ends with is how the attempt of its order stands
abbrev pub IsTrue : Job → List Entry → Order → Decision → Type 0
IsTrue job es o (Ends end) = (a : Attempt) (st : Standing) → IsAbout o a → end ≡ outcome.Stands st → standing job (lines_of es) a ≡ st
IsTrue job es o (Publishes end) = Unit {0}
IsTrue job es o (HandsIn a) = Unit {0}
IsTrue job es o (Puts ls) = Unit {0}
IsTrue job es o (Begins ls) = Unit {0}
IsTrue job es o Forgets = Unit {0}

-- an order about no attempt
about-none : (job : Job) (es : List Entry) (o : Order) → ((a : Attempt) → IsAbout o a → ⊥) → (d : Decision) → IsTrue job es o d
about-none job es o h (Ends end) = λ a st about e. absurd (h a about)
about-none job es o h (Publishes end) = tt
about-none job es o h (HandsIn a) = tt
about-none job es o h (Puts ls) = tt
about-none job es o h (Begins ls) = tt
about-none job es o h Forgets = tt

-- one about this attempt
abbrev IsOf : Order → Attempt → Type 0
IsOf o a = (b : Attempt) → IsAbout o b → a ≡ b

true-end : (job : Job) (es : List Entry) (o : Order) (a : Attempt) → IsOf o a → (b : Bool) → IsTrue job es o (cond b (Publishes (outcome.Stands (standing job (lines_of es) a))) (Ends (outcome.Stands (standing job (lines_of es) a))))
true-end job es o a of true = tt
true-end job es o a of false = λ b st about e.
    let same : standing job (lines_of es) a ≡ st = one (standing job (lines_of es) a) st e in
    ap (λ (x : Attempt). standing job (lines_of es) x) (sym (of b about)) ∙ same
  where
    one : (x y : Standing) → outcome.Stands x ≡ outcome.Stands y → x ≡ y
    one x y e = cc

true-of : (job : Job) (es : List Entry) (o : Order) (a : Attempt) (d : Decision) → IsOf o a → IsTrue job es o d → IsTrue job es o (of_attempt job (lines_of es) a d)
true-of job es o a d of t = by (is_under_way (standing job (lines_of es) a))
  where
    by : (b : Bool) → IsTrue job es o (cond b d (ends job (lines_of es) (outcome.Stands (standing job (lines_of es) a))))
    by true = t
    by false = true-end job es o a of (is_publishable job (lines_of es) && not (is_published (lines_of es)))

no-standing : (x : Outcome) (st : Standing) → x ≡ outcome.OtherBoot → x ≡ outcome.Stands st → ⊥
no-standing x st e f = absurd (cc)

true-hands : (job : Job) (host : Host) (es : List Entry) (o : Order) (a : Attempt) → IsTrue job es o (hands_in job host es a)
true-hands job host es o a = by (is_this host (begun_in es a))
  where
    by : (b : Bool) → IsTrue job es o (cond b (HandsIn a) (Ends outcome.OtherBoot))
    by true = tt
    by false = λ b st about e. absurd (no-standing outcome.OtherBoot st refl e)

decided-true : (o : Order) (job : Job) (host : Host) (es : List Entry) → IsTrue job es o (decided o job host es)
unfolding decided
decided-true (order.Done a) job host es = true-of job es (order.Done a) a (hands_in job host es a) (λ b e. e) (true-hands job host es (order.Done a) a)
decided-true (order.Fail a) job host es = true-of job es (order.Fail a) a (Puts (failing job (lines_of es) (a ∷ []))) (λ b e. e) tt
decided-true (order.Ask a) job host es = true-end job es (order.Ask a) a (λ b e. e) false
decided-true (order.FailTask n) job host es = about-none job es (order.FailTask n) (λ a e. e) (decided (order.FailTask n) job host es)
decided-true order.FailAll job host es = about-none job es order.FailAll (λ a e. e) (decided order.FailAll job host es)
decided-true order.Resume job host es = about-none job es order.Resume (λ a e. e) (decided order.Resume job host es)
decided-true order.Abort job host es = about-none job es order.Abort (λ a e. e) (decided order.Abort job host es)
decided-true order.Publish job host es = about-none job es order.Publish (λ a e. e) (decided order.Publish job host es)
decided-true order.Forget job host es = about-none job es order.Forget (λ a e. e) (decided order.Forget job host es)
decided-true order.StartNext job host es = about-none job es order.StartNext (λ a e. e) (decided order.StartNext job host es)
decided-true order.StartAll job host es = about-none job es order.StartAll (λ a e. e) (decided order.StartAll job host es)
decided-true (order.StartAt n) job host es = about-none job es (order.StartAt n) (λ a e. e) (decided (order.StartAt n) job host es)
decided-true (order.StartOver n) job host es = about-none job es (order.StartOver n) (λ a e. e) (decided (order.StartOver n) job host es)

concluded-true : (x : Conclusion) (a : Attempt) (job : Job) (es : List Entry) → IsTrue job es (order.Done a) (concluded x a job es)
unfolding concluded
concluded-true x a job es = true-of job es (order.Done a) a (Puts (conclusion job (lines_of es) a x)) (λ b e. e) tt

decision-true : (x : Option Conclusion) (o : Order) (job : Job) (host : Host) (es : List Entry) → IsTrue job es o (decision_of x o job host es)
decision-true None o job host es = decided-true o job host es
decision-true (Some x) (order.Done a) job host es = concluded-true x a job es
decision-true (Some x) o job host es = decided-true o job host es

-- ---- where it is then

-- a standing by which an attempt's work is removed
empties-at : (job : Job) (durable all : List Entry) (q : Order) (es : List Entry) (own : Entry) (begun : List Attempt) (a : Attempt) (p o : Outcome) → IsSo job durable q o
    → ((st : Standing) → p ≡ outcome.Stands st → IsLost st → Permits job durable (call.Empty a)) → At job durable all q es own begun (stage (empties a p o))
empties-at job durable all q es own begun a (outcome.Stands stands.Beaten) o so h = (so, h stands.Beaten refl tt)
empties-at job durable all q es own begun a (outcome.Stands stands.GivenUp) o so h = (so, h stands.GivenUp refl tt)
empties-at job durable all q es own begun a (outcome.Stands stands.JobOver) o so h = (so, h stands.JobOver refl tt)
empties-at job durable all q es own begun a _ o so h = so

ends-at : (job : Job) (durable all : List Entry) (q : Order) (es : List Entry) (own : Entry) (begun : List Attempt) (o : Outcome) → IsFront es durable → IsTrue job es q (Ends o) → IsSo job durable q o
    → At job durable all q es own begun (stage (clears q (is_published (lines_of es)) o))
ends-at job durable all q es own begun o k t so = by (is_published (lines_of es)) refl q t so
  where
    lost : (r : Order) (a : Attempt) → IsTrue job es r (Ends o) → IsAbout r a → (st : Standing) → o ≡ outcome.Stands st → IsLost st → Permits job durable (call.Empty a)
    lost r a t about st e l = record { by = es; front = k; allows = subst IsLost (sym (t a st about e)) l }

    ups : (r : Order) → IsTrue job es r (Ends o) → IsSo job durable r o → At job durable all r es own begun (stage (clears_up r o))
    ups (order.Done a) t so = empties-at job durable all (order.Done a) es own begun a o o so (lost (order.Done a) a t refl)
    ups (order.Fail a) t so = empties-at job durable all (order.Fail a) es own begun a o o so (lost (order.Fail a) a t refl)
    ups _ t so = so

    by : (p : Bool) → is_published (lines_of es) ≡ p → (r : Order) → IsTrue job es r (Ends o) → IsSo job durable r o → At job durable all r es own begun (stage (clears r p o))
    by p e (order.Ask a) t so = so
    by true e r t so = (so, record { by = es; front = k; allows = e })
    by false e r t so = ups r t so

plain-so : (job : Job) (durable : List Entry) (o : Order) (end : Outcome) → is_plain end ≡ true → IsSo job durable o end
plain-so job durable o end p = record {
  stands = λ a st about e. absurd (true≢false (sym p ∙ ap is_plain e));
  begun = λ a e. absurd (true≢false (sym p ∙ ap is_plain e));
}

pub over-amid : (s : Setting) (v : Place → Moments) (durable all : List Entry) (c : Command) (o : Outcome) → Fits s durable v c.job c.host c.origin c.amiss c.is_shown → is_plain o ≡ true → Amid s v durable all (turns.over o c)
over-amid s v durable all c o f p = record { fits = f; here = plain-so c.job durable c.order o p; sees = tt }

-- a command that knows that the job may be published
abbrev pub IsShowing : List Entry → Command → Type 0
IsShowing durable c = IsFront c.entries durable × (is_publishable c.job (lines_of c.entries) ≡ true)

pub publishes-amid : (s : Setting) (v : Place → Moments) (durable all : List Entry) (ws : List Win) (c : Command) → Fits s durable v c.job c.host c.origin c.amiss c.is_shown → IsShowing durable c → Publishing s durable v ws → Amid s v durable all (publishes ws c)
publishes-amid s v durable all [] c f k h = record { fits = f; here = k; sees = inl (refl, h.to_show) }
publishes-amid s v durable all (w ∷ ws) c f k h = by w.handed refl
  where
    by : (x : Handed) → w.handed ≡ x → Amid s v durable all (publishes_one x w (record c { left = ws }))
    by (handed.File file bytes) e = record { fits = f; here = k; sees = (h, progress-file s v w file bytes e) }
    by (handed.Folder bytes) e = record { fits = f; here = k; sees = (h, (bytes, e)) }

-- however it ends, it publishes nothing
sees-clears : (s : Setting) (durable : List Entry) (v : Place → Moments) (lines : List Line) (left : List Win) (todo : List Step) (q : Order) (b : Bool) (o : Outcome) → SeesAt s durable v lines left todo (clears q b o)
sees-clears s durable v lines left todo q b o = by q b
  where
    emptied : (a : Attempt) (p : Outcome) → SeesAt s durable v lines left todo (empties a p o)
    emptied a (outcome.Stands stands.Beaten) = tt
    emptied a (outcome.Stands stands.GivenUp) = tt
    emptied a (outcome.Stands stands.JobOver) = tt
    emptied a _ = tt

    ups : (r : Order) → SeesAt s durable v lines left todo (clears_up r o)
    ups (order.Done a) = emptied a o
    ups (order.Fail a) = emptied a o
    ups _ = tt

    by : (r : Order) (b : Bool) → SeesAt s durable v lines left todo (clears r b o)
    by (order.Ask a) b = tt
    by r true = tt
    by r false = ups r

-- it may put what it decided to put
abbrev MayPut : Command → Decision → Type 0
MayPut c d = (ls : List Line) → IsPutBy d ls → IsDecided c.job c.entries (record { lines = ls; origin = c.origin })

acts-amid : (s : Setting) (v : Place → Moments) (durable all : List Entry) (c : Command) (d : Decision) → Fits s durable v c.job c.host c.origin c.amiss c.is_shown → IsFront c.entries durable → IsTrue c.job c.entries c.order d → IsFair c.job (lines_of c.entries) d → PutsMute d → MayPut c d
    → Amid s v durable all (acts d c)
unfolding acts
acts-amid s v durable all c (Ends o) f k t fair mute m =
    let so : IsSo c.job durable c.order o = record { stands = λ a st about e. record { by = c.entries; front = k; stands = t a st about e }; begun = λ a e. absurd (true≢false (sym fair ∙ ap starts_none e)) } in
    record { fits = f; here = ends-at c.job durable all c.order c.entries (own_entry c) c.begun o k t so; sees = sees-clears s durable v c.lines c.left c.todo c.order (is_published (lines_of c.entries)) o }
acts-amid s v durable all c (Publishes o) f k t fair mute m = by c.amiss f.amiss
  where
    all-of : (b : Bool) → c.is_shown ≡ b → Amid s v durable all (cond b (puts (line.Published ∷ []) c) (publishes (wins c.job c.entries c.job.tasks) c))
    all-of true e = record { fits = f; here = (k, m (line.Published ∷ []) refl); sees = inr (f.visible e) }
    all-of false e =
        let P : Job → Type 0 = λ j. is_publishable j (lines_of c.entries) ≡ true in
        let Q : Job → Type 0 = λ j. ToShow s durable v (wins j c.entries j.tasks) in
        publishes-amid s v durable all (wins c.job c.entries c.job.tasks) c f (k, fair)
        (record { to_show = subst Q (sym f.job) (to-show-all s durable c.entries v k (subst P f.job fair)); wins = are-wins-all c.job durable c.entries k })

    by : (x : Option Outcome) → IsPlain x → Amid s v durable all (publishes_unless x c)
    by None p = all-of c.is_shown refl
    by (Some end) p = over-amid s v durable all c end f p
acts-amid s v durable all c (HandsIn a) f k t fair mute m = by c.amiss f.amiss
  where
    by : (x : Option Outcome) → IsPlain x → Amid s v durable all (turns.hands_in x a c)
    by None p = record { fits = f; here = k; sees = tt }
    by (Some end) p = over-amid s v durable all c end f p
acts-amid s v durable all c (Puts ls) f k t fair mute m = record { fits = f; here = (k, m ls refl); sees = inl mute }
acts-amid s v durable all c (Begins ls) f k t fair mute m = record { fits = f; here = (k, m ls refl); sees = inl mute }
acts-amid s v durable all c Forgets f k t fair mute m = record { fits = f; here = (k, fair); sees = tt }

pub decides-amid : (s : Setting) (v : Place → Moments) (durable all : List Entry) (c : Command) → Fits s durable v c.job c.host c.origin c.amiss c.is_shown → IsFront c.entries durable → Amid s v durable all (decides c)
decides-amid s v durable all c f k =
    acts-amid s v durable all c (decision_of c.conclusion c.order c.job c.host c.entries) f k (decision-true c.conclusion c.order c.job c.host c.entries) (fair-decision c.conclusion c.order c.job c.host c.entries) (mute-decision c.conclusion c.order c.job c.host c.entries)
    (λ ls p. record { order = c.order; host = c.host; conclusion = c.conclusion; boot = f.boot; put = p })
