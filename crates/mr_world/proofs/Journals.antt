-- What a world's journal says, as events are added to it.
use Rattle.std.proofs.Common.{◌≡◌, suc, ◌<◌, refl, sym, ◌∙◌, ap, subst, Bool, true, false, List, [], ◌∷◌, ◌++◌, Option, Some, None, if◌then◌else◌, inl, inr, nat_lt, length, length-append, append_assoc, append-nil, arith, take, drop, get_or, Result, Err, IsErrAnd}
use Rattle.std.proofs.lemmas.Bool.{and_parts, lt-ltb}
use Rattle.std.proofs.Math.Seq.{split_at}
use Rattle.std.proofs.lemmas.Result.{err_from_is_err_and}
use Rattle.mr_world_model.specs.Packets.{Config}
use Rattle.mr_world_model.specs.World.{World, Event, opening_world}
use Rattle.mr_world_model.specs.Effect.{not_now, effect, happens, run, Why}
use Rattle.mr_world_model.specs.Sequential.{is_taken}
use Rattle.mr_world_model.proofs.Basic.{run-append}
use Rattle.mr_world_state.specs.declared.fault.WorldFault.{WorldFault}
use Rattle.mr_world_state.specs.declared.fault.WorldFault.TheVariants as fault
use Rattle.mr_world.specs.declared.limits.TheConstants.{MAX_EVENTS}
use Rattle.mr_world_state.specs.declared.parts.Parts.{Parts}
use Rattle.mr_world.specs.declared.took.Took.{Took}
use Rattle.mr_world.specs.Histories.{change_of, changed, history_of, opening_history}
use Rattle.mr_world_state.specs.Limits.{within}
use Rattle.mr_world_state.specs.Standing.{Standing, IsTaken, Refuses}
use Rattle.mr_world.specs.Journal.{Journal, Keeps, run_of, world_in, if_taken, taken, fits, fits_first}
use Rattle.mr_world.specs.Applying.{CanHappen, IsRefused, Takes, AllFit, Ran, StopsAt, Runs, Counts}
use Rattle.mr_world.proofs.Histories.{history-one}

-- ---- an event that is taken, and one that is not

is-taken : (cfg : Config) (w : World) (e : Event) → IsTaken cfg w e → is_taken cfg (within cfg) w e ≡ true
is-taken cfg w e t = rw (t.now, t.fits) refl

happens-by : (cfg : Config) (w : World) (e : Event) (b : Bool) → is_taken cfg (within cfg) w e ≡ b → happens cfg (within cfg) w e ≡ (if b then effect cfg w e else w)
unfolding happens
happens-by cfg w e b is = rw is refl

pub if-taken : (cfg : Config) (w : World) (e : Event) → IsTaken cfg w e → if_taken cfg w e ≡ e ∷ []
if-taken cfg w e t = rw (is-taken cfg w e t) refl

pub happens-taken : (cfg : Config) (w : World) (e : Event) → IsTaken cfg w e → happens cfg (within cfg) w e ≡ effect cfg w e
happens-taken cfg w e t = happens-by cfg w e true (is-taken cfg w e t)

not-taken : (cfg : Config) (w : World) (e : Event) (why : Why) → not_now cfg w e ≡ Some why → is_taken cfg (within cfg) w e ≡ false
not-taken cfg w e why now = rw now refl

if-not : (cfg : Config) (w : World) (e : Event) (why : Why) → not_now cfg w e ≡ Some why → if_taken cfg w e ≡ []
if-not cfg w e why now = rw (not-taken cfg w e why now) refl

happens-not : (cfg : Config) (w : World) (e : Event) (why : Why) → not_now cfg w e ≡ Some why → happens cfg (within cfg) w e ≡ w
happens-not cfg w e why now = happens-by cfg w e false (not-taken cfg w e why now)

-- ---- lists of events

pub run-one : (cfg : Config) (es : List Event) (e : Event) → run_of cfg (es ++ e ∷ []) ≡ happens cfg (within cfg) (run_of cfg es) e
unfolding run
run-one cfg es e = run-append cfg (within cfg) opening_world es (e ∷ [])

pub taken-append : (cfg : Config) (w : World) (es fs : List Event) → taken cfg w (es ++ fs) ≡ taken cfg w es ++ taken cfg (run cfg (within cfg) w es) fs
unfolding run
taken-append cfg w [] fs = refl
taken-append cfg w (e ∷ es) fs = ap (λ gs. if_taken cfg w e ++ gs) (taken-append cfg (happens cfg (within cfg) w e) es fs) ∙ sym (append_assoc (if_taken cfg w e) _ _)

-- the events of a journal, and one more that is taken
pub taken-one : (cfg : Config) (es : List Event) (e : Event) → taken cfg opening_world es ≡ es → IsTaken cfg (run_of cfg es) e → taken cfg opening_world (es ++ e ∷ []) ≡ es ++ e ∷ []
taken-one cfg es e is t = taken-append cfg opening_world es (e ∷ []) ∙ (ap (λ fs. fs ++ (if_taken cfg (run_of cfg es) e ++ [])) is ∙ ap (λ fs. es ++ (fs ++ [])) (if-taken cfg (run_of cfg es) e t))

-- ---- the invariant

pub keeps-none : (p : Parts) → Standing p opening_world → p.history ≡ opening_history → Keeps p []
unfolding run
keeps-none p s opens = record { stands = s; taken = refl; history = opens; few = omega arith }

pub keeps-one : (p q : Parts) (es : List Event) (e : Event) → Keeps p es → q.config ≡ p.config → IsTaken p.config (run_of p.config es) e → length es < MAX_EVENTS
    → Standing q (effect p.config (run_of p.config es) e) → q.history ≡ changed p.history (change_of p.config (run_of p.config es) e) → Keeps q (es ++ e ∷ [])
keeps-one p q es e k same t few s left = record {
  stands = subst (λ cfg. Standing q (run_of cfg (es ++ e ∷ []))) (sym same) (subst (Standing q) (sym (run-one p.config es e ∙ happens-taken p.config (run_of p.config es) e t)) s);
  taken = subst (λ cfg. taken cfg opening_world (es ++ e ∷ []) ≡ es ++ e ∷ []) (sym same) (taken-one p.config es e k.taken t);
  history = subst (λ cfg. q.history ≡ history_of cfg (es ++ e ∷ [])) (sym same)
      (left ∙ (ap (λ h. changed h (change_of p.config (run_of p.config es) e)) k.history ∙ sym (history-one p.config es e)));
  few = omega (arith, length-append es (e ∷ []), few);
}

-- ---- one event more

abbrev pub journal_of : Parts → List Event → Journal
journal_of p es = record { config = p.config; events = es }

pub can-happen : (p : Parts) (es : List Event) (e : Event) → IsTaken p.config (run_of p.config es) e → length es < MAX_EVENTS → CanHappen (journal_of p es) e
can-happen p es e t few = record { now = t.now; fits = rw (lt-ltb (length es) MAX_EVENTS few) t.fits }

pub takes : (p q : Parts) (es : List Event) (e : Event) (took : Took) → q.config ≡ p.config → IsTaken p.config (run_of p.config es) e → length es < MAX_EVENTS
    → Counts p (run_of p.config es) e took → Takes (journal_of p es) e took (journal_of q (es ++ e ∷ []))
takes p q es e took same t few counts = record {
  could = can-happen p es e t few;
  journal = ap (λ (cfg : Config). record { config = cfg; events = es ++ e ∷ [] }) same;
  effect = subst (λ cfg. run_of cfg (es ++ e ∷ []) ≡ effect p.config (run_of p.config es) e) (sym same) (run-one p.config es e ∙ happens-taken p.config (run_of p.config es) e t);
  first = counts.first;
  count = counts.count;
}

-- a reason is the one of the definitions
pub refused-now : (o : Option Why) (fits counted : Bool) (why : Why) → Refuses o fits counted (fault.NotNow why) → o ≡ Some why
refused-now (Some x) fits counted why r = cc
refused-now None true counted why r = absurd (cc r)
refused-now None false false why r = absurd (cc r)
refused-now None false true why (inl e) = absurd (cc e)
refused-now None false true why (inr e) = absurd (cc e)

-- any other fault answers an event that is permitted
pub permitted-by : (o : Option Why) (fits counted : Bool) (f : WorldFault) → ((why : Why) → f ≡ fault.NotNow why → ⊥) → Refuses o fits counted f → o ≡ None
permitted-by (Some x) fits counted f other r = absurd (other x r)
permitted-by None fits counted f other r = refl

-- ---- events in turn

-- where nothing was taken
pub ran-passed : (j : Journal) (e : Event) (why : Why) → not_now j.config (world_in j) e ≡ Some why → Ran j (e ∷ []) j
ran-passed j e why now = record {
  fits = (λ none. cc (now, none), tt);
  journal = ap (λ (es : List Event). record { config = j.config; events = es }) (sym (ap (λ fs. j.events ++ (fs ++ [])) (if-not j.config (world_in j) e why now) ∙ append-nil j.events));
  world = sym (run-one j.config j.events e ∙ happens-not j.config (world_in j) e why now);
}

permits : (j : Journal) (e : Event) → CanHappen j e → IsTaken j.config (world_in j) e
permits j e c = record { now = c.now; fits = (and_parts (nat_lt (length j.events) MAX_EVENTS) (within j.config (world_in j) e) c.fits).1 }

pub ran-taken : (old new : Journal) (e : Event) (took : Took) → Takes old e took new → Ran old (e ∷ []) new
ran-taken old new e took t = let taken-now = permits old e t.could in record {
  fits = (λ none. taken-now.fits, tt);
  journal = t.journal ∙ ap (λ (fs : List Event). record { config = old.config; events = old.events ++ (fs ++ []) }) (sym (if-taken old.config (world_in old) e taken-now));
  world = t.effect ∙ sym (run-one old.config old.events e ∙ happens-taken old.config (world_in old) e taken-now);
}

runs-on : (cfg : Config) (es fs : List Event) → run cfg (within cfg) (run_of cfg es) fs ≡ run_of cfg (es ++ fs)
runs-on cfg es fs = sym (run-append cfg (within cfg) opening_world es fs)

-- the same world, by one journal or by another
same-after : (cfg : Config) (es gs fs : List Event) → run_of cfg es ≡ run_of cfg gs → run_of cfg (es ++ fs) ≡ run_of cfg (gs ++ fs)
same-after cfg es gs fs same = sym (runs-on cfg es fs) ∙ (ap (λ w. run cfg (within cfg) w fs) same ∙ runs-on cfg gs fs)

all-fit : (cfg : Config) (w : World) (es fs : List Event) → AllFit cfg w es → AllFit cfg (run cfg (within cfg) w es) fs → AllFit cfg w (es ++ fs)
unfolding run
all-fit cfg w [] fs p q = q
all-fit cfg w (e ∷ es) fs p q = (p.0, all-fit cfg (happens cfg (within cfg) w e) es fs p.1 q)

ran-both : (a c : Journal) (es fs : List Event) → AllFit a.config (world_in a) es → (let b : Journal = record { config = a.config; events = a.events ++ taken a.config (world_in a) es } in (world_in b ≡ run_of a.config (a.events ++ es)) → Ran b fs c → Ran a (es ++ fs) c)
ran-both a c es fs fit same r = record {
  fits = all-fit a.config (world_in a) es fs fit (subst (λ w. AllFit a.config w fs) (same ∙ sym (runs-on a.config a.events es)) r.fits);
  journal = r.journal ∙ ap (λ (gs : List Event). record { config = a.config; events = gs }) (append_assoc a.events (taken a.config (world_in a) es) _ ∙ ap (λ gs. a.events ++ gs) (sym all));
  world = r.world ∙ (same-after a.config (a.events ++ taken a.config (world_in a) es) (a.events ++ es) fs same ∙ ap (run_of a.config) (append_assoc a.events es fs));
}
  where
    all : taken a.config (world_in a) (es ++ fs) ≡ taken a.config (world_in a) es ++ taken a.config (run_of a.config (a.events ++ taken a.config (world_in a) es)) fs
    all = taken-append a.config (world_in a) es fs ∙ ap (λ w. taken a.config (world_in a) es ++ taken a.config w fs) (runs-on a.config a.events es ∙ sym same)

pub ran-append : (a b c : Journal) (es fs : List Event) → Ran a es b → Ran b fs c → Ran a (es ++ fs) c
ran-append a b c es fs r q = subst (λ (m : Journal). (world_in m ≡ run_of a.config (a.events ++ es)) → Ran m fs c → Ran a (es ++ fs) c) (sym r.journal) (ran-both a c es fs r.fits) r.world q

-- those before an event that is refused
pub stops-at : (old mid new : Journal) (es before after : List Event) (e : Event) (f : WorldFault) → Ran old before mid → es ≡ before ++ e ∷ after
    → (not_now mid.config (world_in mid) e ≡ None) × IsRefused mid e f × (new ≡ mid) → StopsAt old es f new
stops-at old mid new es before after e f r are p = subst (StopsAt old es f) (sym p.2) (record { before = before; event = e; after = after; are = are; ran = r; now = p.0; refused = p.1 })

-- a list of which these were handed over, and now this one
pub split-by : (all xs : List Event) (e : Event) → xs ≡ take (length xs) all → (length xs < length all) × (e ≡ get_or all (length xs) e) → all ≡ xs ++ e ∷ drop (suc (length xs)) all
split-by all xs e front turn = split_at all (length xs) e turn.0 ∙ (ap (λ ys. ys ++ get_or all (length xs) e ∷ drop (suc (length xs)) all) (sym front) ∙ ap (λ x. xs ++ x ∷ drop (suc (length xs)) all) (sym turn.1))

-- what the exit of a `?` answers
pub stopped : {A : Type 0} (old mid new : Journal) (es before after : List Event) (e : Event) (f : WorldFault) (r : Result A WorldFault) → Ran old before mid → es ≡ before ++ e ∷ after
    → (not_now mid.config (world_in mid) e ≡ None) × IsRefused mid e f × (new ≡ mid) → IsErrAnd r (λ g. g ≡ f) → Runs old es r new
stopped {A} old mid new es before after e f r ran are p g = let z = err_from_is_err_and r g in
    subst (λ (y : Result A WorldFault). Runs {A = A} old es y new) (sym z.1) (subst (λ h. Runs {A = A} old es (Err h) new) (sym z.2) (stops-at old mid new es before after e f ran are p))

-- one that was not permitted was passed over
pub passed-over : (old new : Journal) (e : Event) (f : WorldFault) (why : Why) → f ≡ fault.NotNow why → IsRefused old e f × (new ≡ old) → Ran old (e ∷ []) new
passed-over old new e f why is p = subst (Ran old (e ∷ [])) (sym p.1) (ran-passed old e why (refused-now (not_now old.config (world_in old) e) (fits old e) (fits_first old e) why (subst (IsRefused old e) is p.0)))

passes-not : (old new : Journal) (e : Event) (f : WorldFault) → ((why : Why) → f ≡ fault.NotNow why → ⊥) → IsRefused old e f × (new ≡ old) → (not_now old.config (world_in old) e ≡ None) × IsRefused old e f × (new ≡ old)
passes-not old new e f other p = (permitted-by (not_now old.config (world_in old) e) (fits old e) (fits_first old e) f other p.0, p.0, p.1)

pub passes-full : (old new : Journal) (e : Event) (f : WorldFault) → f ≡ fault.Full → IsRefused old e f × (new ≡ old) → (not_now old.config (world_in old) e ≡ None) × IsRefused old e fault.Full × (new ≡ old)
passes-full old new e f is p = passes-not old new e fault.Full (λ why x. cc x) (subst (λ g. IsRefused old e g × (new ≡ old)) is p)

pub passes-memory : (old new : Journal) (e : Event) (f : WorldFault) → f ≡ fault.NoMemory → IsRefused old e f × (new ≡ old) → (not_now old.config (world_in old) e ≡ None) × IsRefused old e fault.NoMemory × (new ≡ old)
passes-memory old new e f is p = passes-not old new e fault.NoMemory (λ why x. cc x) (subst (λ g. IsRefused old e g × (new ≡ old)) is p)
