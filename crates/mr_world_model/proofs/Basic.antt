-- Cases on an event that may not be taken, and lists that only grow.
use Rattle.std.proofs.Common.{◌≡◌, refl, sym, ◌∙◌, ap, Bool, true, false, ◌&&◌, ◌||◌, List, [], ◌∷◌, ◌++◌, Option, Some, None, if◌then◌else◌, is_none, ◌⊎◌, inl, inr, append_assoc, append-nil}
use Rattle.std.proofs.lemmas.Bool.{and_parts}
use Rattle.mr_world_model.specs.Ids.{Attempt, TaskId, task_eq}
use Rattle.mr_world_model.specs.Records.{Record, winner_in, ReduceSucceeded, AttemptStarted, MapSucceeded, AttemptFailed, JobUnsuccessful}
use Rattle.mr_world_model.specs.Packets.{Config}
use Rattle.mr_world_model.specs.World.{World, Event}
use Rattle.mr_world_model.specs.Effect.{happens, effect, not_now, Why, unless, run}
use Rattle.mr_world_model.specs.Claims.{Limits}

pub if_cases : {A : Type 0} (P : A → Type 0) (b : Bool) (x y : A) → (b ≡ true → P x) → (b ≡ false → P y) → P (if b then x else y)
if_cases P true x y p q = p refl
if_cases P false x y p q = q refl

pub is_none-eq : {A : Type 0} (o : Option A) → is_none o ≡ true → o ≡ None
is_none-eq None e = refl
is_none-eq (Some a) e = cc

-- what holds before an event, and after it where it is taken, holds after it
pub taken_or_not : (P : World → Type 0) (cfg : Config) (within : Limits) (w : World) (e : Event) →
    P w → (not_now cfg w e ≡ None → P (effect cfg w e)) → P (happens cfg within w e)
unfolding happens
taken_or_not P cfg within w e p q =
    if_cases P (is_none (not_now cfg w e) && within w e) (effect cfg w e) w
    (λ t. q (is_none-eq (not_now cfg w e) (and_parts _ _ t).0)) (λ f. p)

-- what holds at the start and is kept by each event holds after every list of events
pub along : (P : World → Type 0) (cfg : Config) (within : Limits) →
    ((w : World) (e : Event) → P w → not_now cfg w e ≡ None → P (effect cfg w e)) →
    (w : World) (es : List Event) → P w → P (run cfg within w es)
unfolding run
along P cfg within kept w [] p = p
along P cfg within kept w (e ∷ es) p = along P cfg within kept (happens cfg within w e) es (taken_or_not P cfg within w e p (kept w e p))

pub run-append : (cfg : Config) (within : Limits) (w : World) (es fs : List Event) →
    run cfg within w (es ++ fs) ≡ run cfg within (run cfg within w es) fs
unfolding run
run-append cfg within w [] fs = refl
run-append cfg within w (e ∷ es) fs = run-append cfg within (happens cfg within w e) es fs

pub record Extends {A : Type 0} (old new : List A) : Type 0 where
  pub rest : List A
  pub is : old ++ rest ≡ new

pub Extends-refl : {A : Type 0} (l : List A) → Extends l l
Extends-refl l = record { rest = []; is = append-nil l }

pub Extends-trans : {A : Type 0} {a b c : List A} → Extends a b → Extends b c → Extends a c
Extends-trans {a} {b} {c} p q = record { rest = p.rest ++ q.rest; is = sym (append_assoc a p.rest q.rest) ∙ (ap (λ x. x ++ q.rest) p.is ∙ q.is) }

pub Extends-more : {A : Type 0} (a b : List A) → Extends a (a ++ b)
Extends-more a b = record { rest = b; is = refl }

else_more : (c : Bool) (a : Attempt) (u v : Option Attempt) (x : Attempt) → (u ≡ Some x → v ≡ Some x) →
    (if c then Some a else u) ≡ Some x → (if c then Some a else v) ≡ Some x
else_more true a u v x f e = e
else_more false a u v x f e = f e

pub winner-append : (a b : List Record) (t : TaskId) (x : Attempt) → winner_in a t ≡ Some x → winner_in (a ++ b) t ≡ Some x
unfolding winner_in
winner-append [] b t x e = cc
winner-append (ReduceSucceeded a z ∷ rs) b t x e = else_more (task_eq a.task t) a _ _ x (winner-append rs b t x) e
winner-append (AttemptStarted a n ∷ rs) b t x e = winner-append rs b t x e
winner-append (MapSucceeded a n i ∷ rs) b t x e = winner-append rs b t x e
winner-append (AttemptFailed a ∷ rs) b t x e = winner-append rs b t x e
winner-append (JobUnsuccessful ∷ rs) b t x e = winner-append rs b t x e

pub winner-extends : {a b : List Record} (t : TaskId) (x : Attempt) → Extends a b → winner_in a t ≡ Some x → winner_in b t ≡ Some x
winner-extends {a} {b} t x p e = rw (← p.is) (winner-append a p.rest t x e)

pub unless_parts : (b : Bool) (why : Why) (rest : Option Why) → unless b why rest ≡ None → (b ≡ true) × (rest ≡ None)
unless_parts true why rest e = (refl, e)
unless_parts false why rest e = cc

pub or_parts : (b c : Bool) → (b || c) ≡ true → (b ≡ true) ⊎ (c ≡ true)
or_parts true c e = inl refl
or_parts false c e = inr e
