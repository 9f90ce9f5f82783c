-- The order of tasks is what `cmp` goes by.
use Rattle.std.proofs.Common.{◌≡◌, ℕ, Bool, true, false, ◌&&◌, cond, nat_eq, nat_lt, Ordering, Less, Equal, Greater, nat_cmp, is_lt, refl, sym, ap, ◌∙◌, true≢false}
use Rattle.std.specs.Ordering.{ordering_then, ordering_reverse}
use Rattle.std.specs.Cmp.{IsTotalOrder}
use Rattle.std.proofs.lemmas.Cmp.{tied_itself}
use Rattle.mr_ids.specs.Same.{same_task, same_kind}
use Rattle.mr_ids.specs.declared.id.TaskId.{TaskId}
use Rattle.mr_ids.specs.declared.id.TaskKind.{TaskKind}
use Rattle.mr_ids.specs.declared.id.TaskKind.TheVariants.{Map, Reduce}
use Rattle.mr_ids.specs.contracts.id.TaskKindOrd.TheImpl as kind_ord
use Rattle.mr_ids.specs.contracts.id.TaskIdOrd.TheImpl.Laws.{total-law}
use Rattle.mr_ids.proofs.Same.{task-is}
use Rattle.mr_recover.specs.Plan.{before, then_by, kind_before}
use Rattle.mr_recover.specs.inner.Placing.{task_cmp}

abbrev kind_cmp : TaskKind → TaskKind → Ordering
kind_cmp = (kind_ord.ghosts).cmp

regrouped : (a b c : Ordering) → ordering_then (ordering_then a b) c ≡ ordering_then a (ordering_then b c)
regrouped Less b c = refl
regrouped Equal b c = refl
regrouped Greater b c = refl

by-number : (m n : ℕ) (o : Ordering) → is_lt (ordering_then (nat_cmp m n) o) ≡ then_by (nat_lt m n) (nat_eq m n) (is_lt o)
by-number m n o = by (nat_lt m n) (nat_eq m n)
  where
    by : (b c : Bool) → is_lt (ordering_then (cond b Less (cond c Equal Greater)) o) ≡ then_by b c (is_lt o)
    by true c = refl
    by false true = refl
    by false false = refl

last-number : (m n : ℕ) → is_lt (nat_cmp m n) ≡ nat_lt m n
last-number m n = by (nat_lt m n) (nat_eq m n)
  where
    by : (b c : Bool) → is_lt (cond b Less (cond c Equal Greater)) ≡ b
    by true c = refl
    by false true = refl
    by false false = refl

by-kind : (j k : TaskKind) (o : Ordering) → is_lt (ordering_then (kind_cmp j k) o) ≡ then_by (kind_before j k) (same_kind j k) (is_lt o)
by-kind Map Map o = refl
by-kind Map Reduce o = refl
by-kind Reduce Map o = refl
by-kind Reduce Reduce o = refl

less-is : (t u : TaskId) → is_lt (task_cmp t u) ≡ before t u
less-is t u =
    let number = nat_cmp t.number u.number in
    let kind = ordering_then (kind_cmp t.kind u.kind) number in
    ap is_lt (regrouped (nat_cmp t.job.start u.job.start) (nat_cmp t.job.number u.job.number) kind)
    ∙ by-number t.job.start u.job.start (ordering_then (nat_cmp t.job.number u.job.number) kind)
    ∙ ap (λ b. then_by (nat_lt t.job.start u.job.start) (nat_eq t.job.start u.job.start) b) (
    by-number t.job.number u.job.number kind
    ∙ ap (λ b. then_by (nat_lt t.job.number u.job.number) (nat_eq t.job.number u.job.number) b) (
    by-kind t.kind u.kind number
    ∙ ap (λ b. then_by (kind_before t.kind u.kind) (same_kind t.kind u.kind) b) (last-number t.number u.number)))

pub order : IsTotalOrder task_cmp
order = total-law

pub less : (t u : TaskId) → task_cmp t u ≡ Less → before t u ≡ true
less t u e = sym (less-is t u) ∙ ap is_lt e

pub greater : (t u : TaskId) → task_cmp t u ≡ Greater → before u t ≡ true
greater t u e = less u t (order.antisymm u t ∙ ap ordering_reverse e)

then-equal : (a b : Ordering) → ordering_then a b ≡ Equal → (a ≡ Equal) × (b ≡ Equal)
then-equal Less b e = absurd (cc)
then-equal Equal b e = (refl, e)
then-equal Greater b e = absurd (cc)

equal-numbers : (m n : ℕ) → nat_cmp m n ≡ Equal → nat_eq m n ≡ true
equal-numbers m n = by (nat_lt m n) (nat_eq m n)
  where
    by : (b c : Bool) → cond b Less (cond c Equal Greater) ≡ Equal → c ≡ true
    by true c e = absurd (cc)
    by false true e = refl
    by false false e = absurd (cc)

equal-kinds : (j k : TaskKind) → kind_cmp j k ≡ Equal → same_kind j k ≡ true
equal-kinds Map Map e = refl
equal-kinds Map Reduce e = absurd (cc)
equal-kinds Reduce Map e = absurd (cc)
equal-kinds Reduce Reduce e = refl

all-true : (a b c d : Bool) → a ≡ true → b ≡ true → c ≡ true → d ≡ true → (a && b && c && d) ≡ true
all-true a b c d e f g h = λ i. e i && f i && g i && h i

pub equal : (t u : TaskId) → task_cmp t u ≡ Equal → same_task t u ≡ true
equal t u e =
    let halves = then-equal _ _ e in
    let job = then-equal _ _ halves.0 in
    let rest = then-equal _ _ halves.1 in
    all-true _ _ _ _
    (equal-numbers t.job.start u.job.start job.0)
    (equal-numbers t.job.number u.job.number job.1)
    (equal-kinds t.kind u.kind rest.0)
    (equal-numbers t.number u.number rest.1)

-- of two tasks one comes before the other, or they are one
pub total : (t u : TaskId) → before t u ≡ false → before u t ≡ false → same_task t u ≡ true
total t u e f = by (task_cmp t u) refl
  where
    by : (o : Ordering) → task_cmp t u ≡ o → same_task t u ≡ true
    by Less q = absurd (true≢false (sym (less t u q) ∙ e))
    by Equal q = equal t u q
    by Greater q = absurd (true≢false (sym (greater t u q) ∙ f))

-- no task comes before itself
never-itself : (t : TaskId) → before t t ≡ false
never-itself t = sym (less-is t t) ∙ ap is_lt (tied_itself order t)

pub apart : (t u : TaskId) → before t u ≡ true → same_task t u ≡ false
apart t u e = by (same_task t u) refl
  where
    by : (b : Bool) → same_task t u ≡ b → b ≡ false
    by true q = absurd (true≢false (sym e ∙ ap (λ (v : TaskId). before v u) (task-is t u q) ∙ never-itself u))
    by false q = refl

pub apart-back : (t u : TaskId) → before u t ≡ true → same_task t u ≡ false
apart-back t u e = by (same_task t u) refl
  where
    by : (b : Bool) → same_task t u ≡ b → b ≡ false
    by true q = absurd (true≢false (sym e ∙ ap (λ (v : TaskId). before u v) (task-is t u q) ∙ never-itself u))
    by false q = refl

pub not-back : (t u : TaskId) → before t u ≡ true → is_lt (task_cmp u t) ≡ false
not-back t u e = ap is_lt (order.antisymm u t) ∙ by (task_cmp t u) (less-is t u ∙ e)
  where
    by : (o : Ordering) → is_lt o ≡ true → is_lt (ordering_reverse o) ≡ false
    by Less q = refl
    by Equal q = refl
    by Greater q = absurd (true≢false (sym q))

-- no two tasks come before one another
pub not-yet : (t u : TaskId) → before u t ≡ true → before t u ≡ false
not-yet t u e = sym (less-is t u) ∙ not-back u t e
