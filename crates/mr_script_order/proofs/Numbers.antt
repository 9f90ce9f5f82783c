-- The numbers of events: they tell which event it is, and they are compared in two parts.
use Rattle.std.proofs.Common.{◌≡◌, ℕ, zero, suc, ◌==◌, List, [], ◌∷◌, drop, length, if◌then◌else◌, refl, sym, ap, ◌∙◌}
use Rattle.std.proofs.lemmas.Cmp.{lists_total, nat_cmp_total, tied_itself}
use Rattle.std.specs.Cmp.Lexicographic.{slice_cmp}
use Rattle.std.specs.Ordering.{nat_cmp, ordering_then}
use Rattle.std.specs.declared.cmp.Ordering.{Ordering}
use Rattle.std.specs.declared.cmp.Ordering.TheVariants.{Less, Equal, Greater}
use Rattle.mr_ids.specs.declared.id.TaskKind.{TaskKind}
use Rattle.mr_ids.specs.declared.id.TaskKind.TheVariants as kind
use Rattle.mr_world_events.specs.declared.event.Event.{Event}
use Rattle.mr_world_events.specs.declared.event.Event.TheVariants.{Start, Crash, Duty, LaunchOn, Deliver, ContainerStep, Computed, Die, NodeRestart, Expire}
use Rattle.mr_world_events.specs.declared.event.Weather.{Weather}
use Rattle.mr_world_events.specs.declared.event.Weather.TheVariants.{Calm, Unavailable, Unanswered}
use Rattle.mr_script_order.specs.Laws.{NumbersTell}
use Rattle.mr_script_order.specs.Order.{kind_number, numbers, weather_number}
use Rattle.mr_script_order.specs.inner.Words.{bytes_of, words}

-- ---- which event it is

abbrev nth : List ℕ → ℕ → ℕ
nth [] n = 0
nth (x ∷ xs) zero = x
nth (x ∷ xs) (suc n) = nth xs n

abbrev weather_of : ℕ → Weather
weather_of n = if n == 0 then Unavailable else if n == 1 then Unanswered else Calm

abbrev kind_of : ℕ → TaskKind
kind_of n = if n == 0 then kind.Map else kind.Reduce

abbrev event_of : List ℕ → Event
event_of ns =
    if nth ns 0 == 0 then Crash (nth ns 1) (nth ns 2)
    else if nth ns 0 == 1 then Start (nth ns 1) (nth ns 2)
    else if nth ns 0 == 2 then Die (record { app = nth ns 1; number = nth ns 2 })
    else if nth ns 0 == 3 then NodeRestart (nth ns 1)
    else if nth ns 0 == 4 then Expire (nth ns 1) (nth ns 2)
    else if nth ns 0 == 5 then LaunchOn (nth ns 1) (record { job = record { start = nth ns 2; number = nth ns 3 }; kind = kind_of (nth ns 4); number = nth ns 5 }) (nth ns 6)
    else if nth ns 0 == 6 then Deliver (nth ns 1)
    else if nth ns 0 == 7 then Duty (nth ns 1) (weather_of (nth ns 2))
    else if nth ns 0 == 8 then ContainerStep (record { app = nth ns 1; number = nth ns 2 }) (weather_of (nth ns 3))
    else Computed (record { app = nth ns 1; number = nth ns 2 }) (drop 4 ns)

same_weather : (w : Weather) → weather_of (weather_number w) ≡ w
same_weather Unavailable = refl
same_weather Unanswered = refl
same_weather Calm = refl

same_kind : (k : TaskKind) → kind_of (kind_number k) ≡ k
same_kind kind.Map = refl
same_kind kind.Reduce = refl

same_event : (e : Event) → event_of (numbers e) ≡ e
same_event (Start generation kept) = refl
same_event (Crash generation kept) = refl
same_event (Duty generation weather) = ap (Duty generation) (same_weather weather)
same_event (LaunchOn generation task node) = ap (λ k. LaunchOn generation (record { job = task.job; kind = k; number = task.number }) node) (same_kind task.kind)
same_event (Deliver packet) = refl
same_event (ContainerStep c weather) = ap (ContainerStep c) (same_weather weather)
same_event (Computed c bytes) = refl
same_event (Die c) = refl
same_event (NodeRestart node) = refl
same_event (Expire generation node) = refl

pub numbers_tell : NumbersTell
numbers_tell a b h = sym (same_event a) ∙ (ap event_of h ∙ same_event b)

-- ---- compared in two parts

before_equal : (o : Ordering) → o ≡ ordering_then o Equal
before_equal Less = refl
before_equal Equal = refl
before_equal Greater = refl

behind_three : (a b c d : Ordering) → ordering_then a (ordering_then b (ordering_then c d)) ≡ ordering_then (ordering_then a (ordering_then b (ordering_then c Equal))) d
behind_three Less b c d = refl
behind_three Greater b c d = refl
behind_three Equal Less c d = refl
behind_three Equal Greater c d = refl
behind_three Equal Equal Less d = refl
behind_three Equal Equal Greater d = refl
behind_three Equal Equal Equal d = refl

-- what the words leave open, the computed bytes decide
pub by_words : (a b : Event) → slice_cmp nat_cmp (numbers a) (numbers b) ≡ ordering_then (slice_cmp nat_cmp (words a) (words b)) (slice_cmp nat_cmp (bytes_of a) (bytes_of b))
by_words (Start g k) (Start h l) = before_equal _
by_words (Start g k) _ = refl
by_words (Crash g k) (Crash h l) = before_equal _
by_words (Crash g k) _ = refl
by_words (Duty g w) (Duty h v) = before_equal _
by_words (Duty g w) _ = refl
by_words (LaunchOn g t n) (LaunchOn h u m) = before_equal _
by_words (LaunchOn g t n) _ = refl
by_words (Deliver p) (Deliver q) = before_equal _
by_words (Deliver p) _ = refl
by_words (ContainerStep c w) (ContainerStep d v) = before_equal _
by_words (ContainerStep c w) _ = refl
by_words (Computed c xs) (Computed d ys) = behind_three (nat_cmp c.app d.app) (nat_cmp c.number d.number) (nat_cmp (length xs) (length ys)) (slice_cmp nat_cmp xs ys)
by_words (Computed c xs) _ = refl
by_words (Die c) (Die d) = before_equal _
by_words (Die c) _ = refl
by_words (NodeRestart n) (NodeRestart m) = before_equal _
by_words (NodeRestart n) _ = refl
by_words (Expire g n) (Expire h m) = before_equal _
by_words (Expire g n) _ = refl

-- of two that are equal neither comes first
pub equal_are_level : (a b : Event) → a ≡ b → Equal ≡ slice_cmp nat_cmp (numbers a) (numbers b)
equal_are_level a b same = sym (tied_itself (lists_total nat_cmp_total) (numbers a)) ∙ ap (λ e. slice_cmp nat_cmp (numbers a) (numbers e)) same
