-- What holds of the order of scripts.
use Rattle.std.specs.Prelude.{◌≡◌, true, false, List, ◌++◌, length, ◌⊎◌}
use Rattle.mr_world_events.specs.declared.event.Event.{Event}
use Rattle.mr_script_order.specs.Order.{numbers, sooner}

-- It is a strict order of all scripts, in which no two are level: no script comes before itself, and of two that differ one comes before the other.
pub record IsOrderOfScripts : Type 0 where
  pub never_itself : (a : List Event) → sooner a a ≡ false
  pub onward : (a b c : List Event) → sooner a b ≡ true → sooner b c ≡ true → sooner a c ≡ true
  pub total : (a b : List Event) → (sooner a b ≡ true) ⊎ ((a ≡ b) ⊎ (sooner b a ≡ true))

-- It stays where both go on by as many events, and it is that of what comes behind a front of both.
pub record StaysBehind : Type 0 where
  pub behind : (a b xs ys : List Event) → length xs ≡ length ys → sooner a b ≡ true → sooner (a ++ xs) (b ++ ys) ≡ true
  pub front : (front a b : List Event) → sooner (front ++ a) (front ++ b) ≡ sooner a b

-- No two events have the same numbers.
abbrev pub NumbersTell : Type 0
NumbersTell = (a b : Event) → numbers a ≡ numbers b → a ≡ b
