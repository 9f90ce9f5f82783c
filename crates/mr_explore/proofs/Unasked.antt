-- Where the last packets do not only ask, nobody waits.
use Rattle.std.proofs.Common.{◌≡◌, ◌≤◌, ◌<◌, ◌-◌, ◌&&◌, ℕ, zero, suc, Bool, true, false, List, [], ◌∷◌, length, drop, refl, sym, ◌∙◌, arith}
use Rattle.std.specs.Prelude.{if◌then◌else◌, nat_lt}
use Rattle.std.specs.List.{list_all}
use Rattle.std.proofs.lemmas.Bool.{and_parts, le-ltb, ltb-false, ltb-true, true≢false}
use Rattle.mr_packet.specs.declared.packet.ContainerId.{ContainerId}
use Rattle.mr_world_model.specs.Packets.{Config, Envelope}
use Rattle.mr_world_model.specs.World.{World}
use Rattle.mr_explore.specs.Vain.{all_wait, asked_last, asks_in, most_packets, waits}

-- what all are, those behind some of them are
all-behind : {A : Type 0} (p : A → Bool) (i : ℕ) (xs : List A) → list_all p xs ≡ true → list_all p (drop i xs) ≡ true
all-behind p zero xs e = e
all-behind p (suc i) [] e = refl
all-behind p (suc i) (x ∷ xs) e = all-behind p i xs (and_parts (p x) (list_all p xs) e).1

-- so where not all of the last ones are, not all of more of them are
not-all : {A : Type 0} (p : A → Bool) (xs : List A) (i j : ℕ) → j ≤ i → list_all p (drop i xs) ≡ false → list_all p (drop j xs) ≡ false
not-all p xs i zero le e = by (list_all p xs) refl where
  by : (b : Bool) → list_all p xs ≡ b → list_all p xs ≡ false
  by false is = is
  by true is = absurd (true≢false (sym (all-behind p i xs is) ∙ e))
not-all p [] zero (suc j) le e = e
not-all p [] (suc i) (suc j) le e = e
not-all p (x ∷ xs) zero (suc j) le e = absurd (omega (arith, le))
not-all p (x ∷ xs) (suc i) (suc j) le e = not-all p xs i j (omega (arith, le)) e

if-not : (b x : Bool) → (b ≡ false → x ≡ false) → (if b then false else x) ≡ false
if-not true x h = refl
if-not false x h = h refl

else-not : (b x : Bool) → b ≡ false → (if b then false else x) ≡ false → x ≡ false
else-not true x is e = absurd (true≢false is)
else-not false x is e = e

none-asked : (m n : ℕ) (bag : List Envelope) → m ≤ n → asked_last m bag ≡ false → asked_last n bag ≡ false
none-asked m n bag le e = if-not (nat_lt (length bag) n) (list_all asks_in (drop (length bag - n) bag)) (λ few. let there = ltb-false (length bag) n few in not-all asks_in bag (length bag - m) (length bag - n) (omega (arith, le, there)) (behind there)) where
  behind : n ≤ length bag → list_all asks_in (drop (length bag - m) bag) ≡ false
  behind there = else-not (nat_lt (length bag) m) (list_all asks_in (drop (length bag - m) bag)) (le-ltb (length bag) m (omega (arith, le, there))) e

and-not : (a b c d : Bool) → (a ≡ true → b ≡ false) → ((a && (b && c)) && d) ≡ false
and-not false b c d h = refl
and-not true true c d h = absurd (true≢false (h refl))
and-not true false c d h = refl

-- whoever lives and waits has asked, and was answered no twice
pub nobody_waits : (cfg : Config) (w : World) (cs : List ContainerId) (more : Bool) → asked_last 4 w.bag ≡ false → (all_wait cfg w cs && more) ≡ false
nobody_waits cfg w cs more e = and-not (nat_lt 0 (length cs)) (asked_last (most_packets cs) w.bag) (list_all (waits cfg w) cs) more (λ some. none-asked 4 (most_packets cs) w.bag (one (ltb-true 0 (length cs) some)) e) where
  one : 0 < length cs → 4 ≤ most_packets cs
  one l = omega (arith, l)
