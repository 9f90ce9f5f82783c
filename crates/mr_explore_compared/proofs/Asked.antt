-- How many packets lie last that only ask, counted from the last on.
use Rattle.std.proofs.Common.{ℕ, zero, suc, ◌+◌, ◌<◌, ◌≡◌, refl, sym, ◌∙◌, ap, arith, Bool, true, false, ◌&&◌, true≢false, List, [], ◌∷◌, drop, length, get_or, if◌then◌else◌}
use Rattle.std.specs.List.{list_all}
use Rattle.mr_packet.specs.declared.packet.Envelope.{Envelope}
use Rattle.mr_explore.specs.Vain.{asks_in}
use Rattle.mr_explore_likeness.specs.Plays.{asking_last}

-- from this place on each only asks
abbrev pub AskFrom : List Envelope → ℕ → Type 0
AskFrom es from = list_all asks_in (drop from es) ≡ true

and-left : (b c : Bool) → (b && c) ≡ true → b ≡ true
and-left true c e = refl
and-left false c e = e

and-right : (b c : Bool) → (b && c) ≡ true → c ≡ true
and-right true c e = e
and-right false c e = absurd (true≢false (sym e))

-- none lies behind the last one
pub none-behind : (es : List Envelope) → AskFrom es (length es)
none-behind [] = refl
none-behind (x ∷ es) = none-behind es

-- one more
pub one-more : (es : List Envelope) (place : ℕ) (e : Envelope) → place < length es → e ≡ get_or es place e → asks_in e ≡ true → AskFrom es (suc place) → AskFrom es place
one-more [] place e less is asks all = absurd (omega (arith, less))
one-more (x ∷ es) zero e less is asks all = ap (λ b. b && list_all asks_in es) (ap asks_in (sym is) ∙ asks) ∙ all
one-more (x ∷ es) (suc place) e less is asks all = one-more es place e (omega (arith, less)) is asks all

-- one that does not ask lies among them
not-all : (es : List Envelope) (place : ℕ) (e : Envelope) → place < length es → e ≡ get_or es place e → asks_in e ≡ false → list_all asks_in es ≡ false
not-all [] place e less is asks = absurd (omega (arith, less))
not-all (x ∷ es) zero e less is asks = ap (λ b. b && list_all asks_in es) (ap asks_in (sym is) ∙ asks)
not-all (x ∷ es) (suc place) e less is asks = ap (λ b. asks_in x && b) (not-all es place e (omega (arith, less)) is asks) ∙ none (asks_in x)
  where
    none : (b : Bool) → (b && false) ≡ false
    none true = refl
    none false = refl

-- so many lie behind the last one that does not ask
pub counted : (es : List Envelope) (place n : ℕ) (e : Envelope) → suc place + n ≡ length es → e ≡ get_or es place e → asks_in e ≡ false → AskFrom es (suc place) → n ≡ asking_last es
counted [] place n e many is asks all = absurd (omega (arith, many))
counted (x ∷ es) zero n e many is asks all =
    let behind : n ≡ length es = omega (arith, many) in
    behind ∙ sym (ap (λ b. if b then (if asks_in x then suc (length es) else length es) else asking_last es) all ∙ ap (λ b. if b then suc (length es) else length es) (ap asks_in (sym is) ∙ asks))
counted (x ∷ es) (suc place) n e many is asks all =
    counted es place n e (omega (arith, many)) is asks all ∙ sym (ap (λ b. if b then (if asks_in x then suc (length es) else length es) else asking_last es) (not-all es place e (omega (arith, many)) is asks))

-- all ask
pub all-ask : (es : List Envelope) → AskFrom es 0 → length es ≡ asking_last es
all-ask [] all = refl
all-ask (x ∷ es) all =
    sym (ap (λ b. if b then (if asks_in x then suc (length es) else length es) else asking_last es) (and-right (asks_in x) (list_all asks_in es) all) ∙ ap (λ b. if b then suc (length es) else length es) (and-left (asks_in x) (list_all asks_in es) all))
