-- Numbers in decimal have neither a space nor a full stop, and are ASCII.
use Rattle.std.proofs.Common.{◌<◌, ◌^◌, ℕ, List, [], ◌∷◌, ◌++◌, sym, arith}
use Rattle.std.specs.Prelude.{decimal}
use Rattle.std.specs.Char.{digit_value}
use Rattle.std.specs.Str.Parse.{AllDigits}
use Rattle.std.proofs.lemmas.Fmt.{decimal_is_IsNumeral}
use Rattle.mr_ids.specs.declared.id.TaskKind.{TaskKind}
use Rattle.mr_ids.specs.declared.id.TaskKind.TheVariants.{Map, Reduce}
use Rattle.mr_packet.specs.declared.packet.ContainerId.{ContainerId}
use Rattle.mr_script.specs.Script.{IsGeneration, IsContainer}
use Rattle.mr_script.specs.Words.{container_word, kind_word}
use Rattle.mr_script.proofs.Words.{Lacks}

lacks : (b : ℕ) → (digit_value b < 10 → ⊥) → (ds : List ℕ) → AllDigits 10 ds → Lacks b ds
lacks b h [] g = tt
lacks b h (d ∷ ds) g = (λ e. h (rw (sym e) g.0), lacks b h ds g.1)

pub no-space : (n : ℕ) → n < 2 ^ 64 → Lacks 32 (decimal n)
no-space n h = lacks 32 (λ g. absurd (omega (arith, g))) (decimal n) (decimal_is_IsNumeral n h).0.1

pub no-stop : (n : ℕ) → n < 2 ^ 64 → Lacks 46 (decimal n)
no-stop n h = lacks 46 (λ g. absurd (omega (arith, g))) (decimal n) (decimal_is_IsNumeral n h).0.1

-- a generation is small
pub low : (k : ℕ) → IsGeneration k → k < 2 ^ 64
low k h = omega (arith, h.1)

joined : (b : ℕ) (xs ys : List ℕ) → Lacks b xs → Lacks b ys → Lacks b (xs ++ ys)
joined b [] ys g h = h
joined b (x ∷ xs) ys g h = (g.0, joined b xs ys g.1 h)

pub container-no-space : (d : ContainerId) → IsContainer d → Lacks 32 (container_word d)
container-no-space d h = joined 32 (decimal d.app) (46 ∷ decimal d.number) (no-space d.app (low d.app h.0)) ((λ e. absurd (cc e)), no-space d.number (omega (arith, h.1)))

pub kind-no-space : (k : TaskKind) → Lacks 32 (kind_word k)
kind-no-space Map = ((λ e. absurd (omega (arith, e))), tt)
kind-no-space Reduce = ((λ e. absurd (omega (arith, e))), tt)
