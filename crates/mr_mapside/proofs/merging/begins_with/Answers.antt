use Rattle.std.proofs.Common.{◌≡◌, ◌∙◌, ◌-◌, Bool, true, false, nat_eq, length, drop, get_or, ap, refl, arith}
use Rattle.std.specs.List.{starts_with}
use Rattle.std.proofs.lemmas.Bool.Decides.{Decides-eqb}
use Rattle.std.proofs.lemmas.List.{get_or_append_left}
use Rattle.std.proofs.lemmas.Slice.Eq.{starts_is}
use Rattle.mr_mapside.proofs.merging.begins_with.Goals as goal

-- bytes that begin with a name have its last byte where it stands
pub returns-then-bytes-len : goal.returns-then-bytes-len
returns-then-bytes-len c = by (starts_with nat_eq c.args.bytes.now c.args.name.now) refl
  where
    by : (b : Bool) → b ≡ starts_with nat_eq c.args.bytes.now c.args.name.now → false ≡ b
    by false e = refl
    by true e =
        let bytes = c.args.bytes.now in
        let name = c.args.name.now in
        let begins = (starts_is Decides-eqb bytes name true e).0 refl in
        let last : get_or bytes (length name - 1) 0 ≡ get_or name (length name - 1) 0 = ap (λ l. get_or l (length name - 1) 0) begins ∙ get_or_append_left name (drop (length name) bytes) 0 (length name - 1) (omega (arith, c.if-len-gt0.true)) in
        absurd (c.if-bytes-len.true last)
