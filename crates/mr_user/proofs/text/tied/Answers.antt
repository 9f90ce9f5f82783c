use Rattle.std.proofs.Common.{◌≡◌, ◌∙◌, refl, sym, ap, arith}
use Rattle.std.specs.Cmp.Lexicographic.{slice_cmp}
use Rattle.std.specs.Int.{w64, from_be_bytes}
use Rattle.std.specs.Ordering.{nat_cmp}
use Rattle.mr_user.proofs.Fronts.{fronts_same}
use Rattle.mr_user.proofs.text.tied.Goals as goal

pub returns-then-others-le-FRONT_LEN : goal.returns-then-others-le-FRONT_LEN
returns-then-others-le-FRONT_LEN c =
    let xs = c.as_slice-bytes.result.now in
    let ys = c.as_slice-others.result.now in
    let e = c.as_slice-bytes.ensures.value in
    let f = c.as_slice-others.ensures.value in
    let fronts : from_be_bytes w64 xs ≡ from_be_bytes w64 ys = ap (from_be_bytes w64) e ∙ c.requires ∙ sym (ap (from_be_bytes w64) f) in
    c.cmp.ensures
    ∙ sym (fronts_same xs ys (from_be_bytes w64 xs) (from_be_bytes w64 ys) c.known_bytes.ensures c.known_bytes-2.ensures refl refl fronts (omega (arith, c.if-bytes-le-FRONT_LEN.true)) (omega (arith, c.if-others-le-FRONT_LEN.true)))
    ∙ ap (λ xs. slice_cmp nat_cmp xs ys) e
    ∙ ap (slice_cmp nat_cmp c.args.text.now) f
