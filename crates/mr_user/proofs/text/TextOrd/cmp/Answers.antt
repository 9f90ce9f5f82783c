use Rattle.std.proofs.Common.{◌≡◌, ◌∙◌, List, ℕ, subst}
use Rattle.std.specs.Int.{w64, from_be_bytes}
use Rattle.mr_user.specs.Laws.{AreBytes}
use Rattle.mr_user.proofs.Fronts.{fronts_apart}
use Rattle.mr_user.proofs.text.TextOrd.cmp.Goals as goal

pub returns : goal.returns
returns c =
    let front = subst (λ (t : List ℕ). c.self.inside.front ≡ from_be_bytes w64 t) c.self.view_is c.self.invariant.1 in
    let other_front = subst (λ (t : List ℕ). c.other.inside.front ≡ from_be_bytes w64 t) c.other.view_is c.other.invariant.1 in
    let bytes = subst AreBytes c.as_slice.ensures.value c.known_bytes.ensures in
    let others = subst AreBytes c.as_slice-2.ensures.value c.known_bytes-2.ensures in
    c.cmp.ensures ∙ fronts_apart c.args.self.now c.args.other.now c.self.inside.front c.other.inside.front bytes others front other_front c.if-self-other.false
