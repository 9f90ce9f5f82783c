use Rattle.std.proofs.Common.{subst, List, ℕ}
use Rattle.mr_user.specs.Laws.{AreBytes}
use Rattle.mr_user.specs.inner.CodecProofs.{text_fits}
use Rattle.mr_user.proofs.text.TextWire.fits.Goals as goal

pub returns : goal.returns
returns c = text_fits c.args.self.now c.as_slice.ensures.short (subst (λ (bytes : List ℕ). AreBytes bytes) c.as_slice.ensures.value c.known_bytes.ensures)
