use Rattle.std.proofs.Common.{arith}
use Rattle.mr_call_words.proofs.Sayable.{small}
use Rattle.mr_call_words.proofs.word.fits.Goals as goal

pub returns : goal.returns
returns c = small c.args.bytes.now (λ i. omega (arith, c.type_inv.bytes i))
