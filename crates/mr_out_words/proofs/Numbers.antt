-- How a number is read of its text.
use Rattle.std.proofs.Common.{ℕ, List, Option, Some, None, Result}
use Rattle.std.specs.Str.Parse.{ParsesUnsigned, ExplainsUnsignedError, HasUnsignedDigitsIfOk}
use Rattle.std.specs.declared.num.ParseIntError.{ParseIntError}
use Rattle.clap.specs.Words.{ReadsOne}
use Rattle.mr_out_words.specs.Asking.{IsToldBy}

pub told_so : (bits : ℕ) (text : List ℕ) (o : Option ℕ)
    → ReadsOne (λ (bs : List ℕ) (r : Result ℕ ParseIntError). ParsesUnsigned bits 10 bs r × ExplainsUnsignedError 10 bs r × HasUnsignedDigitsIfOk bs r) text o → IsToldBy bits text o
told_so bits text (Some n) h = h.0.1
told_so bits text None (e, h) = h.0
