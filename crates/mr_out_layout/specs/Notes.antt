-- The note of an end that is durable: words with a blank between them. Our own.
use Rattle.std.specs.Prelude.{◌≡◌, ℕ, List, ◌++◌, codes}
use Rattle.mr_ids.specs.Text.{numeral}

-- the boot; the numbers of the disk and of the file, and its length, each of as many digits; when it was changed
pub record IsNoteOf (boot : List ℕ) (len : ℕ) (text : List ℕ) : Type 0 where
  pub disk : ℕ
  pub file : ℕ
  pub changed : List ℕ
  pub is : text ≡ boot ++ (codes " " ++ (numeral 20 disk ++ (codes " " ++ (numeral 20 file ++ (codes " " ++ (numeral 20 len ++ (codes " " ++ changed)))))))

-- that of an end of which nothing is known
abbrev pub unknown_note : List ℕ → List ℕ
unknown_note boot = boot ++ codes " 00000000000000000000 00000000000000000000 00000000000000000000 00000000000000000000 000000000\n"
