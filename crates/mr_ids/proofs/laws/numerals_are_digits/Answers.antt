use Rattle.mr_ids.proofs.Numerals.{numeral_digits}
use Rattle.mr_ids.proofs.Texts.{le-length-numeral, length-numeral-le}
use Rattle.mr_ids.proofs.laws.numerals_are_digits.Goals as goal

pub returns : goal.returns
returns c = record {
  digits = numeral_digits;
  least = le-length-numeral;
  most = λ width n k wide fits small range. length-numeral-le k width n wide fits small range;
}
