use Rattle.std.proofs.Common.{◌∙◌, sym, refl, rules}
use Rattle.mr_ids.proofs.Fields.{no_number}
use Rattle.mr_ids.proofs.reading.number_in.Goals as goal

pub returns-in-Err : goal.returns-in-Err
returns-in-Err c =
    let none = no_number c.args.field.now c.args.most c.in-Err.field-0 c.in-Err.ensures.value.0 (sym c.is_digits.ensures ∙ c.if-not-is_digits.false) (search rules) in
    rw none refl
