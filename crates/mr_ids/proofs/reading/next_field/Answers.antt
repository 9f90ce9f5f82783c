use Rattle.std.proofs.Common.{arith}
use Rattle.mr_ids.proofs.Fields.{one_field, last_field}
use Rattle.mr_ids.proofs.reading.next_field.Goals as goal

pub returns-in-Some : goal.returns-in-Some
returns-in-Some c = one_field c.args.rest c.in_ok-text.text c.in-Some.field.now c.in-Some.after.now c.in_ok-text.was (c.in-Some.ensures.byte (omega arith) (λ w o f. f))

pub returns-in-None : goal.returns-in-None
returns-in-None c = last_field c.args.rest c.in_ok-text.text c.in_ok-text.was (c.in-None.ensures.byte (omega arith) (λ w o f. f))
