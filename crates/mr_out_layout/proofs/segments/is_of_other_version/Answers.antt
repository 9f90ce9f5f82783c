use Rattle.mr_out_layout.proofs.Ends.{is_other, no_other}
use Rattle.mr_out_layout.proofs.segments.is_of_other_version.Goals as goal

pub returns-in-Some : goal.returns-in-Some
returns-in-Some c = is_other c.args.bytes.now c.in-Some.line.now _ c.is_text.result c.in-Some.ensures.some.0 c.in-Some.ensures.some.1 c.is_text.ensures.yes c.is_text.ensures.no

pub returns-in-None : goal.returns-in-None
returns-in-None c = no_other c.args.bytes.now c.in-None.ensures.none
