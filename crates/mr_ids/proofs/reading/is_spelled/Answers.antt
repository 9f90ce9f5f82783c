use Rattle.mr_ids.proofs.Numerals.{spelled_at_width, spelled_past_width}
use Rattle.mr_ids.proofs.reading.is_spelled.Goals as goal

pub returns-then-bytes-width : goal.returns-then-bytes-width
returns-then-bytes-width c = spelled_at_width c.args.width c.as_bytes-bytes.result.now c.args.field.now c.as_bytes-bytes.ensures.value c.requires.digits c.if-bytes-width.true

pub returns-then-bytes-width-2 : goal.returns-then-bytes-width-2
returns-then-bytes-width-2 c = spelled_past_width c.args.width c.as_bytes-bytes.result.now c.args.field.now c.as_bytes-bytes.ensures.value c.requires.digits c.if-bytes-width-2.true
