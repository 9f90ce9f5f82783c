use Rattle.std.proofs.Common.{refl}
use Rattle.mr_ids.proofs.Numerals.{spelled_at_width, spelled_past_width}
use Rattle.mr_out_layout.proofs.names.is_spelled.Goals as goal

pub returns-then-bytes-width : goal.returns-then-bytes-width
returns-then-bytes-width c = spelled_at_width c.args.width c.args.bytes.now c.args.bytes.now refl c.requires.digits c.if-bytes-width.true

pub returns-then-bytes-width-2 : goal.returns-then-bytes-width-2
returns-then-bytes-width-2 c = spelled_past_width c.args.width c.args.bytes.now c.args.bytes.now refl c.requires.digits c.if-bytes-width-2.true
