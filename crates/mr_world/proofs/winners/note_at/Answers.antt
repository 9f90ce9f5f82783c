use Rattle.std.proofs.Common.{refl, sym, ◌∙◌}
use Rattle.mr_world.proofs.Noting.{noted, not-noted}
use Rattle.mr_world.proofs.winners.note_at.Goals as goal

pub returns-then-not-is_free : goal.returns-then-not-is_free
returns-then-not-is_free c = not-noted c.args.all.now c.args.number c.args.attempt (sym c.is_free.ensures ∙ c.if-not-is_free.true)

pub returns : goal.returns
returns c = noted c.args.all.now _ c.args.number c.args.attempt (sym c.is_free.ensures ∙ c.if-not-is_free.false) refl
