use Rattle.std.proofs.Common.{◌∙◌, sym, refl}
use Rattle.mr_user.specs.Computation.{computation}
use Rattle.mr_mapside.proofs.RunFronts.{adds_one}
use Rattle.mr_mapside.proofs.merging.add_front.Goals as goal

pub returns-in_ok-push-in-Ok : goal.returns-in_ok-push-in-Ok
returns-in_ok-push-in-Ok g c =
    adds_one (computation g.J.Key.Ord.cmp g.J.Key.Wire.codec g.J.Value.Wire.codec g.J.Job.functions) c.args.list c.args.bytes.now (record { key = c.in-Ok.pair.0; list = c.args.list; value = c.in-Ok.pair.1; len = c.in-Ok.len }) _ _
    (sym c.is_empty.ensures ∙ c.if-is_empty.false) refl c.in-Ok.ensures.read c.in_ok-push-in-Ok.ensures.permutation c.in_ok-push-in-Ok.ensures.heap_order
