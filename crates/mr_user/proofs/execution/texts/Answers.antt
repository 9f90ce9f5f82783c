use Rattle.std.proofs.Common.{ap, map, Vec, Global, ℕ}
use Rattle.std.specs.List.{flat_map}
use Rattle.mr_user.specs.Computation.{computation}
use Rattle.mr_user.specs.Sequential.{key_lines}
use Rattle.mr_user.proofs.Lending.{lent_more, lent_all}
use Rattle.mr_user.proofs.execution.texts.Goals as goal

pub loop-part-init : goal.loop-part-init
loop-part-init g c = ap (map (λ (file : Vec ℕ Global). file.items)) c.new-files.ensures.items

pub loop-part-preserved : goal.loop-part-preserved
loop-part-preserved g c =
    let all = computation g.J.Key.Ord.cmp g.J.Key.Wire.codec g.J.Value.Wire.codec g.J.Job.functions in
    lent_more (λ (file : Vec ℕ Global). file.items) (flat_map (key_lines all)) c.loop-part.files.items c.push.new.self.items c.in_ok-text.field-0 c.args.parts.now
    c.loop-part.part-index c.part-item.result c.loop-part-test.true c.part-item.is c.loop-part.invariant c.in_ok-push.ensures.items c.in_ok-text.ensures

pub returns : goal.returns
returns g c =
    let all = computation g.J.Key.Ord.cmp g.J.Key.Wire.codec g.J.Value.Wire.codec g.J.Job.functions in
    lent_all (λ (file : Vec ℕ Global). file.items) (flat_map (key_lines all)) c.loop-part.files.items c.args.parts.now c.loop-part.part-index c.loop-part-test.false c.loop-part.invariant
