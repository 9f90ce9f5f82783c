use Rattle.std.proofs.Common.{◌≤◌, ◌∙◌, ◌+◌, length, ap, arith, rules}
use Rattle.mr_history.specs.Segment.{sealed}
use Rattle.mr_history.proofs.Segments.{cut_inside, cut_view, cut_mark}
use Rattle.mr_history.proofs.segment.Segment.seal.Goals as goal

pub invariant_of-self : goal.invariant_of-self
invariant_of-self c =
    let s = c.self.inside in
    let p = cut_mark s.bytes.items c.truncate.new.self.items s.mark c.args.kept c.min.result c.len.result c.self.invariant.0 (search rules) c.min.ensures c.truncate.ensures.items in
    let end : s.mark + c.min.result ≤ length c.truncate.new.self.items = let e = p.1 in omega arith in
    (end, cut_inside s.version s.bytes.items c.truncate.new.self.items s.mark c.args.kept (s.mark + c.min.result) s.sealed c.if-self.false p.0 p.1 c.self.invariant.1)

pub returns : goal.returns
returns c =
    let s = c.self.inside in
    let p = cut_mark s.bytes.items c.truncate.new.self.items s.mark c.args.kept c.min.result c.len.result c.self.invariant.0 (search rules) c.min.ensures c.truncate.ensures.items in
    cut_view s.version s.bytes.items c.truncate.new.self.items s.mark c.args.kept (s.mark + c.min.result) s.sealed c.if-self.false p.0 p.1
    ∙ ap (sealed c.args.kept) c.self.view_is
