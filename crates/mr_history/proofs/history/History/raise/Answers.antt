use Rattle.std.proofs.Common.{◌≡◌, ◌∙◌, List, [], ◌∷◌, ◌++◌, length, drop, map, ap, arith}
use Rattle.std.proofs.lemmas.List.{take_at}
use Rattle.mr_history.specs.State.{SegmentState}
use Rattle.mr_history.specs.Segment.{sealed}
use Rattle.mr_history.proofs.Stored.{raise_at}
use Rattle.mr_history.proofs.history.History.raise.Goals as goal

pub returns : goal.returns
returns c =
    let filled = c.fill.new.segments.items in
    let done = c.seal_all.new.segments in
    let slice = c.as_mut_slice.ensures.value in
    let whole : length filled ≡ c.fill.new.segments.len = let ok = c.fill.new.segments.ok in omega arith in
    let len : length done ≡ c.fill.new.segments.len = c.seal_all.ensures.count ∙ ap (length {A = SegmentState}) slice ∙ whole in
    let all = c.push_reserved.ensures.items ∙ ap (λ (l : List SegmentState). l ++ c.new.result ∷ []) (take_at done (drop (length done) filled) c.fill.new.segments.len len) in
    raise_at c.self.inside.segments.items c.args.self.now c.args.k c.args.kept c.args.version c.place.result filled done c.push_reserved.new.self.items c.new.result
    c.self.view_is c.place.ensures.place (omega arith) (omega arith) c.fill.ensures.filled (c.seal_all.ensures.sealed ∙ ap (map (sealed c.args.kept)) slice) c.new.ensures all
