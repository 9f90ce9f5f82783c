use Rattle.std.proofs.Common.{◌∙◌, ◌++◌, ◌∷◌, [], Bor, List, Vec, Global, map, sym, ap}
use Rattle.std.proofs.lemmas.List.{flat_map_more, map-append}
use Rattle.std.proofs.lemmas.Iterator.Consumers.{YieldsList-end, YieldsList-from_rest}
use Rattle.std.specs.List.{flat_map}
use Rattle.std.specs.Map.Iter.{deref_pair}
use Rattle.mr_user.specs.Computation.{computation}
use Rattle.mr_user.specs.Sequential.{key_lines}
use Rattle.mr_user.proofs.Rising.{map-map}
use Rattle.mr_user.proofs.gathering.Gathered.text.Goals as goal

pub loop-key-preserved : goal.loop-key-preserved
loop-key-preserved g c =
    let all = computation g.J.Key.Ord.cmp g.J.Key.Wire.codec g.J.Value.Wire.codec g.J.Job.functions in
    let view : Bor g.row.J-Key.Denot × Bor (Vec g.row.J-Value.Denot Global) → g.row.J-Key.Denot × List g.row.J-Value.Denot = λ group. (group.0.now, group.1.now.items) in
    c.in_ok-write_lines.ensures
    ∙ ap (λ w. c.loop-key.text.items ++ key_lines all (c.in-Some.key.now, w)) c.deref.ensures.value
    ∙ ap (λ w. w ++ key_lines all (c.in-Some.key.now, c.in-Some.values.now.items)) c.loop-key.invariant
    ∙ flat_map_more (key_lines all) [] (map view c.loop-key.yielded) (c.in-Some.key.now, c.in-Some.values.now.items)
    ∙ ap (flat_map (key_lines all)) (sym (map-append view c.loop-key.yielded ((c.in-Some.key, c.in-Some.values) ∷ [])))

pub returns : goal.returns
returns g c =
    let all = computation g.J.Key.Ord.cmp g.J.Key.Wire.codec g.J.Value.Wire.codec g.J.Job.functions in
    let gives = c.into_iter-key-iterator.ensures.into_iter_gives in
    let shown = (YieldsList-end (YieldsList-from_rest c.self.inside.groups.entries gives.0) c.loop-key.yielded c.loop-key.key-iterator c.loop-key.yielded_by c.next.result c.next.new.self c.in-None.is c.next.ensures.steps).0 in
    c.loop-key.invariant
    ∙ ap (flat_map (key_lines all))
    (sym (map-map deref_pair (λ (group : g.row.J-Key.Denot × Vec g.row.J-Value.Denot Global). (group.0, group.1.items)) c.loop-key.yielded)
    ∙ ap (map (λ (group : g.row.J-Key.Denot × Vec g.row.J-Value.Denot Global). (group.0, group.1.items))) shown
    ∙ c.self.view_is)
