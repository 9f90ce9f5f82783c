use Rattle.std.proofs.Common.{◌∙◌, map, sym, ap, Global, Vec}
use Rattle.mr_user.proofs.Putting.{put_there, put_new}
use Rattle.mr_user.proofs.gathering.put.Goals as goal

pub returns-in-Some : goal.returns-in-Some
returns-in-Some g c =
    ap (map (λ (g' : g.row.K.Denot × Vec g.row.V.Denot Global). (g'.0, g'.1.items))) (c.get_mut.follows.holds c.push.new.self).0
    ∙ put_there g.K.Ord.cmp g.met.K.Ord.total (λ (vs : Vec g.row.V.Denot Global). vs.items) c.args.groups.now.entries c.args.key c.in-Some.values.now c.push.new.self c.args.value c.get_mut.ensures.ordered (sym c.in-Some.ensures.value) c.in_ok-push.ensures.items

pub returns : goal.returns
returns g c =
    ap (map (λ (g' : g.row.K.Denot × Vec g.row.V.Denot Global). (g'.0, g'.1.items))) (rw c.get_mut.follows.holds-at-none at c.in_ok-insert.ensures.entries)
    ∙ put_new g.K.Ord.cmp g.met.K.Ord.total (λ (vs : Vec g.row.V.Denot Global). vs.items) c.args.groups.now.entries c.args.key c.in_ok-one.field-0 c.args.value (sym c.in_default.ensures.value) c.in_ok-one.ensures
