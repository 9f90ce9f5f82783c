use Rattle.std.proofs.Common.{◌≡◌, rules}
use Rattle.mr_names.proofs.Comparing.{content_tells}
use Rattle.mr_names.proofs.namespace.Namespace.is_same.Goals as goal

pub returns : goal.returns
returns c =
    let s = c.self.inside in
    let t = c.other.inside in
    let fence : s.fence ≡ t.fence = search rules in
    let barred : s.barred ≡ t.barred = search rules in
    content_tells s.tree t.tree s.fence t.fence s.barred t.barred c.args.self.now c.args.other.now c.in_ok-same.same fence barred c.self.view_is c.other.view_is c.in_ok-same.ensures
