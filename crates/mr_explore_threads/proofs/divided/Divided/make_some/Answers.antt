use Rattle.std.proofs.Common.{◌≤◌, refl, sym, ap, ◌∙◌, arith}
use Rattle.std.specs.Option.{option_map}
use Rattle.mr_explore_search.specs.Parting.{whole}
use Rattle.mr_explore.specs.Exploring.{Remaining}
use Rattle.mr_explore_threads.proofs.Advancing.{advances_as}
use Rattle.mr_explore_threads.proofs.divided.Divided.make_some.Goals as goal

pub returns-in_ok-take_all-in-Ok-count_by_threads-clause-advances : goal.returns-in_ok-take_all-in-Ok-count_by_threads-clause-advances
returns-in_ok-take_all-in-Ok-count_by_threads-clause-advances g c =
    let less : c.saturating_sub-left.result ≤ c.args.most = let is = c.saturating_sub-left.ensures in omega (arith, is) in
    advances_as c.args.most (option_map (λ g'. g'.now) c.args.goal) c.args.self.now _ (whole c.divide.new.self) (whole c.take_all.new.parts) c.self.inside.table c.take_all.new.table
    (sym (ap (λ (x : Remaining). x.left) c.self.view_is) ∙ sym c.in-Ok.ensures.same) (sym (ap (λ (x : Remaining). x.table) c.self.view_is)) refl refl (ap (λ (x : Remaining). x.faults) c.self.view_is)
    (c.in_ok-take_all-in-Ok-count_by_threads.ensures c.saturating_sub-left.result (option_map (λ g'. g'.now) c.args.goal) less c.in-Ok-count_by_threads.ensures.counted)
