use Rattle.std.proofs.Common.{◌≡◌, ap, ap₂, sym, subst}
use Rattle.std.specs.FinSet as set
use Rattle.std.specs.Bool.{Decides}
use Rattle.mr_names.specs.Barred.{Barred}
use Rattle.mr_names.proofs.BarredSets.{same_attempts}
use Rattle.mr_names.proofs.barred.Barred.is_same.Goals as goal

pub returns : goal.returns
returns c =
    subst (λ (x : Barred). Decides c.eq.result (x ≡ c.args.other.now)) c.self.view_is
    (subst (λ (y : Barred). Decides c.eq.result (set.from_list c.self.inside.attempts.keys ≡ y)) c.other.view_is (same_attempts c.self.inside.attempts c.other.inside.attempts c.eq.result c.eq.ensures))
