use Rattle.std.proofs.Common.{ap, sym, ◌∙◌, ◌++◌}
use Rattle.mr_ids.proofs.Shares.{grown}
use Rattle.mr_ids.proofs.share.Share.takes_in.Goals as goal

pub returns-then-follows-clause-taken : goal.returns-then-follows-clause-taken
returns-then-follows-clause-taken c =
    let s = c.self.inside in
    λ _. grown s.whole c.args.more.now s.start s.end c.self.invariant.0 (rw (← c.as_slice.ensures) (sym c.begins_with-follows.ensures ∙ c.if-follows.true))
    ∙ ap (λ l. l ++ c.args.more.now) c.self.view_is
