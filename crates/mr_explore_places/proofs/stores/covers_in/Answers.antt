use Rattle.mr_explore_places.proofs.stores.covers_in.Goals as goal

pub returns-then-branch-clause-stands : goal.returns-then-branch-clause-stands
returns-then-branch-clause-stands g c = λ _. c.in_ok-covers_among.ensures.stands c.if-branch.true
