use Rattle.std.proofs.Common.{sym, ◌∙◌}
use Rattle.std.proofs.lemmas.Option.{slice_get_within}
use Rattle.mr_explore_search.proofs.turn.try_owed.Goals as goal

pub try_late-requires : goal.try_late-requires
try_late-requires g c = slice_get_within c.args.level.chances.owed c.args.place c.in-Some.fault (sym c.get.ensures ∙ c.in-Some.is)
