-- What was found, as a call is told of it.
use Rattle.mr_explore_ends.specs.declared.text.Found as found
use Rattle.mr_explore_ends.specs.Text.{Found}

abbrev pub as_found : found.Found → Found
as_found f = record { table = f.table.now; faults = f.faults; whole = f.whole }
