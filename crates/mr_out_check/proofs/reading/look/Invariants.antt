use Rattle.mr_out_check.proofs.Listing.{Follows}
use Rattle.mr_out_check.proofs.reading.look.Given as goal

-- what was seen, and what is left, are all
abbrev pub invariant-loop : goal.invariant-loop
invariant-loop g l = Follows l.format l.seen l.lines (g.R.Read.remaining l.fn.reader) (g.R.Read.remaining l.reader)
