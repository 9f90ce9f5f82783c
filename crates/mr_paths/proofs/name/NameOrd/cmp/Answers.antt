use Rattle.std.proofs.Common.{ap, sym, Equal, unwrap_or}
use Rattle.std.specs.Cmp.Lexicographic.{texts_po}
use Rattle.mr_paths.proofs.name.NameOrd.cmp.Goals as goal

-- The bytes are equal, so neither comes first.
pub returns-then-eq : goal.returns-then-eq
returns-then-eq c = sym (ap (λ o. unwrap_or o Equal) ((texts_po.matches_eq c.args.self.now c.args.other.now).0 (sym c.if-eq.ensures)))
