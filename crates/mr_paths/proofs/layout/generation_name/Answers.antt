use Rattle.std.proofs.Common.{◌++◌, ◌∙◌, ap, sym, subst, arith}
use Rattle.mr_ids.specs.Text.{numeral}
use Rattle.mr_paths.specs.Path.{IsName}
use Rattle.mr_paths.proofs.NameBytes.{plain_name}
use Rattle.mr_paths.proofs.layout.generation_name.Goals as goal

pub from_bytes-requires : goal.from_bytes-requires
from_bytes-requires c =
    subst IsName (sym (c.in_ok-write.ensures.ok ∙ ap (λ text. text ++ numeral 1 c.args.k) c.in_ok-text.ensures.items)) (plain_name 4 (numeral 1 c.args.k) (omega arith) c.write.ensures.plain)
