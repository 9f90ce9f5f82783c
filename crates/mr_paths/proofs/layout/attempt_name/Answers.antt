use Rattle.std.proofs.Common.{◌++◌, ◌∙◌, ap, sym, subst, arith}
use Rattle.mr_ids.specs.Text.{attempt_text}
use Rattle.mr_paths.specs.Path.{IsName}
use Rattle.mr_paths.proofs.NameBytes.{plain_name}
use Rattle.mr_paths.proofs.layout.attempt_name.Goals as goal

pub from_bytes-requires : goal.from_bytes-requires
from_bytes-requires c =
    subst IsName (sym (c.in_ok-write.ensures.ok ∙ ap (λ text. text ++ attempt_text c.args.attempt) c.in_ok-text.ensures.items)) (plain_name 59 (attempt_text c.args.attempt) (omega arith) c.write.ensures.plain)
