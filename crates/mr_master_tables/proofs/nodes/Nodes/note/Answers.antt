use Rattle.std.proofs.Common.{◌∙◌, ap, cond, nat_eq, List, ℕ}
use Rattle.mr_master_tables.specs.Nodes.{known_in}
use Rattle.mr_master_tables.proofs.Incarnations.{noted}
use Rattle.mr_master_tables.proofs.nodes.Nodes.note.Goals as goal

pub returns-clause-noted : goal.returns-clause-noted
returns-clause-noted c = λ n.
    ap (λ (m : List (ℕ × ℕ)). known_in m n) c.in_ok-insert.ensures.entries
    ∙ noted c.self.inside.known.entries c.args.node c.args.incarnation n
    ∙ ap (λ (m : List (ℕ × ℕ)). cond (nat_eq n c.args.node) c.args.incarnation (known_in m n)) c.self.view_is
