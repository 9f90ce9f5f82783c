use Rattle.std.proofs.Common.{◌≡◌, ℕ, List, Bor, ◌∙◌, None, Ok, ap, sym, subst}
use Rattle.std.specs.Result.{result_err}
use Rattle.mr_user.specs.Computation.{computation}
use Rattle.mr_user.specs.Groups.{groups_of}
use Rattle.mr_shuffle.specs.Part.{result_map, pairs_of_pieces}
use Rattle.mr_shuffle.proofs.AllPieces.{lent}
use Rattle.mr_shuffle.proofs.Opening.{opened}
use Rattle.mr_shuffle.proofs.work.open_lists.Goals as goal

pub new-requires : goal.new-requires
new-requires g c =
    let all = computation g.J.Key.Ord.cmp g.J.Key.Wire.codec g.J.Value.Wire.codec g.J.Job.functions in
    let whole : result_err (pairs_of_pieces all (lent c.args.lists.items)) ≡ None = subst (λ (lists : List (Bor (List ℕ))). result_err (pairs_of_pieces all (lent lists)) ≡ None) c.deref.ensures.value c.in_ok-check_lists.ensures.whole in
    (opened all g.met.J.Key.Wire.laws g.met.J.Value.Wire.laws g.met.J.Key.Ord.total (lent c.args.lists.items) whole).0

pub returns-clause-groups : goal.returns-clause-groups
returns-clause-groups g c =
    let all = computation g.J.Key.Ord.cmp g.J.Key.Wire.codec g.J.Value.Wire.codec g.J.Job.functions in
    let whole : result_err (pairs_of_pieces all (lent c.args.lists.items)) ≡ None = subst (λ (lists : List (Bor (List ℕ))). result_err (pairs_of_pieces all (lent lists)) ≡ None) c.deref.ensures.value c.in_ok-check_lists.ensures.whole in
    let both = opened all g.met.J.Key.Wire.laws g.met.J.Value.Wire.laws g.met.J.Key.Ord.total (lent c.args.lists.items) whole in
    ap (result_map (groups_of all.cmp)) both.1 ∙ ap Ok (sym c.in_ok-new.ensures)
