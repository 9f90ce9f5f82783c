use Rattle.std.proofs.Common.{◌≡◌, IfOk, [], ◌∷◌, ◌++◌, subst}
use Rattle.mr_paths.specs.Layout.{temporary}
use Rattle.mr_paths.proofs.layout.Layout.temporary.Goals as goal

pub returns : goal.returns
unfolding temporary
returns c = subst (λ n. IfOk c.child.result (λ path. path ≡ c.args.self.now.dest ++ n ∷ [])) c.in_ok-temporary_name.ensures c.child.ensures
