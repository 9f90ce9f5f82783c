use Rattle.std.proofs.Common.{◌≡◌, IfOk, [], ◌∷◌, ◌++◌, subst}
use Rattle.mr_paths.specs.Layout.{marker}
use Rattle.mr_paths.proofs.layout.Layout.marker.Goals as goal

pub returns : goal.returns
unfolding marker
returns c = subst (λ n. IfOk c.child.result (λ path. path ≡ c.args.self.now.dest ++ n ∷ [])) c.in_ok-marker_name.ensures c.child.ensures
