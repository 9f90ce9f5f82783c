use Rattle.std.proofs.Common.{◌∙◌, ap}
use Rattle.mr_paths.specs.Layout as layout
use Rattle.mr_paths.specs.declared.layout.Layout.{Layout}
use Rattle.mr_names.specs.Calls.{State}
use Rattle.mr_world_model.specs.Content.{entry_at, option_kind}
use Rattle.mr_world.specs.VisibleFiles.{is_file_kind}
use Rattle.mr_world.proofs.Read_results.{marker-is}
use Rattle.mr_world.proofs.results.marker.Goals as goal

pub returns-clause-is : goal.returns-clause-is
returns-clause-is c = λ w s. marker-is c.args.parts.now w c.in_ok-path.path c.is_file.result s (c.in_ok-path.ensures ∙ ap (λ (l : Layout). layout.marker l.dest) c.deref.ensures)
    (c.is_file.ensures ∙ ap is_file_kind (c.kind_at.ensures ∙ ap (λ (n : State). option_kind (entry_at n.content c.in_ok-path.path)) c.deref-2.ensures))
