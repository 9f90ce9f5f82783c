use Rattle.std.proofs.Common.{◌∙◌, ap, map}
use Rattle.std.specs.List.{flat_map}
use Rattle.mr_paths.specs.declared.layout.Layout.{Layout}
use Rattle.mr_names.specs.Calls.{State}
use Rattle.mr_world_model.specs.Content.{Listed, children}
use Rattle.mr_world.specs.VisibleFiles.{seen_beneath}
use Rattle.mr_world.proofs.Read_results.{visible-is}
use Rattle.mr_world.proofs.results.visible.Goals as goal

pub returns-clause-is : goal.returns-clause-is
returns-clause-is c = λ w s. visible-is c.args.parts.now w c.in_ok-files.files.items c.in_ok-entries.entries s
    (c.in_ok-files.ensures ∙ (ap (λ (n : State). flat_map (λ (line : Listed). seen_beneath n.content c.deref.result.now.dest line.name) c.in_ok-entries.entries) c.deref-3.ensures
    ∙ ap (λ (l : Layout). flat_map (λ (line : Listed). seen_beneath c.args.parts.now.names.content l.dest line.name) c.in_ok-entries.entries) c.deref.ensures))
    (c.in_ok-entries.ensures ∙ (ap (λ (n : State). children n.content c.deref.result.now.dest) c.deref-2.ensures ∙ ap (λ (l : Layout). children c.args.parts.now.names.content l.dest) c.deref.ensures))
