use Rattle.std.proofs.Common.{◌≡◌, ◌∙◌, ◌-◌, ap, sym, subst, length, Some, None}
use Rattle.std.specs.Option.{option_copied, option_map}
use Rattle.mr_paths.specs.Path.{prefixes}
use Rattle.mr_names_tree.specs.declared.place.Place.{Place}
use Rattle.mr_names_tree.specs.Content.{IsTree}
use Rattle.mr_names_tree.specs.Held.{missing_count}
use Rattle.mr_names_tree.proofs.Making.{missing_dir, missing_file}
use Rattle.mr_names_tree.proofs.tree.Tree.missing.Goals as goal

pub returns-in-Dir : goal.returns-in-Dir
returns-in-Dir c =
    subst (λ m. Some (length c.args.names.now - c.reach-at.result.1) ≡ missing_count m (prefixes c.args.names.now)) c.self.view_is
    (missing_dir c.self.inside.nodes c.self.inside.root c.self.inside.held.0 c.self.inside.held.1 c.args.names.now c.reach-at.result.0 c.reach-at.result.1 c.reach-at.ensures.within c.reach-at.ensures.leads c.reach-at.ensures.ends (subst IsTree (sym c.self.view_is) c.requires)
    (ap (option_map (λ (p : Place). p.node)) (sym c.get.ensures ∙ ap option_copied c.in-Some.is) ∙ ap Some c.in-Dir.is))

pub returns-in-File : goal.returns-in-File
returns-in-File c =
    subst (λ m. None ≡ missing_count m (prefixes c.args.names.now)) c.self.view_is
    (missing_file c.self.inside.nodes c.self.inside.root c.self.inside.held.0 c.self.inside.held.1 c.args.names.now c.reach-at.result.0 c.reach-at.result.1 c.reach-at.ensures.within c.reach-at.ensures.leads c.reach-at.ensures.ends (subst IsTree (sym c.self.view_is) c.requires) c.in-File.bytes c.in-File.closed
    (ap (option_map (λ (p : Place). p.node)) (sym c.get.ensures ∙ ap option_copied c.in-Some.is) ∙ ap Some c.in-File.is))
