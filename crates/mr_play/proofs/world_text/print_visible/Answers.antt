use Rattle.std.proofs.Common.{◌++◌, ◌∙◌, ap, map}
use Rattle.std.specs.List.{flat_map}
use Rattle.mr_world.specs.VisibleFiles.{as_pair}
use Rattle.mr_play.specs.WorldText.{visible_text}
use Rattle.mr_play.proofs.world_text.print_visible.Goals as goal

pub returns : goal.returns
returns c =
    let files = rw c.in_ok-files.ensures.value at c.visible.ensures.is in
    c.in_ok-print_files.ensures ∙ ap (λ l. c.args.out.now.items ++ flat_map visible_text l) (ap (λ l. map as_pair l) c.deref.ensures.value ∙ files)
