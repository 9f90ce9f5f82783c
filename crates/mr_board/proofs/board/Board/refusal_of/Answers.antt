use Rattle.std.proofs.Common.{◌≡◌, ap, sym, ◌∙◌}
use Rattle.mr_world_model.specs.World.{Compute}
use Rattle.mr_board.specs.Boards.{Noted}
use Rattle.mr_board.proofs.Due.{refused-as-foretold, refused-for-memory, told-alike}
use Rattle.mr_board.proofs.board.Board.refusal_of.Goals as goal

pub returns-in-Ok : goal.returns-in-Ok
returns-in-Ok g c =
    refused-for-memory c.args.self.now.world (Compute c.args.done.now.container c.args.done.now.bytes)
    (sym (told-alike _ _ _ _ _ _ (ap (λ (n : Noted). n.world) c.self.view_is) c.container.ensures c.bytes.ensures.bytes) ∙ sym c.in-Ok.ensures)

pub returns-in-Err : goal.returns-in-Err
returns-in-Err g c =
    refused-as-foretold c.args.self.now.world (Compute c.args.done.now.container c.args.done.now.bytes) c.in-Err.fault
    (sym (told-alike _ _ _ _ _ _ (ap (λ (n : Noted). n.world) c.self.view_is) c.container.ensures c.bytes.ensures.bytes) ∙ sym c.in-Err.ensures)
