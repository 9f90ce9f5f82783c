use Rattle.std.proofs.Common.{◌≡◌, ◌↔◌, IsTrue, ap, subst, sym, ◌∙◌}
use Rattle.mr_world.specs.Readings.{as_input}
use Rattle.mr_board.specs.Boards.{Done, Noted, input_now}
use Rattle.mr_board.proofs.Due.{no-input, compared}
use Rattle.mr_board.proofs.board.Board.is_due.Goals as goal

pub returns-in-None : goal.returns-in-None
returns-in-None g c = no-input c.args.self.now.world c.args.done.now
    (ap (input_now c.args.self.now.world) (sym c.container.ensures) ∙ (ap (λ (n : Noted). input_now n.world c.container.result) (sym c.self.view_is) ∙ sym c.in-None.ensures))

pub returns-in-Some : goal.returns-in-Some
returns-in-Some g c = compared c.args.self.now.world c.args.done.now (as_input c.in-Some.lent) c.is_of.result
    (ap (input_now c.args.self.now.world) (sym c.container.ensures) ∙ (ap (λ (n : Noted). input_now n.world c.container.result) (sym c.self.view_is) ∙ sym c.in-Some.ensures))
    (subst (λ n. IsTrue c.is_of.result ↔ ((c.args.done.now.input ≡ as_input c.in-Some.lent) × (c.args.done.now.reduces ≡ n)))
    (c.reduce_count.ensures ∙ ap (λ cfg. cfg.reduces) (c.config.ensures ∙ ap (λ (n : Noted). n.world.config) c.self.view_is)) c.is_of.ensures)
