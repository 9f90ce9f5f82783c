use Rattle.std.proofs.Common.{◌≡◌, ◌≤◌, Some, ap, subst, sym, ◌∙◌}
use Rattle.mr_container_work.specs.Works.{IsShort}
use Rattle.mr_world.specs.Ranges.{IsInRange}
use Rattle.mr_world.specs.Readings.{as_input}
use Rattle.mr_board.specs.Boards.{Noted, input_now}
use Rattle.mr_board.proofs.Due.{input-is-short, wants-memory-to-copy}
use Rattle.mr_board.proofs.board.Board.work.Goals as goal

pub returns-in_default : goal.returns-in_default
returns-in_default g c = (ap (λ (n : Noted). input_now n.world c.args.c.now) (sym c.self.view_is) ∙ sym c.in_default.ensures, c.why_not_due.ensures)

pub returns-in_err-input : goal.returns-in_err-input
returns-in_err-input g c =
    wants-memory-to-copy c.args.self.now.world c.args.c.now (as_input c.in-Some.lent) c.from_residual.result c.from_residual.ensures.1
    (ap (λ (n : Noted). input_now n.world c.args.c.now) (sym c.self.view_is) ∙ sym c.in-Some.ensures)

pub new-requires-clause-short : goal.new-requires-clause-short
new-requires-clause-short g c =
    let range : IsInRange c.args.self.now.world.config = subst IsInRange (c.config.ensures ∙ ap (λ (n : Noted). n.world.config) c.self.view_is) c.ranges-2.ensures.numbers in
    subst IsShort (sym c.in_ok-input.ensures)
    (input-is-short c.args.self.now.world c.args.c.now (as_input c.in-Some.lent) c.inputs_are_short.ensures range
    (ap (λ (n : Noted). input_now n.world c.args.c.now) (sym c.self.view_is) ∙ sym c.in-Some.ensures))

pub new-requires-clause-some : goal.new-requires-clause-some
new-requires-clause-some g c =
    let range : IsInRange c.args.self.now.world.config = subst IsInRange (c.config.ensures ∙ ap (λ (n : Noted). n.world.config) c.self.view_is) c.ranges-2.ensures.numbers in
    subst (λ n. (1 ≤ n) × (n ≤ 1000)) (sym (c.reduce_count.ensures ∙ ap (λ cfg. cfg.reduces) (c.config-2.ensures ∙ ap (λ (n : Noted). n.world.config) c.self.view_is))) range.reduces

pub returns : goal.returns
returns g c = (
  ap (λ t. t.container) c.new.ensures,
  ap (λ (n : Noted). input_now n.world c.args.c.now) (sym c.self.view_is) ∙ (sym c.in-Some.ensures ∙ ap (λ x. Some x) (sym (ap (λ t. t.input) c.new.ensures ∙ c.in_ok-input.ensures))),
  ap (λ t. t.reduces) c.new.ensures ∙ (c.reduce_count.ensures ∙ ap (λ cfg. cfg.reduces) (c.config-2.ensures ∙ ap (λ (n : Noted). n.world.config) c.self.view_is)),
)
