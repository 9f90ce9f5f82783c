use Rattle.std.proofs.Common.{◌∙◌, sym, subst, length, drop, suc}
use Rattle.std.proofs.lemmas.Iterator.Adapters.{YieldsList-from_vec}
use Rattle.std.proofs.lemmas.Iterator.Consumers.{YieldsList-so_far, YieldsList-turn, YieldsList-end}
use Rattle.std.proofs.lemmas.List.{map-id}
use Rattle.mr_play.specs.Players.{Notes}
use Rattle.mr_play.proofs.Players.{noted_by, played_by, none_obeyed, one_obeyed, one_failed, split_by}
use Rattle.mr_play.proofs.player.Player.play.Goals as goal

pub loop-line-init : goal.loop-line-init
loop-line-init c = none_obeyed c.args.self.now

pub loop-line-preserved : goal.loop-line-preserved
loop-line-preserved c = one_obeyed c.args.self.now c.loop-line.self c.play_line.new.self c.loop-line.yielded (c.in-Some.line, c.in-Some.command) c.loop-line.invariant c.in_ok-play_line.ensures

pub returns-in_err-play_line : goal.returns-in_err-play_line
returns-in_err-play_line c =
    let gives = c.into_iter-line-iterator.ensures.into_iter_gives in
    let all = YieldsList-from_vec c.args.commands.items gives.0 (gives.1 ∙ c.args.commands.ok.0) in
    let front = sym (map-id c.loop-line.yielded) ∙ YieldsList-so_far all c.loop-line.yielded c.loop-line.line-iterator c.loop-line.yielded_by in
    let turn = YieldsList-turn all c.loop-line.yielded c.loop-line.line-iterator c.loop-line.yielded_by c.next.result c.next.new.self (c.in-Some.line, c.in-Some.command) c.in-Some.is c.next.ensures.steps in
    one_failed c.args.self.now c.loop-line.self c.play_line.new.self c.loop-line.yielded (c.in-Some.line, c.in-Some.command) c.loop-line.invariant
    c.args.commands.items (drop (suc (length c.loop-line.yielded)) c.args.commands.items) c.in_err-play_line.field-0.0 c.from_residual.result
    (split_by c.args.commands.items c.loop-line.yielded (c.in-Some.line, c.in-Some.command) front turn) c.in_err-play_line.ensures c.from_residual.ensures.1

pub returns : goal.returns
returns c =
    let gives = c.into_iter-line-iterator.ensures.into_iter_gives in
    let all = YieldsList-from_vec c.args.commands.items gives.0 (gives.1 ∙ c.args.commands.ok.0) in
    let end = YieldsList-end all c.loop-line.yielded c.loop-line.line-iterator c.loop-line.yielded_by c.next.result c.next.new.self c.in-None.is c.next.ensures.steps in
    subst (λ cs. Notes c.args.self.now (played_by c.args.self.now cs) (noted_by c.args.self.now cs) c.loop-line.self) (sym (map-id c.loop-line.yielded) ∙ end.0) c.loop-line.invariant
