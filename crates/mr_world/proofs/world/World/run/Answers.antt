use Rattle.std.proofs.Common.{◌∙◌, ◌∷◌, [], sym, length, drop, suc}
use Rattle.std.proofs.lemmas.Iterator.Adapters.{YieldsList-from_vec}
use Rattle.std.proofs.lemmas.Iterator.Consumers.{YieldsList-so_far, YieldsList-turn}
use Rattle.std.proofs.lemmas.List.{map-id}
use Rattle.mr_world.proofs.Headlines.{holds-after}
use Rattle.mr_world.proofs.Journals.{ran-append, split-by, stopped}
use Rattle.mr_world.proofs.world.World.run.Goals as goal

pub loop-event-preserved : goal.loop-event-preserved
loop-event-preserved c = ran-append c.args.self.now c.loop-event.self c.apply_or_pass.new.self c.loop-event.yielded (c.in-Some.event ∷ []) c.loop-event.invariant c.in_ok-apply_or_pass.ensures

pub returns-in_err-apply_or_pass-clause-runs : goal.returns-in_err-apply_or_pass-clause-runs
returns-in_err-apply_or_pass-clause-runs c =
    let gives = c.into_iter-event-iterator.ensures.into_iter_gives in
    let all = YieldsList-from_vec c.args.events.items gives.0 (gives.1 ∙ c.args.events.ok.0) in
    let front = sym (map-id c.loop-event.yielded) ∙ YieldsList-so_far all c.loop-event.yielded c.loop-event.event-iterator c.loop-event.yielded_by in
    let turn = YieldsList-turn all c.loop-event.yielded c.loop-event.event-iterator c.loop-event.yielded_by c.next.result c.next.new.self c.in-Some.event c.in-Some.is c.next.ensures.steps in
    stopped c.args.self.now c.loop-event.self c.apply_or_pass.new.self c.args.events.items c.loop-event.yielded (drop (suc (length c.loop-event.yielded)) c.args.events.items) c.in-Some.event _ c.from_residual.result
    c.loop-event.invariant (split-by c.args.events.items c.loop-event.yielded c.in-Some.event front turn) c.in_err-apply_or_pass.ensures c.from_residual.ensures.1

pub returns-in_err-apply_or_pass-clause-headline : goal.returns-in_err-apply_or_pass-clause-headline
returns-in_err-apply_or_pass-clause-headline c = holds-after c.args.self.now c.apply_or_pass.new.self _ (c.in_err-apply_or_pass.ensures.2 ∙ c.loop-event.invariant.journal)

pub returns-clause-headline : goal.returns-clause-headline
returns-clause-headline c = holds-after c.args.self.now c.loop-event.self _ c.loop-event.invariant.journal
