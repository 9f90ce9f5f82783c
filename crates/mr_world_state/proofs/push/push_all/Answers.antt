use Rattle.std.proofs.Common.{◌++◌, ◌∷◌, [], ◌∙◌, sym, ap, length, append_assoc, length-append, arith}
use Rattle.std.proofs.lemmas.Iterator.Adapters.{YieldsList-from_vec}
use Rattle.std.proofs.lemmas.Iterator.Consumers.{YieldsList-turn, YieldsList-end}
use Rattle.std.proofs.lemmas.List.{map-id}
use Rattle.mr_world_state.proofs.push.push_all.Goals as goal

pub push_reserved-requires : goal.push_reserved-requires
push_reserved-requires c =
    let gives = c.into_iter-packet-iterator.ensures.into_iter_gives in
    let turn = YieldsList-turn (YieldsList-from_vec c.args.packets.items gives.0 (gives.1 ∙ c.args.packets.ok.0)) c.loop-packet.yielded c.loop-packet.packet-iterator c.loop-packet.yielded_by c.next.result c.next.new.self c.in-Some.packet c.in-Some.is c.next.ensures.steps in
    let long = ap length c.loop-packet.invariant.packets ∙ length-append c.args.bag.now.packets c.loop-packet.yielded in
    record { room = omega (arith, turn.0, c.loop-packet.invariant.spare, c.requires.room); few = omega (arith, turn.0, long, c.requires.few) }

pub loop-packet-preserved : goal.loop-packet-preserved
loop-packet-preserved c = record {
  packets = c.push_reserved.ensures.packets ∙ (ap (λ es. es ++ c.in-Some.packet ∷ []) c.loop-packet.invariant.packets ∙ append_assoc c.args.bag.now.packets c.loop-packet.yielded (c.in-Some.packet ∷ []));
  spare = omega (arith, c.loop-packet.invariant.spare, c.push_reserved.ensures.spare, length-append c.loop-packet.yielded (c.in-Some.packet ∷ []));
}

pub returns : goal.returns
returns c =
    let gives = c.into_iter-packet-iterator.ensures.into_iter_gives in
    let whole = sym (map-id c.loop-packet.yielded) ∙ (YieldsList-end (YieldsList-from_vec c.args.packets.items gives.0 (gives.1 ∙ c.args.packets.ok.0)) c.loop-packet.yielded c.loop-packet.packet-iterator c.loop-packet.yielded_by c.next.result c.next.new.self c.in-None.is c.next.ensures.steps).0 in
    c.loop-packet.invariant.packets ∙ ap (λ es. c.args.bag.now.packets ++ es) whole
