use Rattle.std.proofs.Common.{sym, ◌∙◌, ap, ◌++◌, ◌∷◌, [], append_assoc}
use Rattle.mr_world_state.proofs.Sending_packets.{nothing-stands, one-stands, last-stands}
use Rattle.mr_world_state.proofs.parts.Parts.send_packet.Goals as goal

pub returns-in-Nothing-clause-tries : goal.returns-in-Nothing-clause-tries
returns-in-Nothing-clause-tries c = λ w s. let t = c.in_ok-check_send.ensures.foresees w s in
    (t, nothing-stands c.args.self.now w c.args.c.now c.args.weather s t c.requires (sym c.in_ok-check_send.ensures.letters ∙ c.in-Nothing.is))

pub returns-in_ok-reserve-in-One-clause-tries : goal.returns-in_ok-reserve-in-One-clause-tries
returns-in_ok-reserve-in-One-clause-tries c = λ w s. let t = c.in_ok-check_send.ensures.foresees w s in (
  t,
  one-stands c.args.self.now w c.args.c.now c.args.weather c.in-One.packet c.sent.new.self c.push_reserved.new.self s t c.requires (sym c.in_ok-check_send.ensures.letters ∙ c.in-One.is)
      (c.sent.ensures c.in-One.packet.body) (c.push_reserved.ensures.packets ∙ ap (λ es. es ++ c.in-One.packet ∷ []) c.reserve.ensures.kept),
)

pub returns-in_ok-reserve-in-Last-clause-tries : goal.returns-in_ok-reserve-in-Last-clause-tries
returns-in_ok-reserve-in-Last-clause-tries c = λ w s. let t = c.in_ok-check_send.ensures.foresees w s in (
  t,
  last-stands c.args.self.now w c.args.c.now c.args.weather c.in-Last.packet c.remove.new.self c.push_reserved-in-Last-2.new.self s t c.requires (sym c.in_ok-check_send.ensures.letters ∙ c.in-Last.is)
      c.remove.ensures
      (c.push_reserved-in-Last-2.ensures.packets ∙ (ap (λ es. es ++ c.ended.result ∷ []) (c.push_reserved-in-Last.ensures.packets ∙ ap (λ es. es ++ c.in-Last.packet ∷ []) c.reserve-in-Last.ensures.kept)
      ∙ (append_assoc c.args.self.now.bag.packets (c.in-Last.packet ∷ []) (c.ended.result ∷ []) ∙ ap (λ e. c.args.self.now.bag.packets ++ c.in-Last.packet ∷ e ∷ []) c.ended.ensures))),
)
