use Rattle.std.proofs.Common.{option_map, sym, ap, ◌∙◌}
use Rattle.mr_play.specs.Players.{next_in}
use Rattle.mr_play.proofs.Calmly.{calmed_once}
use Rattle.mr_play.proofs.player.Player.calm_once.Goals as goal

pub returns : goal.returns
returns c = calmed_once c.args.self.now c.args.k c.args.stop (sym c.is_through.ensures ∙ c.if-is_through.false) c.pass.new.self c.make_next.new.self c.in-Some.coming c.make_next.result c.pass.ensures
    (λ on. sym (ap (option_map (next_in c.pass.new.self c.args.k)) c.in-Some.is) ∙ c.in_ok-coming.ensures.is on) (sym c.stops_at.ensures ∙ c.if-stops_at.false) c.make_next.ensures
