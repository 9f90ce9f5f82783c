use Rattle.std.proofs.Common.{ℕ, sym, ap, subst, Vec, Global}
use Rattle.mr_trace.specs.mr_world.specs.Limits.{within}
use Rattle.mr_trace.specs.mr_play.proofs.Showing.{as_expected}
use Rattle.mr_trace_json.specs.Plays.{TellsPlay}
use Rattle.mr_trace_json.proofs.Playing.{tells}
use Rattle.mr_trace_json.proofs.run.play_json.Goals as goal

pub returns-clause-ok : goal.returns-clause-ok
returns-clause-ok c = subst (λ text. TellsPlay within c.args.input.now text) (sym (ap (λ (v : Vec ℕ Global). v.items) c.printed.ensures.text))
    (tells c.args.input.now c.in_ok-text.text.items c.in_ok-player.player c.in_ok-player.ensures.ok c.in_ok-text.ensures.text)

pub returns-clause-met : goal.returns-clause-met
returns-clause-met c = as_expected c.args.input.now c.in_ok-player.player c.printed.result.met c.printed.ensures.met c.in_ok-player.ensures.ok
