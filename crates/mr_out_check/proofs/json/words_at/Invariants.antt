use Rattle.std.proofs.Common.{◌≡◌, drop, map, ◌++◌, Bool, not}
use Rattle.serde_json.specs.View.{view}
use Rattle.mr_out_check.specs.Json.{words_at}
use Rattle.mr_out_check.proofs.json.words_at.Given as goal

abbrev pub invariant-loop-premise : goal.invariant-loop-premise
invariant-loop-premise l = map view l.words.items ++ words_at l.at l.seen l.told (drop l.premise-index l.premises) ≡ words_at l.at l.seen l.told l.premises
