use Rattle.std.proofs.Common.{rules, refl, ◌≡◌}
use Rattle.mr_world.proofs.Read_results.{onlooker-heard}
use Rattle.mr_world.proofs.results.onlooker.Goals as goal

pub returns-clause-heard : goal.returns-clause-heard
returns-clause-heard c = let first : c.unwrap.result ≡ 1000 = search rules in onlooker-heard c.args.names.now _ c.fence-fence.ensures.sound first refl
