use Rattle.std.proofs.Common.{rules, tests, lit<}
use Rattle.std.proofs.lemmas.Iterator.{cases_from_all}
use Rattle.std.proofs.lemmas.Iterator.Splits.{YieldsList-from_str_split}
use Rattle.std.specs.List.{slice_split}
use Rattle.mr_paths.specs.Path.{IsName}
use Rattle.mr_paths.specs.Text.{is_slash}
use Rattle.mr_paths.proofs.TextReading.{names_from_search}
use Rattle.mr_paths.proofs.path.are_names.Goals as goal

pub returns : goal.returns
returns c = names_from_search c.all.result (slice_split is_slash c.args.text.now) (cases_from_all _ _ _ IsName (λ x. ¬ IsName x) c.all.ensures.ran (YieldsList-from_str_split 47 c.args.text.now (lit< tt) c.split.ensures.text c.split.ensures.has_more c.split.ensures.pattern) (λ x q k. search (rules, tests)) (λ x q k. search (rules, tests)))
