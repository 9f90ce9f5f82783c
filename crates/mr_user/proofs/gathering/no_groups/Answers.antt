use Rattle.std.proofs.Common.{◌≡◌, ◌∙◌, ◌++◌, ◌∷◌, [], List, replicate, ap, arith}
use Rattle.std.proofs.lemmas.List.{replicate_more}
use Rattle.mr_user.specs.Computation.{computation}
use Rattle.mr_user.proofs.Putting.{none_gathered}
use Rattle.mr_user.proofs.gathering.no_groups.Goals as goal

pub loop-preserved : goal.loop-preserved
loop-preserved g c =
    c.in_ok-push.ensures.items
    ∙ ap (λ w. c.loop.parts.items ++ w ∷ []) c.new.ensures
    ∙ ap (λ (ps : List (List (g.row.J-Key.Denot × List g.row.J-Value.Denot))). ps ++ [] ∷ []) c.loop.invariant
    ∙ replicate_more c.loop.counter []

pub returns : goal.returns
returns g c =
    let all = computation g.J.Key.Ord.cmp g.J.Key.Wire.codec g.J.Value.Wire.codec g.J.Job.functions in
    let upper = c.loop.auto.counter-end in
    let lower = c.loop-test.false in
    let end : c.loop.counter ≡ c.args.reduces = omega arith in
    none_gathered all g.met.J.Key.Ord.total g.met.J.Job.laws.same_key c.args.reduces c.loop.parts.items (c.loop.invariant ∙ ap (λ n. replicate n []) end)
