use Rattle.std.proofs.Common.{◌≡◌, [], append-nil}
use Rattle.mr_script.specs.Lines.{lines_of, AreLines}
use Rattle.mr_script.proofs.script.script_in.Goals as goal

pub returns-clause-ok : goal.returns-clause-ok
returns-clause-ok g c =
    let none : c.loop-line.rest.now ≡ [] = c.in_default.ensures.none in
    let end : AreLines (g.L.Language.is_line c.args.language.now) c.loop-line.number (lines_of c.loop-line.rest.now) [] = rw none tt in
    let all = c.loop-line.invariant.commands [] end in
    rw append-nil at all
