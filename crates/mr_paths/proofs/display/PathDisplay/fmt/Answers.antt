use Rattle.std.proofs.Common.{◌∙◌, sym, subst, arith, true≢false}
use Rattle.std.specs.Fmt.{HasWritten}
use Rattle.std.specs.Str.Lossy.{utf8_lossy}
use Rattle.mr_paths.proofs.TextReading.{shown_all}
use Rattle.mr_paths.proofs.display.PathDisplay.fmt.Goals as goal

pub returns-clause-writes : goal.returns-clause-writes
returns-clause-writes g c = λ plain ok.
    subst (λ text. HasWritten g.W.Write.write_str_gives c.args.f.now text c.loop-name.f)
    (shown_all utf8_lossy c.args.self.now c.names-name-items.result.now c.loop-name.name-index c.names-name-items.ensures
    (λ e. true≢false (sym (c.is_root.ensures.1 e) ∙ c.if-is_root.false)) (omega arith))
    (c.loop-name.invariant plain)
