use Rattle.std.proofs.Common.{◌≡◌, sym, ◌∙◌, ap, true}
use Rattle.std.proofs.lemmas.Bool.{false≢true}
use Rattle.mr_history.specs.Line.{fits, is_of}
use Rattle.mr_history.specs.Reading.{record_of}
use Rattle.mr_history.proofs.Told.{no_record, record_of-line_of}
use Rattle.mr_history.proofs.reader.record_of.Goals.{else-fits-via-then-fits+else-is_of, else-fits-via-else-fits}
use Rattle.mr_history.proofs.reader.record_of.Goals as goal

pub returns-in_default : goal.returns-in_default
returns-in_default c = sym (no_record c.args.version c.args.text.now (λ r h e.
    let given = c.in_default.ensures.only r h.0.1 e in
    cc))

pub returns-then-is_of : goal.returns-then-is_of
returns-then-is_of c =
    let found = c.in-Some.ensures.found in
    let fit : fits c.in-Some.record ≡ true = sym c.fits.ensures ∙ c.if-fits.true in
    let told : is_of c.args.version c.in-Some.record ≡ true = sym c.is_of.ensures ∙ c.if-is_of.true in
    sym (ap (record_of c.args.version) found.1 ∙ record_of-line_of c.args.version c.in-Some.record ((fit, found.0), told))

pub returns-else-fits : goal.returns-else-fits
returns-else-fits c = sym (no_record c.args.version c.args.text.now (λ r h e.
    let given = c.in-Some.ensures.only r h.0.1 e in
    let same : c.in-Some.record ≡ r = cc in
    elim c.else-fits.branch [
      | else-fits-via-then-fits+else-is_of w ↦ false≢true (sym w.if-is_of.false ∙ w.is_of.ensures ∙ ap (is_of c.args.version) same ∙ h.1)
      | else-fits-via-else-fits w ↦ false≢true (sym w.if-fits.false ∙ c.fits.ensures ∙ ap fits same ∙ h.0.0)
    ]))
