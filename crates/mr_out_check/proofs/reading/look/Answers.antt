use Rattle.std.proofs.Common.{◌≡◌, true, Result, Err, IfSome, rules, sym, subst}
use Rattle.mr_out_check.specs.Readings.{Looks}
use Rattle.mr_out_check.specs.declared.reading.CheckFault.{CheckFault}
use Rattle.mr_out_check.specs.declared.reading.Looked.{Looked}
use Rattle.mr_out_check.proofs.Listing.{begins, fails-on-so, goes-on-so, was-true}
use Rattle.mr_out_check.proofs.reading.look.Goals as goal

pub loop-init : goal.loop-init
loop-init g c = begins c.args.format c.new-seen.result c.new-lines.result (g.R.Read.remaining c.args.reader.now) c.new-seen.ensures c.new-lines.ensures

pub returns-in_err-seen : goal.returns-in_err-seen
returns-in_err-seen g c =
    let more : c.in_ok-read_piece.field-0 ≡ true = search (rules, was-true) in
    let is : c.from_residual-in_err-seen.result ≡ Err c.in_err-seen.field-0.0 = search rules in
    subst (λ (r : Result Looked CheckFault). IfSome (g.R.Read.remaining c.args.reader.now) (λ bytes. Looks c.args.format bytes r)) (sym is)
    (fails-on-so c.args.format c.loop.seen c.loop.lines c.with_line.new.lines c.read_piece.new.piece.items c.deref.result.now
    (g.R.Read.remaining c.args.reader.now) (g.R.Read.remaining c.loop.reader) (g.R.Read.remaining c.read_piece.new.reader)
    c.end.result c.in_ok-read_piece.field-0 _ c.end.ensures more c.deref.ensures.value c.loop.invariant c.in_ok-read_piece.ensures.read c.in_err-seen.ensures)

pub loop-preserved : goal.loop-preserved
loop-preserved g c =
    let more : c.in_ok-read_piece.field-0 ≡ true = search (rules, was-true) in
    goes-on-so c.args.format c.loop.seen c.in_ok-seen.seen c.loop.lines c.with_line.new.lines c.read_piece.new.piece.items c.deref.result.now
    (g.R.Read.remaining c.args.reader.now) (g.R.Read.remaining c.loop.reader) (g.R.Read.remaining c.read_piece.new.reader)
    c.end.result c.in_ok-read_piece.field-0 c.end.ensures more c.deref.ensures.value c.loop.invariant c.in_ok-read_piece.ensures.read c.in_ok-seen.ensures
