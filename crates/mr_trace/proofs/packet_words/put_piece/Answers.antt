use Rattle.std.proofs.Common.{◌++◌, ◌∙◌, ap, codes, decimal, length}
use Rattle.mr_ids.specs.Text.{attempt_text}
use Rattle.mr_trace.proofs.Appended.{five, on_ok}
use Rattle.mr_trace.proofs.packet_words.put_piece.Goals as goal

pub returns : goal.returns
returns c =
    let out = c.args.out.now.items in
    let it = c.args in
    on_ok c.put_number-3.result c.put_number-3.ensures (λ last.
    last
    ∙ ap (λ n. c.put_number-2.new.out.items ++ codes " bytes " ++ decimal n) c.len.ensures
    ∙ ap (λ l. l ++ codes " bytes " ++ decimal (length it.bytes.now)) (c.in_ok-put_number-2.ensures
    ∙ ap (λ l. l ++ codes " total " ++ decimal it.total) (c.in_ok-put_number.ensures
    ∙ ap (λ l. l ++ codes " offset " ++ decimal it.offset) (c.in_ok-put_small.ensures
    ∙ ap (λ l. l ++ codes " reduce " ++ decimal it.reduce) c.in_ok-put_attempt.ensures)))
    ∙ five out (codes "Piece ") (attempt_text it.a.now) (codes " reduce ") (decimal it.reduce) (codes " offset ") (decimal it.offset) (codes " total ") (decimal it.total) (codes " bytes ") (decimal (length it.bytes.now)))
