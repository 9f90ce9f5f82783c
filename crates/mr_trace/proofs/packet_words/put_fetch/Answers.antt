use Rattle.std.proofs.Common.{◌++◌, ◌∷◌, ◌∙◌, ap, append_assoc, codes, decimal}
use Rattle.mr_ids.specs.Text.{attempt_text}
use Rattle.mr_script.specs.Words.{container_word}
use Rattle.mr_trace.proofs.Appended.{four, on_ok}
use Rattle.mr_trace.proofs.packet_words.put_fetch.Goals as goal

pub returns : goal.returns
returns c =
    let out = c.args.out.now.items in
    let of = container_word c.args.c.now in
    let attempt = 32 ∷ attempt_text c.args.a.now in
    let it = c.args in
    on_ok c.put_number.result c.put_number.ensures (λ last.
    last
    ∙ ap (λ l. l ++ codes " offset " ++ decimal it.offset) (c.in_ok-put_small-2.ensures
    ∙ ap (λ l. l ++ codes " incarnation " ++ decimal it.incarnation) (c.in_ok-put_small.ensures
    ∙ ap (λ l. l ++ codes " reduce " ++ decimal it.reduce) c.in_ok-put_of.ensures))
    ∙ four (out ++ codes "Fetch ") of attempt (codes " reduce ") (decimal it.reduce) (codes " incarnation ") (decimal it.incarnation) (codes " offset ") (decimal it.offset)
    ∙ append_assoc out (codes "Fetch ") (of ++ (attempt ++ (codes " reduce " ++ (decimal it.reduce ++ (codes " incarnation " ++ (decimal it.incarnation ++ (codes " offset " ++ decimal it.offset))))))))
