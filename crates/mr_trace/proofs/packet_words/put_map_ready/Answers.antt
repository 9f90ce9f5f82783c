use Rattle.std.proofs.Common.{◌++◌, ◌∙◌, ap, codes, decimal}
use Rattle.mr_ids.specs.Text.{attempt_text}
use Rattle.mr_trace.proofs.Appended.{four, on_ok}
use Rattle.mr_trace.proofs.packet_words.put_map_ready.Goals as goal

pub returns : goal.returns
returns c =
    let out = c.args.out.now.items in
    let it = c.args in
    on_ok c.put_small-3.result c.put_small-3.ensures (λ last.
    last
    ∙ ap (λ l. l ++ codes " incarnation " ++ decimal it.incarnation) (c.in_ok-put_small-2.ensures
    ∙ ap (λ l. l ++ codes " node " ++ decimal it.n) (c.in_ok-put_attempt.ensures
    ∙ ap (λ l. l ++ codes " " ++ attempt_text it.a.now) c.in_ok-put_small.ensures))
    ∙ four out (codes "MapReady ") (decimal it.map) (codes " ") (attempt_text it.a.now) (codes " node ") (decimal it.n) (codes " incarnation ") (decimal it.incarnation))
