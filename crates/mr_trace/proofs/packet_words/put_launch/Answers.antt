use Rattle.std.proofs.Common.{◌++◌, ◌∷◌, ◌∙◌, ap, append_assoc, codes, decimal}
use Rattle.mr_ids.specs.Text.{attempt_text}
use Rattle.mr_script.specs.Words.{container_word}
use Rattle.mr_trace.proofs.Appended.{on_ok, two}
use Rattle.mr_trace.proofs.packet_words.put_launch.Goals as goal

pub returns : goal.returns
returns c =
    let out = c.args.out.now.items in
    let of = container_word c.args.c.now in
    let attempt = 32 ∷ attempt_text c.args.a.now in
    on_ok c.put_small.result c.put_small.ensures (λ last.
    last
    ∙ ap (λ l. l ++ codes " incarnation " ++ decimal c.args.incarnation) c.in_ok-put_of.ensures
    ∙ two (out ++ codes "Launch ") of attempt (codes " incarnation ") (decimal c.args.incarnation)
    ∙ append_assoc out (codes "Launch ") (of ++ (attempt ++ (codes " incarnation " ++ decimal c.args.incarnation))))
