use Rattle.std.proofs.Common.{◌++◌, sym, ap, ◌∙◌, append_assoc, rules}
use Rattle.mr_script_writer.specs.Repeating.{comment, commented}
use Rattle.mr_script_writer.proofs.Comments.{commented-cut, commented-last}
use Rattle.mr_script_writer.proofs.comment.put_comments.Goals as goal

pub loop-line-preserved : goal.loop-line-preserved
loop-line-preserved c =
    let some = c.in-Some.ensures.some in
    ap (λ z. z ++ commented c.in-Some.after.now) c.in_ok-put_comment.ensures
    ∙ append_assoc c.loop-line.out.items (comment c.in-Some.line.now) (commented c.in-Some.after.now)
    ∙ ap (λ z. c.loop-line.out.items ++ z) (sym (commented-cut c.loop-line.rest.now c.in-Some.line.now c.in-Some.after.now some.0 some.1))
    ∙ c.loop-line.invariant

pub returns : goal.returns
returns c =
    c.in_ok-put_comment-2.ensures
    ∙ ap (λ z. c.loop-line.out.items ++ z) (sym (commented-last c.loop-line.rest.now c.in_default.ensures.none.1 (search rules)))
    ∙ c.loop-line.invariant
