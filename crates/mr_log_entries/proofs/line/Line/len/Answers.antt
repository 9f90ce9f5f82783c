use Rattle.std.proofs.Common.{length, ap, ◌∙◌, arith}
use Rattle.mr_log_entries.specs.declared.line.Line.{Line}
use Rattle.mr_log_entries.specs.Texts.{line_text}
use Rattle.mr_log_entries.proofs.Widths.{length-started, length-won, length-failed, length-interrupted, length-unsuccessful, length-publish, length-published}
use Rattle.mr_log_entries.proofs.line.Line.len.Goals as goal

pub returns-in-Started-clause-len : goal.returns-in-Started-clause-len
returns-in-Started-clause-len c =
    let w = ap (λ (l : Line). length (line_text l)) c.in-Started.is ∙ length-started c.in-Started.a in
    let t = c.attempt_len.ensures.len in
    omega arith

pub returns-in-Won-clause-len : goal.returns-in-Won-clause-len
returns-in-Won-clause-len c =
    let w = ap (λ (l : Line). length (line_text l)) c.in-Won.is ∙ length-won c.in-Won.attempt c.in-Won.handed in
    let t = c.attempt_len-in-Won.ensures.len in
    let h = c.handed_len.ensures.len in
    omega arith

pub returns-in-Failed-clause-len : goal.returns-in-Failed-clause-len
returns-in-Failed-clause-len c =
    let w = ap (λ (l : Line). length (line_text l)) c.in-Failed.is ∙ length-failed c.in-Failed.a in
    let t = c.attempt_len-in-Failed.ensures.len in
    omega arith

pub returns-in-Interrupted-clause-len : goal.returns-in-Interrupted-clause-len
returns-in-Interrupted-clause-len c =
    let w = ap (λ (l : Line). length (line_text l)) c.in-Interrupted.is ∙ length-interrupted c.in-Interrupted.a in
    let t = c.attempt_len-in-Interrupted.ensures.len in
    omega arith

pub returns-in-Unsuccessful-clause-len : goal.returns-in-Unsuccessful-clause-len
returns-in-Unsuccessful-clause-len c = let w = ap (λ (l : Line). length (line_text l)) c.in-Unsuccessful.is ∙ length-unsuccessful in omega arith

pub returns-in-Publish-clause-len : goal.returns-in-Publish-clause-len
returns-in-Publish-clause-len c = let w = ap (λ (l : Line). length (line_text l)) c.in-Publish.is ∙ length-publish in omega arith

pub returns-in-Published-clause-len : goal.returns-in-Published-clause-len
returns-in-Published-clause-len c = let w = ap (λ (l : Line). length (line_text l)) c.in-Published.is ∙ length-published in omega arith
