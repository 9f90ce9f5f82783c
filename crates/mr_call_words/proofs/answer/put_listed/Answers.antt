use Rattle.std.proofs.lemmas.Result.{IfOk-weaker}
use Rattle.mr_call_words.proofs.Found.{listed_text}
use Rattle.mr_call_words.proofs.answer.put_listed.Goals as goal

pub returns : goal.returns
returns c =
    IfOk-weaker c.put_entries.result _ _
    (λ _ h. listed_text c.args.out.now.items c.put_first.new.out.items c.put_entries.new.out.items c.args.entries.now c.as_slice.result.now c.in_ok-put_first.ensures h c.as_slice.ensures)
    c.put_entries.ensures
