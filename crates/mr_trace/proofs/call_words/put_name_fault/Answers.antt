use Rattle.std.proofs.Common.{◌≡◌, ◌++◌, ◌∙◌, ap, sym, append_assoc, codes, decimal, Result, Ok, Err}
use Rattle.std.specs.Prelude.{OnOk}
use Rattle.mr_sim_commands.specs.committer.Text.{name_fault_text}
use Rattle.mr_trace.proofs.call_words.put_name_fault.Goals as goal

on_ok : {A E P Q : Type 0} (r : Result A E) → OnOk r P → (P → Q) → OnOk r Q
on_ok (Ok x) p f = f p
on_ok (Err e) p f = p

pub returns-in-Superseded : goal.returns-in-Superseded
returns-in-Superseded c =
    let out = c.args.out.now.items in
    on_ok c.put_small.result c.put_small.ensures (λ put.
    put ∙ append_assoc out (codes "Superseded ") (decimal c.in-Superseded.fence) ∙ ap (λ f. out ++ name_fault_text f) (sym c.in-Superseded.is))
