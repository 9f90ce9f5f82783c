use Rattle.std.proofs.Common.{ℕ, List, length, ◌==◌, sym, ap, ◌∙◌}
use Rattle.std.proofs.lemmas.Bool.{false≢true}
use Rattle.std.proofs.lemmas.Result.{IfOk-weaker}
use Rattle.mr_call_words.proofs.PathWords.{path_found}
use Rattle.mr_call_words.proofs.path.path_in.Goals as goal

pub returns-clause-only : goal.returns-clause-only
returns-clause-only c =
    IfOk-weaker c.names_in.result _ _
    (λ found h path all is. path_found c.args.text.now c.in-Some.rest.now found path c.in-Some.ensures.some (λ e. false≢true (sym c.if-is_empty.false ∙ c.is_empty.ensures ∙ ap (λ (l : List ℕ). length l == 0) e)) h all is)
    c.names_in.ensures.only
