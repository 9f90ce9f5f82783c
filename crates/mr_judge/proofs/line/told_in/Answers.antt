use Rattle.std.proofs.Common.{◌≡◌, ◌∷◌, ◌++◌, ℕ, List, Option, Some, None, IfSome, IfNone}
use Rattle.std.proofs.lemmas.Result.{IfOk-weaker}
use Rattle.mr_script.specs.Lines.{before, after, IsNoLine}
use Rattle.mr_judge.specs.declared.line.Told.{Told}
use Rattle.mr_judge.specs.Trace.{IsLine}
use Rattle.mr_judge.specs.inner.Reading.{ReadsTold}
use Rattle.mr_judge.proofs.Traces.{no_word, told_none, told_some}
use Rattle.mr_judge.proofs.line.told_in.Goals as goal

some_of : (line word rest : List ℕ) (found : Option Told) → line ≡ word ++ 32 ∷ rest → ReadsTold word rest found → IfSome found (IsLine line)
some_of line word rest None whole reads = tt
some_of line word rest (Some told) whole reads = told_some line word rest told whole reads

none_of : (line word rest : List ℕ) (found : Option Told) → before 32 line ≡ word → after 32 line ≡ Some rest → ReadsTold word rest found → IfNone found (IsNoLine IsLine line)
none_of line word rest None cut next reads = told_none line word rest cut next reads
none_of line word rest (Some told) cut next reads = tt

pub returns-in-None-clause-none : goal.returns-in-None-clause-none
returns-in-None-clause-none c = no_word c.args.line.now c.in-None.ensures.none.1

pub returns-in-Some-clause-some : goal.returns-in-Some-clause-some
returns-in-Some-clause-some c = IfOk-weaker c.told_of.result _ _ (λ found h. some_of c.args.line.now c.in-Some.word.now c.in-Some.rest.now found c.in-Some.ensures.whole h) c.told_of.ensures

pub returns-in-Some-clause-none : goal.returns-in-Some-clause-none
returns-in-Some-clause-none c = IfOk-weaker c.told_of.result _ _ (λ found h. none_of c.args.line.now c.in-Some.word.now c.in-Some.rest.now found c.in-Some.ensures.some.0 c.in-Some.ensures.some.1 h) c.told_of.ensures
