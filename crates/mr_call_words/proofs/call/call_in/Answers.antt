use Rattle.std.proofs.Common.{◌≡◌, ◌++◌, IfSome, sym, ap, subst, ◌∙◌}
use Rattle.std.proofs.lemmas.Bool.{false≢true}
use Rattle.std.proofs.lemmas.Bool.Decides.{Decides-eqb}
use Rattle.std.proofs.lemmas.Slice.Eq.{slice_eq-Decides}
use Rattle.mr_call_words.specs.Words.{IsCall, call_line}
use Rattle.mr_call_words.proofs.Found.{call_found}
use Rattle.mr_call_words.proofs.call.call_in.Goals as goal

pub returns-then-eq : goal.returns-then-eq
returns-then-eq c =
    let same = (slice_eq-Decides Decides-eqb c.as_slice.result.now c.args.line.now c.eq.result c.eq.ensures).0 c.if-eq.true in
    record {
      fits = subst (λ o. IfSome o IsCall) c.in-Some.is c.in_ok-call.ensures.fits;
      is = sym same ∙ c.as_slice.ensures.value ∙ c.in_ok-put_call.ensures ∙ ap (λ l. l ++ call_line c.in-Some.call) c.new-written.ensures.items;
      only = λ told ok e. sym c.in-Some.is ∙ c.in_ok-call.ensures.only told ok (call_found c.args.line.now c.deref.result.now told (c.deref.ensures.value ∙ c.in_ok-words.ensures) ok e);
    }

pub returns : goal.returns
returns c = record {
  fits = tt;
  is = tt;
  only = λ told ok e.
      let found = sym c.in-Some.is ∙ c.in_ok-call.ensures.only told ok (call_found c.args.line.now c.deref.result.now told (c.deref.ensures.value ∙ c.in_ok-words.ensures) ok e) in
      let same : c.in-Some.call ≡ told = cc in
      let line = c.as_slice.ensures.value ∙ c.in_ok-put_call.ensures ∙ ap (λ l. l ++ call_line c.in-Some.call) c.new-written.ensures.items ∙ ap call_line same ∙ sym e in
      absurd (false≢true (sym c.if-eq.false ∙ (slice_eq-Decides Decides-eqb c.as_slice.result.now c.args.line.now c.eq.result c.eq.ensures).1 line));
}
