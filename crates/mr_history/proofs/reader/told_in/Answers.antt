use Rattle.std.proofs.Common.{◌≡◌, ◌++◌, ◌∷◌, codes, Some, sym, ap, ◌∙◌, subst, inl, inr}
use Rattle.std.proofs.lemmas.Option.{IfSome_then}
use Rattle.mr_history.specs.Line.{line_of}
use Rattle.mr_history.specs.inner.Ending.{Ends}
use Rattle.mr_history.proofs.Endings.{telling, line_ends, is_told, quoted, unquoted}
use Rattle.mr_history.proofs.reader.told_in.Goals as goal

pub returns-in_default-clause-only : goal.returns-in_default-clause-only
unfolding line_of
returns-in_default-clause-only c r h e = elim (telling r h) [
  | inl failed ↦ c.unsuccessful.ensures.only (e ∙ ap line_of failed) ∙ ap Some (sym failed)
  | inr t ↦ absurd (c.in_default.ensures _ (e ∙ sym (line_ends t.attempt t.bytes r t.ends)))
]

pub returns-in_default-cut-clause-only : goal.returns-in_default-cut-clause-only
returns-in_default-cut-clause-only c r h e =
    let b = is_told c.args.text.now c.in-Some.rest.now r h c.in-Some.ensures e in
    absurd (unquoted c.in-Some.rest.now b.bytes b.attempt c.in_default-cut.ensures.none b.is)

pub returns-in_default-attempt_in-clause-only : goal.returns-in_default-attempt_in-clause-only
returns-in_default-attempt_in-clause-only c r h e =
    let b = is_told c.args.text.now c.in-Some.rest.now r h c.in-Some.ensures e in
    let cut = c.in-Some-cut.ensures.some in
    let q = quoted c.in-Some-cut.name.now c.in-Some-cut.rest.now b.bytes b.attempt cut.0 (sym cut.1 ∙ b.is) in
    let read = c.in_default-attempt_in.ensures.only b.attempt b.range q.0 in
    absurd (cc)

pub returns-clause-found : goal.returns-clause-found
returns-clause-found c = IfSome_then c.happened.result c.happened.ensures.found (λ r h.
    (h.0, c.in-Some.ensures ∙ ap (λ l. codes "{\"attempt\":\"" ++ l) (c.in-Some-cut.ensures.some.1 ∙ ap (λ l. l ++ 34 ∷ c.in-Some-cut.rest.now) c.in-Some-attempt_in.ensures.found.1) ∙ line_ends c.in-Some-attempt_in.attempt c.in-Some-cut.rest.now r h.1))

pub returns-clause-only : goal.returns-clause-only
returns-clause-only c r h e =
    let b = is_told c.args.text.now c.in-Some.rest.now r h c.in-Some.ensures e in
    let cut = c.in-Some-cut.ensures.some in
    let q = quoted c.in-Some-cut.name.now c.in-Some-cut.rest.now b.bytes b.attempt cut.0 (sym cut.1 ∙ b.is) in
    let read = c.in-Some-attempt_in.ensures.only b.attempt b.range q.0 in
    let same : c.in-Some-attempt_in.attempt ≡ b.attempt = cc in
    c.happened.ensures.only r h (subst (λ a. Ends a c.in-Some-cut.rest.now r) (sym same) (subst (λ l. Ends b.attempt l r) (sym q.1) b.ends))
