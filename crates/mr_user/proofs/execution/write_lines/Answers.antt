use Rattle.std.proofs.Common.{◌≡◌, ◌∙◌, ◌<◌, ◌+◌, ◌++◌, ◌∷◌, [], ℕ, List, Vec, Global, length, map, take, get_or, ap, sym, append-nil}
use Rattle.std.proofs.lemmas.List.{flat_map_more, map-append, take_all, take_more}
use Rattle.std.specs.List.{flat_map}
use Rattle.mr_user.proofs.execution.write_lines.Goals as goal

-- One text more.
texts_more : {T : Type 0} (line_of : List ℕ → List ℕ) (bytes : T → List ℕ) (begun was now : List ℕ) (texts : List T) (i : ℕ) (text : T) → i < length texts → text ≡ get_or texts i text →
    was ≡ begun ++ flat_map line_of (map bytes (take i texts)) → now ≡ was ++ line_of (bytes text) → now ≡ begun ++ flat_map line_of (map bytes (take (i + 1) texts))
texts_more line_of bytes begun was now texts i text within at so_far is =
    is
    ∙ ap (λ w. w ++ line_of (bytes text)) so_far
    ∙ flat_map_more line_of begun (map bytes (take i texts)) (bytes text)
    ∙ ap (λ w. begun ++ flat_map line_of w) (sym (map-append bytes (take i texts) (text ∷ [])))
    ∙ ap (λ w. begun ++ flat_map line_of (map bytes w)) (sym (take_more texts i text within ∙ ap (λ t. take i texts ++ t ∷ []) (sym at)))

pub loop-value-init : goal.loop-value-init
loop-value-init g c = sym (append-nil c.args.out.now.items)

pub loop-value-preserved : goal.loop-value-preserved
loop-value-preserved g c =
    let name = c.in_ok-name.name.items in
    let line : c.put_line.new.out.items ≡ c.loop-value.out.items ++ (name ++ 9 ∷ c.value-item.result.items ++ 10 ∷ []) =
    c.in_ok-put_line.ensures
    ∙ ap (λ w. c.loop-value.out.items ++ (w ++ 9 ∷ c.deref-in-loop-value.result.now ++ 10 ∷ [])) c.deref.ensures.value
    ∙ ap (λ w. c.loop-value.out.items ++ (name ++ 9 ∷ w ++ 10 ∷ [])) c.deref-in-loop-value.ensures.value in
    texts_more (λ t. name ++ 9 ∷ t ++ 10 ∷ []) (λ (t : Vec ℕ Global). t.items) c.args.out.now.items c.loop-value.out.items c.put_line.new.out.items c.deref-value-items.result.now c.loop-value.value-index c.value-item.result
    c.loop-value-test.true c.value-item.is c.loop-value.invariant line

pub returns : goal.returns
returns g c =
    let lines : List ℕ → List (List ℕ) → List ℕ = λ name texts. c.args.out.now.items ++ flat_map (λ text. name ++ 9 ∷ text ++ 10 ∷ []) texts in
    let items : Vec ℕ Global → List ℕ = λ text. text.items in
    c.loop-value.invariant
    ∙ ap (lines c.in_ok-name.name.items)
    (ap (map items) (take_all c.loop-value.value-index c.deref-value-items.result.now c.loop-value-test.false ∙ c.deref-value-items.ensures.value) ∙ c.in_ok-reduce.ensures)
    ∙ ap (λ name. lines name (g.J.Job.functions.reduced c.args.key.now c.args.values.now)) c.in_ok-name.ensures
