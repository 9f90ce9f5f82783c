use Rattle.std.proofs.Common.{◌≡◌, ◌<◌, ◌+◌, ◌++◌, ◌∷◌, [], ◌∙◌, ℕ, List, Bor, Bool, true, not, length, drop, get_or, map, if◌then◌else◌, is_ok, ap, arith}
use Rattle.std.proofs.lemmas.List.{drop_more}
use Rattle.mr_pipe_commands.proofs.Planning.{is_unread, one_more}
use Rattle.mr_pipe_commands.proofs.named.segments_of.Goals as goal

-- the names from one on: that one, and the others
from-one : (names : List (Bor (List ℕ))) (i : ℕ) → i < length names →
    map (λ (n : Bor (List ℕ)). n.now) (drop i names) ≡ (get_or names i (record { ref_ptr = (0, 0); now = [] })).now ∷ map (λ (n : Bor (List ℕ)). n.now) (drop (i + 1) names)
from-one names i h = ap (map (λ (n : Bor (List ℕ)). n.now)) (drop_more names i (record { ref_ptr = (0, 0); now = [] }) h)

pub returns-in-Err-clause-bad : goal.returns-in-Err-clause-bad
returns-in-Err-clause-bad g c =
    let names = c.args.names.now in
    let i = c.loop-name.name-index in
    let in_range : i < length names = omega arith in
    is_unread (g.I.Inputs.bytes c.args.inputs.now) (map (λ (n : Bor (List ℕ)). n.now) names) (map (λ (n : Bor (List ℕ)). n.now) (drop i names)) (get_or names i (record { ref_ptr = (0, 0); now = [] })).now
    (map (λ (n : Bor (List ℕ)). n.now) (drop (i + 1) names)) c.loop-name.segments.items c.in-Err.unread c.loop-name.invariant (from-one names i in_range) c.in-Err.ensures.bad

pub loop-name-preserved : goal.loop-name-preserved
loop-name-preserved g c =
    let names = c.args.names.now in
    let i = c.loop-name.name-index in
    let in_range : i < length names = omega arith in
    let segments = c.loop-name.segments.items in
    let is_in : is_ok c.push.result ≡ true = c.is_err.ensures.negation ∙ ap not c.if-is_err.false in
    let put : c.push.new.self.items ≡ segments ++ c.in-Ok.bytes.items ∷ [] =
    c.push.ensures.items ∙ ap (λ (b : Bool). if b then segments ++ c.from_vec.result ∷ [] else segments) is_in ∙ ap (λ x. segments ++ x ∷ []) c.from_vec.ensures in
    one_more (g.I.Inputs.bytes c.args.inputs.now) (map (λ (n : Bor (List ℕ)). n.now) names) (map (λ (n : Bor (List ℕ)). n.now) (drop i names)) (get_or names i (record { ref_ptr = (0, 0); now = [] })).now
    c.in-Ok.bytes.items (map (λ (n : Bor (List ℕ)). n.now) (drop (i + 1) names)) segments c.push.new.self.items c.loop-name.invariant (from-one names i in_range) c.in-Ok.ensures.ok put
