use Rattle.std.proofs.Common.{rules, ◌≡◌, ◌≢◌, ℕ, ◌+◌, List, ◌∷◌, sym, ap, ◌∙◌, take, arith}
use borrow.Author.Tests.{tests}
use Rattle.std.proofs.lemmas.Iterator.{YieldsList-from_slice, IsFirst-from_position}
use Rattle.mr_user.specs.Sequential.{lines_of}
use Rattle.mr_user.proofs.Lines.{first_line, only_line, rest_is}
use Rattle.mr_user.proofs.line.next_line.Goals as goal

pub returns-in-Some-clause-lines : goal.returns-in-Some-clause-lines
returns-in-Some-clause-lines c =
    let bytes = c.args.bytes.now in
    let first = IsFirst-from_position _ _ _ (λ b. b ≡ 10) (λ b. b ≢ 10) c.in-Some.ensures.ran (YieldsList-from_slice bytes c.iter.ensures.rest) (λ x q k. search (rules, tests)) (λ x q k. search (rules, tests)) in
    first_line bytes c.in-Some.end first.0 (first.1 0) (λ k h. first.2 k 0 (omega arith) h)
    ∙ ap (λ (rest : List ℕ). take c.in-Some.end bytes ∷ lines_of rest) (sym (rest_is bytes (c.in-Some.end + 1)))

pub returns-in-None-clause-lines : goal.returns-in-None-clause-lines
returns-in-None-clause-lines c =
    let bytes = c.args.bytes.now in
    let none = IsFirst-from_position _ _ _ (λ b. b ≡ 10) (λ b. b ≢ 10) c.in-None.ensures.ran (YieldsList-from_slice bytes c.iter.ensures.rest) (λ x q k. search (rules, tests)) (λ x q k. search (rules, tests)) in
    only_line bytes c.requires (λ k h. none k 0 (omega arith) h)
