use Rattle.std.proofs.Common.{ℕ, suc, ◌+◌, ◌-◌, ◌≡◌, sym, subst, arith, length}
use Rattle.mr_explore_compared.proofs.Asked.{AskFrom, all-ask, counted, none-behind, one-more}
use Rattle.mr_explore_compared.proofs.packets.asking_last.Goals as goal

pub loop-last-init : goal.loop-last-init
loop-last-init c =
    let all : length c.args.bag.now ≡ length c.args.bag.now - 0 = omega arith in
    subst (λ (n : ℕ). AskFrom c.args.bag.now n) all (none-behind c.args.bag.now)

pub loop-last-preserved : goal.loop-last-preserved
loop-last-preserved c =
    let less = c.loop-last-test.true in
    let here : length c.args.bag.now - 1 - c.loop-last.last ≡ length c.args.bag.now - (c.loop-last.last + 1) = omega (arith, less) in
    let next : length c.args.bag.now - c.loop-last.last ≡ suc (length c.args.bag.now - 1 - c.loop-last.last) = omega (arith, less) in
    subst (λ (n : ℕ). AskFrom c.args.bag.now n) here
    (one-more c.args.bag.now (length c.args.bag.now - 1 - c.loop-last.last) c.index-bag-bag.result (omega (arith, less)) c.index-bag-bag.is (sym c.if-not-asks_in.ensures) (subst (λ (n : ℕ). AskFrom c.args.bag.now n) next c.loop-last.invariant))

pub returns-then-not-asks_in : goal.returns-then-not-asks_in
returns-then-not-asks_in c =
    let less = c.loop-last-test.true in
    let next : length c.args.bag.now - c.loop-last.last ≡ suc (length c.args.bag.now - 1 - c.loop-last.last) = omega (arith, less) in
    counted c.args.bag.now (length c.args.bag.now - 1 - c.loop-last.last) c.loop-last.last c.index-bag-bag.result (omega (arith, less)) c.index-bag-bag.is (sym c.if-not-asks_in.ensures) (subst (λ (n : ℕ). AskFrom c.args.bag.now n) next c.loop-last.invariant)

pub returns : goal.returns
returns c =
    let all = c.loop-last-test.false in
    let none : length c.args.bag.now - c.loop-last.last ≡ 0 = omega (arith, all) in
    all-ask c.args.bag.now (subst (λ (n : ℕ). AskFrom c.args.bag.now n) none c.loop-last.invariant)
