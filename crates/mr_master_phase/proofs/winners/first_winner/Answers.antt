use Rattle.std.proofs.Common.{◌≡◌, ◌∙◌, refl, sym, ap, ◌<◌, ◌≤◌, List, [], ◌∷◌, length, take, get_or, arith}
use Rattle.mr_commit.specs.Recovery.{recover_task}
use Rattle.mr_recover.specs.declared.winner.TaskWinner.{TaskWinner}
use Rattle.mr_master_model.specs.Answered.{takes_over, next_winner}
use Rattle.mr_master_phase.proofs.winners.first_winner.Goals as goal

take-none : (xs : List TaskWinner) → length xs ≤ 0 → take 1 xs ≡ []
take-none [] none = refl
take-none (x ∷ xs) none = absurd (omega arith)

take-one : (xs : List TaskWinner) (x : TaskWinner) → 0 < length xs → x ≡ get_or xs 0 x → take 1 xs ≡ x ∷ []
take-one [] x some is = absurd (omega arith)
take-one (y ∷ ys) x some is = ap (λ (z : TaskWinner). z ∷ []) (sym is)

pub returns-in_default : goal.returns-in_default
returns-in_default c =
    c.running.ensures ∙ ap (λ (l : List TaskWinner). next_winner c.args.setting.now l) (sym (take-none c.args.others.now.items c.in_default.ensures.item.3))

pub returns : goal.returns
returns c =
    let w = c.args.setting.now in
    let x = c.in-Some.winner.now in
    c.in_ok-work.ensures
    ∙ ap (λ (l : List TaskWinner). takes_over x (recover_task w.layout.dest w.app x.task x.bytes) l) c.new.ensures.items
    ∙ ap (λ (l : List TaskWinner). next_winner w l) (sym (take-one c.args.others.now.items x c.in-Some.ensures.item.3.0 (c.in-Some.ensures.item.3.1 x)))
