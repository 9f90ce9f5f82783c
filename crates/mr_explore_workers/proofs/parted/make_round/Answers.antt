use Rattle.std.proofs.Common.{◌≡◌, ◌∷◌, ◌++◌, ℕ, ◌<◌, List, true, length, sym, ◌∙◌, subst}
use Rattle.mr_explore_places.specs.Going.{Stops}
use Rattle.mr_explore_noted.proofs.Going.{handed_on}
use Rattle.mr_explore_workers.specs.inner.Working.{HaveWorked, Working, is_taken, taken}
use Rattle.mr_explore_workers.proofs.Dividing.{all_done, next_comes, next_stops, round_worked}
use Rattle.mr_explore_workers.proofs.parted.make_round.Goals as goal

pub returns-in_err-next-clause-fault : goal.returns-in_err-next-clause-fault
returns-in_err-next-clause-fault g c bounds first h =
    handed_on (Stops g.R.Run.steps bounds.faults bounds.steps first) c.in_err-next.field-0.0 c.from_residual.result c.from_residual.ensures.1
    (next_stops g.R.Run.steps g.R.AlikeRun.rest g.R.AlikeRun.before g.R.AlikeRun.void g.R.AlikeRun.like g.R.AlikeRun.ends g.R.NotedRun.end g.R.NotedRun.events bounds first (λ r. r.is_last) (λ r. r.parts.items) c.args.round.now.is_last c.args.round.now.parts.items c.args.leader.now.search c.lead.new.leader.search c.args.leader.now.noted c.lead.new.leader.noted (c.args.leader.now.worker ∷ c.args.others.now.items) c.in_err-next.field-0.0 c.in_err-next.ensures.next h)

pub returns-in_err-have_searched-clause-fault : goal.returns-in_err-have_searched-clause-fault
returns-in_err-have_searched-clause-fault g c bounds first h =
    let given = taken c.args.round.now.parts.items (c.lead.new.leader.worker ∷ c.lead.new.others.items) ++ h.0 in
    handed_on (Stops g.R.Run.steps bounds.faults bounds.steps first) c.in_err-have_searched.field-0.0 c.from_residual-in_err-have_searched.result c.from_residual-in_err-have_searched.ensures.1
    (c.in_err-have_searched.ensures.fault bounds first given
    (subst (λ (ws : List (Working g.row.R.Denot g.row.R-Fault.Denot)). HaveWorked g.R.Run.steps g.R.AlikeRun.rest g.R.AlikeRun.before g.R.AlikeRun.void g.R.AlikeRun.like g.R.AlikeRun.ends g.R.NotedRun.end g.R.NotedRun.events bounds first given (c.lead.new.leader.worker ∷ ws)) (sym c.deref.ensures.value)
    (round_worked g.R.Run.steps g.R.AlikeRun.rest g.R.AlikeRun.before g.R.AlikeRun.void g.R.AlikeRun.like g.R.AlikeRun.ends g.R.NotedRun.end g.R.NotedRun.events bounds first c.args.round.now.is_last c.args.round.now.parts.items c.args.leader.now.search c.args.leader.now.noted (c.args.leader.now.worker ∷ c.args.others.now.items) (c.lead.new.leader.worker ∷ c.lead.new.others.items) (c.in_ok-next.ensures.leader, c.in_ok-next.ensures.others) h)))

pub returns-clause-next : goal.returns-clause-next
returns-clause-next g c bounds first h =
    let all : (place : ℕ) → place < length c.args.round.now.parts.items → is_taken place (c.lead.new.leader.worker ∷ c.lead.new.others.items) ≡ true =
    λ place few. subst (λ (ws : List (Working g.row.R.Denot g.row.R-Fault.Denot)). is_taken place (c.lead.new.leader.worker ∷ ws) ≡ true) c.deref.ensures.value (c.in_ok-have_searched.ensures.all place (subst (λ (n : ℕ). place < n) (sym (c.len.ensures ∙ c.args.round.now.parts.ok.0)) few)) in
    next_comes g.R.Run.steps g.R.AlikeRun.rest g.R.AlikeRun.before g.R.AlikeRun.void g.R.AlikeRun.like g.R.AlikeRun.ends g.R.NotedRun.end g.R.NotedRun.events bounds first (λ r. r.is_last) (λ r. r.parts.items) c.args.round.now.is_last c.args.round.now.parts.items c.args.leader.now.search c.lead.new.leader.search c.args.leader.now.noted c.lead.new.leader.noted (c.args.leader.now.worker ∷ c.args.others.now.items) (c.lead.new.leader.worker ∷ c.lead.new.others.items) c.in_ok-next.next c.in_ok-next.ensures.next (c.in_ok-next.ensures.leader, c.in_ok-next.ensures.others) all h

pub returns-clause-done : goal.returns-clause-done
returns-clause-done g c bounds first h =
    let all : (place : ℕ) → place < length c.args.round.now.parts.items → is_taken place (c.lead.new.leader.worker ∷ c.lead.new.others.items) ≡ true =
    λ place few. subst (λ (ws : List (Working g.row.R.Denot g.row.R-Fault.Denot)). is_taken place (c.lead.new.leader.worker ∷ ws) ≡ true) c.deref.ensures.value (c.in_ok-have_searched.ensures.all place (subst (λ (n : ℕ). place < n) (sym (c.len.ensures ∙ c.args.round.now.parts.ok.0)) few)) in
    all_done g.R.Run.steps g.R.AlikeRun.rest g.R.AlikeRun.before g.R.AlikeRun.void g.R.AlikeRun.like g.R.AlikeRun.ends g.R.NotedRun.end g.R.NotedRun.events bounds first (λ r. r.is_last) (λ r. r.parts.items) c.args.round.now.is_last c.args.round.now.parts.items c.args.leader.now.search c.lead.new.leader.search c.args.leader.now.noted c.lead.new.leader.noted (c.args.leader.now.worker ∷ c.args.others.now.items) (c.lead.new.leader.worker ∷ c.lead.new.others.items) c.in_ok-next.next c.in_ok-next.ensures.next (c.in_ok-next.ensures.leader, c.in_ok-next.ensures.others) all h
