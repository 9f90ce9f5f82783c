use Rattle.std.proofs.Common.{inl, sym, ap, subst, ◌∙◌}
use Rattle.std.specs.Option.{option_map}
use Rattle.mr_explore_ends.specs.Table.{noted}
use Rattle.mr_explore.specs.Exploring.{Fails, Remaining, came}
use Rattle.mr_explore.proofs.Making.{made_as, none_left, walk_failed, walk_made}
use Rattle.mr_explore.proofs.exploration.Exploration.make_one.Goals as goal

pub returns-in_ok-met-in-Ok-Some : goal.returns-in_ok-met-in-Ok-Some
returns-in_ok-met-in-Ok-Some c =
    let e = c.in-Ok-Some.ended in
    let same = ap (λ (x : Remaining). x.faults) c.self.view_is in
    let held = ap (λ (x : Remaining). x.table) c.self.view_is in
    made_as (option_map (λ g. g.now) c.args.goal) c.args.self.now (record { left = c.next_run.new.self; faults = c.self.inside.faults; table = _ }) (record { faults = e.faults; run = e.run }) c.in_ok-met-in-Ok-Some.met (record {
      is = walk_made c.args.self.now c.self.inside.walk c.next_run.new.self c.in-Ok-Some.field-0 e (sym (ap (λ (x : Remaining). x.left) c.self.view_is)) c.in-Ok-Some.field-0-is c.in-Ok-Some.ensures;
      faults = same;
      table = c.in_ok-met-in-Ok-Some.ensures.noted ∙ ap (noted (came (record { faults = e.faults; run = e.run }))) held;
    }) c.in_ok-met-in-Ok-Some.ensures.met

pub returns-in-Ok-None : goal.returns-in-Ok-None
returns-in-Ok-None c =
    let none = none_left c.self.inside.walk c.next_run.new.self c.in-Ok-None.field-0 c.in-Ok-None.field-0-is c.in-Ok-None.ensures in
    inl (
      sym (ap (λ (x : Remaining). x.left) c.self.view_is) ∙ none.0,
      (λ i. record { left = (none.1 ∙ sym none.0) i; faults = c.self.inside.faults; table = c.self.inside.table }) ∙ c.self.view_is,
    )

pub returns-in-Err : goal.returns-in-Err
returns-in-Err c =
    subst (Fails 1 (option_map (λ g. g.now) c.args.goal) c.args.self.now) (sym c.sim_fault.ensures)
    (walk_failed (option_map (λ g. g.now) c.args.goal) c.args.self.now c.self.inside.walk c.in-Err.fault c.next_run.new.self (sym (ap (λ (x : Remaining). x.left) c.self.view_is)) c.in-Err.ensures)
