use Rattle.std.proofs.Common.{sym, subst, ◌++◌, ◌∷◌, [], List, ℕ}
use Rattle.mr_ids.specs.Attempt.{Attempt}
use Rattle.mr_history.specs.declared.record.Record.{Record}
use Rattle.mr_master_tables.specs.Earlier.{TellsPlaces}
use Rattle.mr_master_tables.proofs.Placing.{places-more, places-same, told-is}
use Rattle.mr_master_tables.proofs.successes.Places.note.Goals as goal

pub returns-in_default : goal.returns-in_default
returns-in_default c = λ rs tells. places-same c.args.self.now c.args.told.now c.in_default.ensures rs tells

pub returns : goal.returns
returns c = λ rs tells.
    let old = c.self.inside.map.entries in
    let new = c.insert.new.self.entries in
    let s = c.in-Some.success in
    subst (λ (r : Record). TellsPlaces new (rs ++ r ∷ [])) (sym (told-is c.args.told.now s.0 s.1 s.2 c.in-Some.ensures))
    (places-more old new s.0 s.1 s.2 c.in_ok-insert.ensures.updates.0 rs
    (subst (λ (m : List (Attempt × (ℕ × ℕ))). TellsPlaces m rs) (sym c.self.view_is) tells))
