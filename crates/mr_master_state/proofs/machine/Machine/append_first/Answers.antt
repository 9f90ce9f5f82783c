use Rattle.std.proofs.Common.{sym, refl, take, drop, ◌++◌}
use Rattle.mr_master_state.proofs.Parts.{with-writing}
use Rattle.mr_master_state.proofs.Keeping.{held, by-seen}
use Rattle.mr_master_state.proofs.Flushes.{first-moved}
use Rattle.mr_master_state.proofs.machine.Machine.append_first.Goals as goal

pub returns : goal.returns
returns c = λ w s keeps. let k = held c.self.view_is keeps in
    by-seen w (sym (first-moved s s.due refl)) (with-writing c.append_first.new.self (drop 1 s.due) (s.tail ++ take 1 s.due) (c.append_first.ensures s.due s.tail k.writing) k)
