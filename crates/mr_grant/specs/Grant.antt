-- Permission to commit a task. That the attempt which asks first is the commit attempt, and that all others are told no, is what
-- `canCommit` of Hadoop's application master does. (It is `TaskImpl.canCommit`, asked over the umbilical protocol.) Our own profile is that
-- those who ask later wait in their order, and that the next is named when the first is released. So is that the permission can be fixed
-- for good.
use Rattle.std.specs.Prelude.{Bool, true, false, List, [], ◌∷◌, if◌then◌else◌}
use Rattle.mr_ids.specs.Attempt.{Attempt}
use Rattle.mr_grant.specs.Attempts.{is_first, with_last, without}

-- what a grant keeps: the attempts that asked and were not released, each once, in order of arrival; and whether it is fixed
pub record Askers : Type 0 where
  pub attempts : List Attempt
  pub is_fixed : Bool

-- nobody asked
abbrev pub nobody : Askers
nobody = record { attempts = []; is_fixed = false }

-- a asks: it is the last, if it is not there
abbrev pub after_pending : Askers → Attempt → Askers
after_pending g a = record { attempts = with_last g.attempts a; is_fixed = g.is_fixed }

-- a is released: it is taken out, unless the grant is fixed
abbrev pub after_release : Askers → Attempt → Askers
after_release g a = if g.is_fixed then g else record { attempts = without g.attempts a; is_fixed = false }

-- a is to be the one for good: so it is if it is the first, and else nothing happens
abbrev pub after_fix : Askers → Attempt → Askers
after_fix g a = if is_first g.attempts a then record { attempts = g.attempts; is_fixed = true } else g

-- the calls that change a grant
pub data Call : Type 0 where
  Pending : Attempt → Call
  Release : Attempt → Call
  Fix : Attempt → Call

abbrev pub after_call : Askers → Call → Askers
after_call g (Pending a) = after_pending g a
after_call g (Release a) = after_release g a
after_call g (Fix a) = after_fix g a

-- what some calls leave, the newest first
abbrev pub after_calls : Askers → List Call → Askers
after_calls g [] = g
after_calls g (call ∷ calls) = after_call (after_calls g calls) call
