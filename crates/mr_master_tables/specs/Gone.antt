-- That a node is given up, or was restarted: which launches and which outputs are gone with it. Our own: where code and definitions meet.
use Rattle.std.specs.Prelude.{Bool, Option, List, [], ◌∷◌, if◌then◌else◌}
use Rattle.mr_ids.specs.Attempt.{Attempt}
use Rattle.mr_ids.specs.declared.id.TaskId.{TaskId}
use Rattle.mr_master_model.specs.declared.launch.Launch.{Launch}
use Rattle.mr_master_model.specs.declared.setting.Setting.{Setting}
use Rattle.mr_master_model.specs.Job.{is_task}
use Rattle.mr_master_model.specs.Readings.{Seen, Place, launch_of, place_of, launched_below, launched_on, lies_below, lies_on, live_where, succeeded_where}
use Rattle.mr_master_model.specs.Hearing.{of_maps}
use Rattle.mr_master_tables.specs.declared.gone.Gone.{Gone}
use Rattle.mr_master_tables.specs.declared.gone.Gone.TheVariants.{Restarted, GivenUp}

abbrev pub is_gone : Gone → Option Launch → Bool
is_gone (Restarted n i) l = launched_below n i l
is_gone (GivenUp n) l = launched_on n l

abbrev pub is_lost : Gone → Option Place → Bool
is_lost (Restarted n i) p = lies_below n i p
is_lost (GivenUp n) p = lies_on n p

-- those of a task's live attempts that are gone, in order of arrival
abbrev pub gone_of : Setting → Seen → Gone → TaskId → List Attempt
gone_of w s g t = live_where w s (λ a. is_gone g (launch_of w s a)) t

-- a map's Succeeded attempt, if its output is lost
abbrev pub lost_of : Setting → Seen → Gone → TaskId → List Attempt
lost_of w s g t = of_maps t.kind (succeeded_where w s (λ a. is_lost g (place_of w s a)) t)

-- one attempt, if it is gone
abbrev pub if_gone : Setting → Seen → Gone → Attempt → List Attempt
if_gone w s g a = if is_gone g (launch_of w s a) then a ∷ [] else []

-- the list for a task of the job, and nothing for any other task
abbrev pub of_job : {A : Type 0} → Setting → TaskId → List A → List A
of_job w t as' = if is_task w t then as' else []
