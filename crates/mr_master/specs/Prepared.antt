-- What is prepared before a step is taken: the words of mr_master_state, as the contracts here cite them.
pub use Rattle.mr_master_events.specs.mr_master_state.specs.Prepared.{Prepared, changed_by, IsNothing, IsAt, LaunchesAt, KnowsThen, IsSound, HasRecordRoom, HasLaunchRoom, room_of, HasRoomFor, HasRoom, IsForBars, IsExpiry, IsOne, Plans, PlansFor, IsReadyFor, IsReadyForStep, PlansDue}
