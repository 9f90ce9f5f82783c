-- Why a launch comes to nothing: the words of mr_master_events, as the contracts here cite them.
pub use Rattle.mr_master_events.specs.Refused.{MOST_CONTAINERS, error_of, launch_error}
pub use Rattle.mr_master_events.specs.declared.launch.LaunchError.{LaunchError}
