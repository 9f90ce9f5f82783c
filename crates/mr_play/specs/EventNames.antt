-- The names of a script's events: which of them are a master's duties and a container's wishes (our own profile).
use Rattle.std.specs.Prelude.{Bool, false, List, Option, Some, None}
use Rattle.std.specs.List.{list_any}
use Rattle.std.specs.Str.{bytes_eq}
use Rattle.mr_master_model.specs.declared.phase.DutyName.{DutyName}
use Rattle.mr_master_model.specs.declared.phase.DutyName.TheVariants as duty
use Rattle.mr_container.specs.declared.wish.Wish.{Wish}
use Rattle.mr_container.specs.declared.wish.Wish.TheVariants as wish
use Rattle.mr_script.specs.declared.event_name.EventName.{EventName}
use Rattle.mr_script.specs.declared.event_name.EventName.TheVariants as name
use Rattle.mr_script.specs.Names.{name_text}

-- the name of a master's duty
abbrev pub duty_event : DutyName → EventName
duty_event duty.Marks = name.Marks
duty_event duty.Read = name.Read
duty_event duty.Setup = name.Setup
duty_event duty.Recover = name.Recover
duty_event duty.Bar = name.Bar
duty_event duty.Append = name.Append
duty_event duty.Flush = name.Flush
duty_event duty.Started = name.Started
duty_event duty.Merge = name.Merge
duty_event duty.Cleanup = name.Cleanup
duty_event duty.Marker = name.Marker
duty_event duty.Success = name.Success
duty_event duty.Fail = name.Fail
duty_event duty.Abort = name.Abort

-- the name of a container's wish, but where it came to its end
abbrev pub wish_event : Wish → Option EventName
wish_event (wish.Where m) = Some name.Where
wish_event (wish.Fetch a n i) = Some name.Fetch
wish_event (wish.Lost a) = Some name.Lost
wish_event wish.Compute = Some name.Compute
wish_event wish.Mkdirs = Some name.Mkdirs
wish_event wish.Create = Some name.Create
wish_event wish.Write = Some name.Write
wish_event wish.Close = Some name.Close
wish_event wish.Needs = Some name.Needs
wish_event wish.Pending = Some name.Pending
wish_event wish.Poll = Some name.Poll
wish_event wish.Look = Some name.Look
wish_event wish.Clear = Some name.Clear
wish_event wish.Rename = Some name.Rename
wish_event wish.Report = Some name.Report
wish_event wish.Abort = Some name.Abort
wish_event wish.Failed = Some name.Failed
wish_event wish.Over = None

-- a calm that stops before a name, if it is told one, stops at an event with these names
abbrev pub stops_at : Option EventName → List EventName → Bool
stops_at None names = false
stops_at (Some n) names = list_any (λ m. bytes_eq (name_text n) (name_text m)) names
