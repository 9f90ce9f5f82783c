-- The record as a JSON value: its line is that value's compact text, and nothing else is.
-- Our own profile: how a record of Hadoop's job history is written here.
use Rattle.std.specs.Prelude.{List, ℕ, codes, Some, None}
use Rattle.serde_json.specs.Data.{Data, number, unsigned, string, object, Members, member, no_members}
use Rattle.mr_ids.specs.Attempt.{Attempt}
use Rattle.mr_ids.specs.Text.{attempt_text}
use Rattle.mr_history.specs.declared.record.Record.{Record}
use Rattle.mr_history.specs.declared.record.Record.TheVariants.{AttemptStarted, MapSucceeded, ReduceSucceeded, AttemptFailed, JobUnsuccessful}

-- the members that tell of an attempt, and what happened
abbrev pub members : Attempt → List ℕ → Members
members a event = member (codes "attempt") (string (attempt_text a)) (member (codes "event") (string event) no_members)

-- an object that tells of an attempt: the attempt, what happened, and more
abbrev pub told : Attempt → List ℕ → Members → Data
told a event more = object (member (codes "attempt") (string (attempt_text a)) (member (codes "event") (string event) more))

abbrev pub value_of : Record → Data
value_of (AttemptStarted a node) = told a (codes "started") (member (codes "node") (number (unsigned node)) no_members)
value_of (MapSucceeded a node incarnation) = told a (codes "map") (member (codes "incarnation") (number (unsigned incarnation)) (member (codes "node") (number (unsigned node)) no_members))
value_of (ReduceSucceeded a None) = told a (codes "reduce") no_members
value_of (ReduceSucceeded a (Some bytes)) = object (member (codes "attempt") (string (attempt_text a)) (member (codes "bytes") (number (unsigned bytes)) (member (codes "event") (string (codes "reduce")) no_members)))
value_of (AttemptFailed a) = told a (codes "failed") no_members
value_of JobUnsuccessful = object (member (codes "event") (string (codes "unsuccessful")) no_members)
