-- What becomes of an attempt, by the marks of a run (our own profile).
use Rattle.std.specs.Prelude.{ℕ, Bool, List, [], ◌∷◌, Option, Some, None, if◌then◌else◌, is_some, option_and_then}
use Rattle.mr_ids.specs.Attempt.{Attempt}
use Rattle.mr_trace_marks.specs.declared.mark.Mark.{Mark}
use Rattle.mr_trace_marks.specs.declared.mark.Sign.{Sign}
use Rattle.mr_trace_marks.specs.declared.mark.Sign.TheVariants as sign
use Rattle.mr_trace_marks.specs.declared.fate.Fate.{Fate}
use Rattle.mr_trace_marks.specs.declared.fate.Fate.TheVariants as fate
use Rattle.mr_trace_marks.specs.declared.fate.TheConstants.{FATES}
use Rattle.mr_trace_marks.specs.Marks.{is_of}

-- the place of the first mark of an attempt with a sign
abbrev pub place_of : List Mark → Attempt → Sign → Option ℕ
place_of [] a s = None
place_of (m ∷ ms) a s = if is_of m a s then Some m.place else place_of ms a s

-- the sign of the mark that decides a fate
abbrev pub sign_of : Fate → Option Sign
sign_of fate.Won = Some sign.Won
sign_of fate.Lost = Some sign.Lost
sign_of fate.Failed = Some sign.Failed
sign_of fate.Died = Some sign.Died
sign_of fate.Restarted = Some sign.Restarted
sign_of fate.GivenUp = Some sign.GivenUp
sign_of fate.Killed = Some sign.Killed
sign_of fate.Undecided = Some sign.Recorded
sign_of fate.Refused = Some sign.Refused
sign_of fate.Superseded = Some sign.Superseded
sign_of fate.Unfinished = None

-- the place of the first mark that decides a fate
abbrev pub event_of : List Mark → Attempt → Fate → Option ℕ
event_of ms a f = option_and_then (place_of ms a) (sign_of f)

abbrev pub has : List Mark → Attempt → Fate → Bool
has ms a f = is_some (event_of ms a f)

-- the first of these fates that a mark decides
abbrev pub decided_by : List Fate → List Mark → Attempt → Fate
decided_by [] ms a = fate.Unfinished
decided_by (f ∷ fs) ms a = if has ms a f then f else decided_by fs ms a

-- the weightiest
abbrev pub fate_of : List Mark → Attempt → Fate
fate_of ms a = decided_by FATES.now ms a
