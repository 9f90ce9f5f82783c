use Rattle.mr_history.proofs.Tellings.{records_are}
use Rattle.mr_history.proofs.Segments.{sound_fresh, sound_appended, sound_flushed, sound_sealed, sound_good, sound_stable}
use Rattle.mr_history.proofs.laws.segments_stay_sound.Goals as goal

pub returns : goal.returns
returns c = record {
  of_fresh = sound_fresh;
  of_appended = sound_appended;
  of_flushed = sound_flushed;
  of_sealed = sound_sealed;
  no_bad_line = sound_good;
  are_stable = sound_stable;
  are_tail = λ s h. records_are s.version s.tail;
}
