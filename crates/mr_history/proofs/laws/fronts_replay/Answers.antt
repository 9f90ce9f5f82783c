use Rattle.mr_history.proofs.Tellings.{tells_front, front_version, whole_is_front}
use Rattle.mr_history.proofs.laws.fronts_replay.Goals as goal

pub returns : goal.returns
returns c = record {
  whole = λ version n rs is h. (tells_front version n rs is h).0;
  good = λ version n rs is h. (tells_front version n rs is h).1;
  version = front_version;
  first = whole_is_front;
}
