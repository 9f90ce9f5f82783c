use Rattle.mr_container.proofs.Staying.{bytes-stay}
use Rattle.mr_container.proofs.laws.bytes_stay.Goals as goal

pub returns : goal.returns
returns c = bytes-stay
