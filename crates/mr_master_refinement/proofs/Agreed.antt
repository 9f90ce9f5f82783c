-- The laws of turns.
use Rattle.mr_master_refinement.specs.Agreement.{TurnsAgree}
use Rattle.mr_master_refinement.proofs.Works.{phase-is, duty-is}
use Rattle.mr_master_refinement.proofs.Turn.{turn, can-after}

pub turns_agree : TurnsAgree
turns_agree = record { phases = phase-is; duties = duty-is; answers = λ cfg k s m p call r. turn cfg k s m p call r; stays = can-after }
