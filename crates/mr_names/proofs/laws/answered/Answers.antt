use Rattle.mr_names.proofs.CallLaws as laws
use Rattle.mr_names.proofs.laws.answered.Goals as goal

pub returns : goal.returns
returns c = record { only = laws.answered_only; always = laws.answered_always }
