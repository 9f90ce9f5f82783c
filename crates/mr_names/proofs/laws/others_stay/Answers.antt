use Rattle.mr_names.proofs.CallLaws as laws
use Rattle.mr_names.proofs.laws.others_stay.Goals as goal

pub returns : goal.returns
returns c = record { others = laws.others_stay; absent = laws.only_makers_make; directories = laws.dirs_stay; closed_files = laws.closed_files_stay }
