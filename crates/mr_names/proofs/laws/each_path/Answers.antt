use Rattle.mr_names.proofs.CallLaws as laws
use Rattle.mr_names.proofs.laws.each_path.Goals as goal

pub returns : goal.returns
returns c = record {
  each = laws.each_path;
  mkdirs = laws.made_there;
  create = laws.created_there;
  append = laws.appended_there;
  close = laws.closed_there;
  delete = laws.deleted_there;
  rename_to = laws.renamed_there;
  rename_from = laws.renamed_away;
}
