use Rattle.mr_sim_commands.specs.declared.job.submission.JobKind.TheVariants.{WordCount, MaxByKey, LineIndex}
use Rattle.mr_sim_commands.specs.seq.Text.{output_of}
use Rattle.mr_sim_commands.proofs.seq.PartFiles.{part_files_are}
use Rattle.mr_sim_commands.proofs.seq.part_files_of.Goals as goal

pub sequential-requires-clause-short : goal.sequential-requires-clause-short
sequential-requires-clause-short c = rw c.as_slice-splits.ensures c.requires.short_splits

pub sequential-requires-in-MaxByKey-clause-short : goal.sequential-requires-in-MaxByKey-clause-short
sequential-requires-in-MaxByKey-clause-short c = rw c.as_slice-splits.ensures c.requires.short_splits

pub sequential-requires-in-LineIndex-clause-short : goal.sequential-requires-in-LineIndex-clause-short
sequential-requires-in-LineIndex-clause-short c = rw c.as_slice-splits.ensures c.requires.short_splits

pub returns-in-WordCount-clause-files : goal.returns-in-WordCount-clause-files
unfolding output_of
returns-in-WordCount-clause-files c = part_files_are c.args.submission.now WordCount c.as_slice-splits.result.now c.sequential.result c.in-WordCount.is c.as_slice-splits.ensures c.sequential.ensures.count c.sequential.ensures.files

pub returns-in-MaxByKey-clause-files : goal.returns-in-MaxByKey-clause-files
unfolding output_of
returns-in-MaxByKey-clause-files c = part_files_are c.args.submission.now MaxByKey c.as_slice-splits.result.now c.sequential-in-MaxByKey.result c.in-MaxByKey.is c.as_slice-splits.ensures c.sequential-in-MaxByKey.ensures.count c.sequential-in-MaxByKey.ensures.files

pub returns-in-LineIndex-clause-files : goal.returns-in-LineIndex-clause-files
unfolding output_of
returns-in-LineIndex-clause-files c = part_files_are c.args.submission.now LineIndex c.as_slice-splits.result.now c.sequential-in-LineIndex.result c.in-LineIndex.is c.as_slice-splits.ensures c.sequential-in-LineIndex.ensures.count c.sequential-in-LineIndex.ensures.files
