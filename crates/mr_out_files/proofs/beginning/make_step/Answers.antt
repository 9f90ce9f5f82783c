use Rattle.std.proofs.Common.{codes}
use Rattle.mr_out_files.proofs.Troubled.{some_fault, folder_fault, there_fault}
use Rattle.mr_out_files.proofs.beginning.make_step.Goals as goal

pub returns-in-MakeFolders : goal.returns-in-MakeFolders
returns-in-MakeFolders c = some_fault (codes "create") c.make_folders.result c.make_folders.ensures

pub returns-in-WriteJob : goal.returns-in-WriteJob
returns-in-WriteJob c = some_fault (codes "write") c.write_job.result c.write_job.ensures

pub returns-in-SyncHome : goal.returns-in-SyncHome
returns-in-SyncHome c = folder_fault c.deref-in-SyncHome.result.now c.sync_folder.result c.sync_folder.ensures.failed

pub returns-in-SyncFolder : goal.returns-in-SyncFolder
returns-in-SyncFolder c = folder_fault c.args.beside.now c.sync_folder-in-SyncFolder.result c.sync_folder-in-SyncFolder.ensures.failed

pub returns-in-Rename : goal.returns-in-Rename
returns-in-Rename c = there_fault c.args.name.now c.rename.result c.rename.ensures

pub returns : goal.returns
returns c = folder_fault (codes ".") c.sync_folder-in-SyncParent.result c.sync_folder-in-SyncParent.ensures.failed
