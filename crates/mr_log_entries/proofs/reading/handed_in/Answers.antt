use Rattle.std.proofs.Common.{◌≡◌, Some, sym, ap₂, ◌∙◌}
use Rattle.mr_log_entries.specs.Numerals.{number_text}
use Rattle.mr_log_entries.specs.declared.line.Handed.TheVariants.{File, Folder}
use Rattle.mr_log_entries.proofs.Lacking.{no_pair}
use Rattle.mr_log_entries.proofs.reading.handed_in.Goals as goal

pub returns-in_default-clause-only : goal.returns-in_default-clause-only
returns-in_default-clause-only c (File inode bytes) h e = absurd (c.in_default.ensures.only bytes (number_text 64 inode) h.1 e)
returns-in_default-clause-only c (Folder bytes) h e = c.folder_in.ensures.only bytes h e

pub returns-in_err-inode-clause-only : goal.returns-in_err-inode-clause-only
returns-in_err-inode-clause-only c (File inode bytes) h e =
    let cut = c.in-Some.ensures.only bytes (number_text 64 inode) h.1 e in
    let read = c.in_err-inode.ensures.only inode h.0 cut.1 in
    absurd (cc)
returns-in_err-inode-clause-only c (Folder bytes) h e = absurd (no_pair bytes c.in-Some.bytes c.in-Some.rest.now (sym e ∙ c.in-Some.ensures.found.1))

pub returns-clause-only : goal.returns-clause-only
returns-clause-only c (File inode bytes) h e =
    let cut = c.in-Some.ensures.only bytes (number_text 64 inode) h.1 e in
    let read = c.in_ok-inode.ensures.only inode h.0 cut.1 in
    let same : c.in_ok-inode.inode ≡ inode = cc in
    ap₂ (λ i b. Some (File i b)) same cut.0
returns-clause-only c (Folder bytes) h e = absurd (no_pair bytes c.in-Some.bytes c.in-Some.rest.now (sym e ∙ c.in-Some.ensures.found.1))
