use Rattle.mr_log_entries.proofs.Plain.{entry_plain}
use Rattle.mr_log_entries.proofs.entry.Entry.text.Goals as goal

pub returns-in_err-append_to-clause-plain : goal.returns-in_err-append_to-clause-plain
returns-in_err-append_to-clause-plain c = entry_plain c.args.self.now

pub returns-clause-plain : goal.returns-clause-plain
returns-clause-plain c = entry_plain c.args.self.now
