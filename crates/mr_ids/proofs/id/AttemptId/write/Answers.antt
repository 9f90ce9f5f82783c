use Rattle.mr_ids.proofs.Texts.{attempt_text_plain}
use Rattle.mr_ids.proofs.id.AttemptId.write.Goals as goal

pub returns-clause-plain : goal.returns-clause-plain
returns-clause-plain c = attempt_text_plain c.args.self.now c.ranges-2.ensures

pub returns-in_err-text-clause-plain : goal.returns-in_err-text-clause-plain
returns-in_err-text-clause-plain c = attempt_text_plain c.args.self.now c.ranges-2.ensures
