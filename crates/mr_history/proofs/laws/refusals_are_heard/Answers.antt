use Rattle.mr_history.proofs.Refusals.{refused-call, made, wanting, always-refused, always-made}
use Rattle.mr_history.proofs.laws.refusals_are_heard.Goals as goal

pub returns : goal.returns
returns c = record {
  refused_call = refused-call;
  made = made;
  wanting = wanting;
  always_refused = always-refused;
  always_made = always-made;
}
