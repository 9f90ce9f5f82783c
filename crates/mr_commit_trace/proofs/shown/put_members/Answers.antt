use Rattle.serde_json.specs.View.{members_view}
use Rattle.mr_commit_trace.proofs.Objects.{called}
use Rattle.mr_commit_trace.proofs.shown.put_members.Goals as goal

pub returns-in_ok-put_answer_text-in-Called : goal.returns-in_ok-put_answer_text-in-Called
returns-in_ok-put_answer_text-in-Called c =
    called c.args.told.now c.in-Called.caller c.in-Called.call c.in-Called.answer (members_view c.args.object.now.entries) (members_view c.put_app.new.object.entries) (members_view c.put_call_text.new.object.entries)
    (members_view c.put_answer_text.new.object.entries) (members_view c.put_attempt.new.object.entries) c.put_attempt.result c.in-Called.is c.in_ok-put_app-in-Called.ensures c.in_ok-put_call_text-in-Called.ensures c.in_ok-put_answer_text-in-Called.ensures c.put_attempt.ensures
