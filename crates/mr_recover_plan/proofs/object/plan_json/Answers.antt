use Rattle.mr_recover_plan.proofs.Objects.{is_plain}
use Rattle.mr_recover_plan.proofs.object.plan_json.Goals as goal

pub put_line-requires : goal.put_line-requires
put_line-requires c = is_plain c.in_ok-value.value c.args.plan.now c.in_ok-value.ensures
