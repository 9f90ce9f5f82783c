use Rattle.std.proofs.Common.{rules, ◌≡◌, ◌++◌, map, string_bytes, ap, ◌∙◌}
use Rattle.std.specs.BTreeMap.{keys}
use Rattle.serde_json.specs.View.{view}
use Rattle.mr_sim_commands.proofs.job.Keys.{idle_among, no_object, of_object}
use Rattle.mr_sim_commands.proofs.job.idle_keys.idle_keys_in.Goals as goal

pub returns-in_default : goal.returns-in_default
returns-in_default c = ap (λ xs. map string_bytes xs) c.new-keys.ensures.items ∙ no_object (view c.args.value.now) (rw c.in_default.is at c.as_object.ensures)

pub loop-key-init : goal.loop-key-init
loop-key-init c =
    let all : c.into_iter-key-iterator.result ≡ keys c.in-Some.members.now = search (rules, c.into_iter-key-iterator.ensures.into_iter_gives, c.keys-key-items.ensures.rest) in
    ap (λ xs. map string_bytes xs ++ idle_among c.into_iter-key-iterator.result) c.new-keys.ensures.items
    ∙ of_object (view c.args.value.now) c.in-Some.members.now.entries c.into_iter-key-iterator.result (rw c.in-Some.is at c.as_object.ensures) all
