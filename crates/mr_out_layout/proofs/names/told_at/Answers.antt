use Rattle.mr_out_layout.proofs.Named.{started_line, succeeded_line, failed_line}
use Rattle.mr_out_layout.proofs.names.told_at.Goals as goal

pub returns-in-Some : goal.returns-in-Some
returns-in-Some c = started_line c.args.attempt c.args.event.now c.in-Some.rest.now c.requires.ranges c.in-Some.ensures

pub returns-in-Some-after : goal.returns-in-Some-after
returns-in-Some-after c = succeeded_line c.args.attempt c.args.event.now c.in-Some-after.rest.now c.requires.ranges c.requires.kind c.in-Some-after.ensures

pub returns : goal.returns
returns c = failed_line c.args.attempt c.args.event.now c.in_ok-rest.rest.now c.requires.ranges c.in_ok-rest.ensures
