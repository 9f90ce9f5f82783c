use Rattle.mr_world_state.proofs.Same_parts.{other_config, other_history, with_names}
use Rattle.mr_world_state.proofs.parts.Parts.has_same_stores.Goals as goal

pub returns-then-not-is_same_history : goal.returns-then-not-is_same_history
returns-then-not-is_same_history c = other_history c.args.self.now c.args.other.now c.is_same_history.result c.if-not-is_same_history.true c.is_same_history.ensures

pub returns-then-not-is_same_config : goal.returns-then-not-is_same_config
returns-then-not-is_same_config c = other_config c.args.self.now c.args.other.now c.is_same_config.result c.if-not-is_same_config.true c.is_same_config.ensures

pub returns : goal.returns
returns c = with_names c.args.self.now c.args.other.now c.is_same_names.result (c.is_same_history.ensures.0 c.if-not-is_same_history.false) (c.is_same_config.ensures.0 c.if-not-is_same_config.false)
    c.is_same_names.ensures
