-- Which past the machine of a master stands for: the words of mr_master_state, as the contracts here cite them.
pub use Rattle.mr_master_events.specs.mr_master_state.specs.State.{Master, Keeps, StandsFor, StandsForSome, Unchanged, Stands, StandsStill, Answers, Moves, Reads, Adds, MovesOn}
