-- What each subcommand of `mrsim` prints, and which faults it answers: Printed, whose words stand in mr_sim_commands and mr_play. Expected has what
-- scripts expect, Goals what goals of `explore` name, Trees what `play --tree` lists, Fault the exit statuses, and Laws what follows.
pub mod Expected
pub mod Fault
pub mod Goals
pub mod Laws
pub mod Printed
pub mod Trees
