-- What a report of a driven job promises: all of it in Reports. How a run follows its plan is in Following, what that means in Laws, a run's calls in Runs.
pub mod Following
pub mod Laws
pub mod Reports
pub mod Runs
