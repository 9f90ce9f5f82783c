-- That a master of the cluster (mr_world_model) and the machine of a master (mr_master_model) do the same where they have seen the same. The files stand in the order
-- in which to read them: how the one's past is the other's, what agrees, and what keeps it so. For whoever runs masters they say what their stores answer.
pub mod Steps
pub mod Works
pub mod Agreement
pub mod Recorded
pub mod Points
pub mod Alike
pub mod Begins
pub mod Holds
pub mod MastersAgree
pub mod Stores
pub mod inner
