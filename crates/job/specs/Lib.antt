-- What one subsystem has before it; its active period, jobs, budget ends, job ends and responses (steps 7 to 11); what the code's
-- structs hold of them, and the facts that they rest on.
pub mod View
pub mod Ends
pub mod JobCount
pub mod Response
pub mod Computed
pub mod Sound
pub mod Seen
