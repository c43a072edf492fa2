-- Machines and queues, diagrams, the verdict on a session, and what it means. What is to be believed stands in these files, in this order; the laws are proved
-- from them.
pub mod Model
pub mod Diagram
pub mod Session
pub mod Verdict
pub mod Judge
pub mod TwoRuns
pub mod Line
pub mod Searched
pub mod Examples
pub mod Laws
