-- The laws of what is spelled, each proved once from the definitions. Of every part two: what was read stands there as it is spelled
-- (-forth), and what stands there as it is spelled is read (-back).
pub mod Here
pub mod Fronts
pub mod Numbers
pub mod Loops
pub mod Words
pub mod Machines
pub mod Queues
pub mod Starting
pub mod Transitions
pub mod Arcs
pub mod Pool
pub mod Map
pub mod Bad
pub mod Fits
