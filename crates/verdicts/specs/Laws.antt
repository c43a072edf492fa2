-- Laws of what a verdict says.
pub mod Shown
