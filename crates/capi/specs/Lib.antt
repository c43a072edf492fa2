-- What each call promises of all that it was lent.
pub mod Calls
pub mod Laws
pub mod ExpressionLaws
