mod Steady
mod Worlds
mod Agreeing
mod OfState
mod OfObjects
mod OfHanded
mod OfConversions
mod OfNativeWork
mod OfPatterns
mod OfPacNatives
mod OfNatives
mod OfNames
mod OfReferences
mod OfParts
mod OfExpressions
mod OfStatements
mod OfVariables
mod OfEntries
mod OfRuns
pub mod ReadRuns
pub mod OfLookUps
pub mod OfWrites
pub mod OfNewScopes
pub mod OfPairs
