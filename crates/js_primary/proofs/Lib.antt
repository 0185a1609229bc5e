pub mod CallSteps
pub mod Constructors
pub mod FunctionValues
