pub mod Advice
pub mod Examples
pub mod Findings
pub mod Lines
pub mod Own
pub mod Rules
pub mod Tables
pub mod Texts
