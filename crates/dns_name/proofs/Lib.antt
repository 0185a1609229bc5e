pub mod WalkLaws
pub mod SameLaws
pub mod WireLaws
pub mod WriteLaws
