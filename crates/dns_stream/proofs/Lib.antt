pub mod FrameLaws
pub mod PieceLaws
