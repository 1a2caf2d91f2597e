pub mod CopyView
pub mod Course
