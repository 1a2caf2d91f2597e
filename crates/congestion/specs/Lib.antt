pub mod Control
pub mod Window
pub mod Events
pub mod Inside
