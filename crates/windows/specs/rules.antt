pub mod Map
pub mod Window
