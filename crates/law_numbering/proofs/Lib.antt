pub mod Common
pub mod InFlash
pub mod OnLine
