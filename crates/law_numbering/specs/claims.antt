pub mod InFlash
pub mod LeftOut
pub mod OnLine
