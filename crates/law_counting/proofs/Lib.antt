pub mod Example
pub mod InFlash
pub mod Laws
pub mod Numbers
pub mod OnLine
