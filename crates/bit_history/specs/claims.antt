pub mod Accepted
pub mod CallHistory
pub mod History
pub mod LoadHistory
pub mod UnitHistory
