pub mod Agreeing
pub mod CallHistory
pub mod History
pub mod LoadHistory
pub mod UnitHistory
pub mod Words
