pub mod MetByRole
