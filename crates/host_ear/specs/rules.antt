pub mod Ear
