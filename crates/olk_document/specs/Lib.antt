pub mod Validators
