-- The theorems on whole days of calls.
pub mod Opened
pub mod Ledger
pub mod Members
pub mod Blocks
pub mod Holding
pub mod Looks
pub mod Cases
pub mod Takes
pub mod Gives
pub mod Rewinds
pub mod Starts
pub mod Grants
pub mod DemandThree
pub mod HeldBytes
pub mod WrongPrograms
pub mod Steps
