pub mod Beginnings
pub mod Faults
pub mod Forms
pub mod Mnemonics
pub mod Operands
pub mod Room
pub mod Targets
pub mod Templates
