pub mod CodeWords
pub mod Filled
pub mod Holding
pub mod WholeCode
