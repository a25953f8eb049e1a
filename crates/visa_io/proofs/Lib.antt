pub mod PutLaws
pub mod PutShares
pub mod WholeWrites
pub mod SymbolLaws
pub mod Ordered
pub mod ImageLaws
pub mod MemAnswers
