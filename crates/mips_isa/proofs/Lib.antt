pub mod Splitting
pub mod Found
pub mod EncodedRows
pub mod DecodedRows
pub mod Spelled
pub mod Relation
pub mod WordRange
