pub mod Recency
pub mod Contents
pub mod Tables
