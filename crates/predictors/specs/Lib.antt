pub mod Predicting
