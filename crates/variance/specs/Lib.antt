pub mod Variance
