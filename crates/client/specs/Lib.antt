pub mod Relied
