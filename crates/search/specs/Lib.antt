pub mod Next
pub mod Live
