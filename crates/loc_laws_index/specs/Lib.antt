pub mod IndexReading
pub mod Renewal
