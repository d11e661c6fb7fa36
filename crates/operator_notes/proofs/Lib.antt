pub mod KeptLogs
pub mod Streams
