pub mod Heartbeat
