pub mod Execs
