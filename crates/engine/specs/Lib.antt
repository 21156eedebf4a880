-- What a C caller sees of a call.
pub mod Coded
