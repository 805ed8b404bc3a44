pub mod ListenerCalls
pub mod NetsBack
pub mod Carried
