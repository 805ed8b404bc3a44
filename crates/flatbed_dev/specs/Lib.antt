pub mod FeederFault
