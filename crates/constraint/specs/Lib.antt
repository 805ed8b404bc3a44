pub mod Admitted
pub mod Nearest
pub mod NearestComputed
pub mod Beginning
