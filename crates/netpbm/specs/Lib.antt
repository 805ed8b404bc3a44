pub mod Picture
pub mod Pnm
pub mod NoFile
pub mod Raster
pub mod HeaderReading
pub mod FileText
