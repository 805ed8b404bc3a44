mod Exits
mod Scans
mod Lines
