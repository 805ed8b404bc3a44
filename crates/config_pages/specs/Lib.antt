pub mod Pages
pub mod Texts
pub mod Devices
pub mod InputTexts
pub mod ConfigReading
pub mod Noted
pub mod RecordedCalls
