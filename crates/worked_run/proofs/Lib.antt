mod Acts
mod Parts
mod Clients
mod DoneRuns
