mod Back
mod Carries
