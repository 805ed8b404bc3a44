mod GrayDots
mod HandShow
mod Trays
mod TwoFlatbeds
mod Worked
mod ThreePages
