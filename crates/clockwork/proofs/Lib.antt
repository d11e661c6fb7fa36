pub mod Examples
mod WatchExamples
mod Lists
mod Ticking
mod Later
mod Turning
mod Catching
mod Ordering
mod Measures
mod Fairness
mod Awakening
mod SeatExamples
mod Sightings
mod Sleeping
