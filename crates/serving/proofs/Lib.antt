pub mod Examples
mod Serving
mod Sights
mod Over
mod Apart
mod Leaving
mod Giving
mod GivingExamples
mod Turns
mod Covering
mod Staying
mod Bundles
mod Outside
