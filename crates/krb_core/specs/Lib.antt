pub mod Track
pub mod TrackPlaces
pub mod Stepped
pub mod Start
pub mod Relayed
pub mod Finish
pub mod Laws
