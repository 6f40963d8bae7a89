pub mod FeedPlaces
pub mod FeedRanges
pub mod FeedRows
pub mod FeedStep
pub mod FeedWrites
pub mod LinePlaces
pub mod PlacesGo
pub mod StartPlaces
