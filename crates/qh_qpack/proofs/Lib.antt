pub mod FaultLaws
mod FirstPlaces
mod LineAgain
mod LineTakes
mod LineTells
mod NamesTold
mod RowsNamed
mod SectionsRead
mod Weights
mod Writing
pub mod WrittenSizes
