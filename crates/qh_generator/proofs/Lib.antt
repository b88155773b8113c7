mod Ids
mod Tries
