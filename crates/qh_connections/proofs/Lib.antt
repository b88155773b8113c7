mod Fresh
mod Kept
mod Sequences
mod Slots
mod Taken
mod Tokens
mod Tracked
