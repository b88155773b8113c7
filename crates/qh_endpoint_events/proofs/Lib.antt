mod Issuing
mod Retiring
mod Sequences
mod TakingBack
