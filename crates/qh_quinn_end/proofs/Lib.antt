mod Bringing
mod Lost
mod Segments
mod Sets
