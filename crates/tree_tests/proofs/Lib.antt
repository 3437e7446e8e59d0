mod Added
mod Single
