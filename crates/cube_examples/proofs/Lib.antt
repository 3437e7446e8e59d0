mod Numbered
mod Refused
mod Searches
