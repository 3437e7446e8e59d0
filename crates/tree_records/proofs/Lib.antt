mod Climbing
mod Lists
mod Parents
