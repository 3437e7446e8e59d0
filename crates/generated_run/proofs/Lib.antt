mod Schema
mod Taken
mod Totals
mod Changes
mod Accepted
