mod Names
mod Records
mod DecodedCells
mod ShortFields
