mod Straight
mod OnSections
mod ServiceAsked
mod SixOperations
