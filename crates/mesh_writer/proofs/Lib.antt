mod OneKey
mod Places
mod MacroPlaces
mod Adding
mod Leaves
mod Lines
mod FirstOthers
mod Apart
mod AcrossLeaves
mod Gathered
mod WholeText
mod WrittenValues
mod MacroValues
mod PickedValues
pub mod OwnerLists
pub mod Walking
pub mod SlotOrders
pub mod Moved
pub mod EdgeLinks
