pub mod FirstLetters
pub mod Places
pub mod MorePairs
pub mod LiveNames
pub mod InOrders
pub mod SlotsOfNodes
pub mod Found
mod NodeLists
