mod Numbers
mod Walks
mod Owners
mod Sharing
mod Vertices
mod Ranks
mod Links
mod Meetings
pub mod Areas
mod Sorted3
mod Stepping
mod TwinKeys
mod Lists
mod Pairings
mod Across
mod Valid
mod Hanging
mod Linking
mod Finding
mod Alone
mod Asking
mod Lows
mod Graded
mod Labelling
mod Whole
pub mod Firsts
mod OneGrading
mod Causes
mod AskingNoGrades
mod Climbs
pub mod Halving
mod Placing
mod Exact
mod Words
