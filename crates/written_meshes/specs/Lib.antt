pub mod Renaming
pub mod ForestRenaming
pub mod RoundRenaming
pub mod WrittenTexts
pub mod Passing
pub mod ValueRenaming
pub mod Accepted
pub mod Continued
