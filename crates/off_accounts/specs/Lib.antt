pub mod After
pub mod Changes
pub mod Deciding
pub mod Searches
pub mod Tests
pub mod Walking
