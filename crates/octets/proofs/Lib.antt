pub mod Tests
pub mod Laws
pub mod TextLaws
pub mod QuotedLaws
pub mod Steps
