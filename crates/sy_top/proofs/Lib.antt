pub mod Texts
pub mod Stretches
pub mod Telling
pub mod Ran
pub mod Numerals
pub mod Items
pub mod Accepting
pub mod Trees
