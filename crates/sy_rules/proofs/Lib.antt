pub mod Firsts
pub mod Worked
