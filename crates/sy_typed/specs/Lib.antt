pub mod Things
