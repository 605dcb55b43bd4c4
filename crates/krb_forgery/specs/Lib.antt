pub mod Forgery
