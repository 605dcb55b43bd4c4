pub mod Nfold
pub mod Stream
pub mod Hmac
pub mod MacKey
pub mod Derivation
pub mod BatchMac
