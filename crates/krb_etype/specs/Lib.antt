-- The encryption types, and the keys that a session key gives, come first; then what contracts see of
-- keys, and what the code keeps of them.
pub mod Etype
pub mod Keys
pub mod TypedKey
pub mod HeldKeys
pub mod CodeKey
pub mod SessionKeyInside
pub mod PrivateKeys
pub mod KeysInside
