-- Objects of JSON by their members: Members.
pub mod Members
