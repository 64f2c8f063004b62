pub mod Answers
pub mod Beside
pub mod Issuers
pub mod Issuing
