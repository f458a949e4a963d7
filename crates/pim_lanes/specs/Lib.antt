pub mod Banks
pub mod Lending
pub mod inner
