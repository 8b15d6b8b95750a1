pub mod Belonging
pub mod Carried
pub mod Codecs
pub mod Exactly
pub mod RoundTrip
pub mod Settling
pub mod Checked
