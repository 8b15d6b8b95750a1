pub mod Inside
pub mod Rules
pub mod Passes
pub mod Lawful
pub mod Sizes
pub mod Table
pub mod Values
pub mod Alike
