pub use Rattle.md5.specs.Md5
pub mod Blocks
pub mod Lanes
pub mod Pieces
