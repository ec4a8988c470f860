pub use Rattle.md5.specs.Md5
pub use Rattle.rad_md5.specs.Pieces
pub mod Hmac
