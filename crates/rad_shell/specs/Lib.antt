pub use Rattle.rad_desk.specs.Passes
pub use Rattle.rad_desk.specs.Desks
pub use Rattle.rad_desk.specs.Settlements
pub use Rattle.rad_round.specs.Rounds
pub use Rattle.rad_round.specs.Faults
pub mod Passages
pub mod Memory
pub mod Serving
