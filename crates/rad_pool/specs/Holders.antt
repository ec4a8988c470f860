-- What the counts tell of the sessions that have an address. Only the contracts of private functions use this.
use Rattle.std.specs.Prelude.{◌≡◌, ℕ, List, [], ◌∷◌, filter}
use Rattle.rad_pool.specs.Grants.{has_address}
use Rattle.rad_pool.specs.declared.holder.Holder.{Holder}
use Rattle.rad_pool.specs.declared.holder.Holder.TheVariants as holders
use Rattle.rad_pool.specs.declared.session.Session.{Session}

-- nobody has it, or one session alone
abbrev pub IsHolder : ℕ → List Session → Holder → Type 0
IsHolder address sessions holders.Nobody = filter (has_address address) sessions ≡ []
IsHolder address sessions (holders.One session) = filter (has_address address) sessions ≡ session.now ∷ []
IsHolder address sessions holders.Unknown = Unit {0}
