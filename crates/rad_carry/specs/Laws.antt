-- What is carried keeps the law of the new configuration, and all is carried where the configuration is the same.
use Rattle.std.specs.Prelude.{◌≡◌, []}
use Rattle.rad_config.specs.Configurations.{Configuration}
use Rattle.rad_config.specs.Ranges.{IsConfiguration}
use Rattle.rad_server.specs.Lawful.{IsLawful}
use Rattle.rad_server.specs.States.{State}
use Rattle.rad_carry.specs.Carried.{carried, carried_at, left_out}
use Rattle.rad_carry.specs.Places.{Places}

-- what is carried of a lawful state is lawful under the new configuration, whatever the places
abbrev pub CarriedIsLawful : Type 0
CarriedIsLawful = (places : Places) (old new : Configuration) (state : State)
    → IsConfiguration new → IsLawful old state → IsLawful new (carried_at places new state)

-- of a lawful state all is carried to the same configuration
abbrev pub CarriedIsTheSame : Type 0
CarriedIsTheSame = (configuration : Configuration) (state : State)
    → IsConfiguration configuration → IsLawful configuration state → carried configuration configuration state ≡ state

-- and no session is left out
abbrev pub NoneIsLeftOut : Type 0
NoneIsLeftOut = (configuration : Configuration) (state : State) → IsConfiguration configuration → IsLawful configuration state
    → left_out state.sessions (carried configuration configuration state).sessions ≡ []
