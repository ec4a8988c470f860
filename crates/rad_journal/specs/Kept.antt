-- What is kept of an exchange.
use Rattle.std.specs.Prelude.{◌≡◌, ℕ, Bool, false, List, ◌∷◌, All, filter_map, Option, None, Some, option_map}
use Rattle.rad_packet.specs.Attributes.{attributes_octets}
use Rattle.rad_server.specs.declared.answer.Answer.{Answer}
use Rattle.rad_server.specs.declared.answer.Answer.TheVariants.{Send, Busy}
use Rattle.rad_server.specs.declared.entry.Entry.{Entry}
use Rattle.rad_journal.specs.declared.kept.Kept.{Kept}

-- the octets that are kept of an answer: the Code of the reply's body, and then its attributes
abbrev pub answer_octets : Answer → Option (List ℕ)
answer_octets (Send body) = Some (body.code ∷ attributes_octets body.attributes)
answer_octets Busy = None

-- What is kept of an entry at a wall time, in milliseconds since 1970: nothing where no reply was sent.
abbrev pub kept_by : ℕ → Entry → Option Kept
kept_by wall entry = option_map
    (λ answer. record {
      wall = wall;
      moment = entry.moment;
      client = entry.client;
      source = entry.source;
      port = entry.port;
      door = entry.door;
      session = entry.session;
      draw = entry.draw;
      octets = entry.octets;
      answer = answer;
    })
    (answer_octets entry.answer)

-- what is kept of entries, in their order: nothing of one without a reply
abbrev pub kept_of : ℕ → List Entry → List Kept
kept_of wall entries = filter_map (kept_by wall) entries

-- no mark says that its entry is fresh
abbrev pub NoneIsFresh : List Bool → Type 0
NoneIsFresh marks = All (λ mark. mark ≡ false) marks
