-- LogLines: the lines of a log.
--
-- time=TIME event=EVENT reason="TEXT" client=N source=ADDRESS:PORT port=DOOR user="NAME" address=ADDRESS session=N
-- session_user="NAME" repeat=1 count=N
--
-- A field of which nothing is known is left out.
use Rattle.std.specs.Prelude.{ℕ, ◌+◌, if◌then◌else◌, List, [], ◌++◌, codes, decimal, Option, Some, None}
use Rattle.rad_replay.specs.DatagramTexts.{address_text, door_name}
use Rattle.rad_watch.specs.Events.{Event}
use Rattle.rad_watch.specs.Kinds.{kind_name}
use Rattle.rad_watch.specs.Shown.{quoted}
use Rattle.rad_watch.specs.declared.event.Origin.{Origin}

-- ---- values

-- the address and the port that a datagram came from
abbrev pub source_text : Origin → List ℕ
source_text origin = address_text origin.source ++ codes ":" ++ decimal origin.port

-- a client's place, counted from 1
abbrev pub place_text : ℕ → List ℕ
place_text place = decimal (place + 1)

-- where a datagram came from, and to
abbrev pub origin_text : Origin → List ℕ
origin_text origin = source_text origin ++ codes " port=" ++ door_name origin.door

-- ---- fields

-- a field after its key
abbrev pub field : {A : Type 0} → List ℕ → (A → List ℕ) → Option A → List ℕ
field key show (Some value) = key ++ show value
field key show None = []

-- what it is, and why
abbrev pub line_head : List ℕ → Event → List ℕ
line_head time event =
    codes "time=" ++ time
    ++ codes " event=" ++ kind_name event.kind
    ++ field (codes " reason=") quoted event.reason

-- whose datagram it was, where it came from, and to
abbrev pub origin_fields : Event → List ℕ
origin_fields event =
    field (codes " client=") place_text event.client
    ++ field (codes " source=") origin_text event.origin

-- whose session it is
abbrev pub session_fields : Event → List ℕ
session_fields event =
    field (codes " user=") quoted event.user
    ++ field (codes " address=") address_text event.address
    ++ field (codes " session=") decimal event.session
    ++ field (codes " session_user=") quoted event.owner

-- whether its reply was kept, and how many there are
abbrev pub repeat_fields : Event → List ℕ
repeat_fields event =
    (if event.is_repeat then codes " repeat=1" else []) ++ field (codes " count=") decimal event.count

-- the line of an event, after the text of the time
abbrev pub log_line : List ℕ → Event → List ℕ
log_line time event =
    line_head time event
    ++ origin_fields event
    ++ session_fields event
    ++ repeat_fields event
    ++ codes "\n"
