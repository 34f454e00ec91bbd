-- What a trace is: document 01, "Trace program", from "Standard input" to "left over".
use Rattle.std.specs.Prelude.{ℕ, zero, suc, ◌+◌, ◌*◌, Bool, true, cond, ◌&&◌, ◌||◌, List, leb, eqb, length}
use Rattle.common.specs.Common as common
use Rattle.common.specs.declared.Mode.{Mode}
use Rattle.memory.specs.Memory.{byte, part}
use Rattle.boards.specs.declared.Event.{Event}
use Rattle.boards.specs.declared.Event.TheVariants.{Read, Write, Clock}

-- "numbers big-endian": one of 2 bytes
abbrev pub big2 : ℕ → ℕ → ℕ
big2 high low = high * 256 + low

-- "numbers big-endian": one of 4 bytes
abbrev pub big4 : ℕ → ℕ → ℕ → ℕ → ℕ
big4 a b c d = ((a * 256 + b) * 256 + c) * 256 + d

-- "image length (4 bytes ..)", after the version byte
unfoldable pub image_length : List ℕ → ℕ
image_length t = big4 (byte t 1) (byte t 2) (byte t 3) (byte t 4)

-- "mode (0 house, 1 board)", after the image length
unfoldable pub mode_of : List ℕ → Mode
mode_of t = common.mode_of (byte t 5)

-- "image"
unfoldable pub image_of : List ℕ → List ℕ
image_of t = part t 6 (image_length t)

-- "event count (2 bytes ..)", after the image
unfoldable pub event_count : List ℕ → ℕ
event_count t = big2 (byte t (6 + image_length t)) (byte t (7 + image_length t))

-- "events of four bytes", after the count: where event i starts
unfoldable pub event_start : List ℕ → ℕ → ℕ
event_start t i = 8 + image_length t + 4 * i

-- "kind (0 read, 1 write, 2 clock), address (2), value"
unfoldable pub event_of : ℕ → ℕ → ℕ → Event
event_of kind address value = cond (eqb kind 0) (Read address) (cond (eqb kind 1) (Write address value) Clock)

-- event i of a trace
unfoldable pub event_at : List ℕ → ℕ → Event
event_at t i =
    let s = event_start t i in
    event_of (byte t s) (big2 (byte t (s + 1)) (byte t (s + 2))) (byte t (s + 3))

-- "A read's value and a clock's address and value are 0"; no other kind is there
abbrev pub is_event : ℕ → ℕ → ℕ → Bool
is_event kind address value =
    (eqb kind 0 && eqb value 0) || eqb kind 1 || (eqb kind 2 && eqb address 0 && eqb value 0)

-- event i of a trace is such an event
unfoldable pub fits_at : List ℕ → ℕ → Bool
fits_at t i =
    let s = event_start t i in
    is_event (byte t s) (big2 (byte t (s + 1)) (byte t (s + 2))) (byte t (s + 3))

-- the first k events of a trace are such events
unfoldable pub events_fit : List ℕ → ℕ → Bool
events_fit t zero = true
events_fit t (suc k) = events_fit t k && fits_at t k

-- "version byte 1; image length (.. at most 40,976); mode (0 ..., 1 ...); .. event count (.. at most 1,024)"
unfoldable pub head_fits : List ℕ → Bool
head_fits t =
    eqb (byte t 0) 1 && leb (image_length t) 40976 && leb (byte t 5) 1 && leb (event_count t) 1024

-- a trace: nothing else, nothing "missing or left over"
unfoldable pub is_trace : List ℕ → Bool
is_trace t = head_fits t && eqb (length t) (event_start t (event_count t)) && events_fit t (event_count t)
