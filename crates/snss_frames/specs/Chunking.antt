-- What comes of a feed whose bytes come in pieces, with frames given between the pieces in any order of the calls.
use Rattle.std.specs.Prelude.{◌≡◌, ℕ, ◌+◌, List, [], ◌∷◌, ◌++◌, length}
use Rattle.snss_frames.specs.Frame.{Frame, BeginsWith}
use Rattle.snss_frames.specs.Feed.{Feed, fed, past}

pub data Event : Type 0 where
  -- these bytes of a piece were taken
  Came : List ℕ → Event
  -- this frame was given
  Given : Frame → Event

-- a feed came to another by these events: bytes go behind what is held, and a frame in front of it leaves it
abbrev pub ComesTo : Feed → List Event → Feed → Type 0
ComesTo old [] new = new ≡ old
ComesTo old (Came bytes ∷ events) new = ComesTo (fed old bytes) events new
ComesTo old (Given f ∷ events) new = BeginsWith old.held f × ComesTo (past (3 + length f.payload) old) events new

-- the bytes that were taken, joined
abbrev pub came : List Event → List ℕ
came [] = []
came (Came bytes ∷ events) = bytes ++ came events
came (Given f ∷ events) = came events

-- the frames that were given
abbrev pub given : List Event → List Frame
given [] = []
given (Came bytes ∷ events) = given events
given (Given f ∷ events) = f ∷ given events
