-- What a feed holds once the frame that it lent is let go.
use Rattle.std.specs.Prelude.{⊤}
use Rattle.std.specs.Borrow.{follows_so, Fml, MutBor}
use mathlib.Core.Option.{none}
use Rattle.snss_frames.specs.contracts.feed.FrameFeed.{the_row}
use Rattle.snss_frames.specs.Feed.{Feed}

-- this holds of a feed once what was lent of it is let go
abbrev pub Rests : MutBor Feed → (Feed → Type 0) → Fml
Rests s P = follows_so the_row the_row s.ghost_name none (λ _ _. ⊤) P
