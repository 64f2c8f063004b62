-- The seats of a board: which board one is of, and what was posted or seen by it.
use Rattle.std.specs.Prelude.{◌≡◌, ◌≤◌, ℕ, true, List, [], length, slice_index}
use Rattle.command_queue.specs.declared.board.AckBoard.{AckBoard}
use Rattle.command_queue.specs.declared.board.WriterSeat.{WriterSeat}
use Rattle.command_queue.specs.declared.board.IssuerSeat.{IssuerSeat}
use Rattle.command_queue.specs.declared.board.Posted.{Posted}
use Rattle.command_queue.specs.declared.board.Word.{Word}
use Rattle.command_queue.specs.declared.board.Word.TheVariants.{Session, Tabs, Ended}

-- the place of a word among the three
abbrev pub number : Word → ℕ
number Session = 0
number Tabs = 1
number Ended = 2

-- one of three numbers
abbrev pub at_word : Word → Posted → ℕ
at_word Session p = p.session
at_word Tabs p = p.tabs
at_word Ended p = p.ended

-- three numbers, one of them changed
abbrev pub with_word : Word → ℕ → Posted → Posted
with_word Session n p = record { session = n; tabs = p.tabs; ended = p.ended }
with_word Tabs n p = record { session = p.session; tabs = n; ended = p.ended }
with_word Ended n p = record { session = p.session; tabs = p.tabs; ended = n }

abbrev pub zeros : Posted
zeros = record { session = 0; tabs = 0; ended = 0 }

-- each number is at most the other's of the same word
abbrev pub IsAtMost : Posted → Posted → Type 0
IsAtMost p q = (p.session ≤ q.session) × (p.tabs ≤ q.tabs) × (p.ended ≤ q.ended)

-- a list of words by their names
abbrev pub in_words : List ℕ → Posted
in_words xs = record { session = slice_index xs 0; tabs = slice_index xs 1; ended = slice_index xs 2 }

-- what was posted by this seat: of each word the greatest number
abbrev pub posted : WriterSeat → Posted
posted s = in_words s.seat.me.0.posted

-- what was seen by this seat: of each word the last number
abbrev pub seen : IssuerSeat → Posted
seen s = in_words s.seat.me.0.seen

-- a board has three words, and no slot
abbrev pub HasThree : AckBoard → Type 0
HasThree b = (b.table.shared.table_id.words ≡ 3) × (b.table.shared.table_id.slots ≡ 0)

-- a seat of this board that may post
pub record IsWriterSeatOf (b : AckBoard) (s : WriterSeat) : Type 0 where
  pub table : s.seat.table_id ≡ b.table.shared.table_id
  pub shape : HasThree b
  pub slots : s.seat.me.1 ≡ []
  pub posts : s.seat.me.0.posts ≡ true
  pub three : length s.seat.me.0.posted ≡ 3

-- a seat of this board that may look
pub record IsIssuerSeatOf (b : AckBoard) (s : IssuerSeat) : Type 0 where
  pub table : s.seat.table_id ≡ b.table.shared.table_id
  pub shape : HasThree b
  pub slots : s.seat.me.1 ≡ []
  pub looks : s.seat.me.0.looks ≡ true
  pub three : length s.seat.me.0.seen ≡ 3
