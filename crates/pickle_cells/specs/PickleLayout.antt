-- Payloads that are a pickle: items one after another, then a tail, whose length is a multiple of 4. A row of a
-- table of commands says its items and its tail; the bytes, the written bytes and the faults follow from them.
use Rattle.std.specs.Prelude.{◌≡◌, ℕ, ◌+◌, ◌*◌, ◌<◌, ◌^◌, ℤ, Bool, List, [], ◌∷◌, ◌++◌, length, Result, Ok, Err, Option, Some, None, FitsSigned}
use Rattle.std.specs.List.{AllByRecursion}
use Rattle.std.specs.Int.{w32, w64}
use Rattle.pickle_cells.specs.declared.fault.PickleFault.{PickleFault}
use Rattle.pickle_cells.specs.declared.kind.ItemKind.{ItemKind}
use Rattle.pickle_cells.specs.declared.kind.ItemKind.TheVariants.{Int as IntKind, Int64 as Int64Kind, Uint32 as Uint32Kind, Uint64 as Uint64Kind, Flag as FlagKind, Text as TextKind, Units as UnitsKind}
use Rattle.pickle_cells.specs.Cell.{int, int64, uint32, uint64, flag, string, string16, string_size, IsFlag, IsString, IsString16, IsPickle, pickle}
use Rattle.pickle_cells.specs.CellReading.{Unread, ◌>>=◌, int_at, int64_at, uint32_at, uint64_at, flag_at, string_at, string16_at, units_of, body_at}

-- an item: a number, a truth value, the bytes of a string, the units of a string of 16-bit units
pub data Item : Type 0 where
  Int : ℤ → Item
  Int64 : ℤ → Item
  Uint32 : ℕ → Item
  Uint64 : ℕ → Item
  Flag : Bool → Item
  Text : List ℕ → Item
  Units : List ℕ → Item

-- the bytes are a cell of the item
abbrev pub IsItem : Item → List ℕ → Type 0
IsItem (Int z) bytes = FitsSigned w32 z × (bytes ≡ int z)
IsItem (Int64 z) bytes = FitsSigned w64 z × (bytes ≡ int64 z)
IsItem (Uint32 n) bytes = (n < 2 ^ 32) × (bytes ≡ uint32 n)
IsItem (Uint64 n) bytes = (n < 2 ^ 64) × (bytes ≡ uint64 n)
IsItem (Flag b) bytes = IsFlag b bytes
IsItem (Text text) bytes = IsString text bytes
IsItem (Units units) bytes = IsString16 units bytes

-- the bytes are the items, one after another, and then the tail
abbrev pub AreItems : List Item → List ℕ → List ℕ → Type 0
AreItems [] tail bytes = bytes ≡ tail
AreItems (item ∷ items) tail bytes =
    (front : List ℕ) × (rest : List ℕ) × (bytes ≡ front ++ rest) × IsItem item front × AreItems items tail rest

-- the payload is the pickle of the items and the tail
abbrev pub IsPickled : List Item → List ℕ → List ℕ → Type 0
IsPickled items tail payload = (body : List ℕ) × IsPickle body payload × AreItems items tail body

-- the cell that is written for an item
unfoldable pub item_bytes : Item → List ℕ
item_bytes (Int z) = int z
item_bytes (Int64 z) = int64 z
item_bytes (Uint32 n) = uint32 n
item_bytes (Uint64 n) = uint64 n
item_bytes (Flag b) = flag b
item_bytes (Text text) = string text
item_bytes (Units units) = string16 units

-- the body that is written
unfoldable pub items_bytes : List Item → List ℕ → List ℕ
items_bytes [] tail = tail
items_bytes (item ∷ items) tail = item_bytes item ++ items_bytes items tail

-- the payload that is written
unfoldable pub pickled_bytes : List Item → List ℕ → List ℕ
pickled_bytes items tail = pickle (items_bytes items tail)

-- how long the cells of an item are
abbrev pub item_size : Item → ℕ
item_size (Int z) = 4
item_size (Int64 z) = 8
item_size (Uint32 n) = 4
item_size (Uint64 n) = 8
item_size (Flag b) = 4
item_size (Text text) = string_size (length text)
item_size (Units units) = string_size (2 * length units)

-- how long the payloads of these items and this tail are
abbrev pub items_size : List Item → List ℕ → ℕ
items_size [] tail = length tail
items_size (item ∷ items) tail = item_size item + items_size items tail

abbrev pub pickled_size : List Item → List ℕ → ℕ
pickled_size items tail = 4 + items_size items tail

-- what has a cell
abbrev pub FitsItem : Item → Type 0
FitsItem (Int z) = FitsSigned w32 z
FitsItem (Int64 z) = FitsSigned w64 z
FitsItem (Uint32 n) = n < 2 ^ 32
FitsItem (Uint64 n) = n < 2 ^ 64
FitsItem (Flag b) = Unit {0}
FitsItem (Text text) = length text < 2 ^ 31
FitsItem (Units units) = AllByRecursion (λ u. u < 2 ^ 16) units × (length units < 2 ^ 31)

-- the kind of an item: the shape of a payload is a list of kinds
abbrev pub kind_of : Item → ItemKind
kind_of (Int z) = IntKind
kind_of (Int64 z) = Int64Kind
kind_of (Uint32 n) = Uint32Kind
kind_of (Uint64 n) = Uint64Kind
kind_of (Flag b) = FlagKind
kind_of (Text text) = TextKind
kind_of (Units units) = UnitsKind

-- the next item, of this kind
unfoldable pub item_at : ItemKind → Unread → Result (Item × Unread) PickleFault
item_at IntKind unread = int_at unread >>= λ x. Ok (Int x.0, x.1)
item_at Int64Kind unread = int64_at unread >>= λ x. Ok (Int64 x.0, x.1)
item_at Uint32Kind unread = uint32_at unread >>= λ x. Ok (Uint32 x.0, x.1)
item_at Uint64Kind unread = uint64_at unread >>= λ x. Ok (Uint64 x.0, x.1)
item_at FlagKind unread = flag_at unread >>= λ x. Ok (Flag x.0, x.1)
item_at TextKind unread = string_at unread >>= λ x. Ok (Text x.0, x.1)
item_at UnitsKind unread = string16_at unread >>= λ x. Ok (Units (units_of x.0), x.1)

-- items of these kinds, and what is left behind them
unfoldable pub items_at : List ItemKind → Unread → Result (List Item × Unread) PickleFault
items_at [] unread = Ok ([], unread)
items_at (kind ∷ kinds) unread = item_at kind unread >>= λ first. items_at kinds first.1 >>= λ others. Ok (first.0 ∷ others.0, others.1)

-- the items and the tail of a payload of this shape, or its first fault
unfoldable pub pickled_at : List ItemKind → List ℕ → Result (List Item × List ℕ) PickleFault
pickled_at kinds payload = body_at payload >>= λ body. items_at kinds body >>= λ x. Ok (x.0, x.1.bytes)

-- What a call that reads a payload gives, seen by view, is what reading gives.
abbrev pub IsReadAs : {X : Type 0} → (X → List Item × List ℕ) → Result X PickleFault → Result (List Item × List ℕ) PickleFault → Type 0
IsReadAs view (Ok x) read = read ≡ Ok (view x)
IsReadAs view (Err fault) read = read ≡ Err fault

abbrev pub fault_of : {X : Type 0} → Result X PickleFault → Option PickleFault
fault_of (Ok x) = None
fault_of (Err fault) = Some fault

-- why a payload isn't one of this shape: its first fault
abbrev pub pickled_fault : List ItemKind → List ℕ → Option PickleFault
pickled_fault kinds payload = fault_of (pickled_at kinds payload)

-- what a call that reads an item took: a cell of the item, exactly
abbrev pub Takes : Unread → Item → Unread → Type 0
Takes old item new = (cell : List ℕ) × IsItem item cell × (old.bytes ≡ cell ++ new.bytes) × (new.place ≡ old.place + length cell)
