-- Which item is the end of all, which one a sync, and whether such a one is among items.
use Rattle.std.specs.Prelude.{Bool, true, false, ◌||◌, List, [], ◌∷◌}
use Rattle.writer_core.specs.declared.item.Item.{Item}
use Rattle.writer_core.specs.declared.item.Item.TheVariants as item

module _ {A B : Type 0} where
  abbrev pub is_end : Item A B → Bool
  is_end (item.Session command) = false
  is_end (item.Tabs command) = false
  is_end item.Sync = false
  is_end item.Compact = false
  is_end item.End = true

  abbrev pub is_sync : Item A B → Bool
  is_sync (item.Session command) = false
  is_sync (item.Tabs command) = false
  is_sync item.Sync = true
  is_sync item.Compact = false
  is_sync item.End = false

  abbrev pub has_end : List (Item A B) → Bool
  has_end [] = false
  has_end (item ∷ others) = is_end item || has_end others

  abbrev pub has_sync : List (Item A B) → Bool
  has_sync [] = false
  has_sync (item ∷ others) = is_sync item || has_sync others
