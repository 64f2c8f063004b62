-- Groups as the items and the tail of their payloads.
use Rattle.std.specs.Prelude.{◌≡◌, ℕ, List}
use Rattle.pickle_cells.specs.CellReading.{units_of}
use Rattle.pickle_cells.specs.PickleLayout.{Item, IsPickled, pickled_bytes}
use Rattle.navigation_entry.specs.declared.group.GroupInfo.{GroupInfo}
use Rattle.navigation_entry.specs.declared.group.GroupRef.{GroupRef}
use Rattle.navigation_entry.specs.Layouts.{group_items}

-- the payload that says this group
abbrev pub IsGroup : GroupInfo → List ℕ → Type 0
IsGroup g payload = IsPickled (group_items g.high g.low g.title g.colour) g.rest payload

abbrev pub group_bytes : GroupInfo → List ℕ
group_bytes g = pickled_bytes (group_items g.high g.low g.title g.colour) g.rest

-- the same in the bytes of a payload
abbrev pub group_ref_items : GroupRef → List Item
group_ref_items r = group_items r.high r.low (units_of r.title.now) r.colour

abbrev pub group_ref_parts : GroupRef → List Item × List ℕ
group_ref_parts r = (group_ref_items r, r.rest.now)

-- the group owns what the reference shows
pub record ShowsGroup (r : GroupRef) (g : GroupInfo) : Type 0 where
  pub high : g.high ≡ r.high
  pub low : g.low ≡ r.low
  pub title : g.title ≡ units_of r.title.now
  pub colour : g.colour ≡ r.colour
  pub rest : g.rest ≡ r.rest.now
