-- Navigations and groups as the items and the tail of their payloads.
use Rattle.std.specs.Prelude.{◌≡◌, ℕ, ℤ, List}
use Rattle.pickle_cells.specs.CellReading.{units_of}
use Rattle.pickle_cells.specs.PickleLayout.{Item, IsPickled, pickled_bytes}
use Rattle.navigation_entry.specs.declared.navigation.Navigation.{Navigation}
use Rattle.navigation_entry.specs.declared.reference.NavigationRef.{NavigationRef}
use Rattle.navigation_entry.specs.Layouts.{navigation_items}

-- the payload that says this navigation of a tab at an index
abbrev pub IsNavigation : ℤ → ℤ → Navigation → List ℕ → Type 0
IsNavigation tab index n payload = IsPickled (navigation_items tab index n.url n.title n.page_state n.transition) n.rest payload

abbrev pub navigation_bytes : ℤ → ℤ → Navigation → List ℕ
navigation_bytes tab index n = pickled_bytes (navigation_items tab index n.url n.title n.page_state n.transition) n.rest

-- the same in the bytes of a payload
abbrev pub reference_items : NavigationRef → List Item
reference_items r = navigation_items r.tab r.index r.url.now (units_of r.title.now) r.page_state.now r.transition

abbrev pub reference_parts : NavigationRef → List Item × List ℕ
reference_parts r = (reference_items r, r.rest.now)

-- the navigation owns what the reference shows
pub record Shows (r : NavigationRef) (n : Navigation) : Type 0 where
  pub url : n.url ≡ r.url.now
  pub title : n.title ≡ units_of r.title.now
  pub page_state : n.page_state ≡ r.page_state.now
  pub transition : n.transition ≡ r.transition
  pub rest : n.rest ≡ r.rest.now
