-- What navigations and groups that are read show of the payload.
use Rattle.std.proofs.Common.{◌≡◌, ℕ, ℤ, List}
use Rattle.pickle_cells.specs.PickleLayout.{IsPickled}
use Rattle.navigation_entry.specs.declared.navigation.Navigation.{Navigation}
use Rattle.navigation_entry.specs.declared.reference.NavigationRef.{NavigationRef}
use Rattle.navigation_entry.specs.declared.group.GroupInfo.{GroupInfo}
use Rattle.navigation_entry.specs.declared.group.GroupRef.{GroupRef}
use Rattle.navigation_entry.specs.Layouts.{navigation_items, group_items}
use Rattle.navigation_entry.specs.Views.{reference_items, Shows}
use Rattle.navigation_entry.specs.GroupViews.{group_ref_items, ShowsGroup}
use Rattle.payload_rows.specs.PayloadLayout.{Pickled, IsLaidOut}

pub navigation_read : (payload : List ℕ) (r : NavigationRef) (n : Navigation) (tab index : ℤ) → IsPickled (reference_items r) r.rest.now payload → Shows r n → tab ≡ r.tab → index ≡ r.index →
    IsLaidOut (Pickled (navigation_items tab index n.url n.title n.page_state n.transition) n.rest) payload
unfolding IsLaidOut
navigation_read payload r n tab index is shows t i = rw (t, i, shows.url, shows.title, shows.page_state, shows.transition, shows.rest) is

pub group_read : (payload : List ℕ) (r : GroupRef) (g : GroupInfo) → IsPickled (group_ref_items r) r.rest.now payload → ShowsGroup r g → IsLaidOut (Pickled (group_items g.high g.low g.title g.colour) g.rest) payload
unfolding IsLaidOut
group_read payload r g is shows = rw (shows.high, shows.low, shows.title, shows.colour, shows.rest) is
