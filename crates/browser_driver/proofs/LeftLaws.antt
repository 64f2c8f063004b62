-- What stays of a window that is closed: what its rows and its order say is what the browser says, and it fits the
-- payloads of its commands.
use Rattle.std.proofs.Common.{◌≡◌, ◌≤◌, ℕ, zero, suc, ◌+◌, ℤ, pos, int_le, Bool, true, false, if◌then◌else◌, List, []}
use Rattle.std.proofs.Common.{◌∷◌, ◌++◌, map, filter, length, Option, Some, None, refl, ap, ◌∙◌, arith, rules}
use Rattle.std.specs.Prelude.{IfSome, FitsSigned}
use Rattle.std.specs.Int.{w64}
use Rattle.std.specs.List.{AllByRecursion, cons_option}
use Rattle.std.specs.Ordering.{int_cmp}
use Rattle.std.specs.Option.{unwrap_or}
use Rattle.std.proofs.lemmas.Int.{ints}
use Rattle.std.proofs.lemmas.List.{length-map}
use Rattle.closed_entries.specs.declared.closed_tab.ClosedTab.{ClosedTab}
use Rattle.closed_entries.specs.declared.entry.Entry.{Entry}
use Rattle.closed_entries.specs.declared.entry.Entry.TheVariants as entry
use Rattle.closed_entries.specs.States.{IsEntry, IsTab}
use Rattle.navigation_entry.specs.declared.bounds.Bounds.{Bounds}
use Rattle.navigation_entry.specs.declared.navigation.Navigation.{Navigation}
use Rattle.navigation_entry.specs.declared.group.GroupInfo.{GroupInfo}
use Rattle.tab_pages.specs.PageLists.{has_page}
use Rattle.tab_pages.specs.Ranges.{AreBoundsInRange, IsGroupInRange}
use Rattle.tab_pages.specs.Positions.{first_from}
use Rattle.window_state.specs.declared.tab.Tab.{Tab}
use Rattle.window_state.specs.declared.window.Window.{Window}
use Rattle.window_state.specs.Fits.{IsKeptTab, IsKeptWindow}
use Rattle.window_state.specs.Keys.{tab_key, window_key}
use Rattle.window_state.specs.Limits.{limit}
use Rattle.window_state.specs.Ranges.{IsTabInRange, IsWindowInRange}
use Rattle.window_state.specs.RowLists.{find_row}
use Rattle.window_state.specs.States.{State, IsState}
use Rattle.browser_model.specs.Browsers.{BrowserTab, BrowserWindow, Stand, own_id, open_key, row_of, stands_from}
use Rattle.browser_model.specs.Browsers.{stands_in, window_row}
use Rattle.browser_model.specs.Entries.{entry_of_window, entry_of_seen, entry_window, no_bounds}
use Rattle.browser_model.specs.Pictures.{is_seen}
use Rattle.browser_model.specs.Tabs.{tabs_or_none}
use Rattle.browser_model.proofs.Renumber.{rows_from}
use Rattle.browser_model.proofs.Turns.{map-map}
use Rattle.browser_driver.specs.Acts.{window_of}
use Rattle.browser_driver.specs.Held.{held, IsHeld}
use Rattle.browser_driver.specs.Orders.{order_of}
use Rattle.browser_driver.specs.SeatPlans.{closed_row}
use Rattle.browser_driver.specs.WindowEntries.{seen_tab, seen_rows, seen_places, place_where, entry_of_rows}
use Rattle.browser_driver.specs.WindowEntries.{entry_in_order}
use Rattle.browser_driver.proofs.EntryLaws.{row-fits}
use Rattle.browser_driver.proofs.HeldLaws.{each-window, rows-back}
use Rattle.browser_driver.proofs.RowLaws.{of-row}
use Rattle.browser_driver.proofs.SeenLaws.{position_after, position-all}

-- tabs whose rows are found by their ids
module _ (tabs : List Tab) (window : ℤ) where
  abbrev AreFound : ℕ → List BrowserTab → Type 0
  AreFound n ts = AllByRecursion (λ y. find_row int_cmp tab_key (tab_key y) tabs ≡ Some y) (rows_from window n ts)

  abbrev stand : ℕ → BrowserTab → Stand
  stand n t = record { window = window; place = n; tab = t }

  rows-seen : (n : ℕ) (ts : List BrowserTab) → AreFound n ts
      → seen_rows tabs (map own_id ts) ≡ map row_of (filter is_seen (stands_from window n ts))
  rows-seen n [] all = refl
  rows-seen n (t ∷ ts) all = by t.pages refl (rows-seen (suc n) ts all.1)
    where
      by : (ps : List Navigation) → t.pages ≡ ps
          → seen_rows tabs (map own_id ts) ≡ map row_of (filter is_seen (stands_from window (suc n) ts))
          → seen_rows tabs (map own_id (t ∷ ts)) ≡ map row_of (filter is_seen (stands_from window n (t ∷ ts)))
      by [] none rest = rw (all.0, none) rest
      by (p ∷ ps) some rest = rw (all.0, some) (ap (λ xs. row_of (stand n (record t { pages = p ∷ ps })) ∷ xs) rest)

  places-seen : (n : ℕ) (ts : List BrowserTab) → AreFound n ts
      → seen_places tabs n (map own_id ts) ≡ map (λ st. pos st.place) (filter is_seen (stands_from window n ts))
  places-seen n [] all = refl
  places-seen n (t ∷ ts) all = by t.pages refl (places-seen (suc n) ts all.1)
    where
      by : (ps : List Navigation) → t.pages ≡ ps
          → seen_places tabs (suc n) (map own_id ts)
          ≡ map (λ st. pos st.place) (filter is_seen (stands_from window (suc n) ts))
          → seen_places tabs n (map own_id (t ∷ ts))
          ≡ map (λ st. pos st.place) (filter is_seen (stands_from window n (t ∷ ts)))
      by [] none rest = rw (all.0, none) rest
      by (p ∷ ps) some rest = rw (all.0, some) (ap (λ xs. pos n ∷ xs) rest)

-- of stands that are seen
seen-is : (groups : List GroupInfo) (moment : ℤ) (w : BrowserWindow) (seen : List Stand)
    → entry_of_rows groups moment (window_row w) (map (λ st. pos st.place) seen) (map row_of seen)
    ≡ entry_of_seen groups moment w seen
seen-is groups moment w [] = refl
seen-is groups moment w (st ∷ sts) =
    ap (λ (ts : List ClosedTab). Some (entry.Window (record (entry_window groups moment w (st ∷ sts)) { tabs = ts })))
    (map-map row_of (closed_row groups moment) (st ∷ sts))

pub left-is : (s : State) (orders : List (ℤ × List ℤ)) (closed : List Entry) (moment : ℤ) (id : ℤ) (w : BrowserWindow)
    → IsHeld s orders closed moment → window_of id (held s orders closed moment) ≡ Some w
    → entry_in_order s.tabs s.groups moment (window_row w) (order_of id orders) ≡ entry_of_window s.groups moment w
left-is s orders closed moment id w h found =
    let b = held s orders closed moment in
    let order_is : order_of id orders ≡ map own_id w.tabs =
    h.seated id ∙ ap (λ o. map own_id (tabs_or_none o)) found in
    let P : Tab → Type 0 = λ y. find_row int_cmp tab_key (tab_key y) s.tabs ≡ Some y in
    let rows : AllByRecursion P (rows_from w.info.id zero w.tabs) =
    of-row (λ v. AllByRecursion P (rows_from v.info.id zero v.tabs)) int_cmp open_key id w b.windows found
    (each-window P b.windows (rows-back s b h.running h.matches)) in
    let seen = filter is_seen (stands_in w) in
    ap (entry_in_order s.tabs s.groups moment (window_row w)) order_is
    ∙ ap (λ ps. entry_of_rows s.groups moment (window_row w) ps (seen_rows s.tabs (map own_id w.tabs)))
    (places-seen s.tabs w.info.id zero w.tabs rows)
    ∙ ap (entry_of_rows s.groups moment (window_row w) (map (λ st. pos st.place) seen))
    (rows-seen s.tabs w.info.id zero w.tabs rows)
    ∙ seen-is s.groups moment w seen

-- what holds of each row holds of those of an order that have pages, which are no more than the order's tabs
seen-all : (P : Tab → Type 0) (tabs : List Tab) (ids : List ℤ) → AllByRecursion P tabs
    → AllByRecursion P (seen_rows tabs ids)
seen-all P tabs [] all = tt
seen-all P tabs (id ∷ ids) all = by (find_row int_cmp tab_key id tabs) refl (seen-all P tabs ids all)
  where
    of-pages : (t : Tab) (b : Bool) → P t → AllByRecursion P (seen_rows tabs ids)
        → AllByRecursion P (cons_option (if b then Some t else None) (seen_rows tabs ids))
    of-pages t true here rest = (here, rest)
    of-pages t false here rest = rest

    by : (o : Option Tab) → find_row int_cmp tab_key id tabs ≡ o → AllByRecursion P (seen_rows tabs ids)
        → AllByRecursion P (seen_rows tabs (id ∷ ids))
    by None e rest = rw e rest
    by (Some t) e rest = rw e (of-pages t (has_page t.pages) (of-row P int_cmp tab_key id t tabs e all) rest)

seen-few : (tabs : List Tab) (ids : List ℤ) → length (seen_rows tabs ids) ≤ length ids
seen-few tabs [] = omega arith
seen-few tabs (id ∷ ids) = by (seen_tab tabs id) (seen-few tabs ids)
  where
    by : (o : Option Tab) → length (seen_rows tabs ids) ≤ length ids
        → length (cons_option o (seen_rows tabs ids)) ≤ suc (length ids)
    by None rest = omega (arith, rest)
    by (Some t) rest = omega (arith, rest)

places-few : (tabs : List Tab) (n : ℕ) (ids : List ℤ) → length (seen_places tabs n ids) ≤ length ids
places-few tabs n [] = omega arith
places-few tabs n (id ∷ ids) = by (seen_tab tabs id) (places-few tabs (suc n) ids)
  where
    by : (o : Option Tab) → length (seen_places tabs (suc n) ids) ≤ length ids
        → length (place_where n o ++ seen_places tabs (suc n) ids) ≤ suc (length ids)
    by None rest = omega (arith, rest)
    by (Some t) rest = omega (arith, rest)

position-few : (before : ℕ) (least : ℤ) (xs : List ℤ) → position_after before least xs ≤ before + length xs
position-few before least [] = omega arith
position-few before least (x ∷ xs) = by (int_le least x) (position-few (suc before) least xs)
  where
    by : (b : Bool) → position_after (suc before) least xs ≤ suc before + length xs
        → (if b then before else position_after (suc before) least xs) ≤ before + suc (length xs)
    by true rest = omega arith
    by false rest = omega (arith, rest)

no-bounds-ranged : AreBoundsInRange no_bounds
no-bounds-ranged = search rules

bounds-ranged : (o : Option Bounds) → IfSome o AreBoundsInRange → AreBoundsInRange (unwrap_or o no_bounds)
bounds-ranged None ranged = no-bounds-ranged
bounds-ranged (Some bounds) ranged = ranged

rows-fit : (groups : List GroupInfo) (moment : ℤ) (ts : List Tab) → AllByRecursion IsKeptTab ts
    → AllByRecursion IsTabInRange ts → AllByRecursion IsGroupInRange groups → FitsSigned w64 moment
    → AllByRecursion IsTab (map (closed_row groups moment) ts)
rows-fit groups moment [] kept ranged all time = tt
rows-fit groups moment (t ∷ ts) kept ranged all time =
    (row-fits groups moment t kept.0 ranged.0 all time, rows-fit groups moment ts kept.1 ranged.1 all time)

entry-fits : (groups : List GroupInfo) (moment : ℤ) (w : Window) (places : List ℤ) (seen : List Tab) → IsKeptWindow w
    → IsWindowInRange w → AllByRecursion IsTab (map (closed_row groups moment) seen) → FitsSigned w64 moment
    → length seen ≤ limit → length places ≤ limit → IfSome (entry_of_rows groups moment w places seen) IsEntry
entry-fits groups moment w places [] kept ranged each time few room = tt
entry-fits groups moment w places (t ∷ ts) kept ranged each time few room =
    let n = first_from w.selected places in
    let within = position-few 0 w.selected places in
    let same = position-all w.selected places in
    let small : n ≤ limit = omega (arith, within, same, room) in
    let count = length-map (t ∷ ts) (closed_row groups moment) in
    record {
      id = ranged.id;
      selected = omega (arith, ints);
      time = time;
      bounds = bounds-ranged w.info.bounds ranged.bounds;
      app = kept.app;
      title = kept.title;
      tabs = each;
      few = omega (arith, count, few);
    }

-- what stays fits
pub left-fits : (s : State) (moment : ℤ) (id : ℤ) (w : Window) (ids : List ℤ) → IsState s → FitsSigned w64 moment
    → find_row int_cmp window_key id s.windows ≡ Some w → length ids ≤ limit
    → IfSome (entry_in_order s.tabs s.groups moment w ids) IsEntry
left-fits s moment id w ids known time found few =
    let some = seen-few s.tabs ids in
    let room = places-few s.tabs zero ids in
    entry-fits s.groups moment w (seen_places s.tabs zero ids) (seen_rows s.tabs ids)
    (of-row IsKeptWindow int_cmp window_key id w s.windows found known.kept.each_window)
    (of-row IsWindowInRange int_cmp window_key id w s.windows found known.ranged.windows)
    (rows-fit s.groups moment (seen_rows s.tabs ids) (seen-all IsKeptTab s.tabs ids known.kept.each_tab)
    (seen-all IsTabInRange s.tabs ids known.ranged.tabs) known.ranged.groups time)
    time (omega (arith, some, few)) (omega (arith, room, few))
