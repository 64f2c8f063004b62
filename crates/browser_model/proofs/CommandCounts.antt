-- How many commands say what becomes of a tab or a window, and of an entry that it leaves.
use Rattle.std.proofs.Common.{◌≡◌, ℕ, zero, suc, ◌+◌, ◌*◌, ◌-◌, ◌≤◌, nat_lt, Bool, true, false, not, if◌then◌else◌, ℤ}
use Rattle.std.proofs.Common.{pos, List, []}
use Rattle.std.proofs.Common.{◌∷◌, map, filter, take, drop, length, sum_by, Some, None, refl, ap, arith}
use Rattle.std.specs.Ordering.{int_cmp, is_eq}
use Rattle.std.proofs.lemmas.List.{length-append, length-drop, length-map, length-take}
use Rattle.std.proofs.lemmas.List.Filters.{sum_by-filter_both}
use Rattle.std.proofs.lemmas.List.Sums.{sum_by-cons}
use Rattle.closed_entries.specs.declared.entry.Entry.{Entry}
use Rattle.closed_entries.specs.declared.entry.Entry.TheVariants as entry
use Rattle.closed_entries.specs.States.{State}
use Rattle.navigation_entry.specs.declared.navigation.Navigation.{Navigation}
use Rattle.navigation_entry.specs.declared.group.GroupInfo.{GroupInfo}
use Rattle.session_commands.specs.declared.command.SessionCommand.{SessionCommand}
use Rattle.session_commands.specs.declared.command.SessionCommand.TheVariants.{PrunedBack, PrunedFront}
use Rattle.tab_pages.specs.PageLists.{has_page}
use Rattle.tabs_compactor.specs.Compaction.{entry_commands, entries_commands, closing, tab_weight, entry_weight}
use Rattle.tabs_compactor.specs.Laws.Counts.{few}
use Rattle.window_state.proofs.StateLaws.{length-filter}
use Rattle.browser_model.specs.Browsers.{Browser, BrowserWindow, BrowserTab, Stand, all_stands, numbered, stand_key}
use Rattle.browser_model.specs.Browsers.{stands_from}
use Rattle.browser_model.specs.Browsers.{stands_in}
use Rattle.browser_model.specs.Closing.{close_tab}
use Rattle.browser_model.specs.Entries.{entry_tab, entry_window, entry_of_tab, entry_of_seen, entry_of_window}
use Rattle.browser_model.specs.Entries.{left_commands}
use Rattle.browser_model.specs.Moving.{others_of, move_elsewhere, move_within, move}
use Rattle.browser_model.specs.OneTab.{reached, where_so, visit}
use Rattle.browser_model.specs.Pictures.{is_seen}
use Rattle.browser_model.specs.Tabs.{is_other, later_tabs, places, put_at, tabs_of, taken_out}
use Rattle.browser_model.proofs.AmountLaws.{all_tabs, page_count, all-filter, length-stands, sum-map, tabs-from}
use Rattle.browser_model.proofs.WindowAmounts.{few-tabs_of}

length-places : (n : ℕ) (ts : List BrowserTab) → length (places n ts) ≡ length ts
length-places n [] = refl
length-places n (t ∷ ts) = ap suc (length-places (suc n) ts)

pub few-close_tab : (s : Stand) (b : Browser) → length (close_tab s b) ≤ length (all_stands b.windows) + 1
few-close_tab s b =
    let told = length-places s.place (later_tabs s b.windows) in
    let later = length-drop (suc s.place) (tabs_of s.window b.windows) in
    let own = few-tabs_of s.window b.windows in
    let all = length-stands b.windows in
    omega arith

-- a move tells tabs of two windows their places
few-others : (s : Stand) (window : ℤ) (ws : List BrowserWindow)
    → length (others_of s window ws) ≤ length (all_stands ws)
few-others s window ws =
    let own = few-tabs_of window (taken_out (stand_key s) ws) in
    let left = ap length (all-filter (is_other (stand_key s)) ws) in
    let less = length-filter (is_other (stand_key s)) (all_tabs ws) in
    let all = length-stands ws in
    omega arith

few-put_at : (place : ℕ) (t : BrowserTab) (ts : List BrowserTab) → length (put_at place t ts) ≤ length ts + 1
few-put_at place t ts =
    let parts = length-append (take place ts) (t ∷ drop place ts) in
    let front = length-take place ts in
    let back = length-drop place ts in
    omega arith

few-move_within : (s : Stand) (place : ℕ) (b : Browser)
    → length (move_within s place b) ≤ length (all_stands b.windows) + 1
few-move_within s place b =
    let tabs = put_at place s.tab (others_of s s.window b.windows) in
    let put = few-put_at place s.tab (others_of s s.window b.windows) in
    let own = few-others s s.window b.windows in
    one (nat_lt s.place place) tabs (omega arith)
  where
    part : (n k m : ℕ) (tabs : List BrowserTab) → length (places n (take k (drop m tabs))) ≤ length tabs
    part n k m tabs =
        let told = length-places n (take k (drop m tabs)) in
        let taken = length-take k (drop m tabs) in
        let left = length-drop m tabs in
        omega arith

    one : (later : Bool) (tabs : List BrowserTab) → length tabs ≤ length (all_stands b.windows) + 1
        → length (if later then places s.place (take (suc (place - s.place)) (drop s.place tabs))
        else places place (take (suc (s.place - place)) (drop place tabs))) ≤ length (all_stands b.windows) + 1
    one true tabs short = let few = part s.place (suc (place - s.place)) s.place tabs in omega arith
    one false tabs short = let few = part place (suc (s.place - place)) place tabs in omega arith

few-move_elsewhere : (s : Stand) (window : ℤ) (place : ℕ) (b : Browser)
    → length (move_elsewhere s window place b) ≤ 2 * length (all_stands b.windows) + 2
few-move_elsewhere s window place b =
    let others = others_of s window b.windows in
    let later = later_tabs s b.windows in
    let left = length-places s.place later in
    let came = length-places place (s.tab ∷ drop place others) in
    let both = length-append (places s.place later) (places place (s.tab ∷ drop place others)) in
    let behind = length-drop (suc s.place) (tabs_of s.window b.windows) in
    let own = few-tabs_of s.window b.windows in
    let all = length-stands b.windows in
    let beyond = length-drop place others in
    let few = few-others s window b.windows in
    omega arith

pub few-move : (s : Stand) (window : ℤ) (place : ℕ) (b : Browser)
    → length (move s window place b) ≤ 2 * length (all_stands b.windows) + 2
few-move s window place b =
    let within = few-move_within s place b in
    let elsewhere = few-move_elsewhere s window place b in
    elim (is_eq (int_cmp window s.window)) as (λ own. length (if own then move_within s place b
    else move_elsewhere s window place b) ≤ 2 * length (all_stands b.windows) + 2)
    [ true ↦ omega arith | false ↦ omega arith ]

few-where_so : (b : Bool) (command : SessionCommand) → length (where_so b command) ≤ 1
few-where_so true command = omega arith
few-where_so false command = omega arith

pub few-visit : (page : Navigation) (moment : ℤ) (t : BrowserTab) → length (visit page moment t) ≤ 5
few-visit page moment t =
    let r = reached t.current in
    let back = few-where_so (nat_lt r (length t.pages)) (PrunedBack t.info.id (pos r)) in
    let front = few-where_so (nat_lt 0 (suc r - 50)) (PrunedFront t.info.id (pos (suc r - 50))) in
    simp length-append (omega arith)

-- an entry alone is restated as a state of one entry is
few-entry : (e : Entry) → length (entry_commands 0 e) ≤ entry_weight e + 1
few-entry e =
    let alone : State = record { entries = e ∷ []; open_entry = false; awaited = 0 } in
    let all = few alone in
    let parts = length-append (entries_commands 0 (e ∷ [])) (closing (e ∷ []) false) in
    let one = sum_by-cons entry_weight e [] in
    omega arith

length-numbered : (n : ℕ) (pages : List Navigation) → length (numbered n pages) ≡ length pages
length-numbered n [] = refl
length-numbered n (p ∷ ps) = ap suc (length-numbered (suc n) ps)

pub few-left_tab : (groups : List GroupInfo) (moment : ℤ) (t : BrowserTab)
    → length (left_commands (entry_of_tab groups moment t)) ≤ length t.pages + 6
few-left_tab groups moment t =
    let most = few-entry (entry.Tab (entry_tab groups moment t)) in
    let pages = length-numbered zero t.pages in
    elim (has_page (numbered zero t.pages)) as (λ b. length (left_commands
    (if b then Some (entry.Tab (entry_tab groups moment t)) else None)) ≤ length t.pages + 6)
    [ true ↦ omega arith | false ↦ omega arith ]

-- the most commands that restate some stands, and the stands of tabs
weigh-stands : (groups : List GroupInfo) (moment : ℤ) (ss : List Stand)
    → sum_by tab_weight (map (λ s. entry_tab groups moment s.tab) ss)
    ≡ 5 * length ss + sum_by (λ s. length s.tab.pages) ss
weigh-stands groups moment [] = refl
weigh-stands groups moment (s ∷ ss) =
    let rest = weigh-stands groups moment ss in
    let own = sum_by-cons tab_weight (entry_tab groups moment s.tab) (map (λ x. entry_tab groups moment x.tab) ss) in
    let pages = sum_by-cons (λ (x : Stand). length x.tab.pages) s ss in
    let same = length-numbered zero s.tab.pages in
    omega arith

-- the stands of a window's tabs that have pages
few-seen : (window : ℤ) (ts : List BrowserTab)
    → let seen = filter is_seen (stands_from window zero ts) in
    5 * length seen + sum_by (λ s. length s.tab.pages) seen ≤ 5 * length ts + sum_by page_count ts
few-seen window ts =
    let ss = stands_from window zero ts in
    let seen = length-filter is_seen ss in
    let pages = sum_by-filter_both is_seen (λ s. not (is_seen s)) (λ s. refl) (λ (s : Stand). length s.tab.pages) ss in
    let tabs = tabs-from window zero ts in
    let long = length-map ss (λ (s : Stand). s.tab) in
    let same = ap length tabs in
    let all = sum-map (λ (s : Stand). s.tab) page_count ss in
    let own = ap (sum_by page_count) tabs in
    omega arith

pub few-left_window : (groups : List GroupInfo) (moment : ℤ) (w : BrowserWindow)
    → length (left_commands (entry_of_window groups moment w)) ≤ 5 * length w.tabs + sum_by page_count w.tabs + 4
few-left_window groups moment w = by (filter is_seen (stands_in w)) (few-seen w.info.id w.tabs)
  where
    by : (seen : List Stand)
        → 5 * length seen + sum_by (λ s. length s.tab.pages) seen ≤ 5 * length w.tabs + sum_by page_count w.tabs
        → length (left_commands (entry_of_seen groups moment w seen)) ≤ 5 * length w.tabs + sum_by page_count w.tabs + 4
    by [] short = omega arith
    by (s ∷ ss) short =
        let most = few-entry (entry.Window (entry_window groups moment w (s ∷ ss))) in
        let tabs = weigh-stands groups moment (s ∷ ss) in
        omega arith
