-- One tab changes where it stands: what becomes of it, and the commands.
use Rattle.std.specs.Prelude.{ℕ, zero, suc, ◌-◌, nat_lt, ℤ, pos, negsuc, ◌+ℤ◌, ◌-ℤ◌, Bool, true, false}
use Rattle.std.specs.Prelude.{if◌then◌else◌, List, [], ◌∷◌, ◌++◌, length, take, drop, Option, None, Some}
use Rattle.navigation_entry.specs.declared.navigation.Navigation.{Navigation}
use Rattle.navigation_entry.specs.declared.group.GroupInfo.{GroupInfo}
use Rattle.session_commands.specs.declared.command.SessionCommand.{SessionCommand}
use Rattle.session_commands.specs.declared.command.SessionCommand.TheVariants.{UpdateNavigation, SelectNavigation}
use Rattle.session_commands.specs.declared.command.SessionCommand.TheVariants.{PrunedBack, PrunedFront, Pinned}
use Rattle.session_commands.specs.declared.command.SessionCommand.TheVariants.{LastActive, TabGroup, GroupData}
use Rattle.window_state.specs.declared.group_id.GroupId.{GroupId}
use Rattle.window_state.specs.Keys.{group_key, group_cmp}
use Rattle.window_state.specs.RowLists.{put_row}
use Rattle.browser_model.specs.Browsers.{Browser, BrowserTab, Stand, stand_key}
use Rattle.browser_model.specs.Pictures.{nat_of}
use Rattle.browser_model.specs.Tabs.{put_tab}

-- how many pages stand up to the current one
abbrev pub reached : ℤ → ℕ
reached (pos n) = suc n
reached (negsuc n) = zero

-- a page behind the current one, in place of all later ones; of more than 50 pages the first ones go
abbrev pub visited : Navigation → ℤ → BrowserTab → BrowserTab
visited page moment t =
    let r = reached t.current in
    let k = suc r - 50 in
    record {
      info = record t.info { last_active = moment };
      pages = drop k (take r t.pages ++ page ∷ []);
      current = pos (r - k);
    }

abbrev pub where_so : Bool → SessionCommand → List SessionCommand
where_so b command = if b then command ∷ [] else []

abbrev pub visit : Navigation → ℤ → BrowserTab → List SessionCommand
visit page moment t =
    let id = t.info.id in
    let r = reached t.current in
    let k = suc r - 50 in
    where_so (nat_lt r (length t.pages)) (PrunedBack id (pos r))
    ++ ((UpdateNavigation id (pos r) page ∷ SelectNavigation id (pos r) ∷ [])
    ++ (where_so (nat_lt 0 k) (PrunedFront id (pos k))
    ++ (LastActive id moment ∷ [])))

abbrev pub went_back : BrowserTab → BrowserTab
went_back t = record t { current = t.current -ℤ pos 1 }

abbrev pub back : BrowserTab → List SessionCommand
back t = SelectNavigation t.info.id (t.current -ℤ pos 1) ∷ []

abbrev pub went_forward : BrowserTab → BrowserTab
went_forward t = record t { current = t.current +ℤ pos 1 }

abbrev pub forward : BrowserTab → List SessionCommand
forward t = SelectNavigation t.info.id (t.current +ℤ pos 1) ∷ []

abbrev pub pinned : Bool → BrowserTab → BrowserTab
pinned flag t = record t { info = record t.info { pinned = flag } }

abbrev pub pin : Bool → BrowserTab → List SessionCommand
pin flag t = Pinned t.info.id flag ∷ []

-- the page at a place becomes another
abbrev pub change_at : ℕ → Navigation → List Navigation → List Navigation
change_at n new [] = []
change_at zero new (p ∷ ps) = new ∷ ps
change_at (suc n) new (p ∷ ps) = p ∷ change_at n new ps

-- the current page, none without pages
abbrev pub page_at : ℕ → List Navigation → Option Navigation
page_at n [] = None
page_at zero (p ∷ ps) = Some p
page_at (suc n) (p ∷ ps) = page_at n ps

abbrev pub current_page : BrowserTab → Option Navigation
current_page t = page_at (nat_of t.current) t.pages

-- the current page becomes another
abbrev pub titled : Navigation → BrowserTab → BrowserTab
titled new t = record t { pages = change_at (nat_of t.current) new t.pages }

abbrev pub title : Navigation → BrowserTab → List SessionCommand
title new t = UpdateNavigation t.info.id t.current new ∷ []

-- a tab comes into a group, of which this is known from now on, or leaves its group
abbrev pub in_group : Option GroupId → BrowserTab → BrowserTab
in_group group t = record t { info = record t.info { group = group } }

abbrev pub grouped_tab : GroupInfo → Stand → Browser → Browser
grouped_tab group s b = record b {
  windows = put_tab (stand_key s) (in_group (Some (group_key group)) s.tab) b.windows;
  groups = put_row group_cmp group_key group b.groups;
}

abbrev pub group_tab : GroupInfo → BrowserTab → List SessionCommand
group_tab group t = TabGroup t.info.id group.high group.low true ∷ GroupData group ∷ []

abbrev pub ungroup : BrowserTab → List SessionCommand
ungroup t = TabGroup t.info.id 0 0 false ∷ []
