-- Every command keeps a state in order and within the limits.
use Rattle.std.proofs.Common.{◌≡◌, nat_le, Bool, true, false, not, ◌&&◌, if◌then◌else◌, ℤ, List, [], ◌∷◌}
use Rattle.std.proofs.Common.{filter, length, Some, refl, arith}
use Rattle.std.specs.Ordering.{int_cmp}
use Rattle.std.specs.Cmp.{int_cmp_total}
use Rattle.std.proofs.lemmas.Bool.Decides.{nat_tests}
use Rattle.session_commands.specs.declared.command.SessionCommand.{SessionCommand}
use Rattle.session_commands.specs.declared.command.SessionCommand.TheVariants.{UpdateNavigation, GroupData, Extension}
use Rattle.session_commands.specs.declared.command.SessionCommand.TheVariants.{WindowApp, SessionStorage, Workspace}
use Rattle.session_commands.specs.declared.command.SessionCommand.TheVariants.{TabGuid, UserAgent, UserTitle, TabExtra}
use Rattle.session_commands.specs.declared.command.SessionCommand.TheVariants.{WindowExtra, TabWindow, TabIndex}
use Rattle.session_commands.specs.declared.command.SessionCommand.TheVariants.{PrunedBack, SelectNavigation, SelectTab}
use Rattle.session_commands.specs.declared.command.SessionCommand.TheVariants.{WindowKind, PrunedFront, Pinned}
use Rattle.session_commands.specs.declared.command.SessionCommand.TheVariants.{WindowBounds, TabClosed, WindowClosed}
use Rattle.session_commands.specs.declared.command.SessionCommand.TheVariants.{ActiveWindow, LastActive, Pruned}
use Rattle.session_commands.specs.declared.command.SessionCommand.TheVariants.{TabGroup, AllWorkspaces, Raw}
use Rattle.tab_pages.specs.PageLists.{prune, prune_back, prune_front, put_page}
use Rattle.window_state.specs.declared.tab.Tab.{Tab}
use Rattle.window_state.specs.declared.window.Window.{Window}
use Rattle.window_state.specs.Limits.{limit}
use Rattle.window_state.specs.Keys.{tab_key, window_key}
use Rattle.window_state.specs.RowLists.{without_row}
use Rattle.window_state.specs.Changes.{new_tab, new_window, current_front, current_pruned, set_pair}
use Rattle.window_state.specs.States.{State, is_within, is_in, stands, with_tab, with_window, with_both, or_unchanged}
use Rattle.window_state.specs.States.{on_tab, on_window, placed, without_window, window_closed}
use Rattle.window_state.proofs.RowLaws.{length-without}
use Rattle.window_state.proofs.OrderLaws.{sorted-filter, sorted-step, sorted-without}
use Rattle.window_state.proofs.StateLaws.{length-filter}
use Rattle.replay_machine.specs.Step.{step, fold, group_where}
use Rattle.browser_model.specs.Running.{IsRunning}
use Rattle.browser_model.proofs.Matching.{running-closed}

either : (old new : State) → IsRunning old → (is_within new ≡ true → IsRunning new) → IsRunning (or_unchanged old new)
either old new r made = by (is_within new) refl
  where
    by : (b : Bool) → is_within new ≡ b → IsRunning (if is_within new then new else old)
    by true e = rw e (made e)
    by false e = rw e r

pub running-tab : (id : ℤ) (f : Tab → Tab) (s : State) → ((t : Tab) → tab_key (f t) ≡ tab_key t) → IsRunning s
    → IsRunning (on_tab id f s)
running-tab id f s same r = either s (with_tab id f s) r
    (λ w. record {
      tabs = sorted-step int_cmp tab_key int_cmp_total id (new_tab id) f s.tabs (same (new_tab id)) same
          r.tabs;
      windows = r.windows;
      within = w;
    })

pub running-window : (id : ℤ) (f : Window → Window) (s : State) → ((w : Window) → window_key (f w) ≡ window_key w)
    → IsRunning s → IsRunning (on_window id f s)
running-window id f s same r = either s (with_window id f s) r
    (λ w. record {
      tabs = r.tabs;
      windows = sorted-step int_cmp window_key int_cmp_total id (new_window id) f s.windows
          (same (new_window id)) same r.windows;
      within = w;
    })

pub running-placed : (window tab : ℤ) (s : State) → IsRunning s → IsRunning (placed window tab s)
running-placed window tab s r = either s (with_both window tab s) r (λ w. record {
  tabs = sorted-step int_cmp tab_key int_cmp_total tab (new_tab tab) (λ t. record t { window = Some window }) s.tabs
      refl (λ t. refl) r.tabs;
  windows = sorted-step int_cmp window_key int_cmp_total window (new_window window) (λ v. v) s.windows refl (λ v. refl)
      r.windows;
  within = w;
})

pub running-window_closed : (id : ℤ) (s : State) → IsRunning s → IsRunning (window_closed id s)
running-window_closed id s r = by (stands id s.windows)
  where
    both : (a b : Bool) → (a && b) ≡ true → (a ≡ true) × (b ≡ true)
    both true b e = (refl, e)
    both false b e = absurd cc

    gone : IsRunning (without_window id s)
    gone =
        let within = both (nat_le (length s.tabs) limit) (nat_le (length s.windows) limit) r.within in
        let few_tabs = length-filter (λ (t : Tab). not (is_in id t.window)) s.tabs in
        let few_windows = length-without int_cmp window_key id s.windows in
        let e1 = within.0 in
        let e2 = within.1 in
        let tabs : nat_le (length (filter (λ (t : Tab). not (is_in id t.window)) s.tabs)) limit ≡ true =
        grind (arith, nat_tests) in
        let windows : nat_le (length (without_row int_cmp window_key id s.windows)) limit ≡ true =
        grind (arith, nat_tests) in
        record {
          tabs = sorted-filter int_cmp tab_key (λ t. not (is_in id t.window)) s.tabs r.tabs;
          windows = sorted-without int_cmp window_key id s.windows r.windows;
          within = rw (tabs, windows) refl;
        }

    by : (b : Bool) → IsRunning (if b then without_window id s else s)
    by true = gone
    by false = r

pub running-step : (s : State) (c : SessionCommand) → IsRunning s → IsRunning (step s c)
running-step s (TabWindow window tab) r = running-placed window tab s r
running-step s (TabIndex tab index) r = running-tab tab (λ t. record t { index = index }) s (λ t. refl) r
running-step s (UpdateNavigation tab index navigation) r =
    running-tab tab (λ t. record t { pages = put_page index navigation t.pages }) s (λ t. refl) r
running-step s (SelectNavigation tab index) r = running-tab tab (λ t. record t { current = index }) s (λ t. refl) r
running-step s (PrunedBack tab index) r = running-tab tab (λ t. record t { pages = prune_back index t.pages }) s
    (λ t. refl) r
running-step s (PrunedFront tab count) r =
    running-tab tab (λ t. record t { pages = prune_front count t.pages; current = current_front count t.current }) s
    (λ t. refl) r
running-step s (Pruned tab index count) r =
    running-tab tab (λ t. record t {
      pages = prune index count t.pages;
      current = current_pruned index count t.current;
    }) s (λ t. refl) r
running-step s (SelectTab window index) r = running-window window (λ w. record w { selected = index }) s (λ w. refl) r
running-step s (WindowKind window kind) r =
    running-window window (λ w. record w { info = record w.info { kind = kind } }) s (λ w. refl) r
running-step s (WindowBounds window bounds) r =
    running-window window (λ w. record w { info = record w.info { bounds = Some bounds } }) s (λ w. refl) r
running-step s (WindowApp window name tail) r =
    running-window window (λ w. record w { info = record w.info { app = Some name } }) s (λ w. refl) r
running-step s (Workspace window workspace tail) r =
    running-window window (λ w. record w { info = record w.info { workspace = Some workspace } }) s (λ w. refl) r
running-step s (UserTitle window title tail) r =
    running-window window (λ w. record w { info = record w.info { title = Some title } }) s (λ w. refl) r
running-step s (AllWorkspaces window all) r =
    running-window window (λ w. record w { info = record w.info { all_workspaces = all } }) s (λ w. refl) r
running-step s (WindowExtra window key value tail) r =
    running-window window (λ w. record w { info = record w.info { extra = set_pair key value w.info.extra } }) s
    (λ w. refl) r
running-step s (Pinned tab pinned) r = running-tab tab (λ t. record t { info = record t.info { pinned = pinned } }) s
    (λ t. refl) r
running-step s (Extension tab extension tail) r =
    running-tab tab (λ t. record t { info = record t.info { extension = Some extension } }) s (λ t. refl) r
running-step s (SessionStorage tab storage tail) r =
    running-tab tab (λ t. record t { info = record t.info { storage = Some storage } }) s (λ t. refl) r
running-step s (TabGuid tab guid tail) r =
    running-tab tab (λ t. record t { info = record t.info { guid = Some guid } }) s (λ t. refl) r
running-step s (UserAgent tab rest) r = running-tab tab (λ t. record t { info = record t.info { agent = Some rest } }) s
    (λ t. refl) r
running-step s (LastActive tab time) r = running-tab tab (λ t. record t { info = record t.info { last_active = time } })
    s (λ t. refl) r
running-step s (TabGroup tab high low grouped) r =
    running-tab tab (λ t. record t { info = record t.info { group = group_where high low grouped } }) s (λ t. refl) r
running-step s (TabExtra tab key value tail) r =
    running-tab tab (λ t. record t { info = record t.info { extra = set_pair key value t.info.extra } }) s (λ t. refl) r
running-step s (GroupData group) r = record { tabs = r.tabs; windows = r.windows; within = r.within }
running-step s (ActiveWindow window) r = record { tabs = r.tabs; windows = r.windows; within = r.within }
running-step s (TabClosed tab time) r = running-closed tab s r
running-step s (WindowClosed window time) r = running-window_closed window s r
running-step s (Raw raw) r = r

pub running-fold : (s : State) (cs : List SessionCommand) → IsRunning s → IsRunning (fold s cs)
running-fold s [] r = r
running-fold s (c ∷ cs) r = running-fold (step s c) cs (running-step s c r)
