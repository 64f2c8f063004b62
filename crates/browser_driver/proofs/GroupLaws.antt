-- A tab that comes into a group or leaves its group.
use Rattle.std.proofs.Common.{◌≡◌, ℕ, ◌≤◌, nat_le, Bool, true, false, if◌then◌else◌, ℤ, List, [], ◌∷◌, length}
use Rattle.std.proofs.Common.{None, Some, refl, sym, ap, ◌∙◌, arith}
use Rattle.std.specs.List.{AllByRecursion}
use Rattle.std.proofs.lemmas.Bool.Decides.{nat_tests}
use Rattle.closed_entries.specs.declared.entry.Entry.{Entry}
use Rattle.navigation_entry.specs.declared.group.GroupInfo.{GroupInfo}
use Rattle.script_lines.specs.declared.verb.Verb.TheVariants.{Ungroup}
use Rattle.session_commands.specs.declared.command.SessionCommand.TheVariants.{TabGroup, GroupData}
use Rattle.window_state.specs.declared.change.TabEdit.TheVariants as edit
use Rattle.window_state.specs.Changes.{edited_tab}
use Rattle.window_state.specs.Keys.{group_key}
use Rattle.window_state.specs.States.{State, with_group}
use Rattle.browser_model.specs.Browsers.{Browser, BrowserTab, BrowserWindow, EachTab, HasGroup}
use Rattle.browser_model.specs.Navigations.{given_group, given_where}
use Rattle.browser_model.specs.OneTab.{in_group, ungroup, grouped_tab, group_tab}
use Rattle.browser_model.proofs.TabLaws.{own-id}
use Rattle.browser_driver.specs.Acts.{act, at_tab, issues}
use Rattle.browser_driver.specs.Held.{held, IsHeld}
use Rattle.browser_driver.specs.Plans.{groups, ungroups}
use Rattle.browser_driver.proofs.AnswerLaws.{Joins}
use Rattle.browser_driver.proofs.ValueLaws.{group-same}
use Rattle.browser_driver.proofs.TabLaws.{own-group, joins-tab, joins-put, page-kept}

-- the fields of the group that a verb gives
module _ (high low : ℕ) (title : List ℕ) (colour : ℕ) where
  title-of : (b : Bool) (few : nat_le (length title) 8192 ≡ b)
      → (given_where b high low title colour few).title ≡ (if b then title else [])
  title-of true few = refl
  title-of false few = refl

  colour-of : (b : Bool) (few : nat_le (length title) 8192 ≡ b)
      → (given_where b high low title colour few).colour ≡ (if b then colour else 0)
  colour-of true few = refl
  colour-of false few = refl

  high-of : (b : Bool) (few : nat_le (length title) 8192 ≡ b) → (given_where b high low title colour few).high ≡ high
  high-of true few = refl
  high-of false few = refl

  low-of : (b : Bool) (few : nat_le (length title) 8192 ≡ b) → (given_where b high low title colour few).low ≡ low
  low-of true few = refl
  low-of false few = refl

  rest-of : (b : Bool) (few : nat_le (length title) 8192 ≡ b) → (given_where b high low title colour few).rest ≡ []
  rest-of true few = refl
  rest-of false few = refl

  -- a group with these fields is the one that is given
  pub given-is : (g : GroupInfo) → length title ≤ 8192 → g.high ≡ high → g.low ≡ low → g.title ≡ title
      → g.colour ≡ colour → g.rest ≡ [] → g ≡ given_group high low title colour
  given-is g few high_is low_is title_is colour_is rest_is =
      let within : nat_le (length title) 8192 ≡ true = grind (arith, nat_tests) in
      let b = nat_le (length title) 8192 in
      group-same g (given_group high low title colour) (high_is ∙ sym (high-of b refl)) (low_is ∙ sym (low-of b refl))
      (title_is ∙ sym (title-of b refl ∙ ap (λ x. if x then title else []) within))
      (colour_is ∙ sym (colour-of b refl ∙ ap (λ x. if x then colour else 0) within))
      (rest_is ∙ sym (rest-of b refl))

each-own : (groups : List GroupInfo) (ws : List BrowserWindow) → EachTab (HasGroup groups groups) ws
each-own groups [] = tt
each-own groups (w ∷ ws) = (tabs w.tabs, each-own groups ws)
  where
    tabs : (ts : List BrowserTab) → AllByRecursion (HasGroup groups groups) ts
    tabs [] = tt
    tabs (t ∷ ts) = (own-group groups t, tabs ts)

module _ (s : State) (orders : List (ℤ × List ℤ)) (closed : List Entry) (moment : ℤ)
    (h : IsHeld s orders closed moment) (id : ℤ) where
  abbrev b : Browser
  b = held s orders closed moment

  pub joins-ungroup : Joins orders closed moment (ungroups id s) (act (Ungroup id) b)
  joins-ungroup = joins-tab s orders closed moment h id _ _ (λ st found.
      joins-put s orders closed moment h id st found (edited_tab (edit.Group None)) (in_group None st.tab)
      (TabGroup id 0 0 false ∷ []) (ungroup st.tab) (λ t. refl) refl refl
      (page-kept s orders closed moment h id st found)
      (ap (λ q. TabGroup q 0 0 false ∷ []) (own-id s b id st h.running h.matches found)))

  -- a state in which more is known of groups
  known : (group : GroupInfo) → IsHeld (with_group group s) orders closed moment
  known group = record {
    running = record { tabs = h.running.tabs; windows = h.running.windows; within = h.running.within };
    matches = record {
      tabs = h.matches.tabs;
      windows = h.matches.windows;
      active = h.matches.active;
      groups = each-own (with_group group s).groups b.windows;
      at_page = h.matches.at_page;
    };
    seated = h.seated;
  }

  pub joins-group : (group : GroupInfo) → Joins orders closed moment (groups id group s)
      (at_tab id b (λ st. issues (grouped_tab group st b) (group_tab group st.tab)))
  joins-group group = joins-tab s orders closed moment h id _ _ (λ st found.
      joins-put (with_group group s) orders closed moment (known group) id st found
      (edited_tab (edit.Group (Some (group_key group)))) (in_group (Some (group_key group)) st.tab)
      (TabGroup id group.high group.low true ∷ GroupData group ∷ []) (group_tab group st.tab) (λ t. refl) refl refl
      (page-kept s orders closed moment h id st found)
      (ap (λ q. TabGroup q group.high group.low true ∷ GroupData group ∷ [])
      (own-id s b id st h.running h.matches found)))
