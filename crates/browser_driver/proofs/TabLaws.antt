-- Verbs on one tab: what they make of the tab's row is what they make of the tab.
use Rattle.std.specs.Prelude.{Ok}
use Rattle.std.proofs.Common.{◌≡◌, Bool, false, ℤ, List, [], ◌∷◌, Option, Some, None, option_map, refl, sym, ap, subst}
use Rattle.closed_entries.specs.declared.entry.Entry.{Entry}
use Rattle.navigation_entry.specs.declared.group.GroupInfo.{GroupInfo}
use Rattle.session_commands.specs.declared.command.SessionCommand.{SessionCommand}
use Rattle.session_commands.specs.declared.command.SessionCommand.TheVariants as command
use Rattle.window_state.specs.declared.change.TabEdit.TheVariants as edit
use Rattle.window_state.specs.declared.group_id.GroupId.{GroupId}
use Rattle.window_state.specs.declared.tab.Tab.{Tab}
use Rattle.window_state.specs.Changes.{edited_tab}
use Rattle.window_state.specs.Keys.{tab_key}
use Rattle.window_state.specs.States.{State}
use Rattle.browser_model.specs.Browsers.{Browser, BrowserTab, Stand, own_id, stand_key, row_of, Matches, HasGroup, IsAtPage}
use Rattle.browser_model.specs.OneTab as tab
use Rattle.browser_model.specs.Tabs.{stand_of, put_tab}
use Rattle.browser_model.proofs.Turns.{mapped, on, on-key, running-mapped}
use Rattle.browser_model.proofs.TabLaws.{one-row, own-id, of-found}
use Rattle.browser_driver.specs.Acts.{Answer, at_tab, changes_tab, with_found}
use Rattle.browser_driver.specs.Acts as act
use Rattle.browser_driver.specs.Held.{held, IsHeld}
use Rattle.browser_driver.specs.Plans.{Plan, with_row, at_row, pins}
use Rattle.browser_driver.specs.declared.fault.VerbFault.TheVariants.{NoTab}
use Rattle.browser_driver.proofs.FoundLaws.{found-row}
use Rattle.browser_driver.proofs.SeatLaws.{seated-put}
use Rattle.browser_driver.proofs.AnswerLaws.{Joins}

-- a browser knows of a group what it knows
pub own-group : (groups : List GroupInfo) (t : BrowserTab) → HasGroup groups groups t
own-group groups t = by t.info.group refl
  where
    by : (g : Option GroupId) → t.info.group ≡ g → HasGroup groups groups t
    by None e = rw e tt
    by (Some id) e = rw e refl

module _ (s : State) (orders : List (ℤ × List ℤ)) (closed : List Entry) (moment : ℤ)
    (h : IsHeld s orders closed moment) (id : ℤ) where
  abbrev b : Browser
  b = held s orders closed moment

  -- a plan for the row of a tab that stands, and a verb on the tab
  pub joins-tab : (plan : Tab → Plan) (answer : Stand → Answer)
      → ((st : Stand) → stand_of id b ≡ Some st → Joins orders closed moment (plan (row_of st)) (answer st))
      → Joins orders closed moment (at_row id s plan) (at_tab id b answer)
  joins-tab plan answer joins = rw (found-row s b id h.running h.matches) (by (stand_of id b) refl)
    where
      by : (o : Option Stand) → stand_of id b ≡ o
          → Joins orders closed moment (with_row (option_map row_of o) (NoTab id) plan) (with_found o (NoTab id) answer)
      by None e = refl
      by (Some st) e = joins st e

  -- the row becomes that of another tab
  pub joins-put : (st : Stand) → stand_of id b ≡ Some st → (f : Tab → Tab) (new : BrowserTab)
      (session commands : List SessionCommand) → ((t : Tab) → tab_key (f t) ≡ tab_key t)
      → f (row_of st) ≡ row_of (record st { tab = new }) → own_id new ≡ own_id st.tab → IsAtPage new
      → session ≡ commands
      → Joins orders closed moment (Ok (record { state = mapped (on id f) s; session = session }))
      (changes_tab st new commands b)
  joins-put st found f new session commands keys leads own page same =
      let key : id ≡ stand_key st = own-id s b id st h.running h.matches found in
      let matches : Matches (mapped (on id f) s) (record b { windows = put_tab id new b.windows }) =
      one-row s b id st new f h.running h.matches found keys leads (own-group s.groups new) page in (
        record {
          running = running-mapped (on id f) (on-key id f keys) s h.running;
          matches = subst (λ q. Matches (mapped (on id f) s) (record b { windows = put_tab q new b.windows })) key matches;
          seated = seated-put orders b.windows (stand_key st) new own h.seated;
          groups = refl;
          closed_is = refl;
          moment_is = refl;
        },
        ap (λ cs. record {
          browser = record b { windows = put_tab (stand_key st) new b.windows };
          session = cs;
          tabs = [];
          sync = false;
          compact = false;
        }) (sym same),
      )

  -- what it shows stays
  pub page-kept : (st : Stand) → stand_of id b ≡ Some st → IsAtPage st.tab
  page-kept st found = of-found IsAtPage s b id st h.running h.matches found h.matches.at_page

  pub joins-pin : (flag : Bool) → Joins orders closed moment (pins flag id s)
      (act.pins flag id b)
  joins-pin flag = joins-tab _ _ (λ st found. joins-put st found (edited_tab (edit.Pinned flag))
      (tab.pinned flag st.tab) (command.Pinned id flag ∷ []) (tab.pin flag st.tab) (λ t. refl) refl refl
      (page-kept st found)
      (ap (λ q. command.Pinned q flag ∷ []) (own-id s b id st h.running h.matches found)))
