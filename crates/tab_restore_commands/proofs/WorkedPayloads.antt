-- The table at payloads whose bytes are known: what is written for each command, flags that are read, and payloads that
-- no row holds for.
use Rattle.std.proofs.Common.{◌≡◌, ℕ, List, [], ◌∷◌, true, false, Some, pos, negsuc, refl, arith}
use Rattle.pickle_cells.specs.Cell.{int, int64, uint32, uint64, counted, padding, unit_bytes, pickle}
use Rattle.pickle_cells.specs.CellReading.{past, number_at, signed_at, text_at, counted_at, body_at}
use Rattle.pickle_cells.specs.Layout.{fields_bytes, field_bytes}
use Rattle.pickle_cells.specs.PickleLayout.{item_bytes, items_bytes, pickled_bytes, item_at, items_at, pickled_at}
use Rattle.pickle_cells.specs.declared.fault.PickleFault.TheVariants.{Short, SizeField, NegativeLength}
use Rattle.navigation_entry.specs.declared.bounds.Bounds.{Bounds}
use Rattle.navigation_entry.specs.declared.navigation.Navigation.{Navigation}
use Rattle.navigation_entry.specs.declared.group.GroupInfo.{GroupInfo}
use Rattle.payload_rows.specs.PayloadLayout.{IsLaidOut}
use Rattle.payload_rows.specs.declared.fault.PayloadFault.TheVariants.{UnknownId, Length, Pickle}
use Rattle.tab_restore_commands.specs.Faults.{fault_of}
use Rattle.tab_restore_commands.specs.Table.{Payload, id_of, payload_of}
use Rattle.tab_restore_commands.specs.declared.command.TabsCommand.{TabsCommand}
use Rattle.tab_restore_commands.specs.declared.command.TabsCommand.TheVariants.{UpdateNavigation, RestoredEntry, SelectedInTab, Pinned, Extension, WindowApp, WindowEntry, Group, UserAgent, UserTitle}

abbrev written : TabsCommand → ℕ × List ℕ
written command = (id_of command, payload_of command)

page : Navigation
unfolding padding
page = record { url = 117 ∷ []; title = []; page_state = []; transition = pos 7; rest = []; whole = refl; short = omega arith }

bounds : Bounds
bounds = record { x = pos 5; y = pos 6; width = pos 7; height = pos 8; show = pos 9 }

group : GroupInfo
unfolding padding
group = record { high = 1; low = 2; title = 71 ∷ []; colour = 5; rest = []; whole = refl; short = omega arith }

-- ---- what is written

a_page : written (UpdateNavigation (pos 2) (pos 0) page) ≡ (
  1,
  28 ∷ 0 ∷ 0 ∷ 0 ∷ 2 ∷ 0 ∷ 0 ∷ 0 ∷ 0 ∷ 0 ∷ 0 ∷ 0 ∷ 1 ∷ 0 ∷ 0 ∷ 0 ∷ 117 ∷ 0 ∷ 0 ∷ 0 ∷ 0 ∷ 0 ∷ 0 ∷ 0 ∷ 0 ∷ 0 ∷ 0 ∷ 0
      ∷ 7 ∷ 0 ∷ 0 ∷ 0 ∷ [],
)
unfolding pickled_bytes items_bytes item_bytes pickle int int64 uint32 uint64 counted padding unit_bytes page
a_page = refl

a_restored_entry : written (RestoredEntry (negsuc 1)) ≡ (2, 254 ∷ 255 ∷ 255 ∷ 255 ∷ [])
unfolding fields_bytes field_bytes int int64
a_restored_entry = refl

a_closed_tab : written (SelectedInTab (pos 1) (negsuc 1) (negsuc 2)) ≡ (
  4,
  1 ∷ 0 ∷ 0 ∷ 0 ∷ 254 ∷ 255 ∷ 255 ∷ 255 ∷ 253 ∷ 255 ∷ 255 ∷ 255 ∷ 255 ∷ 255 ∷ 255 ∷ 255 ∷ [],
)
unfolding fields_bytes field_bytes int int64
a_closed_tab = refl

a_pinned_tab : written (Pinned true) ≡ (5, 1 ∷ [])
unfolding fields_bytes field_bytes int int64
a_pinned_tab = refl

a_tab_that_is_not_pinned : written (Pinned false) ≡ (5, 0 ∷ [])
unfolding fields_bytes field_bytes int int64
a_tab_that_is_not_pinned = refl

an_extension : written (Extension (pos 1) (97 ∷ 98 ∷ []) []) ≡ (
  6,
  12 ∷ 0 ∷ 0 ∷ 0 ∷ 1 ∷ 0 ∷ 0 ∷ 0 ∷ 2 ∷ 0 ∷ 0 ∷ 0 ∷ 97 ∷ 98 ∷ 0 ∷ 0 ∷ [],
)
unfolding pickled_bytes items_bytes item_bytes pickle int int64 uint32 uint64 counted padding
an_extension = refl

an_application : written (WindowApp (pos 1) (97 ∷ 98 ∷ []) (1 ∷ 2 ∷ 3 ∷ 4 ∷ [])) ≡ (
  7,
  16 ∷ 0 ∷ 0 ∷ 0 ∷ 1 ∷ 0 ∷ 0 ∷ 0 ∷ 2 ∷ 0 ∷ 0 ∷ 0 ∷ 97 ∷ 98 ∷ 0 ∷ 0 ∷ 1 ∷ 2 ∷ 3 ∷ 4 ∷ [],
)
unfolding pickled_bytes items_bytes item_bytes pickle int int64 uint32 uint64 counted padding
an_application = refl

a_closed_window : written (WindowEntry (pos 1) (pos 2) (pos 3) (pos 4) bounds []) ≡ (
  9,
  40 ∷ 0 ∷ 0 ∷ 0 ∷ 1 ∷ 0 ∷ 0 ∷ 0 ∷ 2 ∷ 0 ∷ 0 ∷ 0 ∷ 3 ∷ 0 ∷ 0 ∷ 0 ∷ 4 ∷ 0 ∷ 0 ∷ 0 ∷ 0 ∷ 0 ∷ 0 ∷ 0 ∷ 5 ∷ 0 ∷ 0 ∷ 0
      ∷ 6 ∷ 0 ∷ 0 ∷ 0 ∷ 7 ∷ 0 ∷ 0 ∷ 0 ∷ 8 ∷ 0 ∷ 0 ∷ 0 ∷ 9 ∷ 0 ∷ 0 ∷ 0 ∷ [],
)
unfolding pickled_bytes items_bytes item_bytes pickle int int64 uint32 uint64 counted padding bounds
a_closed_window = refl

a_group : written (Group group) ≡ (
  10,
  28 ∷ 0 ∷ 0 ∷ 0 ∷ 1 ∷ 0 ∷ 0 ∷ 0 ∷ 0 ∷ 0 ∷ 0 ∷ 0 ∷ 2 ∷ 0 ∷ 0 ∷ 0 ∷ 0 ∷ 0 ∷ 0 ∷ 0 ∷ 1 ∷ 0 ∷ 0 ∷ 0 ∷ 71 ∷ 0 ∷ 0 ∷ 0
      ∷ 5 ∷ 0 ∷ 0 ∷ 0 ∷ [],
)
unfolding pickled_bytes items_bytes item_bytes pickle int int64 uint32 uint64 counted padding unit_bytes group
a_group = refl

a_user_agent : written (UserAgent (pos 1) (9 ∷ 8 ∷ 7 ∷ 6 ∷ [])) ≡ (
  11,
  8 ∷ 0 ∷ 0 ∷ 0 ∷ 1 ∷ 0 ∷ 0 ∷ 0 ∷ 9 ∷ 8 ∷ 7 ∷ 6 ∷ [],
)
unfolding pickled_bytes items_bytes item_bytes pickle int int64 uint32 uint64 counted padding
a_user_agent = refl

a_title : written (UserTitle (pos 1) [] []) ≡ (12, 8 ∷ 0 ∷ 0 ∷ 0 ∷ 1 ∷ 0 ∷ 0 ∷ 0 ∷ 0 ∷ 0 ∷ 0 ∷ 0 ∷ [])
unfolding pickled_bytes items_bytes item_bytes pickle int int64 uint32 uint64 counted padding
a_title = refl

-- ---- flags that are read

any_byte_but_0 : Payload 5 (Pinned true) (7 ∷ [])
unfolding IsLaidOut
any_byte_but_0 = (refl, (7 ∷ [], [], refl, (7, refl, refl), refl))

the_byte_0 : Payload 5 (Pinned false) (0 ∷ [])
unfolding IsLaidOut
the_byte_0 = (refl, (0 ∷ [], [], refl, (0, refl, refl), refl))

-- ---- payloads that are raw

an_older_closed_tab : fault_of 4 (1 ∷ 0 ∷ 0 ∷ 0 ∷ 2 ∷ 0 ∷ 0 ∷ 0 ∷ []) ≡ Some (Length 16 8)
unfolding fault_of
an_older_closed_tab = refl

no_flag : fault_of 5 ([]) ≡ Some (Length 1 0)
unfolding fault_of
no_flag = refl

the_marker : fault_of 255 ([]) ≡ Some UnknownId
unfolding fault_of
the_marker = refl

no_id_0 : fault_of 0 (1 ∷ 0 ∷ 0 ∷ 0 ∷ []) ≡ Some UnknownId
unfolding fault_of
no_id_0 = refl

no_id_3 : fault_of 3 (1 ∷ 0 ∷ 0 ∷ 0 ∷ []) ≡ Some UnknownId
unfolding fault_of
no_id_3 = refl

no_id_8 : fault_of 8 (1 ∷ 0 ∷ 0 ∷ 0 ∷ []) ≡ Some UnknownId
unfolding fault_of
no_id_8 = refl

no_id_13 : fault_of 13 (1 ∷ 0 ∷ 0 ∷ 0 ∷ []) ≡ Some UnknownId
unfolding fault_of
no_id_13 = refl

a_negative_length : fault_of 6 (8 ∷ 0 ∷ 0 ∷ 0 ∷ 1 ∷ 0 ∷ 0 ∷ 0 ∷ 255 ∷ 255 ∷ 255 ∷ 255 ∷ []) ≡ Some (Pickle (NegativeLength 8 (negsuc 0)))
unfolding fault_of pickled_at body_at items_at item_at signed_at counted_at number_at text_at past padding
a_negative_length = refl

a_window_without_a_show : fault_of 9 (36 ∷ 0 ∷ 0 ∷ 0 ∷ 1 ∷ 0 ∷ 0 ∷ 0 ∷ 2 ∷ 0 ∷ 0 ∷ 0 ∷ 3 ∷ 0 ∷ 0 ∷ 0 ∷ 4 ∷ 0 ∷ 0 ∷ 0 ∷ 0 ∷ 0 ∷ 0 ∷ 0 ∷ 5 ∷ 0 ∷ 0 ∷ 0 ∷ 6 ∷ 0 ∷ 0 ∷ 0 ∷ 7 ∷ 0 ∷ 0 ∷ 0 ∷ 8 ∷ 0 ∷ 0 ∷ 0 ∷ []) ≡ Some (Pickle (Short 40))
unfolding fault_of pickled_at body_at items_at item_at signed_at counted_at number_at text_at past padding
a_window_without_a_show = refl

a_size_of_9 : fault_of 11 (9 ∷ 0 ∷ 0 ∷ 0 ∷ 1 ∷ 0 ∷ 0 ∷ 0 ∷ []) ≡ Some (Pickle (SizeField 9 4))
unfolding fault_of pickled_at body_at items_at item_at signed_at counted_at number_at text_at past padding
a_size_of_9 = refl
