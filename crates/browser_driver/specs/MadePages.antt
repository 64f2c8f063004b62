-- Pages as calls make them.
use Rattle.std.specs.Prelude.{ℕ, nat_le, if◌then◌else◌, List, []}
use Rattle.navigation_entry.specs.declared.navigation.Navigation.{Navigation}
use Rattle.navigation_entry.specs.Fitting.{limit}
use Rattle.browser_model.specs.Navigations.{untitled_short, visit_state}

-- a page without its title
abbrev pub untitled : Navigation → Navigation
untitled p = record p { title = []; short = untitled_short p }

-- the page state of a visit, empty where it fits no payload
abbrev pub short_state : ℕ → List ℕ
short_state len = if nat_le limit len then [] else visit_state len
