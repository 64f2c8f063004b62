-- What pages are as values of JSON. Titles and URLs are texts as they are shown, which JSON then quotes.
use Rattle.std.specs.Prelude.{List, map, codes}
use Rattle.serde_json.specs.Data.{Data, string, array, object, member, no_members}
use Rattle.serde_json.specs.View.{items_of}
use Rattle.navigation_entry.specs.declared.navigation.Navigation.{Navigation}
use Rattle.shown_texts.specs.Shown.{shown_bytes, shown_units}

abbrev pub page_value : Navigation → Data
page_value page =
    object (member (codes "title") (string (shown_units page.title)) (member (codes "url") (string (shown_bytes page.url)) no_members))

abbrev pub pages_value : List Navigation → Data
pages_value pages = array (items_of (map page_value pages))
