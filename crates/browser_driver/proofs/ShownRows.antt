-- What each row of a state keeps, the row of a shown tab keeps at its place, and so does that of a shown window; and
-- their numbers are small.
use Rattle.std.proofs.Common.{◌≡◌, ℕ, zero, suc, ◌+◌, ◌<◌, ◌≤◌, ◌^◌, Bool, true, false, ℤ, pos, ◌+ℤ◌, FitsSigned, w32}
use Rattle.std.proofs.Common.{List, [], ◌∷◌, ◌++◌, map, filter, fold, length, refl, sym, ap, subst, arith}
use Rattle.std.specs.declared.cmp.Ordering.TheVariants.{Less, Equal, Greater}
use Rattle.std.specs.Ordering.{match_ordering}
use Rattle.std.specs.List.{AllByRecursion}
use Rattle.std.proofs.lemmas.Int.{ints}
use Rattle.std.proofs.lemmas.List.{length-map}
use Rattle.navigation_entry.specs.declared.navigation.Navigation.{Navigation}
use Rattle.tab_pages.specs.PageLists.{IsRising, has_page}
use Rattle.tab_pages.specs.Positions.{first_from}
use Rattle.tab_pages.specs.Ranges.{IsPageInRange}
use Rattle.tab_pages.proofs.RangeLaws.{all-filter}
use Rattle.window_state.specs.declared.tab.Tab.{Tab}
use Rattle.window_state.specs.declared.window.Window.{Window}
use Rattle.window_state.specs.Fits.{IsKeptTab, IsKeptWindow}
use Rattle.window_state.specs.Limits.{limit}
use Rattle.window_state.specs.Ranges.{IsTabInRange, IsWindowInRange}
use Rattle.window_state.specs.Views.{is_shown_in, place_cmp, insert_by_place, shown_tabs, view_tab, with_shown}
use Rattle.window_state.specs.Views.{view_windows}
use Rattle.browser_model.specs.Browsers.{numbered, window_row}
use Rattle.browser_model.specs.Tidied.{current_place, tidied_row, tidied_rows, tidied_with, tidied_windows}
use Rattle.browser_model.specs.Tidying.{seen_place}
use Rattle.browser_model.proofs.ShownAmounts.{few-pages}
use Rattle.browser_model.proofs.TidyAll.{all_rows}
use Rattle.browser_model.proofs.TidyRows.{IsShownIn, all-shown, all-sorted, first-within}
use Rattle.browser_driver.specs.Begun.{IsSmallTab, IsSmallWindow}

-- what a state's row of a tab keeps
pub record IsSoundTab (t : Tab) : Type 0 where
  pub kept : IsKeptTab t
  pub ranged : IsTabInRange t

pub record IsSoundWindow (w : Window) : Type 0 where
  pub kept : IsKeptWindow w
  pub ranged : IsWindowInRange w

-- a shown tab of a state
pub record IsSeenTab (window : ℤ) (t : Tab) : Type 0 where
  pub sound : IsSoundTab t
  pub shown : IsShownIn window t

-- pages from an index on
numbered-rising : (n : ℕ) (ps : List Navigation) → IsRising (pos n) (numbered n ps)
numbered-rising n [] = tt
numbered-rising n (p ∷ ps) =
    let next : pos n +ℤ pos 1 ≡ pos (suc n) = omega (arith, ints) in
    (omega (arith, ints), subst (λ least. IsRising least (numbered (suc n) ps)) (sym next) (numbered-rising (suc n) ps))

numbered-ranged : (n : ℕ) (ps : List (ℤ × Navigation)) → n + length ps ≤ 2 ^ 31 → AllByRecursion IsPageInRange ps
    → AllByRecursion IsPageInRange (numbered n (map (λ page. page.1) ps))
numbered-ranged n [] few all = tt
numbered-ranged n (p ∷ ps) few all =
    let here : n < 2 ^ 31 = omega arith in
    ((omega (arith, ints), all.0.1), numbered-ranged (suc n) ps (omega arith) all.1)

-- the place of a page among few
page-within : (t : Tab) → has_page t.pages ≡ true → current_place t < length t.pages
page-within t some = by t.pages some
  where
    by : (ps : List (ℤ × Navigation)) → has_page ps ≡ true
        → first_from t.current (map (λ page. page.0) ps) < length ps
    by [] some = absurd cc
    by (p ∷ ps) some =
        let less = first-within t.current p.0 (map (λ page. page.0) ps) in
        let long = length-map ps (λ (page : ℤ × Navigation). page.0) in
        omega (arith, less, long)

few-of : (t : Tab) → IsSoundTab t → length t.pages ≤ 2 ^ 31
few-of t sound = few-pages t.pages sound.kept.rising sound.ranged.pages

sound-row : (window : ℤ) (n : ℕ) (t : Tab) → n < limit → IsSeenTab window t → IsSoundTab (tidied_row n t)
sound-row window n t low seen =
    let kept = seen.sound.kept in
    let ranged = seen.sound.ranged in
    let few = few-of t seen.sound in
    let within = page-within t seen.shown.page in
    let at : FitsSigned w32 (pos n) = omega (arith, ints) in
    let current : FitsSigned w32 (pos (current_place t)) = fits (current_place t) (omega arith) in
    record {
      kept = record {
        extension = kept.extension;
        storage = kept.storage;
        guid = kept.guid;
        agent = kept.agent;
        extra = kept.extra;
        distinct = kept.distinct;
        rising = numbered-rising zero (map (λ page. page.1) t.pages);
      };
      ranged = record {
        info = ranged.info;
        window = ranged.window;
        index = at;
        current = current;
        pages = numbered-ranged zero t.pages (omega arith) ranged.pages;
      };
    }
  where
    fits : (m : ℕ) → m < 2 ^ 31 → FitsSigned w32 (pos m)
    fits m less = omega (arith, ints)

sound-rows : (window : ℤ) (n : ℕ) (ts : List Tab) → n + length ts ≤ limit → AllByRecursion (IsSeenTab window) ts
    → AllByRecursion IsSoundTab (tidied_rows n ts)
sound-rows window n [] few all = tt
sound-rows window n (t ∷ ts) few all =
    (sound-row window n t (omega arith) all.0, sound-rows window (suc n) ts (omega arith) all.1)

-- shown tabs are some of all
length-insert : (us : List Tab) (t : Tab) → length (insert_by_place us t) ≡ suc (length us)
length-insert [] t = refl
length-insert (u ∷ us) t =
    let rest = length-insert us t in
    elim (place_cmp t u) as
    (λ o. length (match_ordering o (t ∷ u ∷ us) (t ∷ u ∷ us) (u ∷ insert_by_place us t)) ≡ suc (suc (length us)))
    [ Less ↦ refl | Equal ↦ refl | Greater ↦ ap suc rest ]

length-sorted : (done ts : List Tab) → length (fold insert_by_place done ts) ≡ length done + length ts
length-sorted done [] = omega arith
length-sorted done (t ∷ ts) =
    let rest = length-sorted (insert_by_place done t) ts in
    let one = length-insert done t in
    omega arith

few-filtered : (test : Tab → Bool) (ts : List Tab) → length (filter test ts) ≤ length ts
few-filtered test [] = omega arith
few-filtered test (t ∷ ts) = by (few-filtered test ts) (test t) refl
  where
    by : length (filter test ts) ≤ length ts → (b : Bool) → test t ≡ b → length (filter test (t ∷ ts)) ≤ length (t ∷ ts)
    by rest true e = rw e (omega arith)
    by rest false e = rw e (omega arith)

both-seen : (window : ℤ) (ts : List Tab) → AllByRecursion IsSoundTab ts → AllByRecursion (IsShownIn window) ts
    → AllByRecursion (IsSeenTab window) ts
both-seen window [] a b = tt
both-seen window (t ∷ ts) a b = (record { sound = a.0; shown = b.0 }, both-seen window ts a.1 b.1)

all-append : (P : Tab → Type 0) (xs ys : List Tab) → AllByRecursion P xs → AllByRecursion P ys
    → AllByRecursion P (xs ++ ys)
all-append P [] ys a b = b
all-append P (x ∷ xs) ys a b = (a.0, all-append P xs ys a.1 b)

-- a position among some is one of them
seen-within : (w : Window) (t : Tab) (ts : List Tab) → seen_place w (t ∷ ts) < length (t ∷ ts)
seen-within w t ts =
    let less = first-within w.selected t.index (map (λ u. u.index) ts) in
    let long = length-map (t ∷ ts) (λ (u : Tab). u.index) in
    omega (arith, less, long)

module _ (tabs : List Tab) (few : length tabs ≤ limit) (sound : AllByRecursion IsSoundTab tabs) where
  abbrev f : ℤ → List Tab
  f id = shown_tabs id tabs

  few-shown : (window : ℤ) → length (f window) ≤ limit
  few-shown window =
      let sorted = length-sorted [] (filter (is_shown_in window) tabs) in
      let some = few-filtered (is_shown_in window) tabs in
      omega arith

  seen : (window : ℤ) → AllByRecursion (IsSeenTab window) (f window)
  seen window = both-seen window (f window)
      (all-sorted IsSoundTab [] (filter (is_shown_in window) tabs) tt
      (all-filter IsSoundTab (is_shown_in window) tabs sound))
      (all-shown window tabs)

  pub all-sound : (ws : List Window) → AllByRecursion IsSoundTab (all_rows f ws)
  all-sound [] = tt
  all-sound (w ∷ ws) =
      let low = few-shown w.info.id in
      all-append IsSoundTab (tidied_rows zero (f w.info.id)) (all_rows f ws)
      (sound-rows w.info.id zero (f w.info.id) (omega arith) (seen w.info.id)) (all-sound ws)

  pub windows-sound : (ws : List Window) → AllByRecursion IsSoundWindow ws
      → AllByRecursion IsSoundWindow (map window_row (tidied_windows f ws))
  windows-sound [] all = tt
  windows-sound (w ∷ ws) all = by (f w.info.id) (few-shown w.info.id) (windows-sound ws all.1)
    where
      by : (ts : List Tab) → length ts ≤ limit → AllByRecursion IsSoundWindow (map window_row (tidied_windows f ws))
          → AllByRecursion IsSoundWindow (map window_row (tidied_with w ts (tidied_windows f ws)))
      by [] low rest = rest
      by (t ∷ ts) low rest =
          let kept = all.0.kept in
          let ranged = all.0.ranged in
          let within = seen-within w t ts in (
            record {
              kept = record {
                app = kept.app;
                workspace = kept.workspace;
                title = kept.title;
                extra = kept.extra;
                distinct = kept.distinct;
              };
              ranged = record {
                id = ranged.id;
                kind = ranged.kind;
                bounds = ranged.bounds;
                selected = fits (seen_place w (t ∷ ts)) (omega arith);
              };
            },
            rest,
          )
        where
          fits : (m : ℕ) → m < limit → FitsSigned w32 (pos m)
          fits m less = omega (arith, ints)

  pub windows-small : (ws : List Window) → AllByRecursion IsSmallWindow (view_windows f ws)
  windows-small [] = tt
  windows-small (w ∷ ws) = by (f w.info.id) (few-shown w.info.id) (seen w.info.id) (windows-small ws)
    where
      small : (us : List Tab) → AllByRecursion (IsSeenTab w.info.id) us → AllByRecursion IsSmallTab (map view_tab us)
      small [] all = tt
      small (u ∷ us) all =
          let pages = few-of u all.0.sound in
          let long = length-map u.pages (λ (page : ℤ × Navigation). page.1) in
          let within = page-within u all.0.shown.page in
          (record { pages = omega arith; current = omega arith }, small us all.1)

      by : (ts : List Tab) → length ts ≤ limit → AllByRecursion (IsSeenTab w.info.id) ts
          → AllByRecursion IsSmallWindow (view_windows f ws)
          → AllByRecursion IsSmallWindow (with_shown w ts (view_windows f ws))
      by [] low all rest = rest
      by (t ∷ ts) low all rest =
          let long = length-map (t ∷ ts) view_tab in
          let within = seen-within w t ts in
          (record { selected = omega arith; count = omega arith; tabs = small (t ∷ ts) all }, rest)
