-- Each tab of a browser is in its seat.
use Rattle.std.proofs.Common.{◌≡◌, ℕ, ℤ, Option, Some, None, option_map, refl, sym, ap, subst, ◌∙◌}
use Rattle.browser_model.specs.Browsers.{Browser, Stand, row_of}
use Rattle.browser_model.specs.Tabs.{stand_of}
use Rattle.browser_model.proofs.Splits.{split}
use Rattle.browser_model.proofs.Matching.{one-stand, in-order}
use Rattle.browser_driver.specs.Held.{held, IsHeld}
use Rattle.browser_driver.specs.SeatPlans.{Parts}
use Rattle.browser_driver.specs.Seats.{IsSeat, AreInSeats}
use Rattle.browser_driver.proofs.CountLaws.{few-seats}
use Rattle.browser_driver.proofs.FoundLaws.{found-row}
use Rattle.browser_driver.proofs.SeatLaws.{place-within}

module _ (old : Parts) (moment : ℤ) (h : IsHeld old.state old.orders old.closed moment) where
  abbrev b : Browser
  b = held old.state old.orders old.closed moment

  stand-seat : (id : ℤ) (st : Stand) → stand_of id b ≡ Some st → IsSeat old.orders (row_of st) st.window st.place
  stand-seat id st found =
      let p = split id b.windows st (one-stand old.state b id st h.running h.matches found) in
      record {
        window_is = refl;
        index_is = refl;
        within = place-within old.orders id b.windows st p (in-order old.state b h.running h.matches) h.seated;
        few = few-seats old.state old.orders old.closed moment h st.window;
      }

  pub in-seats : AreInSeats old.state.tabs old.orders
  in-seats id t found = by (stand_of id b) refl
    where
      by : (o : Option Stand) → stand_of id b ≡ o
          → (window : ℤ) × (place : ℕ) × IsSeat old.orders t window place
      by None e =
          let none : None ≡ Some t =
          sym (ap (option_map row_of) e) ∙ sym (found-row old.state b id h.running h.matches) ∙ found in
          absurd cc
      by (Some st) e =
          let some : Some (row_of st) ≡ Some t =
          sym (ap (option_map row_of) e) ∙ sym (found-row old.state b id h.running h.matches) ∙ found in
          let same : row_of st ≡ t = cc in
          (st.window, st.place, subst (λ x. IsSeat old.orders x st.window st.place) same (stand-seat id st e))
