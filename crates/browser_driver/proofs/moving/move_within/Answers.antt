use Rattle.std.proofs.Common.{◌≡◌, min, max, refl, ap, ◌∙◌, arith, FitsSigned, w32}
use Rattle.std.proofs.lemmas.Int.{to_z-of_z}
use Rattle.browser_driver.specs.Issues.{of_session}
use Rattle.browser_driver.specs.Orders.{order_of, moved, between, SetsOrder}
use Rattle.browser_driver.specs.Places.{places_of, with_places}
use Rattle.browser_driver.proofs.ShiftLaws.{shifted-is, shifted-length, shifted-back}
use Rattle.browser_driver.proofs.moving.move_within.Goals as goal

pub between-requires-clause-within : goal.between-requires-clause-within
between-requires-clause-within c =
    let w = c.args.window in
    let old = c.args.orders.now in
    let fits : FitsSigned w32 w = c.ranges.window in
    let shifted : SetsOrder w (moved c.args.from c.args.to (order_of w old)) old c.shift.new.self =
    simp to_z-of_z at c.shift.ensures in
    let count = shifted-length w c.args.from c.args.to old c.shift.new.self c.requires.from shifted in
    let last = c.max-last.ensures in
    simp to_z-of_z (omega (arith, count, last, c.requires.from, c.requires.to))

pub between-requires-in-Ok-clause-within : goal.between-requires-in-Ok-clause-within
between-requires-in-Ok-clause-within c =
    let w = c.args.window in
    let old = c.args.orders.now in
    let fits : FitsSigned w32 w = c.ranges.window in
    let shifted : SetsOrder w (moved c.args.from c.args.to (order_of w old)) old c.shift.new.self =
    simp to_z-of_z at c.shift.ensures in
    let count = shifted-length w c.args.from c.args.to old c.shift.new.self c.requires.from shifted in
    let last = c.max-last.ensures in
    simp to_z-of_z (omega (arith, count, last, c.requires.from, c.requires.to))

pub shift-requires-in-Err-clause-from : goal.shift-requires-in-Err-clause-from
shift-requires-in-Err-clause-from c =
    let w = c.args.window in
    let old = c.args.orders.now in
    let fits : FitsSigned w32 w = c.ranges.window in
    let shifted : SetsOrder w (moved c.args.from c.args.to (order_of w old)) old c.shift.new.self =
    simp to_z-of_z at c.shift.ensures in
    let count = shifted-length w c.args.from c.args.to old c.shift.new.self c.requires.from shifted in
    simp to_z-of_z (omega (arith, count, c.requires.to))

pub shift-requires-in-Err-clause-to : goal.shift-requires-in-Err-clause-to
shift-requires-in-Err-clause-to c =
    let w = c.args.window in
    let old = c.args.orders.now in
    let fits : FitsSigned w32 w = c.ranges.window in
    let shifted : SetsOrder w (moved c.args.from c.args.to (order_of w old)) old c.shift.new.self =
    simp to_z-of_z at c.shift.ensures in
    let count = shifted-length w c.args.from c.args.to old c.shift.new.self c.requires.from shifted in
    simp to_z-of_z (omega (arith, count, c.requires.from))

pub returns-in-Ok : goal.returns-in-Ok
returns-in-Ok c =
    let w = c.args.window in
    let from = c.args.from in
    let to = c.args.to in
    let old = c.args.orders.now in
    let mid = c.shift.new.self in
    let order = moved from to (order_of w old) in
    let fits : FitsSigned w32 w = c.ranges.window in
    let shifted : SetsOrder w order old mid = simp to_z-of_z at c.shift.ensures in
    let is = shifted-is w from to old mid c.requires.from shifted in
    let first = c.min-first.ensures in
    let last = c.max-last.ensures in
    let told : between c.min-first.result c.max-last.result (order_of w mid)
    ≡ between (min from to) (max from to) order =
    rw (first, last) (ap (between (min from to) (max from to)) is) in
    let named : c.between.result.now ≡ between (min from to) (max from to) order =
    simp to_z-of_z at c.between.ensures ∙ told in
    let placed : c.between-in-Ok.result.now ≡ between (min from to) (max from to) order =
    simp to_z-of_z at c.between-in-Ok.ensures ∙ told in
    λ closed. record {
      state = c.set_places.ensures ∙ ap (λ n. with_places n c.between-in-Ok.result.now c.args.state.now) first
          ∙ ap (λ us. with_places (min from to) us c.args.state.now) placed;
      orders = shifted;
      closed = refl;
      made_is = c.of_session.ensures ∙ ap of_session (c.in-Ok.ensures
          ∙ ap (λ n. places_of n c.between.result.now) first ∙ ap (places_of (min from to)) named);
    }

pub returns-in-Err : goal.returns-in-Err
returns-in-Err c =
    let w = c.args.window in
    let old = c.args.orders.now in
    let fits : FitsSigned w32 w = c.ranges.window in
    let shifted : SetsOrder w (moved c.args.from c.args.to (order_of w old)) old c.shift.new.self =
    simp to_z-of_z at c.shift.ensures in
    let back = simp to_z-of_z at c.shift-in-Err.ensures in
    λ closed. record {
      state = refl;
      orders = shifted-back w c.args.from c.args.to old c.shift.new.self c.requires.from shifted c.shift-in-Err.new.self
          c.requires.to back;
      closed = refl;
    }
