use Rattle.std.proofs.Common.{◌≡◌, ◌+◌, suc, ◌∷◌, ◌++◌, drop, length, refl, sym, ap, ◌∙◌, arith, FitsSigned, w32}
use Rattle.std.specs.List.{insert, remove}
use Rattle.std.proofs.lemmas.Int.{to_z-of_z}
use Rattle.std.proofs.lemmas.List.{length-drop}
use Rattle.std.proofs.lemmas.List.Edits.{length-insert}
use Rattle.session_commands.specs.declared.command.SessionCommand.TheVariants.{TabWindow}
use Rattle.window_state.specs.States.{placed}
use Rattle.browser_driver.specs.Issues.{of_session}
use Rattle.browser_driver.specs.Orders.{order_of, SetsOrder}
use Rattle.browser_driver.specs.Places.{places_of, with_places}
use Rattle.browser_driver.proofs.OrderLaws.{order-set}
use Rattle.browser_driver.proofs.ShiftLaws.{drop-inserted, own-beside, comes-goes}
use Rattle.browser_driver.proofs.moving.move_elsewhere.Goals as goal

pub from-later-requires : goal.from-later-requires
from-later-requires c =
    let of_own : FitsSigned w32 c.args.own = c.ranges.own in
    simp to_z-of_z (omega (arith, c.requires.from))

pub elsewhere_commands-requires-clause-later : goal.elsewhere_commands-requires-clause-later
elsewhere_commands-requires-clause-later c =
    let of_own : FitsSigned w32 c.args.own = c.ranges.own in
    let ids = order_of c.args.own c.args.orders.now in
    let count = ap length (simp to_z-of_z at c.from-later.ensures) ∙ length-drop (c.args.from + 1) ids in
    omega (arith, count, c.requires.few, c.requires.from)

pub elsewhere_commands-requires-clause-behind : goal.elsewhere_commands-requires-clause-behind
elsewhere_commands-requires-clause-behind c =
    let of_window : FitsSigned w32 c.args.window = c.ranges.window in
    let ids = order_of c.args.window c.args.orders.now in
    let count = ap length (simp to_z-of_z at c.from-behind.ensures) ∙ length-drop c.args.to ids in
    omega (arith, count, c.requires.few, c.requires.from, c.requires.to)

pub settle-requires-clause-from : goal.settle-requires-clause-from
settle-requires-clause-from c =
    let of_id : FitsSigned w32 c.args.id = c.ranges.id in
    let of_own : FitsSigned w32 c.args.own = c.ranges.own in
    let of_window : FitsSigned w32 c.args.window = c.ranges.window in
    let old = c.args.orders.now in
    let order = insert (order_of c.args.window old) c.args.to c.args.id in
    let comes : SetsOrder c.args.window order old c.seat.new.orders = simp to_z-of_z at c.in_ok-seat.ensures.orders in
    let count = ap length (own-beside c.args.own c.args.window c.requires.apart c.args.from order old
    c.seat.new.orders comes) in
    simp to_z-of_z (omega (arith, count, c.requires.from))

pub settle-requires-clause-to : goal.settle-requires-clause-to
settle-requires-clause-to c =
    let of_id : FitsSigned w32 c.args.id = c.ranges.id in
    let of_window : FitsSigned w32 c.args.window = c.ranges.window in
    let old = c.args.orders.now in
    let ids = order_of c.args.window old in
    let order = insert ids c.args.to c.args.id in
    let comes : SetsOrder c.args.window order old c.seat.new.orders = simp to_z-of_z at c.in_ok-seat.ensures.orders in
    let count = ap length (order-set c.args.window order old c.seat.new.orders comes)
    ∙ length-insert ids c.args.to c.args.id c.requires.to in
    simp to_z-of_z (omega (arith, count, c.requires.to))

pub settle-requires-clause-own : goal.settle-requires-clause-own
settle-requires-clause-own c =
    let of_id : FitsSigned w32 c.args.id = c.ranges.id in
    let of_own : FitsSigned w32 c.args.own = c.ranges.own in
    let of_window : FitsSigned w32 c.args.window = c.ranges.window in
    let old = c.args.orders.now in
    let order = insert (order_of c.args.window old) c.args.to c.args.id in
    let comes : SetsOrder c.args.window order old c.seat.new.orders = simp to_z-of_z at c.in_ok-seat.ensures.orders in
    let count = ap length (own-beside c.args.own c.args.window c.requires.apart c.args.from order old
    c.seat.new.orders comes) in
    simp to_z-of_z (omega (arith, count, c.requires.few))

pub settle-requires-clause-window : goal.settle-requires-clause-window
settle-requires-clause-window c =
    let of_id : FitsSigned w32 c.args.id = c.ranges.id in
    let of_window : FitsSigned w32 c.args.window = c.ranges.window in
    let old = c.args.orders.now in
    let ids = order_of c.args.window old in
    let order = insert ids c.args.to c.args.id in
    let comes : SetsOrder c.args.window order old c.seat.new.orders = simp to_z-of_z at c.in_ok-seat.ensures.orders in
    let count = ap length (order-set c.args.window order old c.seat.new.orders comes)
    ∙ length-insert ids c.args.to c.args.id c.requires.to in
    simp to_z-of_z (omega (arith, count, c.requires.from, c.requires.few))

pub returns : goal.returns
returns c =
    let id = c.args.id in
    let own = c.args.own in
    let window = c.args.window in
    let from = c.args.from in
    let to = c.args.to in
    let of_id : FitsSigned w32 id = c.ranges.id in
    let of_own : FitsSigned w32 own = c.ranges.own in
    let of_window : FitsSigned w32 window = c.ranges.window in
    let s = c.args.state.now in
    let old = c.args.orders.now in
    let mid = c.seat.new.orders in
    let ids = order_of window old in
    let order = insert ids to id in
    let later = drop (suc from) (order_of own old) in
    let next : from + 1 ≡ suc from = omega arith in
    let comes : SetsOrder window order old mid = simp to_z-of_z at c.in_ok-seat.ensures.orders in
    let goes : SetsOrder own (remove (order_of own mid) from) mid c.settle.new.orders =
    simp to_z-of_z at c.settle.ensures.orders in
    let seated : c.seat.new.state ≡ placed window id s = simp to_z-of_z at c.in_ok-seat.ensures.state in
    let settled : c.settle.new.state ≡ with_places to (drop to (order_of window mid))
    (with_places from (drop (suc from) (order_of own mid)) c.seat.new.state) =
    simp to_z-of_z at c.settle.ensures.state in
    let named : c.in_ok-commands.commands.items ≡ (TabWindow window id ∷ places_of from c.from-later.result.now)
    ++ places_of to (id ∷ c.from-behind.result.now) = simp to_z-of_z at c.in_ok-commands.ensures in
    let later_is : c.from-later.result.now ≡ later =
    simp to_z-of_z at c.from-later.ensures ∙ ap (λ n. drop n (order_of own old)) next in
    let behind_is : c.from-behind.result.now ≡ drop to ids = simp to_z-of_z at c.from-behind.ensures in
    λ closed. record {
      state = settled
          ∙ ap (λ us. with_places to (drop to us)
          (with_places from (drop (suc from) (order_of own mid)) c.seat.new.state))
          (order-set window order old mid comes)
          ∙ ap (λ us. with_places to (drop to order) (with_places from (drop (suc from) us) c.seat.new.state))
          (own-beside own window c.requires.apart from order old mid comes)
          ∙ ap (λ z. with_places to (drop to order) (with_places from later z)) seated;
      orders = comes-goes own window c.requires.apart from order old mid comes c.settle.new.orders goes;
      closed = refl;
      made_is = c.of_session.ensures ∙ ap of_session (named
          ∙ ap (λ us. (TabWindow window id ∷ places_of from us) ++ places_of to (id ∷ c.from-behind.result.now))
          later_is
          ∙ ap (λ us. (TabWindow window id ∷ places_of from later) ++ places_of to (id ∷ us)) behind_is
          ∙ ap (λ us. (TabWindow window id ∷ places_of from later) ++ places_of to us)
          (sym (drop-inserted ids to id c.requires.to)));
    }
