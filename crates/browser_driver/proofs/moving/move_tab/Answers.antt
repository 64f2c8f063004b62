use Rattle.std.proofs.Common.{◌≡◌, ◌<◌, ◌≤◌, true, is_some, List, sym, ap, subst, ◌∙◌, arith, rules, FitsSigned, w32}
use Rattle.std.specs.Ordering.{int_cmp}
use Rattle.std.proofs.lemmas.Int.{to_z-of_z}
use Rattle.closed_entries.specs.declared.entry.Entry.{Entry}
use Rattle.window_state.specs.Keys.{window_key}
use Rattle.window_state.specs.RowLists.{find_row}
use Rattle.browser_model.specs.Pictures.{nat_of}
use Rattle.browser_driver.specs.MovePlans.{move_step, moves, others}
use Rattle.browser_driver.specs.SeatPlans.{DoneParts, parts}
use Rattle.browser_driver.specs.Seats.{HasSeat}
use Rattle.browser_driver.proofs.MoveStepLaws.{move-refused, move-done, memory-answer, plain-three}
use Rattle.browser_driver.proofs.moving.move_tab.Goals as goal

pub returns-then-to-others_count : goal.returns-then-to-others_count
returns-then-to-others_count c =
    let id = c.args.id in
    let window = c.args.window in
    let place = c.args.place in
    let own = c.in-Some.own in
    let from = c.in-Some.from in
    let s = c.args.state.now in
    let orders = c.args.orders.now in
    let of_id : FitsSigned w32 id = c.ranges.id in
    let of_window : FitsSigned w32 window = c.ranges.window in
    let of_place : FitsSigned w32 place = c.ranges.place in
    let of_own : FitsSigned w32 own = search rules in
    let seat : HasSeat id s.tabs orders own from = simp to_z-of_z at c.in-Some.ensures.found in
    let there : is_some (find_row int_cmp window_key window s.windows) ≡ true =
    sym (simp to_z-of_z at c.if-not-has.ensures
    ∙ ap (λ windows. is_some (find_row int_cmp window_key window windows)) c.windows.ensures) in
    let count = simp to_z-of_z at c.others_count.ensures in
    let to = simp to_z-of_z at c.place_from-to.ensures in
    let test = c.if-to-others_count.true in
    let above : others own from orders window < nat_of place = omega (arith, count, to, test) in
    simp to_z-of_z (λ (closed : List Entry).
    move-refused id window place (parts s orders closed) own from seat there above)

pub move_seated-requires-clause-to : goal.move_seated-requires-clause-to
move_seated-requires-clause-to c =
    let count = c.others_count.ensures in
    let test = c.if-to-others_count.false in
    omega (arith, count, test)

pub returns-in_err-issued : goal.returns-in_err-issued
returns-in_err-issued c =
    λ (closed : List Entry). memory-answer
    (moves c.args.id c.args.window c.args.place (parts c.args.state.now c.args.orders.now closed))
    (parts c.args.state.now c.args.orders.now closed)
    (parts c.move_seated.new.state c.move_seated.new.orders closed) c.from_residual.result
    c.from_residual.ensures.1 (c.in_err-issued.ensures closed)

pub returns : goal.returns
returns c =
    let id = c.args.id in
    let window = c.args.window in
    let place = c.args.place in
    let own = c.in-Some.own in
    let from = c.in-Some.from in
    let s = c.args.state.now in
    let orders = c.args.orders.now in
    let of_id : FitsSigned w32 id = c.ranges.id in
    let of_window : FitsSigned w32 window = c.ranges.window in
    let of_place : FitsSigned w32 place = c.ranges.place in
    let of_own : FitsSigned w32 own = search rules in
    let seat : HasSeat id s.tabs orders own from = simp to_z-of_z at c.in-Some.ensures.found in
    let there : is_some (find_row int_cmp window_key window s.windows) ≡ true =
    sym (simp to_z-of_z at c.if-not-has.ensures
    ∙ ap (λ windows. is_some (find_row int_cmp window_key window windows)) c.windows.ensures) in
    let count = simp to_z-of_z at c.others_count.ensures in
    let to = simp to_z-of_z at c.place_from-to.ensures in
    let test = c.if-to-others_count.false in
    let room : nat_of place ≤ others own from orders window = omega (arith, count, to, test) in
    λ (closed : List Entry).
    let old = parts s orders closed in
    let new = parts c.move_seated.new.state c.move_seated.new.orders closed in
    let made = c.in_ok-issued.issued in
    move-done id window place old own from seat there new made room
    (subst (λ n. DoneParts (move_step id own window from n old) old new made) to
    (plain-three (λ q o v. DoneParts (move_step q o v from c.place_from-to.result old) old new made) id own window
    of_id of_own of_window (c.in_ok-issued.ensures closed)))
