use Rattle.window_state.specs.Shown.{tabs_in}
use Rattle.session_tidying.proofs.TidyingLaws.{all-parts, few-shown, tidies}
use Rattle.session_tidying.proofs.tidying.tidy.Goals as goal

pub returns : goal.returns
returns c =
    let state = c.args.state.now in
    let shown = c.in_ok-shown.ensures in
    let tabs = rw c.tabs.ensures at shown.tabs in
    let few = few-shown c.in_ok-shown.shown state.tabs tabs (rw c.tabs.ensures at shown.count)
    c.known.ensures.kept.tabs in
    let all = all-parts state (λ id. tabs_in id c.in_ok-shown.shown) c.new-commands.result.items
    c.close_tabs.new.out.items c.close_hidden.new.out.items c.push_shown.new.out.items
    c.push.new.out.items tabs c.new-commands.ensures.items (rw c.tabs-2.ensures at c.in_ok-close_tabs.ensures)
    (rw c.windows.ensures at c.in_ok-close_hidden.ensures) (rw c.windows-2.ensures at c.in_ok-push_shown.ensures)
    c.in_ok-push.ensures in
    let tidied = tidies state c.push.new.out.items c.known.ensures few all in
    record { tidying = all; sound = tidied.sound; ranged = tidied.ranged; view = tidied.kept; matches = tidied.matches }
