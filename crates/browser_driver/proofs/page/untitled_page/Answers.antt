use Rattle.std.proofs.Common.{[], ◌≡◌}
use Rattle.browser_driver.proofs.PageLaws.{untitled-room, untitled-whole}
use Rattle.browser_driver.proofs.page.untitled_page.Goals as goal

pub invariant_of-result : goal.invariant_of-result
invariant_of-result c =
    let url : c.in_ok-url.url ≡ c.args.page.now.url = c.in_ok-url.ensures in
    let title : c.in_ok-title.title ≡ [] = c.in_ok-title.ensures in
    let page_state : c.in_ok-page_state.page_state ≡ c.args.page.now.page_state = c.in_ok-page_state.ensures in
    let rest : c.in_ok-rest.rest ≡ c.args.page.now.rest = c.in_ok-rest.ensures in
    record {
      whole = untitled-whole c.args.page.now c.in_ok-rest.rest rest;
      short = untitled-room c.args.page.now c.in_ok-url.url c.in_ok-title.title c.in_ok-page_state.page_state
          c.in_ok-rest.rest url title page_state rest;
    }
