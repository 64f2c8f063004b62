use Rattle.std.proofs.Common.{◌≡◌, ◌++◌, map}
use Rattle.session_commands.specs.declared.command.SessionCommand.TheVariants.{UpdateNavigation}
use Rattle.compactor.proofs.session.tab.push_pages.Given as goal

-- what was pushed, and the commands of the pages that are left
abbrev pub invariant-loop-page : goal.invariant-loop-page
invariant-loop-page l = l.out.items ++ map (λ page. UpdateNavigation l.tab.info.id page.0 page.1) l.page-iterator ≡ l.fn.out.items ++ map (λ page. UpdateNavigation l.tab.info.id page.0 page.1) l.tab.pages
