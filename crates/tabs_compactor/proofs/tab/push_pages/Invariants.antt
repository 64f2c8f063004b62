use Rattle.std.proofs.Common.{◌≡◌, ◌++◌, map}
use Rattle.tab_restore_commands.specs.declared.command.TabsCommand.TheVariants.{UpdateNavigation}
use Rattle.tabs_compactor.proofs.tab.push_pages.Given as goal

-- what was pushed, and the commands of the pages that are left
abbrev pub invariant-loop-page : goal.invariant-loop-page
invariant-loop-page l = l.out.items ++ map (λ page. UpdateNavigation l.tab.id page.0 page.1) l.page-iterator ≡ l.fn.out.items ++ map (λ page. UpdateNavigation l.tab.id page.0 page.1) l.tab.pages
