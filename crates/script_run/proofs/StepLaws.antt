-- Steps one after another: their items, their commands and their lines; and the commands of one family as steps.
use Rattle.std.proofs.Common.{◌≡◌, ℕ, ◌+◌, List, [], ◌∷◌, ◌++◌, length, map, append_assoc, refl, sym, ap, ◌∙◌, arith}
use Rattle.std.proofs.lemmas.List.{append-nil, length-append, map-append}
use Rattle.session_disk.specs.declared.family.Family.{Family}
use Rattle.session_disk.specs.declared.family.Family.TheVariants.{Session, Tabs}
use Rattle.session_commands.specs.declared.command.SessionCommand.{SessionCommand}
use Rattle.tab_restore_commands.specs.declared.command.TabsCommand.{TabsCommand}
use Rattle.writer_core.specs.Jobs.{commands, commands_of}
use Rattle.writer_core.specs.declared.item.Item.TheVariants as item
use Rattle.writer_core.proofs.JobLaws.{commands-append}
use Rattle.run_words.specs.Outcome.{sync_line}
use Rattle.script_run.specs.Families.{RunItem, job_of}
use Rattle.script_run.specs.Steps.{Step, Handle, Say, issued_to, items_of, jobs_of, said_behind}

pub items-append : (steps more : List Step) → items_of (steps ++ more) ≡ items_of steps ++ items_of more
items-append [] more = refl
items-append (Handle item ∷ steps) more = ap (λ items. item ∷ items) (items-append steps more)
items-append (Say ∷ steps) more = items-append steps more

pub jobs-append : (family : Family) (steps more : List Step)
    → jobs_of family (steps ++ more) ≡ jobs_of family steps ++ jobs_of family more
jobs-append family steps more =
    ap (map (job_of family)) (items-append steps more) ∙ map-append (job_of family) (items_of steps) (items_of more)

pub issued-append : (family : Family) (steps more : List Step)
    → issued_to family (steps ++ more) ≡ issued_to family steps ++ issued_to family more
issued-append family steps more =
    ap commands (jobs-append family steps more) ∙ commands-append (jobs_of family steps) (jobs_of family more)

-- a sync issues nothing
pub issued-synced : (family : Family) (steps : List Step)
    → issued_to family (steps ++ Handle item.Sync ∷ []) ≡ issued_to family steps
issued-synced family steps = issued-append family steps (Handle item.Sync ∷ []) ∙ by family
  where
    by : (family : Family) → issued_to family steps ++ issued_to family (Handle item.Sync ∷ []) ≡ issued_to family steps
    by Session = append-nil (issued_to Session steps)
    by Tabs = append-nil (issued_to Tabs steps)

pub counted-append : (family : Family) (steps more : List Step)
    → length (issued_to family (steps ++ more)) ≡ length (issued_to family steps) + length (issued_to family more)
counted-append family steps more =
    ap length (issued-append family steps more) ∙ length-append (issued_to family steps) (issued_to family more)

-- one item's commands come before those of the steps behind it
pub issued-first : (family : Family) (item : RunItem) (steps : List Step)
    → length (issued_to family (Handle item ∷ steps))
    ≡ length (commands_of (job_of family item)) + length (issued_to family steps)
issued-first family item steps = length-append (commands_of (job_of family item)) (issued_to family steps)

-- the lines of later steps count what the first ones issued
pub said-append : (session tabs : ℕ) (steps more : List Step)
    → said_behind session tabs (steps ++ more) ≡ said_behind session tabs steps
    ++ said_behind (session + length (issued_to Session steps)) (tabs + length (issued_to Tabs steps)) more
said-append session tabs [] more =
    let s : session ≡ session + 0 = omega arith in
    let t : tabs ≡ tabs + 0 = omega arith in
    ap (λ n. said_behind n tabs more) s ∙ ap (λ n. said_behind (session + 0) n more) t
said-append session tabs (Handle item ∷ steps) more =
    let s = session + length (commands_of (job_of Session item)) in
    let t = tabs + length (commands_of (job_of Tabs item)) in
    let first : s + length (issued_to Session steps) ≡ session + length (issued_to Session (Handle item ∷ steps)) =
    omega (arith, issued-first Session item steps) in
    let second : t + length (issued_to Tabs steps) ≡ tabs + length (issued_to Tabs (Handle item ∷ steps)) =
    omega (arith, issued-first Tabs item steps) in
    said-append s t steps more
    ∙ ap (λ n. said_behind s t steps ++ said_behind n (t + length (issued_to Tabs steps)) more) first
    ∙ ap (λ n. said_behind s t steps
    ++ said_behind (session + length (issued_to Session (Handle item ∷ steps))) n more) second
said-append session tabs (Say ∷ steps) more =
    let rest = said_behind (session + length (issued_to Session steps)) (tabs + length (issued_to Tabs steps)) more in
    ap (λ said. sync_line session tabs ++ said) (said-append session tabs steps more)
    ∙ sym (append_assoc (sync_line session tabs) (said_behind session tabs steps) rest)

-- values, each as an item
module _ {C : Type 0} (item_of : C → RunItem) where
  pub items-handled : (cs : List C) → items_of (map (λ c. Handle (item_of c)) cs) ≡ map item_of cs
  items-handled [] = refl
  items-handled (c ∷ cs) = ap (λ items. item_of c ∷ items) (items-handled cs)

  pub said-handled : (session tabs : ℕ) (cs : List C) → said_behind session tabs (map (λ c. Handle (item_of c)) cs) ≡ []
  said-handled session tabs [] = refl
  said-handled session tabs (c ∷ cs) =
      said-handled (session + length (commands_of (job_of Session (item_of c))))
      (tabs + length (commands_of (job_of Tabs (item_of c)))) cs

-- commands of the session are issued to it alone, and those of the tabs to them alone
pub session-own : (cs : List SessionCommand) → issued_to Session (map (λ c. Handle (item.Session c)) cs) ≡ cs
session-own [] = refl
session-own (c ∷ cs) = ap (λ issued. c ∷ issued) (session-own cs)

pub session-none : (cs : List TabsCommand) → issued_to Session (map (λ c. Handle (item.Tabs c)) cs) ≡ []
session-none [] = refl
session-none (c ∷ cs) = session-none cs

pub tabs-own : (cs : List TabsCommand) → issued_to Tabs (map (λ c. Handle (item.Tabs c)) cs) ≡ cs
tabs-own [] = refl
tabs-own (c ∷ cs) = ap (λ issued. c ∷ issued) (tabs-own cs)

pub tabs-none : (cs : List SessionCommand) → issued_to Tabs (map (λ c. Handle (item.Session c)) cs) ≡ []
tabs-none [] = refl
tabs-none (c ∷ cs) = tabs-none cs
