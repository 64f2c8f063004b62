-- A run has few steps: fewer than files could have stamps.
use Rattle.std.proofs.Common.{◌≡◌, ℕ, suc, ◌+◌, ◌*◌, ◌≤◌, ◌<◌, ◌^◌, Bool, true, false, cond, if◌then◌else◌, eqb, List}
use Rattle.std.proofs.Common.{[], ◌∷◌, ◌++◌, length, pos, Ok, ap, arith}
use Rattle.std.proofs.lemmas.List.{length-append, length-map}
use Rattle.session_disk.specs.declared.family.Family.{Family}
use Rattle.session_disk.specs.declared.family.Family.TheVariants.{Session, Tabs}
use Rattle.tab_restore_commands.specs.declared.command.TabsCommand.TheVariants.{RestoredEntry}
use Rattle.window_state.specs.States.{IsState}
use Rattle.closed_entries.specs.States as closed_entries
use Rattle.browser_model.specs.Amounts.{pages_in, HasFew, HasDistinctIds}
use Rattle.browser_model.specs.Browsers.{Browser}
use Rattle.browser_model.specs.Tidying.{tidying}
use Rattle.browser_model.proofs.FewLaws.{few-begun, distinct-begun, few-begun_pages, few-tidying}
use Rattle.browser_driver.specs.Acts.{Outcome, act}
use Rattle.browser_driver.proofs.FewLaws.{act-few}
use Rattle.script_lines.specs.Lines.{lines, with_byte}
use Rattle.script_lines.specs.declared.verb.Verb.{Verb}
use Rattle.tabs_compactor.specs.Tidying as closed_tidying
use Rattle.writer_core.proofs.JobLaws.{length-commands}
use Rattle.script_run.specs.Families.{Firsts, job_of}
use Rattle.script_run.specs.Script.{course_from, course_of, first_browser, outcome_steps, steps_of}
use Rattle.script_run.specs.Steps.{Step, issued_to, items_of, jobs_of}
use Rattle.script_run.proofs.KeepingLaws.{lines-keep}
use Rattle.script_run.proofs.OutcomeSteps.{items-outcome, items-run}
use Rattle.script_run.proofs.StepLaws.{items-append}

-- a text has no more lines than bytes
length-with_byte : (b : ℕ) (ls : List (List ℕ)) → length (with_byte b ls) ≤ suc (length ls)
length-with_byte b [] = omega arith
length-with_byte b (l ∷ ls) = omega arith

length-cut : (t : Bool) (b : ℕ) (ls : List (List ℕ)) (n : ℕ) → length ls ≤ n
    → length (cond t ([] ∷ ls) (with_byte b ls)) ≤ suc n
length-cut true b ls n h = omega (arith, h)
length-cut false b ls n h = omega (arith, h, length-with_byte b ls)

length-lines : (text : List ℕ) → length (lines text) ≤ length text
length-lines [] = omega arith
length-lines (b ∷ bytes) = length-cut (eqb b 10) b (lines bytes) (length bytes) (length-lines bytes)

-- so many lines ask few items beside those for pages that go
record IsFew (n : ℕ) (b : Browser) (steps : List Step) (next : Browser) : Type 0 where
  few : HasFew next
  distinct : HasDistinctIds next
  items : length (items_of steps) + pages_in next ≤ pages_in b + n * 16777217

abbrev LeadsFew : ℕ → Browser → List Step → Browser → Type 0
LeadsFew n b steps next = HasFew b → HasDistinctIds b → IsFew n b steps next

few-stay : (n : ℕ) (b : Browser) → LeadsFew n b [] b
few-stay n b few distinct = record { few = few; distinct = distinct; items = omega arith }

few-verb : (verb : Verb) (b : Browser) (o : Outcome) → act verb b ≡ Ok o → LeadsFew 1 b (outcome_steps verb o) o.browser
few-verb verb b o done few distinct =
    let step = act-few verb b o few distinct done in record {
      few = step.few;
      distinct = step.distinct;
      items = omega (arith, step.commands, items-outcome verb o);
    }

few-then : (n k : ℕ) (b c e : Browser) (steps more : List Step) → LeadsFew n b steps c → LeadsFew k c more e
    → LeadsFew (n + k) b (steps ++ more) e
few-then n k b c e steps more one two few distinct =
    let first = one few distinct in
    let later = two first.few first.distinct in record {
      few = later.few;
      distinct = later.distinct;
      items = omega (
        arith,
        first.items,
        later.items,
        ap length (items-append steps more),
        length-append (items_of steps) (items_of more),
      );
    }

few-lines : (ls : List (List ℕ)) (b : Browser) → LeadsFew (length ls) b (course_from 1 b ls).steps (course_from 1 b
    ls).last
few-lines ls b = lines-keep LeadsFew few-stay few-verb few-then ls 1 b

one-closed : (s : closed_entries.State) → length (closed_tidying.tidying s) ≤ 1
one-closed s = by s.open_entry
  where
    by : (b : Bool) → length (if b then RestoredEntry (pos 0) ∷ [] else []) ≤ 1
    by true = omega arith
    by false = omega arith

pub few-steps : (firsts : Firsts) (text : List ℕ) → IsState (firsts Session) → length text ≤ 2 ^ 30
    → length (items_of (steps_of firsts text)) < 2 ^ 61
few-steps firsts text is short =
    let s = firsts Session in
    let c = firsts Tabs in
    let b = first_browser firsts in
    let steps = (course_of firsts text).steps in
    let lines_few = few-lines (lines text) b (few-begun s is s.active c.entries) (distinct-begun s is s.active
    c.entries) in
    omega (
      arith,
      items-run (tidying s) (closed_tidying.tidying c) steps,
      few-tidying s is,
      one-closed c,
      lines_few.items,
      few-begun_pages s is s.active c.entries,
      length-lines text,
      short,
    )

-- and issues few commands
pub few-issued : (family : Family) (steps : List Step) → length (issued_to family steps) ≤ length (items_of steps)
few-issued family steps =
    omega (arith, length-commands (jobs_of family steps), length-map (items_of steps) (job_of family))
