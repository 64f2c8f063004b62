-- What a call that does a verb leads to: a state that matches, the closed entries, and commands that can be written.
use Rattle.std.specs.Prelude.{Result, Ok, Err, IfOk, IfSome}
use Rattle.std.proofs.Common.{◌≡◌, ◌≤◌, List, [], ◌∷◌, ◌++◌, length, Option, Some, None, sym, subst, arith}
use Rattle.std.specs.List.{AllByRecursion}
use Rattle.closed_entries.specs.declared.entry.Entry.{Entry}
use Rattle.closed_entries.specs.declared.limits.TheConstants.{ENTRIES}
use Rattle.closed_entries.specs.States as closed
use Rattle.closed_entries.specs.States.{IsEntry}
use Rattle.closed_entries.specs.Step.{within_limit}
use Rattle.machine_law.specs.Kind.{fold as kind_fold}
use Rattle.replay_machine.specs.Step.{fold}
use Rattle.script_lines.specs.declared.verb.Verb.{Verb}
use Rattle.session_commands.specs.Table.{IsSound}
use Rattle.tabs_compactor.specs.Compaction.{entry_commands}
use Rattle.tabs_compactor.specs.Laws.Plain.{IsPlain, plain_entry}
use Rattle.tabs_compactor.specs.TabsKind.{tabs_kind, IsCommand}
use Rattle.window_state.specs.States.{State}
use Rattle.browser_model.specs.Browsers.{Browser, Matches}
use Rattle.browser_model.specs.Entries.{left_commands, with_left}
use Rattle.browser_model.specs.Running.{IsRunning}
use Rattle.browser_driver.specs.Acts.{act}
use Rattle.browser_driver.specs.Answers.{Answers, outcome_of}
use Rattle.browser_driver.specs.declared.fault.ActError.{ActError}
use Rattle.browser_driver.specs.declared.issued.Issued.{Issued}
use Rattle.browser_driver.proofs.ActLaws.{act-matches}
use Rattle.browser_driver.proofs.HeldLaws.{weaker}
use Rattle.browser_driver.proofs.OutcomeLaws.{act-closed, act-leaves, left_of}
use Rattle.browser_driver.proofs.SoundLaws.{act-sound}

last-of : {A : Type 0} (P : A → Type 0) (xs : List A) (x : A) → AllByRecursion P (xs ++ x ∷ []) → P x
last-of P [] x all = all.0
last-of P (y ∷ xs) x all = last-of P xs x all.1

-- an entry that is left is one of those that are closed
left-fits : (left : Option Entry) (before after : List Entry) → after ≡ with_left left before
    → AllByRecursion IsEntry after → IfSome left IsEntry
left-fits None before after is all = tt
left-fits (Some entry) before after is all =
    last-of IsEntry (within_limit before) entry (subst (AllByRecursion IsEntry) is all)

left-plain : (left : Option Entry) → IfSome left IsEntry → AllByRecursion IsCommand (left_commands left)
left-plain None is = tt
left-plain (Some entry) is =
    weaker IsPlain IsCommand (λ command plain. record { sound = plain.sound; ranged = plain.ranged })
    (entry_commands 0 entry) (plain_entry 0 entry (λ some. absurd (omega arith)) is).all

module _ (verb : Verb) (old new : Browser) where
  pub acted-follows : (r : Result Issued ActError) → Answers (act verb old) old new r → (s : State) → IsRunning s
      → Matches s old → IfOk r (λ issued. Matches (fold s issued.session) new)
  acted-follows (Ok issued) done s r m = act-matches verb s old (outcome_of new issued) r m done
  acted-follows (Err error) done s r m = tt

  pub acted-sound : (r : Result Issued ActError) → Answers (act verb old) old new r
      → IfOk r (λ issued. AllByRecursion IsSound issued.session)
  acted-sound (Ok issued) done = act-sound verb old (outcome_of new issued) done
  acted-sound (Err error) done = tt

  module _ (fits : AllByRecursion IsEntry new.closed) where
    entry-fits : (issued : Issued) → act verb old ≡ Ok (outcome_of new issued) → IfSome (left_of verb old) IsEntry
    entry-fits issued done =
        left-fits (left_of verb old) old.closed new.closed
        (act-leaves verb old (outcome_of new issued) done).closed fits

    pub acted-commands : (r : Result Issued ActError) → Answers (act verb old) old new r
        → IfOk r (λ issued. AllByRecursion IsCommand issued.tabs)
    acted-commands (Ok issued) done =
        subst (AllByRecursion IsCommand) (sym (act-leaves verb old (outcome_of new issued) done).tabs)
        (left-plain (left_of verb old) (entry-fits issued done))
    acted-commands (Err error) done = tt

    pub acted-closed : (r : Result Issued ActError) → Answers (act verb old) old new r → (c : closed.State)
        → c.awaited ≡ 0 → c.entries ≡ old.closed → length c.entries ≤ ENTRIES
        → IfOk r (λ issued. ((kind_fold tabs_kind c issued.tabs).entries ≡ new.closed)
        × ((kind_fold tabs_kind c issued.tabs).awaited ≡ 0))
    acted-closed (Ok issued) done c waits same few =
        act-closed verb old (outcome_of new issued) c waits same few (entry-fits issued done) done
    acted-closed (Err error) done c waits same few = tt
