-- What a call that does a verb answers: what becomes of the browser, exactly.
use Rattle.std.specs.Prelude.{◌≡◌, Result, Ok, Err}
use Rattle.browser_model.specs.Browsers.{Browser}
use Rattle.browser_driver.specs.Acts.{Answer, Outcome}
use Rattle.browser_driver.specs.declared.fault.ActError.{ActError}
use Rattle.browser_driver.specs.declared.fault.ActError.TheVariants.{Refused, Memory}
use Rattle.browser_driver.specs.declared.issued.Issued.{Issued}

abbrev pub outcome_of : Browser → Issued → Outcome
outcome_of b issued = record {
  browser = b;
  session = issued.session;
  tabs = issued.tabs;
  sync = issued.sync;
  compact = issued.compact;
}

-- after want of memory the browser is as it was
abbrev pub Answers : Answer → (old new : Browser) → Result Issued ActError → Type 0
Answers answer old new (Ok issued) = answer ≡ Ok (outcome_of new issued)
Answers answer old new (Err (Refused why)) = (answer ≡ Err why) × (new ≡ old)
Answers answer old new (Err Memory) = new ≡ old
