-- What a run of items over journals that were just opened says of the accounts of both families: they are there where
-- all was done, and a refusal is what they say.
use Rattle.std.proofs.Common.{◌≡◌, ◌+◌, ◌<◌, ◌^◌, List, [], ◌∷◌, ◌++◌, length, map, sym, ap, subst, arith}
use Rattle.std.proofs.lemmas.List.{length-append, length-map, map-append}
use Rattle.machine_law.specs.declared.machine.Machine as machine
use Rattle.session_disk.specs.declared.disk.SessionDisk as disk
use Rattle.session_disk.specs.declared.family.Family.{Family}
use Rattle.session_disk.specs.declared.family.Family.TheVariants.{Session, Tabs}
use Rattle.log_writer.specs.Account.{Account}
use Rattle.log_writer.specs.declared.fault.JournalFault.{JournalFault}
use Rattle.writer_core.specs.Accounts.{HasBoth, StopsAs, StopsFor, accounts}
use Rattle.writer_core.specs.Course.{Goes, options}
use Rattle.writer_core.specs.Handling.{turn_at}
use Rattle.writer_core.specs.InOrder.{AllDone, StopsAt, TurnsLast}
use Rattle.writer_core.specs.Jobs.{session_job, tabs_job}
use Rattle.writer_core.specs.Working.{Beginning, GoesOn, Stops, course}
use Rattle.writer_core.specs.declared.handling.Stopped.{Stopped}
use Rattle.writer_core.specs.declared.handling.Writers.{Writers}
use Rattle.writer_core.specs.declared.item.Item.{Item}
use Rattle.writer_core.specs.declared.item.Job.{Job}
use Rattle.writer_core.proofs.AccountLaws.{accounts_both, session_stops, tabs_stop}

module _ {M N D S A T B : Type 0} {m : machine.Ghosts M S A} {n : machine.Ghosts N T B} {d : disk.Ghosts D} (old new : Writers M N D S A T B m n d) (items : List (Item A B)) (modelled : d.modelled) (few : length items < 2 ^ 61)
    (b : Beginning S) (c : Beginning T) (session_limits : b.options ≡ options old.session.limits) (tabs_limits : c.options ≡ options old.tabs.limits) (session_on : GoesOn b old.session []) (tabs_on : GoesOn c old.tabs []) where
  -- the accounts of all items that were done
  pub run_goes : AllDone items old new → HasBoth m.kind n.kind b c items
  run_goes h =
      let session = h.session.works modelled b [] session_limits (omega (arith, few, length-map items session_job)) session_on in
      let tabs = h.tabs.works modelled c [] tabs_limits (omega (arith, few, length-map items tabs_job)) tabs_on in
      record { session_account = session.account; tabs_account = tabs.account; is = accounts_both m.kind n.kind b c items session.account tabs.account session.is tabs.is }

  module _ (stopped : Stopped) (h : StopsAt items old new stopped) where
    few_parts : length h.before + length h.rest + 1 < 2 ^ 61
    few_parts = omega (arith, few, ap length h.parts, length-append h.before (h.item ∷ h.rest))

    session_before : (account : Account S A) × (course m.kind b (map session_job h.before) ≡ Goes account)
    session_before = h.session.goes modelled b [] session_limits (omega (arith, few_parts, length-map h.before session_job)) session_on

    tabs_before : (account : Account T B) × (course n.kind c (map tabs_job h.before) ≡ Goes account)
    tabs_before = h.tabs.goes modelled c [] tabs_limits (omega (arith, few_parts, length-map h.before tabs_job)) tabs_on

    -- the accounts of the items before the one that was refused
    pub run_before : HasBoth m.kind n.kind b c h.before
    run_before = record { session_account = session_before.0; tabs_account = tabs_before.0; is = accounts_both m.kind n.kind b c h.before session_before.0 tabs_before.0 session_before.1 tabs_before.1 }

    few_session : length (map session_job h.before ++ session_job h.item ∷ []) < 2 ^ 61
    few_session = omega (arith, few_parts, length-append (map session_job h.before) (session_job h.item ∷ []), length-map h.before session_job)

    few_tabs : length (map tabs_job h.before ++ tabs_job h.item ∷ []) < 2 ^ 61
    few_tabs = omega (arith, few_parts, length-append (map tabs_job h.before) (tabs_job h.item ∷ []), length-map h.before tabs_job)

    stops_at : (rest : List (Item A B)) (family : Family) (why : JournalFault) → TurnsLast (map session_job h.before) (session_job h.item) old.session new.session (turn_at Session family why) →
        TurnsLast (map tabs_job h.before) (tabs_job h.item) old.tabs new.tabs (turn_at Tabs family why) → StopsFor (accounts m.kind n.kind b c (h.before ++ h.item ∷ rest)) family why
    stops_at rest Session why session tabs =
        session_stops m.kind n.kind b c h.before h.item rest session_before.0 tabs_before.0 session_before.1 tabs_before.1 why
        (subst (λ (jobs : List (Job A)). Stops (course m.kind b jobs) why) (sym (map-append session_job h.before (h.item ∷ []))) (session.works modelled b [] session_limits few_session session_on).stops)
    stops_at rest Tabs why session tabs =
        let on = session.works modelled b [] session_limits few_session session_on in
        tabs_stop m.kind n.kind b c h.before h.item rest session_before.0 tabs_before.0 session_before.1 tabs_before.1 on.account why
        (subst (λ (jobs : List (Job A)). course m.kind b jobs ≡ Goes on.account) (sym (map-append session_job h.before (h.item ∷ []))) on.is)
        (subst (λ (jobs : List (Job B)). Stops (course n.kind c jobs) why) (sym (map-append tabs_job h.before (h.item ∷ []))) (tabs.works modelled c [] tabs_limits few_tabs tabs_on).stops)

    -- the accounts of the item that was refused, whatever was to follow it
    pub run_stops_at : (rest : List (Item A B)) → StopsAs (accounts m.kind n.kind b c (h.before ++ h.item ∷ rest)) stopped
    run_stops_at rest = stops_at rest stopped.family stopped.fault h.session.turns h.tabs.turns

    pub run_stops : StopsAs (accounts m.kind n.kind b c items) stopped
    run_stops = subst (λ (all : List (Item A B)). StopsAs (accounts m.kind n.kind b c all) stopped) h.parts (run_stops_at h.rest)
