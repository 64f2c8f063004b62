-- A family's journal that is opened: it writes on from the state to which the files read, or its account is stopped.
use Rattle.std.proofs.Common.{◌≡◌, ℕ, ◌<◌, ◌≤◌, ◌^◌, true, List, [], length, Option, Some, None, Ok, Err, refl, sym, ap, ◌∙◌, subst, arith}
use Rattle.machine_law.specs.Kind.{Kind}
use Rattle.session_disk.specs.Moments.{IsNewestBelow}
use Rattle.session_disk.specs.Histories.{History, Leaves}
use Rattle.fresh_files.specs.Fresh.{fresh}
use Rattle.log_writer.specs.Waiting.{Waiting}
use Rattle.log_writer.specs.Account.{Needs, restated, opened}
use Rattle.log_writer.specs.Journals.{IsReady}
use Rattle.log_writer.specs.Log.{Log, IsLeft}
use Rattle.log_writer.specs.Opening.{OpenAnswers, OpenMakes, Starts, Seen}
use Rattle.log_writer.specs.Opening.{RefusesOpening as RefusesByLength}
use Rattle.log_writer.specs.declared.limits.Limits.{Limits}
use Rattle.log_writer.specs.declared.journal.Present.{Present}
use Rattle.log_writer.specs.declared.fault.JournalFault.{JournalFault}
use Rattle.log_writer.specs.declared.fault.JournalFault.TheVariants as fault
use Rattle.writer_core.specs.Course.{Options, Course, IsTied, after_outcome, after_jobs, meets_last, options}
use Rattle.writer_core.specs.Course as ending
use Rattle.writer_core.specs.Working.{Beginning, Begins, Continues, FaultCause, LeftSince, Stops, WritesOn, course}
use Rattle.writer_core.specs.Opening.{Opens, RefusesOpening}
use Rattle.writer_core.specs.Telling.{Runs}
use Rattle.writer_core.specs.declared.item.Job.{Job}
use Rattle.writer_core.proofs.WorkLaws.{left_longer}
use Rattle.writer_core.proofs.CourseLaws.{tied_first, newest_same, goes_fresh, meets, stays_long, stays_last, opened_over, opened_fits, opened_made, first_goes, last_first}

pub stops_long : {S C : Type 0} (c : Course S C) (why : JournalFault) (needed : ℕ) → why ≡ fault.TooLong needed → Stops c why → c ≡ ending.TooLong needed
stops_long c why needed e h = let here : Stops c (fault.TooLong needed) = subst (Stops c) e h in here

pub stops_last : {S C : Type 0} (c : Course S C) (why : JournalFault) (stamp : ℕ) → why ≡ fault.LastStamp stamp → Stops c why → c ≡ ending.LastStamp
stops_last c why stamp e h = let here : Stops c (fault.LastStamp stamp) = subst (Stops c) e h in here

-- a journal that was opened goes on from the state to which the files read
pub opened_on : {S C : Type 0} (kind : Kind S C) (IsMoment : ℕ → Type 0) (b : Beginning S) (limits : Limits) (entry now : History) (present : Present S) (w : Waiting C) → b.options ≡ options limits → Begins kind entry b → present.stamp < 2 ^ 63 →
    Starts kind limits entry.now now.now present w b.first → OpenMakes {S = S} IsMoment entry.now (Ok present) → Leaves entry now (IsLeft kind entry.now b.first []) → Continues kind b now present w []
opened_on kind IsMoment b limits entry now present w same begins bound starts makes crash =
    let one : starts.advances.next.made ≡ 1 = opened_made kind limits.max_file b.first starts.advances.next starts.advances.is in
    let tied = tied_first IsMoment entry.now present.stamp b.greatest begins.newest makes.0 in
    record {
      some = omega (arith, limits.some, ap (λ (o : Options). o.every) same);
      newest = subst (λ (h : History). IsNewestBelow h.now.standing None b.greatest) (sym begins.entry_is) begins.newest;
      account = starts.advances.next;
      is = ap (λ (o : Options). after_outcome kind b.options b.greatest 0 (opened kind o.max_file b.first)) same ∙ ap (after_outcome kind b.options b.greatest 0) starts.advances.is
          ∙ goes_fresh kind b.options b.greatest 0 starts.advances.next (first_goes b.greatest present.stamp bound tied);
      made = omega (arith, starts.advances.made, ap (λ (h : History). h.now.creates) begins.entry_is);
      few = omega (arith, one);
      tied = subst (λ (n : ℕ). IsTied b.greatest n present.stamp) (sym one) tied;
      runs = starts.advances.runs;
      left = subst (λ (h : History). Leaves h now (IsLeft kind h.now b.first [])) (sym begins.entry_is) crash;
    }

-- an opening that was refused, by the length of the fresh file or by the last stamp
pub opening_stops : {S C : Type 0} (kind : Kind S C) (IsMoment : ℕ → Type 0) (b : Beginning S) (limits : Limits) (entry : History) (jobs : List (Job C)) (old new : Seen) (why : JournalFault) → b.options ≡ options limits → Begins kind entry b →
    OpenAnswers {S = S} limits old new (Err why) → RefusesByLength {S = S} limits.max_file (length (fresh kind b.first)) (Err why) → OpenMakes {S = S} IsMoment entry.now (Err why) → Stops (course kind b jobs) why
opening_stops kind IsMoment b limits entry jobs old new (fault.TooLong n) same begins answers fits makes =
    ap (after_jobs kind b.options b.greatest jobs) (ap (λ (o : Options). after_outcome kind b.options b.greatest 0 (opened kind o.max_file b.first)) same
    ∙ ap (after_outcome kind b.options b.greatest 0) (opened_over kind limits.max_file b.first fits.1 ∙ ap Needs (sym fits.0))) ∙ stays_long kind b.options b.greatest jobs n
opening_stops kind IsMoment b limits entry jobs old new (fault.LastStamp stamp) same begins answers fits makes =
    let greatest = newest_same entry.now.standing (Some stamp) b.greatest makes begins.newest in
    let last : meets_last b.greatest 0 ≡ true = subst (λ (g : Option ℕ). meets_last g 0 ≡ true) greatest (last_first stamp answers.0) in
    ap (after_jobs kind b.options b.greatest jobs) (ap (λ (o : Options). after_outcome kind b.options b.greatest 0 (opened kind o.max_file b.first)) same
    ∙ ap (after_outcome kind b.options b.greatest 0) (opened_fits kind limits.max_file b.first fits) ∙ meets kind b.options b.greatest 0 (restated kind b.first 1) (omega arith) last) ∙ stays_last kind b.options b.greatest jobs
opening_stops kind IsMoment b limits entry jobs old new (fault.AlreadyFailed first) same begins answers fits makes = tt
opening_stops kind IsMoment b limits entry jobs old new fault.Disk same begins answers fits makes = tt
opening_stops kind IsMoment b limits entry jobs old new fault.Memory same begins answers fits makes = tt

-- what the call of an opening answers

fault_of_opening : (S : Type 0) (limits : Limits) (old new : Seen) (why : JournalFault) → OpenAnswers {S = S} limits old new (Err why) → FaultCause limits.max_file old.failures new.failures why
fault_of_opening S limits old new (fault.AlreadyFailed first) h = h
fault_of_opening S limits old new (fault.TooLong needed) h = h.0
fault_of_opening S limits old new (fault.LastStamp stamp) h = h.0
fault_of_opening S limits old new fault.Disk h = h
fault_of_opening S limits old new fault.Memory h = tt

module _ {S C : Type 0} (kind : Kind S C) (IsMoment : ℕ → Type 0) (modelled : Type 0) (limits : Limits) (entry : Seen) where
  pub opens : (l : Log S C) (exit : Seen) → l.failed ≡ None → l.limits ≡ limits → l.present.stamp < 2 ^ 63 → entry.failures ≤ l.failures → OpenAnswers limits entry exit (Ok l.present) →
      (modelled → OpenMakes IsMoment entry.history.now (Ok l.present)) →
      (modelled → (s : S) → IsReady kind entry.history.now s → Starts kind limits entry.history.now l.history.now l.present l.waiting s) →
      (modelled → (s : S) → IsReady kind entry.history.now s → Leaves entry.history l.history (IsLeft kind entry.history.now s [])) → Opens kind modelled limits entry l
  opens l exit works limited bound later answers makes starts left = record {
    works = works;
    limited = limited;
    none_written = answers.0;
    none_told = answers.1;
    later = later;
    newest = λ told. let fresh = (makes told).0 in (fresh.greatest, fresh.newest);
    begins = λ told b same begins. opened_on kind IsMoment b limits entry.history l.history l.present l.waiting same begins bound (starts told b.first begins.ready) (makes told) (left told b.first begins.ready);
  }

  pub refuses : (exit : Seen) (why : JournalFault) → OpenAnswers {S = S} limits entry exit (Err why) → (modelled → OpenMakes {S = S} IsMoment entry.history.now (Err why)) →
      (modelled → (s : S) → IsReady kind entry.history.now s → RefusesByLength {S = S} limits.max_file (length (fresh kind s)) (Err why)) →
      (modelled → (s : S) → IsReady kind entry.history.now s → Leaves entry.history exit.history (IsLeft kind entry.history.now s [])) → RefusesOpening kind modelled limits entry exit why
  refuses exit why answers makes fits left = record {
    cause = fault_of_opening S limits entry exit why answers;
    stops = λ told b same begins jobs. opening_stops kind IsMoment b limits entry.history jobs entry exit why same begins answers (fits told b.first begins.ready) (makes told);
    left = left;
  }

-- what follows from an opened journal
module _ {S C : Type 0} (kind : Kind S C) (modelled : Type 0) (limits : Limits) (entry : Seen) (l : Log S C) (o : Opens kind modelled limits entry l) (told : modelled) (first : S) (ready : IsReady kind entry.history.now first) where
  abbrev pub beginning : Beginning S
  beginning = record { options = options limits; first = first; entry = entry.history; greatest = (o.newest told).0 }

  pub on : WritesOn kind beginning l []
  on = o.begins told beginning refl (record { ready = ready; entry_is = refl; newest = (o.newest told).1 })

  pub opened_runs : Runs kind l
  opened_runs = record { first = first; taken = []; account = on.account; runs = on.runs }

  pub opened_state : l.present.state ≡ first
  opened_state = on.runs.keeps.state

  pub opened_left : (jobs : List (Job C)) → LeftSince kind beginning l.history jobs
  opened_left jobs = left_longer kind beginning l.history [] jobs on.left
