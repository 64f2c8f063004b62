-- The accounts of both families item by item: both are there exactly where the courses of both go, what has ended stays
-- ended, and the first course that stops names its family.
use Rattle.std.proofs.Common.{◌≡◌, ℕ, List, [], ◌∷◌, ◌++◌, map, refl, sym, ap, ◌∙◌, subst}
use Rattle.std.proofs.lemmas.List.{map-append}
use Rattle.machine_law.specs.Kind.{Kind}
use Rattle.session_disk.specs.declared.family.Family.{Family}
use Rattle.session_disk.specs.declared.family.Family.TheVariants.{Session, Tabs}
use Rattle.log_writer.specs.Account.{Account}
use Rattle.log_writer.specs.declared.fault.JournalFault.{JournalFault}
use Rattle.log_writer.specs.declared.fault.JournalFault.TheVariants as fault
use Rattle.writer_core.specs.Accounts.{Accounts, Both, TooLongFor, LastStampFor, StopsFor, StopsAs, accounts, after_item, after_items, of_both}
use Rattle.writer_core.specs.Course.{Course, Goes, TooLong, LastStamp, after_job, after_jobs}
use Rattle.writer_core.specs.Jobs.{session_job, tabs_job}
use Rattle.writer_core.specs.Working.{Beginning, Stops, course}
use Rattle.writer_core.specs.declared.handling.Stopped.{Stopped}
use Rattle.writer_core.specs.declared.item.Item.{Item}
use Rattle.writer_core.proofs.CourseLaws.{stays_last, stays_long}
use Rattle.writer_core.proofs.WorkLaws.{course_more}

module _ {S A T B : Type 0} where
  -- what a fault says of accounts that stop by it
  pub stops_for_long : (x : Accounts S A T B) (stopped : Stopped) (n : ℕ) → stopped.fault ≡ fault.TooLong n → StopsAs x stopped → x ≡ TooLongFor stopped.family n
  stops_for_long x stopped n e h = let here : StopsFor x stopped.family (fault.TooLong n) = subst (StopsFor x stopped.family) e h in here

  pub stops_for_last : (x : Accounts S A T B) (stopped : Stopped) (stamp : ℕ) → stopped.fault ≡ fault.LastStamp stamp → StopsAs x stopped → x ≡ LastStampFor stopped.family
  stops_for_last x stopped stamp e h = let here : StopsFor x stopped.family (fault.LastStamp stamp) = subst (StopsFor x stopped.family) e h in here

  -- one course of two that stops
  first_stops : (x : Course S A) (y : Course T B) (why : JournalFault) → Stops x why → StopsFor (of_both x y) Session why
  first_stops x y (fault.TooLong n) e = ap (λ (z : Course S A). of_both z y) e
  first_stops x y (fault.LastStamp stamp) e = ap (λ (z : Course S A). of_both z y) e
  first_stops x y (fault.AlreadyFailed first) e = tt
  first_stops x y fault.Disk e = tt
  first_stops x y fault.Memory e = tt

  second_stops : (a : Account S A) (y : Course T B) (why : JournalFault) → Stops y why → StopsFor (of_both (Goes a) y) Tabs why
  second_stops a y (fault.TooLong n) e = ap (λ (z : Course T B). of_both (Goes a) z) e
  second_stops a y (fault.LastStamp stamp) e = ap (λ (z : Course T B). of_both (Goes a) z) e
  second_stops a y (fault.AlreadyFailed first) e = tt
  second_stops a y fault.Disk e = tt
  second_stops a y fault.Memory e = tt

module _ {S A T B : Type 0} (session : Kind S A) (tabs : Kind T B) (b : Beginning S) (c : Beginning T) where
  abbrev items_after : List (Item A B) → Accounts S A T B → Accounts S A T B
  items_after items so_far = after_items session tabs b c items so_far

  abbrev session_after : List (Item A B) → Course S A → Course S A
  session_after items x = after_jobs session b.options b.greatest (map session_job items) x

  abbrev tabs_after : List (Item A B) → Course T B → Course T B
  tabs_after items y = after_jobs tabs c.options c.greatest (map tabs_job items) y

  pub after_items-append : (items more : List (Item A B)) (so_far : Accounts S A T B) → items_after (items ++ more) so_far ≡ items_after more (items_after items so_far)
  after_items-append [] more so_far = refl
  after_items-append (item ∷ later) more so_far = after_items-append later more (after_item session tabs b c item so_far)

  pub accounts-append : (items more : List (Item A B)) → accounts session tabs b c (items ++ more) ≡ items_after more (accounts session tabs b c items)
  accounts-append items more = after_items-append items more (of_both (course session b []) (course tabs c []))

  -- what has ended stays ended

  long_stays : (items : List (Item A B)) (family : Family) (n : ℕ) → items_after items (TooLongFor family n) ≡ TooLongFor family n
  long_stays [] family n = refl
  long_stays (item ∷ later) family n = long_stays later family n

  last_stays : (items : List (Item A B)) (family : Family) → items_after items (LastStampFor family) ≡ LastStampFor family
  last_stays [] family = refl
  last_stays (item ∷ later) family = last_stays later family

  pub stops_stay : (items : List (Item A B)) (so_far : Accounts S A T B) (family : Family) (why : JournalFault) → StopsFor so_far family why → StopsFor (items_after items so_far) family why
  stops_stay items so_far family (fault.TooLong n) e = ap (items_after items) e ∙ long_stays items family n
  stops_stay items so_far family (fault.LastStamp stamp) e = ap (items_after items) e ∙ last_stays items family
  stops_stay items so_far family (fault.AlreadyFailed first) e = tt
  stops_stay items so_far family fault.Disk e = tt
  stops_stay items so_far family fault.Memory e = tt

  -- both accounts are there exactly where both courses go

  both_after : (items : List (Item A B)) (x : Course S A) (y : Course T B) (a : Account S A) (t : Account T B) → session_after items x ≡ Goes a → tabs_after items y ≡ Goes t → items_after items (of_both x y) ≡ Both a t
  both_after [] x y a t e f = ap (λ (z : Course S A). of_both z y) e ∙ ap (λ (z : Course T B). of_both (Goes a) z) f
  both_after (item ∷ later) (Goes old) (Goes known) a t e f =
      both_after later (after_job session b.options b.greatest (session_job item) (Goes old)) (after_job tabs c.options c.greatest (tabs_job item) (Goes known)) a t e f
  both_after (item ∷ later) (Goes old) (TooLong n) a t e f = let stuck = stays_long tabs c.options c.greatest (map tabs_job later) n in cc
  both_after (item ∷ later) (Goes old) LastStamp a t e f = let stuck = stays_last tabs c.options c.greatest (map tabs_job later) in cc
  both_after (item ∷ later) (TooLong n) y a t e f = let stuck = stays_long session b.options b.greatest (map session_job later) n in cc
  both_after (item ∷ later) LastStamp y a t e f = let stuck = stays_last session b.options b.greatest (map session_job later) in cc

  go_after : (items : List (Item A B)) (x : Course S A) (y : Course T B) (a : Account S A) (t : Account T B) → items_after items (of_both x y) ≡ Both a t → (session_after items x ≡ Goes a) × (tabs_after items y ≡ Goes t)
  go_after [] (Goes old) (Goes known) a t e = (cc, cc)
  go_after (item ∷ later) (Goes old) (Goes known) a t e =
      go_after later (after_job session b.options b.greatest (session_job item) (Goes old)) (after_job tabs c.options c.greatest (tabs_job item) (Goes known)) a t e
  go_after items (Goes old) (TooLong n) a t e = absurd (let stuck = long_stays items Tabs n in cc)
  go_after items (Goes old) LastStamp a t e = absurd (let stuck = last_stays items Tabs in cc)
  go_after items (TooLong n) y a t e = absurd (let stuck = long_stays items Session n in cc)
  go_after items LastStamp y a t e = absurd (let stuck = last_stays items Session in cc)

  pub accounts_both : (items : List (Item A B)) (a : Account S A) (t : Account T B) → course session b (map session_job items) ≡ Goes a → course tabs c (map tabs_job items) ≡ Goes t → accounts session tabs b c items ≡ Both a t
  accounts_both items a t e f = both_after items (course session b []) (course tabs c []) a t e f

  pub both_go : (items : List (Item A B)) (a : Account S A) (t : Account T B) → accounts session tabs b c items ≡ Both a t → (course session b (map session_job items) ≡ Goes a) × (course tabs c (map tabs_job items) ≡ Goes t)
  both_go items a t e = go_after items (course session b []) (course tabs c []) a t e

  -- The first course that stops ends the accounts, whatever was to follow.
  module _ (before : List (Item A B)) (item : Item A B) (rest : List (Item A B)) (a : Account S A) (t : Account T B) (session_goes : course session b (map session_job before) ≡ Goes a) (tabs_go : course tabs c (map tabs_job before) ≡ Goes t) where
    abbrev session_next : Course S A
    session_next = after_job session b.options b.greatest (session_job item) (Goes a)

    abbrev tabs_next : Course T B
    tabs_next = after_job tabs c.options c.greatest (tabs_job item) (Goes t)

    accounts_next : accounts session tabs b c (before ++ item ∷ rest) ≡ items_after rest (of_both session_next tabs_next)
    accounts_next = accounts-append before (item ∷ rest) ∙ ap (items_after (item ∷ rest)) (accounts_both before a t session_goes tabs_go)

    session_here : course session b (map session_job (before ++ item ∷ [])) ≡ session_next
    session_here = ap (course session b) (map-append session_job before (item ∷ [])) ∙ course_more session b (map session_job before) (session_job item ∷ []) ∙ ap (after_job session b.options b.greatest (session_job item)) session_goes

    tabs_here : course tabs c (map tabs_job (before ++ item ∷ [])) ≡ tabs_next
    tabs_here = ap (course tabs c) (map-append tabs_job before (item ∷ [])) ∙ course_more tabs c (map tabs_job before) (tabs_job item ∷ []) ∙ ap (after_job tabs c.options c.greatest (tabs_job item)) tabs_go

    pub session_stops : (why : JournalFault) → Stops (course session b (map session_job (before ++ item ∷ []))) why → StopsFor (accounts session tabs b c (before ++ item ∷ rest)) Session why
    session_stops why h =
        let here : Stops session_next why = subst (λ (x : Course S A). Stops x why) session_here h in
        subst (λ (x : Accounts S A T B). StopsFor x Session why) (sym accounts_next) (stops_stay rest (of_both session_next tabs_next) Session why (first_stops session_next tabs_next why here))

    pub tabs_stop : (next : Account S A) (why : JournalFault) → course session b (map session_job (before ++ item ∷ [])) ≡ Goes next → Stops (course tabs c (map tabs_job (before ++ item ∷ []))) why → StopsFor (accounts session tabs b c (before ++ item ∷ rest)) Tabs why
    tabs_stop next why goes h =
        let here : Stops tabs_next why = subst (λ (y : Course T B). Stops y why) tabs_here h in
        let both : accounts session tabs b c (before ++ item ∷ rest) ≡ items_after rest (of_both (Goes next) tabs_next) = accounts_next ∙ ap (λ (x : Course S A). items_after rest (of_both x tabs_next)) (sym session_here ∙ goes) in
        subst (λ (x : Accounts S A T B). StopsFor x Tabs why) (sym both) (stops_stay rest (of_both (Goes next) tabs_next) Tabs why (second_stops next tabs_next why here))
