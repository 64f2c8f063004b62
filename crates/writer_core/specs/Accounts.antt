-- What comes of a list of items, by the accounts of both families: they are done, or the first file that would be too
-- long or would need a stamp above the last one stops them, and its family is named.
use Rattle.std.specs.Prelude.{◌≡◌, ℕ, List, [], ◌∷◌}
use Rattle.machine_law.specs.Kind.{Kind}
use Rattle.session_disk.specs.declared.family.Family.{Family}
use Rattle.session_disk.specs.declared.family.Family.TheVariants.{Session, Tabs}
use Rattle.log_writer.specs.Account.{Account}
use Rattle.log_writer.specs.declared.fault.JournalFault.{JournalFault}
use Rattle.log_writer.specs.declared.fault.JournalFault.TheVariants as fault
use Rattle.writer_core.specs.Course.{Course, Goes, TooLong, LastStamp, after_job}
use Rattle.writer_core.specs.Jobs.{session_job, tabs_job}
use Rattle.writer_core.specs.Working.{Beginning, course}
use Rattle.writer_core.specs.declared.handling.Stopped.{Stopped}
use Rattle.writer_core.specs.declared.item.Item.{Item}

-- the accounts of the session and of the tabs, or whose file would be how long, or whose would come behind the last
-- stamp
pub data Accounts (S A T B : Type 0) : Type 0 where
  Both : Account S A → Account T B → Accounts S A T B
  TooLongFor : Family → ℕ → Accounts S A T B
  LastStampFor : Family → Accounts S A T B

-- the course of the tabs beside an account of the session
abbrev pub beside : {S A T B : Type 0} → Account S A → Course T B → Accounts S A T B
beside a (Goes t) = Both a t
beside a (TooLong n) = TooLongFor Tabs n
beside a LastStamp = LastStampFor Tabs

-- The session's journal is called first, so its course is looked at first.
abbrev pub of_both : {S A T B : Type 0} → Course S A → Course T B → Accounts S A T B
of_both (Goes a) tabs = beside a tabs
of_both (TooLong n) tabs = TooLongFor Session n
of_both LastStamp tabs = LastStampFor Session

-- why a list of items stops at the journal of a family, as its accounts say; the disk and memory may stop it anywhere
abbrev pub StopsFor : {S A T B : Type 0} → Accounts S A T B → Family → JournalFault → Type 0
StopsFor accounts family (fault.TooLong n) = accounts ≡ TooLongFor family n
StopsFor accounts family (fault.LastStamp stamp) = accounts ≡ LastStampFor family
StopsFor accounts family (fault.AlreadyFailed first) = Unit {0}
StopsFor accounts family fault.Disk = Unit {0}
StopsFor accounts family fault.Memory = Unit {0}

abbrev pub StopsAs : {S A T B : Type 0} → Accounts S A T B → Stopped → Type 0
StopsAs accounts stopped = StopsFor accounts stopped.family stopped.fault

-- both families, by their kinds and where their journals begin
module _ {S A T B : Type 0} (session : Kind S A) (tabs : Kind T B) (b : Beginning S) (c : Beginning T) where
  -- one item: each journal does its job of it
  abbrev pub after_item : Item A B → Accounts S A T B → Accounts S A T B
  after_item item (Both a t) =
      of_both (after_job session b.options b.greatest (session_job item) (Goes a))
      (after_job tabs c.options c.greatest (tabs_job item) (Goes t))
  after_item item (TooLongFor family n) = TooLongFor family n
  after_item item (LastStampFor family) = LastStampFor family

  abbrev pub after_items : List (Item A B) → Accounts S A T B → Accounts S A T B
  after_items [] accounts = accounts
  after_items (item ∷ later) accounts = after_items later (after_item item accounts)

  -- the accounts of these items, from the opening of both journals on
  abbrev pub accounts : List (Item A B) → Accounts S A T B
  accounts items = after_items items (of_both (course session b []) (course tabs c []))

  -- both journals have an account of these items
  pub record HasBoth (items : List (Item A B)) : Type 0 where
    pub session_account : Account S A
    pub tabs_account : Account T B
    pub is : accounts items ≡ Both session_account tabs_account
