-- Issuer and writer of a segment, joined: what was put was taken, and what was seen was posted.
use Rattle.std.proofs.Common.{◌≡◌, ℕ, false, List, [], ◌∷◌, ◌++◌, Option, Some, None, Result, refl, sym}
use Rattle.std.proofs.Common.{ap, ◌∙◌, subst, arith}
use Rattle.session_disk.specs.declared.disk.SessionDisk as disk
use Rattle.command_queue.specs.declared.board.AckBoard.{AckBoard}
use Rattle.command_queue.specs.declared.queue.CommandQueue.{CommandQueue}
use Rattle.command_queue.specs.Passes.{sent, taken}
use Rattle.command_queue.specs.Seats.{IsAtMost, posted, seen}
use Rattle.writer_core.specs.Ends.{has_end}
use Rattle.writer_core.specs.InOrder.{AllDone}
use Rattle.writer_core.specs.Serving.{Handled, ended_by}
use Rattle.writer_core.specs.declared.item.Item.TheVariants as item
use Rattle.script_run.specs.declared.halt.Halt.{Halt}
use Rattle.script_run.specs.declared.run_state.RunState.{RunState}
use Rattle.script_run.specs.declared.segments.Ended.{Ended}
use Rattle.script_run.specs.Families.{RunItem}
use Rattle.script_run.specs.SegmentWriting.{CanWrite, WritesSegment}
use Rattle.script_run.specs.Whole.{RunsOver}
use Rattle.threaded_run.specs.Answers.{answer_of}
use Rattle.threaded_run.specs.Beside.{IssuedAs, IssuedBeside}
use Rattle.threaded_run.specs.Issuing.{EndsAs}
use Rattle.threaded_run.specs.declared.beside.Met.{Met}
use Rattle.threaded_run.specs.declared.beside.WriterSide.{WriterSide}
use Rattle.threaded_run.specs.declared.issuing.Issued.{Issued}
use Rattle.threaded_run.specs.declared.putting.Issuer.{Issuer}
use Rattle.threaded_run.proofs.TakenLaws.{taken-all}
use Rattle.threaded_run.proofs.WrittenLaws.{behind-nothing, none-done, segment-written, still-can}

module _ {D : Type 0} {d : disk.Ghosts D} (state : RunState D d) (text : List ℕ) (queue : CommandQueue RunItem)
    (board : AckBoard) (issuer : Issuer) (side : WriterSide D d) (journals : side.writers ≡ state.writers)
    (none_sent : sent issuer.pass ≡ []) (none_taken : taken side.pass ≡ []) (met : Met D d)
    (beside : IssuedBeside queue board state.number state.browser text issuer side met) (left : List RunItem)
    (whole : sent met.issuer.pass ≡ taken met.report.pass ++ left) (behind : RunState D d)
    (writers : behind.writers ≡ met.report.writers) (browser : behind.browser ≡ met.browser) where
  -- where the writer took no more and no less than these
  handled-so : (items : List RunItem) → beside.works.ran.items ≡ items
      → Handled items state.writers met.report.stopped behind.writers (posted met.report.seat)
  handled-so items took =
      subst (λ (x : List RunItem × RunsOver D d × RunsOver D d). Handled x.0 x.1 met.report.stopped x.2
      (posted met.report.seat)) (λ i. (took i, journals i, sym writers i)) beside.works.ran.handled

  -- the writer took what was put
  took-all : (put : List RunItem) → has_end put ≡ false
      → sent met.issuer.pass ≡ sent issuer.pass ++ (put ++ item.End ∷ []) → beside.works.ran.items ≡ put
  took-all put none_ends sends =
      let ran = beside.works.ran in
      taken-all put ran.items left (sent issuer.pass) (sent met.issuer.pass) (taken side.pass)
      (taken met.report.pass) none_ends ran.none_ends none_sent none_taken sends ran.takes whole

  issued-as : (how : Option Issued) → met.issued ≡ how
      → IssuedAs queue board state.number state.browser text issuer how met.issuer met.browser
  issued-as how is =
      subst (λ (x : Option Issued). IssuedAs queue board state.number state.browser text issuer x met.issuer met.browser)
      is beside.issued

  -- the lines were acted on, and what they ask was put
  pub met-written : IsAtMost (seen met.issuer.seat) (posted met.report.seat) → (how : Issued) → met.issued ≡ Some how
      → WritesSegment state text behind (answer_of met.report.stopped how)
  met-written within how is =
      let issued = issued-as (Some how) is in
      let put = issued.put in
      segment-written state text behind put.items put.left put.parts met.report.stopped how (posted met.report.seat)
      met.issuer.seat (handled-so put.items (took-all put.items put.none_ends put.sends)) put.leaves
      (subst (λ b. EndsAs state.number text state.browser how met.issuer.seat b) (sym browser) issued.ends)
      (λ none looked. omega (arith, looked.saw, within.2, beside.works.report_is.posts.ended, ap ended_by none))

  -- no thread could be started
  module _ (is : met.issued ≡ None) (number : behind.number ≡ state.number) where
    ended-so : IssuedAs queue board state.number state.browser text issuer None met.issuer met.browser
    ended-so = issued-as None is

    none-written : AllDone [] state.writers behind.writers
    none-written =
        none-done state.writers behind.writers met.report.stopped (posted met.report.seat)
        (handled-so [] (took-all [] refl ended-so.sends))

    pub can-begin : CanWrite state text → CanWrite behind text
    can-begin can = still-can state behind text none-written number (browser ∙ ended-so.stays) can

    pub begun-written : (new : RunState D d) (result : Result Ended Halt) → WritesSegment behind text new result
        → WritesSegment state text new result
    begun-written new result wrote =
        behind-nothing state behind text none-written number (browser ∙ ended-so.stays) new result wrote
