use Rattle.std.proofs.Common.{refl, sym, subst}
use Rattle.script_run.specs.declared.run_state.RunState.{RunState}
use Rattle.script_run.specs.SegmentWriting.{WritesSegment}
use Rattle.threaded_run.proofs.MetLaws.{begun-written, can-begin, met-written}
use Rattle.threaded_run.proofs.WrittenLaws.{none-begun}
use Rattle.threaded_run.proofs.threaded.write_beside.Goals as goal

pub returns-in_default : goal.returns-in_default
returns-in_default g c = none-begun c.args.state c.args.text.now c.requires.can

pub returns-in_default-new : goal.returns-in_default-new
returns-in_default-new g c = none-begun c.args.state c.args.text.now c.requires.can

pub write_inline-requires : goal.write_inline-requires
write_inline-requires g c =
    let behind : RunState g.row.D.Denot g.D.SessionDisk = record {
      writers = c.beside-met.result.report.writers;
      browser = c.beside-met.result.browser;
      number = c.args.state.number;
      puts = c.beside-met.result.issuer.puts;
    } in
    record {
      can = can-begin c.args.state c.args.text.now c.in-Ok.queue c.in-Ok-new.board
          (record { pass = c.in-Ok.sending; seat = c.in-Ok-new.looking; puts = c.args.state.puts })
          (record { pass = c.in-Ok.taking; seat = c.in-Ok-new.posting; writers = c.args.state.writers }) refl
          c.in-Ok.ensures.empty.0 c.in-Ok.ensures.empty.1 c.beside-met.result c.beside-met.ensures c.close.result
          c.close.ensures.whole behind refl refl c.in-None.is refl c.requires.can;
    }

pub returns-in-Some : goal.returns-in-Some
returns-in-Some g c =
    let behind : RunState g.row.D.Denot g.D.SessionDisk = record {
      writers = c.beside-met.result.report.writers;
      browser = c.beside-met.result.browser;
      number = c.args.state.number;
      puts = c.beside-met.result.issuer.puts;
    } in
    subst (WritesSegment c.args.state c.args.text.now behind) (sym c.answer_of.ensures)
    (met-written c.args.state c.args.text.now c.in-Ok.queue c.in-Ok-new.board
    (record { pass = c.in-Ok.sending; seat = c.in-Ok-new.looking; puts = c.args.state.puts })
    (record { pass = c.in-Ok.taking; seat = c.in-Ok-new.posting; writers = c.args.state.writers }) refl
    c.in-Ok.ensures.empty.0 c.in-Ok.ensures.empty.1 c.beside-met.result c.beside-met.ensures c.close.result
    c.close.ensures.whole behind refl refl c.close-2.ensures.seen c.in-Some.issued
    c.in-Some.is)

pub returns-in-None : goal.returns-in-None
returns-in-None g c =
    let behind : RunState g.row.D.Denot g.D.SessionDisk = record {
      writers = c.beside-met.result.report.writers;
      browser = c.beside-met.result.browser;
      number = c.args.state.number;
      puts = c.beside-met.result.issuer.puts;
    } in
    begun-written c.args.state c.args.text.now c.in-Ok.queue c.in-Ok-new.board
    (record { pass = c.in-Ok.sending; seat = c.in-Ok-new.looking; puts = c.args.state.puts })
    (record { pass = c.in-Ok.taking; seat = c.in-Ok-new.posting; writers = c.args.state.writers }) refl
    c.in-Ok.ensures.empty.0 c.in-Ok.ensures.empty.1 c.beside-met.result c.beside-met.ensures c.close.result
    c.close.ensures.whole behind refl refl c.in-None.is refl c.write_inline.result.0
    c.write_inline.result.1 c.write_inline.ensures
