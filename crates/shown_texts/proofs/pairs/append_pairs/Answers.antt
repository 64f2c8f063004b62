use Rattle.std.proofs.Common.{ap, ◌∙◌, take, length, arith}
use Rattle.shown_texts.proofs.PairLaws.{one_more, all_shown, kept_more}
use Rattle.shown_texts.proofs.pairs.append_pairs.Goals as goal

pub loop-i-preserved : goal.loop-i-preserved
loop-i-preserved c =
    let start = c.args.out.now.items in
    record {
      shown = one_more c.args.bytes.now c.loop-i.i _ _ _ _ (omega arith) c.from_le_bytes.ensures c.in_ok-append_unit.ensures c.loop-i.invariant.shown;
      kept = ap (take (length start)) c.in_ok-append_unit.ensures ∙ kept_more start _ _ c.loop-i.invariant.kept;
    }

pub returns-clause-ok : goal.returns-clause-ok
returns-clause-ok c = all_shown c.args.bytes.now c.loop-i.i _ _ (omega arith) c.loop-i.invariant.shown
