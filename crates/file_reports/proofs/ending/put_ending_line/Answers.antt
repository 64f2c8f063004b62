use Rattle.payload_words.proofs.AppendLaws.{three_pieces, five_pieces}
use Rattle.file_reports.proofs.ending.put_ending_line.Goals as goal

pub returns-in_ok-extend_from_slice-in-CutSize-2 : goal.returns-in_ok-extend_from_slice-in-CutSize-2
returns-in_ok-extend_from_slice-in-CutSize-2 c = rw c.in-CutSize.is (three_pieces _ _ _ _ _ _ _
    c.in_ok-extend_from_slice-in-CutSize.ensures.items c.in_ok-put_number-in-CutSize.ensures c.in_ok-extend_from_slice-in-CutSize-2.ensures.items)

pub returns-in_ok-extend_from_slice-in-EmptyCommand-2 : goal.returns-in_ok-extend_from_slice-in-EmptyCommand-2
returns-in_ok-extend_from_slice-in-EmptyCommand-2 c = rw c.in-EmptyCommand.is (three_pieces _ _ _ _ _ _ _
    c.in_ok-extend_from_slice-in-EmptyCommand.ensures.items c.in_ok-put_number-in-EmptyCommand.ensures c.in_ok-extend_from_slice-in-EmptyCommand-2.ensures.items)

pub returns-in_ok-extend_from_slice-in-CutBody-2 : goal.returns-in_ok-extend_from_slice-in-CutBody-2
returns-in_ok-extend_from_slice-in-CutBody-2 c = rw c.in-CutBody.is (five_pieces _ _ _ _ _ _ _ _ _ _ _
    c.in_ok-extend_from_slice-in-CutBody.ensures.items c.in_ok-put_number-in-CutBody.ensures c.in_ok-put_number-in-CutBody-2.ensures c.in_ok-put_number-in-CutBody-3.ensures
    c.in_ok-extend_from_slice-in-CutBody-2.ensures.items)
