use Rattle.payload_words.proofs.AppendLaws.{three_pieces}
use Rattle.payload_words.proofs.fault.put_wrong_length.Goals as goal

pub returns : goal.returns
returns c =
    three_pieces _ _ _ _ _ _ _ c.in_ok-extend_from_slice.ensures.items c.in_ok-put_number.ensures c.in_ok-put_number-2.ensures
