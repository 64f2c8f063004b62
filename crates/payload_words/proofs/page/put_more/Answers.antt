use Rattle.payload_words.specs.PageWords.{more_words}
use Rattle.payload_words.proofs.AppendLaws.{six_pieces}
use Rattle.payload_words.proofs.page.put_more.Goals as goal

pub returns : goal.returns
unfolding more_words
returns c =
    let last = six_pieces _ _ _ _ _ _ _ _ _ _ _ _ _ c.in_ok-put_int64_if_read.ensures c.in_ok-put_units_if_read.ensures c.in_ok-put_int_if_read-3.ensures c.in_ok-put_int_if_read-4.ensures
    (rw c.as_slice.ensures at c.in_ok-put_info.ensures) (rw c.as_slice-2.ensures at c.in_ok-put_length.ensures) in
    six_pieces _ _ _ _ _ _ _ _ _ _ _ _ _ c.in_ok-put_int_if_read.ensures c.in_ok-put_text_if_read.ensures c.in_ok-put_int_if_read-2.ensures c.in_ok-put_text_if_read-2.ensures c.in_ok-put_flag_if_read.ensures last
