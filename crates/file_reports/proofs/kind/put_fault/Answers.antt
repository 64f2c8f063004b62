use Rattle.payload_words.proofs.AppendLaws.{two_pieces}
use Rattle.file_reports.proofs.kind.put_fault.Goals as goal

pub returns-in_ok-put_hexadecimal-in-BadSignature : goal.returns-in_ok-put_hexadecimal-in-BadSignature
returns-in_ok-put_hexadecimal-in-BadSignature c =
    rw c.in-BadSignature.is (two_pieces _ _ _ _ _ c.in_ok-extend_from_slice-in-BadSignature.ensures.items c.in_ok-put_hexadecimal-in-BadSignature.ensures)

pub returns-in_ok-put_decimal-in-UnknownVersion : goal.returns-in_ok-put_decimal-in-UnknownVersion
returns-in_ok-put_decimal-in-UnknownVersion c =
    rw c.in-UnknownVersion.is (two_pieces _ _ _ _ _ c.in_ok-extend_from_slice-in-UnknownVersion.ensures.items c.in_ok-put_decimal-in-UnknownVersion.ensures)
