use Rattle.std.proofs.Common.{rules, ◌≡◌, ◌++◌}
use Rattle.payload_words.specs.FieldWords.{signed_word}
use Rattle.payload_words.proofs.AppendLaws.{three_pieces}
use Rattle.payload_words.proofs.fault.put_negative_length.Goals as goal

pub returns : goal.returns
returns c =
    let last : c.put_signed.new.out.items ≡ c.put_number.new.out.items ++ signed_word c.args.length = search rules in
    three_pieces _ _ _ _ _ _ _ c.in_ok-extend_from_slice.ensures.items c.in_ok-put_number.ensures last
