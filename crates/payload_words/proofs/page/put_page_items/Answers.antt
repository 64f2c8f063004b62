use Rattle.std.proofs.Common.{rules, ◌≡◌, ◌++◌}
use Rattle.payload_words.specs.FieldWords.{signed_word, item_word}
use Rattle.payload_words.proofs.AppendLaws.{six_pieces}
use Rattle.payload_words.proofs.page.put_page_items.Goals as goal

pub returns : goal.returns
unfolding item_word
returns c =
    let tab : c.put_signed.new.out.items ≡ c.args.out.now.items ++ signed_word c.args.page.now.tab = search rules in
    let index : c.put_signed-2.new.out.items ≡ c.put_signed.new.out.items ++ signed_word c.args.page.now.index = search rules in
    let transition : c.put_signed-3.new.out.items ≡ c.put_length.new.out.items ++ signed_word c.args.page.now.transition = search rules in
    six_pieces _ _ _ _ _ _ _ _ _ _ _ _ _ tab index c.in_ok-put_text.ensures c.in_ok-put_unit_pairs.ensures c.in_ok-put_length.ensures transition
