use Rattle.std.proofs.Common.{◌≡◌, length, ℕ, List, true, arith, sym, refl, subst, ap, ◌∙◌}
use Rattle.command_queue.specs.Seats.{in_words}
use Rattle.atomic_table.specs.Table.{Me, Final, Seen}
use Rattle.command_queue.specs.declared.board_rule.Acks.{Acks}
use Rattle.command_queue.specs.BoardRule.{acks, Below, Kept}
use Rattle.std.specs.Slots.{slots_items, slots_counts}
use Rattle.command_queue.proofs.BoardLaws.{joins, ends, three}
use Rattle.command_queue.proofs.board.AckBoard.close.Goals as goal

-- a joined seat at the end
ended : {S : Type 0} (id : ℕ) (ws : List ℕ) (xs : List S) (me : Me S Acks) (ps ss : List ℕ) (rest : List (ℕ × S))
    → me ≡ (acks true true ps ss, rest) → Final (Seen Kept id me.0) ws xs → (ws ≡ ps) × Below ss ps
ended {S} id ws xs me ps ss rest e f = ends id (acks true true ps ss) ws xs refl refl
    (subst (λ (m : Me S Acks). Final (Seen Kept id m.0) ws xs) e f)

pub join_seat-requires : goal.join_seat-requires
join_seat-requires c = let w = c.requires.writer in let i = c.requires.issuer in let shape = w.shape.0 in
    (w.table, i.table, i.slots, omega arith, joins _ _ _ _ w.posts i.looks)

pub free-requires : goal.free-requires
free-requires c = let shape = c.requires.writer.shape.1 in let counts = c.close_with-closed.ensures.counts in
    λ k small. absurd (omega arith)

pub returns-clause-posted : goal.returns-clause-posted
returns-clause-posted c =
    let counts = c.close_with-closed.ensures.counts in
    let row = c.close_with-closed.result.words in
    let long : length (slots_items row) ≡ 3 = sym (slots_counts row).0 ∙ counts.0 ∙ c.requires.writer.shape.0 in
    three _ _ _ _ long c.word.ensures c.word-2.ensures c.word-3.ensures
    ∙ ap in_words (ended _ _ _ _ _ _ _ c.join_seat.ensures.2 c.close_with-closed.ensures.values.2).0
