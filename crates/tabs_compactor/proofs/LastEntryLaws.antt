-- The last of a list of entries apart from those before it: its commands, and what it keeps.
use Rattle.std.proofs.Common.{◌≡◌, ℕ, List, [], ◌∷◌, ◌++◌, flat_map, refl, sym, ap, ◌∙◌, append_assoc}
use Rattle.std.proofs.lemmas.List.Concat.{flat_map-cons}
use Rattle.std.specs.List.{AllByRecursion}
use Rattle.closed_entries.specs.declared.entry.Entry.{Entry}
use Rattle.closed_entries.specs.LastItem.{HoldsOfLast}
use Rattle.tabs_compactor.specs.Compaction.{entry_commands, entries_commands}

-- an entry that isn't the last awaits nothing
behind : (awaited : ℕ) (first : Entry) (before : List Entry) (last : Entry) → entries_commands awaited (first ∷ before ++ last ∷ []) ≡ entry_commands 0 first ++ entries_commands awaited (before ++ last ∷ [])
behind awaited first [] last = refl
behind awaited first (e ∷ es) last = refl

pub commands-last : (awaited : ℕ) (before : List Entry) (last : Entry) → entries_commands awaited (before ++ last ∷ []) ≡ flat_map (entry_commands 0) before ++ entry_commands awaited last
commands-last awaited [] last = refl
commands-last awaited (e ∷ es) last =
    behind awaited e es last ∙ ap (λ l. entry_commands 0 e ++ l) (commands-last awaited es last)
    ∙ sym (ap (λ l. l ++ entry_commands awaited last) (flat_map-cons (entry_commands 0) e es) ∙ append_assoc (entry_commands 0 e) (flat_map (entry_commands 0) es) (entry_commands awaited last))

module _ {X : Type 0} (P : X → Type 0) where
  pub last-here : (before : List X) (last : X) → HoldsOfLast P (before ++ last ∷ []) → P last
  last-here [] last holds = holds
  last-here (x ∷ []) last holds = holds
  last-here (x ∷ y ∷ ys) last holds = last-here (y ∷ ys) last holds

  pub all-before : (before rest : List X) → AllByRecursion P (before ++ rest) → AllByRecursion P before
  all-before [] rest all = tt
  all-before (x ∷ xs) rest all = (all.0, all-before xs rest all.1)
