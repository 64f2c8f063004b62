-- The words of a board are what its writer posted, and are no less than what its issuer has seen. One seat at most may
-- post.
use Rattle.std.specs.Prelude.{◌≡◌, ◌≤◌, ℕ, Bool, true, List, max, slice_index, slice_set}
use mathlib.Core.Option.{some}
use lib.ListN.{get_elem?}
use Rattle.atomic_table.specs.Table.{State, Me, Step}
use Rattle.command_queue.specs.declared.board_rule.Acks.{Acks}

-- what is seen of a seat: its rights to post and to look, what was posted by it and what was seen by it
abbrev pub acks : Bool → Bool → List ℕ → List ℕ → Acks
acks posts looks posted seen = record { posts = posts; looks = looks; posted = posted; seen = seen }

-- each number of the one list is at most the one at its place in the other
abbrev pub Below : List ℕ → List ℕ → Type 0
Below xs ys = (i : ℕ) → slice_index xs i ≤ slice_index ys i

-- a seat that may post is the writer's, and the words are what was posted by it; one that may look has seen no more
abbrev pub Agrees : ℕ → List ℕ → ℕ → Acks → Type 0
Agrees writer words by v = (v.posts ≡ true → (by ≡ writer) × (words ≡ v.posted))
    × (v.looks ≡ true → Below v.seen words)

-- there is one writer at most, and each seat agrees with the words
abbrev pub Kept : {S : Type 0} → State S Acks → Type 0
Kept s = (writer : ℕ) × ((by : ℕ) (v : Acks) → get_elem? s.views by ≡ some v → Agrees writer s.words by v)

-- words, one of which is raised to a number unless it is greater
abbrev pub raised : List ℕ → ℕ → ℕ → List ℕ
raised xs i n = slice_set xs i (max (slice_index xs i) n)

-- a word is raised, and so is what was posted of it
abbrev pub Posts : {S : Type 0} → Step S → Me S Acks → Me S Acks → Type 0
Posts s m n = n ≡ (acks m.0.posts m.0.looks (raised m.0.posted s.word s.first) m.0.seen, m.1)

-- a word was seen, and is at least what was seen of it last
abbrev pub Looks : {S : Type 0} → Step S → Me S Acks → ℕ → Me S Acks → Type 0
Looks s m r n = (n ≡ (acks m.0.posts m.0.looks m.0.posted (slice_set m.0.seen s.word r), m.1))
    × (slice_index m.0.seen s.word ≤ r)
