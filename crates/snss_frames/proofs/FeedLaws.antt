-- A piece put behind the bytes that a buffer holds, and bytes in front that go.
use Rattle.std.proofs.Common.{◌≡◌, ℕ, ◌+◌, ◌-◌, ◌≤◌, List, ◌++◌, length, take, drop, sym, ap, ◌∙◌, arith}
use Rattle.std.proofs.lemmas.List.{drop-take, drop-drop, drop-append-le, length-take-le}
use Rattle.std.proofs.lemmas.Slice.{take-put_mid}
use Rattle.snss_frames.specs.Feed.{Feed, past}
use borrow.Rule.Slice.PartMut.{put_mid}

-- The held bytes begin at `start`, and `written` stands behind them.
pub held_behind : (start held k : ℕ) (buffer written before piece : List ℕ) → start + held ≤ length buffer →
    take held (drop start buffer) ≡ before → written ≡ piece →
    take (held + length piece) (drop start (put_mid (start + held) k buffer written)) ≡ before ++ piece
held_behind start held k buffer written before piece within same is =
    let all = put_mid (start + held) k buffer piece in
    let long : length (take (start + held) buffer) ≡ start + held = length-take-le (start + held) buffer within in
    rw is (sym (drop-take start (held + length piece) all)
    ∙ ap (drop start) (take-put_mid (start + held) k buffer piece (start + (held + length piece)) (omega arith) within)
    ∙ drop-append-le start (take (start + held) buffer) piece (omega arith)
    ∙ ap (λ (x : List ℕ). x ++ piece) (drop-take start held buffer ∙ same))

-- The first n of the held bytes go.
pub held_past : (start held n : ℕ) (buffer : List ℕ) → n ≤ held → take (held - n) (drop (start + n) buffer) ≡ drop n (take held (drop start buffer))
held_past start held n buffer few =
    let split : n + (held - n) ≡ held = omega arith in
    ap (take (held - n)) (sym (drop-drop n start buffer)) ∙ sym (drop-take n (held - n) (drop start buffer))
    ∙ ap (λ (m : ℕ). drop n (take m (drop start buffer))) split

-- a feed goes past its first n bytes
pub feed_past : (start held at n : ℕ) (buffer : List ℕ) (old : Feed) → record { at = at; held = take held (drop start buffer) } ≡ old → n ≤ held →
    record { at = at + n; held = take (held - n) (drop (start + n) buffer) } ≡ past n old
feed_past start held at n buffer old seen few = ap (λ (h : List ℕ). record { at = at + n; held = h }) (held_past start held n buffer few) ∙ ap (past n) seen
