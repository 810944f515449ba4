-- Pieces of a line put one behind the other: the whole, and what stands in front of the bytes that were there.
use Prim.Native.Nat.{ℕ, ◌+◌, ◌<◌, ◌≤◌}
use native.Mathlib.Omega.{arith}
use mathlib.Core.Path.{◌≡◌, refl, ap, ◌∙◌}
use mathlib.Core.List.{List, [], ◌∷◌, ◌++◌, append_assoc}
use lib.ListN.{length, take, drop, set, replicate, length-append}
use lib.Seq.{take_at}
use Rattle.octets.specs.Pastes.{pasted}
use Rattle.octets.specs.Digits.{digits_of}
use Rattle.octets.specs.Texts.{ascii}
use Rattle.octets.proofs.DigitLaws.{length_digits}
use Rattle.octets.proofs.PasteLaws.{paste_paste, paste_front, paste_snoc, length_paste}
use Rattle.printing.specs.Line.{width_of, item, blank, line_feed, accepted_line, refused_line, in_array}

pub length_item : (v behind : ℕ) → length (item v behind) ≡ width_of v + 1
unfolding item
length_item v behind = length-append (digits_of (width_of v) v) (behind ∷ []) ∙ rw (length_digits (width_of v) v)

-- a number put, and a byte stored behind it
pub item_put : (l : List ℕ) (at v behind : ℕ) → at + width_of v < length l
    → set (pasted l at (digits_of (width_of v) v)) (at + width_of v) behind ≡ pasted l at (item v behind)
unfolding item
item_put l at v behind h = paste_snoc l at (width_of v) (digits_of (width_of v) v) behind (length_digits (width_of v) v) h

-- a paste right behind a paste
behind : (l : List ℕ) (i j : ℕ) (xs ys : List ℕ) → j ≡ i + length xs → i + length xs ≤ length l
    → pasted (pasted l i xs) j ys ≡ pasted l i (xs ++ ys)
behind l i j xs ys e h = rw e (paste_paste l i xs ys h)

-- the pieces of a line, each where the one before it ends
pub refused_put : (l : List ℕ) (number place a : ℕ) → 72 ≤ length l → a ≡ 8 + length (item number blank) → a ≤ 29
    → pasted (pasted (pasted l 0 (ascii "refused ")) 8 (item number blank)) a (item place line_feed) ≡ pasted l 0 (refused_line number place)
unfolding refused_line
refused_put l number place a h e u =
    let n = length_paste l 0 (ascii "refused ") (omega arith) in
    behind (pasted l 0 (ascii "refused ")) 8 a (item number blank) (item place line_feed) e (omega arith)
    ∙ behind l 0 8 (ascii "refused ") (item number blank ++ item place line_feed) refl (omega arith)

pub refused_long : (number place a r : ℕ) → a ≡ 8 + length (item number blank) → r ≡ a + length (item place line_feed) → r ≡ length (refused_line number place)
unfolding refused_line
refused_long number place a r e f = simp length-append (omega arith)

pub accepted_put : (l : List ℕ) (level columns posts a b : ℕ) → 72 ≤ length l
    → a ≡ 9 + length (item level blank) → a ≤ 30 → b ≡ a + length (item columns blank) → b ≤ 51
    → pasted (pasted (pasted (pasted l 0 (ascii "accepted ")) 9 (item level blank)) a (item columns blank)) b (item posts line_feed)
    ≡ pasted l 0 (accepted_line level columns posts)
unfolding accepted_line
accepted_put l level columns posts a b h e u f v =
    let front = pasted l 0 (ascii "accepted ") in
    let n : length front ≡ length l = length_paste l 0 (ascii "accepted ") (omega arith) in
    let m = length-append (item level blank) (item columns blank) in
    ap (λ (s : List ℕ). pasted s b (item posts line_feed)) (behind front 9 a (item level blank) (item columns blank) e (omega arith))
    ∙ behind front 9 b (item level blank ++ item columns blank) (item posts line_feed) (omega arith) (omega arith)
    ∙ ap (pasted front 9) (append_assoc (item level blank) (item columns blank) (item posts line_feed))
    ∙ behind l 0 9 (ascii "accepted ") (item level blank ++ (item columns blank ++ item posts line_feed)) refl (omega arith)

pub accepted_long : (level columns posts a b r : ℕ) → a ≡ 9 + length (item level blank) → b ≡ a + length (item columns blank)
    → r ≡ b + length (item posts line_feed) → r ≡ length (accepted_line level columns posts)
unfolding accepted_line
accepted_long level columns posts a b r e f g = simp length-append (omega arith)

-- so many bytes of the array as the line is long are the line: they are what is written
pub line_in_front : (line : List ℕ) → take (length line) (in_array line) ≡ line
line_in_front line = rw (paste_front (replicate 72 0) line) (take_at line (drop (length line) (replicate 72 0)) (length line) refl)
