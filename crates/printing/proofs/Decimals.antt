-- The digits that std displays are those of the definition, and so the line of a verdict is what std would display of its numbers; and no line
-- is longer than its room.
use Prim.Native.Nat.{ℕ, ◌+◌, ◌/◌, ◌%◌, ◌<◌, ◌≤◌, ◌^◌}
use native.Mathlib.Omega.{arith}
use mathlib.Core.Path.{◌≡◌, sym, ap, ◌∙◌}
use mathlib.Core.List.{List, [], ◌∷◌, ◌++◌, append_assoc, append-nil, map-append}
use lib.ListN.{length, length-append}
use Rattle.std.specs.Fmt.{decimal}
use Rattle.std.proofs.lemmas.Fmt.{decimal_by_steps}
use Rattle.octets.specs.Places.{places}
use Rattle.octets.specs.Texts.{ascii}
use Rattle.octets.proofs.DigitLaws.{length_digits}
use Rattle.printing.specs.Line.{decimal_of, item, width_of, blank, line_feed, accepted_line, refused_line}
use Rattle.printing.proofs.Widths.{width_few, width_on, width_64}

few : (n : ℕ) → n < 10 → decimal_of n ≡ (48 + n) ∷ []
unfolding places
few n h = rw (width_few n h) (ap (λ (d : ℕ). (48 + d) ∷ []) (omega arith))

on : (n : ℕ) (ds : List ℕ) → 10 ≤ n → decimal_of (n / 10) ≡ ds → decimal_of n ≡ ds ++ ((48 + n % 10) ∷ [])
unfolding places
on n ds h e =
    rw (width_on n h)
    (map-append (λ (d : ℕ). 48 + d) (places 10 (width_of (n / 10)) (n / 10)) (n % 10 ∷ []) ∙ ap (λ (l : List ℕ). l ++ ((48 + n % 10) ∷ [])) e)

pub decimals : (n : ℕ) → n < 2 ^ 64 → decimal_of n ≡ decimal n
decimals n h = decimal_by_steps (λ m ds. decimal_of m ≡ ds) few on n h

-- a number and the byte behind it, with what follows
item_is : (v behind : ℕ) (rest : List ℕ) → v < 2 ^ 64 → decimal v ++ (behind ∷ rest) ≡ item v behind ++ rest
unfolding item
item_is v behind rest h = sym (append_assoc (decimal_of v) (behind ∷ []) rest ∙ ap (λ (l : List ℕ). l ++ (behind ∷ rest)) (decimals v h))

-- S7: what std would display of a verdict's numbers is its line
pub refused_is : (number place : ℕ) → number < 2 ^ 64 → place < 2 ^ 64
    → ascii "refused " ++ (decimal number ++ (blank ∷ (decimal place ++ (line_feed ∷ [])))) ≡ refused_line number place
unfolding refused_line
refused_is number place h u =
    ap (λ (l : List ℕ). ascii "refused " ++ l)
    (item_is number blank _ h ∙ ap (λ (l : List ℕ). item number blank ++ l) (item_is place line_feed [] u ∙ append-nil _))

pub accepted_is : (level columns posts : ℕ) → level < 2 ^ 64 → columns < 2 ^ 64 → posts < 2 ^ 64
    → ascii "accepted " ++ (decimal level ++ (blank ∷ (decimal columns ++ (blank ∷ (decimal posts ++ (line_feed ∷ [])))))) ≡ accepted_line level columns posts
unfolding accepted_line
accepted_is level columns posts h u w =
    ap (λ (l : List ℕ). ascii "accepted " ++ l)
    (item_is level blank _ h
    ∙ ap (λ (l : List ℕ). item level blank ++ l)
    (item_is columns blank _ u ∙ ap (λ (l : List ℕ). item columns blank ++ l) (item_is posts line_feed [] w ∙ append-nil _)))

-- no line is longer than the room of 72 bytes that the program has for it
item_long : (v behind : ℕ) → v < 2 ^ 64 → length (item v behind) ≤ 21
unfolding item
item_long v behind h =
    let most = width_64 v h in
    let long = length_digits (width_of v) v in
    omega (arith, length-append (decimal_of v) (behind ∷ []))

pub accepted_fits : (level columns posts : ℕ) → level < 2 ^ 64 → columns < 2 ^ 64 → posts < 2 ^ 64 → length (accepted_line level columns posts) ≤ 72
unfolding accepted_line
accepted_fits level columns posts h u w =
    let a = item_long level blank h in
    let b = item_long columns blank u in
    let c = item_long posts line_feed w in
    simp length-append (omega arith)

pub refused_fits : (number place : ℕ) → number < 2 ^ 64 → place < 2 ^ 64 → length (refused_line number place) ≤ 72
unfolding refused_line
refused_fits number place h u =
    let a = item_long number blank h in
    let b = item_long place line_feed u in
    simp length-append (omega arith)
