-- Position lookup under two years: where every post reads alike under them, so does every position.
use Rattle.std.specs.Prelude.{Result, Ok, Err, Option, Some, None}
use Rattle.position.specs.declared.Corner.{Corner}
use Rattle.answers.specs.declared.Refusal.{Refusal}
use Prim.Native.Nat.{ℕ}
use mathlib.Core.Path.{◌≡◌, refl, sym, ap, ◌∙◌}
use mathlib.Core.List.{List}
use lib.IntN.{ℤ}
use Rattle.years.specs.declared.Year.{Year}
use Rattle.headers.specs.Judged.{judged}
use Rattle.headers.specs.declared.Facts.{Facts}
use Rattle.lookup.specs.Reach.{reached}
use Rattle.lookup.specs.Lookup.{reading_of}
use Rattle.position.specs.Position.{south_west, nearest_column, nearest_post, said_at, located}
use Rattle.position.proofs.PositionExactly.{bad_headers, off, near, given}

module _ (x y : Year) (s : List ℕ) (same : (c p : ℕ) → reading_of (reached x s c p) ≡ reading_of (reached y s c p)) (latitude longitude : ℤ) where
  by_corner : (f : Facts) → judged s ≡ Ok f → (w : Option Corner) → south_west f latitude longitude ≡ w → located x s latitude longitude ≡ located y s latitude longitude
  by_corner f e None q = given x s latitude longitude _ (off f e q) ∙ sym (given y s latitude longitude _ (off f e q))
  by_corner f e (Some k) q =
      let c = nearest_column f.grid k in
      let p = nearest_post f.grid k in
      given x s latitude longitude _ (near f e k q) ∙ ap (said_at c p) (same c p) ∙ sym (given y s latitude longitude _ (near f e k q))

  by_headers : (j : Result Facts Refusal) → judged s ≡ j → located x s latitude longitude ≡ located y s latitude longitude
  by_headers (Err r) e = given x s latitude longitude _ (bad_headers r e) ∙ sym (given y s latitude longitude _ (bad_headers r e))
  by_headers (Ok f) e = by_corner f e (south_west f latitude longitude) refl

  pub located_alike : located x s latitude longitude ≡ located y s latitude longitude
  located_alike = by_headers (judged s) refl
