-- Q1, Q2: the nearest along one axis. Post k lies k intervals from the corner.
use Prim.Native.Nat.{ℕ, ◌+◌, ◌-◌, ◌*◌, ◌/◌, ◌%◌, ◌≤◌, ◌<◌}
use native.Mathlib.Nat.{add-mul, zero-mul, mul-le-mul_right, div-add-mod', mod-lt, mul-div_left, mul-mod_left}
use native.Mathlib.Omega.{arith}
use mathlib.Core.Path.{◌≡◌}
use borrow.Author.Tests.{lt-ltb, le-ltb}
use Rattle.octets.proofs.ChoiceLaws.{by_order}
use Rattle.position.specs.Position.{nearest}

-- how far two places lie apart
abbrev pub apart : ℕ → ℕ → ℕ
apart a b = a - b + (b - a)

-- post k is at least as near to o as post j, and the southern or western of the two where they are equally near
pub record AsNear (o d k j : ℕ) : Type 0 where
  pub nearer : apart o (k * d) ≤ apart o (j * d)
  pub tie : apart o (k * d) ≡ apart o (j * d) → k ≤ j

abbrev nearest_to : ℕ → ℕ → ℕ
nearest_to d o = nearest d (o / d) (o % d)

module _ (d o : ℕ) (some : 0 < d) where
  parts : o / d * d + o % d ≡ o
  parts = div-add-mod' o d

  short : o % d < d
  short = mod-lt o some

  stays : 2 * (o % d) ≤ d → nearest_to d o ≡ o / d
  stays h = rw (le-ltb d (2 * (o % d)) h)

  moves : d < 2 * (o % d) → nearest_to d o ≡ o / d + 1
  moves h = rw (lt-ltb d (2 * (o % d)) h)

  as_near_before : (j : ℕ) → 2 * (o % d) ≤ d → AsNear o d (o / d) j
  as_near_before j h =
      by_order (o / d + 1) j
      (λ far.
      let up : (o / d + 1) * d ≤ j * d = mul-le-mul_right d far in
      let step = add-mul (o / d) 1 d in
      record { nearer = omega (arith, parts, short); tie = λ e. omega arith })
      (λ near.
      let down : j * d ≤ o / d * d = mul-le-mul_right d (omega arith) in
      by_order (o / d) j
      (λ same. let q : j ≡ o / d = omega arith in rw q (record { nearer = omega arith; tie = λ e. omega arith }))
      (λ less.
      let further : (j + 1) * d ≤ o / d * d = mul-le-mul_right d (omega arith) in
      let step = add-mul j 1 d in
      record { nearer = omega (arith, parts, short); tie = λ e. absurd (omega (arith, parts, short)) }))

  as_near_next : (j : ℕ) → d < 2 * (o % d) → AsNear o d (o / d + 1) j
  as_near_next j h =
      let here = add-mul (o / d) 1 d in
      by_order (o / d + 1) j
      (λ far.
      let up : (o / d + 1) * d ≤ j * d = mul-le-mul_right d far in
      record { nearer = omega (arith, parts, short); tie = λ e. far })
      (λ near.
      let down : j * d ≤ o / d * d = mul-le-mul_right d (omega arith) in
      record { nearer = omega (arith, parts, short); tie = λ e. absurd (omega (arith, parts, short)) })

  -- no other is nearer, and of two equally near it is the southern or western
  pub nearest_is_lem : (j : ℕ) → AsNear o d (nearest_to d o) j
  nearest_is_lem j =
      by_order (2 * (o % d)) d
      (λ h. rw (stays h) (as_near_before j h))
      (λ h. rw (moves h) (as_near_next j h))

  -- it is one of the grid's, which spans the cell's degree
  module _ (n : ℕ) (span : (n - 1) * d ≡ 36000) (inside : o ≤ 36000) where
    several : 1 ≤ n - 1
    several =
        by_order 1 (n - 1) (λ h. h)
        (λ h.
        let none : n - 1 ≡ 0 = omega arith in
        let nothing : 0 * d ≡ 36000 = rw none at span in
        absurd (omega (arith, nothing, zero-mul d)))

    before_on : o / d ≤ n - 1
    before_on =
        by_order (o / d) (n - 1) (λ h. h)
        (λ h. let up : (n - 1 + 1) * d ≤ o / d * d = mul-le-mul_right d (omega arith) in absurd (omega (arith, parts, span, add-mul (n - 1) 1 d)))

    next_on : d < 2 * (o % d) → o / d + 1 ≤ n - 1
    next_on far =
        by_order (o / d + 1) (n - 1) (λ h. h)
        (λ h. let up : (n - 1) * d ≤ o / d * d = mul-le-mul_right d (omega arith) in absurd (omega (arith, parts, span)))

    pub nearest_on : nearest_to d o < n
    nearest_on =
        by_order (2 * (o % d)) d
        (λ near. rw (stays near) (omega (arith, several, before_on)))
        (λ far. rw (moves far) (omega (arith, several, next_on far)))

-- at a post it is that post
pub nearest_at : (d k : ℕ) → 0 < d → nearest d (k * d / d) (k * d % d) ≡ k
nearest_at d k some = rw (mul-div_left k some, mul-mod_left k d, le-ltb d (2 * 0) (omega arith))
