-- Two's complement words: what each says, as the machine makes it, and that heights of 16 bits come back.
use Rattle.std.proofs.Common.{◌≡◌, ℕ, ◌+◌, ◌-◌, ◌<◌, ◌≤◌, true, leb, ℤ, pos, negsuc, neg_ℤ, sym, ap, ◌∙◌, arith, w16, SFits, to_z, le-ltb, lt-ltb, leb-true}
use mir.Facts.{to_z_pos}
use Rattle.octets.specs.Ranges.{between}
use Rattle.octets.proofs.ChoiceLaws.{both_true, by_order}
use Rattle.octets.specs.Twos.{twos_of, twos_word}

-- a word below the sign bit is itself; any other, as far below -1 as it lies below FFFF hex
pub twos_low : (w : ℕ) → w < 0x8000 → twos_of w ≡ pos w
unfolding twos_of
twos_low w h = rw (lt-ltb w 0x8000 h)

pub twos_high : (w : ℕ) → 0x8000 ≤ w → w < 0x10000 → twos_of w ≡ negsuc (0xFFFF - w)
unfolding twos_of
twos_high w h k = rw (le-ltb w 0x8000 h, lt-ltb w 0x10000 k) (ap negsuc (omega arith))

-- as the machine makes it
pub twos_read : (w : ℕ) → w < 0x10000 → to_z w16 w ≡ twos_of w
twos_read w h =
    by_order 0x8000 w
    (λ k. rw (le-ltb w 0x8000 k, twos_high w k h) (ap negsuc (omega arith)))
    (λ k. to_z_pos w16 k ∙ sym (twos_low w k))

-- a height of 16 bits has a word of 16 bits, and comes back from it
back : (z : ℤ) → SFits w16 z → (twos_word z < 0x10000) × (twos_of (twos_word z) ≡ z)
back (pos n) f = let h : n < 0x8000 = f.sfits in (omega arith, twos_low n h)
back (negsuc n) f =
    let h : n < 0x8000 = f.sfits in
    (omega arith, twos_high (0x10000 - (n + 1)) (omega arith) (omega arith) ∙ ap negsuc (omega arith))

fits_16 : (z : ℤ) → between (neg_ℤ (pos 32768)) (pos 32767) z ≡ true → SFits w16 z
fits_16 (pos n) e = record { sfits = omega (arith, leb-true n 32767 e) }
fits_16 (negsuc n) e = record { sfits = omega (arith, leb-true n 32767 (both_true (leb n 32767) true e).0) }

pub twos_back : (z : ℤ) → between (neg_ℤ (pos 32768)) (pos 32767) z ≡ true → (twos_word z < 0x10000) × (twos_of (twos_word z) ≡ z)
twos_back z e = back z (fits_16 z e)
