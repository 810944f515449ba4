-- Signed numbers as the machine holds them, of any width: whose bits are whose, and a number that is not below 0.
use Rattle.std.proofs.Common.{◌≡◌, ℕ, ◌^◌, ◌<◌, ℤ, pos, sym, ap, ◌∙◌, to_z-of_z, SFits, to_z, of_z}
use mir.Syntax.{Width}
use mir.Val.{hbits}

-- two numbers with the same bits are one
pub same_bits : (w : Width) {y z : ℤ} → SFits w y → SFits w z → of_z w y ≡ of_z w z → y ≡ z
same_bits w f g e = sym (to_z-of_z f) ∙ ap (to_z w) e ∙ to_z-of_z g

-- a number that is not below 0: its size, and that the machine has it
pub record NotBelow (w : Width) (z : ℤ) : Type 0 where
  pub size : ℕ
  pub is : z ≡ pos size
  pub small : size < 2 ^ hbits w
  pub back : to_z w (of_z w z) ≡ pos size
