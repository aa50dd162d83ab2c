-- Numbers as they are written.
--   digit_of b              the digit of a byte
--   magnitude_of bs         the number that one to three digits say
--   value_of bs             the number that digits say, with a minus before them or none
--   is_in_range low high v  whether a number is one from low to high
--   natural_of v            a number that is not negative
use Rattle.std.specs.Prelude.{ℕ, ◌+◌, ◌-◌, ◌*◌, Bool, cond, ◌&&◌, List, [], ◌∷◌, ℤ, pos, negsuc, neg_ℤ, ◌==◌, int_le}

abbrev pub digit_of : ℕ → ℕ
digit_of b = b - 48

abbrev pub magnitude_of : List ℕ → ℕ
magnitude_of [] = 0
magnitude_of (a ∷ []) = digit_of a
magnitude_of (a ∷ (b ∷ [])) = 10 * digit_of a + digit_of b
magnitude_of (a ∷ (b ∷ (c ∷ []))) = 100 * digit_of a + 10 * digit_of b + digit_of c
magnitude_of (a ∷ (b ∷ (c ∷ (d ∷ bs)))) = 0

abbrev pub value_of : List ℕ → ℤ
value_of [] = pos 0
value_of (b ∷ bs) = cond (b == 45) (neg_ℤ (pos (magnitude_of bs))) (pos (magnitude_of (b ∷ bs)))

abbrev pub is_in_range : ℤ → ℤ → ℤ → Bool
is_in_range low high v = int_le low v && int_le v high

abbrev pub natural_of : ℤ → ℕ
natural_of (pos n) = n
natural_of (negsuc n) = 0
