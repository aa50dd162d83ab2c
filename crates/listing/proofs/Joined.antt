-- Lines one after the other.
use Rattle.std.proofs.Common.{◌≡◌, ℕ, suc, ◌+◌, List, [], ◌++◌, refl, ap, ◌∙◌, add-one}
use Rattle.listing.specs.Listings.{lines}

pub lines_none : (f : ℕ → List ℕ) → [] ≡ lines f 0
unfolding lines
lines_none f = refl

one_more : (f : ℕ → List ℕ) (n : ℕ) → lines f (suc n) ≡ lines f n ++ f n
unfolding lines
one_more f n = refl

pub lines_more : (f : ℕ → List ℕ) (n : ℕ) → lines f (n + 1) ≡ lines f n ++ f n
lines_more f n = ap (lines f) (add-one n) ∙ one_more f n
