use Rattle.std.proofs.Common.{◌≡◌, ℕ, zero, suc, [], ◌∷◌, ◌++◌, replicate, refl, sym, ap, ◌∙◌, subst}
use Rattle.std.specs.Fmt.{IsDefaultSpec}
use Rattle.std.specs.List.{repeat}
use Rattle.std.proofs.Output.{has_written_styled_append, has_written_styled_of_eq}
use Rattle.listing.proofs.refused.UnderlineDisplay.fmt.Goals as goal

one_byte : (n b : ℕ) → repeat n (b ∷ []) ≡ replicate n b
one_byte zero b = refl
one_byte (suc n) b = ap (λ l. b ∷ l) (one_byte n b)

joined : (n m k a b : ℕ) → m ≡ k → repeat n (a ∷ []) ++ repeat m (b ∷ []) ≡ replicate n a ++ replicate k b
joined n m k a b e i = one_byte n a i ++ (one_byte m b ∙ ap (λ x. replicate x b) e) i

pub returns-clause-writes : goal.returns-clause-writes
returns-clause-writes g c = λ plain ok.
    let spaces = c.in_ok-write_repeated.ensures.styled plain.flush refl in
    let marks = c.write_repeated-2.ensures.styled spaces.flush ok in
    let all = has_written_styled_of_eq _ _ _ _ _ (joined _ _ _ _ _ c.max.ensures) (has_written_styled_append _ _ _ _ _ _ spaces marks) in
    record { wrote = all.wrote; plain = record { bare = subst IsDefaultSpec (sym all.spec) plain.bare; flush = all.flush } }
