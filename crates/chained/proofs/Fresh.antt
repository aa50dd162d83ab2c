-- The chains of a new store of cells: all cells are free, each linked to the one behind it.
use Rattle.std.proofs.Common.{◌≡◌, ℕ, zero, suc, ◌+◌, ◌<◌, ◌≢◌, List, Option, Some, None, get_or, set, replicate, refl, ap, ◌∙◌, inl, inr, arith}
use Rattle.std.proofs.lemmas.List.{get_or-set_other, get_or-replicate}
use Rattle.std.proofs.lemmas.Bool.{cases_eq}
use Rattle.chained.specs.declared.links.Chain.{Chain}
use Rattle.chained.specs.declared.links.Tables.{Tables}
use Rattle.chained.specs.Chains.{count_in, head_in, count_of, cell, Below, Apart, Ends}
use Rattle.chained.proofs.Relink.{count_is}

abbrev whole : Chain
whole = record { head = 0; tail = 127; count = 128 }

unfoldable pub chains : List (Option Chain)
chains = set (replicate 65 None) 64 (Some whole)

chain_free : get_or chains 64 None ≡ Some whole
unfolding chains
chain_free = refl

chain_box : (a : ℕ) → a < 65 → a ≢ 64 → get_or chains a None ≡ None
unfolding chains
chain_box a la q = get_or-set_other (replicate 65 None) 64 a (Some whole) None q ∙ get_or-replicate 65 a None None la

module _ (next : List ℕ) where
  abbrev fresh : Tables
  fresh = record { next = next; chains = chains }

  pub count_box : (a : ℕ) → a < 64 → count_of fresh a ≡ 0
  count_box a la = count_is fresh a ∙ ap count_in (chain_box a (omega arith) (λ e. omega arith))

  only_free : (a k : ℕ) → a < 65 → k < count_of fresh a → (a ≡ 64) × (k < 128)
  only_free a k la lk =
      elim (cases_eq a 64) [
        | inl e ↦ (e, grind (arith, count_is fresh 64, chain_free))
        | inr q ↦ absurd (grind (arith, count_is fresh a, chain_box))
      ]

module _ (next : List ℕ) (links : (k : ℕ) → k < 127 → get_or next k 0 ≡ k + 1) where
  cell_is : (k : ℕ) → k < 128 → cell (fresh next) 64 k ≡ k
  cell_is zero lk = ap head_in chain_free
  cell_is (suc k) lk =
      let e : k + 1 ≡ suc k = omega arith in
      ap (λ i. get_or next i 0) (cell_is k (omega arith)) ∙ links k (omega arith) ∙ e

  pub below_fresh : Below (fresh next)
  below_fresh a k la lk = let p = only_free next a k la lk in grind (arith, p.0, cell_is k p.1)

  pub apart_fresh : Apart (fresh next)
  apart_fresh w e =
      let p = only_free next w.a w.k w.a_low w.k_low in
      let q = only_free next w.c w.j w.c_low w.j_low in
      (grind (arith, p.0, q.0), grind (arith, p.0, q.0, cell_is w.k p.1, cell_is w.j q.1))

  pub ends_fresh : Ends (fresh next)
  ends_fresh a la u e =
      elim (cases_eq a 64) [
        | inl h ↦ (grind (arith, chain_free), grind (arith, chain_free, cell_is 127 (omega arith)))
        | inr q ↦ absurd (grind (arith, chain_box))
      ]
