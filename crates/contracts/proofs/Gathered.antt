-- Contracts gathered one by one, and what a fault of their tables says of what is written.
use Rattle.std.proofs.Common.{◌≡◌, ℕ, ◌+◌, ◌<◌, ◌≤◌, List, [], ◌∷◌, ◌++◌, length, get_or, take, Ok, Err, Result, sym, ap, ◌∙◌, subst, ap₂, arith, length-take, MatchResult}
use Rattle.std.proofs.lemmas.List.{get_or_read, length-map, take_more, map-append}
use Rattle.contracts.specs.declared.broken.Broken.{Broken}
use Rattle.contracts.specs.declared.broken.Broken.TheVariants as b
use Rattle.contracts.specs.declared.contract.Contract.{Contract}
use Rattle.contracts.specs.declared.declaration.Declaration.{Declaration}
use Rattle.contracts.specs.declared.declaration.Written.{Written}
use Rattle.contracts.specs.declared.set.ContractSet.{ContractSet}
use Rattle.contracts.specs.declared.table.Table.{Table}
use Rattle.contracts.specs.Acceptance.{Accepted, Breaks, BreaksTable, Gathered, Marked, Tabled, tables_of}
use Rattle.contracts.specs.Tables.{blank}
use Rattle.contracts.specs.View.{tables_in}

-- one contract more has one table more
pub gathered-more : (ks ks' : List Contract) (k : Contract) (ts : List Table) (i : ℕ) (t : Table) → i < length ts → t ≡ get_or ts i t
    → tables_of ks ≡ take i ts → ks' ≡ ks ++ k ∷ [] → k.table ≡ t → tables_of ks' ≡ take (i + 1) ts
gathered-more ks ks' k ts i t m read so_far more new =
    ap tables_of more ∙ map-append (λ (k : Contract). k.table) ks (k ∷ [])
    ∙ ap₂ (λ (xs : List Table) (x : Table). xs ++ x ∷ []) so_far (new ∙ get_or_read ts i t m read blank)
    ∙ sym (take_more ts i blank m)

-- as many contracts as tables
pub gathered-length : (ks : List Contract) (ts : List Table) (i : ℕ) → tables_of ks ≡ take i ts → length ks ≤ i
gathered-length ks ts i e = let l : length (tables_of ks) ≤ i = simp (e, length-take) (omega arith) in simp length-map at l

module _ (ds : List Declaration) (ws : List Written) (marked : Marked ds ws) (ts : List Table) (tabled : Tabled ds ws ts) where
  -- a rule that the tables break is broken by what is written
  breaks-from : (x : Broken) → BreaksTable ts x → Breaks ds ws x
  breaks-from (b.WrongMark i) f = absurd f
  breaks-from (b.SecondMove i) f = absurd f
  breaks-from (b.MixedMarks i) f = absurd f
  breaks-from (b.Unreachable k s) f = (marked, (ts, tabled, f))
  breaks-from (b.OneWayCycle k s) f = (marked, (ts, tabled, f))
  breaks-from (b.SilentEnd k m) f = (marked, (ts, tabled, f))

  pub accepted-from : (r : Result ContractSet Broken) → MatchResult r (λ set. (tables_in set ≡ ts) × Gathered ts) (BreaksTable ts)
      → MatchResult r (λ set. Accepted ds ws (tables_in set)) (Breaks ds ws)
  accepted-from (Ok set) (same, gathered) =
      subst (Accepted ds ws) (sym same) (record { marked = marked; tabled = tabled; gathered = gathered })
  accepted-from (Err x) f = breaks-from x f
