-- Tables in chains. A chain is told by its first cell, and each further cell by the link of the one before it.
--   count_in o, head_in o, tail_in o      how many cells there are in a chain that may have none, the first and the last of them
--   counts s                              how many cells each chain has
--   count_of s a                          how many cells chain a has
--   reach next i k                        the cell that k links lead to from cell i
--   cell s a k                            the k-th cell of chain a
--   Below s                               each cell of a chain is one of the 128
--   Places s                              two places in chains
--   Apart s                               no cell stands at two places
--   Ends s                                each chain that there is has cells, and its tail is the last of them
--   Linked o p next o' next'              chain p stands behind chain o, or in its place where that has no cells
--   Moved s f t n s'                      the first n cells of chain f stand behind those of chain t, in their order
--   Same s b s'                           the chain of every box but b is as it was
--   Cleared s b s'                        the chain of box b has no cell any more
use Rattle.std.specs.Prelude.{◌≡◌, ℕ, zero, suc, ◌+◌, ◌-◌, ◌<◌, List, ◌≢◌, Option, Some, None, map, slice_index, slice_index_or, slice_set}
use Rattle.std.specs.Option.{ForSome}
use Rattle.chained.specs.declared.links.Chain.{Chain}
use Rattle.chained.specs.declared.links.Tables.{Tables}

abbrev pub count_in : Option Chain → ℕ
count_in None = 0
count_in (Some u) = u.count

abbrev pub head_in : Option Chain → ℕ
head_in None = 0
head_in (Some u) = u.head

abbrev pub tail_in : Option Chain → ℕ
tail_in None = 0
tail_in (Some u) = u.tail

abbrev pub counts : Tables → List ℕ
counts s = map count_in s.chains

abbrev pub count_of : Tables → ℕ → ℕ
count_of s a = slice_index (counts s) a

abbrev pub reach : List ℕ → ℕ → ℕ → ℕ
reach next i zero = i
reach next i (suc k) = slice_index next (reach next i k)

abbrev pub cell : Tables → ℕ → ℕ → ℕ
cell s a k = reach s.next (head_in (slice_index_or s.chains a None)) k

abbrev pub Below : Tables → Type 0
Below s = (a k : ℕ) → a < 65 → k < count_of s a → cell s a k < 128

pub record Places (s : Tables) : Type 0 where
  pub a : ℕ
  pub k : ℕ
  pub c : ℕ
  pub j : ℕ
  pub a_low : a < 65
  pub k_low : k < count_of s a
  pub c_low : c < 65
  pub j_low : j < count_of s c

abbrev pub Apart : Tables → Type 0
Apart s = (w : Places s) → cell s w.a w.k ≡ cell s w.c w.j → (w.a ≡ w.c) × (w.k ≡ w.j)

abbrev pub Ends : Tables → Type 0
Ends s = (a : ℕ) → a < 65 → ForSome (slice_index_or s.chains a None) (λ u. (0 < u.count) × (u.tail ≡ cell s a (u.count - 1)))

abbrev pub Linked : Option Chain → Chain → List ℕ → Option Chain → List ℕ → Type 0
Linked None p next o' next' = (o' ≡ Some p) × (next' ≡ next)
Linked (Some u) p next o' next' = (o' ≡ Some (record { head = u.head; tail = p.tail; count = u.count + p.count })) × (next' ≡ slice_set next u.tail p.head)

pub record Moved (s : Tables) (f t n : ℕ) (s' : Tables) : Type 0 where
  pub left : count_of s' f ≡ count_of s f - n
  pub more : count_of s' t ≡ count_of s t + n
  pub kept : (a : ℕ) → (a ≢ f) → (a ≢ t) → count_of s' a ≡ count_of s a
  pub other : (a k : ℕ) → a < 65 → (a ≢ f) → (a ≢ t) → k < count_of s a → cell s' a k ≡ cell s a k
  pub front : (k : ℕ) → k + n < count_of s f → cell s' f k ≡ cell s f (k + n)
  pub back : (k : ℕ) → k < count_of s t → cell s' t k ≡ cell s t k
  pub joined : (k : ℕ) → k < n → cell s' t (count_of s t + k) ≡ cell s f k

abbrev pub Same : Tables → ℕ → Tables → Type 0
Same s b s' =
    (a : ℕ) → a < 64 → (a ≢ b) → (count_of s' a ≡ count_of s a) × ((k : ℕ) → k < count_of s a → cell s' a k ≡ cell s a k)

pub record Cleared (s : Tables) (b : ℕ) (s' : Tables) : Type 0 where
  pub none : count_of s' b ≡ 0
  pub same : Same s b s'
