-- Chains after the first n cells of chain f were linked behind chain t: w is chain f before, and y the last of the n cells.
use Rattle.std.proofs.Common.{◌≡◌, ℕ, zero, suc, ◌+◌, ◌-◌, ◌<◌, ◌≤◌, ◌≢◌, ◌⊎◌, List, Option, Some, None, length, get_or, set, sum, sym, refl, ap, ◌∙◌, inl, inr, arith}
use Rattle.std.proofs.Math.ListN.{get_or-map}
use Rattle.std.proofs.lemmas.List.{get_or-set_other, length-set}
use Rattle.std.proofs.lemmas.List.Sums.{sum_by-set, get_or-le-sum_by, sum-map}
use Rattle.std.proofs.lemmas.Grind.{common_steps}
use Rattle.std.proofs.lemmas.Bool.{cases_eq, cases_lt}
use Rattle.chained.specs.declared.links.Chain.{Chain}
use Rattle.chained.specs.declared.links.Tables.{Tables}
use Rattle.chained.specs.declared.links.Links.{Links}
use Rattle.chained.specs.Chains.{count_in, head_in, tail_in, counts, count_of, cell, Below, Apart, Ends, Linked, Moved}

-- Where the cell y was, which is at the place k of chain a: of the places that were before, only that one is here now.
record Old (c : Tables) (f t n y a k : ℕ) : Type 0 where
  a₀ : ℕ
  k₀ : ℕ
  a_low : a₀ < 65
  k_low : k₀ < count_of c a₀
  is : y ≡ cell c a₀ k₀
  gone : a₀ ≡ f → k₀ < n → (a ≡ t) × (k ≡ count_of c t + k₀)
  left : a₀ ≡ f → n ≤ k₀ → (a ≡ f) × (k + n ≡ k₀)
  kept : a₀ ≢ f → (a ≡ a₀) × (k ≡ k₀)

-- how many cells a chain has, told by the chain itself
pub count_is : (c : Tables) (a : ℕ) → count_of c a ≡ count_in (get_or c.chains a None)
count_is c a = get_or-map count_in c.chains a None

tail_below : (l : Links) (a : ℕ) → a < 65 → (o : Option Chain) → get_or l.tables.chains a None ≡ o → tail_in o < 128
tail_below l a la None is = omega arith
tail_below l a la (Some u) is =
    let e = l.ends a la u is in
    omega (arith, e.0, e.1, l.below a (u.count - 1) la (omega (arith, count_is l.tables a, ap count_in is, e.0)))

pub tail_low : (l : Links) (a : ℕ) → a < 65 → tail_in (get_or l.tables.chains a None) < 128
tail_low l a la = tail_below l a la (get_or l.tables.chains a None) refl

-- two chains together have no more cells than there are
pub count_fits : (l : Links) (f t : ℕ) → f < 65 → t < 65 → f ≢ t → count_of l.tables f + count_in (get_or l.tables.chains t None) ≤ 128
count_fits l f t lf lt ne =
    let i₁ : t < length l.tables.chains = omega (arith, l.sizes.1) in
    let i₂ : f < length (set l.tables.chains t None) = omega (arith, l.sizes.1, length-set l.tables.chains t None) in
    omega (
      arith,
      l.total,
      sum-map count_in l.tables.chains,
      count_is l.tables f,
      sum_by-set count_in l.tables.chains t None None i₁,
      get_or-le-sum_by count_in (set l.tables.chains t None) f None i₂,
      ap count_in (get_or-set_other l.tables.chains t f None None ne),
    )

-- What linking chain p behind chain t makes: no link changes, or only that of the last cell of chain t.
record Joint (c : Tables) (t : ℕ) (p : Chain) (o' : Option Chain) (next' : List ℕ) : Type 0 where
  head : ℕ
  is : o' ≡ Some (record { head = head; tail = p.tail; count = count_of c t + p.count })
  how : ((count_of c t ≡ 0) × (head ≡ p.head) × (next' ≡ c.next)) ⊎
      ((0 < count_of c t) × (head ≡ cell c t 0) × (next' ≡ set c.next (cell c t (count_of c t - 1)) p.head))

joint_at : (c : Tables) (t : ℕ) (p : Chain) (o' : Option Chain) (next' : List ℕ) → t < 65 → Ends c → (o : Option Chain) → get_or c.chains t None ≡ o → Linked o p c.next o' next' → Joint c t p o' next'
joint_at c t p o' next' lt ends None is b =
    let none : count_of c t ≡ 0 = count_is c t ∙ ap count_in is in
    let n : p.count ≡ count_of c t + p.count = omega (arith, none) in
    record { head = p.head; is = b.0 ∙ ap (λ k. Some (record { head = p.head; tail = p.tail; count = k })) n; how = inl (none, refl, b.1) }
joint_at c t p o' next' lt ends (Some u) is b =
    let e = ends t lt u is in
    let some : u.count ≡ count_of c t = sym (count_is c t ∙ ap count_in is) in
    record {
      head = u.head;
      is = b.0 ∙ ap (λ k. Some (record { head = u.head; tail = p.tail; count = k + p.count })) some;
      how = inr (omega (arith, some, e.0), sym (ap head_in is), b.1 ∙ ap (λ s. set c.next s p.head) (e.1 ∙ ap (λ k. cell c t (k - 1)) some));
    }

-- what links need after it
pub record Relinked (l : Links) (f t n : ℕ) (c : Tables) : Type 0 where
  pub below : Below c
  pub apart : Apart c
  pub ends : Ends c
  pub total : sum (counts c) ≡ 128
  pub moved : Moved l.tables f t n c

module _ (l : Links) (f t n y : ℕ) (w : Chain) (lf : f < 65) (lt : t < 65) (ne : f ≢ t) (some : 0 < n) (enough : n ≤ count_of l.tables f)
    (ey : y ≡ cell l.tables f (n - 1)) (is : get_or l.tables.chains f None ≡ Some w)
    (r : Option Chain) (none : w.count ≤ n → r ≡ None)
    (left : n < w.count → r ≡ Some (record { head = get_or l.tables.next y 0; tail = w.tail; count = w.count - n }))
    (o : Option Chain) (next' : List ℕ) (linked : Linked (get_or l.tables.chains t None) (record { head = w.head; tail = y; count = n }) l.tables.next o next') where
  abbrev N : ℕ → ℕ → ℕ
  N a k = cell l.tables a k

  abbrev size : ℕ → ℕ
  size a = count_of l.tables a

  abbrev part : Chain
  part = record { head = w.head; tail = y; count = n }

  abbrev chains : List (Option Chain)
  chains = l.tables.chains

  abbrev new : Tables
  new = record { next = next'; chains = set (set chains f r) t o }

  abbrev N' : ℕ → ℕ → ℕ
  N' a k = cell new a k

  ne' : t ≢ f
  ne' e = ne (sym e)

  apart : (a k b i : ℕ) → a < 65 → k < size a → b < 65 → i < size b → N a k ≡ N b i → (a ≡ b) × (k ≡ i)
  apart a k b i p q u v e =
      l.apart (record { a = a; k = k; c = b; j = i; a_low = p; k_low = q; c_low = u; j_low = v }) e

  size_from : size f ≡ w.count
  size_from = count_is l.tables f ∙ ap count_in is

  first : N f 0 ≡ w.head
  first = ap head_in is

  joint : Joint l.tables t part o next'
  joint = joint_at l.tables t part o next' lt l.ends (get_or chains t None) refl linked

  -- the chains after it
  chain_other : (a : ℕ) → a ≢ f → a ≢ t → get_or new.chains a None ≡ get_or chains a None
  chain_other a nf nt = let k = l.sizes.1 in grind (arith, common_steps)

  chain_from : get_or new.chains f None ≡ r
  chain_from = let k = l.sizes.1 in grind (arith, common_steps)

  chain_to : get_or new.chains t None ≡ o
  chain_to = let k = l.sizes.1 in grind (arith, common_steps)

  count_rest : count_in r ≡ size f - n
  count_rest = elim (cases_lt n w.count) [
    | inl q ↦ grind (arith, size_from, left q)
    | inr q ↦ grind (arith, size_from, none)
  ]

  count-other : (a : ℕ) → a ≢ f → a ≢ t → count_of new a ≡ size a
  count-other a nf nt = count_is new a ∙ ap count_in (chain_other a nf nt) ∙ sym (count_is l.tables a)

  count-from : count_of new f ≡ size f - n
  count-from = count_is new f ∙ ap count_in chain_from ∙ count_rest

  count-to : count_of new t ≡ size t + n
  count-to = count_is new t ∙ ap count_in chain_to ∙ ap count_in joint.is

  -- the links of all cells but the last of chain t are kept
  keep : (a k : ℕ) → a < 65 → k < size a → (a ≡ t → k + 1 < size t) → get_or next' (N a k) 0 ≡ get_or l.tables.next (N a k) 0
  keep a k la lk nt =
      elim joint.how [
        | inl v ↦ ap (λ s. get_or s (N a k) 0) v.2
        | inr v ↦
            (let off : N a k ≢ N t (size t - 1) = (λ e. let p = apart a k t (size t - 1) la lk lt (omega arith) e in omega (arith, p.1, nt p.0)) in
            grind (arith, common_steps, v.2))
      ]

  -- the cells of the new chains
  other : (a k : ℕ) → a < 65 → a ≢ f → a ≢ t → k < size a → N' a k ≡ N a k
  other a zero la nf nt lk = ap head_in (chain_other a nf nt)
  other a (suc k) la nf nt lk =
      ap (λ i. get_or next' i 0) (other a k la nf nt (omega arith)) ∙ keep a k la (omega arith) (λ e. absurd (nt e))

  front : (k : ℕ) → k + n < size f → N' f k ≡ N f (k + n)
  front zero lk =
      let e : suc (n - 1) ≡ 0 + n = omega arith in
      ap head_in (chain_from ∙ left (omega (arith, size_from))) ∙ ap (λ i. get_or l.tables.next i 0) ey ∙ ap (N f) e
  front (suc k) lk =
      let e : suc (k + n) ≡ suc k + n = omega arith in
      ap (λ i. get_or next' i 0) (front k (omega arith)) ∙ keep f (k + n) lf (omega arith) (λ q. absurd (ne q)) ∙ ap (N f) e

  back : (k : ℕ) → k < size t → N' t k ≡ N t k
  back zero lk =
      elim joint.how [
        | inl v ↦ absurd (omega (arith, v.0))
        | inr v ↦ ap head_in (chain_to ∙ joint.is) ∙ v.1
      ]
  back (suc k) lk = ap (λ i. get_or next' i 0) (back k (omega arith)) ∙ keep t k lt (omega arith) (λ _. omega arith)

  meet : N' t (size t) ≡ w.head
  meet =
      elim joint.how [
        | inl v ↦ ap (N' t) v.0 ∙ ap head_in (chain_to ∙ joint.is) ∙ v.1
        | inr v ↦
            (let i = size t - 1 in
            let e : size t ≡ suc i = omega (arith, v.0) in
            let low : N t i < length l.tables.next = omega (arith, l.below t i lt (omega (arith, v.0)), l.sizes.0) in
            let b = back i (omega (arith, v.0)) in
            ap (N' t) e ∙ grind (arith, common_steps, v.2, b))
      ]

  joined : (k : ℕ) → k < n → N' t (size t + k) ≡ N f k
  joined zero lk = let e : size t + 0 ≡ size t = omega arith in ap (N' t) e ∙ meet ∙ sym first
  joined (suc k) lk =
      let e : size t + suc k ≡ suc (size t + k) = omega arith in
      ap (N' t) e ∙ ap (λ i. get_or next' i 0) (joined k (omega arith)) ∙ keep f k lf (omega arith) (λ q. absurd (ne q))

  old : (a k : ℕ) → a < 65 → k < count_of new a → Old l.tables f t n (N' a k) a k
  old a k la lk =
      elim (cases_eq a f) [
        | inl af ↦
            (let m : k + n < size f = omega (arith, count-from, ap (count_of new) af) in
            record {
              a₀ = f;
              k₀ = k + n;
              a_low = lf;
              k_low = m;
              is = ap (λ z. N' z k) af ∙ front k m;
              gone = λ _ h. absurd (omega arith);
              left = λ _ _. (af, refl);
              kept = λ q. absurd (q refl);
            })
        | inr nf ↦
            (elim (cases_eq a t) [
              | inl here ↦
                  (elim (cases_lt k (size t)) [
                    | inl m ↦
                        record {
                          a₀ = t;
                          k₀ = k;
                          a_low = lt;
                          k_low = m;
                          is = ap (λ z. N' z k) here ∙ back k m;
                          gone = λ e _. absurd (ne' e);
                          left = λ e _. absurd (ne' e);
                          kept = λ _. (here, refl);
                        }
                    | inr m ↦
                        (let i = k - size t in
                        let e : k ≡ size t + i = omega arith in
                        let low : i < n = omega (arith, count-to, ap (count_of new) here) in
                        record {
                          a₀ = f;
                          k₀ = i;
                          a_low = lf;
                          k_low = omega arith;
                          is = ap (λ z. N' z k) here ∙ ap (N' t) e ∙ joined i low;
                          gone = λ _ _. (here, e);
                          left = λ _ h. absurd (omega arith);
                          kept = λ q. absurd (q refl);
                        })
                  ])
              | inr nt ↦
                  (let m : k < size a = omega (arith, count-other a nf nt) in
                  record {
                    a₀ = a;
                    k₀ = k;
                    a_low = la;
                    k_low = m;
                    is = other a k la nf nt m;
                    gone = λ e _. absurd (nf e);
                    left = λ e _. absurd (nf e);
                    kept = λ _. (refl, refl);
                  })
            ])
      ]

  below_new : Below new
  below_new a k la lk = let o = old a k la lk in omega (arith, o.is, l.below o.a₀ o.k₀ o.a_low o.k_low)

  apart_new : Apart new
  apart_new p e =
      let o = old p.a p.k p.a_low p.k_low in
      let q = old p.c p.j p.c_low p.j_low in
      let s = apart o.a₀ o.k₀ q.a₀ q.k₀ o.a_low o.k_low q.a_low q.k_low (sym o.is ∙ e ∙ q.is) in
      elim (cases_eq o.a₀ f) [
        | inl af ↦
            (elim (cases_lt o.k₀ n) [
              | inl m ↦ (grind (arith, o.gone, q.gone, s.0, s.1), grind (arith, o.gone, q.gone, s.0, s.1))
              | inr m ↦ (grind (arith, o.left, q.left, s.0, s.1), grind (arith, o.left, q.left, s.0, s.1))
            ])
        | inr nf ↦ (grind (arith, o.kept, q.kept, s.0, s.1), grind (arith, o.kept, q.kept, s.0, s.1))
      ]

  ends_new : Ends new
  ends_new a la u e =
      elim (cases_eq a t) [
        | inl h ↦
            (let i = joined (n - 1) (omega arith) in
            (grind (arith, chain_to, joint.is), grind (arith, chain_to, joint.is, ey, i)))
        | inr nt ↦
            (elim (cases_eq a f) [
              | inl h ↦
                  (elim (cases_lt n w.count) [
                    | inl q ↦
                        (let old = l.ends f lf w is in
                        let i = front (w.count - n - 1) (omega (arith, size_from)) in
                        (grind (arith, chain_from, left), grind (arith, chain_from, left, old.1, i)))
                    | inr q ↦ absurd (grind (arith, chain_from, none, size_from))
                  ])
              | inr nf ↦
                  (let is_old : get_or chains a None ≡ Some u = sym (chain_other a nf nt) ∙ e in
                  let old = l.ends a la u is_old in
                  (old.0, old.1 ∙ sym (other a (u.count - 1) la nf nt (omega (arith, count_is l.tables a, ap count_in is_old, old.0)))))
            ])
      ]

  total_new : sum (counts new) ≡ 128
  total_new =
      let i₁ : f < length chains = omega (arith, l.sizes.1) in
      let i₂ : t < length (set chains f r) = omega (arith, l.sizes.1, length-set chains f r) in
      omega (
        arith,
        l.total,
        sum-map count_in chains,
        sum-map count_in new.chains,
        sum_by-set count_in chains f r None i₁,
        sum_by-set count_in (set chains f r) t o None i₂,
        ap count_in (get_or-set_other chains f t r None ne'),
        ap count_in is,
        size_from,
        count_rest,
        ap count_in joint.is,
        count_is l.tables t,
      )

  pub relinked : Relinked l f t n new
  relinked =
      record {
        below = below_new;
        apart = apart_new;
        ends = ends_new;
        total = total_new;
        moved = record { left = count-from; more = count-to; kept = count-other; other = other; front = front; back = back; joined = joined };
      }
