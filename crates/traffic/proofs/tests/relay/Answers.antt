use Rattle.std.proofs.Common.{◌≡◌, ℕ, false, List, [], ◌∷◌, ◌++◌, length, set, Ok, sym, refl, ap, ◌∙◌}
use Rattle.std.proofs.lemmas.List.{set-set, set-get_or}
use Rattle.std.proofs.lemmas.Bool.{true≢false}
use Rattle.carriers.specs.declared.message.Message.{Message}
use Rattle.carriers.specs.Boxes.{Box, closed, holding, is_open, queue_of, box_at}
use Rattle.carriers.specs.Calls.{Opened, Put, Taken, Closed}
use Rattle.carriers.proofs.Effects.{box_here, boxes_length}
use Rattle.traffic.proofs.tests.relay.Goals as goal

closed_box : (x : Box) → is_open x ≡ false → closed ≡ x
closed_box closed e = refl
closed_box (holding l ms) e = absurd (true≢false e)

relayed : (pool b : ℕ) (bs b₁ b₂ b₃ b₄ b₅ : List Box) (x y m : Message) → length bs ≡ 64 → is_open (box_at bs b) ≡ false → Opened pool bs b 2 b₁ → Put b₁ b x b₂ → Put b₂ b y b₃ → Taken b₃ b m b₄ → Closed b₄ b b₅ → (m ≡ x) × (b₅ ≡ bs)
relayed pool b bs b₁ b₂ b₃ b₄ b₅ x y m long shut o p r t c =
    let l₁ : length b₁ ≡ 64 = boxes_length bs b₁ b _ o.after ∙ long in
    let l₂ : length b₂ ≡ 64 = boxes_length b₁ b₂ b _ p.after ∙ l₁ in
    let q₁ : queue_of (box_at b₁ b) ≡ [] = ap queue_of (box_here bs b₁ b _ long o.numbered o.after) in
    let q₂ : queue_of (box_at b₂ b) ≡ x ∷ [] = ap queue_of (box_here b₁ b₂ b _ l₁ o.numbered p.after) ∙ ap (λ q. q ++ x ∷ []) q₁ in
    let q₃ : queue_of (box_at b₃ b) ≡ x ∷ y ∷ [] = ap queue_of (box_here b₂ b₃ b _ l₂ o.numbered r.after) ∙ ap (λ q. q ++ y ∷ []) q₂ in
    let front : x ∷ y ∷ [] ≡ m ∷ _ = sym q₃ ∙ t.first in (
      cc front,
      c.after
          ∙ ap (λ z. set z b closed) t.after ∙ set-set b₃ b _ closed
          ∙ ap (λ z. set z b closed) r.after ∙ set-set b₂ b _ closed
          ∙ ap (λ z. set z b closed) p.after ∙ set-set b₁ b _ closed
          ∙ ap (λ z. set z b closed) o.after ∙ set-set bs b _ closed
          ∙ ap (set bs b) (closed_box (box_at bs b) shut) ∙ set-get_or bs b closed,
    )

pub returns : goal.returns
returns g c =
    let kept = g.met.C.Carrier.kept c.args.carrier.now in
    record {
      done = λ numbered shut room ranged ranged'.
          (let z =
          relayed g.C.Carrier.POOL c.args.b _ _ _ _ _ _ c.args.first c.args.second c.in_ok-taken.taken kept.count shut
          c.in_ok-open.ensures.done c.in_ok-put.ensures.done c.in_ok-put-2.ensures.done c.in_ok-taken.ensures.done c.in_ok-close.ensures.done in
          (ap Ok z.0, z.1));
    }
