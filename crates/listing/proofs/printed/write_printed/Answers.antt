use Rattle.std.proofs.Common.{◌≡◌, ℕ, ◌∙◌, List, ◌++◌, take, drop, refl, sym, ap, append_assoc}
use Rattle.std.proofs.Output.{has_written_append, has_written_of_eq}
use Rattle.std.proofs.lemmas.List.{map-append, take-append-drop}
use Rattle.listing.specs.Lines.{printed_byte}
use Rattle.listing.proofs.printed.write_printed.Goals as goal

joined : (front rest a b : List ℕ) (n : ℕ) → a ≡ take n rest → b ≡ drop n rest → (front ++ a) ++ b ≡ front ++ rest
joined front rest a b n e h = append_assoc front a b ∙ ap (λ l. front ++ l) ((λ i. e i ++ h i) ∙ take-append-drop n rest)

pub loop-rest-preserved : goal.loop-rest-preserved
loop-rest-preserved g c =
    let before = c.loop-rest.invariant in
    let piece = c.split_at.result.0.now in (
      before.0 ++ piece,
      joined before.0 c.loop-rest.rest.now piece _ _ c.split_at.ensures.front c.split_at.ensures.back ∙ before.1,
      λ plain.
          let written = before.2 plain in
          has_written_of_eq _ _ _ _ _ (sym (map-append (printed_byte c.args.line_end) before.0 piece)) (has_written_append _ _ _ _ _ _ written (c.in_ok-write_piece.ensures written.plain refl)),
    )
