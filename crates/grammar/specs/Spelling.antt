-- The words of lists.
--   each f xs     the words of each element of xs, one after the other
use Rattle.std.specs.Prelude.{List, [], ◌∷◌, ◌++◌}
use Rattle.words.specs.Signs.{Sign}

abbrev pub each : {X : Type 0} → (X → List Sign) → List X → List Sign
each f [] = []
each f (x ∷ xs) = f x ++ each f xs
