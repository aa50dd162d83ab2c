-- Families of names.
--   no_ident        what stands past the last name
--   Named n ns     one of the names ns is the name of n
--   Once ns        no name stands twice among ns
--   Beyond ws x    x is a name after the words ws, and its family has no room
--   Second ws x    x is a name after the words ws that stands in its family before
-- Family ws ns limit says that after the words ws stands the next name of a family that has the names ns and room for limit.
use Rattle.std.specs.Prelude.{◌≡◌, ℕ, ◌<◌, ◌≤◌, List, [], length, slice_index_or}
use Rattle.words.specs.declared.name.Ident.{Ident}
use Rattle.words.specs.Signs.{Sign}
use Rattle.words.specs.Signs as s

abbrev pub no_ident : Ident
no_ident = record { place = 0; name = record { len = 0; bytes = [] } }

abbrev pub Named : Ident → List Ident → Type 0
Named n ns = (i : ℕ) × (i < length ns) × ((slice_index_or ns i no_ident).name ≡ n.name)

abbrev pub Once : List Ident → Type 0
Once ns = (i j : ℕ) → i < length ns → j < length ns → (slice_index_or ns i no_ident).name ≡ (slice_index_or ns j no_ident).name → i ≡ j

module _ (Family : List Sign → List Ident → ℕ → Type 0) where
  abbrev pub Beyond : List Sign → Sign → Type 0
  Beyond ws x = (n : Ident) × (ns : List Ident) × (limit : ℕ) × (x ≡ s.Name n) × Family ws ns limit × (limit ≤ length ns)

  abbrev pub Second : List Sign → Sign → Type 0
  Second ws x = (n : Ident) × (ns : List Ident) × (limit : ℕ) × (x ≡ s.Name n) × Family ws ns limit × Named n ns
