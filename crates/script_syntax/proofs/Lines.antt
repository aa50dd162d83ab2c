-- An instruction whose operands are read, one after the other, is the one that its word and these operands say.
--   Small, Far, Called     the number, the distance or the name that stands next
--   Read                   the operands of an instruction lead to its end
--   one, two, three, four  as many operands, one after the other
use Rattle.std.proofs.Common.{◌≡◌, ℕ, List, [], ◌∷◌, pos, negsuc, Ok, ap, ◌∙◌}
use Rattle.words.specs.declared.name.Ident.{Ident}
use Rattle.words.specs.Signs.{Sign}
use Rattle.words.specs.Signs as s
use Rattle.grammar.specs.declared.feed.Feed.{Feed}
use Rattle.grammar.specs.Feeds.{Fetches}
use Rattle.grammar.specs.Table.{in_name}
use Rattle.script_syntax.specs.declared.opcode.Opcode.{Opcode}
use Rattle.script_syntax.specs.declared.opcode.Opcode.TheVariants as o
use Rattle.script_syntax.specs.declared.tree.Distance.{Distance}
use Rattle.script_syntax.specs.declared.tree.Statement.{Statement}
use Rattle.script_syntax.specs.declared.tree.Statement.TheVariants as t
use Rattle.script_syntax.specs.Grammar.{typed, distance_of}
use Rattle.script_syntax.specs.Machine.{Progress, reading}
use Rattle.script_syntax.specs.Machine as q
use Rattle.script_syntax.specs.Numbers.{natural_of, value_of}
use Rattle.script_syntax.specs.Opcodes.{Kind, kinds}
use Rattle.script_syntax.specs.Picks.{Counts}
use Rattle.script_syntax.proofs.Operands.{Step, by_name, by_number, closes}

abbrev Small : ℕ → Feed → ℕ → Feed → Type 0
Small most a x b = Counts (λ n. natural_of (value_of n.bytes)) (pos 0) (pos most) a (Ok x) b

abbrev Far : Feed → Distance → Feed → Type 0
Far a x b = Counts distance_of (negsuc 126) (pos 127) a (Ok x) b

abbrev Called : Feed → Ident → Feed → Type 0
Called a n b = Fetches 1 in_name a (Ok n) b

abbrev Read : Opcode → Progress → Feed → Statement → Feed → Type 0
Read op p a y b = reading (q.operands p op [] (kinds op)) a ≡ reading (q.closing p y) b

module _ (op : Opcode) (p : Progress) (y : Statement) where
  last : (xs : List Sign) (a : Feed) → typed op xs ≡ y → reading (q.operands p op xs []) a ≡ reading (q.closing p y) a
  last xs a e = closes a p op xs ∙ ap (λ v. reading (q.closing p v) a) e

  one : {i : Kind} {x : Sign} {a b : Feed} → Step i x a b → typed op (x ∷ []) ≡ y → reading (q.operands p op [] (i ∷ [])) a ≡ reading (q.closing p y) b
  one {i} {x} {a} {b} s e = s.goes p op _ _ ∙ last (x ∷ []) b e

  two : {i j : Kind} {x z : Sign} {a b c : Feed} → Step i x a b → Step j z b c → typed op (x ∷ z ∷ []) ≡ y → reading (q.operands p op [] (i ∷ j ∷ [])) a ≡ reading (q.closing p y) c
  two {i} {j} {x} {z} {a} {b} {c} s t e = s.goes p op _ _ ∙ t.goes p op _ _ ∙ last (x ∷ z ∷ []) c e

  three : {i j k : Kind} {x z w : Sign} {a b c d : Feed} → Step i x a b → Step j z b c → Step k w c d → typed op (x ∷ z ∷ w ∷ []) ≡ y
      → reading (q.operands p op [] (i ∷ j ∷ k ∷ [])) a ≡ reading (q.closing p y) d
  three {i} {j} {k} {x} {z} {w} {a} {b} {c} {d} s t u e = s.goes p op _ _ ∙ t.goes p op _ _ ∙ u.goes p op _ _ ∙ last (x ∷ z ∷ w ∷ []) d e

  four : {i j k l : Kind} {x z w v : Sign} {a b c d f : Feed} → Step i x a b → Step j z b c → Step k w c d → Step l v d f → typed op (x ∷ z ∷ w ∷ v ∷ []) ≡ y
      → reading (q.operands p op [] (i ∷ j ∷ k ∷ l ∷ [])) a ≡ reading (q.closing p y) f
  four {i} {j} {k} {l} {x} {z} {w} {v} {a} {b} {c} {d} {f} s t u r e = s.goes p op _ _ ∙ t.goes p op _ _ ∙ u.goes p op _ _ ∙ r.goes p op _ _ ∙ last (x ∷ z ∷ w ∷ v ∷ []) f e

pub new_read : (op : Opcode) (p : Progress) (a b : Feed) (x : ℕ) → op ≡ o.New → Small 7 a x b → Read op p a (t.New x) b
new_read op p a b x k h0 =
    let g0 = by_number h0 in
    let same : typed o.New (s.Number g0.n ∷ []) ≡ t.New x = cc in
    rw k (one o.New p (t.New x) g0.step same)

pub put_read : (op : Opcode) (p : Progress) (a b c d : Feed) (x : ℕ) (y : ℕ) (z : ℕ) → op ≡ o.Put → Small 7 a x b → Small 63 b y c → Small 255 c z d → Read op p a (t.Put x y z) d
put_read op p a b c d x y z k h0 h1 h2 =
    let g0 = by_number h0 in
    let g1 = by_number h1 in
    let g2 = by_number h2 in
    let same : typed o.Put (s.Number g0.n ∷ s.Number g1.n ∷ s.Number g2.n ∷ []) ≡ t.Put x y z = cc in
    rw k (three o.Put p (t.Put x y z) g0.step g1.step g2.step same)

pub free_read : (op : Opcode) (p : Progress) (a b : Feed) (x : ℕ) → op ≡ o.Free → Small 7 a x b → Read op p a (t.Free x) b
free_read op p a b x k h0 =
    let g0 = by_number h0 in
    let same : typed o.Free (s.Number g0.n ∷ []) ≡ t.Free x = cc in
    rw k (one o.Free p (t.Free x) g0.step same)

pub open_read : (p : Progress) (a b c d : Feed) (x : Ident) (y : ℕ) (z : ℕ) → Called a x b → Small 7 b y c → Small 7 c z d → Read o.Open p a (t.Open x y z) d
open_read p a b c d x y z h0 h1 h2 =
    let g1 = by_number h1 in
    let g2 = by_number h2 in
    let same : typed o.Open (s.Name x ∷ s.Number g1.n ∷ s.Number g2.n ∷ []) ≡ t.Open x y z = cc in
    three o.Open p (t.Open x y z) (by_name h0) g1.step g2.step same

pub close_read : (op : Opcode) (p : Progress) (a b : Feed) (x : ℕ) → op ≡ o.Close → Small 7 a x b → Read op p a (t.Close x) b
close_read op p a b x k h0 =
    let g0 = by_number h0 in
    let same : typed o.Close (s.Number g0.n ∷ []) ≡ t.Close x = cc in
    rw k (one o.Close p (t.Close x) g0.step same)

pub send_read : (p : Progress) (a b c d : Feed) (x : ℕ) (y : Ident) (z : Ident) → Small 7 a x b → Called b y c → Called c z d → Read o.Send p a (t.Send x y z) d
send_read p a b c d x y z h0 h1 h2 =
    let g0 = by_number h0 in
    let same : typed o.Send (s.Number g0.n ∷ s.Name y ∷ s.Name z ∷ []) ≡ t.Send x y z = cc in
    three o.Send p (t.Send x y z) g0.step (by_name h1) (by_name h2) same

pub pass_read : (p : Progress) (a b c d e : Feed) (x : ℕ) (y : Ident) (z : Ident) (w : ℕ) → Small 7 a x b → Called b y c → Called c z d → Small 7 d w e → Read o.Pass p a (t.Pass x y z w) e
pass_read p a b c d e x y z w h0 h1 h2 h3 =
    let g0 = by_number h0 in
    let g3 = by_number h3 in
    let same : typed o.Pass (s.Number g0.n ∷ s.Name y ∷ s.Name z ∷ s.Number g3.n ∷ []) ≡ t.Pass x y z w = cc in
    four o.Pass p (t.Pass x y z w) g0.step (by_name h1) (by_name h2) g3.step same

pub receive_read : (op : Opcode) (p : Progress) (a b c : Feed) (x : ℕ) (y : ℕ) → op ≡ o.Receive → Small 7 a x b → Small 7 b y c → Read op p a (t.Receive x y) c
receive_read op p a b c x y k h0 h1 =
    let g0 = by_number h0 in
    let g1 = by_number h1 in
    let same : typed o.Receive (s.Number g0.n ∷ s.Number g1.n ∷ []) ≡ t.Receive x y = cc in
    rw k (two o.Receive p (t.Receive x y) g0.step g1.step same)

pub case_read : (p : Progress) (a b c d : Feed) (x : Ident) (y : Ident) (z : Distance) → Called a x b → Called b y c → Far c z d → Read o.Case p a (t.Case x y z) d
case_read p a b c d x y z h0 h1 h2 =
    let g2 = by_number h2 in
    let same : typed o.Case (s.Name x ∷ s.Name y ∷ s.Number g2.n ∷ []) ≡ t.Case x y z = cc in
    three o.Case p (t.Case x y z) (by_name h0) (by_name h1) g2.step same

pub lost_read : (op : Opcode) (p : Progress) (a b : Feed) (x : Distance) → op ≡ o.Lost → Far a x b → Read op p a (t.Lost x) b
lost_read op p a b x k h0 =
    let g0 = by_number h0 in
    let same : typed o.Lost (s.Number g0.n ∷ []) ≡ t.Lost x = cc in
    rw k (one o.Lost p (t.Lost x) g0.step same)

pub jump_read : (op : Opcode) (p : Progress) (a b : Feed) (x : Distance) → op ≡ o.Jump → Far a x b → Read op p a (t.Jump x) b
jump_read op p a b x k h0 =
    let g0 = by_number h0 in
    let same : typed o.Jump (s.Number g0.n ∷ []) ≡ t.Jump x = cc in
    rw k (one o.Jump p (t.Jump x) g0.step same)

pub end_read : (op : Opcode) (p : Progress) (a : Feed) → op ≡ o.End → Read op p a t.End a
end_read op p a k = rw k (closes a p o.End [])
