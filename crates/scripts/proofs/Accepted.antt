-- The scripts of a file that keeps every rule make a set.
--   runnable-from     a statement in its ranges that breaks no rule is runnable, with numbers in place of names
--   sound             so are the scripts of a file
use Rattle.std.proofs.Common.{◌≡◌, ℕ, ◌<◌, ◌≤◌, List, length, get_or, sym, refl, ◌∙◌, subst, inl, inr, arith}
use Rattle.std.proofs.lemmas.Bool.{cases_lt}
use Rattle.words.specs.declared.fault.Span.{Span}
use Rattle.contracts.specs.declared.declaration.Payload.{Payload}
use Rattle.contracts.specs.declared.declaration.Payload.TheVariants as p
use Rattle.contracts.specs.declared.table.Table.{Table}
use Rattle.script_syntax.specs.declared.tree.Statement.{Statement}
use Rattle.script_syntax.specs.declared.tree.Statement.TheVariants as s
use Rattle.script_syntax.specs.Trees.{Distinct, ProcessParts, Ranged, Within}
use Rattle.scripts.specs.declared.instruction.Instruction.{Instruction}
use Rattle.scripts.specs.declared.instruction.Instruction.TheVariants.{End}
use Rattle.scripts.specs.Jumps.{JumpOutside}
use Rattle.scripts.specs.Judgement.{Kept}
use Rattle.scripts.specs.Names.{Resolves}
use Rattle.scripts.specs.Payloads.{Bare, Laden, WrongPayload}
use Rattle.scripts.specs.Places.{statements_of}
use Rattle.scripts.specs.Runnable.{Alike, Place, Runnable, Sound}
use Rattle.scripts.specs.Scripts.{instructions_of, ScriptParts}
use Rattle.scripts.proofs.Opened.{lands}
use Rattle.scripts.proofs.Seen.{no_instruction}

not_laden : (x : Payload) → (Laden x → ⊥) → Bare x
not_laden p.Nothing h = tt
not_laden p.Block h = h tt
not_laden (p.End role c s) h = h tt

not_bare : (x : Payload) → (Bare x → ⊥) → Laden x
not_bare p.Nothing h = h tt
not_bare p.Block h = tt
not_bare (p.End role c s) h = tt

module _ (ts : List Table) (n i : ℕ) where
  pub runnable-from : (x : Statement) (y : Instruction) → Within x → Resolves ts x y → ((sp : Span) → WrongPayload ts x sp → ⊥) → ((sp : Span) → JumpOutside n i x sp → ⊥) → Runnable ts n i y
  runnable-from s.End y w e p j = subst (Runnable ts n i) (sym e) tt
  runnable-from (s.New r) y w e p j = subst (Runnable ts n i) (sym e) w
  runnable-from (s.Put r k b) y w e p j = subst (Runnable ts n i) (sym e) w
  runnable-from (s.Free r) y w e p j = subst (Runnable ts n i) (sym e) w
  runnable-from (s.Open c r t) y w (k, e, of) p j = subst (Runnable ts n i) (sym e) (of.0.0, w.0, w.1)
  runnable-from (s.Close r) y w e p j = subst (Runnable ts n i) (sym e) w
  runnable-from (s.Send f c m) y w (k, q, e, of) p j =
      subst (Runnable ts n i) (sym e) (w, (of.0.0.0, of.1.0.0), not_laden _ (λ full. p _ (refl, (k, q, of, full))))
  runnable-from (s.Pass f c m t) y w (k, q, e, of) p j =
      subst (Runnable ts n i) (sym e) (w.0, w.1, (of.0.0.0, of.1.0.0), not_bare _ (λ empty. p _ (refl, (k, q, of, empty))))
  runnable-from (s.Receive f t) y w e p j = subst (Runnable ts n i) (sym e) w
  runnable-from (s.Case c m d) y w (k, q, e, of) p j = subst (Runnable ts n i) (sym e) ((of.0.0.0, of.1.0.0), w, lands n i d.value (λ no. j _ (refl, no)))
  runnable-from (s.Lost d) y w e p j = subst (Runnable ts n i) (sym e) (w, lands n i d.value (λ no. j _ (refl, no)))
  runnable-from (s.Jump d) y w e p j = subst (Runnable ts n i) (sym e) (w, lands n i d.value (λ no. j _ (refl, no)))

module _ (ts : List Table) (ps : List ProcessParts) (ss : List ScriptParts) (ranged : Ranged ps) (distinct : Distinct ps) (kept : Kept ts ps ss) where
  -- process p of the scripts is one of the file, where it has an instruction
  own : (p i : ℕ) → i < length (instructions_of ss p) → p < length ps
  own p i l = elim (cases_lt p (length ss)) [
    | inl b ↦ omega (arith, kept.scripts.count)
    | inr b ↦ absurd (omega (arith, no_instruction ss p i b))
  ]

  short : (p : ℕ) → length (instructions_of ss p) ≤ 64
  short p = elim (cases_lt p (length ps)) [
    | inl b ↦ omega (arith, (kept.scripts.each p b).instructions.count, ranged.short p)
    | inr b ↦ omega (arith, no_instruction ss p 0 (omega (arith, kept.scripts.count)))
  ]

  one_name : (v : Alike ss) → v.one ≡ v.other
  one_name v =
      let l : v.one < length ps = omega (arith, kept.scripts.count, v.first) in
      let m : v.other < length ps = omega (arith, kept.scripts.count, v.second) in
      distinct v.one v.other l m (sym (kept.scripts.each v.one l).name ∙ v.named ∙ (kept.scripts.each v.other m).name)

  runnable : (v : Place ss) → Runnable ts (length (instructions_of ss v.process)) v.index (get_or (instructions_of ss v.process) v.index End)
  runnable v =
      let p = v.process in
      let i = v.index in
      let l = own p i v.within in
      let all = (kept.scripts.each p l).instructions in
      let m : i < length (statements_of ps p) = omega (arith, all.count, v.within) in
      subst (λ n. Runnable ts n i (get_or (instructions_of ss p) i End)) (sym all.count)
      (runnable-from ts (length (statements_of ps p)) i (get_or (statements_of ps p) i s.End) _ (ranged.within p i m) (all.each i m) (kept.keeps.payloads p l i m) (kept.keeps.jumps p l i m))

  pub sound : Sound ts ss
  sound = record {
    some = omega (arith, kept.scripts.count, ranged.some);
    few = omega (arith, kept.scripts.count, ranged.few);
    short = short;
    one_name = one_name;
    runnable = λ v. ∣ runnable v ∣₁;
  }
