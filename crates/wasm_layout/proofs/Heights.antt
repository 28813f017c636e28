-- Typed code, seen by the numbers of its operands.
use Rattle.std.proofs.Common.{◌≡◌, ℕ, zero, suc, ◌+◌, ◌-◌, ◌<◌, ◌≤◌, List, [], ◌∷◌, length, map, drop, Some, refl, ap, ◌∙◌, subst, arith, length-append, length-drop}
use Rattle.std.specs.Prelude.{slice_get}
use Rattle.std.specs.List.{AllByRecursion}
use Rattle.std.proofs.lemmas.List.{length-map}
use Rattle.std.proofs.lemmas.Option.{slice_get_within}
use Rattle.wasm_tree.specs.declared.types.ValueType.{ValueType}
use Rattle.wasm_tree.specs.declared.op.Conversion.TheVariants.{Wrap, ExtendS, ExtendU}
use Rattle.wasm_tree.specs.declared.op.Plain.{Plain}
use Rattle.wasm_tree.specs.declared.op.Plain.TheVariants as plain
use Rattle.wasm_tree.specs.Rules.{Context, every, StartsWith, Takes, IsFound}
use Rattle.wasm_tree.specs.Typing.{IsPlainTyped, IsTarget}
use Rattle.wasm_tree.specs.Exec.{label_at}
use Rattle.wasm_tree.specs.Frames.{taken, given}
use Rattle.wasm_steps.specs.Layout.{IsNamed}
use Rattle.wasm_layout.specs.declared.pass.Open.{Open}

pub starts_few : {front whole : List ValueType} → StartsWith front whole → length front ≤ length whole
starts_few {front} {whole} s = omega (arith, ap length s.split, length-append front s.rest)

-- So many operands are there, and so many are left.
pub record Changes (takes gives before after : ℕ) : Type 0 where
  pub enough : takes ≤ before
  pub left : after ≡ before - takes + gives

pub changes : (takes gives before after : List ValueType) → Takes every takes gives before after → Changes (length takes) (length gives) (length before) (length after)
changes takes gives before after t =
    let s = starts_few (t.found tt) in
    record { enough = s; left = omega (arith, ap length t.left, length-append gives (drop (length takes) before), length-drop (length takes) before) }

found : {A : Type 0} (xs : List A) (x : ℕ) (item : A) → IsFound (every Rattle.wasm_tree.specs.declared.rule.Rule.TheVariants.Index) (slice_get xs x) item → x < length xs
found xs x item f = slice_get_within xs x item (f.there tt)

pub record PlainHeights (c : Context) (q : Plain) (before after : ℕ) : Type 0 where
  pub changes : Changes (taken q) (given q) before after
  pub named : IsNamed (length c.locals) (length c.within.globals) q

pub plain_heights : (c : Context) (q : Plain) (before after : List ValueType) → IsPlainTyped every c q before after → PlainHeights c q (length before) (length after)
plain_heights c plain.Nop before after t = record { changes = changes _ _ before after t; named = tt }
plain_heights c plain.Drop before after t = record { changes = changes _ _ before after t.1; named = tt }
plain_heights c plain.Select before after t = record { changes = changes _ _ before after t.taken; named = tt }
plain_heights c (plain.LocalGet x) before after t = record { changes = changes _ _ before after t.2; named = slice_get_within c.locals x t.0 (t.1.there tt) }
plain_heights c (plain.LocalSet x) before after t = record { changes = changes _ _ before after t.2; named = slice_get_within c.locals x t.0 (t.1.there tt) }
plain_heights c (plain.LocalTee x) before after t = record { changes = changes _ _ before after t.2; named = slice_get_within c.locals x t.0 (t.1.there tt) }
plain_heights c (plain.GlobalGet x) before after t =
    let w = slice_get_within (map (λ global. global.kind) c.within.globals) x t.0 (t.1.there tt) in
    record { changes = changes _ _ before after t.2; named = omega (arith, length-map c.within.globals (λ global. global.kind)) }
plain_heights c (plain.GlobalSet x) before after t =
    let w = slice_get_within (map (λ global. global.kind) c.within.globals) x t.0 (t.1.there tt) in
    record { changes = changes _ _ before after t.3; named = omega (arith, length-map c.within.globals (λ global. global.kind)) }
plain_heights c (plain.Load kind a) before after t = record { changes = changes _ _ before after t.2; named = tt }
plain_heights c (plain.Store kind a) before after t = record { changes = changes _ _ before after t.2; named = tt }
plain_heights c plain.MemorySize before after t = record { changes = changes _ _ before after t.1; named = tt }
plain_heights c plain.MemoryGrow before after t = record { changes = changes _ _ before after t.1; named = tt }
plain_heights c (plain.I32Const z) before after t = record { changes = changes _ _ before after t; named = tt }
plain_heights c (plain.I64Const z) before after t = record { changes = changes _ _ before after t; named = tt }
plain_heights c (plain.EqualsZero kind) before after t = record { changes = changes _ _ before after t; named = tt }
plain_heights c (plain.Compare kind o) before after t = record { changes = changes _ _ before after t; named = tt }
plain_heights c (plain.Unary kind o) before after t = record { changes = changes _ _ before after t; named = tt }
plain_heights c (plain.Binary kind o) before after t = record { changes = changes _ _ before after t; named = tt }
plain_heights c (plain.Convert Wrap) before after t = record { changes = changes _ _ before after t; named = tt }
plain_heights c (plain.Convert ExtendS) before after t = record { changes = changes _ _ before after t; named = tt }
plain_heights c (plain.Convert ExtendU) before after t = record { changes = changes _ _ before after t; named = tt }

-- The labels of the open blocks keep as many operands as those of the context take, one or none.
abbrev pub Keeps : List Open → List (List ValueType) → Type 0
Keeps [] [] = Unit {0}
Keeps [] (r ∷ rs) = ⊥
Keeps (o ∷ os) [] = ⊥
Keeps (o ∷ os) (r ∷ rs) = (o.label.keep ≡ length r) × (length r ≤ 1) × Keeps os rs

pub record Found (os : List Open) (l : ℕ) (r : List ValueType) : Type 0 where
  pub «open» : Open
  pub there : slice_get os l ≡ Some «open»
  pub keep : «open».label.keep ≡ length r
  pub few : length r ≤ 1

pub find_label : (os : List Open) (rs : List (List ValueType)) (l : ℕ) (r : List ValueType) → Keeps os rs → slice_get rs l ≡ Some r → Found os l r
find_label [] [] l r k e = cc
find_label [] (x ∷ rs) l r k e = absurd k
find_label (o ∷ os) [] l r k e = absurd k
find_label (o ∷ os) (x ∷ rs) zero r k e = let f : x ≡ r = cc in record { «open» = o; there = refl; keep = k.0 ∙ ap length f; few = subst (λ i. length i ≤ 1) f k.1 }
find_label (o ∷ os) (x ∷ rs) (suc l) r k e = let f = find_label os rs l r k.2 e in record { «open» = f.open; there = f.there; keep = f.keep; few = f.few }

-- Each label of a table takes the same results.
target_found : (labels : List (List ValueType)) (r : List ValueType) (l : ℕ) → IsTarget every labels r l → slice_get labels l ≡ Some r
target_found [] r l t = absurd (omega (arith, t.there tt))
target_found (x ∷ labels) r zero t = ap Some (t.same tt)
target_found (x ∷ labels) r (suc l) t = target_found labels r l (record { there = λ a. omega (arith, t.there a); same = t.same })

pub table_found : (labels : List (List ValueType)) (r : List ValueType) (ls : List ℕ) (last i : ℕ) → i ≤ length ls → AllByRecursion (IsTarget every labels r) ls → slice_get labels last ≡ Some r
    → slice_get labels (label_at ls last i) ≡ Some r
table_found labels r [] last i few all e = e
table_found labels r (l ∷ ls) last zero few all e = target_found labels r l all.0
table_found labels r (l ∷ ls) last (suc i) few all e = table_found labels r ls last i (omega arith) all.1 e
