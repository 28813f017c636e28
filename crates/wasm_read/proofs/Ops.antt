-- Instructions are read exactly.
use Rattle.std.proofs.Common.{◌≡◌, ℕ, ◌+◌, List, [], ◌∷◌, ◌++◌, Ok, refl, ap, ◌∙◌}
use Rattle.wasm_tree.specs.declared.op.Plain.{Plain}
use Rattle.wasm_tree.specs.declared.op.Plain.TheVariants as plain
use Rattle.wasm_tree.specs.declared.op.Op.{Op}
use Rattle.wasm_tree.specs.declared.op.Op.TheVariants as op
use Rattle.wasm_tree.specs.Spelling.{IsByte, Then, IsU32, IsS32, IsS64}
use Rattle.wasm_tree.specs.Opcodes.{load_code, store_code, equals_zero_code, first_comparison, comparison_place, first_unary, unary_place, first_binary, binary_place, conversion_code}
use Rattle.wasm_tree.specs.Binary.{IsBlockType, IsPlain, IsOp}
use Rattle.wasm_read.specs.declared.shape.Shape.{Shape}
use Rattle.wasm_read.specs.declared.shape.Shape.TheVariants as shape
use Rattle.exact_reading.specs.Reading.{◌>>=◌, made, both}
use Rattle.wasm_read.specs.Fields.{Reading, behind, u32_at, s32_at, s64_at}
use Rattle.wasm_read.specs.Shapes.{one, shape_at}
use Rattle.wasm_read.specs.Codes.{block_type_at, argument, indirect_at, op_by, op_at}
use Rattle.exact_reading.proofs.Exact.{Front, Exact, bind_ok, same_pair, made_complete, not_ok, announced}
use Rattle.wasm_read.proofs.Exact.{okay, both_exact, behind_sound}
use Rattle.wasm_read.proofs.Numbers.{u32_exact, s32_exact, s64_exact}
use Rattle.wasm_read.proofs.Choices.{alone, coded, uncoded, at_code, block_type_exact, indirect_exact}
use Rattle.wasm_read.proofs.Table.{Announces, announces, load_shape, store_shape, zero_shape, comparison_shape, unary_shape, binary_shape, conversion_shape, unreachable_shape, nop_shape, block_shape, loop_shape, if_shape, else_shape, end_shape, br_shape, br_if_shape, br_table_shape, return_shape, call_shape, call_indirect_shape, drop_shape, select_shape, local_get_shape, local_set_shape, local_tee_shape, global_get_shape, global_set_shape, memory_size_shape, memory_grow_shape, i32_const_shape, i64_const_shape}

abbrev IsPair : ℕ × ℕ → List ℕ → Type 0
IsPair a = Then (IsU32 a.0) (IsU32 a.1)

pair_exact : Exact IsPair (both u32_at u32_at)
pair_exact = both_exact IsU32 IsU32 u32_at u32_at u32_exact u32_exact

-- The byte and the 0 behind it.
memory_sound : (p : Plain) (code b : ℕ) (bs : List ℕ) (r : Op × List ℕ) → b ≡ code → IsOp (op.Plain p) (code ∷ 0x00 ∷ []) → (behind 0x00 bs >>= λ left. Ok (op.Plain p, left)) ≡ okay r → Front IsOp (b ∷ bs) r.0 r.1
memory_sound p code b bs r t h e =
    let s = bind_ok (behind 0x00 bs) _ r e in
    let q = behind_sound 0x00 bs s.0 s.1 in
    same_pair IsOp (b ∷ bs) (op.Plain p, s.0) r s.2 (record { front = code ∷ 0x00 ∷ []; split = ap (λ c. c ∷ bs) t ∙ ap (λ l. code ∷ l) q; spells = h })

shaped_sound : (s : Shape) (b : ℕ) (bs : List ℕ) (r : Op × List ℕ) → Announces b s → op_by s bs ≡ okay r → Front IsOp (b ∷ bs) r.0 r.1
shaped_sound (shape.Whole o) b bs r a h = alone IsOp b b o bs r refl a h
shaped_sound (shape.Load k) b bs r a h = announced IsPair IsOp (λ a. op.Plain (plain.Load k (argument a))) (both u32_at u32_at) pair_exact (load_code k) b bs r a (λ x front s. coded (load_code k) (IsPair x) front s) h
shaped_sound (shape.Store k) b bs r a h = announced IsPair IsOp (λ a. op.Plain (plain.Store k (argument a))) (both u32_at u32_at) pair_exact (store_code k) b bs r a (λ x front s. coded (store_code k) (IsPair x) front s) h
shaped_sound shape.Block b bs r a h = announced IsBlockType IsOp op.Block block_type_at block_type_exact 0x02 b bs r a (λ x front s. coded 0x02 (IsBlockType x) front s) h
shaped_sound shape.Loop b bs r a h = announced IsBlockType IsOp op.Loop block_type_at block_type_exact 0x03 b bs r a (λ x front s. coded 0x03 (IsBlockType x) front s) h
shaped_sound shape.If b bs r a h = announced IsBlockType IsOp op.If block_type_at block_type_exact 0x04 b bs r a (λ x front s. coded 0x04 (IsBlockType x) front s) h
shaped_sound shape.Br b bs r a h = announced IsU32 IsOp op.Br u32_at u32_exact 0x0c b bs r a (λ x front s. coded 0x0c (IsU32 x) front s) h
shaped_sound shape.BrIf b bs r a h = announced IsU32 IsOp op.BrIf u32_at u32_exact 0x0d b bs r a (λ x front s. coded 0x0d (IsU32 x) front s) h
shaped_sound shape.BrTable b bs r a h = announced IsU32 IsOp op.BrTable u32_at u32_exact 0x0e b bs r a (λ x front s. coded 0x0e (IsU32 x) front s) h
shaped_sound shape.Call b bs r a h = announced IsU32 IsOp op.Call u32_at u32_exact 0x10 b bs r a (λ x front s. coded 0x10 (IsU32 x) front s) h
shaped_sound shape.LocalGet b bs r a h = announced IsU32 IsOp (λ x. op.Plain (plain.LocalGet x)) u32_at u32_exact 0x20 b bs r a (λ x front s. coded 0x20 (IsU32 x) front s) h
shaped_sound shape.LocalSet b bs r a h = announced IsU32 IsOp (λ x. op.Plain (plain.LocalSet x)) u32_at u32_exact 0x21 b bs r a (λ x front s. coded 0x21 (IsU32 x) front s) h
shaped_sound shape.LocalTee b bs r a h = announced IsU32 IsOp (λ x. op.Plain (plain.LocalTee x)) u32_at u32_exact 0x22 b bs r a (λ x front s. coded 0x22 (IsU32 x) front s) h
shaped_sound shape.GlobalGet b bs r a h = announced IsU32 IsOp (λ x. op.Plain (plain.GlobalGet x)) u32_at u32_exact 0x23 b bs r a (λ x front s. coded 0x23 (IsU32 x) front s) h
shaped_sound shape.GlobalSet b bs r a h = announced IsU32 IsOp (λ x. op.Plain (plain.GlobalSet x)) u32_at u32_exact 0x24 b bs r a (λ x front s. coded 0x24 (IsU32 x) front s) h
shaped_sound shape.CallIndirect b bs r a h = announced (λ t. Then (IsU32 t) (IsByte 0x00)) IsOp op.CallIndirect indirect_at indirect_exact 0x11 b bs r a (λ x front s. coded 0x11 (Then (IsU32 x) (IsByte 0x00)) front s) h
shaped_sound shape.MemorySize b bs r a h = memory_sound plain.MemorySize 0x3f b bs r a refl h
shaped_sound shape.MemoryGrow b bs r a h = memory_sound plain.MemoryGrow 0x40 b bs r a refl h
shaped_sound shape.I32Const b bs r a h = announced IsS32 IsOp (λ z. op.Plain (plain.I32Const z)) s32_at s32_exact 0x41 b bs r a (λ x front s. coded 0x41 (IsS32 x) front s) h
shaped_sound shape.I64Const b bs r a h = announced IsS64 IsOp (λ z. op.Plain (plain.I64Const z)) s64_at s64_exact 0x42 b bs r a (λ x front s. coded 0x42 (IsS64 x) front s) h
shaped_sound shape.Float b bs r a h = absurd (not_ok h)
shaped_sound shape.Unknown b bs r a h = absurd (not_ok h)

pub op_sound : (bytes : List ℕ) (r : Op × List ℕ) → op_at bytes ≡ okay r → Front IsOp bytes r.0 r.1
unfolding op_at
op_sound [] r e = absurd (not_ok e)
op_sound (b ∷ bs) r e = shaped_sound (shape_at b) b bs r (announces b) e

-- What the first byte chooses.
choice : (code : ℕ) (s : Shape) (front back rest : List ℕ) → shape_at code ≡ s → front ≡ code ∷ back → op_at (front ++ rest) ≡ op_by s (back ++ rest)
unfolding op_at
choice code s front back rest t e = at_code (λ b rest. op_by (shape_at b) rest) code front back rest e ∙ ap (λ s. op_by s (back ++ rest)) t

-- An instruction is announced by the shape of its code.
announcing : {X : Type 0} (P : X → List ℕ → Type 0) (f : X → Op) (p : Reading X) → Exact P p → (code : ℕ) (s : Shape) → shape_at code ≡ s → ((rest : List ℕ) → op_by s rest ≡ made f p rest) → (x : X) (front rest : List ℕ) → Then (IsByte code) (P x) front → op_at (front ++ rest) ≡ Ok (f x, rest)
announcing P f p ep code s t by x front rest h =
    let u = uncoded code (P x) front h in
    choice code s front u.0 rest t u.1 ∙ by (u.0 ++ rest) ∙ made_complete P f p ep x u.0 rest u.2

plain_complete : (p : Plain) (front rest : List ℕ) → IsPlain p front → op_at (front ++ rest) ≡ Ok (op.Plain p, rest)
plain_complete plain.Nop front rest h = choice 0x01 (one plain.Nop) front [] rest nop_shape h
plain_complete plain.Drop front rest h = choice 0x1a (one plain.Drop) front [] rest drop_shape h
plain_complete plain.Select front rest h = choice 0x1b (one plain.Select) front [] rest select_shape h
plain_complete (plain.LocalGet x) front rest h = announcing IsU32 (λ x. op.Plain (plain.LocalGet x)) u32_at u32_exact 0x20 shape.LocalGet local_get_shape (λ _. refl) x front rest h
plain_complete (plain.LocalSet x) front rest h = announcing IsU32 (λ x. op.Plain (plain.LocalSet x)) u32_at u32_exact 0x21 shape.LocalSet local_set_shape (λ _. refl) x front rest h
plain_complete (plain.LocalTee x) front rest h = announcing IsU32 (λ x. op.Plain (plain.LocalTee x)) u32_at u32_exact 0x22 shape.LocalTee local_tee_shape (λ _. refl) x front rest h
plain_complete (plain.GlobalGet x) front rest h = announcing IsU32 (λ x. op.Plain (plain.GlobalGet x)) u32_at u32_exact 0x23 shape.GlobalGet global_get_shape (λ _. refl) x front rest h
plain_complete (plain.GlobalSet x) front rest h = announcing IsU32 (λ x. op.Plain (plain.GlobalSet x)) u32_at u32_exact 0x24 shape.GlobalSet global_set_shape (λ _. refl) x front rest h
plain_complete (plain.Load k a) front rest h = announcing IsPair (λ a. op.Plain (plain.Load k (argument a))) (both u32_at u32_at) pair_exact (load_code k) (shape.Load k) (load_shape k) (λ _. refl) (a.align, a.offset) front rest h
plain_complete (plain.Store k a) front rest h = announcing IsPair (λ a. op.Plain (plain.Store k (argument a))) (both u32_at u32_at) pair_exact (store_code k) (shape.Store k) (store_shape k) (λ _. refl) (a.align, a.offset) front rest h
plain_complete plain.MemorySize front rest h = choice 0x3f shape.MemorySize front (0x00 ∷ []) rest memory_size_shape h
plain_complete plain.MemoryGrow front rest h = choice 0x40 shape.MemoryGrow front (0x00 ∷ []) rest memory_grow_shape h
plain_complete (plain.I32Const z) front rest h = announcing IsS32 (λ z. op.Plain (plain.I32Const z)) s32_at s32_exact 0x41 shape.I32Const i32_const_shape (λ _. refl) z front rest h
plain_complete (plain.I64Const z) front rest h = announcing IsS64 (λ z. op.Plain (plain.I64Const z)) s64_at s64_exact 0x42 shape.I64Const i64_const_shape (λ _. refl) z front rest h
plain_complete (plain.EqualsZero k) front rest h = choice (equals_zero_code k) (one (plain.EqualsZero k)) front [] rest (zero_shape k) h
plain_complete (plain.Compare k c) front rest h = choice (first_comparison k + comparison_place c) (one (plain.Compare k c)) front [] rest (comparison_shape k c) h
plain_complete (plain.Unary k o) front rest h = choice (first_unary k + unary_place o) (one (plain.Unary k o)) front [] rest (unary_shape k o) h
plain_complete (plain.Binary k o) front rest h = choice (first_binary k + binary_place o) (one (plain.Binary k o)) front [] rest (binary_shape k o) h
plain_complete (plain.Convert c) front rest h = choice (conversion_code c) (one (plain.Convert c)) front [] rest (conversion_shape c) h

-- every instruction but a label
abbrev pub IsNoLabel : Op → Type 0
IsNoLabel o = (l : ℕ) → o ≡ op.Target l → ⊥

pub op_complete : (o : Op) (front rest : List ℕ) → IsNoLabel o → IsOp o front → op_at (front ++ rest) ≡ Ok (o, rest)
op_complete (op.Plain p) front rest n h = plain_complete p front rest h
op_complete op.Unreachable front rest n h = choice 0x00 (shape.Whole op.Unreachable) front [] rest unreachable_shape h
op_complete op.Else front rest n h = choice 0x05 (shape.Whole op.Else) front [] rest else_shape h
op_complete op.End front rest n h = choice 0x0b (shape.Whole op.End) front [] rest end_shape h
op_complete op.Return front rest n h = choice 0x0f (shape.Whole op.Return) front [] rest return_shape h
op_complete (op.Block k) front rest n h = announcing IsBlockType op.Block block_type_at block_type_exact 0x02 shape.Block block_shape (λ _. refl) k front rest h
op_complete (op.Loop k) front rest n h = announcing IsBlockType op.Loop block_type_at block_type_exact 0x03 shape.Loop loop_shape (λ _. refl) k front rest h
op_complete (op.If k) front rest n h = announcing IsBlockType op.If block_type_at block_type_exact 0x04 shape.If if_shape (λ _. refl) k front rest h
op_complete (op.Br x) front rest n h = announcing IsU32 op.Br u32_at u32_exact 0x0c shape.Br br_shape (λ _. refl) x front rest h
op_complete (op.BrIf x) front rest n h = announcing IsU32 op.BrIf u32_at u32_exact 0x0d shape.BrIf br_if_shape (λ _. refl) x front rest h
op_complete (op.BrTable x) front rest n h = announcing IsU32 op.BrTable u32_at u32_exact 0x0e shape.BrTable br_table_shape (λ _. refl) x front rest h
op_complete (op.Call x) front rest n h = announcing IsU32 op.Call u32_at u32_exact 0x10 shape.Call call_shape (λ _. refl) x front rest h
op_complete (op.Target l) front rest n h = absurd (n l refl)
op_complete (op.CallIndirect t) front rest n h = announcing (λ t. Then (IsU32 t) (IsByte 0x00)) op.CallIndirect indirect_at indirect_exact 0x11 shape.CallIndirect call_indirect_shape (λ _. refl) t front rest h
