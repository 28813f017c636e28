-- A module that few bytes spell is not too large.
use Rattle.std.proofs.Common.{◌≡◌, ℕ, zero, suc, ◌+◌, ◌<◌, ◌≤◌, ◌^◌, inl, inr, List, [], ◌∷◌, length, Some, ap, arith, length-append}
use Rattle.std.specs.Prelude.{slice_get}
use Rattle.std.proofs.lemmas.List.Sums.{sum_by-cons}
use Rattle.mo_num.specs.Leb.{IsLeb}
use Rattle.wasm_tree.specs.declared.op.Plain.{Plain}
use Rattle.wasm_tree.specs.declared.op.Plain.TheVariants as plain
use Rattle.wasm_tree.specs.declared.op.Op.{Op}
use Rattle.wasm_tree.specs.declared.op.Op.TheVariants as op
use Rattle.wasm_tree.specs.declared.module_parts.Function.{Function}
use Rattle.wasm_tree.specs.declared.module_parts.Module.{Module}
use Rattle.wasm_tree.specs.Spelling.{IsByte, Then, IsEach, IsVectorSection}
use Rattle.wasm_tree.specs.Binary.{IsPlain, IsOp, IsCode, Written}
use Rattle.wasm_layout.specs.Sizes.{locals_of, room_of, IsTooLarge, TooMuchCode, TooManyLocals}

byte_some : (b : ℕ) (bytes : List ℕ) → IsByte b bytes → 1 ≤ length bytes
byte_some b bytes is = omega (arith, ap length is)

front_some : {P Q : List ℕ → Type 0} {bytes : List ℕ} (t : Then P Q bytes) → 1 ≤ length t.front → 1 ≤ length bytes
front_some t some = omega (arith, ap length t.whole, length-append t.front t.back)

coded : (b : ℕ) {Q : List ℕ → Type 0} {bytes : List ℕ} → Then (IsByte b) Q bytes → 1 ≤ length bytes
coded b t = front_some t (byte_some b t.front t.first)

leb_some : (bytes : List ℕ) (n : ℕ) → IsLeb bytes n → 1 ≤ length bytes
leb_some [] n is = absurd is
leb_some (b ∷ bytes) n is = omega arith

plain_some : (q : Plain) (bytes : List ℕ) → IsPlain q bytes → 1 ≤ length bytes
plain_some plain.Nop bytes is = byte_some _ bytes is
plain_some plain.Drop bytes is = byte_some _ bytes is
plain_some plain.Select bytes is = byte_some _ bytes is
plain_some (plain.LocalGet x) bytes is = coded _ is
plain_some (plain.LocalSet x) bytes is = coded _ is
plain_some (plain.LocalTee x) bytes is = coded _ is
plain_some (plain.GlobalGet x) bytes is = coded _ is
plain_some (plain.GlobalSet x) bytes is = coded _ is
plain_some (plain.Load kind a) bytes is = coded _ is
plain_some (plain.Store kind a) bytes is = coded _ is
plain_some plain.MemorySize bytes is = omega (arith, ap length is)
plain_some plain.MemoryGrow bytes is = omega (arith, ap length is)
plain_some (plain.I32Const z) bytes is = coded _ is
plain_some (plain.I64Const z) bytes is = coded _ is
plain_some (plain.EqualsZero kind) bytes is = byte_some _ bytes is
plain_some (plain.Compare kind o) bytes is = byte_some _ bytes is
plain_some (plain.Unary kind o) bytes is = byte_some _ bytes is
plain_some (plain.Binary kind o) bytes is = byte_some _ bytes is
plain_some (plain.Convert c) bytes is = byte_some _ bytes is

op_some : (o : Op) (bytes : List ℕ) → IsOp o bytes → 1 ≤ length bytes
op_some (op.Plain q) bytes is = plain_some q bytes is
op_some op.Unreachable bytes is = byte_some _ bytes is
op_some (op.Block kind) bytes is = coded _ is
op_some (op.Loop kind) bytes is = coded _ is
op_some (op.If kind) bytes is = coded _ is
op_some op.Else bytes is = byte_some _ bytes is
op_some op.End bytes is = byte_some _ bytes is
op_some (op.Br l) bytes is = coded _ is
op_some (op.BrIf l) bytes is = coded _ is
op_some (op.BrTable n) bytes is = coded _ is
op_some (op.Target l) bytes is = leb_some bytes l is.spells
op_some op.Return bytes is = byte_some _ bytes is
op_some (op.Call f) bytes is = coded _ is
op_some (op.CallIndirect t) bytes is = coded _ is

ops_long : (ops : List Op) (bytes : List ℕ) → IsEach IsOp ops bytes → length ops ≤ length bytes
ops_long [] bytes is = omega arith
ops_long (o ∷ ops) bytes is = omega (arith, ap length is.whole, length-append is.front is.back, op_some o is.front is.first, ops_long ops is.back is.second)

code_long : (f : Function) (bytes : List ℕ) → IsCode f bytes → length f.body + 1 ≤ length bytes
code_long f bytes is =
    let parts = is.inner.spells in
    let code = parts.second.spells in
    omega (
      arith,
      ap length is.whole,
      length-append is.size is.contents,
      ap length parts.whole,
      length-append parts.front parts.back,
      ap length code.whole,
      length-append code.front code.back,
      ops_long f.body code.front code.first,
      byte_some _ code.back code.second,
    )

codes_long : (fs : List Function) (bytes : List ℕ) → IsEach IsCode fs bytes → room_of fs ≤ length bytes
codes_long [] bytes is = omega arith
codes_long (f ∷ fs) bytes is =
    omega (arith, ap length is.whole, length-append is.front is.back, code_long f is.front is.first, codes_long fs is.back is.second, sum_by-cons (λ (g : Function). length g.body + 1) f fs)

codes_few : (fs : List Function) (bytes : List ℕ) → IsEach IsCode fs bytes → (place : ℕ) (f : Function) → slice_get fs place ≡ Some f → locals_of f.locals < 2 ^ 32
codes_few [] bytes is place f e = cc
codes_few (g ∷ fs) bytes is zero f e = let same : g ≡ f = cc in rw (← same) is.first.inner.few
codes_few (g ∷ fs) bytes is (suc place) f e = codes_few fs is.back is.second place f e

-- What the section of code says of the functions.
record Fits (fs : List Function) (bytes : List ℕ) : Type 0 where
  pub room : room_of fs ≤ length bytes
  pub few : (place : ℕ) (f : Function) → slice_get fs place ≡ Some f → locals_of f.locals < 2 ^ 32

section_fits : (fs : List Function) (bytes : List ℕ) → IsVectorSection 10 IsCode fs bytes → Fits fs bytes
section_fits fs bytes (inl none) = rw none.0 (record { room = omega arith; few = λ place f e. cc })
section_fits fs bytes (inr is) =
    let sized = is.second in
    let vector = sized.inner in
    record {
      room = omega (
        arith,
        ap length is.whole,
        length-append is.front is.back,
        ap length sized.whole,
        length-append sized.size sized.contents,
        ap length vector.whole,
        length-append vector.front vector.back,
        codes_long fs vector.back vector.second,
      );
      few = codes_few fs vector.back vector.second;
    }

-- The same of bytes around them.
behind : {P Q : List ℕ → Type 0} {bytes : List ℕ} (fs : List Function) (t : Then P Q bytes) → Fits fs t.back → Fits fs bytes
behind fs t is = record { room = omega (arith, is.room, ap length t.whole, length-append t.front t.back); few = is.few }

before : {P Q : List ℕ → Type 0} {bytes : List ℕ} (fs : List Function) (t : Then P Q bytes) → Fits fs t.front → Fits fs bytes
before fs t is = record { room = omega (arith, is.room, ap length t.whole, length-append t.front t.back); few = is.few }

-- No module that fewer than 2^32 bytes spell is too large.
pub never_large : (m : Module) (bytes : List ℕ) → Written m bytes → length bytes < 2 ^ 32 → IsTooLarge m.functions → ⊥
never_large m bytes w short large = go large
  where
    fits : Fits m.functions bytes
    fits =
        let a = w in let b = a.second in let c = b.second in let d = c.second in let e = d.second in let f = e.second in let g = f.second in let h = g.second in let i = h.second in let j = i.second in let k = j.second in
        let fs = m.functions in
        behind fs a (behind fs b (behind fs c (behind fs d (behind fs e (behind fs f (behind fs g (behind fs h (behind fs i (behind fs j (before fs k (behind fs k.first (section_fits fs k.first.back k.first.second))))))))))))

    go : IsTooLarge m.functions → ⊥
    go (TooMuchCode over) = let r = fits.room in omega arith
    go (TooManyLocals place f at over) = let r = fits.few place f at in omega arith
