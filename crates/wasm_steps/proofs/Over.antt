-- A plain instruction leaves what lies below its operands, gives as many as it should, and takes no steps.
use Rattle.std.proofs.Common.{◌≡◌, ℕ, suc, ◌+◌, ◌-◌, ◌≤◌, Bool, true, false, List, [], ◌∷◌, ◌++◌, length, take, drop, refl, arith, cond}
use Rattle.std.specs.Prelude.{nat_le, Result, Ok, Err, ⊤, ◌&&◌, ◌*◌, ◌^◌, replicate}
use Rattle.wasm_tree.specs.declared.trap.Trap.{Trap}
use Rattle.wasm_tree.specs.declared.trap.Trap.TheVariants as trap
use Rattle.wasm_tree.specs.declared.types.ValueType.TheVariants.{I32}
use Rattle.wasm_tree.specs.Numeric.{low, compare}
use Rattle.wasm_tree.specs.declared.op.LoadKind.{LoadKind}
use Rattle.wasm_tree.specs.declared.op.StoreKind.{StoreKind}
use Rattle.wasm_tree.specs.declared.op.Plain.{Plain}
use Rattle.wasm_tree.specs.declared.op.Plain.TheVariants as plain
use Rattle.wasm_tree.specs.declared.module_parts.Module.{Module}
use Rattle.wasm_tree.specs.Exec.{ExecutionLimits, State, Did, Goes, Fails, Lacks, with_memory, with_refusal, number_of, bytes_of, load_size, store_size, extended, pages_of, most_pages, unary_did, or_fails, binary_did, select_did, load_at, store_at, grow, act}
use Rattle.wasm_tree.specs.Frames.{taken, given}

abbrev pub over : {World : Type 0} → List ℕ → Did World → Did World
over ws (Goes s vs) = Goes s (vs ++ ws)
over ws (Fails cause) = Fails cause
over ws Lacks = Lacks

-- it goes on with as many operands as it should and the steps that were left, or fails
abbrev pub Counts : {World : Type 0} → ℕ → ℕ → ℕ → ℕ → Did World → Type 0
Counts takes gives left height (Goes s vs) = (length vs + takes ≡ height + gives) × (s.left ≡ left)
Counts takes gives left height (Fails cause) = ⊤
Counts takes gives left height Lacks = ⊥

pub record Local {World : Type 0} (takes gives left : ℕ) (f : List ℕ → Did World) : Type 0 where
  pub below : (vs ws : List ℕ) → takes ≤ length vs → f (vs ++ ws) ≡ over ws (f vs)
  pub count : (vs : List ℕ) → takes ≤ length vs → Counts takes gives left (length vs) (f vs)

choice_over : {World : Type 0} → (b : Bool) (x y : Did World) (ws : List ℕ) → cond b (over ws x) (over ws y) ≡ over ws (cond b x y)
choice_over true x y ws = refl
choice_over false x y ws = refl

choice_counts : {World : Type 0} → (takes gives left h : ℕ) (b : Bool) (x y : Did World) → Counts takes gives left h x → Counts takes gives left h y → Counts takes gives left h (cond b x y)
choice_counts takes gives left h true x y c d = c
choice_counts takes gives left h false x y c d = d

load_counts : {World : Type 0} → (s : State World) (kind : LoadKind) (address : ℕ) (vs : List ℕ) → Counts 1 1 s.left (suc (length vs)) (load_at s kind address vs)
load_counts s kind address vs =
    choice_counts 1 1 s.left (suc (length vs)) (nat_le (address + load_size kind) (length s.store.memory)) (Goes s (extended kind (number_of (take (load_size kind) (drop address s.store.memory))) ∷ vs)) (Fails trap.Bounds) (omega arith, refl) tt

store_counts : {World : Type 0} → (s : State World) (kind : StoreKind) (address value : ℕ) (vs : List ℕ) → Counts 2 0 s.left (suc (suc (length vs))) (store_at s kind address value vs)
store_counts s kind address value vs =
    choice_counts 2 0 s.left (suc (suc (length vs))) (nat_le (address + store_size kind) (length s.store.memory))
    (Goes (with_memory s (take address s.store.memory ++ bytes_of (store_size kind) value ++ drop (address + store_size kind) s.store.memory)) vs) (Fails trap.Bounds) (omega arith, refl) tt

grow_counts : {World : Type 0} → (limits : ExecutionLimits) (m : Module) (s : State World) (by : ℕ) (vs : List ℕ) → Counts 1 1 s.left (suc (length vs)) (grow limits m s by vs)
grow_counts limits m s by vs =
    choice_counts 1 1 s.left (suc (length vs)) (nat_le (pages_of s.store.memory + by) limits.pages && nat_le (pages_of s.store.memory + by) (most_pages m.memories))
    (Goes (with_memory s (s.store.memory ++ replicate (65536 * by) 0)) (pages_of s.store.memory ∷ vs)) (Goes (with_refusal s) ((2 ^ 32 - 1) ∷ vs)) (omega arith, refl) (omega arith, refl)

fails_over : {World : Type 0} → (s : State World) (r : Result ℕ Trap) (vs ws : List ℕ) → or_fails s r (vs ++ ws) ≡ over ws (or_fails s r vs)
fails_over s (Ok value) vs ws = refl
fails_over s (Err cause) vs ws = refl

fails_counts : {World : Type 0} → (s : State World) (r : Result ℕ Trap) (vs : List ℕ) (takes gives h : ℕ) → suc (length vs) + takes ≡ h + gives → Counts takes gives s.left h (or_fails s r vs)
fails_counts s (Ok value) vs takes gives h e = (e, refl)
fails_counts s (Err cause) vs takes gives h e = tt

on_one : {World : Type 0} → (gives left : ℕ) (f : List ℕ → Did World) → ((x : ℕ) (vs ws : List ℕ) → f (x ∷ (vs ++ ws)) ≡ over ws (f (x ∷ vs))) → ((x : ℕ) (vs : List ℕ) → Counts 1 gives left (suc (length vs)) (f (x ∷ vs))) → Local 1 gives left f
on_one {World} gives left f b c = record { below = below; count = count }
  where
    below : (vs ws : List ℕ) → 1 ≤ length vs → f (vs ++ ws) ≡ over ws (f vs)
    below [] ws h = absurd (omega arith)
    below (x ∷ vs) ws h = b x vs ws

    count : (vs : List ℕ) → 1 ≤ length vs → Counts 1 gives left (length vs) (f vs)
    count [] h = absurd (omega arith)
    count (x ∷ vs) h = c x vs

on_two : {World : Type 0} → (gives left : ℕ) (f : List ℕ → Did World) → ((y x : ℕ) (vs ws : List ℕ) → f (y ∷ x ∷ (vs ++ ws)) ≡ over ws (f (y ∷ x ∷ vs))) → ((y x : ℕ) (vs : List ℕ) → Counts 2 gives left (suc (suc (length vs))) (f (y ∷ x ∷ vs))) → Local 2 gives left f
on_two {World} gives left f b c = record { below = below; count = count }
  where
    below : (vs ws : List ℕ) → 2 ≤ length vs → f (vs ++ ws) ≡ over ws (f vs)
    below [] ws h = absurd (omega arith)
    below (y ∷ []) ws h = absurd (omega arith)
    below (y ∷ x ∷ vs) ws h = b y x vs ws

    count : (vs : List ℕ) → 2 ≤ length vs → Counts 2 gives left (length vs) (f vs)
    count [] h = absurd (omega arith)
    count (y ∷ []) h = absurd (omega arith)
    count (y ∷ x ∷ vs) h = c y x vs

is_unary : {World : Type 0} → (f : ℕ → ℕ) (s : State World) → Local 1 1 s.left (unary_did f s)
is_unary f s = on_one 1 s.left (unary_did f s) (λ x vs ws. refl) (λ x vs. (omega arith, refl))

is_binary : {World : Type 0} → (f : ℕ → ℕ → Result ℕ Trap) (s : State World) → Local 2 1 s.left (binary_did f s)
is_binary f s = on_two 1 s.left (binary_did f s) (λ y x vs ws. fails_over s (f x y) vs ws) (λ y x vs. fails_counts s (f x y) vs 2 1 (suc (suc (length vs))) (omega arith))

is_select : {World : Type 0} → (s : State World) → Local 3 1 s.left (select_did s)
is_select {World} s = record { below = below; count = count }
  where
    below : (vs ws : List ℕ) → 3 ≤ length vs → select_did s (vs ++ ws) ≡ over ws (select_did s vs)
    below [] ws h = absurd (omega arith)
    below (c ∷ []) ws h = absurd (omega arith)
    below (c ∷ y ∷ []) ws h = absurd (omega arith)
    below (c ∷ y ∷ x ∷ vs) ws h = refl

    count : (vs : List ℕ) → 3 ≤ length vs → Counts 3 1 s.left (length vs) (select_did s vs)
    count [] h = absurd (omega arith)
    count (c ∷ []) h = absurd (omega arith)
    count (c ∷ y ∷ []) h = absurd (omega arith)
    count (c ∷ y ∷ x ∷ vs) h = (omega arith, refl)

module _ {World : Type 0} (limits : ExecutionLimits) (m : Module) where
  pub is_local : (p : Plain) (s : State World) → Local (taken p) (given p) s.left (act limits m p s)
  is_local plain.Nop s = record { below = λ vs ws h. refl; count = λ vs h. (omega arith, refl) }
  is_local plain.Drop s = on_one 0 s.left (act limits m plain.Drop s) (λ x vs ws. refl) (λ x vs. (omega arith, refl))
  is_local plain.Select s = is_select s
  is_local (plain.LocalGet x) s = record { below = λ vs ws h. refl; count = λ vs h. (omega arith, refl) }
  is_local (plain.LocalSet x) s = on_one 0 s.left (act limits m (plain.LocalSet x) s) (λ v vs ws. refl) (λ v vs. (omega arith, refl))
  is_local (plain.LocalTee x) s = on_one 1 s.left (act limits m (plain.LocalTee x) s) (λ v vs ws. refl) (λ v vs. (omega arith, refl))
  is_local (plain.GlobalGet x) s = record { below = λ vs ws h. refl; count = λ vs h. (omega arith, refl) }
  is_local (plain.GlobalSet x) s = on_one 0 s.left (act limits m (plain.GlobalSet x) s) (λ v vs ws. refl) (λ v vs. (omega arith, refl))
  is_local (plain.Load kind a) s = on_one 1 s.left (act limits m (plain.Load kind a) s) (λ x vs ws. choice_over _ _ _ ws) (λ x vs. load_counts s kind (low I32 x + a.offset) vs)
  is_local (plain.Store kind a) s = on_two 0 s.left (act limits m (plain.Store kind a) s) (λ y x vs ws. choice_over _ _ _ ws) (λ y x vs. store_counts s kind (low I32 x + a.offset) y vs)
  is_local plain.MemorySize s = record { below = λ vs ws h. refl; count = λ vs h. (omega arith, refl) }
  is_local plain.MemoryGrow s = on_one 1 s.left (act limits m plain.MemoryGrow s) (λ x vs ws. choice_over _ _ _ ws) (λ x vs. grow_counts limits m s (low I32 x) vs)
  is_local (plain.I32Const z) s = record { below = λ vs ws h. refl; count = λ vs h. (omega arith, refl) }
  is_local (plain.I64Const z) s = record { below = λ vs ws h. refl; count = λ vs h. (omega arith, refl) }
  is_local (plain.EqualsZero kind) s = is_unary _ s
  is_local (plain.Compare kind c) s = is_binary (λ x y. Ok (compare kind c x y)) s
  is_local (plain.Unary kind o) s = is_unary _ s
  is_local (plain.Binary kind o) s = is_binary _ s
  is_local (plain.Convert c) s = is_unary _ s
