-- A loop is its body, and the loop again where the body branches back to it.
use Rattle.std.proofs.Common.{◌≡◌, ℕ, zero, suc, ◌+◌, ◌-◌, ◌<◌, ◌≤◌, Bool, true, false, List, [], ◌∷◌, ◌++◌, length, take, drop, Option, Some, None, refl, arith, cond}
use Rattle.std.specs.Prelude.{nat_eq, Result, Ok, Err, ⊤, nat_le, ◌&&◌, ◌*◌, ◌^◌, replicate, slice_get}
use Rattle.wasm_tree.specs.declared.trap.Trap.{Trap}
use Rattle.wasm_tree.specs.declared.trap.Trap.TheVariants as trap
use Rattle.wasm_tree.specs.declared.types.ValueType.TheVariants.{I32}
use Rattle.wasm_tree.specs.declared.op.LoadKind.{LoadKind}
use Rattle.wasm_tree.specs.declared.op.StoreKind.{StoreKind}
use Rattle.wasm_tree.specs.declared.op.Plain.{Plain}
use Rattle.wasm_tree.specs.declared.op.Plain.TheVariants as plain
use Rattle.wasm_tree.specs.declared.module_parts.Module.{Module}
use Rattle.wasm_tree.specs.Code.{Code, Stop, Then, Unreachable, Block, Loop, If, IfElse, Br, BrIf, BrTable, Return, Call, CallIndirect}
use Rattle.wasm_tree.specs.Valid.{results_of}
use Rattle.wasm_tree.specs.Numeric.{low, compare}
use Rattle.wasm_tree.specs.Exec.{ExecutionLimits, Store, State, Outcome, Falls, Branches, Returns, Traps, Stuck, Did, Goes, Fails, Lacks, with_memory, with_refusal, number_of, bytes_of, load_size, store_size, extended, pages_of, most_pages, unary_did, or_fails, binary_did, select_did, with_top, load_at, store_at, grow, act, tick_of, then_do, leave, again, turns, on_top, if_zero, Called, Back, Fell, Lost, Calls, after_call, same_type, type_of, entry, indirect, exec}
use Rattle.wasm_steps.specs.Follow.{CalledWithin, Frugal, loop}

-- the steps that are left are at most so many
abbrev pub Within : {World : Type 0} → ℕ → Outcome World → Type 0
Within most (Falls s vs) = s.left ≤ most
Within most (Branches l s vs) = s.left ≤ most
Within most (Returns s vs) = s.left ≤ most
Within most (Traps cause store) = ⊤
Within most Stuck = ⊤

more : {World : Type 0} → (a b : ℕ) (o : Outcome World) → a ≤ b → Within a o → Within b o
more a b (Falls s vs) le w = omega arith
more a b (Branches l s vs) le w = omega arith
more a b (Returns s vs) le w = omega arith
more a b (Traps cause store) le w = tt
more a b Stuck le w = tt

-- a plain instruction takes no steps
abbrev pub DidWithin : {World : Type 0} → ℕ → Did World → Type 0
DidWithin most (Goes s vs) = s.left ≤ most
DidWithin most (Fails cause) = ⊤
DidWithin most Lacks = ⊤

did_choice : {World : Type 0} → (n : ℕ) (b : Bool) (x y : Did World) → DidWithin n x → DidWithin n y → DidWithin n (cond b x y)
did_choice n true x y c d = c
did_choice n false x y c d = d

did_top : {World : Type 0} → (n : ℕ) (vs : List ℕ) (next : ℕ → List ℕ → Did World) → ((x : ℕ) (rest : List ℕ) → DidWithin n (next x rest)) → DidWithin n (with_top vs next)
did_top n [] next h = tt
did_top n (x ∷ vs) next h = h x vs

did_unary : {World : Type 0} → (f : ℕ → ℕ) (s : State World) (vs : List ℕ) → DidWithin s.left (unary_did f s vs)
did_unary f s [] = tt
did_unary f s (x ∷ vs) = omega arith

did_fails : {World : Type 0} → (s : State World) (r : Result ℕ Trap) (vs : List ℕ) → DidWithin s.left (or_fails s r vs)
did_fails s (Ok value) vs = omega arith
did_fails s (Err cause) vs = tt

did_binary : {World : Type 0} → (f : ℕ → ℕ → Result ℕ Trap) (s : State World) (vs : List ℕ) → DidWithin s.left (binary_did f s vs)
did_binary f s [] = tt
did_binary f s (y ∷ []) = tt
did_binary f s (y ∷ x ∷ vs) = did_fails s (f x y) vs

did_select : {World : Type 0} → (s : State World) (vs : List ℕ) → DidWithin s.left (select_did s vs)
did_select s [] = tt
did_select s (c ∷ []) = tt
did_select s (c ∷ y ∷ []) = tt
did_select s (c ∷ y ∷ x ∷ vs) = omega arith

did_load : {World : Type 0} → (s : State World) (kind : LoadKind) (address : ℕ) (vs : List ℕ) → DidWithin s.left (load_at s kind address vs)
did_load s kind address vs =
    did_choice s.left (nat_le (address + load_size kind) (length s.store.memory)) (Goes s (extended kind (number_of (take (load_size kind) (drop address s.store.memory))) ∷ vs)) (Fails trap.Bounds) (omega arith) tt

did_store : {World : Type 0} → (s : State World) (kind : StoreKind) (address value : ℕ) (vs : List ℕ) → DidWithin s.left (store_at s kind address value vs)
did_store s kind address value vs =
    did_choice s.left (nat_le (address + store_size kind) (length s.store.memory))
    (Goes (with_memory s (take address s.store.memory ++ bytes_of (store_size kind) value ++ drop (address + store_size kind) s.store.memory)) vs) (Fails trap.Bounds) (omega arith) tt

did_grow : {World : Type 0} → (limits : ExecutionLimits) (m : Module) (s : State World) (by : ℕ) (vs : List ℕ) → DidWithin s.left (grow limits m s by vs)
did_grow limits m s by vs =
    did_choice s.left (nat_le (pages_of s.store.memory + by) limits.pages && nat_le (pages_of s.store.memory + by) (most_pages m.memories))
    (Goes (with_memory s (s.store.memory ++ replicate (65536 * by) 0)) (pages_of s.store.memory ∷ vs)) (Goes (with_refusal s) ((2 ^ 32 - 1) ∷ vs)) (omega arith) (omega arith)

module _ {World : Type 0} (limits : ExecutionLimits) (m : Module) where
  pub did_within : (p : Plain) (s : State World) (vs : List ℕ) → DidWithin s.left (act limits m p s vs)
  did_within plain.Nop s vs = omega arith
  did_within plain.Drop s vs = did_top s.left vs _ (λ x rest. omega arith)
  did_within plain.Select s vs = did_select s vs
  did_within (plain.LocalGet x) s vs = omega arith
  did_within (plain.LocalSet x) s vs = did_top s.left vs _ (λ x rest. omega arith)
  did_within (plain.LocalTee x) s vs = did_top s.left vs _ (λ x rest. omega arith)
  did_within (plain.GlobalGet x) s vs = omega arith
  did_within (plain.GlobalSet x) s vs = did_top s.left vs _ (λ x rest. omega arith)
  did_within (plain.Load kind a) s vs = did_top s.left vs _ (λ x rest. did_load s kind (low I32 x + a.offset) rest)
  did_within (plain.Store kind a) s [] = tt
  did_within (plain.Store kind a) s (v ∷ []) = tt
  did_within (plain.Store kind a) s (v ∷ x ∷ vs) = did_store s kind (low I32 x + a.offset) v vs
  did_within plain.MemorySize s vs = omega arith
  did_within plain.MemoryGrow s vs = did_top s.left vs _ (λ x rest. did_grow limits m s (low I32 x) rest)
  did_within (plain.I32Const z) s vs = omega arith
  did_within (plain.I64Const z) s vs = omega arith
  did_within (plain.EqualsZero kind) s vs = did_unary _ s vs
  did_within (plain.Compare kind c) s vs = did_binary (λ x y. Ok (compare kind c x y)) s vs
  did_within (plain.Unary kind o) s vs = did_unary _ s vs
  did_within (plain.Binary kind o) s vs = did_binary _ s vs
  did_within (plain.Convert c) s vs = did_unary _ s vs

tick_within : {World : Type 0} → (n : ℕ) (s : State World) (next : State World → Outcome World) → ((t : State World) → Within t.left (next t)) → Within n (tick_of n s next)
tick_within zero s next h = tt
tick_within (suc n) s next h = more n (suc n) _ (omega arith) (h (record { left = n; store = s.store; locals = s.locals }))

do_within : {World : Type 0} → (n : ℕ) (before : State World) (d : Did World) (next : State World → List ℕ → Outcome World) → DidWithin n d → ((s : State World) (vs : List ℕ) → Within s.left (next s vs)) → Within n (then_do before d next)
do_within n before (Goes s vs) next w h = more s.left n _ w (h s vs)
do_within n before (Fails cause) next w h = tt
do_within n before Lacks next w h = tt

leave_within : {World : Type 0} → (n keep : ℕ) (below : List ℕ) (o : Outcome World) (next : State World → List ℕ → Outcome World) → Within n o → ((s : State World) (vs : List ℕ) → Within s.left (next s vs)) → Within n (leave keep below o next)
leave_within n keep below (Falls s vs) next w h = more s.left n _ w (h s (vs ++ below))
leave_within n keep below (Branches zero s vs) next w h = more s.left n _ w (h s _)
leave_within n keep below (Branches (suc l) s vs) next w h = w
leave_within n keep below (Returns s vs) next w h = w
leave_within n keep below (Traps cause store) next w h = tt
leave_within n keep below Stuck next w h = tt

again_within : {World : Type 0} → (n : ℕ) (o : Outcome World) (next : State World → Outcome World) → Within n o → ((s : State World) → Within s.left (next s)) → Within n (again o next)
again_within n (Falls s vs) next w h = w
again_within n (Branches zero s vs) next w h = more s.left n _ w (h s)
again_within n (Branches (suc l) s vs) next w h = w
again_within n (Returns s vs) next w h = w
again_within n (Traps cause store) next w h = tt
again_within n Stuck next w h = tt

turns_within : {World : Type 0} → (k : ℕ) (body : State World → Outcome World) → ((s : State World) → Within s.left (body s)) → (s : State World) → Within s.left (turns k body s)
turns_within zero body h s = tt
turns_within (suc k) body h s = tick_within s.left s _ (λ t. again_within t.left (body t) (turns k body) (h t) (turns_within k body h))

cond_within : {World : Type 0} → (n : ℕ) (b : Bool) (x y : Outcome World) → Within n x → Within n y → Within n (cond b x y)
cond_within n true x y c d = c
cond_within n false x y c d = d

top_within : {World : Type 0} → (n : ℕ) (vs : List ℕ) (next : ℕ → List ℕ → Outcome World) → ((v : ℕ) (rest : List ℕ) → Within n (next v rest)) → Within n (on_top vs next)
top_within n [] next h = tt
top_within n (v ∷ vs) next h = h v vs

call_within : {World : Type 0} → (n : ℕ) (x : Called World) (locals : List ℕ) (next : State World → List ℕ → Outcome World) → CalledWithin n x → ((s : State World) (vs : List ℕ) → Within s.left (next s vs)) → Within n (after_call locals x next)
call_within n (Back left store vs) locals next w h = more left n _ w (h (record { left = left; store = store; locals = locals }) vs)
call_within n (Fell cause store) locals next w h = tt
call_within n Lost locals next w h = tt

indirect_within : {World : Type 0} → (n : ℕ) (m : Module) (x : ℕ) (o : Option ℕ) (s : State World) (next : ℕ → Outcome World) → ((f : ℕ) → Within n (next f)) → Within n (indirect m x o s next)
indirect_within n m x None s next h = tt
indirect_within n m x (Some f) s next h = cond_within n (same_type (type_of m f) (slice_get m.types x)) (next f) (Traps trap.Indirect s.store) (h f) tt

again_same : {World : Type 0} → (n : ℕ) (o : Outcome World) (f g : State World → Outcome World) → Within n o → ((s : State World) → s.left ≤ n → f s ≡ g s) → again o f ≡ again o g
again_same n (Falls s vs) f g w h = refl
again_same n (Branches zero s vs) f g w h = h s w
again_same n (Branches (suc l) s vs) f g w h = refl
again_same n (Returns s vs) f g w h = refl
again_same n (Traps cause store) f g w h = refl
again_same n Stuck f g w h = refl

abbrev pub state : {World : Type 0} → ℕ → Store World → List ℕ → State World
state left store locals = record { left = left; store = store; locals = locals }

module _ {World : Type 0} (limits : ExecutionLimits) (m : Module) (calls : Calls World) (frugal : Frugal calls) where
  -- no execution gives steps back
  pub within : (c : Code) (s : State World) (vs : List ℕ) → Within s.left (exec limits m calls c s vs)
  within Stop s vs = omega arith
  within (Then p rest) s vs = tick_within s.left s _ (λ t. do_within t.left t (act limits m p t vs) _ (did_within limits m p t vs) (within rest))
  within (Unreachable rest) s vs = tick_within s.left s _ (λ t. tt)
  within (Block kind body rest) s vs = tick_within s.left s _ (λ t. leave_within t.left _ vs _ _ (within body t []) (within rest))
  within (Loop kind body rest) s vs = leave_within s.left _ vs _ _ (turns_within (suc s.left) _ (λ t. within body t []) s) (within rest)
  within (If kind first rest) s vs =
      tick_within s.left s _ (λ t. top_within t.left vs _ (λ v below. leave_within t.left (length (results_of kind)) below (if_zero v (Falls t []) (exec limits m calls first t [])) (exec limits m calls rest) (cond_within t.left (nat_eq (low I32 v) 0) (Falls t []) (exec limits m calls first t []) (omega arith) (within first t [])) (within rest)))
  within (IfElse kind first second rest) s vs =
      tick_within s.left s _ (λ t. top_within t.left vs _ (λ v below. leave_within t.left (length (results_of kind)) below (if_zero v (exec limits m calls second t []) (exec limits m calls first t [])) (exec limits m calls rest) (cond_within t.left (nat_eq (low I32 v) 0) (exec limits m calls second t []) (exec limits m calls first t []) (within second t []) (within first t [])) (within rest)))
  within (Br l rest) s vs = tick_within s.left s _ (λ t. omega arith)
  within (BrIf l rest) s vs = tick_within s.left s _ (λ t. top_within t.left vs _ (λ v below. cond_within t.left (nat_eq (low I32 v) 0) (exec limits m calls rest t below) (Branches l t below) (within rest t below) (omega arith)))
  within (BrTable ls last rest) s vs = tick_within s.left s _ (λ t. top_within t.left vs _ (λ v below. omega arith))
  within (Return rest) s vs = tick_within s.left s _ (λ t. omega arith)
  within (Call f rest) s vs = tick_within s.left s _ (λ t. call_within t.left _ t.locals _ (frugal f t.left t.store vs) (within rest))
  within (CallIndirect x rest) s vs =
      tick_within s.left s _ (λ t. top_within t.left vs _ (λ v below. indirect_within t.left m x (entry (slice_get t.store.table (low I32 v))) t _ (λ f. call_within t.left (calls f t.left t.store below) t.locals _ (frugal f t.left t.store below) (within rest))))

  -- more turns than steps are enough
  enough : (k j : ℕ) (body : Code) (n : ℕ) (store : Store World) (locals : List ℕ) → n < k → n < j → turns k (λ s. exec limits m calls body s []) (state n store locals) ≡ turns j (λ s. exec limits m calls body s []) (state n store locals)
  enough zero j body n store locals lk lj = absurd (omega arith)
  enough (suc k) zero body n store locals lk lj = absurd (omega arith)
  enough (suc k) (suc j) body zero store locals lk lj = refl
  enough (suc k) (suc j) body (suc n) store locals lk lj =
      again_same n (exec limits m calls body (state n store locals) []) _ _ (within body (state n store locals) []) (λ s le. enough k j body s.left s.store s.locals (omega arith) (omega arith))

  -- one turn
  pub turn : (body : Code) (n : ℕ) (store : Store World) (locals : List ℕ) → loop limits m calls body (state (suc n) store locals) ≡ again (exec limits m calls body (state n store locals) []) (loop limits m calls body)
  turn body n store locals =
      again_same n (exec limits m calls body (state n store locals) []) _ _ (within body (state n store locals) []) (λ s le. enough (suc n) (suc s.left) body s.left s.store s.locals (omega arith) (omega arith))
