-- The pass through the code of a tree: the places, the heights and the blocks are those of the tree.
use Rattle.std.proofs.Common.{◌≡◌, ℕ, zero, suc, ◌+◌, ◌-◌, ◌≤◌, max, List, [], ◌∷◌, ◌++◌, length, map, Option, Some, None, refl, ap, ◌∙◌, arith}
use Rattle.std.specs.Prelude.{is_some, slice_get, slice_index}
use Rattle.wasm_tree.specs.declared.types.ValueType.{ValueType}
use Rattle.wasm_tree.specs.declared.op.Plain.{Plain}
use Rattle.wasm_tree.specs.declared.op.Op.{Op}
use Rattle.wasm_tree.specs.declared.op.Op.TheVariants as op
use Rattle.wasm_tree.specs.declared.module_parts.Module.{Module}
use Rattle.wasm_tree.specs.Rules.{results_of, type_of}
use Rattle.wasm_tree.specs.Code.{Code, Stop, Then, Unreachable, Block, Loop, If, IfElse, Br, BrIf, BrTable, Return, Call, CallIndirect}
use Rattle.wasm_tree.specs.Frames.{taken, given, peak, params_count, results_count}
use Rattle.wasm_steps.specs.Steps.{label}
use Rattle.wasm_layout.specs.declared.arity.Arities.{Arities}
use Rattle.wasm_layout.specs.declared.exits.Exit.{Exit}
use Rattle.wasm_layout.specs.declared.pass.Open.{Open}
use Rattle.wasm_layout.specs.declared.pass.Body.{Body}
use Rattle.wasm_layout.specs.declared.pass.Pass.{Pass}
use Rattle.wasm_layout.specs.Arities.{count_of, arity_at}
use Rattle.wasm_layout.specs.Passes.{label_at, close, advance, advances}

abbrev pub pass : ℕ → List Exit → List Open → ℕ → ℕ → ℕ → Pass
pass place exits opens top greatest blocks = record { place = place; exits = exits; opens = opens; top = top; peak = greatest; nesting = blocks }

pub same_pass : (exits : List Exit) (opens : List Open) {pl pl' t t' pk pk' n n' : ℕ} → pl ≡ pl' → t ≡ t' → pk ≡ pk' → n ≡ n' → pass pl exits opens t pk n ≡ pass pl' exits opens t' pk' n'
same_pass exits opens a b c d = cc

-- Where the code begins is no higher than its peak.
pub above : (m : Module) (labels : List ℕ) (base h : ℕ) (c : Code) → base + h ≤ peak m labels base h c
above m ls base h Stop = omega arith
above m ls base h (Then p r) = omega arith
above m ls base h (Unreachable r) = omega arith
above m ls base h (Block k b r) = let e = above m (length (results_of k) ∷ ls) (base + h) 0 b in omega arith
above m ls base h (Loop k b r) = let e = above m (0 ∷ ls) (base + h) 0 b in omega arith
above m ls base h (If k b r) = omega arith
above m ls base h (IfElse k a b r) = omega arith
above m ls base h (Br l r) = omega arith
above m ls base h (BrIf l r) = omega arith
above m ls base h (BrTable targets last r) = omega arith
above m ls base h (Return r) = omega arith
above m ls base h (Call f r) = omega arith
above m ls base h (CallIndirect x r) = omega arith

-- The tables are those of the module.
pub record Agree (a : Arities) (m : Module) : Type 0 where
  pub params : (f : ℕ) → (arity_at a.functions f).params ≡ params_count (type_of m f)
  pub results : (f : ℕ) → count_of (arity_at a.functions f).result ≡ results_count (type_of m f)
  pub type_params : (x : ℕ) → (arity_at a.types x).params ≡ params_count (slice_get m.types x)
  pub type_results : (x : ℕ) → count_of (arity_at a.types x).result ≡ results_count (slice_get m.types x)

pub counted : (kind : Option ValueType) → count_of (is_some kind) ≡ length (results_of kind)
counted None = refl
counted (Some k) = refl

-- How many values a branch to each label takes.
abbrev pub keeps_of : List Open → List ℕ
keeps_of opens = map (λ o. o.label.keep) opens

pub kept_at : (opens : List Open) (l : ℕ) → (label_at opens l).keep ≡ slice_index (keeps_of opens) l
kept_at [] l = refl
kept_at (o ∷ os) zero = refl
kept_at (o ∷ os) (suc l) = kept_at os l

-- What a block's label and its results are.
abbrev opened : ℕ → ℕ → ℕ → Option ValueType → Open
opened to height keep kind = record { label = label to height keep; result = is_some kind }

abbrev pub block_open : ℕ → ℕ → Option ValueType → Open
block_open to height kind = opened to height (length (results_of kind)) kind

abbrev pub loop_open : ℕ → ℕ → Option ValueType → Open
loop_open to height kind = opened to height 0 kind

module _ (a : Arities) (m : Module) (agree : Agree a m) (body : Body) where
  pub advances_append : (x y : List Op) (s : Pass) → advances a body (x ++ y) s ≡ advances a body y (advances a body x s)
  advances_append [] y s = refl
  advances_append (o ∷ x) y s = advances_append x y (advance a body o s)

  -- After the instructions the pass stands here, at some height of the block.
  pub record Ran (s : Pass) (ops : List Op) (place : ℕ) (exits : List Exit) (opens : List Open) (base greatest blocks : ℕ) : Type 0 where
    pub height : ℕ
    pub is : advances a body ops s ≡ pass place exits opens (base + height) greatest blocks

  -- One instruction and those behind it.
  pub again : (o : Op) {s s1 : Pass} {ops : List Op} {pl pl' : ℕ} {ex : List Exit} {os : List Open} {base g g' b b' : ℕ} → advance a body o s ≡ s1 → Ran s1 ops pl ex os base g b → pl ≡ pl' → g ≡ g' → b ≡ b' → Ran s (o ∷ ops) pl' ex os base g' b'
  again o {ops = ops} {ex = ex} {os = os} e r x y z = record { height = r.height; is = ap (advances a body ops) e ∙ r.is ∙ same_pass ex os x refl y z }

  module _ (o : Open) (outer : List Open) (place : ℕ) (exits : List Exit) (h p k : ℕ) where
    -- Each instruction, from a height of the block.
    abbrev here : Pass
    here = pass place exits (o ∷ outer) (o.label.height + h) p k

    abbrev after : ℕ → Pass
    after h = pass (place + 1) exits (o ∷ outer) (o.label.height + h) (max p (o.label.height + h)) k

    moved : (t n : ℕ) → t ≡ o.label.height + n → pass (place + 1) exits (o ∷ outer) t (max p t) k ≡ after n
    moved t n e = ap (λ i. pass (place + 1) exits (o ∷ outer) i (max p i) k) e

    pub plain_is : (q : Plain) → advance a body (op.Plain q) here ≡ after (h - taken q + given q)
    plain_is q = moved _ (h - taken q + given q) (omega arith)

    pub unreachable_is : advance a body op.Unreachable here ≡ after 0
    unreachable_is = moved _ 0 (omega arith)

    pub br_is : (l : ℕ) → advance a body (op.Br l) here ≡ after 0
    br_is l = moved _ 0 (omega arith)

    pub br_if_is : (l : ℕ) → advance a body (op.BrIf l) here ≡ after (h - (1 + slice_index (keeps_of (o ∷ outer)) l) + slice_index (keeps_of (o ∷ outer)) l)
    br_if_is l = let e = kept_at (o ∷ outer) l in moved _ (h - (1 + slice_index (keeps_of (o ∷ outer)) l) + slice_index (keeps_of (o ∷ outer)) l) (omega arith)

    pub br_table_is : (n : ℕ) → advance a body (op.BrTable n) here ≡ after 0
    br_table_is n = moved _ 0 (omega arith)

    pub target_is : (l : ℕ) → advance a body (op.Target l) here ≡ after h
    target_is l = refl

    pub return_is : advance a body op.Return here ≡ after 0
    return_is = moved _ 0 (omega arith)

    pub else_is : advance a body op.Else here ≡ after 0
    else_is = moved _ 0 (omega arith)

    pub call_is : (f : ℕ) → advance a body (op.Call f) here ≡ after (h - params_count (type_of m f) + results_count (type_of m f))
    call_is f = let x = agree.params f in let y = agree.results f in moved _ (h - params_count (type_of m f) + results_count (type_of m f)) (omega arith)

    pub call_indirect_is : (x : ℕ) → advance a body (op.CallIndirect x) here ≡ after (h - 1 - params_count (slice_get m.types x) + results_count (slice_get m.types x))
    call_indirect_is x =
        let y = agree.type_params x in let z = agree.type_results x in
        moved _ (h - 1 - params_count (slice_get m.types x) + results_count (slice_get m.types x)) (omega arith)

    -- A loop begins.
    pub loop_is : (kind : Option ValueType) → advance a body (op.Loop kind) here
        ≡ pass (place + 1) exits (loop_open place (o.label.height + h) kind ∷ o ∷ outer) (o.label.height + h + 0) (max p (o.label.height + h)) (max k (length outer + 1))
    loop_is kind = same_pass exits (loop_open place (o.label.height + h) kind ∷ o ∷ outer) refl (omega arith) refl (omega arith)

    -- The block that is open ends.
    pub close_is : (outside : Open) (more : List Open) (n : ℕ) → outer ≡ outside ∷ more → o.label.height + count_of o.result ≡ outside.label.height + n
        → close here ≡ pass place exits outer (outside.label.height + n) (max p (outside.label.height + n)) k
    close_is outside more n e same = ap (λ i. pass place exits outer i (max p i) k) (omega arith)

  module _ (o : Open) (outer : List Open) (place : ℕ) (x : Exit) (exits : List Exit) (h p k : ℕ) where
    -- A block or an `if` begins.
    began : (kind : Option ValueType) (i to t height : ℕ) → i ≡ to → t ≡ height
        → pass (place + 1) exits (opened i t (count_of (is_some kind)) kind ∷ o ∷ outer) t (max p t) (max k (length (o ∷ outer)))
        ≡ pass (place + 1) exits (block_open to height kind ∷ o ∷ outer) (height + 0) (max p height) (max k (length outer + 1))
    began kind i to t height e f =
        ap (λ i. pass (place + 1) exits (opened i t (count_of (is_some kind)) kind ∷ o ∷ outer) t (max p t) (max k (length (o ∷ outer)))) e
        ∙ ap (λ n. pass (place + 1) exits (opened to t n kind ∷ o ∷ outer) t (max p t) (max k (length (o ∷ outer)))) (counted kind)
        ∙ ap (λ t. pass (place + 1) exits (block_open to t kind ∷ o ∷ outer) t (max p t) (max k (length (o ∷ outer)))) f
        ∙ same_pass exits (block_open to height kind ∷ o ∷ outer) refl (omega arith) refl (omega arith)

    pub block_is : (kind : Option ValueType) (to : ℕ) → body.finish - x.end ≡ to → advance a body (op.Block kind) (pass place (x ∷ exits) (o ∷ outer) (o.label.height + h) p k)
        ≡ pass (place + 1) exits (block_open to (o.label.height + h) kind ∷ o ∷ outer) (o.label.height + h + 0) (max p (o.label.height + h)) (max k (length outer + 1))
    block_is kind to e = began kind (body.finish - x.end) to (o.label.height + h) (o.label.height + h) e refl

    pub if_is : (kind : Option ValueType) (to : ℕ) → body.finish - x.end ≡ to → advance a body (op.If kind) (pass place (x ∷ exits) (o ∷ outer) (o.label.height + h) p k)
        ≡ pass (place + 1) exits (block_open to (o.label.height + (h - 1)) kind ∷ o ∷ outer) (o.label.height + (h - 1) + 0) (max p (o.label.height + (h - 1))) (max k (length outer + 1))
    if_is kind to e = began kind (body.finish - x.end) to _ (o.label.height + (h - 1)) e (omega arith)
