-- The operands of a block, as far as they are known.
use Rattle.std.specs.Prelude.{List, [], ◌∷◌, Bool, true, false, Option, Some, None}
use Rattle.wasm_tree.specs.declared.rule.Rule.TheVariants as rule
use Rattle.wasm_tree.specs.declared.types.ValueType.{ValueType}
use Rattle.wasm_tree.specs.Exec.{same_kind}
use Rattle.wasm_valid.specs.declared.operands.Floor.{Floor}
use Rattle.wasm_valid.specs.declared.operands.Floor.TheVariants.{Nothing, Anything, Something}
use Rattle.wasm_valid.specs.Verdict.{Verdict, Breaks, need}

-- Those that are known, the topmost first, and what lies below them.
pub data Stack : Type 0 where
  On : List ValueType → Floor → Stack

-- Takes one operand of that kind.
abbrev pub pop : ValueType → Stack → (Stack → Verdict) → Verdict
pop kind (On [] Nothing) next = Breaks rule.Operand
pop kind (On [] Anything) next = next (On [] Anything)
pop kind (On [] Something) next = next (On [] Anything)
pop kind (On (top ∷ kinds) floor) next = need rule.Operand (same_kind top kind) (next (On kinds floor))

-- Takes one operand of any kind.
abbrev pub pop_any : Stack → (Stack → Verdict) → Verdict
pop_any (On [] Nothing) next = Breaks rule.Operand
pop_any (On [] Anything) next = next (On [] Anything)
pop_any (On [] Something) next = next (On [] Anything)
pop_any (On (top ∷ kinds) floor) next = next (On kinds floor)

abbrev pub push : ValueType → Stack → Stack
push kind (On kinds floor) = On (kind ∷ kinds) floor

-- One operand becomes another.
abbrev pub change : ValueType → ValueType → Stack → (Stack → Verdict) → Verdict
change from to s next = pop from s (λ s. next (push to s))

-- Two operands become one.
abbrev pub join : ValueType → ValueType → Stack → (Stack → Verdict) → Verdict
join from to s next = pop from s (λ s. change from to s next)

-- Takes two operands of one kind, and gives one back.
abbrev pub choose : Stack → (Stack → Verdict) → Verdict
choose (On [] Nothing) next = Breaks rule.Operand
choose (On [] Anything) next = next (On [] Something)
choose (On [] Something) next = next (On [] Something)
choose (On (top ∷ kinds) floor) next = change top top (On kinds floor) next

abbrev pub pop_all : List ValueType → Stack → (Stack → Verdict) → Verdict
pop_all [] s next = next s
pop_all (kind ∷ kinds) s next = pop kind s (λ s. pop_all kinds s next)

abbrev pub pop_result : Option ValueType → Stack → (Stack → Verdict) → Verdict
pop_result None s next = next s
pop_result (Some kind) s next = pop kind s next

abbrev pub push_result : Option ValueType → Stack → Stack
push_result None s = s
push_result (Some kind) s = push kind s

-- Whether the operands may be this result and nothing else.
abbrev pub fits : Option ValueType → Stack → Bool
fits None (On [] Nothing) = true
fits None (On [] Anything) = true
fits None (On [] Something) = false
fits None (On (top ∷ kinds) floor) = false
fits (Some kind) (On [] Nothing) = false
fits (Some kind) (On [] Anything) = true
fits (Some kind) (On [] Something) = true
fits (Some kind) (On (top ∷ []) Nothing) = same_kind top kind
fits (Some kind) (On (top ∷ []) Anything) = same_kind top kind
fits (Some kind) (On (top ∷ []) Something) = false
fits (Some kind) (On (top ∷ next ∷ kinds) floor) = false
