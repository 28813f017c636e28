-- A small type with tags.
use Rattle.std.specs.Prelude.{ℕ, zero, suc, [], ◌∷◌}
use Rattle.mo_num.specs.declared.kind.Kind.TheVariants as kind
use Rattle.mo_types.specs.declared.node.Node.{Node}
use Rattle.mo_types.specs.declared.node.Node.TheVariants as node
use Rattle.mo_types.specs.Examples.{err_field, ok_field}

-- 0 is `{#err : Nat; #ok : Nat}`, and all others are Nat
abbrev pub result_head : ℕ → Node ℕ
result_head zero = node.Variant (err_field ∷ ok_field ∷ [])
result_head (suc n) = node.Number kind.Nat
