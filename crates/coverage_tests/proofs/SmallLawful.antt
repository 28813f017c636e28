-- The small types are lawful.
use Rattle.std.proofs.Common.{◌≡◌, ℕ, zero, suc, List, slice_get, arith, refl, sym, subst}
use Rattle.mo_types.specs.declared.node.Node.{Node}
use Rattle.mo_types.specs.declared.node.Node.TheVariants as node
use Rattle.mo_types.specs.declared.node.TypeId.{TypeId}
use Rattle.mo_types.specs.Graph.{Slot, node_of_slot, node_or_bottom, head_at}
use Rattle.typed_tree.specs.Types.{AreLawful, IsLawfulNode, HasNoFuture}
use Rattle.coverage_tests.specs.Small.{small}

abbrev head : TypeId → Node TypeId
head = head_at small

abbrev at_index : ℕ → Node TypeId
at_index n = node_or_bottom (node_of_slot (slice_get small n))

-- the numbers of the tags
tags_differ : ◌≡◌ {A = ℕ} 5691729 2582449859 → ⊥
tags_differ e = omega (arith, e)

lawful_at : (n : ℕ) → IsLawfulNode head (at_index n) × HasNoFuture head (at_index n)
lawful_at zero = (tt, tt)
lawful_at (suc zero) = ((((tags_differ, tt), (tt, tt)), (refl, (refl, tt))), (refl, (refl, tt)))
lawful_at (suc (suc n)) = (tt, tt)

no_parameter_at : (n v : ℕ) (b : TypeId) → at_index n ≡ node.Variable v b → ⊥
no_parameter_at zero v b e = cc
no_parameter_at (suc zero) v b e = cc
no_parameter_at (suc (suc n)) v b e = cc

small_is_lawful : AreLawful small
small_is_lawful = record { defined = (tt, ((omega arith, (omega arith, tt)), tt)); nodes = λ t. lawful_at t.index; bounds = λ t u b c v e f. absurd (no_parameter_at t.index v b e); rank = λ v. v; bounds_end = λ t b c v w e f. absurd (no_parameter_at t.index v b e) }

pub small_lawful : (types : List Slot) → types ≡ small → AreLawful types
small_lawful types e = subst AreLawful (sym e) small_is_lawful
