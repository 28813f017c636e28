-- Which programs are treated here, as a test over their code: plain functions, primitives with a code, literals that are words or stand
-- ready as texts, and names that have words.
use Rattle.std.specs.Prelude.{ℕ, ◌+◌, ◌*◌, ◌^◌, List, [], ◌∷◌, length, map, Bool, true, false, ◌&&◌, nat_le, nat_lt}
use Rattle.mo_types.specs.declared.datum.Datum.{Datum}
use Rattle.mo_types.specs.declared.datum.Datum.TheVariants as part
use Rattle.wasm_tree.specs.Exec.{bits64}
use Rattle.core_ir.specs.declared.constant.Constant.{Constant}
use Rattle.core_ir.specs.declared.constant.Constant.TheVariants as constant
use Rattle.core_ir.specs.declared.code.Operand.{Operand}
use Rattle.core_ir.specs.declared.code.Operand.TheVariants.{Slot, Captured, Member, Global}
use Rattle.core_ir.specs.declared.code.Operand.TheVariants as operand
use Rattle.core_ir.specs.declared.primitive.Constructor.{Constructor}
use Rattle.core_ir.specs.declared.primitive.Constructor.TheVariants.{Present, Tagged}
use Rattle.core_ir.specs.Programs.{Group}
use Rattle.core_ir.specs.Code.{Code, Stop, Let, If, Match, Loop, Label, Branch, Make, Call, Return, Body, CodeProgram}
use Rattle.operation_codes.specs.Links.{stands_ready}
use Rattle.flat_emission.specs.Emission.{Linkage}
use Rattle.heap_layout.specs.Heaps.{Plan}
use Rattle.low_emit.specs.Modules.{Routine, plan, link, hidden, heap_begin}

module _ (plan : Plan) (link : Linkage) (hidden : ℕ) where
  abbrev pub is_ready : List ℕ → Bool
  is_ready t = stands_ready plan (link.bytes_at t) t

  abbrev pub is_plain_leaf : Datum → Bool
  is_plain_leaf part.Null = true
  is_plain_leaf (part.Flag b) = true
  is_plain_leaf (part.Number n) = nat_lt (bits64 n) (2 ^ 64)
  is_plain_leaf (part.Char c) = nat_lt c (2 ^ 32)
  is_plain_leaf (part.Text t) = is_ready t
  is_plain_leaf (part.Blob t) = is_ready t
  is_plain_leaf (part.Principal t) = is_ready t
  is_plain_leaf (part.Actor t) = is_ready t
  is_plain_leaf p = false

  abbrev pub is_plain : Constant → Bool
  is_plain constant.Unit = true
  is_plain (constant.Leaf p) = is_plain_leaf p

  abbrev pub is_read : Operand → Bool
  is_read (Global x) = nat_le hidden x
  is_read (operand.Constant c) = is_plain c
  is_read x = true

  abbrev pub are_read : List Operand → Bool
  are_read [] = true
  are_read (x ∷ xs) = is_read x && are_read xs

  -- variants are not treated yet: their tags would have to be told apart by typing
  abbrev pub is_matched : Constructor → Bool
  is_matched Present = true
  is_matched (Tagged l) = false

  abbrev pub is_treated_code : Code → Bool
  is_treated_code Stop = true
  is_treated_code (Let t p xs c) = link.treated p && (are_read xs && is_treated_code c)
  is_treated_code (If p xs y n c) = link.treated p && (are_read xs && (is_treated_code y && (is_treated_code n && is_treated_code c)))
  is_treated_code (Match t k x y n c) = is_matched k && (is_read x && (is_treated_code y && (is_treated_code n && is_treated_code c)))
  is_treated_code (Loop b c) = is_treated_code b && is_treated_code c
  is_treated_code (Label b c) = is_treated_code b && is_treated_code c
  is_treated_code (Branch l) = true
  is_treated_code (Make t xs k c) = are_read xs && is_treated_code c
  is_treated_code (Call t f xs c) = is_read f && (are_read xs && is_treated_code c)
  is_treated_code (Return x) = is_read x
  is_treated_code c = false

  abbrev pub is_one_segment : List Code → Bool
  is_one_segment (c ∷ []) = is_treated_code c
  is_one_segment cs = false

  -- one segment, and few parameters for its nodes
  abbrev pub is_treated_body : Body → Bool
  is_treated_body b = is_one_segment b.segments && nat_le b.parameters (8 + b.nodes)

  abbrev pub are_treated : List Body → Bool
  are_treated [] = true
  are_treated (b ∷ bs) = is_treated_body b && are_treated bs

  -- with blocks whose sizes are words of 32 bits
  abbrev pub are_treated_groups : List (Group Body) → Bool
  are_treated_groups [] = true
  are_treated_groups (g ∷ gs) = nat_lt (8 * (2 * length g.bodies + g.sees)) (2 ^ 32) && (are_treated g.bodies && are_treated_groups gs)

-- Of a program with these further routines and so many names of its own. The memory that it begins with is far from the end of all.
abbrev pub is_emittable : CodeProgram → List Routine → ℕ → Bool
is_emittable p more own =
    are_treated_groups (plan p more own) (link p more own) (hidden p more own) p.groups
    && (are_treated (plan p more own) (link p more own) (hidden p more own) (map (λ m. m.body) p.methods)
    && (is_treated_body (plan p more own) (link p more own) (hidden p more own) p.start && nat_le (8 * heap_begin p more own) (2 ^ 31)))
