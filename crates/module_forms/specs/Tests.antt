-- Tests of sizes and literals beside those that tell which programs are treated. Literals of typed programs are numbers of their kinds.
use Rattle.std.specs.Prelude.{ℕ, ◌+◌, ◌*◌, ◌^◌, List, [], ◌∷◌, length, Bool, true, ◌&&◌, nat_le, nat_lt}
use Rattle.mo_types.specs.declared.datum.Datum.{Datum}
use Rattle.mo_types.specs.declared.datum.Datum.TheVariants as part
use Rattle.core_ir.specs.declared.constant.Constant.{Constant}
use Rattle.core_ir.specs.declared.constant.Constant.TheVariants as constant
use Rattle.core_ir.specs.declared.code.Operand.{Operand}
use Rattle.core_ir.specs.declared.code.Operand.TheVariants as operand
use Rattle.core_ir.specs.Programs.{Group, Method}
use Rattle.core_ir.specs.Code.{Code, Let, If, Match, Loop, Label, Make, Call, Return, Body, CodeProgram}
use Rattle.core_ir.specs.FormedCode.{most_of, most_operands}
use Rattle.operation_codes.specs.Treated.{is_long}
use Rattle.low_emit.specs.Modules.{Routine, all_bodies, heap_begin}

abbrev pub is_long_leaf : Datum → Bool
is_long_leaf (part.Number n) = is_long n
is_long_leaf p = true

abbrev pub is_long_constant : Constant → Bool
is_long_constant constant.Unit = true
is_long_constant (constant.Leaf p) = is_long_leaf p

abbrev pub is_long_operand : Operand → Bool
is_long_operand (operand.Constant c) = is_long_constant c
is_long_operand x = true

abbrev pub are_long : List Operand → Bool
are_long [] = true
are_long (x ∷ xs) = is_long_operand x && are_long xs

abbrev pub is_long_code : Code → Bool
is_long_code (Let t p xs c) = are_long xs && is_long_code c
is_long_code (If p xs y n c) = are_long xs && (is_long_code y && (is_long_code n && is_long_code c))
is_long_code (Match t k x y n c) = is_long_operand x && (is_long_code y && (is_long_code n && is_long_code c))
is_long_code (Loop b c) = is_long_code b && is_long_code c
is_long_code (Label b c) = is_long_code b && is_long_code c
is_long_code (Make t xs k c) = are_long xs && is_long_code c
is_long_code (Call t f xs c) = is_long_operand f && (are_long xs && is_long_code c)
is_long_code (Return x) = is_long_operand x
is_long_code c = true

abbrev pub are_long_segments : List Code → Bool
are_long_segments [] = true
are_long_segments (c ∷ cs) = is_long_code c && are_long_segments cs

abbrev pub is_small_body : Body → Bool
is_small_body b = nat_le (b.slots + most_of most_operands b.segments) 49000 && are_long_segments b.segments

abbrev pub are_small_bodies : List Body → Bool
are_small_bodies [] = true
are_small_bodies (b ∷ bs) = is_small_body b && are_small_bodies bs

-- Sizes of blocks of functions are literals.
abbrev pub are_small_groups : List (Group Body) → Bool
are_small_groups [] = true
are_small_groups (g ∷ gs) = nat_lt (8 * (2 * length g.bodies + g.sees)) (2 ^ 31) && (are_small_bodies g.bodies && are_small_groups gs)

abbrev pub are_small_methods : List (Method Body) → Bool
are_small_methods [] = true
are_small_methods (m ∷ ms) = is_small_body m.body && are_small_methods ms

abbrev pub is_small : CodeProgram → List Routine → ℕ → Bool
is_small p more own =
    nat_lt (8 * heap_begin p more own) (2 ^ 31)
    && (nat_le (all_bodies p.groups) 100000 && (are_small_groups p.groups && (are_small_methods p.methods && is_small_body p.start)))
