-- A routine that reads the first bytes of a message and its table of types, of at most so many entries (Candid specification, section
-- "Type definition table").
use Rattle.std.specs.Prelude.{ℕ, ◌+◌, [], ◌∷◌, Some, pos}
use Rattle.wasm_tree.specs.declared.types.ValueType.TheVariants.{I32, I64}
use Rattle.wasm_tree.specs.declared.op.Comparison.TheVariants.{Eq, Ne, LtU, GtU, GeU}
use Rattle.wasm_tree.specs.declared.op.BinaryOperator.TheVariants.{Add, Sub}
use Rattle.wasm_tree.specs.declared.op.Conversion.TheVariants.{Wrap, ExtendU}
use Rattle.wasm_tree.specs.declared.op.LoadKind.TheVariants as load
use Rattle.wasm_tree.specs.declared.op.StoreKind.TheVariants as store
use Rattle.low_ir.specs.declared.op.Operand.TheVariants.{Local, Word, Long}
use Rattle.low_ir.specs.declared.op.Operation.TheVariants.{Copy, IsZero, Compare, Binary, Convert, Load}
use Rattle.low_ir.specs.Tree.{Code, Stop, Return, Branch, Set, Block, Loop, If, BranchIf, Call, Function}
use Rattle.low_ir.specs.Tree as code
use Rattle.wire_numbers.specs.Scanning.{fails, byte}
use Rattle.wire_tables.specs.References.{unless, u32, ref}

-- Locals behind those of code that goes over bytes: 8 how many entries there are, 9 which one, 10 how many parts are left, 11 the least
-- number that the next field may have, 12 a place or a size, 13 and 14 the place and the size of the name before, 15 the place of a name,
-- 16 the mark, 17 the code of the entry.

abbrev pub magic_byte : ℕ → Code → Code
magic_byte c rest = byte (Set 6 (Compare I64 Ne (Local 5) (Long (pos c))) (unless rest))

-- how many bytes are left, as a word
abbrev pub left : Code → Code
left rest = Set 12 (Binary I32 Sub (Local 1) (Local 0)) (Set 7 (Convert ExtendU (Local 12)) rest)

-- the place of what is known of the entry in a local
abbrev pub place_of : ℕ → Code → Code
place_of x rest = Set 12 (Convert Wrap (Local x)) (Set 12 (Binary I32 Add (Local 12) (Local 2)) rest)

-- each entry in turn
abbrev pub each_entry : Code → Code → Code
each_entry body rest = Set 9 (Copy (Long (pos 0))) (Block (Loop (Set 6 (Compare I64 GeU (Local 9) (Local 8)) (BranchIf (Local 6) 1 body)) Stop) rest)

abbrev pub next_entry : Code
next_entry = Set 9 (Binary I64 Add (Local 9) (Long (pos 1))) (Branch 0)

-- each of as many parts as a number tells
abbrev pub each_part : Code → Code → Code
each_part body rest = Block (Loop (Set 6 (IsZero I64 (Local 10)) (BranchIf (Local 6) 1 body)) Stop) rest

abbrev pub next_part : Code
next_part = Set 10 (Binary I64 Sub (Local 10) (Long (pos 1))) (Branch 0)

abbrev pub references : Code → Code
references rest = u32 (Set 10 (Copy (Local 3)) (each_part (ref next_part) rest))

-- bytes behind their number, of which so many are left
abbrev pub counted : Code → Code
counted rest = u32 (left (Set 6 (Compare I64 GtU (Local 3) (Local 7)) (unless (Set 12 (Convert Wrap (Local 3)) rest))))

abbrev pub fields : Code
fields =
    u32
    (Set 10 (Copy (Local 3))
    (Set 6 (IsZero I64 (Local 3))
    (If (Local 6) (Set 6 (Compare I64 Eq (Local 17) (Long (pos 0x6c))) (If (Local 6) (Set 16 (Copy (Long (pos 2))) Stop) Stop Stop)) Stop
    (Set 11 (Copy (Long (pos 0)))
    (each_part (u32 (Set 6 (Compare I64 LtU (Local 3) (Local 11)) (unless (Set 11 (Binary I64 Add (Local 3) (Long (pos 1))) (ref next_part))))) Stop)))))

abbrev pub function : Code
function = references (references (counted (Set 0 (Binary I32 Add (Local 0) (Local 12)) (Set 16 (Copy (Long (pos 1))) Stop))))

-- a name comes behind the one before
abbrev pub in_order : ℕ → Code → Code
in_order orders rest = If (Local 13) (Call (Some 6) orders (Local 13 ∷ Local 14 ∷ Local 15 ∷ Local 12 ∷ []) (unless Stop)) Stop rest

module _ (orders most : ℕ) where
  abbrev pub methods : Code
  methods =
      u32
      (Set 10 (Copy (Local 3))
      (Set 13 (Copy (Word (pos 0)))
      (each_part
      (counted
      (Set 15 (Copy (Local 0))
      (in_order orders
      (Set 13 (Copy (Local 15))
      (Set 14 (Copy (Local 12))
      (Set 0 (Binary I32 Add (Local 0) (Local 12))
      (ref
      (Set 6 (Compare I64 GeU (Local 3) (Long (pos 4096)))
      (unless (place_of 3 (code.Store store.I64To8 (Local 12) (8 + most) (Long (pos 1)) next_part)))))))))))
      Stop)))

  abbrev pub is : ℕ → Code → Code → Code
  is c first second = Set 6 (Compare I64 Eq (Local 17) (Long (pos c))) (If (Local 6) first second Stop)

  abbrev pub entry_by : Code
  entry_by = is 0x6e (ref Stop) (is 0x6d (ref Stop) (is 0x6c fields (is 0x6b fields (is 0x6a function (is 0x69 methods fails)))))

  abbrev pub entry : Code
  entry = byte (Set 17 (Copy (Local 5)) (Set 16 (Copy (Long (pos 0))) (Block entry_by (place_of 9 (code.Store store.I64To8 (Local 12) 8 (Local 16) next_entry)))))

  abbrev pub no_wants : Code
  no_wants = place_of 9 (code.Store store.I64To8 (Local 12) (8 + most) (Long (pos 0)) next_entry)

  -- what methods refer to are functions
  abbrev pub wants : Code
  wants =
      place_of 9
      (Set 5 (Load load.I64From8U (Local 12) (8 + most))
      (Set 6 (IsZero I64 (Local 5))
      (If (Local 6) Stop (Set 5 (Load load.I64From8U (Local 12) 8) (Set 6 (Compare I64 Ne (Local 5) (Long (pos 1))) (unless Stop)))
      next_entry)))

  abbrev pub entries : Code
  entries =
      u32
      (Set 6 (Compare I64 GtU (Local 3) (Long (pos most)))
      (unless
      (Set 8 (Copy (Local 3))
      (left
      (Set 6 (Compare I64 GtU (Local 8) (Local 7))
      (unless (code.Store store.I64 (Local 2) 0 (Local 8) (each_entry no_wants (each_entry entry (each_entry wants (Return (Some (Local 0)))))))))))))

  abbrev pub read_table : Code
  read_table = magic_byte 0x44 (magic_byte 0x49 (magic_byte 0x44 (magic_byte 0x4c entries)))

  abbrev pub table : ℕ → Function
  table signature = record { signature = signature; locals = I64 ∷ I64 ∷ I64 ∷ I32 ∷ I64 ∷ I64 ∷ I64 ∷ I64 ∷ I64 ∷ I32 ∷ I32 ∷ I32 ∷ I32 ∷ I64 ∷ I64 ∷ []; body = read_table }
