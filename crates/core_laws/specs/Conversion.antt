-- From groups that see all names in scope to groups that see what their functions use.
use Rattle.std.specs.Prelude.{ℕ, suc, List, [], ◌∷◌, length, map, nat_eq, cond}
use Rattle.core_ir.specs.declared.code.Operand.{Operand}
use Rattle.core_ir.specs.declared.code.Operand.TheVariants.{Slot, Captured, Member, Global, Constant}
use Rattle.core_ir.specs.Choices.{nth}
use Rattle.core_ir.specs.Programs.{Group, Method}
use Rattle.core_ir.specs.Code.{Code, Stop, Let, If, Match, Loop, Label, Branch, Leave, Pass, Make, Call, Tabulate, Send, Wait, Raise, Return, Body, CodeProgram}
use Rattle.core_laws.specs.Uses.{picked, needs_of}

abbrev pub index : ℕ → List ℕ → ℕ
index n [] = 0
index n (x ∷ xs) = cond (nat_eq x n) 0 (suc (index n xs))

-- used are the values that are used, in the order in which the group will see them
abbrev pub seen_as : List ℕ → Operand → Operand
seen_as used (Slot x) = Slot x
seen_as used (Captured x) = Captured (index x used)
seen_as used (Member m) = Member m
seen_as used (Global i) = Global i
seen_as used (Constant k) = Constant k

-- needs tells of each group which of the values that it sees are used
module _ (needs : List (List ℕ)) where
  module _ (used : List ℕ) where
    abbrev pub convert : Code → Code
    convert Stop = Stop
    convert (Let t p xs c) = Let t p (map (seen_as used) xs) (convert c)
    convert (If p xs y n c) = If p (map (seen_as used) xs) (convert y) (convert n) (convert c)
    convert (Match t k x y n c) = Match t k (seen_as used x) (convert y) (convert n) (convert c)
    convert (Loop b c) = Loop (convert b) (convert c)
    convert (Label b c) = Label (convert b) (convert c)
    convert (Branch l) = Branch l
    convert (Leave j) = Leave j
    convert (Pass t x j) = Pass t (seen_as used x) j
    convert (Make t seen k c) = Make t (map (seen_as used) (picked seen (nth [] needs k))) k (convert c)
    convert (Call t f xs c) = Call t (seen_as used f) (map (seen_as used) xs) (convert c)
    convert (Tabulate t n f c) = Tabulate t (seen_as used n) (seen_as used f) (convert c)
    convert (Send t s f xs h c) = Send t s (seen_as used f) (map (seen_as used) xs) h (convert c)
    convert (Wait t x h j) = Wait t (seen_as used x) h j
    convert (Raise x h) = Raise (seen_as used x) h
    convert (Return x) = Return (seen_as used x)

    abbrev pub convert_body : Body → Body
    convert_body b = record { parameters = b.parameters; slots = b.slots; nodes = b.nodes; segments = map convert b.segments }

  abbrev pub convert_group : List ℕ → Group Body → Group Body
  convert_group used g = record { sees = length used; bodies = map (convert_body used) g.bodies }

  abbrev pub convert_groups : List (List ℕ) → List (Group Body) → List (Group Body)
  convert_groups all [] = []
  convert_groups [] (g ∷ gs) = convert_group [] g ∷ convert_groups [] gs
  convert_groups (used ∷ all) (g ∷ gs) = convert_group used g ∷ convert_groups all gs

  abbrev pub convert_method : Method Body → Method Body
  convert_method m = record { name = m.name; query = m.query; signature = m.signature; body = convert_body [] m.body }

abbrev pub converted : List (List ℕ) → CodeProgram → CodeProgram
converted needs p = record {
  head = p.head;
  groups = convert_groups needs needs p.groups;
  methods = map (convert_method needs) p.methods;
  stable = p.stable;
  save = convert_body needs [] p.save;
  start = convert_body needs [] p.start;
}

abbrev pub convert_program : CodeProgram → CodeProgram
convert_program p = converted (needs_of [] p.groups) p
