-- The names in scope in a body: those of its scopes, the nearest first, and beyond them those of its outermost scope.
use Rattle.std.specs.Prelude.{◌≡◌, ℕ, zero, suc, ◌≤◌, List, [], ◌∷◌, ◌++◌, length, Some, drop, slice_get}
use Rattle.core_ir.specs.declared.constant.Constant.TheVariants as constant
use Rattle.core_ir.specs.declared.code.Operand.{Operand}
use Rattle.core_ir.specs.declared.code.Operand.TheVariants.{Slot, Captured, Member, Constant}
use Rattle.core_ir.specs.declared.scopes.Entry.{Entry}
use Rattle.core_ir.specs.declared.scopes.Outermost.{Outermost}
use Rattle.core_ir.specs.Choices.{nth}

-- ---- the outermost scope: the parameters, the functions of the group, and what the group sees

abbrev pub slots_from : ℕ → ℕ → List Operand
slots_from h zero = []
slots_from h (suc n) = Slot h ∷ slots_from (suc h) n

abbrev pub members_from : ℕ → ℕ → List Operand
members_from m zero = []
members_from m (suc n) = Member m ∷ members_from (suc m) n

abbrev pub captured_from : ℕ → ℕ → List Operand
captured_from x zero = []
captured_from x (suc n) = Captured x ∷ captured_from (suc x) n

abbrev pub outermost_names : Outermost → List Operand
outermost_names o = slots_from 0 o.parameters ++ (members_from 0 o.functions ++ captured_from 0 o.sees)

-- ---- further scopes: 0 has no names of its own, and the others are numbered from 1

abbrev pub names_at : List (List Operand) → ℕ → List Operand
names_at scopes zero = []
names_at scopes (suc n) = nth [] scopes n

-- the names of each scope, made behind these
abbrev pub named_after : List (List Operand) → List Entry → List (List Operand)
named_after scopes [] = scopes
named_after scopes (e ∷ es) = named_after (scopes ++ (e.name ∷ names_at scopes e.outer) ∷ []) es

abbrev pub named : List Entry → List (List Operand)
named es = named_after [] es

-- from a scope inside this one a jump leads out past that one's name and so many of the names of this one
pub record Jumps (scopes : List (List Operand)) (outer jump skip : ℕ) : Type 0 where
  pub past : ℕ
  pub skips : skip ≡ suc past
  pub back : jump ≤ outer
  pub most : past ≤ length (names_at scopes outer)
  pub leads : names_at scopes jump ≡ drop past (names_at scopes outer)

pub record EntryFits (scopes : List (List Operand)) (i : ℕ) (e : Entry) : Type 0 where
  pub outer : e.outer ≤ i
  pub names : names_at scopes (suc i) ≡ e.name ∷ names_at scopes e.outer
  pub jumps : Jumps scopes e.outer e.jump e.skip

abbrev pub EntriesFit : List Entry → Type 0
EntriesFit es = (i : ℕ) (e : Entry) → slice_get es i ≡ Some e → EntryFits (named es) i e

-- all names in a scope of a body; one that is not there reads ()
abbrev pub scope_names : List (List Operand) → Outermost → ℕ → List Operand
scope_names scopes o n = names_at scopes n ++ outermost_names o

abbrev pub name_at : List Operand → ℕ → Operand
name_at names x = nth (Constant constant.Unit) names x
