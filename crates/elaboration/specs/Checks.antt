-- What is done with a value where a pattern meets it (Motoko language manual, section "Patterns"): checks and loads, one after another, each
-- around those behind it. A part of the value is loaded once, and a name stands for it where it is bound or looked into.
use Rattle.std.specs.Prelude.{ℕ, suc, ◌-◌, List, [], ◌∷◌, ◌++◌, map, Bool, true, false, codes}
use Rattle.mo_types.specs.declared.datum.Datum.{Datum}
use Rattle.mo_types.specs.declared.datum.Datum.TheVariants as part
use Rattle.mo_values.specs.declared.operation.Operation.TheVariants as op
use Rattle.mo_values.specs.Shapes.{Bytes}
use Rattle.core_ir.specs.declared.constant.Constant.TheVariants as constant
use Rattle.core_ir.specs.declared.primitive.Constructor.{Constructor}
use Rattle.core_ir.specs.declared.primitive.Constructor.TheVariants as constructor
use Rattle.core_ir.specs.declared.primitive.Primitive.{Primitive}
use Rattle.core_ir.specs.declared.primitive.Primitive.TheVariants as primitive
use Rattle.core_ir.specs.Expressions.{Exp, Constant?, Do, Exps, NoExp, Operate, Choose, Match, Bind}
use Rattle.typed_tree.specs.Patterns as pattern
use Rattle.typed_tree.specs.Patterns.{Pat, Pats, Wildcard, Constant, Present?, Tagged, Parts, Fields, Either, NoPat, APat}
use Rattle.elaboration.specs.Scopes.{Place, Local, Scope, one, name}

pub data Check : Type 0 where
  -- the value is the nearest name in what follows
  Load : (e : Exp) → Check
  -- the value has the form, and what is inside is the nearest name in what follows
  Opens : (constructor : Constructor) → (e : Exp) → Check
  -- the value is null
  IsNull : (e : Exp) → Check
  -- the primitive gives `true`
  Holds : (primitive : Primitive) → (es : Exps) → Check

-- a check around what follows, with what is done where it fails
abbrev pub around : Check → Exp → Exp → Exp
around (Load e) fails e' = Do (Bind e') (one e)
around (Opens c e) fails e' = Do (Match c e' fails) (one e)
around (IsNull e) fails e' = Do (Match constructor.Present fails e') (one e)
around (Holds p es) fails e' = Do (Choose p e' fails) es

abbrev pub around_all : List Check → Exp → Exp → Exp
around_all [] fails e = e
around_all (c ∷ cs) fails e = around c fails (around_all cs fails e)

-- the checks of a pattern, under how many names what follows stands, and those of them that are names of the pattern, in the order in which they are written
pub record Checked : Type 0 where
  pub checks : List Check
  pub names : ℕ
  pub bound : List ℕ

abbrev pub unchecked : ℕ → Checked
unchecked names = record { checks = []; names = names; bound = [] }

abbrev pub after : List Check → Checked → Checked
after cs d = record { checks = cs ++ d.checks; names = d.names; bound = d.bound }

-- both, the second under the names of the first
abbrev pub and : Checked → Checked → Checked
and c d = record { checks = c.checks ++ d.checks; names = d.names; bound = c.bound ++ d.bound }

-- ---- the value that a pattern meets: one that has a name, or a part that is not loaded yet

pub data Source : Type 0 where
  Named : (level : ℕ) → Source
  Part : (e : Exp) → Source

-- under so many names
abbrev pub value_of : Source → ℕ → Exp
value_of (Named level) names = name names level
value_of (Part e) names = e

abbrev pub loads : Source → List Check
loads (Named level) = []
loads (Part e) = Load e ∷ []

-- where its name is when it is loaded, and how many names there are then
abbrev pub level_of : Source → ℕ → ℕ
level_of (Named level) names = level
level_of (Part e) names = names

abbrev pub names_with : Source → ℕ → ℕ
names_with (Named level) names = names
names_with (Part e) names = suc names

abbrev pub part_of : ℕ → ℕ → ℕ → Source
part_of i level names = Part (Do (Operate (primitive.Operate (op.Project i))) (one (name names level)))

abbrev pub field_of : Bytes → ℕ → ℕ → Source
field_of l level names = Part (Do (Operate (primitive.Operate (op.Field l))) (one (name names level)))

-- ---- literals

abbrev pub same : Datum → Exp → Check
same p e = Holds (primitive.Is p) (one e)

-- what is inside an option has no literal
abbrev pub literal : Datum → Exp → Check
literal part.Null e = IsNull e
literal p e = same p e

abbrev pub flag : Bool → Exp
flag b = Constant? (constant.Leaf (part.Flag b))

-- whether the checks hold
abbrev pub truth : List Check → Exp
truth cs = around_all cs (flag false) (flag true)

-- whether the first checks hold, or else the second ones
abbrev pub either : List Check → List Check → Check
either cs ds = Holds primitive.Copy (one (Do (Choose primitive.Copy (flag true) (truth ds)) (one (truth cs))))

abbrev mutual
  -- on a value, under so many names
  pub check : Pat → Source → ℕ → Checked
  check Wildcard v n = unchecked n
  check pattern.Bind v n = record { checks = loads v; names = names_with v n; bound = level_of v n ∷ [] }
  check (Constant part) v n = after (literal part (value_of v n) ∷ []) (unchecked n)
  check (Present? p) v n = after (Opens constructor.Present (value_of v n) ∷ []) (check p (Named n) (suc n))
  check (Tagged l p) v n = after (Opens (constructor.Tagged l) (value_of v n) ∷ []) (check p (Named n) (suc n))
  check (Parts ps) v n = after (loads v) (check_parts ps 0 (level_of v n) (names_with v n))
  check (Fields ls ps) v n = after (loads v) (check_fields ls ps (level_of v n) (names_with v n))
  check (Either p q) v n =
      after (loads v)
      (record { checks = either (check p (Named (level_of v n)) (names_with v n)).checks (check q (Named (level_of v n)) (names_with v n)).checks ∷ []; names = names_with v n; bound = [] })

  -- the parts from number i on
  pub check_parts : Pats → ℕ → ℕ → ℕ → Checked
  check_parts NoPat i level n = unchecked n
  check_parts (APat p ps) i level n =
      let c : Checked = check p (part_of i level n) n in
      and c (check_parts ps (suc i) level c.names)

  pub check_fields : List Bytes → Pats → ℕ → ℕ → Checked
  check_fields ls NoPat level n = unchecked n
  check_fields [] (APat p ps) level n = unchecked n
  check_fields (l ∷ ls) (APat p ps) level n =
      let c : Checked = check p (field_of l level n) n in
      and c (check_fields ls ps level c.names)

-- patterns on names, the first one on that of this level, the others on those before it
abbrev pub check_all : Pats → ℕ → ℕ → Checked
check_all NoPat level n = unchecked n
check_all (APat p ps) level n =
    let c : Checked = check p (Named level) n in
    and c (check_all ps (level - 1) c.names)

-- ---- what follows

abbrev pub locals : List ℕ → List Place
locals levels = map (λ level. Local level) levels

-- the scope of what follows
abbrev pub behind : Checked → Scope → Scope
behind c s = record s { places = locals c.bound ++ s.places; names = c.names }

-- the trap of a value that no pattern matches
abbrev pub fails : Exp
fails = Do (Operate (primitive.Operate (op.Fail (codes "pattern failed")))) NoExp
