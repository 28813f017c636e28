-- What `for` goes over, by heads.
use Rattle.std.specs.Prelude.{◌≡◌, Bool, List, [], ◌∷◌, Option, Some, None, IfSome, codes, cond, option_map}
use Rattle.std.specs.Option.{option_and_then}
use Rattle.mo_types.specs.declared.node.Node.{Node}
use Rattle.mo_types.specs.declared.node.Node.TheVariants as node
use Rattle.mo_types.specs.declared.node.Sort.TheVariants as sort
use Rattle.type_terms.specs.declared.form.Form.{Form}
use Rattle.type_terms.specs.declared.form.TermId.{TermId}
use Rattle.typing_rules.specs.AbstractSyntax.{Bytes}
use Rattle.typing_rules.specs.Calls.{item_of, items_of}
use Rattle.typing_rules.specs.Definitions.{Definitions}
use Rattle.typing_rules.specs.Heads.{head, members_head}
use Rattle.typing_rules.specs.Members.{constant_field, part_of}
use Rattle.typing_rules.specs.Terms.{Term}
use Rattle.type_definitions.specs.Definitions.{Listed, rules_in}
use Rattle.type_definitions.specs.Meanings.{term}
use Rattle.type_definitions.specs.Tables.{Later, Within}
use Rattle.met_types.specs.States.{State, Goes, Kept, Stands}

abbrev pub unless_variable : {A : Type 0} → Bool × A → Option A
unless_variable q = cond q.0 None (Some q.1)

-- the type of a field that is no `var` field
abbrev pub constant_part : Bytes → Node Term → Option Term
constant_part x y = part_of (constant_field x y)

abbrev pub one_result : {A : Type 0} → List A → List A → Option A
one_result [] (r ∷ []) = Some r
one_result _ _ = None

-- the one result of a local function without parameters
abbrev pub given_of : {A : Type 0} → Node A → Option A
given_of (node.Func sort.Local parameters results) = one_result parameters results
given_of _ = None

-- whether it is the head of an option of nothing
abbrev pub nothing_of : {A : Type 0} → Node A → Option (Unit {0})
nothing_of node.Null = Some tt
nothing_of node.Bottom = Some tt
nothing_of _ = None

-- what `next` gives
abbrev pub next_of : Definitions → Node Term → Option Term
next_of defs y = option_and_then (λ u. given_of (head defs u)) (constant_part (codes "next") y)

abbrev pub NextGives : State → TermId → Option TermId → Type 0
NextGives s id o = (later : List Form) → Later s.forms later → next_of (rules_in later s.listed) (members_head (rules_in later s.listed) (term later id)) ≡ option_map (term later) o

abbrev pub item_in : TermId → List Form → Listed → Option Term
item_in id later l = item_of (rules_in later l) (head (rules_in later l) (term later id))

abbrev pub items_in : TermId → List Form → Listed → Option Term
items_in id later l = items_of (rules_in later l) (members_head (rules_in later l) (term later id))

-- A term was found or made, if there is one. What was met is as before.
pub record Finds (old : State) (in_table : List Form → Listed → Option Term) (o : Option TermId) (new : State) : Type 0 where
  pub kept : Kept new
  pub goes : Goes old new
  pub stands : (met : List Term) → Stands met old → Stands met new
  pub within : IfSome o (Within new.forms)
  pub is : (later : List Form) → Later new.forms later → in_table later new.listed ≡ option_map (term later) o
