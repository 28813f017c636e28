-- One reduction of a closed expression: Motoko language manual, section "Expressions". A value that is bound is put in the
-- place of its name; what stands around the leftmost place that can be reduced stays.
use Rattle.std.specs.Prelude.{◌+◌, Option, true, false, codes}
use Rattle.mo_types.specs.declared.datum.Datum.TheVariants as part
use Rattle.mo_types.specs.declared.node.Node.{Node}
use Rattle.mo_types.specs.declared.node.TypeId.{TypeId}
use Rattle.mo_values.specs.declared.operation.Operation.TheVariants as op
use Rattle.mo_values.specs.Costs.{weighing}
use Rattle.mo_values.specs.Shapes.{Leaf}
use Rattle.typed_tree.specs.declared.action.Action.TheVariants as action
use Rattle.typed_tree.specs.Patterns.{Pat, Constant, Present?}
use Rattle.typed_tree.specs.Language.{Value, Exp, Exps, Cases, Made, NoValue, Val, Name, Do, If, Switch, Group, Frame, Label, While, Repeat, For, Try, Update, NoExp, AnExp, NoCase, ACase, leaf, unit, then}
use Rattle.typed_tree.specs.Substitution.{put, group_of, group_nodes}
use Rattle.mo_meaning.specs.Acts.{Store, Given, Act, Goes, Stuck}
use Rattle.mo_meaning.specs.Places.{inside, value_or, all_values, values_or, one, two}
use Rattle.mo_meaning.specs.Cells.{goes}
use Rattle.mo_meaning.specs.Matching.{first_case}
use Rattle.mo_meaning.specs.Jumps.{at_label, at_handler, at_frame}
use Rattle.mo_meaning.specs.Actions.{act}

abbrev pub chosen : Store → Value → Exp → Exp → Act
chosen store (Made (Leaf (part.Flag true)) NoValue) a b = goes store a
chosen store (Made (Leaf (part.Flag false)) NoValue) a b = goes store b
chosen store _ a b = Stuck

-- a turn of a `for` over an object with `next`: whether there was a further element, for which the body ran. The rest of the
-- loop stands beside the pattern and not under its names.
abbrev pub turn_cases : Pat → Exp → Cases
turn_cases p b = ACase (Constant part.Null) (Val (leaf (part.Flag false))) (ACase (Present? p) (then b (Val (leaf (part.Flag true)))) NoCase)

abbrev pub turn_of : Pat → Value → Exp → Exp
turn_of p v b =
    If (Switch (Do action.Call (one (Do (action.Operate (op.Field (codes "next"))) (one (Val v))))) (turn_cases p b)) (For p (Val v) b) (Val unit)

-- `c := c op f`, where the place is known: it is read, then comes f, then the operation
abbrev pub update_of : Exp → (Exp → Exp) → Exp
update_of c operation = Do action.Write (two c (operation (Do action.Read (one c))))

module _ (head : TypeId → Node TypeId) (given : Option Given) (store : Store) where
  abbrev mutual
    pub reduce : Exp → Act
    reduce (Val v) = Stuck
    reduce (Name x) = Stuck
    reduce (Do a es) = values_or (all_values es) (act head given store a) (reduce_operand (Do a) es)
    reduce (If c a b) = value_or c (λ v. chosen store v a b) (inside (λ e. If e a b) (reduce c))
    reduce (Switch e cases) = value_or e (λ v. first_case store 1 v cases) (inside (λ f. Switch f cases) (reduce e))
    reduce (Group fns b) = Goes (weighing (1 + group_nodes fns)) store (put (group_of fns) b)
    reduce (Frame n e) = value_or e (λ v. goes store (Val v)) (at_frame store n (reduce e))
    reduce (Label e) = value_or e (λ v. goes store (Val v)) (at_label store (reduce e))
    reduce (While c b) = goes store (If c (then b (While c b)) (Val unit))
    reduce (Repeat b c) = goes store (then b (If c (Repeat b c) (Val unit)))
    reduce (For p e b) = value_or e (λ v. goes store (turn_of p v b)) (inside (λ f. For p f b) (reduce e))
    reduce (Try e p b) = value_or e (λ v. goes store (Val v)) (at_handler store p b (reduce e))
    reduce (Update o e f) =
        value_or e (λ c. goes store (update_of (Val c) (λ old. Do (action.Operate o) (two old f)))) (inside (λ e. Update o e f) (reduce e))

    -- the first operand that is no value
    pub reduce_operand : (Exps → Exp) → Exps → Act
    reduce_operand around NoExp = Stuck
    reduce_operand around (AnExp e es) =
        value_or e (λ v. reduce_operand (λ rest. around (AnExp (Val v) rest)) es) (inside (λ e. around (AnExp e es)) (reduce e))
