-- An actor with a stable variable and a method that changes it is well typed.
use Rattle.std.proofs.Common.{◌≡◌, ℕ, zero, suc, ◌+◌, List, [], ◌∷◌, None, pos, codes, slice_get, arith, inl, inr, refl, sym, ap, ◌∙◌}
use Rattle.std.proofs.lemmas.Int.{ints}
use Rattle.mo_num.specs.declared.kind.Kind.TheVariants as kind
use Rattle.mo_num.specs.Kinds.{InRange}
use Rattle.mo_types.specs.declared.node.Node.{Node}
use Rattle.mo_types.specs.declared.node.Node.TheVariants as node
use Rattle.mo_types.specs.declared.node.Sort.TheVariants as sort
use Rattle.mo_types.specs.declared.node.TypeId.{TypeId}
use Rattle.mo_types.specs.Graph.{node_of_slot, node_or_bottom, head_at}
use Rattle.mo_types.specs.Sub.{Sub}
use Rattle.typed_tree.specs.declared.expression.Form.{roll-Form, fold-roll-Form}
use Rattle.typed_tree.specs.declared.expression.Form.TheOpen as F
use Rattle.typed_tree.specs.declared.expression.Step.{roll-Step, fold-roll-Step}
use Rattle.typed_tree.specs.declared.expression.TypedExpression.{roll-TypedExpression, fold-roll-TypedExpression}
use Rattle.typed_tree.specs.declared.expression.Function.{roll-Function}
use Rattle.typed_tree.specs.declared.program.Method.{Method}
use Rattle.typed_tree.specs.ActionTypes.{Context}
use Rattle.typed_tree.specs.Basics.{HasBasics}
use Rattle.typed_tree.specs.Examples.{nat, unit, counter_types, Layer, number, variable, increment, current, increments, inc, first_value, counter}
use Rattle.typed_tree.specs.Instances.{Mentions}
use Rattle.typed_tree.specs.Nodes.{StepNodes, form_step, step_step, case_step, function_step, expression_step, in_expression, in_step}
use Rattle.typed_tree.specs.PatternTypes.{IsInScope}
use Rattle.typed_tree.specs.Shareable.{Shares}
use Rattle.typed_tree.specs.Types.{AreLawful, IsLawfulNode, HasNoFuture}
use Rattle.typed_tree.specs.Typing.{Signature, in_body, Covers, Typed, Declares, OwnType}
use Rattle.typed_tree.specs.TypingLaws.{form_typing}
use Rattle.typed_tree.specs.Wants.{Want, Anything, Of, CellOf, Below, Serves}
use Rattle.typed_tree.specs.WellTyped.{WellTyped, IsPublic, sort_of, around, behind}
use Rattle.typed_tree.proofs.Rules as rules
use Rattle.typed_tree.proofs.Views.{declaration_views}

abbrev head : TypeId → Node TypeId
head = head_at counter_types

-- ---- types

abbrev at_index : ℕ → Node TypeId
at_index n = node_or_bottom (node_of_slot (slice_get counter_types n))

not_one : ◌≡◌ {A = ℕ} 0 1 → ⊥
not_one e = cc

lawful_at : (n : ℕ) → IsLawfulNode head (at_index n) × HasNoFuture head (at_index n)
lawful_at zero = (tt, tt)
lawful_at (suc zero) = (not_one, tt)
lawful_at (suc (suc zero)) = (tt, tt)
lawful_at (suc (suc (suc n))) = (tt, tt)

no_parameter_at : (n v : ℕ) (b : TypeId) → at_index n ≡ node.Variable v b → ⊥
no_parameter_at zero v b e = cc
no_parameter_at (suc zero) v b e = cc
no_parameter_at (suc (suc zero)) v b e = cc
no_parameter_at (suc (suc (suc n))) v b e = cc

lawful : AreLawful counter_types
lawful = record { defined = (tt, (tt, (tt, tt))); nodes = λ t. lawful_at t.index; bounds = λ t u b c v e f. absurd (no_parameter_at t.index v b e); rank = λ v. v; bounds_end = λ t b c v w e f. absurd (no_parameter_at t.index v b e) }

nat_mentions : (vs : List ℕ) (n : ℕ) → Mentions head vs n nat
unfolding Mentions
nat_mentions vs zero = tt
nat_mentions vs (suc n) = (tt, tt)

unit_mentions : (vs : List ℕ) (n : ℕ) → Mentions head vs n unit
unfolding Mentions
unit_mentions vs zero = tt
unit_mentions vs (suc n) = (tt, tt)

nat_in_scope : (vs : List ℕ) → IsInScope counter_types vs nat
nat_in_scope vs = (tt, record { by = nat_mentions vs })

unit_in_scope : (vs : List ℕ) → IsInScope counter_types vs unit
unit_in_scope vs = (tt, record { by = unit_mentions vs })

nat_sub : (n : ℕ) → Sub head n nat nat
unfolding Sub
nat_sub zero = tt
nat_sub (suc n) = inr (inl refl)

unit_sub : (n : ℕ) → Sub head n unit unit
unfolding Sub
unit_sub zero = tt
unit_sub (suc n) = inr tt

nat_below : Below head nat nat
nat_below = record { by = nat_sub }

unit_below : Below head unit unit
unit_below = record { by = unit_sub }

shares : (n : ℕ) → Shares head n nat
unfolding Shares
shares zero = tt
shares (suc n) = (tt, tt)

-- ---- the body of the method

typed : (t : TypeId) (x : Layer) (c : Context) (given w : Want TypeId) → OwnType head given t → IsInScope counter_types c.parameters t → form_typing counter_types x c given → Serves head given w →
    Typed counter_types (roll-TypedExpression (record { of_type = t; form = roll-Form x })) c w
typed t x c given w own scope f serves =
    (rules.expressions counter_types (record { of_type = t; form = roll-Form x }) c w).1 (given, own, scope, (rules.forms counter_types x c given).1 f, serves)

zero_in_range : InRange kind.Nat (pos 0)
zero_in_range = (omega (arith, ints), omega (arith, ints))

one_in_range : InRange kind.Nat (pos 1)
one_in_range = (omega (arith, ints), omega (arith, ints))

abbrev the_method : Method
the_method = record { name = codes "inc"; context = None; parameters = []; results = nat ∷ []; function = roll-Function inc }

abbrev outside : Context
outside = around counter_types Anything (Anything ∷ []) (record { name = codes "n"; of_type = nat; cell = 0 } ∷ [])

-- what is around what stands behind the declarations
abbrev end : Context
end = record outside { names = CellOf nat ∷ outside.names }

abbrev asked : Signature
asked = record { sort = sort_of the_method; generics = []; context = []; parameters = []; result = nat }

abbrev inside : Context
inside = in_body asked [] (behind counter end)

variable_typed : Typed counter_types variable inside (CellOf nat)
variable_typed = typed nat (F.Name 1) inside (CellOf nat) (CellOf nat) refl (nat_in_scope []) (CellOf nat, refl, refl) (nat_below, nat_below)

one_typed : Typed counter_types (roll-TypedExpression (record { of_type = nat; form = roll-Form (number 1) })) inside (Of nat)
one_typed = typed nat (number 1) inside (Of nat) (Of nat) refl (nat_in_scope []) (nat, refl, (tt, one_in_range)) nat_below

increment_typed : Typed counter_types increment inside (Of unit)
increment_typed = typed unit _ inside (Of unit) (Of unit) refl (unit_in_scope [])
    (unit, nat, nat, Of nat, Of nat, refl, refl, (nat, refl, refl, refl), variable_typed, nat_below, one_typed, nat_below) unit_below

current_typed : Typed counter_types current inside (Of nat)
current_typed = typed nat _ inside (Of nat) (Of nat) refl (nat_in_scope []) (CellOf nat ∷ [], (nat, refl, refl), (variable_typed, tt)) nat_below

step_typed : Declares counter_types (roll-Step (F.Evaluate increment)) inside []
step_typed = (rules.steps counter_types (F.Evaluate increment) inside []).1 (Of unit, increment_typed, refl)

increments_typed : Typed counter_types increments inside (Of nat)
increments_typed = typed nat _ inside (Of nat) (Of nat) refl (nat_in_scope []) (nat, refl, ([], step_typed, current_typed)) nat_below

-- ---- nodes

variable_nodes : in_expression (roll-TypedExpression (record { of_type = nat; form = roll-Form (F.Name 1) })) ≡ 1 + 0
unfolding in_expression in_step
variable_nodes = fold-roll-TypedExpression ℕ StepNodes ℕ ℕ ℕ form_step step_step case_step function_step expression_step (record { of_type = nat; form = roll-Form (F.Name 1) })
    ∙ ap (λ n. 1 + n) (fold-roll-Form ℕ StepNodes ℕ ℕ ℕ form_step step_step case_step function_step expression_step (F.Name 1))

one_nodes : in_expression (roll-TypedExpression (record { of_type = nat; form = roll-Form (number 1) })) ≡ 1 + 0
unfolding in_expression in_step
one_nodes = fold-roll-TypedExpression ℕ StepNodes ℕ ℕ ℕ form_step step_step case_step function_step expression_step (record { of_type = nat; form = roll-Form (number 1) })
    ∙ ap (λ n. 1 + n) (fold-roll-Form ℕ StepNodes ℕ ℕ ℕ form_step step_step case_step function_step expression_step (number 1))

increment_nodes : in_expression increment ≡ 1 + (in_expression variable + in_expression (roll-TypedExpression (record { of_type = nat; form = roll-Form (number 1) })))
unfolding in_expression in_step
increment_nodes = fold-roll-TypedExpression ℕ StepNodes ℕ ℕ ℕ form_step step_step case_step function_step expression_step _
    ∙ ap (λ n. 1 + n) (fold-roll-Form ℕ StepNodes ℕ ℕ ℕ form_step step_step case_step function_step expression_step _)

current_nodes : in_expression current ≡ 1 + (in_expression variable + 0)
unfolding in_expression in_step
current_nodes = fold-roll-TypedExpression ℕ StepNodes ℕ ℕ ℕ form_step step_step case_step function_step expression_step _
    ∙ ap (λ n. 1 + n) (fold-roll-Form ℕ StepNodes ℕ ℕ ℕ form_step step_step case_step function_step expression_step _)

step_nodes : (in_step (roll-Step (F.Evaluate increment))).all ≡ in_expression increment
unfolding in_expression in_step
step_nodes = ap (λ (s : StepNodes). s.all) (fold-roll-Step ℕ StepNodes ℕ ℕ ℕ form_step step_step case_step function_step expression_step (F.Evaluate increment))

increments_nodes : in_expression increments ≡ 1 + (((in_step (roll-Step (F.Evaluate increment))).all + 0) + in_expression current)
unfolding in_expression in_step
increments_nodes = fold-roll-TypedExpression ℕ StepNodes ℕ ℕ ℕ form_step step_step case_step function_step expression_step _
    ∙ ap (λ n. 1 + n) (fold-roll-Form ℕ StepNodes ℕ ℕ ℕ form_step step_step case_step function_step expression_step _)

covered : Covers 7 (0 + in_expression increments)
covered = omega (arith, increments_nodes, step_nodes, increment_nodes, current_nodes, variable_nodes, one_nodes)

first_nodes : (in_step (roll-Step first_value)).own ≡ 1 + in_expression (roll-TypedExpression (record { of_type = nat; form = roll-Form (number 0) }))
unfolding in_expression in_step
first_nodes = ap (λ (s : StepNodes). s.own) (fold-roll-Step ℕ StepNodes ℕ ℕ ℕ form_step step_step case_step function_step expression_step first_value)

zero_nodes : in_expression (roll-TypedExpression (record { of_type = nat; form = roll-Form (number 0) })) ≡ 1 + 0
unfolding in_expression in_step
zero_nodes = fold-roll-TypedExpression ℕ StepNodes ℕ ℕ ℕ form_step step_step case_step function_step expression_step (record { of_type = nat; form = roll-Form (number 0) })
    ∙ ap (λ n. 1 + n) (fold-roll-Form ℕ StepNodes ℕ ℕ ℕ form_step step_step case_step function_step expression_step (number 0))

list_covered : Covers 2 ((in_step (roll-Step first_value)).own + 0)
list_covered = omega (arith, first_nodes, zero_nodes)

-- ---- the program

sort_is : sort_of the_method ≡ sort.Shared
sort_is = ap (λ f. f.how) (declaration_views.function_of sort.Shared [] 7 [] increments)

not_local : sort.Shared ≡ sort.Local → ⊥
not_local e = cc

not_resume : codes "inc" ≡ codes "__resume" → ⊥
not_resume e = cc

public : IsPublic counter_types (behind counter end) the_method
public = record {
  name = (refl, not_resume);
  shared = λ e. not_local (sym sort_is ∙ e);
  parameters = tt;
  results = (record { by = shares }, tt);
  body = (
    [],
    nat,
    refl,
    refl,
    (rules.functions counter_types inc (behind counter end) asked).1
        ([], sort_is, tt, refl, (nat_in_scope [], tt), increments_typed, covered),
  );
}

zero_typed : Typed counter_types (roll-TypedExpression (record { of_type = nat; form = roll-Form (number 0) })) outside (Of nat)
zero_typed = typed nat (number 0) outside (Of nat) (Of nat) refl (nat_in_scope []) (nat, refl, (tt, zero_in_range)) nat_below

declared : Declares counter_types (roll-Step first_value) outside (CellOf nat ∷ [])
declared = (rules.steps counter_types first_value outside (CellOf nat ∷ [])).1 (nat, refl, zero_typed, refl)

basics : HasBasics counter_types
basics = record { flag = record { index = 2 }; is_flag = refl; unit = unit; is_unit = refl; natural = nat; is_natural = refl }

pub counter_is_well_typed : WellTyped counter
counter_is_well_typed = record {
  types = lawful;
  basics = basics;
  own = Anything;
  methods = Anything ∷ [];
  end = end;
  own_is = inl refl;
  methods_are = (inl refl, tt);
  declarations = (CellOf nat ∷ [], declared, refl);
  public = (public, tt);
  method_labels = (tt, tt);
  before_upgrade = tt;
  after_upgrade = tt;
  stable = ((record { by = shares }, refl), tt);
  stable_labels = (tt, tt);
  nodes = list_covered;
}
