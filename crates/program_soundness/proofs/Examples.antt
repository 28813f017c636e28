-- The small program is as the laws ask.
use Rattle.std.proofs.Common.{◌≡◌, ℕ, zero, suc, ◌+◌, ◌*◌, ◌≤◌, List, [], ◌∷◌, None, pos, codes, slice_get, arith, inl, inr, refl, sym, ap, ◌∙◌, subst}
use Rattle.std.proofs.lemmas.Int.{ints}
use Rattle.mo_num.specs.declared.kind.Kind.TheVariants as kind
use Rattle.mo_num.specs.Kinds.{InRange}
use Rattle.mo_types.specs.declared.node.Node.{Node}
use Rattle.mo_types.specs.declared.node.Node.TheVariants as node
use Rattle.mo_types.specs.declared.node.Sort.TheVariants as sort
use Rattle.mo_types.specs.declared.node.TypeId.{TypeId}
use Rattle.mo_types.specs.Graph.{node_of_slot, node_or_bottom, head_at}
use Rattle.mo_types.specs.Sub.{Sub}
use Rattle.typed_tree.specs.declared.expression.Form.{roll-Form, fold-roll-Form}
use Rattle.typed_tree.specs.declared.expression.TypedExpression.{fold-roll-TypedExpression}
use Rattle.typed_tree.specs.ActionTypes.{Context}
use Rattle.typed_tree.specs.Examples.{nat, a_nat, body_of, method_of, five}
use Rattle.typed_tree.specs.Instances.{Mentions}
use Rattle.typed_tree.specs.Nodes.{StepNodes, form_step, step_step, case_step, function_step, expression_step, in_expression}
use Rattle.typed_tree.specs.PatternTypes.{IsInScope}
use Rattle.typed_tree.specs.Shareable.{Shares}
use Rattle.typed_tree.specs.Types.{AreLawful, IsLawfulNode, HasNoFuture}
use Rattle.typed_tree.specs.Typing.{Signature, in_body, Covers, Typed}
use Rattle.typed_tree.specs.Wants.{Anything, Of}
use Rattle.typed_tree.specs.WellTyped.{WellTyped, IsPublic, sort_of, around, behind}
use Rattle.typed_tree.proofs.Rules as rules
use Rattle.typed_tree.proofs.Views.{declaration_views}
use Rattle.mo_values.specs.Shapes.{Bytes}
use Rattle.typed_tree.specs.ProgramView.{program}
use Rattle.mo_meaning.specs.Coding.{Coding}
use Rattle.mo_meaning.specs.Starting.{start}
use Rattle.program_soundness.specs.Examples.{basic_types, answers, IsStarted}
use Rattle.typed_tree.specs.Basics.{HasBasics}

abbrev head : TypeId → Node TypeId
head = head_at basic_types

abbrev at_index : ℕ → Node TypeId
at_index n = node_or_bottom (node_of_slot (slice_get basic_types n))

lawful_at : (n : ℕ) → IsLawfulNode head (at_index n) × HasNoFuture head (at_index n)
lawful_at zero = (tt, tt)
lawful_at (suc zero) = (tt, tt)
lawful_at (suc (suc zero)) = (tt, tt)
lawful_at (suc (suc (suc zero))) = (λ e. cc, tt)
lawful_at (suc (suc (suc (suc n)))) = (tt, tt)

no_parameter_at : (n v : ℕ) (b : TypeId) → at_index n ≡ node.Variable v b → ⊥
no_parameter_at zero v b e = cc
no_parameter_at (suc zero) v b e = cc
no_parameter_at (suc (suc zero)) v b e = cc
no_parameter_at (suc (suc (suc zero))) v b e = cc
no_parameter_at (suc (suc (suc (suc n)))) v b e = cc

has_basics : HasBasics basic_types
has_basics = record { flag = record { index = 2 }; is_flag = refl; unit = record { index = 3 }; is_unit = refl; natural = nat; is_natural = refl }

lawful : AreLawful basic_types
lawful = record { defined = (tt, (tt, (tt, (tt, tt)))); nodes = λ t. lawful_at t.index; bounds = λ t u b c v e f. absurd (no_parameter_at t.index v b e); rank = λ v. v; bounds_end = λ t b c v w e f. absurd (no_parameter_at t.index v b e) }

mentions : (vs : List ℕ) (n : ℕ) → Mentions head vs n nat
unfolding Mentions
mentions vs zero = tt
mentions vs (suc n) = (tt, tt)

in_scope : (vs : List ℕ) → IsInScope basic_types vs nat
in_scope vs = (tt, record { by = mentions vs })

below_itself : (n : ℕ) → Sub head n nat nat
unfolding Sub
below_itself zero = tt
below_itself (suc n) = inr (inl refl)

-- ---- `5` is a Nat

in_range : InRange kind.Nat (pos 5)
in_range = (omega (arith, ints), omega (arith, ints))

five_fits : (c : Context) → Typed basic_types (a_nat five) c (Of nat)
five_fits c = (rules.expressions basic_types (record { of_type = nat; form = roll-Form five }) c (Of nat)).1
    (Of nat, refl, in_scope c.parameters, (rules.forms basic_types five c (Of nat)).1 (nat, refl, (tt, in_range)), record { by = below_itself })

five_nodes : in_expression (a_nat five) ≡ 1
unfolding in_expression
five_nodes = fold-roll-TypedExpression ℕ StepNodes ℕ ℕ ℕ form_step step_step case_step function_step expression_step (record { of_type = nat; form = roll-Form five })
    ∙ ap (λ n. 1 + n) (fold-roll-Form ℕ StepNodes ℕ ℕ ℕ form_step step_step case_step function_step expression_step five)

five_covered : Covers 1 (0 + in_expression (a_nat five))
five_covered = subst (λ n. 0 + n ≤ 4 * 1) (sym five_nodes) (omega arith)

-- ---- a method that answers it

sort_is : sort_of (method_of sort.Query (a_nat five)) ≡ sort.Query
sort_is = ap (λ f. f.how) (declaration_views.function_of sort.Query [] 1 [] (a_nat five))

abbrev asked : Signature
asked = record { sort = sort_of (method_of sort.Query (a_nat five)); generics = []; context = []; parameters = []; result = nat }

shares : (n : ℕ) → Shares head n nat
unfolding Shares
shares zero = tt
shares (suc n) = (tt, tt)

not_query : sort.Query ≡ sort.Local → ⊥
not_query e = cc

not_resume : codes "f" ≡ codes "__resume" → ⊥
not_resume e = cc

public_five : (c : Context) → IsPublic basic_types c (method_of sort.Query (a_nat five))
public_five c = record {
  name = (refl, not_resume);
  shared = λ e. not_query (sym sort_is ∙ e);
  parameters = tt;
  results = (record { by = shares }, tt);
  body = (
    [],
    nat,
    refl,
    refl,
    (rules.functions basic_types (body_of sort.Query (a_nat five)) c asked).1 ([], sort_is, tt, refl, (in_scope c.parameters, tt), five_fits (in_body asked [] c), five_covered),
  );
}

pub is_well_typed : WellTyped answers
is_well_typed = record {
  types = lawful;
  basics = has_basics;
  own = Anything;
  methods = Anything ∷ [];
  end = around basic_types Anything (Anything ∷ []) [];
  own_is = inl refl;
  methods_are = (inl refl, tt);
  declarations = refl;
  public = (public_five (behind answers (around basic_types Anything (Anything ∷ []) [])), tt);
  method_labels = (tt, tt);
  before_upgrade = tt;
  after_upgrade = tt;
  stable = tt;
  stable_labels = tt;
  nodes = omega arith;
}

-- ---- its start comes to its end

pub starts : (coding : Coding) (own : Bytes) → IsStarted (start coding basic_types (program answers) own None 20).completion
starts coding own = tt
