-- An actor with a function that has a type parameter is well typed; a function is none of a type that mentions one which is not in scope.
use Rattle.std.proofs.Common.{◌≡◌, ℕ, zero, suc, ◌+◌, List, [], ◌∷◌, pos, codes, slice_get, arith, inl, inr, refl, sym, ap, ◌∙◌, subst}
use Rattle.std.proofs.lemmas.Int.{ints}
use Rattle.mo_num.specs.declared.kind.Kind.TheVariants as kind
use Rattle.mo_num.specs.Kinds.{InRange}
use Rattle.mo_types.specs.declared.node.Node.{Node}
use Rattle.mo_types.specs.declared.node.Node.TheVariants as node
use Rattle.mo_types.specs.declared.node.Sort.TheVariants as sort
use Rattle.mo_types.specs.declared.node.TypeId.{TypeId}
use Rattle.mo_types.specs.Graph.{Slot, node_of_slot, node_or_bottom, head_at}
use Rattle.mo_types.specs.Sub.{Sub}
use Rattle.typed_tree.specs.declared.expression.Form.{roll-Form, fold-roll-Form}
use Rattle.typed_tree.specs.declared.expression.Form.TheOpen as F
use Rattle.typed_tree.specs.declared.expression.Function.{roll-Function}
use Rattle.typed_tree.specs.declared.expression.Step.{roll-Step, fold-roll-Step}
use Rattle.typed_tree.specs.declared.expression.TypedExpression.{roll-TypedExpression, fold-roll-TypedExpression}
use Rattle.typed_tree.specs.declared.pattern.TypedPattern.{roll-TypedPattern}
use Rattle.typed_tree.specs.declared.pattern.PatternForm.{roll-PatternForm}
use Rattle.typed_tree.specs.declared.pattern.PatternForm.TheOpen as P
use Rattle.typed_tree.specs.declared.pattern.PatternForm.TheVariants as p
use Rattle.typed_tree.specs.declared.program.Method.{Method}
use Rattle.typed_tree.specs.declared.literal.Literal.TheVariants as literal
use Rattle.typed_tree.specs.ActionTypes.{Context}
use Rattle.typed_tree.specs.Basics.{HasBasics}
use Rattle.typed_tree.specs.Examples.{nat, any, parameter, identity, on_nats, generic_types, forgets, on_strays, actor_pattern, Layer, number, bound_to, the_parameter, id, at_nat, calls, a_nat, body_of, method_of, uses_generic}
use Rattle.typed_tree.specs.Instances.{Mentions, PutIn, IsInstance, AreWithinBounds}
use Rattle.typed_tree.specs.Nodes.{StepNodes, form_step, step_step, case_step, function_step, expression_step, in_expression, in_step, in_pattern}
use Rattle.typed_tree.specs.Patterns.{Bind, pattern_nodes}
use Rattle.typed_tree.specs.PatternTypes.{IsInScope, Stands}
use Rattle.typed_tree.specs.PatternView.{pattern, pattern_form}
use Rattle.typed_tree.specs.Shareable.{Shares}
use Rattle.typed_tree.specs.Types.{AreLawful, IsLawfulNode, HasNoFuture}
use Rattle.typed_tree.specs.Typing.{Signature, with_names, in_body, Covers, Typed, Declares, OwnType, IsFunctionOf}
use Rattle.typed_tree.specs.TypingLaws.{form_typing, function_typing}
use Rattle.typed_tree.specs.Wants.{Want, Anything, Of, Generic, Below, Serves}
use Rattle.typed_tree.specs.WellTyped.{WellTyped, IsPublic, sort_of, around, behind}
use Rattle.typed_tree.proofs.Rules as rules
use Rattle.typed_tree.proofs.Views.{declaration_views, pattern_views}

abbrev head : TypeId → Node TypeId
head = head_at generic_types

-- ---- types

abbrev at_index : ℕ → Node TypeId
at_index n = node_or_bottom (node_of_slot (slice_get generic_types n))

lawful_at : (n : ℕ) → IsLawfulNode head (at_index n) × HasNoFuture head (at_index n)
lawful_at zero = (tt, tt)
lawful_at (suc zero) = (tt, tt)
lawful_at (suc (suc zero)) = (tt, (refl, tt))
lawful_at (suc (suc (suc zero))) = (refl, (refl, (refl, tt)))
lawful_at (suc (suc (suc (suc zero)))) = (refl, (refl, (refl, tt)))
lawful_at (suc (suc (suc (suc (suc zero))))) = (tt, tt)
lawful_at (suc (suc (suc (suc (suc (suc zero)))))) = (λ e. cc, tt)
lawful_at (suc (suc (suc (suc (suc (suc (suc n))))))) = (tt, tt)

abbrev bound_of : Node TypeId → TypeId
bound_of (node.Variable v b) = b
bound_of _ = any

-- the one type parameter has the bound Any
bounded_at : (n v : ℕ) (b : TypeId) → at_index n ≡ node.Variable v b → any ≡ b
bounded_at zero v b e = cc
bounded_at (suc zero) v b e = cc
bounded_at (suc (suc zero)) v b e = ap bound_of e
bounded_at (suc (suc (suc zero))) v b e = cc
bounded_at (suc (suc (suc (suc zero)))) v b e = cc
bounded_at (suc (suc (suc (suc (suc zero))))) v b e = cc
bounded_at (suc (suc (suc (suc (suc (suc zero)))))) v b e = cc
bounded_at (suc (suc (suc (suc (suc (suc (suc n))))))) v b e = cc

any_is_no_parameter : (w : ℕ) (c : TypeId) → head any ≡ node.Variable w c → ⊥
any_is_no_parameter w c e = cc

lawful : AreLawful generic_types
lawful = record {
  defined = (tt, (tt, ((omega arith, tt), ((omega arith, (omega arith, tt)), ((omega arith, (omega arith, tt)), (tt, (tt, tt)))))));
  nodes = λ t. lawful_at t.index;
  bounds = λ t u b c v e f. sym (bounded_at t.index v b e) ∙ bounded_at u.index v c f;
  rank = λ v. v;
  bounds_end = λ t b c v w e f. absurd (any_is_no_parameter w c (subst (λ x. head x ≡ node.Variable w c) (sym (bounded_at t.index v b e)) f));
}

nat_mentions : (vs : List ℕ) (n : ℕ) → Mentions head vs n nat
unfolding Mentions
nat_mentions vs zero = tt
nat_mentions vs (suc n) = (tt, tt)

any_mentions : (vs : List ℕ) (n : ℕ) → Mentions head vs n any
unfolding Mentions
any_mentions vs zero = tt
any_mentions vs (suc n) = (tt, tt)

parameter_mentions : (n : ℕ) → Mentions head (7 ∷ []) n parameter
unfolding Mentions
parameter_mentions zero = tt
parameter_mentions (suc n) = (inl refl, (any_mentions (7 ∷ []) n, tt))

on_nats_mentions : (n : ℕ) → Mentions head [] n on_nats
unfolding Mentions
on_nats_mentions zero = tt
on_nats_mentions (suc n) = (tt, (nat_mentions [] n, (nat_mentions [] n, tt)))

nat_in_scope : (vs : List ℕ) → IsInScope generic_types vs nat
nat_in_scope vs = (tt, record { by = nat_mentions vs })

parameter_in_scope : IsInScope generic_types (7 ∷ []) parameter
parameter_in_scope = (tt, record { by = parameter_mentions })

on_nats_in_scope : IsInScope generic_types [] on_nats
on_nats_in_scope = (tt, record { by = on_nats_mentions })

nat_sub : (n : ℕ) → Sub head n nat nat
unfolding Sub
nat_sub zero = tt
nat_sub (suc n) = inr (inl refl)

parameter_sub : (n : ℕ) → Sub head n parameter parameter
unfolding Sub
parameter_sub zero = tt
parameter_sub (suc n) = inr tt

on_nats_sub : (n : ℕ) → Sub head n on_nats on_nats
unfolding Sub
on_nats_sub zero = tt
on_nats_sub (suc n) = inr (refl, (nat_sub n, tt), (nat_sub n, tt))

any_sub : (t : TypeId) (n : ℕ) → Sub head n t any
unfolding Sub
any_sub t zero = tt
any_sub t (suc n) = inl refl

nat_below : Below head nat nat
nat_below = record { by = nat_sub }

shares : (n : ℕ) → Shares head n nat
unfolding Shares
shares zero = tt
shares (suc n) = (tt, tt)

-- ---- the instance of id at Nat

parameter_put : (n : ℕ) → PutIn head (7 ∷ []) (nat ∷ []) n parameter nat
unfolding PutIn
parameter_put zero = tt
parameter_put (suc n) = (nat_below, nat_below)

identity_put : (n : ℕ) → PutIn head (7 ∷ []) (nat ∷ []) n identity on_nats
unfolding PutIn
identity_put zero = tt
identity_put (suc n) = (refl, (parameter_put n, tt), (parameter_put n, tt))

any_put : (n : ℕ) → PutIn head (7 ∷ []) (nat ∷ []) n any any
unfolding PutIn
any_put zero = tt
any_put (suc n) = refl

at_bound : (b t : TypeId) → any ≡ b → (c : TypeId) × IsInstance head (7 ∷ []) (nat ∷ []) b c × Below head t c
at_bound b t e = subst (λ x. (c : TypeId) × IsInstance head (7 ∷ []) (nat ∷ []) x c × Below head t c) e (any, record { by = any_put }, record { by = any_sub t })

within : AreWithinBounds head (7 ∷ []) (nat ∷ [])
within = record { by = λ q b v t e f. at_bound b t (bounded_at q.index v b e) }

-- ---- layers

typed : (t : TypeId) (x : Layer) (c : Context) (given w : Want TypeId) → OwnType head given t → IsInScope generic_types c.parameters t → form_typing generic_types x c given → Serves head given w →
    Typed generic_types (roll-TypedExpression (record { of_type = t; form = roll-Form x })) c w
typed t x c given w own scope f serves =
    (rules.expressions generic_types (record { of_type = t; form = roll-Form x }) c w).1 (given, own, scope, (rules.forms generic_types x c given).1 f, serves)

-- ---- id

abbrev outside : Context
outside = around generic_types Anything (Anything ∷ []) []

abbrev end : Context
end = with_names (Generic (7 ∷ []) identity ∷ []) outside

abbrev of_id : Signature
of_id = record { sort = sort.Local; generics = 7 ∷ []; context = []; parameters = parameter ∷ []; result = parameter }

pattern_stands : Stands generic_types (7 ∷ []) (roll-TypedPattern (bound_to parameter)) parameter (Of parameter ∷ [])
pattern_stands = (rules.patterns generic_types (7 ∷ []) (bound_to parameter) parameter (Of parameter ∷ [])).1
    (record { by = parameter_sub }, parameter_in_scope, (rules.pattern_forms generic_types (7 ∷ []) P.Bind parameter (Of parameter ∷ [])).1 refl)

abbrev in_id : Context
in_id = in_body of_id (Of parameter ∷ []) end

parameter_typed : Typed generic_types the_parameter in_id (Of parameter)
parameter_typed = typed parameter (F.Name 0) in_id (Of parameter) (Of parameter) refl parameter_in_scope (Of parameter, refl, refl) (record { by = parameter_sub })

parameter_nodes : in_expression the_parameter ≡ 1
unfolding in_expression
parameter_nodes = fold-roll-TypedExpression ℕ StepNodes ℕ ℕ ℕ form_step step_step case_step function_step expression_step _
    ∙ ap (λ n. 1 + n) (fold-roll-Form ℕ StepNodes ℕ ℕ ℕ form_step step_step case_step function_step expression_step (F.Name 0))

binds : pattern (roll-TypedPattern (bound_to parameter)) ≡ Bind
binds = pattern_views.typed parameter (roll-PatternForm P.Bind) ∙ (ap pattern_form p.rolls-Bind ∙ pattern_views.bind)

pattern_one : in_pattern (roll-TypedPattern (bound_to parameter)) ≡ 1
pattern_one = ap pattern_nodes binds

id_covered : Covers 1 ((in_pattern (roll-TypedPattern (bound_to parameter)) + 0) + in_expression the_parameter)
id_covered = omega (arith, pattern_one, parameter_nodes)

no_scope : ⊥ → ⊥
no_scope h = h

id_is : IsFunctionOf generic_types (roll-Function id) end of_id
id_is = (rules.functions generic_types id end of_id).1
    (Of parameter ∷ [], refl, (any, refl, no_scope, tt), (Of parameter ∷ [], [], refl, pattern_stands, refl), (parameter_in_scope, (parameter_in_scope, (parameter_in_scope, tt))), parameter_typed, id_covered)

declared : Declares generic_types (roll-Step (F.Functions (roll-Function id ∷ []))) outside (Generic (7 ∷ []) identity ∷ [])
declared = (rules.steps generic_types (F.Functions (roll-Function id ∷ [])) outside (Generic (7 ∷ []) identity ∷ [])).1
    ((of_id, refl, refl, id_is, inr (identity, refl, refl)), tt)

-- ---- the method

five_in_range : InRange kind.Nat (pos 5)
five_in_range = (omega (arith, ints), omega (arith, ints))

abbrev the_method : Method
the_method = method_of sort.Query calls

abbrev asked : Signature
asked = record { sort = sort_of the_method; generics = []; context = []; parameters = []; result = nat }

abbrev inside : Context
inside = in_body asked [] (behind uses_generic end)

at_nat_typed : Typed generic_types at_nat inside (Of on_nats)
at_nat_typed = typed on_nats (F.Name 1) inside (Of on_nats) (Of on_nats) refl on_nats_in_scope
    (Generic (7 ∷ []) identity, refl, (nat ∷ [], on_nats, refl, within, record { by = identity_put }, refl)) (record { by = on_nats_sub })

five_typed : Typed generic_types (a_nat (number 5)) inside (Of nat)
five_typed = typed nat (number 5) inside (Of nat) (Of nat) refl (nat_in_scope []) (nat, refl, (tt, five_in_range)) nat_below

calls_typed : Typed generic_types calls inside (Of nat)
calls_typed = typed nat _ inside (Of nat) (Of nat) refl (nat_in_scope [])
    (Of on_nats ∷ Of nat ∷ [], (on_nats, nat, nat ∷ [], refl, refl, refl), (at_nat_typed, (five_typed, tt))) nat_below

at_nat_nodes : in_expression at_nat ≡ 1
unfolding in_expression
at_nat_nodes = fold-roll-TypedExpression ℕ StepNodes ℕ ℕ ℕ form_step step_step case_step function_step expression_step _
    ∙ ap (λ n. 1 + n) (fold-roll-Form ℕ StepNodes ℕ ℕ ℕ form_step step_step case_step function_step expression_step (F.Name 1))

five_nodes : in_expression (a_nat (number 5)) ≡ 1
unfolding in_expression
five_nodes = fold-roll-TypedExpression ℕ StepNodes ℕ ℕ ℕ form_step step_step case_step function_step expression_step _
    ∙ ap (λ n. 1 + n) (fold-roll-Form ℕ StepNodes ℕ ℕ ℕ form_step step_step case_step function_step expression_step (number 5))

calls_nodes : in_expression calls ≡ 1 + (in_expression at_nat + (in_expression (a_nat (number 5)) + 0))
unfolding in_expression
calls_nodes = fold-roll-TypedExpression ℕ StepNodes ℕ ℕ ℕ form_step step_step case_step function_step expression_step _
    ∙ ap (λ n. 1 + n) (fold-roll-Form ℕ StepNodes ℕ ℕ ℕ form_step step_step case_step function_step expression_step _)

covered : Covers 1 (0 + in_expression calls)
covered = omega (arith, calls_nodes, at_nat_nodes, five_nodes)

list_nodes : (in_step (roll-Step (F.Functions (roll-Function id ∷ [])))).own ≡ 1
unfolding in_step
list_nodes = ap (λ (s : StepNodes). s.own) (fold-roll-Step ℕ StepNodes ℕ ℕ ℕ form_step step_step case_step function_step expression_step (F.Functions (roll-Function id ∷ [])))

list_covered : Covers 1 ((in_step (roll-Step (F.Functions (roll-Function id ∷ [])))).own + 0)
list_covered = omega (arith, list_nodes)

-- ---- the program

sort_is : sort_of the_method ≡ sort.Query
sort_is = ap (λ f. f.how) (declaration_views.function_of sort.Query [] 1 [] calls)

not_local : sort.Query ≡ sort.Local → ⊥
not_local e = cc

not_resume : codes "f" ≡ codes "__resume" → ⊥
not_resume e = cc

public : IsPublic generic_types (behind uses_generic end) the_method
public = record {
  name = (refl, not_resume);
  shared = λ e. not_local (sym sort_is ∙ e);
  parameters = tt;
  results = (record { by = shares }, tt);
  body = (
    [],
    nat,
    refl,
    refl,
    (rules.functions generic_types (body_of sort.Query calls) (behind uses_generic end) asked).1
        ([], sort_is, tt, refl, (nat_in_scope [], tt), calls_typed, covered),
  );
}

basics : HasBasics generic_types
basics = record { flag = record { index = 5 }; is_flag = refl; unit = record { index = 6 }; is_unit = refl; natural = nat; is_natural = refl }

pub generic_is_well_typed : WellTyped uses_generic
generic_is_well_typed = record {
  types = lawful;
  basics = basics;
  own = Anything;
  methods = Anything ∷ [];
  end = end;
  own_is = inl refl;
  methods_are = (inl refl, tt);
  declarations = (Generic (7 ∷ []) identity ∷ [], declared, refl);
  public = (public, tt);
  method_labels = (tt, tt);
  before_upgrade = tt;
  after_upgrade = tt;
  stable = tt;
  stable_labels = tt;
  nodes = list_covered;
}

-- ---- what is refused

mentions_none : Mentions head [] (suc zero) parameter → ⊥
unfolding Mentions
mentions_none h = h.0

pub stray_is_refused : (c : Context) → c.parameters ≡ [] → IsFunctionOf generic_types (roll-Function forgets) c on_strays → ⊥
stray_is_refused c none h =
    let f : function_typing generic_types forgets c on_strays = (rules.functions generic_types forgets c on_strays).0 h in
    mentions_none (subst (λ vs. Mentions head vs (suc zero) parameter) none (f.4.1.0.1.by (suc zero)))

pub actor_is_refused : (types : List Slot) (vs : List ℕ) (t u : TypeId) (x : List ℕ) (ns : List (Want TypeId)) → Stands types vs (actor_pattern u x) t ns → ⊥
actor_is_refused types vs t u x ns h =
    let f = (rules.patterns types vs (record { of_type = u; form = roll-PatternForm (P.Constant (literal.Actor x)) }) t ns).0 h in
    ((rules.pattern_forms types vs (P.Constant (literal.Actor x)) u ns).0 f.2).1
