-- Which of the small programs are well typed.
use Rattle.std.proofs.Common.{◌≡◌, ℕ, zero, suc, ◌+◌, ◌*◌, ◌≤◌, List, [], ◌∷◌, pos, codes, slice_get, arith, inl, inr, refl, sym, ap, ◌∙◌, subst}
use Rattle.std.proofs.lemmas.Int.{ints}
use Rattle.mo_num.specs.declared.kind.Kind.TheVariants as kind
use Rattle.mo_num.specs.Kinds.{InRange}
use Rattle.mo_types.specs.declared.datum.Datum.TheVariants as part
use Rattle.mo_types.specs.declared.node.Node.{Node}
use Rattle.mo_types.specs.declared.node.Node.TheVariants as node
use Rattle.mo_types.specs.declared.node.Sort.{Sort}
use Rattle.mo_types.specs.declared.node.Sort.TheVariants as sort
use Rattle.mo_types.specs.declared.node.TypeId.{TypeId}
use Rattle.mo_types.specs.Graph.{node_of_slot, node_or_bottom, head_at}
use Rattle.mo_types.specs.Sub.{Sub}
use Rattle.mo_types.specs.Values.{IsPartOf}
use Rattle.typed_tree.specs.declared.expression.Form.{roll-Form, fold-roll-Form}
use Rattle.typed_tree.specs.declared.expression.TypedExpression.{TypedExpression, fold-roll-TypedExpression}
use Rattle.typed_tree.specs.ActionTypes.{Context}
use Rattle.typed_tree.specs.Basics.{HasBasics}
use Rattle.typed_tree.specs.Examples.{nat, types, Layer, a_nat, body_of, method_of, actor_of, five, a_text, waiting, answers_five, answers_text, query_waits, local_method}
use Rattle.typed_tree.specs.Instances.{Mentions}
use Rattle.typed_tree.specs.Nodes.{StepNodes, form_step, step_step, case_step, function_step, expression_step, in_expression}
use Rattle.typed_tree.specs.PatternTypes.{IsInScope}
use Rattle.typed_tree.specs.Shareable.{Shares}
use Rattle.typed_tree.specs.Types.{AreLawful, IsLawfulNode, HasNoFuture}
use Rattle.typed_tree.specs.Typing.{Signature, in_body, Covers, Typed, OwnType}
use Rattle.typed_tree.specs.TypingLaws.{form_typing, function_typing, expression_typing}
use Rattle.typed_tree.specs.Wants.{Want, Anything, Of}
use Rattle.typed_tree.specs.WellTyped.{WellTyped, IsPublic, sort_of, around, behind}
use Rattle.typed_tree.proofs.Rules as rules
use Rattle.typed_tree.proofs.Views.{declaration_views}

abbrev head : TypeId → Node TypeId
head = head_at types

sort_is : (how : Sort) (e : TypedExpression) → sort_of (method_of how e) ≡ how
sort_is how e = ap (λ f. f.how) (declaration_views.function_of how [] 1 [] e)

-- ---- types

abbrev at_index : ℕ → Node TypeId
at_index n = node_or_bottom (node_of_slot (slice_get types n))

lawful_at : (n : ℕ) → IsLawfulNode head (at_index n) × HasNoFuture head (at_index n)
lawful_at zero = (tt, tt)
lawful_at (suc zero) = (tt, tt)
lawful_at (suc (suc zero)) = (tt, tt)
lawful_at (suc (suc (suc zero))) = (λ e. cc, tt)
lawful_at (suc (suc (suc (suc n)))) = (tt, tt)

no_parameter_at : (n v : ℕ) (b : TypeId) → at_index n ≡ node.Variable v b → ⊥
no_parameter_at zero v b e = cc
no_parameter_at (suc zero) v b e = cc
no_parameter_at (suc (suc zero)) v b e = cc
no_parameter_at (suc (suc (suc zero))) v b e = cc
no_parameter_at (suc (suc (suc (suc n)))) v b e = cc

lawful : AreLawful types
lawful = record { defined = (tt, (tt, (tt, (tt, tt)))); nodes = λ t. lawful_at t.index; bounds = λ t u b c v e f. absurd (no_parameter_at t.index v b e); rank = λ v. v; bounds_end = λ t b c v w e f. absurd (no_parameter_at t.index v b e) }

mentions : (vs : List ℕ) (n : ℕ) → Mentions head vs n nat
unfolding Mentions
mentions vs zero = tt
mentions vs (suc n) = (tt, tt)

in_scope : (vs : List ℕ) → IsInScope types vs nat
in_scope vs = (tt, record { by = mentions vs })

below_itself : (n : ℕ) → Sub head n nat nat
unfolding Sub
below_itself zero = tt
below_itself (suc n) = inr (inl refl)

-- ---- `5` is a Nat

in_range : InRange kind.Nat (pos 5)
in_range = (omega (arith, ints), omega (arith, ints))

five_fits : (c : Context) → Typed types (a_nat five) c (Of nat)
five_fits c = (rules.expressions types (record { of_type = nat; form = roll-Form five }) c (Of nat)).1
    (Of nat, refl, in_scope c.parameters, (rules.forms types five c (Of nat)).1 (nat, refl, (tt, in_range)), record { by = below_itself })

five_nodes : in_expression (a_nat five) ≡ 1
unfolding in_expression
five_nodes = fold-roll-TypedExpression ℕ StepNodes ℕ ℕ ℕ form_step step_step case_step function_step expression_step (record { of_type = nat; form = roll-Form five })
    ∙ ap (λ n. 1 + n) (fold-roll-Form ℕ StepNodes ℕ ℕ ℕ form_step step_step case_step function_step expression_step five)

five_covered : Covers 1 (0 + in_expression (a_nat five))
five_covered = subst (λ n. 0 + n ≤ 4 * 1) (sym five_nodes) (omega arith)

-- ---- a method that answers it

abbrev asked : Sort → TypedExpression → Signature
asked how e = record { sort = sort_of (method_of how e); generics = []; context = []; parameters = []; result = nat }

shares : (n : ℕ) → Shares head n nat
unfolding Shares
shares zero = tt
shares (suc n) = (tt, tt)

not_query : sort.Query ≡ sort.Local → ⊥
not_query e = cc

not_resume : codes "f" ≡ codes "__resume" → ⊥
not_resume e = cc

public_five : (c : Context) → IsPublic types c (method_of sort.Query (a_nat five))
public_five c = record {
  name = (refl, not_resume);
  shared = λ e. not_query (sym (sort_is sort.Query (a_nat five)) ∙ e);
  parameters = tt;
  results = (record { by = shares }, tt);
  body = (
    [],
    nat,
    refl,
    refl,
    (rules.functions types (body_of sort.Query (a_nat five)) c (asked sort.Query (a_nat five))).1
        ([], sort_is sort.Query (a_nat five), tt, refl, (in_scope c.parameters, tt), five_fits (in_body (asked sort.Query (a_nat five)) [] c), five_covered),
  );
}

basics : HasBasics types
basics = record { flag = record { index = 2 }; is_flag = refl; unit = record { index = 3 }; is_unit = refl; natural = nat; is_natural = refl }

pub five_is_well_typed : WellTyped answers_five
five_is_well_typed = record {
  types = lawful;
  basics = basics;
  own = Anything;
  methods = Anything ∷ [];
  end = around types Anything (Anything ∷ []) [];
  own_is = inl refl;
  methods_are = (inl refl, tt);
  declarations = refl;
  public = (public_five (behind answers_five (around types Anything (Anything ∷ []) [])), tt);
  method_labels = (tt, tt);
  before_upgrade = tt;
  after_upgrade = tt;
  stable = tt;
  stable_labels = tt;
  nodes = omega arith;
}

-- ---- what is refused

-- what is known of the body of the one method
module _ (how : Sort) (x : Layer) (w : WellTyped (actor_of how (a_nat x))) where
  abbrev the_method : IsPublic types (behind (actor_of how (a_nat x)) w.end) (method_of how (a_nat x))
  the_method = w.public.0

  abbrev the_signature : Signature
  the_signature = record { sort = sort_of (method_of how (a_nat x)); generics = []; context = the_method.body.0; parameters = []; result = the_method.body.1 }

  the_function : function_typing types (body_of how (a_nat x)) (behind (actor_of how (a_nat x)) w.end) the_signature
  the_function = (rules.functions types (body_of how (a_nat x)) (behind (actor_of how (a_nat x)) w.end) the_signature).0 the_method.body.4

  abbrev the_context : Context
  the_context = in_body the_signature the_function.0 (behind (actor_of how (a_nat x)) w.end)

  the_expression : expression_typing types (record { of_type = nat; form = roll-Form x }) the_context (Of the_signature.result)
  the_expression = (rules.expressions types (record { of_type = nat; form = roll-Form x }) the_context (Of the_signature.result)).0 the_function.5

  the_form : form_typing types x the_context the_expression.0
  the_form = (rules.forms types x the_context the_expression.0).0 the_expression.3

-- a text is no Nat
no_text : (t : TypeId) (given : Want TypeId) → given ≡ Of t → OwnType head given nat → IsPartOf (head t) (part.Text (codes "a")) → ⊥
no_text t given e own is =
    let same : t ≡ nat = subst (λ g. OwnType head g nat) e own in
    subst (λ u. IsPartOf (head u) (part.Text (codes "a"))) same is

pub text_is_refused : WellTyped answers_text → ⊥
text_is_refused w =
    let f : form_typing types a_text (the_context sort.Query a_text w) (the_expression sort.Query a_text w).0 = the_form sort.Query a_text w in
    no_text f.0 (the_expression sort.Query a_text w).0 f.1 (the_expression sort.Query a_text w).1 f.2.1

not_both : (how : Sort) → how ≡ sort.Query → how ≡ sort.Shared → ⊥
not_both sort.Local e f = cc
not_both sort.Shared e f = cc
not_both sort.Query e f = cc

pub waiting_is_refused : (e : TypedExpression) → WellTyped (query_waits e) → ⊥
waiting_is_refused e w =
    let f : form_typing types (waiting e) (the_context sort.Query (waiting e) w) (the_expression sort.Query (waiting e) w).0 = the_form sort.Query (waiting e) w in
    not_both (sort_of (method_of sort.Query (a_nat (waiting e)))) (sort_is sort.Query (a_nat (waiting e))) f.1.1

pub local_is_refused : WellTyped local_method → ⊥
local_is_refused w = (the_method sort.Local five w).shared (sort_is sort.Local (a_nat five))
