-- The rules of expressions and declarations fail at numbers of them.
use Rattle.std.proofs.Common.{◌<◌, ℕ, pos, neg_ℤ, Bool, true, false, List, [], ◌∷◌, length, Option, Some, None}
use Rattle.std.specs.Prelude.{is_some, nat_eq, slice_get}
use Rattle.mo_num.specs.declared.kind.Kind.TheVariants as kind
use Rattle.mo_scopes.specs.Scopes.{named}
use Rattle.mo_syntax.specs.Parts.{Each, Within, EachWithin}
use Rattle.mo_types.specs.declared.node.Field.{Field}
use Rattle.mo_types.specs.Heads.{opt_of, array_of, mut_array_of, tuple_of, object_of, actor_of, variant_of, func_of, async_of}
use Rattle.mo_types.specs.Sub.{find}
use Rattle.typing_rules.specs.AbstractSyntax.{TypeNode, Expression, Form, Expressions, Cases, ObjectFields, Declaration, Declarations}
use Rattle.typing_rules.specs.AbstractSyntax as p
use Rattle.typing_rules.specs.AsyncPlaces.{Around, Other, waits, calls, takes_call, takes_name, around_of}
use Rattle.typing_rules.specs.Calls.{built_in, polymorphic, local_of, called, items_of}
use Rattle.typing_rules.specs.Contexts.{Context, value_named, in_loop, with_values, directly}
use Rattle.typing_rules.specs.DeclaredTypes.{within}
use Rattle.typing_rules.specs.Definitions.{Definitions}
use Rattle.typing_rules.specs.Ends.{wanted}
use Rattle.typing_rules.specs.Expressions.{actor_text, all_there, element_of, same, some_each, field_questions, Judge, Rule, JudgePlace, PlaceRule, JudgeEach, JudgeAll, JudgeCases, JudgeFields, JudgeOrder, JudgeOne, JudgeBodies, JudgeBody}
use Rattle.typing_rules.specs.Heads.{head, members_head}
use Rattle.typing_rules.specs.Lists.{Made}
use Rattle.typing_rules.specs.Literals.{plain_number, written}
use Rattle.typing_rules.specs.Members.{member_bound, member_type, object_field}
use Rattle.typing_rules.specs.Operators.{family}
use Rattle.typing_rules.specs.Patterns.{is_empty}
use Rattle.typing_rules.specs.Terms.{Term}
use Rattle.typing_rules.specs.TypedTrees.{type_of, types_of, case_types, count, count_patterns, annotation}
use Rattle.fault_places.specs.Numbers.{TypeBelow, ExpressionBelow, FormBelow, ExpressionsBelow, CasesBelow, ObjectFieldsBelow, DeclarationBelow, DeclarationsBelow}
use Rattle.fault_places.proofs.Failing.{FailsBelow, gives, fails, meets, part, by_case, by_case_of, given, given_of, tests, needs, needs_each}
use Rattle.fault_places.proofs.Forms.{has, leaves, greatest, branches, elements, ends_list, takes_made, stable, listed, number, constant, negative, binary, operand, future_placed, instance_fine}
use Rattle.fault_places.proofs.Patterns.{annotated, stands, parameters, context_of, public_fields}
use Rattle.fault_places.proofs.Types.{reads, reads_or}

module _ (n : ℕ) where
  type_arguments : (types : Option (List TypeNode)) → EachWithin (TypeBelow n) types → Within (λ us. Each (TypeBelow n) us) types
  type_arguments None h = tt
  type_arguments (Some us) h = h

  module _ (z : 0 < n) (defs : Definitions) where
    mutual
      pub judge : (e : Context) (a : Expression ℕ) → ExpressionBelow n a → (w : Option Term) → FailsBelow n (Judge defs e a w)
      judge e (p.exp at f) h None = rule e.around (directly Other e) at f h.0 h.1 None
      judge e (p.exp at f) h (Some u) = meets n _ _ (rule e.around (directly Other e) at f h.0 h.1 (Some u))

      rule : (o : Around) (e : Context) (at : ℕ) (f : Form ℕ) → at < n → FormBelow n f → (w : Option Term) → FailsBelow n (Rule defs o e at f w)
      rule o e at (p.Constant l) h i w = constant n defs at w l h
      rule o e at (p.Name x) h i w =
          given n _ at (value_named e x) _ h (λ b. tests n _ at (is_empty b.generics) _ h
          (part n _ _ (future_placed n defs e.body (takes_name o) at b.type h) (λ _. has n at w _ _ h)))
      rule o e at (p.BuiltIn m) h i w = has n at w _ _ h
      rule o e at (p.Subsumed a) h i w = judge e a i w
      rule o e at (p.Tuple items) h i w =
          by_case n (wanted defs tuple_of w) _ _
          (λ q. tests n _ at (nat_eq (length q.1) (count items)) _ h (part n _ _ (judge_each e items i (some_each q.1)) (λ es. gives n _)))
          (part n _ _ (judge_each e items i []) (λ es. has n at w _ _ h))
      rule o e at (p.Optional a) h i w =
          by_case n (wanted defs opt_of w) _ _
          (λ q. part n _ _ (judge e a i (Some q.1)) (λ b. gives n _))
          (part n _ _ (judge e a i None) (λ b. has n at w _ _ h))
      rule o e at (p.Tag x) h i w =
          by_case n (wanted defs variant_of w) _ _
          (λ q. given n _ at (find x q.1) _ h (λ f. meets n _ _ (needs n _ at _ _ h (gives n _))))
          (has n at w _ _ h)
      rule o e at (p.Tagged x a) h i w =
          by_case n (wanted defs variant_of w) _ _
          (λ q. given n _ at (find x q.1) _ h (λ f. part n _ _ (judge e a i (Some f.part)) (λ b. gives n _)))
          (part n _ _ (judge e a i None) (λ b. has n at w _ _ h))
      rule o e at (p.Array false items) h i w =
          by_case n (wanted defs array_of w) _ _
          (λ q. part n _ _ (judge_all e items i (Some q.1)) (λ es. gives n _))
          (part n _ _ (judge_all e items i None) (λ es. part n _ _ (elements n at (types_of es) h) (λ u. has n at w _ _ h)))
      rule o e at (p.Array true items) h i w =
          by_case n (wanted defs mut_array_of w) _ _
          (λ q. part n _ _ (judge_all e items i (Some q.1)) (λ es. gives n _))
          (part n _ _ (judge_all e items i None) (λ es. part n _ _ (greatest n _ at (types_of es) h) (λ u. has n at w _ _ h)))
      rule o e at (p.Object fields) h i w =
          by_case n (wanted defs object_of w) _ _
          (λ q. tests n _ at (all_there fields q.1) _ h (part n _ _ (judge_fields e fields i q.1) (λ fs. gives n _)))
          (part n _ _ (judge_fields e fields i []) (λ fs. has n at w _ _ h))
      rule o e at (p.Member a x) h i w =
          by_case n (built_in e a x) _ _
          (λ m. tests n _ at (is_empty (member_bound m).generics) _ h (has n at w _ _ h))
          (part n _ _ (judge e a i None) (λ b. given n _ at (member_type x (members_head defs (type_of b))) _ h (λ u. has n at w _ _ h)))
      rule o e at (p.Projection a m) h i w =
          part n _ _ (judge e a i None) (λ b. given n _ at (tuple_of (members_head defs (type_of b))) _ h (λ us. given n _ at (slice_get us m) _ h (λ u.
          has n at w _ _ h)))
      rule o e at (p.Index a b) h i w =
          part n _ _ (judge e a i.0 None) (λ c. given n _ at (element_of (members_head defs (type_of c))) _ h (λ u. part n _ _ (judge e b i.1 (Some _)) (λ j.
          has n at w _ _ h)))
      rule o e at (p.Annotated a u) h i w =
          part n _ _ (reads n defs e.types u i.1) (λ v. by_case n (actor_text a) _ _
          (λ x. tests n _ at (is_some (actor_of (head defs v))) _ h (needs n _ at _ _ h (has n at w _ _ h)))
          (part n _ _ (judge e a i.0 (Some v)) (λ b. has n at w _ _ h)))
      rule o e at (p.ActorReference x) h i w = fails n _ _ at h
      rule o e at (p.Negative a) h i w =
          by_case n (plain_number a) _ _
          (λ m. number n defs at w kind.Int (neg_ℤ (pos m)) _ h)
          (negative n defs at w _ h (λ v. judge e a i v))
      rule o e at (p.Binary op a b) h i w = binary n defs at w (family op) op (written a) (written b) _ _ h (λ v. judge e a i.0 v) (λ v. judge e b i.1 v)
      rule o e at (p.Not a) h i w = part n _ _ (judge e a i (Some _)) (λ b. has n at w _ _ h)
      rule o e at (p.Assign q a) h i w = part n _ _ (judge_place e q i.0) (λ r. part n _ _ (judge e a i.1 (Some (type_of r))) (λ b. has n at w _ _ h))
      rule o e at (p.AssignBy op q a) h i w =
          part n _ _ (judge_place e q i.0) (λ r. part n _ _ (operand n defs at (family op) (type_of r) _ h (λ v. judge e a i.1 v)) (λ b. has n at w _ _ h))
      rule o e at (p.Call f types arguments) h i w =
          part n _ _
          (by_case n (polymorphic e f) _ _
          (λ q. given_of n (λ us. Each (TypeBelow n) us) _ at types _ (type_arguments types i.1) h (λ us j. part n _ _ (instance_fine n defs at e.types q.0 us h j) (λ u. meets n _ _ (gives n _))))
          (by_case n types _ _ (λ us. tests n _ at (is_empty us) _ h (judge e f i.0 None)) (judge e f i.0 None)))
          (λ g. given n _ at (func_of (members_head defs (type_of g))) _ h (λ q.
          part n _ _ (future_placed n defs e.body (takes_call o) at (called q.0 q.2) h) (λ _.
          tests n _ at (nat_eq (length q.1) (count arguments)) _ h (part n _ _ (judge_each e arguments i.2 (some_each q.1)) (λ es.
          has n at w _ _ h)))))
      rule o e at (p.When c a) h i w = part n _ _ (judge e c i.0 (Some _)) (λ d. part n _ _ (judge e a i.1 (Some _)) (λ b. has n at w _ _ h))
      rule o e at (p.If c a b) h i w =
          part n _ _ (judge e c i.0 (Some _)) (λ d. part n _ _ (judge e a i.1 w) (λ x. part n _ _ (judge e b i.2 w) (λ y. branches n at w (type_of x ∷ type_of y ∷ []) _ h)))
      rule o e at (p.Switch a cases) h i w =
          part n _ _ (judge e a i.0 None) (λ b. part n _ _ (judge_cases e cases i.1 (type_of b) w) (λ cs. branches n at w (case_types cs) _ h))
      rule o e at (p.Try a q b) h i w =
          tests n _ at (waits e.body) _ h (part n _ _ (judge e a i.0 w) (λ x. meets n _ _ (part n _ _ (stands n defs e.types q i.1 _) (λ r.
          part n _ _ (judge (with_values r.0 e) b i.2 w) (λ y. branches n at w (type_of x ∷ type_of y ∷ []) _ h)))))
      rule o e at (p.While c a) h i w = part n _ _ (judge e c i.0 (Some _)) (λ d. part n _ _ (judge (in_loop o e) a i.1 (Some _)) (λ b. has n at w _ _ h))
      rule o e at (p.Loop a) h i w = part n _ _ (judge (in_loop o e) a i (Some _)) (λ b. has n at w _ _ h)
      rule o e at (p.LoopWhile a c) h i w = part n _ _ (judge (in_loop o e) a i.0 (Some _)) (λ b. part n _ _ (judge e c i.1 (Some _)) (λ d. has n at w _ _ h))
      rule o e at (p.For q a b) h i w =
          part n _ _ (judge e a i.1 None) (λ x. given n _ at (items_of defs (members_head defs (type_of x))) _ h (λ u. meets n _ _ (part n _ _ (stands n defs e.types q i.0 u) (λ r.
          part n _ _ (judge (in_loop o (with_values r.0 e)) b i.2 (Some _)) (λ y. has n at w _ _ h)))))
      rule o e at (p.Label x u a) h i w =
          part n _ _ (reads_or n defs e.types u _ i.0) (λ v. part n _ _ (judge _ a i.1 (Some v)) (λ b. has n at w _ _ h))
      rule o e at (p.Break x) h i w = given n _ at (named e.labels x) _ h (λ l. leaves n at w _ _ h)
      rule o e at (p.BreakWith x a) h i w = given n _ at (named e.labels x) _ h (λ l. part n _ _ (judge e a i (Some l.type)) (λ b. has n at w _ _ h))
      rule o e at (p.Continue x) h i w = given n _ at (named e.labels x) _ h (λ l. tests n _ at l.loop _ h (has n at w _ _ h))
      rule o e at p.Return h i w = given n _ at e.returns _ h (λ u. leaves n at w _ _ h)
      rule o e at (p.ReturnWith a) h i w = given n _ at e.returns _ h (λ u. part n _ _ (judge e a i (Some u)) (λ b. has n at w _ _ h))
      rule o e at (p.Throw a) h i w = tests n _ at (waits e.body) _ h (part n _ _ (judge e a i (Some _)) (λ b. has n at w _ _ h))
      rule o e at (p.Do a) h i w = part n _ _ (judge e a i w) (λ b. gives n _)
      rule o e at (p.DoOption a) h i w =
          by_case n (wanted defs opt_of w) _ _
          (λ q. part n _ _ (judge _ a i (Some q.1)) (λ b. gives n _))
          (part n _ _ (judge _ a i None) (λ b. has n at w _ _ h))
      rule o e at (p.Bang a) h i w =
          tests n _ at e.ends _ h (part n _ _ (judge e a i None) (λ b. given n _ at (opt_of (head defs (type_of b))) _ h (λ u. has n at w _ _ h)))
      rule o e at (p.Block ds) h i w =
          part n _ _ (listed n defs e ds _ _ i (λ known. judge_order known at true ds h i None w) (λ known made. judge_bodies known ds i made)) (λ q. gives n _)
      rule o e at (p.Function g body) h i w =
          by_case n (wanted defs local_of w) _ _
          (λ q. tests n _ at (nat_eq (length q.1.0) (count_patterns g.parameters)) _ h (part n _ _ (parameters n defs e.types g.parameters i.0.1 q.1.0) (λ ps.
          part n _ _ (reads_or n defs e.types g.result q.1.1 i.0.2) (λ r. part n _ _ (judge _ body i.1 (Some r)) (λ b. has n at w _ _ h)))))
          (part n _ _ (parameters n defs e.types g.parameters i.0.1 []) (λ ps. part n _ _ (reads_or n defs e.types g.result _ i.0.2) (λ r.
          part n _ _ (judge _ body i.1 (Some r)) (λ b. has n at w _ _ h))))
      rule o e at (p.ObjectBlock fields) h i w =
          part n _ _ (public_fields n fields i) (λ _. part n _ _ (listed n defs e fields _ _ i (λ known. judge_order known at false fields h i None None) (λ known made. judge_bodies known fields i made)) (λ q.
          has n at w _ _ h))
      rule o e at (p.Assert a) h i w = part n _ _ (judge e a i (Some _)) (λ b. has n at w _ _ h)
      rule o e at (p.Ignore a) h i w = part n _ _ (judge _ a i None) (λ b. has n at w _ _ h)
      rule o e at (p.Debug a) h i w = part n _ _ (judge e a i (Some _)) (λ b. has n at w _ _ h)
      rule o e at (p.Await a) h i w =
          tests n _ at (calls e.body) _ h (part n _ _ (judge _ a i None) (λ b. given n _ at (async_of (head defs (type_of b))) _ h (λ u. has n at w _ _ h)))

      judge_place : (e : Context) (a : Expression ℕ) → ExpressionBelow n a → FailsBelow n (JudgePlace defs e a)
      judge_place e (p.exp at f) h = place_rule (directly Other e) at f h.0 h.1

      place_rule : (e : Context) (at : ℕ) (f : Form ℕ) → at < n → FormBelow n f → FailsBelow n (PlaceRule defs e at f)
      place_rule e at (p.Name x) h i = given n _ at (value_named e x) _ h (λ b. tests n _ at b.mutable _ h (has n at None _ _ h))
      place_rule e at (p.Member a x) h i =
          by_case n (built_in e a x) _ _
          (λ m. fails n _ _ at h)
          (part n _ _ (judge e a i None) (λ b. given n _ at (object_field x (members_head defs (type_of b))) _ h (λ f. tests n _ at f.mutable _ h (has n at None _ _ h))))
      place_rule e at (p.Index a i) h j =
          part n _ _ (judge e a j.0 None) (λ b. given n _ at (element_of (members_head defs (type_of b))) _ h (λ u.
          given n _ at (mut_array_of (members_head defs (type_of b))) _ h (λ v. part n _ _ (judge e i j.1 (Some _)) (λ k. has n at None _ _ h))))
      place_rule e at _ h i = fails n _ _ at h

      judge_each : (e : Context) (us : Expressions ℕ) → ExpressionsBelow n us → (ws : List (Option Term)) → FailsBelow n (JudgeEach defs e us ws)
      judge_each e p.Nil h ws = gives n _
      judge_each e (p.Cons a rest) h [] = part n _ _ (judge e a h.0 None) (λ b. part n _ _ (judge_each e rest h.1 []) (λ bs. gives n _))
      judge_each e (p.Cons a rest) h (w ∷ ws) = part n _ _ (judge e a h.0 w) (λ b. part n _ _ (judge_each e rest h.1 ws) (λ bs. gives n _))

      judge_all : (e : Context) (us : Expressions ℕ) → ExpressionsBelow n us → (w : Option Term) → FailsBelow n (JudgeAll defs e us w)
      judge_all e p.Nil h w = gives n _
      judge_all e (p.Cons a rest) h w = part n _ _ (judge e a h.0 w) (λ b. part n _ _ (judge_all e rest h.1 w) (λ bs. gives n _))

      judge_cases : (e : Context) (cs : Cases ℕ) → CasesBelow n cs → (u : Term) (w : Option Term) → FailsBelow n (JudgeCases defs e cs u w)
      judge_cases e p.NoCases h u w = gives n _
      judge_cases e (p.Case q a rest) h u w =
          part n _ _ (stands n defs e.types q h.0 u) (λ r. part n _ _ (judge (with_values r.0 e) a h.1 w) (λ b. part n _ _ (judge_cases e rest h.2 u w) (λ cs. gives n _)))

      judge_fields : (e : Context) (xs : ObjectFields ℕ) → ObjectFieldsBelow n xs → (fs : List (Field Term)) → FailsBelow n (JudgeFields defs e xs fs)
      judge_fields e p.NoFields h fs = gives n _
      judge_fields e (p.Field mutable x u a rest) h fs =
          part n _ _
          (by_case n (find x.bytes fs) _ _
          (λ f. tests n _ x.at (same mutable f.mutable) _ h.0 (by_case_of n (TypeBelow n) u _ _ h.1
          (λ v i. part n _ _ (reads n defs e.types v i) (λ v. needs_each n _ x.at (field_questions mutable v f.part) _ h.0 (judge e a h.2 (Some v))))
          (judge e a h.2 (Some f.part))))
          (by_case_of n (TypeBelow n) u _ _ h.1 (λ v i. part n _ _ (reads n defs e.types v i) (λ v. judge e a h.2 (Some v))) (judge e a h.2 None)))
          (λ b. part n _ _ (judge_fields e rest h.3 fs) (λ bs. gives n _))

      pub judge_order : (e : Context) (at : ℕ) (value : Bool) (ds : Declarations ℕ) → at < n → DeclarationsBelow n ds → (last w : Option Term) → FailsBelow n (JudgeOrder defs e at value ds last w)
      judge_order e at value p.End h i last w = part n _ _ (ends_list n at last w h) (λ u. gives n _)
      judge_order e at value (p.Then public m d rest) h i last w =
          part n _ _ (judge_one e m d i.0 i.1 _) (λ one. part n _ _ (judge_order _ at value rest h i.2 one.value w) (λ run. gives n _))

      judge_one : (e : Context) (at : ℕ) (d : Declaration ℕ) → at < n → DeclarationBelow n d → (w : Option Term) → FailsBelow n (JudgeOne defs e at d w)
      judge_one e at (p.Let q a) h i w =
          part n _ _
          (by_case_of n (TypeBelow n) (annotation q) _ _ (annotated n q i.0) (λ u j. part n _ _ (reads n defs e.types u j) (λ v. judge e a i.1 (Some v))) (judge (directly (around_of q) e) a i.1 None))
          (λ b. part n _ _ (stands n defs e.types q i.0 _) (λ r. gives n _))
      judge_one e at (p.Var b x u a) h i w =
          part n _ _
          (by_case_of n (TypeBelow n) u _ _ i.1 (λ u j. part n _ _ (reads n defs e.types u j) (λ v. judge e a i.2 (Some v))) (judge e a i.2 None))
          (λ c. stable n b at _ _ h (gives n _))
      judge_one e at (p.NamedObject x fields) h i w =
          part n _ _ (public_fields n fields i.1) (λ _. part n _ _ (listed n defs e fields _ _ i.1 (λ known. judge_order known at false fields h i.1 None None) (λ known made. judge_bodies known fields i.1 made)) (λ q.
          meets n _ _ (gives n _)))
      judge_one e at (p.Evaluate a) h i w = part n _ _ (judge e a i w) (λ b. gives n _)
      judge_one e at _ h i w = gives n _

      pub judge_bodies : (e : Context) (ds : Declarations ℕ) → DeclarationsBelow n ds → (made : List Made) → FailsBelow n (JudgeBodies defs e ds made)
      judge_bodies e p.End h made = gives n _
      judge_bodies e (p.Then public at d rest) h made = part n _ _ (judge_body e at d h.0 h.1 made) (λ q. part n _ _ (judge_bodies e rest h.2 q.1) (λ ds. gives n _))

      judge_body : (e : Context) (at : ℕ) (d : Declaration ℕ) → at < n → DeclarationBelow n d → (made : List Made) → FailsBelow n (JudgeBody defs e at d made)
      judge_body e at (p.Func x g body) h i made =
          part n _ _ (parameters n defs (within e.types g) g.parameters i.1.1 []) (λ ps. part n _ _ (judge _ body i.2 _) (λ b. gives n _))
      judge_body e at (p.Method query context x g body) h i made =
          part n _ _ (context_of n defs e.types context i.0) (λ c. part n _ _ (parameters n defs e.types g.parameters i.2.1 []) (λ ps.
          part n _ _ (judge _ body i.3 _) (λ b. gives n _)))
      judge_body e at (p.System x body) h i made = part n _ _ (judge _ body i.1 _) (λ b. gives n _)
      judge_body e at (p.TypeAlias x names u) h i made = gives n _
      judge_body e at (p.Class x g fields) h i made =
          part n _ _ (parameters n defs (within e.types g) g.parameters i.1.1 []) (λ ps. part n _ _ (public_fields n fields i.2) (λ _.
          part n _ _ (listed n defs _ fields _ _ i.2 (λ known. judge_order known at false fields h i.2 None None) (λ known made. judge_bodies known fields i.2 made)) (λ q. gives n _)))
      judge_body e at _ h i made = takes_made n made z
