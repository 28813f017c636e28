-- The rules of expressions and declarations, one for each form (Motoko language manual, sections "Expressions" and "Declarations").
--
-- `Judge e a None` is "a gives T", and `Judge e a (Some U)` is "a fits U". What is given is the expression with its own type at each node.
use Rattle.std.specs.Prelude.{ℕ, pos, neg_ℤ, Bool, true, false, not, List, [], ◌∷◌, ◌++◌, length, Option, Some, None, map, slice_get, nat_eq, cond, is_some}
use Rattle.std.specs.Str.{bytes_eq}
use Rattle.mo_num.specs.declared.kind.Kind.TheVariants as kind
use Rattle.mo_scopes.specs.Scopes.{named}
use Rattle.mo_types.specs.declared.node.Node.{Node}
use Rattle.mo_types.specs.declared.node.Node.TheVariants as node
use Rattle.mo_types.specs.declared.node.Field.{Field}
use Rattle.mo_types.specs.Heads.{opt_of, array_of, mut_array_of, tuple_of, object_of, actor_of, variant_of, func_of, async_of}
use Rattle.mo_types.specs.Sub.{find}
use Rattle.typing_rules.specs.declared.condition.Condition.TheVariants as condition
use Rattle.typing_rules.specs.AbstractSyntax.{Bytes, Expression, Form, Expressions, Cases, ObjectFields, Declaration, Declarations}
use Rattle.typing_rules.specs.AbstractSyntax as p
use Rattle.typing_rules.specs.Terms.{Term, unlisted, unit, nat}
use Rattle.typing_rules.specs.Terms as t
use Rattle.typing_rules.specs.Definitions.{Definitions}
use Rattle.typing_rules.specs.Heads.{head, members_head}
use Rattle.typing_rules.specs.Judgements.{Question, Judgement, Gives, Fails, Meets, Part, Case, Given, Tests, Needs, NeedsEach, IsBelow, IsPrincipal}
use Rattle.typing_rules.specs.TypeScopes.{term_or}
use Rattle.typing_rules.specs.Types.{Reads, ReadsOr}
use Rattle.typing_rules.specs.DeclaredTypes.{within, with_list, class_type, member_fields}
use Rattle.typing_rules.specs.Contexts.{Context, constant, variable, value_named, with_values, with_label, in_loop, with_types, in_option, in_body, directly}
use Rattle.typing_rules.specs.AsyncPlaces.{Around, Awaited, Labelled, Other, Local, waits, calls, takes_call, takes_name, body_of, around_of, FuturePlaced}
use Rattle.typing_rules.specs.Members.{member_bound, member_type, object_field}
use Rattle.typing_rules.specs.TypedTrees.{Note, note, Typed, typed, type_of, types_of, case_types, field_types, declared_type, signature, place, annotation, count, count_patterns}
use Rattle.typing_rules.specs.Ends.{wanted, Has, Leaves, Greatest, Branches}
use Rattle.typing_rules.specs.Literals.{Number, Constant, plain_number, written}
use Rattle.typing_rules.specs.Patterns.{Stands, is_empty}
use Rattle.typing_rules.specs.Operators.{family}
use Rattle.typing_rules.specs.Operands.{Negative, Binary, Operand}
use Rattle.typing_rules.specs.Calls.{built_in, polymorphic, local_of, called, Instance, items_of}
use Rattle.typing_rules.specs.PublicFields.{PublicFields}
use Rattle.typing_rules.specs.Signatures.{Parameters, ContextOf, async_term, method_sort}
use Rattle.typing_rules.specs.Lists.{Made, Entry, Run, no_entry, entry, of_expression, EndsList, TakesMade, Stable, Listed}

-- an actor reference
abbrev pub actor_text : Expression ℕ → Option Bytes
actor_text (p.exp at (p.ActorReference x)) = Some x
actor_text _ = None

abbrev pub has_field : Bytes → ObjectFields ℕ → Bool
has_field l p.NoFields = false
has_field l (p.Field mutable x u a rest) = cond (bytes_eq x.bytes l) true (has_field l rest)

abbrev pub all_there : ObjectFields ℕ → List (Field Term) → Bool
all_there written [] = true
all_there written (g ∷ gs) = cond (has_field g.label written) (all_there written gs) false

abbrev pub element_of : Node Term → Option Term
element_of (node.Array u) = Some u
element_of (node.MutArray u) = Some u
element_of _ = None

abbrev pub some_each : List Term → List (Option Term)
some_each us = map Some us

abbrev pub same : Bool → Bool → Bool
same true b = b
same false b = not b

-- the element type of an array that no type is wanted of
abbrev pub Elements : ℕ → List Term → Judgement Term
Elements at [] = Gives t.Bottom
Elements at (u ∷ us) = Greatest condition.Branches at (u ∷ us)

-- A field that has a type u of its own stands where v is wanted; one that is mutable has an equal type.
abbrev pub field_questions : Bool → Term → Term → List Question
field_questions true u v = IsBelow u v ∷ IsBelow v u ∷ []
field_questions false u v = IsBelow u v ∷ []

module _ (defs : Definitions) where
  abbrev mutual
    pub Judge : Context → Expression ℕ → Option Term → Judgement Typed
    Judge e (p.exp at f) None = Rule e.around (directly Other e) at f None
    Judge e (p.exp at f) (Some u) = Meets u (Rule e.around (directly Other e) at f (Some u))

    pub Rule : Around → Context → ℕ → Form ℕ → Option Term → Judgement Typed
    -- Literals and names. A function with type parameters stands only as a callee. The rules on names see to it that each name is bound.
    Rule o e at (p.Constant l) w = Constant defs at w l
    Rule o e at (p.Name x) w =
        Given condition.NoField at (value_named e x) (λ b. Tests condition.TypeArguments at (is_empty b.generics)
        (Part (FuturePlaced defs e.body (takes_name o) at b.type) (λ _. Has at w b.type (p.Name x))))
    Rule o e at (p.BuiltIn m) w = Has at w (member_bound m).type (p.BuiltIn m)
    Rule o e at (p.Subsumed a) w = Judge e a w
    -- Tuple, `?e`, `#t e`: give a tuple, an option, a variant of that one tag; fit part by part.
    Rule o e at (p.Tuple items) w =
        Case (wanted defs tuple_of w)
        (λ q. Tests condition.Mismatch at (nat_eq (length q.1) (count items)) (Part (JudgeEach e items (some_each q.1)) (λ es. Gives (typed at q.0 (p.Tuple es)))))
        (λ _. Part (JudgeEach e items []) (λ es. Has at w (t.Tuple (unlisted (types_of es))) (p.Tuple es)))
    Rule o e at (p.Optional a) w =
        Case (wanted defs opt_of w)
        (λ q. Part (Judge e a (Some q.1)) (λ b. Gives (typed at q.0 (p.Optional b))))
        (λ _. Part (Judge e a None) (λ b. Has at w (t.Optional (type_of b)) (p.Optional b)))
    Rule o e at (p.Tag x) w =
        Case (wanted defs variant_of w)
        (λ q. Given condition.Mismatch at (find x q.1) (λ f. Meets unit (Needs condition.Mismatch at (IsBelow unit f.part) (Gives (typed at q.0 (p.Tag x))))))
        (λ _. Has at w (t.Variant (t.constant x unit t.NoFields)) (p.Tag x))
    Rule o e at (p.Tagged x a) w =
        Case (wanted defs variant_of w)
        (λ q. Given condition.Mismatch at (find x q.1) (λ f. Part (Judge e a (Some f.part)) (λ b. Gives (typed at q.0 (p.Tagged x b)))))
        (λ _. Part (Judge e a None) (λ b. Has at w (t.Variant (t.constant x (type_of b) t.NoFields)) (p.Tagged x b)))
    -- `[..]`, `[var ..]`: give the array of the greatest element type, `[]` gives `[None]`, `[var]` gives nothing; fit element by element.
    Rule o e at (p.Array false items) w =
        Case (wanted defs array_of w)
        (λ q. Part (JudgeAll e items (Some q.1)) (λ es. Gives (typed at q.0 (p.Array false es))))
        (λ _. Part (JudgeAll e items None) (λ es. Part (Elements at (types_of es)) (λ u. Has at w (t.Array u) (p.Array false es))))
    Rule o e at (p.Array true items) w =
        Case (wanted defs mut_array_of w)
        (λ q. Part (JudgeAll e items (Some q.1)) (λ es. Gives (typed at q.0 (p.Array true es))))
        (λ _. Part (JudgeAll e items None) (λ es. Part (Greatest condition.NeedsType at (types_of es)) (λ u. Has at w (t.MutableArray u) (p.Array true es))))
    -- `{..}`: gives its fields; fits an object type whose fields are all there, with equal `var`, and fit.
    Rule o e at (p.Object fields) w =
        Case (wanted defs object_of w)
        (λ q. Tests condition.Mismatch at (all_there fields q.1) (Part (JudgeFields e fields q.1) (λ fs. Gives (typed at q.0 (p.Object fs)))))
        (λ _. Part (JudgeFields e fields []) (λ fs. Has at w (t.Object (field_types e.types fs)) (p.Object fs)))
    -- `e.x`, `e.n`, `e[i]`: a field or method, a part of a tuple, an element; i fits Nat.
    Rule o e at (p.Member a x) w =
        Case (built_in e a x)
        (λ m. Tests condition.TypeArguments at (is_empty (member_bound m).generics) (Has at w (member_bound m).type (p.BuiltIn m)))
        (λ _. Part (Judge e a None) (λ b. Given condition.NoField at (member_type x (members_head defs (type_of b))) (λ u. Has at w u (p.Member b x))))
    Rule o e at (p.Projection a n) w =
        Part (Judge e a None) (λ b. Given condition.NotTuple at (tuple_of (members_head defs (type_of b))) (λ us. Given condition.NotTuple at (slice_get us n) (λ u.
        Has at w u (p.Projection b n))))
    Rule o e at (p.Index a i) w =
        Part (Judge e a None) (λ b. Given condition.NotArray at (element_of (members_head defs (type_of b))) (λ u. Part (Judge e i (Some nat)) (λ j.
        Has at w u (p.Index b j))))
    -- `e : T`: e fits T; gives T. An actor reference stands directly under `: T` with T an actor type, and its text is a principal's.
    Rule o e at (p.Annotated a u) w =
        Part (Reads defs e.types u) (λ v. Case (actor_text a)
        (λ x. Tests condition.NotActor at (is_some (actor_of (head defs v))) (Needs condition.BadPrincipal at (IsPrincipal x)
        (Has at w v (p.Annotated (typed (place a) v (p.ActorReference x)) u))))
        (λ _. Part (Judge e a (Some v)) (λ b. Has at w v (p.Annotated b u))))
    Rule o e at (p.ActorReference x) w = Fails condition.NotActor at
    -- arithmetic, `-e`, `#`, comparison, `and`, `or`, `not`
    Rule o e at (p.Negative a) w =
        Case (plain_number a)
        (λ n. Number defs at w kind.Int (neg_ℤ (pos n)) (p.Negative (typed (place a) nat (p.Constant (p.Number n)))))
        (λ _. Negative defs at w (λ v. Judge e a v))
    Rule o e at (p.Binary op a b) w = Binary defs at w (family op) op (written a) (written b) (λ v. Judge e a v) (λ v. Judge e b v)
    Rule o e at (p.Not a) w = Part (Judge e a (Some t.Boolean)) (λ b. Has at w t.Boolean (p.Not b))
    -- `p := e`, `p op= e`: e, or `p op e`, fits the type of p; gives ().
    Rule o e at (p.Assign q a) w = Part (JudgePlace e q) (λ r. Part (Judge e a (Some (type_of r))) (λ b. Has at w unit (p.Assign r b)))
    Rule o e at (p.AssignBy op q a) w =
        Part (JudgePlace e q) (λ r. Part (Operand defs at (family op) (type_of r) (λ v. Judge e a v)) (λ b. Has at w unit (p.AssignBy op r b)))
    -- Call: e gives a function type with as many parameters as arguments; they fit; gives the result. A function with type parameters takes all its type
    -- arguments, each below its bound.
    Rule o e at (p.Call f types arguments) w =
        Part (Case (polymorphic e f)
        (λ q. Given condition.TypeArguments at types (λ us. Part (Instance defs at e.types q.0 us) (λ u. Meets u (Gives (typed (place f) u q.1)))))
        (λ _. Case types (λ us. Tests condition.TypeArguments at (is_empty us) (Judge e f None)) (λ _. Judge e f None)))
        (λ g. Given condition.NotFunction at (func_of (members_head defs (type_of g))) (λ q.
        Part (FuturePlaced defs e.body (takes_call o) at (called q.0 q.2)) (λ _.
        Tests condition.ArgumentCount at (nat_eq (length q.1) (count arguments)) (Part (JudgeEach e arguments (some_each q.1)) (λ es.
        Has at w (called q.0 q.2) (p.Call g types es))))))
    -- `if`, `switch`, `try`: give the greatest of the branches; fit where all fit. Without `else` the branch fits () and the form gives ().
    Rule o e at (p.When c a) w = Part (Judge e c (Some t.Boolean)) (λ d. Part (Judge e a (Some unit)) (λ b. Has at w unit (p.When d b)))
    Rule o e at (p.If c a b) w =
        Part (Judge e c (Some t.Boolean)) (λ d. Part (Judge e a w) (λ x. Part (Judge e b w) (λ y. Branches at w (type_of x ∷ type_of y ∷ []) (p.If d x y))))
    Rule o e at (p.Switch a cases) w =
        Part (Judge e a None) (λ b. Part (JudgeCases e cases (type_of b) w) (λ cs. Branches at w (case_types cs) (p.Switch b cs)))
    Rule o e at (p.Try a q b) w =
        Tests condition.AsyncPlace at (waits e.body) (Part (Judge e a w) (λ x. Meets t.Error (Part (Stands defs e.types q t.Error) (λ r.
        Part (Judge (with_values r.0 e) b w) (λ y. Branches at w (type_of x ∷ type_of y ∷ []) (p.Try x r.1 y))))))
    -- `while`, `for`, `loop N while C`, `loop N`: N fits (). They give (); `loop N` gives None. `for` takes an object with `next : () -> ?T`.
    Rule o e at (p.While c a) w = Part (Judge e c (Some t.Boolean)) (λ d. Part (Judge (in_loop o e) a (Some unit)) (λ b. Has at w unit (p.While d b)))
    Rule o e at (p.Loop a) w = Part (Judge (in_loop o e) a (Some unit)) (λ b. Has at w t.Bottom (p.Loop b))
    Rule o e at (p.LoopWhile a c) w = Part (Judge (in_loop o e) a (Some unit)) (λ b. Part (Judge e c (Some t.Boolean)) (λ d. Has at w unit (p.LoopWhile b d)))
    Rule o e at (p.For q a b) w =
        Part (Judge e a None) (λ x. Given condition.NotIterable at (items_of defs (members_head defs (type_of x))) (λ u. Meets u (Part (Stands defs e.types q u) (λ r.
        Part (Judge (in_loop o (with_values r.0 e)) b (Some unit)) (λ y. Has at w unit (p.For r.1 x y))))))
    -- `label l : T N`: N fits T, by default (), gives T. `break`, `continue`, `return` and `throw` give None; values fit the label's or result type, `throw`
    -- Error. `continue` stands in the body of a loop directly under its label.
    Rule o e at (p.Label x u a) w =
        Part (ReadsOr defs e.types u unit) (λ v. Part (Judge (directly Labelled (with_label x (record { type = v; loop = false }) e)) a (Some v)) (λ b. Has at w v (p.Label x u b)))
    Rule o e at (p.Break x) w = Given condition.BadLabel at (named e.labels x) (λ l. Leaves at w l.type (p.Break x))
    Rule o e at (p.BreakWith x a) w = Given condition.BadLabel at (named e.labels x) (λ l. Part (Judge e a (Some l.type)) (λ b. Has at w t.Bottom (p.BreakWith x b)))
    Rule o e at (p.Continue x) w = Given condition.BadLabel at (named e.labels x) (λ l. Tests condition.BadLabel at l.loop (Has at w t.Bottom (p.Continue x)))
    Rule o e at p.Return w = Given condition.BadLabel at e.returns (λ u. Leaves at w u p.Return)
    Rule o e at (p.ReturnWith a) w = Given condition.BadLabel at e.returns (λ u. Part (Judge e a (Some u)) (λ b. Has at w t.Bottom (p.ReturnWith b)))
    Rule o e at (p.Throw a) w = Tests condition.AsyncPlace at (waits e.body) (Part (Judge e a (Some t.Error)) (λ b. Has at w t.Bottom (p.Throw b)))
    -- `do`, block: gives its last expression's type. `do ? B` gives `?T` for B's T; `e!` gives U for `?U`, and ends the nearest `do ?`.
    Rule o e at (p.Do a) w = Part (Judge e a w) (λ b. Gives (typed at (type_of b) (p.Do b)))
    Rule o e at (p.DoOption a) w =
        Case (wanted defs opt_of w)
        (λ q. Part (Judge (in_option e) a (Some q.1)) (λ b. Gives (typed at q.0 (p.DoOption b))))
        (λ _. Part (Judge (in_option e) a None) (λ b. Has at w (t.Optional (type_of b)) (p.DoOption b)))
    Rule o e at (p.Bang a) w =
        Tests condition.BangPlace at e.ends (Part (Judge e a None) (λ b. Given condition.NotOption at (opt_of (head defs (type_of b))) (λ u. Has at w u (p.Bang b))))
    Rule o e at (p.Block ds) w =
        Part (Listed defs e ds (λ known. JudgeOrder known at true ds None w) (λ known made. JudgeBodies known ds made)) (λ q. Gives (typed at q.0 (p.Block q.1)))
    -- `func`: gives its type where all parameters are annotated; a missing result is (). Fits a function type and takes what is not annotated from it.
    Rule o e at (p.Function g body) w =
        Case (wanted defs local_of w)
        (λ q. Tests condition.Mismatch at (nat_eq (length q.1.0) (count_patterns g.parameters)) (Part (Parameters defs e.types g.parameters q.1.0) (λ ps.
        Part (ReadsOr defs e.types g.result q.1.1) (λ r. Part (Judge (in_body Local (Some r) ps.scope e) body (Some r)) (λ b.
        Has at w (t.Function (unlisted ps.types) r) (p.Function (signature g ps.patterns) b))))))
        (λ _. Part (Parameters defs e.types g.parameters []) (λ ps. Part (ReadsOr defs e.types g.result unit) (λ r.
        Part (Judge (in_body Local (Some r) ps.scope e) body (Some r)) (λ b. Has at w (t.Function (unlisted ps.types) r) (p.Function (signature g ps.patterns) b)))))
    -- `object`: public fields are functions, or `let` and `var` with an annotated type.
    Rule o e at (p.ObjectBlock fields) w =
        Part (PublicFields fields) (λ _. Part (Listed defs e fields (λ known. JudgeOrder known at false fields None None) (λ known made. JudgeBodies known fields made)) (λ q.
        Has at w (t.Object (member_fields (with_list e.types fields) fields)) (p.ObjectBlock q.1)))
    -- `assert`, `ignore`, `debug`: Bool; any type; (). All give ().
    Rule o e at (p.Assert a) w = Part (Judge e a (Some t.Boolean)) (λ b. Has at w unit (p.Assert b))
    Rule o e at (p.Ignore a) w = Part (Judge (directly Awaited e) a None) (λ b. Has at w unit (p.Ignore b))
    Rule o e at (p.Debug a) w = Part (Judge e a (Some unit)) (λ b. Has at w unit (p.Debug b))
    -- `await e`: e gives `async T`; gives T. It stands in the body of an update, and e is a call of a shared function or a name of one.
    Rule o e at (p.Await a) w =
        Tests condition.AsyncPlace at (calls e.body) (Part (Judge (directly Awaited e) a None) (λ b.
        Given condition.AsyncPlace at (async_of (head defs (type_of b))) (λ u. Has at w u (p.Await b))))

    -- what may be assigned to: a `var` name, a `var` field or an element of `[var T]`
    pub JudgePlace : Context → Expression ℕ → Judgement Typed
    JudgePlace e (p.exp at f) = PlaceRule (directly Other e) at f

    pub PlaceRule : Context → ℕ → Form ℕ → Judgement Typed
    PlaceRule e at (p.Name x) = Given condition.NotMutable at (value_named e x) (λ b. Tests condition.NotMutable at b.mutable (Has at None b.type (p.Name x)))
    PlaceRule e at (p.Member a x) =
        Case (built_in e a x)
        (λ m. Fails condition.NotMutable at)
        (λ _. Part (Judge e a None) (λ b. Given condition.NoField at (object_field x (members_head defs (type_of b))) (λ f.
        Tests condition.NotMutable at f.mutable (Has at None f.part (p.Member b x)))))
    PlaceRule e at (p.Index a i) =
        Part (Judge e a None) (λ b. Given condition.NotArray at (element_of (members_head defs (type_of b))) (λ u.
        Given condition.NotMutable at (mut_array_of (members_head defs (type_of b))) (λ v. Part (Judge e i (Some nat)) (λ j. Has at None v (p.Index b j)))))
    PlaceRule e at _ = Fails condition.NotMutable at

    -- each, where these types are wanted or none is
    pub JudgeEach : Context → Expressions ℕ → List (Option Term) → Judgement (Expressions Note)
    JudgeEach e p.Nil ws = Gives p.Nil
    JudgeEach e (p.Cons a rest) [] = Part (Judge e a None) (λ b. Part (JudgeEach e rest []) (λ bs. Gives (p.Cons b bs)))
    JudgeEach e (p.Cons a rest) (w ∷ ws) = Part (Judge e a w) (λ b. Part (JudgeEach e rest ws) (λ bs. Gives (p.Cons b bs)))

    pub JudgeAll : Context → Expressions ℕ → Option Term → Judgement (Expressions Note)
    JudgeAll e p.Nil w = Gives p.Nil
    JudgeAll e (p.Cons a rest) w = Part (Judge e a w) (λ b. Part (JudgeAll e rest w) (λ bs. Gives (p.Cons b bs)))

    pub JudgeCases : Context → Cases ℕ → Term → Option Term → Judgement (Cases Note)
    JudgeCases e p.NoCases u w = Gives p.NoCases
    JudgeCases e (p.Case q a rest) u w =
        Part (Stands defs e.types q u) (λ r. Part (Judge (with_values r.0 e) a w) (λ b. Part (JudgeCases e rest u w) (λ cs. Gives (p.Case r.1 b cs))))

    -- In `x : T = e` e fits T, and x has T. A field that is to fit one fits it with equal `var`; one that the wanted type lacks gives its type.
    pub JudgeFields : Context → ObjectFields ℕ → List (Field Term) → Judgement (ObjectFields Note)
    JudgeFields e p.NoFields fs = Gives p.NoFields
    JudgeFields e (p.Field mutable x u a rest) fs =
        Part (Case (find x.bytes fs)
        (λ f. Tests condition.Mismatch x.at (same mutable f.mutable) (Case u
        (λ v. Part (Reads defs e.types v) (λ v. NeedsEach condition.Mismatch x.at (field_questions mutable v f.part) (Judge e a (Some v))))
        (λ _. Judge e a (Some f.part))))
        (λ _. Case u (λ v. Part (Reads defs e.types v) (λ v. Judge e a (Some v))) (λ _. Judge e a None)))
        (λ b. Part (JudgeFields e rest fs) (λ bs. Gives (p.Field mutable x u b bs)))

    -- ---- what is evaluated in order, and then the bodies of functions and classes

    -- A block has the value of its last expression, where it ends in one. An object has none.
    pub JudgeOrder : Context → ℕ → Bool → Declarations ℕ → Option Term → Option Term → Judgement Run
    JudgeOrder e at value p.End last w = Part (EndsList at last w) (λ u. Gives (record { type = u; known = e; made = [] }))
    JudgeOrder e at value (p.Then public n d rest) last w =
        Part (JudgeOne e n d (of_expression value rest w)) (λ one. Part (JudgeOrder (with_values one.scope e) at value rest one.value w) (λ run.
        Gives (record { type = run.type; known = run.known; made = one.made ++ run.made })))

    -- In `let p : T = e` e fits T, and p stands on T. In `var x : T = e`, stable or not, e fits T, and x has T.
    pub JudgeOne : Context → ℕ → Declaration ℕ → Option Term → Judgement Entry
    JudgeOne e at (p.Let q a) w =
        Part (Case (annotation q) (λ u. Part (Reads defs e.types u) (λ v. Judge e a (Some v))) (λ _. Judge (directly (around_of q) e) a None)) (λ b.
        Part (Stands defs e.types q (declared_type e.types (annotation q) b)) (λ r. Gives (entry r.0 (note at (type_of b)) (p.Let r.1 b))))
    JudgeOne e at (p.Var stable x u a) w =
        Part (Case u (λ u. Part (Reads defs e.types u) (λ v. Judge e a (Some v))) (λ _. Judge e a None)) (λ b.
        Stable stable at (declared_type e.types u b)
        (Gives (entry ((x.bytes, variable (declared_type e.types u b)) ∷ []) (note at (declared_type e.types u b)) (p.Var stable x u b))))
    JudgeOne e at (p.NamedObject x fields) w =
        Part (PublicFields fields) (λ _. Part (Listed defs e fields (λ known. JudgeOrder known at false fields None None) (λ known made. JudgeBodies known fields made)) (λ q.
        Meets (t.Object (member_fields (with_list e.types fields) fields))
        (Gives (entry ((x.bytes, constant (t.Object (member_fields (with_list e.types fields) fields))) ∷ [])
        (note at (t.Object (member_fields (with_list e.types fields) fields))) (p.NamedObject x q.1)))))
    JudgeOne e at (p.Evaluate a) w =
        Part (Judge e a w) (λ b. Gives (record { scope = []; value = Some (type_of b); made = (note at (type_of b), p.Evaluate b) ∷ [] }))
    JudgeOne e at _ w = Gives no_entry

    pub JudgeBodies : Context → Declarations ℕ → List Made → Judgement (Declarations Note)
    JudgeBodies e p.End made = Gives p.End
    JudgeBodies e (p.Then public at d rest) made =
        Part (JudgeBody e at d made) (λ q. Part (JudgeBodies e rest q.1) (λ ds. Gives (p.Then public q.0.0 q.0.1 ds)))

    -- A function's body fits its result, and a system function's fits ().
    pub JudgeBody : Context → ℕ → Declaration ℕ → List Made → Judgement (Made × List Made)
    JudgeBody e at (p.Func x g body) made =
        Part (Parameters defs (within e.types g) g.parameters []) (λ ps.
        Part (Judge (in_body Local (Some (term_or (within e.types g) g.result unit)) ps.scope (with_types (within e.types g) e)) body (Some (term_or (within e.types g) g.result unit))) (λ b.
        Gives ((note at (t.Function (unlisted ps.types) (term_or (within e.types g) g.result unit)), p.Func x (signature g ps.patterns) b), made)))
    JudgeBody e at (p.Method query context x g body) made =
        Part (ContextOf defs e.types context) (λ c. Part (Parameters defs e.types g.parameters []) (λ ps.
        Part (Judge (in_body (body_of query) (Some (async_term e.types g.result)) (ps.scope ++ c.0) e) body (Some (async_term e.types g.result))) (λ b.
        Gives ((note at (t.Shared (method_sort query) (unlisted ps.types) (async_term e.types g.result)), p.Method query c.1 x (signature g ps.patterns) b), made))))
    JudgeBody e at (p.System x body) made =
        Part (Judge (in_body Local (Some unit) [] e) body (Some unit)) (λ b. Gives ((note at unit, p.System x b), made))
    JudgeBody e at (p.TypeAlias x parameters u) made = Gives ((note at unit, p.TypeAlias x parameters u), made)
    JudgeBody e at (p.Class x g fields) made =
        Part (Parameters defs (within e.types g) g.parameters []) (λ ps. Part (PublicFields fields) (λ _.
        Part (Listed defs (in_body Local None ps.scope (with_types (within e.types g) e)) fields
        (λ known. JudgeOrder known at false fields None None) (λ known made. JudgeBodies known fields made)) (λ q.
        Gives ((note at (class_type (within e.types g) x), p.Class x (signature g ps.patterns) q.1), made))))
    JudgeBody e at _ made = TakesMade made
