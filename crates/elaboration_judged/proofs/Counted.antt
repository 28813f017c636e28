-- The declarations of a program that is written out have no more names than nodes: each function is placed once.
use Rattle.std.proofs.Common.{◌≡◌, ◌≤◌, ℕ, zero, suc, ◌+◌, Bool, true, false, List, [], ◌∷◌, ◌++◌, length, map, refl, ap, ◌∙◌, arith}
use Rattle.std.proofs.Math.Dec.{eqb-suc-zero, eqb-zero-suc, eqb-suc-suc}
use Rattle.std.proofs.lemmas.List.{length-map}
use Rattle.std.specs.Prelude.{cond, nat_eq, filter, flat_map}
use Rattle.mo_types.specs.declared.node.TypeId.{TypeId}
use Rattle.mo_types.specs.Graph.{Slot}
use Rattle.typed_tree.specs.declared.expression.Form.TheOpen as F
use Rattle.typed_tree.specs.declared.expression.Function.{Function}
use Rattle.typed_tree.specs.declared.expression.Step.{Step, roll-Step}
use Rattle.typed_tree.specs.declared.expression.TypedExpression.{TypedExpression}
use Rattle.typed_tree.specs.declared.literal.Literal.{Literal}
use Rattle.typed_tree.specs.declared.literal.Literal.TheVariants as literal
use Rattle.typed_tree.specs.declared.pattern.TypedPattern.{TypedPattern, roll-TypedPattern, fold-roll-TypedPattern}
use Rattle.typed_tree.specs.declared.pattern.PatternForm.{PatternForm, roll-PatternForm, fold-roll-PatternForm}
use Rattle.typed_tree.specs.declared.pattern.PatternForm.TheOpen as P
use Rattle.typed_tree.specs.declared.pattern.PatternField.{PatternField, roll-PatternField}
use Rattle.typed_tree.specs.Language.{Name}
use Rattle.typed_tree.specs.Patterns.{Pat}
use Rattle.typed_tree.specs.PatternView.{LabelledPat, pattern, pattern_form, pats, literal_pattern, form_step, field_step, pattern_step}
use Rattle.typed_tree.specs.Placing.{Declared, place}
use Rattle.typed_tree.specs.View.{declaration, function}
use Rattle.typed_tree.specs.ViewLaws.{field}
use Rattle.typed_tree.proofs.Views.{pattern_views}
use Rattle.typing_rules.specs.AbstractSyntax.{Bytes, Pattern, Patterns, PatternFields, Declaration, Declarations, Program}
use Rattle.typing_rules.specs.AbstractSyntax as p
use Rattle.typing_rules.specs.Definitions.{Definitions}
use Rattle.typing_rules.specs.Heads.{head}
use Rattle.typing_rules.specs.Nodes as counts
use Rattle.typing_rules.specs.Terms.{Term, unit}
use Rattle.typing_rules.specs.TypedTrees.{Note}
use Rattle.desugaring.specs.Expressions.{bound, object_of_names, public_names, pieces, becomes, tree}
use Rattle.desugaring.specs.Frames.{Frame, with_entries, kept_at}
use Rattle.desugaring.specs.Nodes.{literal_at}
use Rattle.desugaring.specs.Patterns as made
use Rattle.desugaring.specs.Pieces.{Becomes, AStep, AFunction, AnExpression, Nothing, Piece, Arranged, Named, before, function_of, group_at, names_of, group_steps, ended, placed_piece, is_end, arranged_from, arranged}
use Rattle.desugaring.specs.Programs.{own_nodes, own_nodes_of, around, desugared}
use Rattle.tree_shapes.proofs.Single.{let_is, var_is, stable_is, evaluated_is, functions_is}
use Rattle.elaboration_starts.specs.Declarations.{bound_in, bound_in_all, bound_in_fields}
use Rattle.elaboration_typed.specs.Standing.{names_opened, names_declared}
use Rattle.elaboration_typed.proofs.Functions.{count_group}

-- ---- patterns

abbrev Layer : Type 0
Layer = P.PatternForm-F PatternForm PatternField TypedPattern

layer : (u : TypeId) (x : Layer) → pattern (roll-TypedPattern (record { of_type = u; form = roll-PatternForm x })) ≡ pattern_form (roll-PatternForm x)
unfolding pattern pattern_form
layer u x = fold-roll-TypedPattern Pat LabelledPat Pat form_step field_step pattern_step (record { of_type = u; form = roll-PatternForm x })

abbrev node : TypeId → Layer → TypedPattern
node u x = roll-TypedPattern (record { of_type = u; form = roll-PatternForm x })

abbrev names : TypedPattern → ℕ
names q = bound_in (pattern q)

wildcard_names : (u : TypeId) → names (node u P.Wildcard) ≡ 0
unfolding pattern pattern_form field
wildcard_names u = ap bound_in (layer u P.Wildcard ∙ fold-roll-PatternForm Pat LabelledPat Pat form_step field_step pattern_step P.Wildcard)

bind_names : (u : TypeId) → names (node u P.Bind) ≡ 1
unfolding pattern pattern_form field
bind_names u = ap bound_in (layer u P.Bind ∙ fold-roll-PatternForm Pat LabelledPat Pat form_step field_step pattern_step P.Bind)

literal_names : (l : Literal) → bound_in (literal_pattern l) ≡ 0
literal_names literal.Unit = refl
literal_names literal.Null = refl
literal_names (literal.Flag b) = refl
literal_names (literal.Number n) = refl
literal_names (literal.Character c) = refl
literal_names (literal.Text t) = refl
literal_names (literal.Blob t) = refl
literal_names (literal.Actor t) = refl

constant_names : (u : TypeId) (l : Literal) → names (node u (P.Constant l)) ≡ 0
unfolding pattern pattern_form field
constant_names u l = ap bound_in (layer u (P.Constant l) ∙ fold-roll-PatternForm Pat LabelledPat Pat form_step field_step pattern_step (P.Constant l)) ∙ literal_names l

present_names : (u : TypeId) (q : TypedPattern) → names (node u (P.Present q)) ≡ names q
unfolding pattern pattern_form field
present_names u q = ap bound_in (layer u (P.Present q) ∙ fold-roll-PatternForm Pat LabelledPat Pat form_step field_step pattern_step (P.Present q))

tagged_names : (u : TypeId) (x : Bytes) (q : TypedPattern) → names (node u (P.Tagged x q)) ≡ names q
unfolding pattern pattern_form field
tagged_names u x q = ap bound_in (layer u (P.Tagged x q) ∙ fold-roll-PatternForm Pat LabelledPat Pat form_step field_step pattern_step (P.Tagged x q))

parts_names : (u : TypeId) (qs : List TypedPattern) → names (node u (P.Parts qs)) ≡ bound_in_all (pats (map pattern qs))
unfolding pattern pattern_form field
parts_names u qs = ap bound_in (layer u (P.Parts qs) ∙ fold-roll-PatternForm Pat LabelledPat Pat form_step field_step pattern_step (P.Parts qs))

abbrev labels : List PatternField → List Bytes
labels xs = map (λ x. x.label) (map field xs)

abbrev inner : List PatternField → List Pat
inner xs = map (λ x. x.pattern) (map field xs)

fields_names : (u : TypeId) (xs : List PatternField) → names (node u (P.Fields xs)) ≡ bound_in_fields (labels xs) (pats (inner xs))
unfolding pattern pattern_form field
fields_names u xs = ap bound_in (layer u (P.Fields xs) ∙ fold-roll-PatternForm Pat LabelledPat Pat form_step field_step pattern_step (P.Fields xs))

either_names : (u : TypeId) (q r : TypedPattern) → names (node u (P.Either q r)) ≡ 0
unfolding pattern pattern_form field
either_names u q r = ap bound_in (layer u (P.Either q r) ∙ fold-roll-PatternForm Pat LabelledPat Pat form_step field_step pattern_step (P.Either q r))

field_names : (x : Bytes) (q : TypedPattern) → bound_in (field (roll-PatternField (record { label = x; pattern = q }))).pattern ≡ names q
field_names x q = ap (λ (y : LabelledPat). bound_in y.pattern) (pattern_views.labelled x q)

module _ (defs : Definitions) (number : Term → TypeId) where
  mutual
    names_few : (q : Pattern Note) → names (made.pattern defs number q) ≤ counts.in_pattern q
    names_few (p.pattern n (p.Annotated q a)) = omega (arith, names_few q)
    names_few (p.pattern n (p.Alternative q r)) = omega (arith, either_names (number n.type) (made.pattern defs number q) (made.pattern defs number r))
    names_few (p.pattern n (p.Optional q)) = omega (arith, present_names (number n.type) (made.pattern defs number q), names_few q)
    names_few (p.pattern n (p.Tag x)) = omega (arith, tagged_names (number n.type) x (node (number unit) (P.Constant literal.Unit)), constant_names (number unit) literal.Unit)
    names_few (p.pattern n (p.Tagged x q)) = omega (arith, tagged_names (number n.type) x (made.pattern defs number q), names_few q)
    names_few (p.pattern n (p.Variable x)) = omega (arith, bind_names (number n.type))
    names_few (p.pattern n p.Wildcard) = omega (arith, wildcard_names (number n.type))
    names_few (p.pattern n (p.Constant minus l)) = omega (arith, constant_names (number n.type) (literal_at minus l (head defs n.type)))
    names_few (p.pattern n (p.Tuple items)) = omega (arith, parts_names (number n.type) (made.patterns defs number items), all_few items)
    names_few (p.pattern n (p.Object fields)) = omega (arith, fields_names (number n.type) (made.fields_of defs number fields), fields_few fields)

    all_few : (qs : Patterns Note) → bound_in_all (pats (map pattern (made.patterns defs number qs))) ≤ counts.in_patterns qs
    all_few p.Nil = omega arith
    all_few (p.Cons q rest) = omega (arith, names_few q, all_few rest)

    fields_few : (fields : PatternFields Note) → bound_in_fields (labels (made.fields_of defs number fields)) (pats (inner (made.fields_of defs number fields))) ≤ counts.in_pattern_fields fields
    fields_few p.NoFields = omega arith
    fields_few (p.Field x q rest) = omega (arith, field_names x.bytes (made.pattern defs number q), names_few q, fields_few rest)

-- ---- declarations

abbrev opened : Step → ℕ
opened d = names_opened (declaration d (Name 0))

let_names : (q : TypedPattern) (a : TypedExpression) → opened (roll-Step (F.Let q a)) ≡ names q
let_names q a = ap names_opened (let_is q a (Name 0))

var_names : (a : TypedExpression) → opened (roll-Step (F.Var a)) ≡ 1
var_names a = ap names_opened (var_is a (Name 0))

stable_names : (x : ℕ) (a : TypedExpression) → opened (roll-Step (F.Stable x a)) ≡ 1
stable_names x a = ap names_opened (stable_is x a (Name 0))

evaluated_names : (a : TypedExpression) → opened (roll-Step (F.Evaluate a)) ≡ 0
evaluated_names a = ap names_opened (evaluated_is a (Name 0))

functions_names : (fs : List Function) → opened (roll-Step (F.Functions fs)) ≡ length fs
functions_names fs = ap names_opened (functions_is fs (Name 0)) ∙ (count_group (map function fs) ∙ length-map fs function)

names_both : (xs ys : List Step) → names_declared (xs ++ ys) ≡ names_declared xs + names_declared ys
names_both [] ys = omega arith
names_both (x ∷ xs) ys = omega (arith, names_both xs ys)

-- a piece opens at most so many names, whatever stands around it
abbrev Opens : Becomes → ℕ → Type 0
Opens (AStep binds step) m = (f : Frame) → opened (step f) ≤ m
Opens (AFunction x g) m = 1 ≤ m
Opens (AnExpression e) m = Unit {0}
Opens Nothing m = Unit {0}

abbrev AllOpen : List Piece → List ℕ → Type 0
AllOpen [] [] = Unit {0}
AllOpen (b ∷ bs) (m ∷ ms) = Opens b.becomes m × AllOpen bs ms
AllOpen _ _ = ⊥

abbrev sum : List ℕ → ℕ
sum [] = 0
sum (m ∷ ms) = m + sum ms

-- m where the place is the n-th, and where it is not before the n-th
abbrev at : ℕ → ℕ → ℕ → ℕ
at n k m = cond (nat_eq k n) m 0

abbrev from : ℕ → ℕ → ℕ → ℕ
from zero k m = m
from (suc n) zero m = 0
from (suc n) (suc k) m = from n k m

at_or_behind : (n k m : ℕ) → at n k m + from (suc n) k m ≤ from n k m
at_or_behind zero zero m =
    let a : at zero zero m ≡ m = refl in
    let f : from (suc zero) zero m ≡ 0 = refl in
    let g : from zero zero m ≡ m = refl in
    omega (arith, a, f, g)
at_or_behind zero (suc k) m =
    let a : at zero (suc k) m ≡ 0 = ap (λ b. cond b m 0) (eqb-suc-zero k) in
    let f : from (suc zero) (suc k) m ≡ m = refl in
    let g : from zero (suc k) m ≡ m = refl in
    omega (arith, a, f, g)
at_or_behind (suc n) zero m =
    let a : at (suc n) zero m ≡ 0 = ap (λ b. cond b m 0) (eqb-zero-suc n) in
    let f : from (suc (suc n)) zero m ≡ 0 = refl in
    let g : from (suc n) zero m ≡ 0 = refl in
    omega (arith, a, f, g)
at_or_behind (suc n) (suc k) m =
    let a : at (suc n) (suc k) m ≡ at n k m = ap (λ b. cond b m 0) (eqb-suc-suc k n) in
    let f : from (suc (suc n)) (suc k) m ≡ from (suc n) k m = refl in
    let g : from (suc n) (suc k) m ≡ from n k m = refl in
    omega (arith, a, f, g, at_or_behind n k m)

abbrev of_function : Becomes → ℕ
of_function b = length (function_of b)

abbrev of_other : Becomes → ℕ → ℕ
of_other (AFunction x g) m = 0
of_other _ m = m

abbrev others : List Piece → List ℕ → ℕ
others [] ms = 0
others (b ∷ bs) [] = 0
others (b ∷ bs) (m ∷ ms) = of_other b.becomes m + others bs ms

both_parts : (b : Becomes) (m : ℕ) → Opens b m → of_other b m + of_function b ≤ m
both_parts (AStep binds step) m h = omega arith
both_parts (AFunction x g) m h = omega (arith, h)
both_parts (AnExpression e) m h = omega arith
both_parts Nothing m h = omega arith

module _ (all : List Declared) where
  abbrev functions_at : ℕ → List Piece → ℕ
  functions_at n [] = 0
  functions_at n (b ∷ bs) = at n (place all b.declared) (of_function b.becomes) + functions_at n bs

  abbrev functions_from : ℕ → List Piece → ℕ
  functions_from n [] = 0
  functions_from n (b ∷ bs) = from n (place all b.declared) (of_function b.becomes) + functions_from n bs

  split : (n : ℕ) (bs : List Piece) → functions_at n bs + functions_from (suc n) bs ≤ functions_from n bs
  split n [] = omega arith
  split n (b ∷ bs) = omega (arith, at_or_behind n (place all b.declared) (of_function b.becomes), split n bs)

  whole : (bs : List Piece) (ms : List ℕ) → AllOpen bs ms → others bs ms + functions_from zero bs ≤ sum ms
  whole [] [] h = omega arith
  whole [] (m ∷ ms) h = absurd h
  whole (b ∷ bs) [] h = absurd h
  whole (b ∷ bs) (m ∷ ms) h = omega (arith, both_parts b.becomes m h.0, whole bs ms h.1)

  -- ---- one group

  group_names : (gs : List Named) (frame : Frame) → names_declared (group_steps gs frame) ≡ length gs
  group_names [] frame = refl
  group_names (g ∷ gs) frame =
      let around_them = with_entries (names_of (g ∷ gs)) frame in
      omega (arith, functions_names (map (λ f. f.1 around_them) (g ∷ gs)), length-map (g ∷ gs) (λ f. f.1 around_them))

  length_both : {A : Type 0} (xs ys : List A) → length (xs ++ ys) ≡ length xs + length ys
  length_both [] ys = omega arith
  length_both (x ∷ xs) ys = omega (arith, length_both xs ys)

  group_of : (n : ℕ) (bs : List Piece) → length (group_at all n bs) ≡ functions_at n bs
  group_of n [] = refl
  group_of n (b ∷ bs) = by (nat_eq (place all b.declared) n) (group_of n bs)
    where
      by : (t : Bool) → length (group_at all n bs) ≡ functions_at n bs
          → length (flat_map (λ d. function_of d.becomes) (cond t (b ∷ filter (λ d. nat_eq (place all d.declared) n) bs) (filter (λ d. nat_eq (place all d.declared) n) bs))) ≡ cond t (of_function b.becomes) 0 + functions_at n bs
      by true h = length_both (function_of b.becomes) (group_at all n bs) ∙ ap (λ k. of_function b.becomes + k) h
      by false h = omega (arith, h)

  -- ---- the whole list

  before_names : (steps : List Step) (a : Arranged) → names_declared (before steps a).steps ≡ names_declared steps + names_declared a.steps
  before_names steps a = names_both steps a.steps

  module _ (pieces : List Piece) (has_value : Bool) where
    one_piece : (b : Becomes) (m : ℕ) → Opens b m → (is_last : Bool) (next : Frame → Arranged) (rest : ℕ) → ((frame : Frame) → names_declared (next frame).steps ≤ rest) → (frame : Frame)
        → names_declared (placed_piece b is_last next frame).steps ≤ of_other b m + rest
    one_piece (AStep binds step) m h is_last next rest r frame = omega (arith, before_names (step frame ∷ []) (next (with_entries binds frame)), h frame, r (with_entries binds frame))
    one_piece (AFunction x g) m h is_last next rest r frame = omega (arith, r frame)
    one_piece (AnExpression e) m h true next rest r frame = omega arith
    one_piece (AnExpression e) m h false next rest r frame = omega (arith, before_names (roll-Step (F.Evaluate (e frame)) ∷ []) (next frame), evaluated_names (e frame), r frame)
    one_piece Nothing m h is_last next rest r frame = omega (arith, r frame)

    arranged_names : (n : ℕ) (bs : List Piece) (ns : List ℕ) → AllOpen bs ns → (frame : Frame) → names_declared (arranged_from all pieces has_value n bs frame).steps ≤ others bs ns + functions_from n pieces
    arranged_names n [] [] h frame =
        let gs = group_at all n pieces in
        omega (arith, before_names (group_steps gs frame) (ended (with_entries (names_of gs) frame)), group_names gs frame, group_of n pieces, split n pieces)
    arranged_names n [] (m ∷ ns) h frame = absurd h
    arranged_names n (b ∷ bs) [] h frame = absurd h
    arranged_names n (b ∷ bs) (m ∷ ns) h frame =
        let gs = group_at all n pieces in
        let around_them = with_entries (names_of gs) frame in
        let next = placed_piece b.becomes (is_end all pieces has_value bs) (arranged_from all pieces has_value (suc n) bs) in
        omega (
          arith,
          before_names (group_steps gs frame) (next around_them),
          group_names gs frame,
          group_of n pieces,
          one_piece b.becomes m h.0 (is_end all pieces has_value bs) (arranged_from all pieces has_value (suc n) bs) (others bs ns + functions_from (suc n) pieces) (arranged_names (suc n) bs ns h.1) around_them,
          split n pieces,
        )

list_names : (has_value : Bool) (pieces : List Piece) (ms : List ℕ) → AllOpen pieces ms → (frame : Frame) → names_declared (arranged has_value pieces frame).steps ≤ sum ms
list_names has_value pieces ms h frame =
    let all = map (λ b. b.declared) pieces in
    omega (arith, arranged_names all pieces has_value zero pieces ms h frame, whole all pieces ms h)

-- ---- programs

module _ (defs : Definitions) (number : Term → TypeId) where
  abbrev own : Declaration Note → ℕ
  own d = suc (own_nodes d)

  abbrev each_own : Declarations Note → List ℕ
  each_own p.End = []
  each_own (p.Then public n d rest) = own d ∷ each_own rest

  own_few : (ds : Declarations Note) → sum (each_own ds) ≡ own_nodes_of ds
  own_few p.End = refl
  own_few (p.Then public n d rest) = omega (arith, own_few rest)

  piece_names : (n : Note) (d : Declaration Note) → Opens (becomes defs number n d) (own d)
  piece_names n (p.Let q a) = λ f. omega (arith, let_names (made.pattern defs number q) (tree defs number f a), names_few defs number q)
  piece_names n (p.Var false x u a) = λ f. omega (arith, var_names (tree defs number f a))
  piece_names n (p.Var true x u a) = λ f. omega (arith, stable_names (kept_at f x.bytes) (tree defs number f a))
  piece_names n (p.Func x g body) = omega arith
  piece_names n (p.Method query context x g body) = tt
  piece_names n (p.System x body) = tt
  piece_names n (p.TypeAlias x parameters u) = tt
  piece_names n (p.Class x g fields) = omega arith
  piece_names n (p.NamedObject x fields) = λ f.
      omega (arith, let_names (bound defs number n.type) (object_of_names defs number n.type (public_names fields) (arranged false (pieces defs number fields) f)), bind_names (number n.type))
  piece_names n (p.Evaluate a) = tt

  pieces_names : (ds : Declarations Note) → AllOpen (pieces defs number ds) (each_own ds)
  pieces_names p.End = tt
  pieces_names (p.Then public n d rest) = (piece_names n d, pieces_names rest)

  pub programs_names : (types : List Slot) (source : Program Note) → names_declared (desugared defs number types source).declarations ≤ (desugared defs number types source).nodes
  programs_names types source =
      let ds = source.fields in
      omega (arith, list_names false (pieces defs number ds) (each_own ds) (pieces_names ds) (around source), own_few ds)
