-- What the table of operations and patterns give of good values is good: they see no function.
use Rattle.std.proofs.Common.{◌≡◌, List, [], ◌∷◌, Some, None, refl, sym, ap₂, subst}
use Rattle.mo_types.specs.declared.node.Node.{Node}
use Rattle.mo_types.specs.declared.node.TypeId.{TypeId}
use Rattle.mo_types.specs.Heads.{map_option}
use Rattle.mo_values.specs.declared.operation.Operation.{Operation}
use Rattle.mo_values.specs.Alike.{Alike, AlikeAll, AlikeEach, AlikeAnswers}
use Rattle.mo_values.specs.Operations.{operate}
use Rattle.mo_values.specs.Recoding.{recodes}
use Rattle.mo_values.specs.Shapes.{Shape, Shapes, NoShape, AShape}
use Rattle.mo_values.specs.Shapes as shape
use Rattle.mo_values.specs.Views.{Answer, Gives, Traps, Stuck}
use Rattle.mo_values.proofs.Alike.{Pair, left, joint, each_apart, alike_answers}
use Rattle.typed_tree.specs.Patterns.{Pat, Pats, Found, matches, matches_all}
use Rattle.typed_tree.proofs.Natural.{matches_same, matches_all_same}
use Rattle.mo_machine.specs.Values.{Value, Values, Made, Closure, BuiltIn, NoValue, AValue, Code, function_value, shape_of, shapes_of, shapes_list, value_of, values_of, values_list}
use Rattle.machine_nesting.specs.Sizes.{Good, GoodAll, GoodEach}

mutual
  pub shape_good : (v : Value) → Good v → Good (value_of (shape_of v))
  shape_good (Made head inside) h = shapes_good inside h
  shape_good (Closure group which env) h = h
  shape_good (BuiltIn member holds) h = h

  shapes_good : (vs : Values) → GoodAll vs → GoodAll (values_of (shapes_of vs))
  shapes_good NoValue h = tt
  shapes_good (AValue v vs) h = (shape_good v h.0, shapes_good vs h.1)

abbrev IsGood : Code → Code → Type 0
IsGood f g = Good (function_value f)

mutual
  alike_self : (s : Shape Code) → Good (value_of s) → Alike IsGood s s
  alike_self (shape.Made head inside) h = (refl, alikes_self inside h)
  alike_self (shape.Function f) h = h

  alikes_self : (ss : Shapes Code) → GoodAll (values_of ss) → AlikeAll IsGood ss ss
  alikes_self NoShape h = tt
  alikes_self (AShape s ss) h = (alike_self s h.0, alikes_self ss h.1)

each_self : (vs : List Value) → GoodEach vs → AlikeEach IsGood (shapes_list vs) (shapes_list vs)
each_self [] h = tt
each_self (v ∷ vs) h = (alike_self (shape_of v) (shape_good v h.0), each_self vs h.1)

mutual
  good_of : (s t : Shape Code) → Alike IsGood s t → Good (value_of s)
  good_of (shape.Made head inside) (shape.Made other inside') a = goods_of inside inside' a.1
  good_of (shape.Made head inside) (shape.Function g) a = absurd a
  good_of (shape.Function f) (shape.Made other inside') a = absurd a
  good_of (shape.Function f) (shape.Function g) a = a

  goods_of : (ss ts : Shapes Code) → AlikeAll IsGood ss ts → GoodAll (values_of ss)
  goods_of NoShape NoShape a = tt
  goods_of NoShape (AShape t ts) a = absurd a
  goods_of (AShape s ss) NoShape a = absurd a
  goods_of (AShape s ss) (AShape t ts) a = (good_of s t a.0, goods_of ss ts a.1)

each_of : (ss ts : List (Shape Code)) → AlikeEach IsGood ss ts → GoodEach (values_list ss)
each_of [] [] a = tt
each_of [] (t ∷ ts) a = absurd a
each_of (s ∷ ss) [] a = absurd a
each_of (s ∷ ss) (t ∷ ts) a = (good_of s t a.0, each_of ss ts a.1)

-- ---- operations

abbrev pub GoodAnswer : Answer Code → Type 0
GoodAnswer (Gives s) = Good (value_of s)
GoodAnswer (Traps text) = Unit {0}
GoodAnswer Stuck = Unit {0}

answer_of : (a b : Answer Code) → AlikeAnswers IsGood a b → GoodAnswer a
answer_of (Gives s) (Gives t) h = good_of s t h
answer_of (Gives s) (Traps text) h = absurd h
answer_of (Gives s) Stuck h = absurd h
answer_of (Traps text) b h = tt
answer_of Stuck b h = tt

pub operation_good : (head : TypeId → Node TypeId) (o : Operation) (vs : List Value) → GoodEach vs → GoodAnswer (operate head o (shapes_list vs))
operation_good head o vs h = answer_of _ _ (alike_answers IsGood head o (shapes_list vs) (shapes_list vs) (each_self vs h))

-- ---- patterns

abbrev pub GoodFound : Found Code → Type 0
GoodFound None = Unit {0}
GoodFound (Some ss) = GoodEach (values_list ss)

found_of : (o : Found (Pair IsGood)) → GoodFound (map_option (recodes (left IsGood)) o)
found_of None = tt
found_of (Some us) = each_of _ _ (each_apart IsGood us)

pub match_good : (p : Pat) (s : Shape Code) → Good (value_of s) → GoodFound (matches p s)
match_good p s h =
    let j = joint IsGood s s (alike_self s h) in
    subst (λ x. GoodFound (matches p x)) j.1 (subst GoodFound (sym (matches_same (left IsGood) p j.0)) (found_of (matches p j.0)))

joined : (vs : List Value) → GoodEach vs → (us : List (Shape (Pair IsGood))) × (recodes (left IsGood) us ≡ shapes_list vs)
joined [] h = ([], refl)
joined (v ∷ vs) h =
    let j = joint IsGood (shape_of v) (shape_of v) (alike_self (shape_of v) (shape_good v h.0)) in
    let r = joined vs h.1 in
    (j.0 ∷ r.0, ap₂ (λ x xs. x ∷ xs) j.1 r.1)

pub match_all_good : (ps : Pats) (vs : List Value) → GoodEach vs → GoodFound (matches_all ps (shapes_list vs))
match_all_good ps vs h =
    let j = joined vs h in
    subst (λ x. GoodFound (matches_all ps x)) j.1 (subst GoodFound (sym (matches_all_same (left IsGood) ps j.0)) (found_of (matches_all ps j.0)))
