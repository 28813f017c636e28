-- Each form whose parts are typed.
use Rattle.std.proofs.Common.{inl, inr, ℕ, true, false, List, [], ◌∷◌, ◌++◌, Option, Some, None, refl}
use Rattle.typing_rules.specs.AbstractSyntax.{Bytes, Expression, Form, Expressions, Cases, ObjectFields}
use Rattle.typing_rules.specs.AbstractSyntax as p
use Rattle.typing_rules.specs.AsyncPlaces.{Other}
use Rattle.typing_rules.specs.Calls.{built_in}
use Rattle.typing_rules.specs.Contexts.{directly}
use Rattle.typing_rules.specs.Expressions.{Judge, Rule}
use Rattle.typing_rules.specs.Members.{member_bound}
use Rattle.typing_rules.specs.Patterns.{is_empty}
use Rattle.typing_rules.specs.Terms.{Term}
use Rattle.desugaring.specs.FreeNames.{occurring, in_each, in_cases, in_fields, names_in, without}
use Rattle.desugaring_laws.specs.Yields.{Yields}
use Rattle.desugaring_laws.proofs.Yielding.{tests, by_case}
use Rattle.expression_laws.specs.Laws.{EachIs, EachCaseIs, EachFieldIs, PlaceIs, PartsAre, FormsAreTyped}
use Rattle.expression_laws.specs.Results.{IsWantFine, Becomes, AreTyped}
use Rattle.expression_laws.proofs.Annotating.{annotated_typed}
use Rattle.expression_laws.proofs.Assigning.{PlaceParts, assign_typed}
use Rattle.expression_laws.proofs.Binary.{binary_typed, assign_by_typed}
use Rattle.expression_laws.proofs.Binding.{EachCase, switch_typed, try_typed}
use Rattle.expression_laws.proofs.BuiltIns.{built_in_value}
use Rattle.expression_laws.proofs.Choices.{if_typed}
use Rattle.expression_laws.proofs.Ending.{Setting, Place, Within, WantKnown, Is, has}
use Rattle.expression_laws.proofs.Futures.{name_typed, await_typed}
use Rattle.expression_laws.proofs.Iterating.{for_typed}
use Rattle.expression_laws.proofs.Leaving.{while_typed, loop_typed, repeat_typed, label_typed, break_typed, break_with_typed, continue_typed, return_typed, return_with_typed, do_option_typed, bang_typed}
use Rattle.expression_laws.proofs.Listed.{EachTyping, tuple_typed, array_typed, mutable_array_typed}
use Rattle.expression_laws.proofs.Literals.{constant_typed}
use Rattle.expression_laws.proofs.Members.{member_typed}
use Rattle.expression_laws.proofs.Negating.{negative_typed}
use Rattle.expression_laws.proofs.Objects.{EachField, object_typed}
use Rattle.expression_laws.proofs.Parts.{projection_typed, index_typed}
use Rattle.expression_laws.proofs.Simple.{not_typed, assert_typed, debug_typed, do_typed, throw_typed, when_typed, ignore_typed, option_typed}
use Rattle.expression_laws.proofs.Tags.{tag_typed, tagged_typed}

pub in_left : (xs ys : List Bytes) → Within xs (xs ++ ys)
in_left [] ys x m = absurd m
in_left (y ∷ xs) ys x (inl e) = inl e
in_left (y ∷ xs) ys x (inr m) = inr (in_left xs ys x m)

pub in_right : (xs ys : List Bytes) → Within ys (xs ++ ys)
in_right [] ys x m = m
in_right (y ∷ xs) ys x m = inr (in_right xs ys x m)

all : (xs : List Bytes) → Within xs xs
all xs x m = m

module _ (S : Setting) (A : Place S) where
  abbrev Q : Expression ℕ → Type 0
  Q a = AreTyped S.defs S.slots S.terms S.number S.scope a

  -- each of a list that uses some of the names
  each_typing : (items : Expressions ℕ) → EachIs Q items → Within (in_each items) A.used → EachTyping S A items
  each_typing p.Nil j w = tt
  each_typing (p.Cons a rest) j w = ((j.0, λ x m. w x (in_left (occurring a) (in_each rest) x m)), each_typing rest j.1 (λ x m. w x (in_right (occurring a) (in_each rest) x m)))

  each_case : (cases : Cases ℕ) → EachCaseIs Q cases → Within (in_cases cases) A.used → EachCase S A cases
  each_case p.NoCases j w = tt
  each_case (p.Case q a rest) j w =
      (j.0, j.1, (λ x m. w x (in_left (without (names_in q) (occurring a)) (in_cases rest) x m)), each_case rest j.2 (λ x m. w x (in_right (without (names_in q) (occurring a)) (in_cases rest) x m)))

  each_field : (fields : ObjectFields ℕ) → EachFieldIs Q fields → Within (in_fields fields) A.used → EachField S A fields
  each_field p.NoFields j w = tt
  each_field (p.Field mutable x u a rest) j w = ((j.0, λ x m. w x (in_left (occurring a) (in_fields rest) x m)), each_field rest j.1 (λ x m. w x (in_right (occurring a) (in_fields rest) x m)))

  -- the place is one of this form
  abbrev Uses : ℕ → Form ℕ → Type 0
  Uses n x = Within (occurring (p.exp n x)) A.used

  first : (xs ys : List Bytes) → Within (xs ++ ys) A.used → Within xs A.used
  first xs ys w x m = w x (in_left xs ys x m)

  second : (xs ys : List Bytes) → Within (xs ++ ys) A.used → Within ys A.used
  second xs ys w x m = w x (in_right xs ys x m)

  -- the parts of a place
  place_parts : (n : ℕ) (x : Form ℕ) → PlaceIs Q (p.exp n x) → Uses n x → PlaceParts S A x
  place_parts n (p.Name x) j u = u x (inl refl)
  place_parts n (p.Member a x) j u = (j, u)
  place_parts n (p.Index a i) j u = ((j.0, first (occurring a) (occurring i) u), (j.1, second (occurring a) (occurring i) u))
  place_parts n (p.Constant l) j u = tt
  place_parts n (p.Tuple items) j u = tt
  place_parts n (p.Optional a) j u = tt
  place_parts n (p.Tag x) j u = tt
  place_parts n (p.Tagged x a) j u = tt
  place_parts n (p.Array m items) j u = tt
  place_parts n (p.Object fields) j u = tt
  place_parts n (p.Projection a i) j u = tt
  place_parts n (p.Annotated a t) j u = tt
  place_parts n (p.Negative a) j u = tt
  place_parts n (p.Binary o a b) j u = tt
  place_parts n (p.Not a) j u = tt
  place_parts n (p.Assign r a) j u = tt
  place_parts n (p.AssignBy o r a) j u = tt
  place_parts n (p.Call g types arguments) j u = tt
  place_parts n (p.When c a) j u = tt
  place_parts n (p.If c a b) j u = tt
  place_parts n (p.Switch a cases) j u = tt
  place_parts n (p.Try a r b) j u = tt
  place_parts n (p.While c a) j u = tt
  place_parts n (p.Loop a) j u = tt
  place_parts n (p.LoopWhile a c) j u = tt
  place_parts n (p.For r a b) j u = tt
  place_parts n (p.Label x t a) j u = tt
  place_parts n (p.Break x) j u = tt
  place_parts n (p.BreakWith x a) j u = tt
  place_parts n (p.Continue x) j u = tt
  place_parts n p.Return j u = tt
  place_parts n (p.ReturnWith a) j u = tt
  place_parts n (p.Throw a) j u = tt
  place_parts n (p.Do a) j u = tt
  place_parts n (p.DoOption a) j u = tt
  place_parts n (p.Bang a) j u = tt
  place_parts n (p.Block ds) j u = tt
  place_parts n (p.Function g body) j u = tt
  place_parts n (p.ObjectBlock fields) j u = tt
  place_parts n (p.Assert a) j u = tt
  place_parts n (p.Ignore a) j u = tt
  place_parts n (p.Debug a) j u = tt
  place_parts n (p.ActorReference x) j u = tt
  place_parts n (p.Await a) j u = tt
  place_parts n (p.BuiltIn m) j u = tt
  place_parts n (p.Subsumed a) j u = tt

  by_form : (n : ℕ) (x : Form ℕ) → PartsAre Q x → Uses n x → (w : Option Term) → WantKnown S A w → Yields S.defs S.terms (Rule S.defs A.around (directly Other A.known) n x w) (Is S A w)
  by_form n (p.Constant l) j u w k = constant_typed S A n l j w k
  by_form n (p.Name x) j u w k = name_typed S A n x (u x (inl refl)) w k
  by_form n (p.Tuple items) j u w k = tuple_typed S A n items (each_typing items j u) w k
  by_form n (p.Optional a) j u w k = option_typed S A n a (j, u) w k
  by_form n (p.Tag x) j u w k = tag_typed S A n x w k
  by_form n (p.Tagged x a) j u w k = tagged_typed S A n x a (j, u) w k
  by_form n (p.Array false items) j u w k = array_typed S A n items (each_typing items j u) w k
  by_form n (p.Array true items) j u w k = mutable_array_typed S A n items (each_typing items j u) w k
  by_form n (p.Member a x) j u w k =
      by_case S.defs S.terms (built_in (directly Other A.known) a x) _ _ (Is S A w)
      (λ m e. tests S.defs S.terms _ n (is_empty (member_bound m).generics) _ (Is S A w) (λ none. has S A n w (member_bound m).type (p.BuiltIn m) (λ l. refl) k (λ there. built_in_value S A m none there)))
      (λ e. member_typed S A n a x (j, u) w k)
  by_form n (p.Projection a i) j u w k = projection_typed S A n a i (j, u) w k
  by_form n (p.Index a i) j u w k = index_typed S A n a i (j.0, first (occurring a) (occurring i) u) (j.1, second (occurring a) (occurring i) u) w k
  by_form n (p.Annotated a t) j u w k = annotated_typed S A n a t (j.0, u) j.1 w k
  by_form n (p.Binary o a b) j u w k = binary_typed S A n o a b (j.0, first (occurring a) (occurring b) u) (j.1, second (occurring a) (occurring b) u) w k
  by_form n (p.Not a) j u w k = not_typed S A n a (j, u) w k
  by_form n (p.When c a) j u w k = when_typed S A n c a (j.0, first (occurring c) (occurring a) u) (j.1, second (occurring c) (occurring a) u) w k
  by_form n (p.If c a b) j u w k =
      let both = first (occurring c ++ occurring a) (occurring b) u in
      if_typed S A n c a b (j.0, first (occurring c) (occurring a) both) (j.1, second (occurring c) (occurring a) both) (j.2, second (occurring c ++ occurring a) (occurring b) u) w k
  by_form n (p.Switch a cases) j u w k = switch_typed S A n a cases (j.0, first (occurring a) (in_cases cases) u) (each_case cases j.1 (second (occurring a) (in_cases cases) u)) w k
  by_form n (p.Try a q b) j u w k =
      try_typed S A n a b q (j.0, first (occurring a) (without (names_in q) (occurring b)) u) j.1 j.2 (second (occurring a) (without (names_in q) (occurring b)) u) w k
  by_form n (p.While c a) j u w k = while_typed S A n c a (j.0, first (occurring c) (occurring a) u) (j.1, second (occurring c) (occurring a) u) w k
  by_form n (p.Loop a) j u w k = loop_typed S A n a (j, u) w k
  by_form n (p.LoopWhile a c) j u w k = repeat_typed S A n a c (j.0, first (occurring a) (occurring c) u) (j.1, second (occurring a) (occurring c) u) w k
  by_form n (p.Label x t a) j u w k = label_typed S A n x t a (j, u) w k
  by_form n (p.Break x) j u w k = break_typed S A n x w k
  by_form n (p.BreakWith x a) j u w k = break_with_typed S A n x a (j, u) w k
  by_form n (p.Continue x) j u w k = continue_typed S A n x w k
  by_form n p.Return j u w k = return_typed S A n w k
  by_form n (p.ReturnWith a) j u w k = return_with_typed S A n a (j, u) w k
  by_form n (p.Throw a) j u w k = throw_typed S A n a (j, u) w k
  by_form n (p.Do a) j u w k = do_typed S A n a (j, u) w k
  by_form n (p.DoOption a) j u w k = do_option_typed S A n a (j, u) w k
  by_form n (p.Bang a) j u w k = bang_typed S A n a (j, u) w k
  by_form n (p.Assert a) j u w k = assert_typed S A n a (j, u) w k
  by_form n (p.Ignore a) j u w k = ignore_typed S A n a (j, u) w k
  by_form n (p.Debug a) j u w k = debug_typed S A n a (j, u) w k
  by_form n (p.Await a) j u w k = await_typed S A n a (j, u) w k
  by_form n (p.Object fields) j u w k = object_typed S A n fields (each_field fields j.0 u) j.1 w k
  by_form n (p.Negative a) j u w k = negative_typed S A n a (j, u) w k
  by_form n (p.Assign (p.exp m y) a) j u w k = assign_typed S A n m y a (place_parts m y j.0 (first (occurring (p.exp m y)) (occurring a) u)) (j.1, second (occurring (p.exp m y)) (occurring a) u) w k
  by_form n (p.AssignBy o (p.exp m y) a) j u w k = assign_by_typed S A n m o y a (place_parts m y j.0 (first (occurring (p.exp m y)) (occurring a) u)) (j.1, second (occurring (p.exp m y)) (occurring a) u) w k
  by_form n (p.Call g types arguments) j u w k = absurd j
  by_form n (p.For q a b) j u w k =
      for_typed S A n q a b j.0 (j.1, first (occurring a) (without (names_in q) (occurring b)) u) j.2 (second (occurring a) (without (names_in q) (occurring b)) u) w k
  by_form n (p.Block ds) j u w k = absurd j
  by_form n (p.Function g body) j u w k = absurd j
  by_form n (p.ObjectBlock fields) j u w k = absurd j
  by_form n (p.ActorReference x) j u w k = absurd j
  by_form n (p.BuiltIn m) j u w k = absurd j
  by_form n (p.Subsumed a) j u w k = absurd j

pub forms_are_typed : FormsAreTyped
forms_are_typed defs slots terms number graph units scope n x j e f c fit w k = by w k where
  setting : Setting
  setting = record { defs = defs; slots = slots; terms = terms; number = number; graph = graph; units = units; scope = scope }

  place : Place setting
  place = record { around = e.around; known = e; frame = f; context = c; used = occurring (p.exp n x); fits = record { names = fit.names; labels = fit.labels; returns = fit.returns; options = fit.options; body_is = fit.body_is; types = fit.types; bounds = fit.bounds; scope_is = fit.scope_is } }

  by : (w : Option Term) → IsWantFine defs c.parameters w → Yields defs terms (Judge defs e (p.exp n x) w) (Becomes defs slots terms number e.around e.labels f c w)
  by None k = by_form setting place n x j (all (occurring (p.exp n x))) None tt
  by (Some u) k = λ m. by_form setting place n x j (all (occurring (p.exp n x))) (Some u) (record { there = m; fine = k })
