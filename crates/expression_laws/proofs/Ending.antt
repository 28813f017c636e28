-- Where an expression is judged, how its parts are used, and how rules end.
use Rattle.std.proofs.Common.{◌≡◌, inl, inr, ℕ, List, [], ◌∷◌, Option, Some, None, refl, sym, subst}
use Rattle.mo_types.specs.declared.node.Node.{Node}
use Rattle.mo_types.specs.declared.node.TypeId.{TypeId}
use Rattle.mo_types.specs.Graph.{Slot, head_at}
use Rattle.mo_subtype.specs.Renamed.{on_node}
use Rattle.subtype_laws.specs.Reached.{Among}
use Rattle.typed_tree.specs.declared.action.Action.{Action}
use Rattle.typed_tree.specs.declared.expression.Form.TheOpen as F
use Rattle.typed_tree.specs.declared.expression.TypedExpression.{TypedExpression}
use Rattle.typed_tree.specs.ActionTypes as typed
use Rattle.typed_tree.specs.ActionTypes.{ActionTyped}
use Rattle.typed_tree.specs.Instances.{types_in}
use Rattle.typed_tree.specs.Typing as tree
use Rattle.typed_tree.specs.Typing.{EachGives}
use Rattle.typed_tree.specs.TypingLaws.{form_typing}
use Rattle.typed_tree.specs.Wants.{Want, Anything, Of, CellOf, Below}
use Rattle.typing_rules.specs.AbstractSyntax.{Bytes, Expression, Form}
use Rattle.typing_rules.specs.AbstractSyntax as p
use Rattle.typing_rules.specs.AsyncPlaces.{Around, Awaited, Named, Labelled, Other}
use Rattle.typing_rules.specs.Contexts.{Context, Label, directly}
use Rattle.typing_rules.specs.Definitions.{Definitions}
use Rattle.typing_rules.specs.Ends.{BelowWanted, Has}
use Rattle.typing_rules.specs.Expressions.{Judge, Rule}
use Rattle.typing_rules.specs.Heads.{head}
use Rattle.typing_rules.specs.Judgements.{Judgement, Part}
use Rattle.typing_rules.specs.Terms.{Term, unit}
use Rattle.typing_rules.specs.TypedTrees.{Note, Typed, note, typed as at_type, type_of}
use Rattle.typing_rules.specs.TypeScopes.{TypeScope}
use Rattle.desugaring.specs.Expressions.{tree as written_out, form, looped}
use Rattle.desugaring.specs.FreeNames.{occurring}
use Rattle.desugaring.specs.Frames.{Frame}
use Rattle.desugaring.specs.Nodes.{Layer, node_of}
use Rattle.desugaring_laws.specs.GraphOf.{IsGraphOf}
use Rattle.desugaring_laws.specs.Known.{IsFine, IsKnown}
use Rattle.desugaring_laws.specs.Laws.{AreWrittenFine}
use Rattle.desugaring_laws.specs.Yields.{Yields}
use Rattle.desugaring_laws.proofs.Graph.{reflexive, transitive, below_number, part_known, head_there}
use Rattle.desugaring_laws.proofs.Scoping.{written_fine}
use Rattle.desugaring_laws.proofs.Yielding.{part as after}
use Rattle.expression_laws.specs.Fitting.{Fits}
use Rattle.expression_laws.specs.Results.{IsWantFine, TakesFuture, standing, GivesValue, Gives, Becomes, AreTyped}
use Rattle.expression_laws.proofs.Trees.{node, scope_of, value_node, cell_node}

-- types of a program, and the graph of those that are met
pub record Setting : Type 0 where
  pub defs : Definitions
  pub slots : List Slot
  pub terms : List Term
  pub number : Term → TypeId
  pub graph : IsGraphOf defs slots terms number
  pub units : Among unit terms
  -- the types in scope
  pub scope : TypeScope

-- where an expression stands
pub record Place (S : Setting) : Type 0 where
  pub around : Around
  pub known : Context
  pub frame : Frame
  pub context : typed.Context
  -- the names that the whole uses
  pub used : List Bytes
  pub fits : Fits S.defs S.slots S.terms S.number S.scope used (directly Other known) frame context

-- what is wanted was met
abbrev pub IsWantKnown : Definitions → List Term → List ℕ → Option Term → Type 0
IsWantKnown defs terms vs None = Unit {0}
IsWantKnown defs terms vs (Some u) = IsKnown defs terms vs u

-- all of these are among those
abbrev pub Within : List Bytes → List Bytes → Type 0
Within xs ys = (x : Bytes) → Among x xs → Among x ys

pub narrowed : (S : Setting) (xs ys : List Bytes) → Within xs ys → (e : Context) (f : Frame) (c : typed.Context) → Fits S.defs S.slots S.terms S.number S.scope ys e f c → Fits S.defs S.slots S.terms S.number S.scope xs e f c
narrowed S xs ys h e f c fit = record { names = λ x m. fit.names x (h x m); labels = fit.labels; returns = fit.returns; options = fit.options; body_is = fit.body_is; types = fit.types; bounds = fit.bounds; scope_is = fit.scope_is }

module _ (S : Setting) where
  pub self : (t : TypeId) → Below (head_at S.slots) t t
  self t = reflexive S.defs S.slots S.terms S.number S.graph t

  pub trans : (t u v : TypeId) → Below (head_at S.slots) t u → Below (head_at S.slots) u v → Below (head_at S.slots) t v
  trans t u v h k = transitive S.defs S.slots S.terms S.number S.graph t u v h k

  pub there : (u : Term) → Among u S.terms → (y : Node Term) → head S.defs u ≡ y → head_at S.slots (S.number u) ≡ on_node S.number y
  there u m y e = head_there S.defs S.slots S.terms S.number S.graph u m y e

  pub inside : (vs : List ℕ) (u v : Term) → IsKnown S.defs S.terms vs u → (y : Node Term) → head S.defs u ≡ y → Among v (types_in y) → IsKnown S.defs S.terms vs v
  inside vs u v k y e m = part_known S.defs S.slots S.terms S.number S.graph vs u v k y e m

  -- a form that is no loop stands directly under a label as elsewhere
  pub plain : (o : Around) (ls : List (Bytes × Label)) (f : Frame) (n : Note) (x : Form Note) → ((l : Bytes) → looped S.defs S.number f l (p.exp n x) ≡ form S.defs S.number f n x)
      → standing S.defs S.slots S.terms S.number o ls f (p.exp n x) ≡ form S.defs S.number f n x
  plain Labelled [] f n x h = refl
  plain Labelled (l ∷ ls) f n x h = h l.0
  plain Awaited ls f n x h = refl
  plain Named ls f n x h = refl
  plain Other ls f n x h = refl

  -- where no future may stand, a value is given
  pub settled : (o : Around) → (TakesFuture o → ⊥) → (c : typed.Context) (u : Term) (x : TypedExpression) → Gives S.defs S.slots S.terms S.number c o u x → GivesValue S.defs S.slots S.terms S.number c u x
  settled o takes c u x (inl h) = h
  settled o takes c u x (inr h) = absurd (takes h.future.takes)

  pub value_of : (ls : List (Bytes × Label)) (f : Frame) (c : typed.Context) (w : Option Term) (b : Typed) → Becomes S.defs S.slots S.terms S.number Other ls f c w b
      → GivesValue S.defs S.slots S.terms S.number c (type_of b) (written_out S.defs S.number f b)
  value_of ls f c w b i = settled Other (λ z. z) c (type_of b) (written_out S.defs S.number f b) i.gives

  pub as_wanted : (ls : List (Bytes × Label)) (f : Frame) (c : typed.Context) (u : Term) (b : Typed) → Becomes S.defs S.slots S.terms S.number Other ls f c (Some u) b
      → tree.Typed S.slots (written_out S.defs S.number f b) c (Of (S.number u))
  as_wanted ls f c u b i = (value_of ls f c (Some u) b i).typed (S.number u) i.below

  -- at its own type
  pub as_given : (ls : List (Bytes × Label)) (f : Frame) (c : typed.Context) (w : Option Term) (b : Typed) → Becomes S.defs S.slots S.terms S.number Other ls f c w b
      → tree.Typed S.slots (written_out S.defs S.number f b) c (Of (S.number (type_of b)))
  as_given ls f c w b i = (value_of ls f c w b i).typed (S.number (type_of b)) (self (S.number (type_of b)))

  module _ (A : Place S) where
    abbrev pub vs : List ℕ
    vs = A.context.parameters

    abbrev pub Known : Term → Type 0
    Known = IsKnown S.defs S.terms A.context.parameters

    -- each type that is written there is one of values
    pub written : AreWrittenFine S.defs S.terms A.context.parameters A.known.types
    written = written_fine S.defs A.context.parameters A.known.types A.fits.types A.fits.bounds S.terms

    abbrev pub WantKnown : Option Term → Type 0
    WantKnown = IsWantKnown S.defs S.terms A.context.parameters

    abbrev pub Is : Option Term → Typed → Type 0
    Is w b = Becomes S.defs S.slots S.terms S.number A.around A.known.labels A.frame A.context w b

    -- of a part
    abbrev pub IsPart : Option Term → Typed → Type 0
    IsPart w b = Becomes S.defs S.slots S.terms S.number Other A.known.labels A.frame A.context w b

    abbrev pub Value : Term → TypedExpression → Type 0
    Value u x = GivesValue S.defs S.slots S.terms S.number A.context u x

    abbrev pub Tree : Typed → TypedExpression
    Tree b = written_out S.defs S.number A.frame b

    -- what a form becomes at a type
    abbrev pub Made : ℕ → Term → Form Note → TypedExpression
    Made at u x = form S.defs S.number A.frame (note at u) x

    -- it is no loop
    abbrev pub IsPlain : ℕ → Term → Form Note → Type 0
    IsPlain at u x = (l : Bytes) → looped S.defs S.number A.frame l (at_type at u x) ≡ Made at u x

    -- a part, which uses some of the names of the whole
    abbrev pub IsTypedPart : Expression ℕ → Type 0
    IsTypedPart a = AreTyped S.defs S.slots S.terms S.number S.scope a × Within (occurring a) A.used

    pub part_fits : (a : Expression ℕ) → Within (occurring a) A.used → Fits S.defs S.slots S.terms S.number S.scope (occurring a) (directly Other A.known) A.frame A.context
    part_fits a h = narrowed S (occurring a) A.used h (directly Other A.known) A.frame A.context A.fits

    -- a part is judged
    pub judged : {X : Type 0} (a : Expression ℕ) → IsTypedPart a → (w : Option Term) → IsWantFine S.defs A.context.parameters w → (next : Typed → Judgement X) (P : X → Type 0)
        → ((b : Typed) → IsPart w b → Yields S.defs S.terms (next b) P) → Yields S.defs S.terms (Part (Judge S.defs (directly Other A.known) a w) next) P
    judged a j w k next P h = after S.defs S.terms (Judge S.defs (directly Other A.known) a w) next (IsPart w) P (j.0 (directly Other A.known) A.frame A.context (part_fits a j.1) w k) h

    -- a part is judged of which a type is wanted
    pub wanting : {X : Type 0} (a : Expression ℕ) → IsTypedPart a → (u : Term) → IsFine S.defs A.context.parameters u → (next : Typed → Judgement X) (P : X → Type 0)
        → ((b : Typed) → Among u S.terms → IsPart (Some u) b → Yields S.defs S.terms (next b) P) → Yields S.defs S.terms (Part (Judge S.defs (directly Other A.known) a (Some u)) next) P
    wanting (p.exp at x) j u k next P h = λ m.
        after S.defs S.terms (Rule S.defs Other (directly Other A.known) at x (Some u)) next (IsPart (Some u)) P (j.0 (directly Other A.known) A.frame A.context (part_fits (p.exp at x) j.1) (Some u) k m) (λ b i. h b m i)

    pub stands_so : (at : ℕ) (u : Term) (x : Form Note) → IsPlain at u x → Value u (Made at u x)
        → Gives S.defs S.slots S.terms S.number A.context A.around u (standing S.defs S.slots S.terms S.number A.around A.known.labels A.frame (at_type at u x))
    stands_so at u x q h = subst (λ z. Gives S.defs S.slots S.terms S.number A.context A.around u z) (sym (plain A.around A.known.labels A.frame (note at u) x q)) (inl h)

    pub below_wanted : (at : ℕ) (w : Option Term) (u : Term) (x : Form Note) → WantKnown w → Among u S.terms
        → Gives S.defs S.slots S.terms S.number A.context A.around u (standing S.defs S.slots S.terms S.number A.around A.known.labels A.frame (at_type at u x))
        → Yields S.defs S.terms (BelowWanted at w u (at_type at u x)) (Is w)
    below_wanted at None u x k m h = record { below = tt; gives = h }
    below_wanted at (Some v) u x k m h = (λ b. record { below = below_number S.defs S.slots S.terms S.number S.graph u v m k.there b; gives = h }, λ n. tt)

    -- what has a type of its own, whatever it is written out to
    pub has_so : (at : ℕ) (w : Option Term) (u : Term) (x : Form Note) → WantKnown w
        → (Among u S.terms → Gives S.defs S.slots S.terms S.number A.context A.around u (standing S.defs S.slots S.terms S.number A.around A.known.labels A.frame (at_type at u x)))
        → Yields S.defs S.terms (Has at w u x) (Is w)
    has_so at w u x k h = λ m. below_wanted at w u x k m (h m)

    -- what has a type of its own
    pub has : (at : ℕ) (w : Option Term) (u : Term) (x : Form Note) → IsPlain at u x → WantKnown w → (Among u S.terms → Value u (Made at u x)) → Yields S.defs S.terms (Has at w u x) (Is w)
    has at w u x q k h = has_so at w u x k (λ m. stands_so at u x q (h m))

    -- what has the type that is wanted
    pub fits : (at : ℕ) (u : Term) (x : Form Note) → IsPlain at u x → Value u (Made at u x) → (w : Option Term) → w ≡ Some u → Is w (at_type at u x)
    fits at u x q h w e = subst (λ z. Is z (at_type at u x)) (sym e) (record { below = self (S.number u); gives = stands_so at u x q h })

    -- ---- nodes

    pub a_value : (u : Term) → Known u → (x : Layer) → form_typing S.slots x A.context (Of (S.number u)) → Value u (node_of (S.number u) x)
    a_value u k x h = record {
      known = k;
      typed = value_node S.defs S.slots S.terms S.number S.graph A.context u k x h;
      unasked = node S.defs S.slots S.terms S.number S.graph A.context u (scope_of S.defs S.slots S.terms S.number S.graph A.context u k) x (Of (S.number u)) Anything refl h tt;
    }

    pub acts : (u : Term) → Known u → (a : Action) (es : List TypedExpression) (ws : List (Want TypeId)) → ActionTyped (head_at S.slots) A.context a ws (Of (S.number u)) → EachGives (tree.Typed S.slots) A.context es ws
        → Value u (node_of (S.number u) (F.Do a es))
    acts u k a es ws h gs = a_value u k (F.Do a es) (ws, h, gs)

    pub a_cell : (u : Term) → Known u → (a : Action) (es : List TypedExpression) (ws : List (Want TypeId)) → ActionTyped (head_at S.slots) A.context a ws (CellOf (S.number u)) → EachGives (tree.Typed S.slots) A.context es ws
        → tree.Typed S.slots (node_of (S.number u) (F.Do a es)) A.context (CellOf (S.number u))
    a_cell u k a es ws h gs = cell_node S.defs S.slots S.terms S.number S.graph A.context u k (F.Do a es) (ws, h, gs)
