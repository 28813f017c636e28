-- No name that is bound in an actor is one of a future.
use Rattle.std.proofs.Common.{◌≡◌, ◌⊎◌, inl, inr, ℕ, zero, suc, ◌<◌, Bool, true, false, List, [], ◌∷◌, ◌++◌, length, Option, None, Some, refl, sym, ap, ◌∙◌, subst, append_assoc}
use Rattle.std.specs.Prelude.{cond}
use Rattle.std.specs.Str.{bytes_eq}
use Rattle.mo_scopes.specs.Scopes.{named}
use Rattle.mo_types.specs.declared.node.Node.{Node}
use Rattle.mo_types.specs.declared.node.Node.TheVariants as node
use Rattle.mo_types.specs.Heads.{async_of}
use Rattle.subtype_laws.specs.Reached.{Among}
use Rattle.typed_tree.specs.Placing.{Declared}
use Rattle.typed_tree.specs.Shareable.{HasShareableForm, Shares, IsShareable}
use Rattle.typing_rules.specs.AbstractSyntax.{Bytes, Declaration, Declarations}
use Rattle.typing_rules.specs.AbstractSyntax as p
use Rattle.typing_rules.specs.AsyncPlaces.{Other}
use Rattle.typing_rules.specs.Contexts.{Bound, Scope, directly, constant, variable, generic}
use Rattle.typing_rules.specs.DeclaredTypes.{with_list, function_term, class_term}
use Rattle.typing_rules.specs.Definitions.{Definitions}
use Rattle.typing_rules.specs.Heads.{head}
use Rattle.typing_rules.specs.Lists.{Entry as Given, of_expression}
use Rattle.typing_rules.specs.Programs.{actor_type, method_fields, own_name}
use Rattle.typing_rules.specs.Terms.{Term, Fields}
use Rattle.typing_rules.specs.Terms as t
use Rattle.typing_rules.specs.TypedTrees.{Note}
use Rattle.typing_rules.specs.TypeScopes.{TypeScope, no_types}
use Rattle.desugaring.specs.Expressions.{becomes}
use Rattle.desugaring.specs.FreeNames.{names_in, occurring, in_declaration, declared}
use Rattle.desugaring.specs.Pieces.{Becomes, AStep, AFunction, AnExpression, Nothing}
use Rattle.list_laws.specs.Facts.{scope_at}
use Rattle.declaration_laws.specs.Laws.{own_of}
use Rattle.declaration_laws.specs.Made.{StepMade, StableMade}
use Rattle.block_laws.specs.Lists.{method_term, signed_one, signed, IsSigned, AreSigned, IsMade, AreMade, behind}
use Rattle.block_laws.specs.Order.{Reaches, UsesInOrder, AllInOrder, fact_of, facts_of}
use Rattle.block_laws.proofs.Facts.{dropped, nth_dropped, scope_next}
use Rattle.block_laws.proofs.Whole.{scope_is}
use Rattle.block_forms.proofs.AtEnd.{below_length}
use Rattle.program_laws.proofs.Reached.{decided}
use Rattle.program_laws.proofs.Standing.{actor_head}
use Rattle.ending_laws.proofs.Place.{Setting, all, base, facts, fits_at, frame, known, last, outer, end, end_is}
use Rattle.ending_laws.proofs.Place as place

no_bound : (b : Bound) → None ≡ Some b → ⊥
no_bound b h = cc

same_bound : (c b : Bound) → Some c ≡ Some b → c ≡ b
same_bound c b h = cc

-- a type that may be sent is none of a future
shareable_plain : {A : Type 0} (h : A → Node A) (u : A) → IsShareable h u → async_of (h u) ≡ None
unfolding Shares
shareable_plain {A = A} h u i = by (h u) (i.by 1).0 where
  by : (y : Node A) → HasShareableForm y → async_of y ≡ None
  by (node.Number k) j = refl
  by node.Bool j = refl
  by node.Char j = refl
  by node.Text j = refl
  by node.Blob j = refl
  by node.Principal j = refl
  by node.Error j = refl
  by node.Null j = refl
  by node.Any j = refl
  by node.Bottom j = refl
  by (node.Opt a) j = refl
  by (node.Array a) j = refl
  by (node.MutArray a) j = refl
  by (node.Tuple ts) j = refl
  by (node.Object fs) j = refl
  by (node.Actor fs) j = refl
  by (node.Variant fs) j = refl
  by (node.Func s ps rs) j = refl
  by (node.Async a) j = absurd j
  by (node.Variable v b) j = refl

module _ (defs : Definitions) where
  abbrev pub AllPlain : Scope → Type 0
  AllPlain v = (y : Bytes) (b : Bound) → named v y ≡ Some b → async_of (head defs b.type) ≡ None

  one_more : (x : Bytes) (c : Bound) (v : Scope) → async_of (head defs c.type) ≡ None → AllPlain v → AllPlain ((x, c) ∷ v)
  one_more x c v h plain y b g = by (bytes_eq y x) g where
    by : (t : Bool) → cond t (Some c) (named v y) ≡ Some b → async_of (head defs b.type) ≡ None
    by true i = subst (λ z. async_of (head defs z.type) ≡ None) (same_bound c b i) h
    by false i = plain y b i

  own_plain : (o : Option Bytes) (fs : Fields) → AllPlain (own_name o (t.Actor fs))
  own_plain None fs y b h = absurd (no_bound b h)
  own_plain (Some x) fs y b h = one_more x (constant (t.Actor fs)) [] (ap async_of (actor_head defs fs)) (λ z d i. absurd (no_bound d i)) y b h

  module _ (terms : List Term) (s : TypeScope) where
    signed_plain : (ds : Declarations ℕ) → AreSigned defs terms [] s ds → (v : Scope) → AllPlain v → AllPlain (signed s ds ++ v)
    signed_plain p.End k v plain = plain
    signed_plain (p.Then public n d rest) k v plain =
        subst (λ z. AllPlain z) (sym (append_assoc (signed s rest) (signed_one s d) v)) (signed_plain rest k.1 (signed_one s d ++ v) (by d k.0))
      where
        by : (d : Declaration ℕ) → IsSigned defs terms [] s d → AllPlain (signed_one s d ++ v)
        by (p.Func x g body) j = one_more x.bytes (generic (own_of g) (function_term s g)) v j.0.fine.no_future plain
        by (p.Class x g fields) j = one_more x.bytes (generic (own_of g) (class_term s x g)) v j.0.fine.no_future plain
        by (p.Method query context x g body) j = one_more x.bytes (constant (method_term s query g)) v j.0.fine.no_future plain
        by (p.Let q a) j = plain
        by (p.Var stable x u a) j = plain
        by (p.System x body) j = plain
        by (p.TypeAlias x ps u) j = plain
        by (p.NamedObject x fields) j = plain
        by (p.Evaluate a) j = plain

module _ (S : Setting) where
  -- what a step binds
  step_plain : (n : ℕ) (v : Scope) → v ≡ scope_at n (facts S) (base S) → n < length (facts S) → (uses : List Bytes) → ((y : Bytes) → Among y uses → Reaches (outer S) (facts S) (suc n) n y) → (xs : List Bytes) (s : Scope) (b : Becomes)
      → StepMade (place.defs S) S.slots S.terms S.number [] uses (directly Other (record (known S) { values = v })) xs s b → AllPlain (place.defs S) v → AllPlain (place.defs S) (s ++ v)
  step_plain n v i h uses there xs s (AStep binds step) j plain y b g = by (decided y xs) where
    made : StepMade (place.defs S) S.slots S.terms S.number [] uses (directly Other (record (known S) { values = scope_at n (facts S) (base S) })) xs s (AStep binds step)
    made = subst (λ z. StepMade (place.defs S) S.slots S.terms S.number [] uses (directly Other (record (known S) { values = z })) xs s (AStep binds step)) i j

    by : Among y xs ⊎ (Among y xs → ⊥) → async_of (head (place.defs S) b.type) ≡ None
    by (inl m) = (made.2 (record { frame = frame S; context = end S; parameters = (end_is S).parameters; fits = fits_at S n h uses there })).plain refl y m v b g
    by (inr m) = plain y b (sym (j.1 y m v) ∙ g)
  step_plain n v i h uses there xs s (AFunction z make) j plain y b g = absurd j
  step_plain n v i h uses there xs s (AnExpression x) j plain y b g = absurd j
  step_plain n v i h uses there xs s Nothing j plain y b g = absurd j

  stable_plain : (n : ℕ) (v : Scope) (uses : List Bytes) (x : Bytes) (s : Scope) (b : Becomes) → StableMade (place.defs S) S.slots S.terms S.number [] uses (directly Other (record (known S) { values = v })) x s b → AllPlain (place.defs S) v → AllPlain (place.defs S) (s ++ v)
  stable_plain n v uses x s (AStep binds step) j plain =
      subst (λ z. AllPlain (place.defs S) (z ++ v)) (sym j.2.1) (one_more (place.defs S) x (variable j.2.0) v (shareable_plain (head (place.defs S)) j.2.0 j.2.2) plain)
  stable_plain n v uses x s (AFunction y g) j plain = absurd j
  stable_plain n v uses x s (AnExpression y) j plain = absurd j
  stable_plain n v uses x s Nothing j plain = absurd j

  nothing_plain : (v s : Scope) → s ≡ [] → AllPlain (place.defs S) v → AllPlain (place.defs S) (s ++ v)
  nothing_plain v s e plain = subst (λ z. AllPlain (place.defs S) (z ++ v)) (sym e) plain

  one_plain : (n : ℕ) (v : Scope) → v ≡ scope_at n (facts S) (base S) → n < length (facts S) → (d : Declaration ℕ) (x : Declared) → UsesInOrder (outer S) (all S) (facts S) n x d → (w : Option Term) (one : Given) (b : Becomes)
      → IsMade (place.defs S) S.slots S.terms S.number [] (last S) (record (known S) { values = v }) d w one b → AllPlain (place.defs S) v → AllPlain (place.defs S) (one.scope ++ v)
  one_plain n v i h (p.Let q a) x there w one b j plain = step_plain n v i h (occurring a) there (names_in q) one.scope b j plain
  one_plain n v i h (p.Var false y u a) x there w one b j plain = step_plain n v i h (occurring a) there (y.bytes ∷ []) one.scope b j plain
  one_plain n v i h (p.Var true y u a) x there w one b j plain = stable_plain n v (occurring a) y.bytes one.scope b j plain
  one_plain n v i h (p.NamedObject y fields) x there w one b j plain = step_plain n v i h (in_declaration (p.NamedObject y fields)) there (y.bytes ∷ []) one.scope b j plain
  one_plain n v i h (p.Evaluate a) x there w one b j plain = nothing_plain v one.scope j.1 plain
  one_plain n v i h (p.Func y g body) x there w one b j plain = nothing_plain v one.scope j.1 plain
  one_plain n v i h (p.Class y g fields) x there w one b j plain = nothing_plain v one.scope j.1 plain
  one_plain n v i h (p.Method query context y g body) x there w one b j plain = nothing_plain v one.scope j.1 plain
  one_plain n v i h (p.System y body) x there w one b j plain = nothing_plain v one.scope j.1 plain
  one_plain n v i h (p.TypeAlias y ps u) x there w one b j plain = nothing_plain v one.scope j.1 plain

  list_plain : (n : ℕ) (v : Scope) → v ≡ scope_at n (facts S) (base S) → (ds : Declarations ℕ) (given : List Given) (made : Declarations Note) → AreMade (place.defs S) S.slots S.terms S.number [] (last S) false (record (known S) { values = v }) ds None given made
      → AllInOrder (outer S) (all S) (facts S) n ds made → dropped n (facts S) ≡ facts_of S.slots S.number (with_list no_types S.program.fields) (all S) ds made given → AllPlain (place.defs S) v → AllPlain (place.defs S) (behind given v)
  list_plain n v i p.End [] made m there h plain = plain
  list_plain n v i p.End (one ∷ ones) made m there h plain = absurd m
  list_plain n v i (p.Then public j d rest) [] made m there h plain = absurd m
  list_plain n v i (p.Then public j d rest) (one ∷ ones) p.End m there h plain = absurd m
  list_plain n v i (p.Then public j d rest) (one ∷ ones) (p.Then public_too l b bs) m there h plain =
      let x = fact_of S.slots S.number (with_list no_types S.program.fields) (all S) (declared b) d one.scope in
      let xs = facts_of S.slots S.number (with_list no_types S.program.fields) (all S) rest bs ones in
      let t = nth_dropped n (facts S) x xs h in
      list_plain (suc n) (one.scope ++ v)
      (ap (λ z. one.scope ++ z) i
      ∙ (ap (λ z. z ++ scope_at n (facts S) (base S)) (scope_is (place.defs S) S.slots S.terms S.number [] (last S) false None (known S) (all S) v d (of_expression false rest None) one (declared b) (becomes (place.defs S) S.number l b) m.1)
      ∙ sym (scope_next n (facts S) (base S) x t.0)))
      rest ones bs m.2 there.1 t.1
      (one_plain n v i (below_length n (facts S) x xs h) d (declared b) there.0 (of_expression false rest None) one (becomes (place.defs S) S.number l b) m.1 plain)

  pub all_plain : AllPlain (place.defs S) (behind S.m.list.given (base S))
  all_plain =
      list_plain zero (base S) refl S.program.fields S.m.list.given S.q.1 S.m.list.made (S.o.used S.m.list.given) refl
      (signed_plain (place.defs S) S.terms (with_list no_types S.program.fields) S.program.fields S.m.list.known (own_name S.program.name (actor_type S.program)) (own_plain (place.defs S) S.program.name (method_fields (with_list no_types S.program.fields) S.program.fields)))
