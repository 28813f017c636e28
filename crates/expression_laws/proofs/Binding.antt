-- Forms with patterns: `switch`, `try`, `for`.
use Rattle.std.proofs.Common.{◌≡◌, ◌⊎◌, inl, inr, ℕ, List, [], ◌∷◌, Option, Some, None, refl, sym, ◌∙◌, subst}
use Rattle.mo_types.specs.declared.node.Node.TheVariants as node
use Rattle.mo_types.specs.Sub.{IsSubtype}
use Rattle.subtype_laws.specs.Reached.{Among}
use Rattle.typed_tree.specs.declared.expression.Case.{roll-Case}
use Rattle.typed_tree.specs.declared.expression.Form.TheOpen as F
use Rattle.typed_tree.specs.ActionTypes as typed
use Rattle.typed_tree.specs.OperationTypes.{Distinct}
use Rattle.typed_tree.specs.PatternTypes as stand
use Rattle.typed_tree.specs.Typing.{CasesGive, CaseTyped, Typed, with_names}
use Rattle.typed_tree.specs.Wants.{Of}
use Rattle.typed_tree.proofs.Rules.{cases}
use Rattle.typing_rules.specs.AbstractSyntax.{Bytes, Expression, Cases, Pattern}
use Rattle.typing_rules.specs.AbstractSyntax as p
use Rattle.typing_rules.specs.AsyncPlaces.{Other, waits}
use Rattle.typing_rules.specs.Contexts.{Context, Scope, directly, with_values}
use Rattle.typing_rules.specs.Expressions.{Judge, Rule, JudgeCases}
use Rattle.typing_rules.specs.Heads.{head}
use Rattle.typing_rules.specs.Patterns.{Stands}
use Rattle.typing_rules.specs.Terms.{Term}
use Rattle.typing_rules.specs.Terms as t
use Rattle.typing_rules.specs.TypedTrees.{Note, type_of, case_types}
use Rattle.desugaring.specs.Expressions.{tree as written_out, case_trees}
use Rattle.desugaring.specs.Frames.{Frame}
use Rattle.desugaring.specs.Frames as frames
use Rattle.desugaring.specs.FreeNames.{names_in, without, occurring}
use Rattle.desugaring.specs.Patterns.{pattern}
use Rattle.desugaring_laws.specs.Laws.{wants, PatternTyped}
use Rattle.desugaring_laws.specs.Names.{bound_names, entered}
use Rattle.desugaring_laws.specs.Yields.{Yields}
use Rattle.desugaring_laws.proofs.Graph.{below_number}
use Rattle.desugaring_laws.proofs.Patterns.{patterns_are_typed}
use Rattle.desugaring_laws.proofs.Yielding.{more, tests, part as after}
use Rattle.expression_laws.specs.Fitting.{Fits}
use Rattle.expression_laws.specs.Laws.{IsPatternFine}
use Rattle.expression_laws.specs.Results.{IsWantFine, Becomes, AreTyped}
use Rattle.expression_laws.proofs.BoundNames.{names_bound, names_kept, both}
use Rattle.expression_laws.proofs.Choices.{branches, two_known, at_whole, above_branch}
use Rattle.expression_laws.proofs.Ending.{Setting, Place, Within, self, there, value_of, as_wanted, as_given, Known, WantKnown, Is, IsTypedPart, Tree, judged, a_value, written}
use Rattle.expression_laws.proofs.Heads.{error_head, error_fine}
use Rattle.expression_laws.proofs.Naming.{names_of, with_pattern}
use Rattle.expression_laws.proofs.Outside.{outside}
use Rattle.expression_laws.proofs.Simple.{as_fine, no_local}

module _ (S : Setting) (A : Place S) where
  abbrev E : Context
  E = directly Other A.known

  -- behind the pattern
  abbrev pub Inner : Scope × Pattern Note → typed.Context
  Inner b = with_names (wants S.number (bound_names b.1)) A.context

  abbrev pub InFrame : Scope × Pattern Note → Frame
  InFrame b = frames.with_names (names_in b.1) A.frame

  -- it stands on u, and what uses its names and these others fits behind it
  pub record Binds (used : List Bytes) (u : Term) (b : Scope × Pattern Note) : Type 0 where
    pub stands : stand.Stands S.slots A.context.parameters (pattern S.defs S.number b.1) (S.number u) (wants S.number (bound_names b.1))
    pub fits : Fits S.defs S.slots S.terms S.number S.scope used (with_values b.0 E) (InFrame b) (Inner b)

  pub binds : (q : Pattern ℕ) → IsPatternFine q → (u : Term) → Known S A u → (used : List Bytes) → Within (without (names_in q) used) A.used → Yields S.defs S.terms (Stands S.defs A.known.types q u) (Binds used u)
  binds q w u k used within =
      more S.defs S.terms (Stands S.defs A.known.types q u) (λ b. PatternTyped S.defs S.slots S.terms S.number A.context.parameters u b.0 b.1 × (names_in b.1 ≡ names_in q)) (Binds used u)
      (both S.defs S.terms (Stands S.defs A.known.types q u) (λ b. PatternTyped S.defs S.slots S.terms S.number A.context.parameters u b.0 b.1) (λ b. names_in b.1 ≡ names_in q)
      (patterns_are_typed S.defs S.slots S.terms S.number S.graph S.units A.context.parameters A.known.types (written S A) q w.written u k)
      (names_kept S.defs S.terms A.known.types q u)) (λ b i. record {
        stands = i.0.stands (S.number u) (self S (S.number u));
        fits = fit b i.0 i.1;
      })
    where
      fit : (b : Scope × Pattern Note) → PatternTyped S.defs S.slots S.terms S.number A.context.parameters u b.0 b.1 → names_in b.1 ≡ names_in q → Fits S.defs S.slots S.terms S.number S.scope used (with_values b.0 E) (InFrame b) (Inner b)
      fit b i e =
          let same : names_of (bound_names b.1) ≡ names_in q = sym (names_bound b.1) ∙ e in
          subst (λ s. Fits S.defs S.slots S.terms S.number S.scope used (with_values s E) (InFrame b) (Inner b)) (sym i.scope_is)
          (subst (λ xs. Fits S.defs S.slots S.terms S.number S.scope used (with_values (entered (bound_names b.1) []) E) (frames.with_names xs A.frame) (Inner b)) (sym (names_bound b.1))
          (with_pattern S.defs S.slots S.terms S.number S.scope used A.used (bound_names b.1) (λ x m. reach x (outside (names_in q) used x m) same) E A.frame A.context A.fits
          (subst (λ xs. Distinct xs) (sym same) w.distinct) i.known))
        where
          reach : (x : Bytes) → Among x (names_in q) ⊎ Among x (without (names_in q) used) → names_of (bound_names b.1) ≡ names_in q → Among x (names_of (bound_names b.1)) ⊎ Among x A.used
          reach x (inl m) h = inl (subst (λ xs. Among x xs) (sym h) m)
          reach x (inr m) h = inr (within x m)

  -- ---- `switch`

  -- cases on values of type u
  pub record CasesTyped (u : Term) (w : Option Term) (cs : Cases Note) : Type 0 where
    pub wanted : (v : Term) → w ≡ Some v → CasesGive (CaseTyped S.slots) A.context (case_trees S.defs S.number A.frame cs) (S.number u) (Of (S.number v))
    pub given : (v : Term) → Known S A v → ((z : Term) → Among z (case_types cs) → IsSubtype (head S.defs) z v) → CasesGive (CaseTyped S.slots) A.context (case_trees S.defs S.number A.frame cs) (S.number u) (Of (S.number v))
    pub known : (z : Term) → Among z (case_types cs) → Known S A z

  -- each case of a list
  abbrev pub EachCase : Cases ℕ → Type 0
  EachCase p.NoCases = Unit {0}
  EachCase (p.Case q a rest) = IsPatternFine q × AreTyped S.defs S.slots S.terms S.number S.scope a × Within (without (names_in q) (occurring a)) A.used × EachCase rest

  -- what stands behind a pattern is judged
  behind : (b : Scope × Pattern Note) (u : Term) (a : Expression ℕ) → Binds (occurring a) u b → AreTyped S.defs S.slots S.terms S.number S.scope a → (w : Option Term) → IsWantFine S.defs A.context.parameters w
      → Yields S.defs S.terms (Judge S.defs (with_values b.0 E) a w) (Becomes S.defs S.slots S.terms S.number Other A.known.labels (InFrame b) (Inner b) w)
  behind b u a i j w k = j (with_values b.0 E) (InFrame b) (Inner b) i.fits w k

  one_case : (b : Scope × Pattern Note) (u : Term) (a : Expression ℕ) → Binds (occurring a) u b → (x : p.Expression Note) (v : Term)
      → Typed S.slots (written_out S.defs S.number (InFrame b) x) (Inner b) (Of (S.number v))
      → CaseTyped S.slots (roll-Case (record { pattern = pattern S.defs S.number b.1; body = written_out S.defs S.number (InFrame b) x })) A.context (S.number u) (Of (S.number v))
  one_case b u a i x v h =
      (cases S.slots (record { pattern = pattern S.defs S.number b.1; body = written_out S.defs S.number (InFrame b) x }) A.context (S.number u) (Of (S.number v))).1 (wants S.number (bound_names b.1), i.stands, h)

  case_known : (v : Term) (us : List Term) → Known S A v → ((u : Term) → Among u us → Known S A u) → (u : Term) → Among u (v ∷ us) → Known S A u
  case_known v us k h u (inl e) = subst (λ z. Known S A z) e k
  case_known v us k h u (inr m) = h u m

  pub cases_typed : (cs : Cases ℕ) → EachCase cs → (u : Term) → Known S A u → (w : Option Term) → IsWantFine S.defs A.context.parameters w → Yields S.defs S.terms (JudgeCases S.defs E cs u w) (CasesTyped u w)
  cases_typed p.NoCases j u k w f = record { wanted = λ v e. tt; given = λ v kv h. tt; known = λ z m. absurd m }
  cases_typed (p.Case q a rest) j u k w f =
      after S.defs S.terms (Stands S.defs A.known.types q u) _ (Binds (occurring a) u) (CasesTyped u w) (binds q j.0 u k (occurring a) j.2) (λ b i.
      after S.defs S.terms (Judge S.defs (with_values b.0 E) a w) _ (Becomes S.defs S.slots S.terms S.number Other A.known.labels (InFrame b) (Inner b) w) (CasesTyped u w) (behind b u a i j.1 w f) (λ x h.
      after S.defs S.terms (JudgeCases S.defs E rest u w) _ (CasesTyped u w) (CasesTyped u w) (cases_typed rest j.3 u k w f) (λ cs r.
      let y = value_of S A.known.labels (InFrame b) (Inner b) w x h in
      record {
        wanted = λ v e. (one_case b u a i x v (as_wanted S A.known.labels (InFrame b) (Inner b) v x (subst (λ z. Becomes S.defs S.slots S.terms S.number Other A.known.labels (InFrame b) (Inner b) z x) e h)), r.wanted v e);
        given = λ v kv g. (one_case b u a i x v (y.typed (S.number v) (below_number S.defs S.slots S.terms S.number S.graph (type_of x) v y.known.there kv.there (g (type_of x) (inl refl)))), r.given v kv (λ z m. g z (inr m)));
        known = case_known (type_of x) (case_types cs) y.known r.known;
      })))

  pub switch_typed : (at : ℕ) (a : Expression ℕ) (cs : Cases ℕ) → IsTypedPart S A a → EachCase cs → (w : Option Term) → WantKnown S A w → Yields S.defs S.terms (Rule S.defs A.around E at (p.Switch a cs) w) (Is S A w)
  switch_typed at a cs j js w k =
      judged S A a j None tt _ (Is S A w) (λ b i.
      let y = value_of S A.known.labels A.frame A.context None b i in
      let x = as_given S A.known.labels A.frame A.context None b i in
      after S.defs S.terms (JudgeCases S.defs E cs (type_of b) w) _ (CasesTyped (type_of b) w) (Is S A w) (cases_typed cs js (type_of b) y.known w (as_fine S A w k)) (λ made r.
      branches S A at w (case_types made) (p.Switch b made) (λ u l. refl) k r.known
      (λ v e known. a_value S A v known (F.Switch at (Tree S A b) (case_trees S.defs S.number A.frame made)) (S.number v, S.number (type_of b), refl, x, r.wanted v e))
      (λ e v known h. a_value S A v known (F.Switch at (Tree S A b) (case_trees S.defs S.number A.frame made)) (S.number v, S.number (type_of b), refl, x, r.given v known h))))

  -- ---- `try`

  pub try_typed : (at : ℕ) (a b : Expression ℕ) (q : Pattern ℕ) → IsTypedPart S A a → IsPatternFine q → AreTyped S.defs S.slots S.terms S.number S.scope b → Within (without (names_in q) (occurring b)) A.used
      → (w : Option Term) → WantKnown S A w → Yields S.defs S.terms (Rule S.defs A.around E at (p.Try a q b) w) (Is S A w)
  try_typed at a b q ja fine jb within w k =
      tests S.defs S.terms _ at (waits A.known.body) _ (Is S A w) (λ waiting.
      judged S A a ja w (as_fine S A w k) _ (Is S A w) (λ x ix.
      λ m.
      let err : Known S A t.Error = record { there = m; fine = error_fine S.defs A.context.parameters } in
      after S.defs S.terms (Stands S.defs A.known.types q t.Error) _ (Binds (occurring b) t.Error) (Is S A w) (binds q fine t.Error err (occurring b) within) (λ r ir.
      after S.defs S.terms (Judge S.defs (with_values r.0 E) b w) _ (Becomes S.defs S.slots S.terms S.number Other A.known.labels (InFrame r) (Inner r) w) (Is S A w) (behind r t.Error b ir jb w (as_fine S A w k)) (λ y iy.
      let gx = value_of S A.known.labels A.frame A.context w x ix in
      let gy = value_of S A.known.labels (InFrame r) (Inner r) w y iy in
      let made = λ (v : Term) (kv : Known S A v) (hx : Typed S.slots (Tree S A x) A.context (Of (S.number v))) (hy : Typed S.slots (written_out S.defs S.number (InFrame r) y) (Inner r) (Of (S.number v))).
      a_value S A v kv (F.Try (Tree S A x) (pattern S.defs S.number r.1) (written_out S.defs S.number (InFrame r) y))
      (S.number v, S.number t.Error, wants S.number (bound_names r.1), refl, no_local S A waiting, there S t.Error m node.Error (error_head S.defs), hx, ir.stands, hy) in
      branches S A at w (type_of x ∷ type_of y ∷ []) (p.Try x r.1 y) (λ u l. refl) k (two_known S A (type_of x) (type_of y) gx.known gy.known)
      (λ v e kv. made v kv (at_whole S A w x ix v e) (as_wanted S A.known.labels (InFrame r) (Inner r) v y (subst (λ z. Becomes S.defs S.slots S.terms S.number Other A.known.labels (InFrame r) (Inner r) z y) e iy)))
      (λ e v kv h. made v kv (above_branch S A w x ix v kv (h (type_of x) (inl refl))) (gy.typed (S.number v) (below_number S.defs S.slots S.terms S.number S.graph (type_of y) v gy.known.there kv.there (h (type_of y) (inr (inl refl))))))))))
