-- Forms with one part or two, whatever they are.
use Rattle.std.proofs.Common.{◌≡◌, ℕ, ◌+◌, ◌≤◌, List, [], ◌++◌, Some, None, sym, ap, ◌∙◌, subst, arith}
use Rattle.mo_syntax.specs.declared.expressions.Expression as tree
use Rattle.mo_syntax.specs.declared.word.Word.TheVariants as w
use Rattle.mo_syntax.specs.ExpressionGrammar as grammar
use Rattle.mo_syntax.specs.Writing.{Writing}
use Rattle.mo_syntax.proofs.Known.{Known}
use Rattle.mo_bindings.specs.ExpressionNames.{Whole}
use Rattle.mo_bindings.specs.ExpressionNames as names
use Rattle.mo_names.specs.Order.{Found}
use Rattle.mo_names.specs.Order as order
use Rattle.mo_scopes.specs.declared.scope.Scope.{Scope}
use Rattle.mo_scopes.specs.Findings.{InScope}
use Rattle.mo_types.specs.declared.node.TypeId.{TypeId}
use Rattle.mo_types.specs.Graph.{Slot}
use Rattle.typing_rules.specs.AbstractSyntax.{Expression, Form}
use Rattle.typing_rules.specs.AbstractSyntax as p
use Rattle.typing_rules.specs.AbstractExpressions.{ExpressionSpan, between}
use Rattle.typing_rules.specs.AbstractExpressions as rules
use Rattle.typing_rules.specs.Definitions.{Definitions}
use Rattle.typing_rules.specs.Gathered.{both}
use Rattle.typing_rules.specs.Gathered as gathered
use Rattle.typing_rules.specs.Terms.{Term}
use Rattle.typing_rules.specs.TypeScopes.{TypeScope}
use Rattle.desugaring.specs.FreeNames.{occurring}
use Rattle.source_laws.specs.Source.{IsSource}
use Rattle.kept_names.specs.Plain.{IsPlain}
use Rattle.source_facts.specs.Shown.{AreWritten}
use Rattle.source_facts.proofs.Facts.{Numbered, wide, numbered_two, none_numbered, both_same, ExpressionFacts}
use Rattle.source_facts.specs.Laws.{AreMeanings, IsListFine}
use Rattle.source_facts.proofs.Findings.{first_fine, last_fine}
use Rattle.source_facts.proofs.Sequences.{each_first, each_last, below_more}

pub no_some : {A : Type 0} (a : A) → None ≡ Some a → ⊥
no_some a h = cc

module _ (defs : Definitions) (slots : List Slot) (terms : List Term) (number : Term → TypeId) where
  abbrev pub Facts : ExpressionSpan → Whole → Found → Writing → Type 0
  Facts = ExpressionFacts defs slots terms number

  abbrev pub KE : Type 0
  KE = Known (λ (x : tree.Expression). Facts (rules.in_expression x) (names.in_expression x) (order.found x) (grammar.expression_tokens x))

  -- a form without parts
  pub leaf : (span : ExpressionSpan) (finds : InScope) (v : Writing) → ((k : ℕ) → occurring (span.from k) ≡ []) → ((s : TypeScope) (k : ℕ) → gathered.in_expression s (span.from k) ≡ gathered.nothing)
      → ((s : TypeScope) (k : ℕ) → AreWritten v → IsSource defs slots terms number s (span.from k)) → Facts span (names.plain finds) order.nothing v
  leaf span finds v o g h = record {
    same = λ k i. o k;
    numbered = λ s k. subst (λ d. Numbered k (k + span.size) d) (sym (g s k)) (none_numbered k (k + span.size) (omega arith));
    named = λ m e s k. absurd (no_some m e);
    fine = λ s k scope b f l i. h s k i;
  }

  -- a form with one part
  pub one : (x : KE) (span : ExpressionSpan) (at : ℕ → ℕ) (form : Expression ℕ → Form ℕ) → ((k : ℕ) → span.from k ≡ p.exp k (form ((rules.in_expression x.0).from (at k))))
      → ((k : ℕ) → k ≤ at k) → ((k : ℕ) → at k + (rules.in_expression x.0).size ≤ k + span.size) → ((k : ℕ) (a : Expression ℕ) → IsPlain (p.exp k (form a)) → IsPlain a)
      → ((k : ℕ) (a : Expression ℕ) → occurring (p.exp k (form a)) ≡ occurring a) → ((s : TypeScope) (k : ℕ) (a : Expression ℕ) → gathered.in_expression s (p.exp k (form a)) ≡ gathered.in_expression s a)
      → ((s : TypeScope) (k : ℕ) (a : Expression ℕ) → IsSource defs slots terms number s a → IsSource defs slots terms number s (p.exp k (form a)))
      → (finds : InScope) (inner : Scope → Scope) → ((scope : Scope) → AreMeanings (finds scope) → AreMeanings ((names.in_expression x.0).finds (inner scope)))
      → (v : Writing) → (AreWritten v → AreWritten (grammar.expression_tokens x.0)) → Facts span (names.plain finds) (order.found x.0) v
  one x span at form is low high plain o g source finds inner part v parted = record {
    same = λ k h.
        let e = is k in
        ap (λ a. occurring a) e ∙ (o k ((rules.in_expression x.0).from (at k)) ∙ x.1.same (at k) (plain k ((rules.in_expression x.0).from (at k)) (subst IsPlain e h)));
    numbered = λ s k.
        subst (λ d. Numbered k (k + span.size) d) (sym (ap (λ a. gathered.in_expression s a) (is k) ∙ g s k ((rules.in_expression x.0).from (at k))))
        (wide (at k) (at k + (rules.in_expression x.0).size) k (k + span.size) (gathered.in_expression s ((rules.in_expression x.0).from (at k))) (low k) (high k) (x.1.numbered s (at k)));
    named = λ m e s k. absurd (no_some m e);
    fine = λ s k scope b f l i.
        subst (λ a. IsSource defs slots terms number s a) (sym (is k)) (source s k ((rules.in_expression x.0).from (at k))
        (x.1.fine s (at k) (inner scope) (below_more k (at k) s.parameters (low k) b) (part scope f) l (parted i)));
  }

  -- a form with two parts
  pub two : (x y : KE) (n c e : ℕ) (form : Expression ℕ → Expression ℕ → Form ℕ) → ((k : ℕ) (a b : Expression ℕ) → IsPlain (p.exp k (form a b)) → IsPlain a × IsPlain b)
      → ((k : ℕ) (a b : Expression ℕ) → occurring (p.exp k (form a b)) ≡ occurring a ++ occurring b)
      → ((s : TypeScope) (k : ℕ) (a b : Expression ℕ) → gathered.in_expression s (p.exp k (form a b)) ≡ both (gathered.in_expression s a) (gathered.in_expression s b))
      → ((s : TypeScope) (k : ℕ) (a b : Expression ℕ) → IsSource defs slots terms number s a → IsSource defs slots terms number s b → IsSource defs slots terms number s (p.exp k (form a b)))
      → (v : Writing) → (AreWritten v → AreWritten (grammar.expression_tokens x.0) × AreWritten (grammar.expression_tokens y.0))
      → Facts (between n (rules.in_expression x.0) c (rules.in_expression y.0) e form) (names.plain (λ scope. (names.in_expression x.0).finds scope ++ (names.in_expression y.0).finds scope)) (order.both (order.found x.0) (order.found y.0)) v
  two x y n c e form plain o g source v parted = record {
    same = λ k h.
        let i = plain k (a k) (b k) h in
        o k (a k) (b k) ∙ both_same (occurring (a k)) (occurring (b k)) (order.found x.0).free (order.found y.0).free (x.1.same (k + n) i.0) (y.1.same (k + n + (rules.in_expression x.0).size + c) i.1);
    numbered = λ s k.
        subst (λ d. Numbered k (k + (n + (rules.in_expression x.0).size + c + (rules.in_expression y.0).size + e)) d) (sym (g s k (a k) (b k)))
        (numbered_two k (k + n) (k + n + (rules.in_expression x.0).size) (k + n + (rules.in_expression x.0).size + c) (k + n + (rules.in_expression x.0).size + c + (rules.in_expression y.0).size)
        (k + (n + (rules.in_expression x.0).size + c + (rules.in_expression y.0).size + e)) (gathered.in_expression s (a k)) (gathered.in_expression s (b k)) (omega arith) (omega arith) (omega arith)
        (x.1.numbered s (k + n)) (y.1.numbered s (k + n + (rules.in_expression x.0).size + c)));
    named = λ m q s k. absurd (no_some m q);
    fine = λ s k scope d f l i.
        let w = parted i in
        source s k (a k) (b k)
        (x.1.fine s (k + n) scope (below_more k (k + n) s.parameters (omega arith) d) (first_fine ((names.in_expression x.0).finds scope) ((names.in_expression y.0).finds scope) f)
        (each_first IsListFine (order.found x.0).lists (order.found y.0).lists l) w.0)
        (y.1.fine s (k + n + (rules.in_expression x.0).size + c) scope (below_more k (k + n + (rules.in_expression x.0).size + c) s.parameters (omega arith) d)
        (last_fine ((names.in_expression x.0).finds scope) ((names.in_expression y.0).finds scope) f) (each_last IsListFine (order.found x.0).lists (order.found y.0).lists l) w.1);
  } where
    a : ℕ → Expression ℕ
    a k = (rules.in_expression x.0).from (k + n)

    b : ℕ → Expression ℕ
    b k = (rules.in_expression y.0).from (k + n + (rules.in_expression x.0).size + c)
