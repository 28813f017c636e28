-- What stands before the functions of an actor is read exactly.
use Rattle.std.proofs.Common.{◌≡◌, ℕ, ◌<◌, Bool, true, false, List, [], ◌∷◌, ◌++◌, length, option_map, Option, Some, None, refl, sym, ap, ◌∙◌, arith}
use Rattle.std.specs.Prelude.{◌≢◌}
use Rattle.mo_syntax.specs.declared.token.TokenKind.TheVariants as t
use Rattle.mo_syntax.specs.declared.word.Word.TheVariants as w
use Rattle.mo_syntax.specs.declared.mark.Mark.TheVariants as m
use Rattle.mo_syntax.specs.declared.patterns.Pattern.{Pattern}
use Rattle.mo_syntax.specs.declared.patterns.PatternField.{PatternField}
use Rattle.mo_syntax.specs.declared.program.SharedPrefix.{SharedPrefix}
use Rattle.mo_syntax.specs.declared.program.SharedSort.{SharedSort}
use Rattle.mo_syntax.specs.declared.program.SharedSort.TheVariants as sort
use Rattle.mo_syntax.specs.declared.program.Context.{Context}
use Rattle.mo_syntax.specs.declared.program.Context.TheVariants as context
use Rattle.mo_syntax.specs.Writing as W
use Rattle.mo_syntax.specs.Parts.{Within}
use Rattle.mo_syntax.specs.PatternGrammar.{pattern_tokens, IsPattern, IsPatternField}
use Rattle.mo_syntax.specs.ExpressionGrammar.{first, behind_last}
use Rattle.mo_syntax.specs.ProgramGrammar.{context_tokens, shared_tokens, prefix_tokens, IsContext, IsPrefix}
use Rattle.mo_parser_base.specs.declared.look.Look.{Look}
use Rattle.mo_parser_base.specs.declared.look.Look.TheVariants as l
use Rattle.mo_parser_base.specs.Input.{Input, and_then, ◌<$>◌, ◌◂◌, pure, look, next, eat, semicolon}
use Rattle.mo_parser_base.proofs.Steps.{bind_ok, bind_takes, look_mark, look_word}
use Rattle.mo_parser_base.proofs.Exact.{Next, Took, Exact, Any, took_as, both, ended_by, flag, made, makes, ahead, first_is}
use Rattle.mo_parser_base.proofs.Made.{mapped, made_behind, makes_behind, each_listed, listed_each}
use Rattle.mo_parser_patterns.specs.Patterns.{a_pattern}
use Rattle.mo_parser_patterns.proofs.Whole.{a_pattern_exact, fields_exact}
use Rattle.mo_parser_patterns.specs.Ends.{EndsPattern}
use Rattle.mo_parser_programs.specs.Programs as g

-- what stands behind a prefix
abbrev pub BeforeFunction : Next → Type 0
BeforeFunction n = n ≡ Some (t.Reserved w.Func)

abbrev context_written : Option Context → Input
context_written c = W.optional (option_map context_tokens c)

abbrev ContextAt : Option Context → Next → Type 0
ContextAt c n = Within IsContext c

abbrev to_parenthesized : Pattern → Option Context
to_parenthesized p = Some (context.Parenthesized p)

abbrev to_object : List PatternField × Bool → Option Context
to_object z = Some (context.Object z.0 z.1)

before_close : EndsPattern (Some (t.Mark m.ParenClose))
before_close = ((refl, λ u. cc), (λ u. cc, (λ u. cc, λ u. cc)))

parenthesized_exact : (b : ℕ) → Exact b (a_pattern ◂ t.Mark m.ParenClose) (λ x. pattern_tokens x ++ t.Mark m.ParenClose ∷ []) (λ x n. IsPattern x 0) Any
parenthesized_exact b = ended_by (t.Mark m.ParenClose) tt (a_pattern_exact b) before_close

context_by_ok : (a : Look) (i : Input) (y : Option Context) (r : Input) → look i ≡ a → g.context_by a i ≡ Some (y, r) → Took context_written ContextAt y i r
context_by_ok (l.Mark m.ParenOpen) i y r is h =
    made_behind (t.Mark m.ParenOpen) (parenthesized_exact 0) to_parenthesized context_written ContextAt (λ z. refl) (λ z n good. good) i (next i) (look_mark i m.ParenOpen is) y r h
context_by_ok (l.Mark m.BraceOpen) i y r is h =
    made_behind (t.Mark m.BraceOpen) (fields_exact 0) to_object context_written ContextAt (λ z. refl)
    (λ z n good. (listed_each (λ x. IsPatternField x) semicolon (behind_last z.1) z.0 good.0, good.1)) i (next i) (look_mark i m.BraceOpen is) y r h
context_by_ok _ i y r is h = took_as None i y r (record { text = refl; good = tt }) h

no_context : (j : Input) → g.a_context (t.Reserved w.Func ∷ j) ≡ Some (None, t.Reserved w.Func ∷ j)
unfolding g.a_context
no_context j = refl

context_none : (r : Input) → BeforeFunction (first r) → g.a_context r ≡ Some (None, r)
context_none r stops = let is = first_is r (t.Reserved w.Func) stops in ap g.a_context is ∙ no_context (next r) ∙ ap (λ z. Some (None, z)) (sym is)

context_done : (b : ℕ) (c : Option Context) (r : Input) → length (context_written c) < b → Within IsContext c → BeforeFunction (first r) → g.a_context (context_written c ++ r) ≡ Some (c, r)
unfolding g.a_context
context_done b None r short good stops = context_none r stops
context_done b (Some (context.Parenthesized p)) r short good stops =
    makes_behind (t.Mark m.ParenOpen) (parenthesized_exact b) to_parenthesized context_written p refl g.a_context r refl (omega arith) good tt
context_done b (Some (context.Object xs last)) r short good stops =
    makes_behind (t.Mark m.BraceOpen) (fields_exact b) to_object context_written (xs, last) refl g.a_context r refl (omega arith)
    (each_listed (λ x. IsPatternField x) semicolon (behind_last last) xs good.0, good.1) tt

context_exact : (b : ℕ) → Exact b g.a_context context_written ContextAt BeforeFunction
unfolding g.a_context
context_exact b = record { sound = λ i y r h. context_by_ok (look i) i y r refl h; complete = context_done b }

-- ---- `["query"]`

abbrev sort_written : SharedSort → Input
sort_written sort.Shared = []
sort_written sort.SharedQuery = t.Reserved w.Query ∷ []
sort_written sort.Query = []

abbrev BehindShared : SharedSort → Next → Type 0
BehindShared sort.Query n = ⊥
BehindShared _ n = Unit {0}

-- nothing in it depends on the next token
behind_any : (x : SharedSort) (n k : Next) → BehindShared x n → BehindShared x k
behind_any sort.Shared n k h = tt
behind_any sort.SharedQuery n k h = tt
behind_any sort.Query n k h = h

sort_text : (x : Bool) → sort_written (g.sort_of x) ≡ W.marked x (t.Reserved w.Query)
sort_text true = refl
sort_text false = refl

sort_good : (x : Bool) (n : Next) → Unit {0} → BehindShared (g.sort_of x) n
sort_good true n h = tt
sort_good false n h = tt

sort_done : (b : ℕ) (x : SharedSort) (r : Input) → length (sort_written x) < b → BehindShared x (first r) → first r ≢ Some (t.Reserved w.Query) →
    (g.sort_of <$> eat (t.Reserved w.Query)) (sort_written x ++ r) ≡ Some (x, r)
sort_done b sort.Shared r short good stops = makes (flag b (t.Reserved w.Query) tt) g.sort_of sort_written false refl r short tt stops
sort_done b sort.SharedQuery r short good stops = makes (flag b (t.Reserved w.Query) tt) g.sort_of sort_written true refl r short tt stops
sort_done b sort.Query r short good stops = absurd good

sort_exact : (b : ℕ) → Exact b (g.sort_of <$> eat (t.Reserved w.Query)) sort_written BehindShared (λ n. n ≢ Some (t.Reserved w.Query))
sort_exact b = record { sound = λ i y r h. made (flag 0 (t.Reserved w.Query) tt) g.sort_of sort_written BehindShared sort_text sort_good i y r h; complete = sort_done b }

-- ---- prefixes

not_query : (c : Option Context) (n : Next) → BeforeFunction n → ahead (context_written c) n ≢ Some (t.Reserved w.Query)
not_query None n stops = λ u. cc
not_query (Some (context.Parenthesized p)) n stops = λ u. cc
not_query (Some (context.Object xs last)) n stops = λ u. cc

abbrev behind_shared : SharedPrefix → Input
behind_shared x = sort_written x.sort ++ context_written x.context

shared_exact : (b : ℕ) → Exact b g.shared_prefix behind_shared (λ x n. BehindShared x.sort None × Within IsContext x.context) BeforeFunction
unfolding g.shared_prefix
shared_exact b = mapped (both (sort_exact b) (context_exact b) (λ y r short good stops. not_query y (first r) stops)) g.to_prefix behind_shared (λ x n. BehindShared x.sort None × Within IsContext x.context)
    (λ x. ((x.sort, x.context), refl)) (λ z. refl) (λ z n good. (behind_any z.0 (ahead (context_written z.1) n) None good.0, good.1)) (λ z n good. (behind_any z.0 None (ahead (context_written z.1) n) good.0, good.1))

abbrev to_query : Option Context → SharedPrefix
to_query c = g.to_prefix (sort.Query, c)

abbrev IsQuery : SharedPrefix → Next → Type 0
IsQuery x n = (x.sort ≡ sort.Query) × Within IsContext x.context

query_ok : (i : Input) (x : SharedPrefix) (r : Input) → g.query_prefix i ≡ Some (x, r) → Took (λ y. context_written y.context) IsQuery x i r
unfolding g.query_prefix
query_ok i x r h = made (context_exact 0) to_query (λ y. context_written y.context) IsQuery (λ z. refl) (λ z n good. (refl, good)) i x r h

abbrev prefix_written : Option SharedPrefix → Input
prefix_written x = W.optional (option_map prefix_tokens x)

abbrev PrefixAt : Option SharedPrefix → Next → Type 0
PrefixAt x n = Within IsPrefix x

shared_text : (x : SharedSort) (c : Input) → BehindShared x None → shared_tokens x ++ c ≡ t.Reserved w.Shared ∷ (sort_written x ++ c)
shared_text sort.Shared c good = refl
shared_text sort.SharedQuery c good = refl
shared_text sort.Query c good = absurd good

query_text : (x : SharedSort) (c : Input) → x ≡ sort.Query → shared_tokens x ++ c ≡ t.Reserved w.Query ∷ c
query_text x c is = ap (λ z. shared_tokens z ++ c) is

prefix_by_ok : (a : Look) (i : Input) (y : Option SharedPrefix) (r : Input) → look i ≡ a → g.prefix_by a i ≡ Some (y, r) → Took prefix_written PrefixAt y i r
prefix_by_ok (l.Reserved w.Shared) i y r is h = bind_ok (g.shared_prefix (next i)) _ (y, r) h (λ x k was h1.
    let took = (shared_exact 0).sound (next i) x k was in
    took_as (Some x) k y r (record {
      text = look_word i w.Shared is ∙ ap (λ z. t.Reserved w.Shared ∷ z) took.text ∙ ap (λ z. z ++ k) (sym (shared_text x.sort (context_written x.context) took.good.0));
      good = took.good.1;
    }) h1)
prefix_by_ok (l.Reserved w.Query) i y r is h = bind_ok (g.query_prefix (next i)) _ (y, r) h (λ x k was h1.
    let took = query_ok (next i) x k was in
    took_as (Some x) k y r (record {
      text = look_word i w.Query is ∙ ap (λ z. t.Reserved w.Query ∷ z) took.text ∙ ap (λ z. z ++ k) (sym (query_text x.sort (context_written x.context) took.good.0));
      good = took.good.1;
    }) h1)
prefix_by_ok _ i y r is h = took_as None i y r (record { text = refl; good = tt }) h

no_prefix : (j : Input) → g.a_prefix (t.Reserved w.Func ∷ j) ≡ Some (None, t.Reserved w.Func ∷ j)
unfolding g.a_prefix
no_prefix j = refl

prefix_none : (r : Input) → BeforeFunction (first r) → g.a_prefix r ≡ Some (None, r)
prefix_none r stops = let is = first_is r (t.Reserved w.Func) stops in ap g.a_prefix is ∙ no_prefix (next r) ∙ ap (λ z. Some (None, z)) (sym is)

prefix_some : (b : ℕ) (s : SharedSort) (c : Option Context) (r : Input) → length (shared_tokens s ++ context_written c) < b → Within IsContext c → BeforeFunction (first r) →
    g.a_prefix ((shared_tokens s ++ context_written c) ++ r) ≡ Some (Some (g.to_prefix (s, c)), r)
unfolding g.a_prefix g.query_prefix
prefix_some b sort.Shared c r short good stops =
    bind_takes (g.shared_prefix (context_written c ++ r)) _ (g.to_prefix (sort.Shared, c)) r ((shared_exact b).complete (g.to_prefix (sort.Shared, c)) r (omega arith) (tt, good) stops)
prefix_some b sort.SharedQuery c r short good stops =
    bind_takes (g.shared_prefix (t.Reserved w.Query ∷ (context_written c ++ r))) _ (g.to_prefix (sort.SharedQuery, c)) r ((shared_exact b).complete (g.to_prefix (sort.SharedQuery, c)) r (omega arith) (tt, good) stops)
prefix_some b sort.Query c r short good stops =
    ap (λ o. and_then (and_then o (λ z. pure (to_query z))) (λ z. pure (Some z))) ((context_exact b).complete c r (omega arith) good stops)

prefix_done : (b : ℕ) (x : Option SharedPrefix) (r : Input) → length (prefix_written x) < b → Within IsPrefix x → BeforeFunction (first r) → g.a_prefix (prefix_written x ++ r) ≡ Some (x, r)
prefix_done b None r short good stops = prefix_none r stops
prefix_done b (Some x) r short good stops = prefix_some b x.sort x.context r short good stops

pub prefix_exact : (b : ℕ) → Exact b g.a_prefix (λ x. W.optional (option_map prefix_tokens x)) (λ x n. Within IsPrefix x) BeforeFunction
unfolding g.a_prefix
prefix_exact b = record { sound = λ i y r h. prefix_by_ok (look i) i y r refl h; complete = prefix_done b }
