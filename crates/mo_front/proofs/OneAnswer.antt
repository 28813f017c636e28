-- A source has one answer.
use Rattle.std.proofs.Common.{◌≡◌, ◌∙◌, ℕ, ◌<◌, ◌≤◌, List, [], ◌∷◌, length, Some, Ok, Err, refl, sym, ap, subst, arith, inl, inr}
use Rattle.std.specs.Prelude.{◌⊎◌, slice_get}
use Rattle.std.proofs.lemmas.Bool.{cases_lt}
use Rattle.std.proofs.lemmas.Option.{slice_get_within}
use Rattle.mo_syntax.specs.declared.place.Place.{Place}
use Rattle.mo_syntax.specs.declared.token.Token.{Token}
use Rattle.mo_syntax.specs.declared.program.Tree.{Tree}
use Rattle.mo_lexer.proofs.Laws.{lexed_same, lexed_or_fault, one_fault}
use Rattle.mo_lexer.specs.declared.fault.LexFault.{LexFault}
use Rattle.mo_parser_base.specs.Input.{kinds}
use Rattle.mo_depth.specs.Depth.{AreShallow, IsDeepAt, depth_at}
use Rattle.mo_parser.specs.declared.fault.ParseFault.{ParseFault}
use Rattle.mo_parser.specs.declared.fault.ParseFault.TheVariants as parse
use Rattle.mo_parser.proofs.Answered as parsed
use Rattle.mo_scopes.specs.declared.rule.Rule.{Rule}
use Rattle.mo_scopes.specs.declared.rule.Rule.TheVariants as rule
use Rattle.mo_scopes.specs.declared.rule.Breach.{Breach}
use Rattle.mo_names.specs.declared.fault.NameFault.{NameFault}
use Rattle.mo_names.specs.Bound.{Bound, Breaks, Comes, fault_at, fault_of, rank}
use Rattle.typing_rules.specs.declared.condition.Condition.{Condition}
use Rattle.typed_tree.specs.declared.program.Program.{Program}
use Rattle.typing_rules.specs.AbstractSyntax as p
use Rattle.typing_rules.specs.AbstractPrograms.{abstract}
use Rattle.typing_rules.specs.Answers.{Fault, fault as false_at}
use Rattle.typing_rules.specs.TypedTrees.{Note}
use Rattle.typing_rules.specs.Programs.{TypedAs}
use Rattle.typing_rules.proofs.OneAnswer.{program_one}
use Rattle.tree_programs.specs.Programs.{IsProgramOf}
use Rattle.mo_front.specs.declared.fault.FrontFault.{FrontFault}
use Rattle.mo_front.specs.declared.fault.FrontFault.TheVariants as fault
use Rattle.mo_front.specs.FaultNames.{name_name}
use Rattle.mo_front.specs.Places.{name_place, token_start}
use Rattle.mo_front.specs.Fronts.{Accepted, Alike, AlikeParse, HasTokens, HasTree, IsUnbound, IsUntyped, NoTree, RefusedBy, Unbound, Unparsed, Untyped}

-- ---- the layers

tokens_same : (source : List ℕ) (a b : List Token) → HasTokens source a → HasTokens source b → a ≡ b
tokens_same source a b h k = lexed_same source a b h.lexed k.lexed

no_tokens : (source : List ℕ) (a : List Token) (f : LexFault) → HasTokens source a → RefusedBy source (fault.Lex f) → ⊥
no_tokens source a f h r = lexed_or_fault source a f h.short h.lexed r

tree_same : (tokens : List Token) (a b : Tree) → HasTree tokens a → HasTree tokens b → a ≡ b
tree_same tokens a b h k = parsed.one (kinds tokens) a b h.spelled k.spelled

not_deep : (tokens : List Token) (place : ℕ) → AreShallow (length tokens) tokens → IsDeepAt place tokens → ⊥
not_deep tokens place h d =
    let within : d.number < length tokens = slice_get_within tokens d.number d.token d.there in
    let few : depth_at d.number tokens ≤ 400 = h d.number within in
    let many : 400 < depth_at d.number tokens = d.deep in
    absurd (omega (arith, few, many))

not_before : (tokens : List Token) (m n : ℕ) → AreShallow n tokens → 400 < depth_at m tokens → m < n → ⊥
not_before tokens m n h many l =
    let few : depth_at m tokens ≤ 400 = h m l in
    absurd (omega (arith, few, many))

one_number : (tokens : List Token) (p q : ℕ) (d : IsDeepAt p tokens) (e : IsDeepAt q tokens) → (d.number < e.number) ⊎ (e.number ≤ d.number) → (e.number < d.number) ⊎ (d.number ≤ e.number) → d.number ≡ e.number
one_number tokens p q d e (inl l) s = absurd (not_before tokens d.number e.number e.first d.deep l)
one_number tokens p q d e (inr l) (inl m) = absurd (not_before tokens e.number d.number d.first e.deep m)
one_number tokens p q d e (inr l) (inr m) = omega (arith, l, m)

some_same : (x y : Token) → Some x ≡ Some y → x ≡ y
some_same x y h = cc

deep_same : (tokens : List Token) (p q : ℕ) → IsDeepAt p tokens → IsDeepAt q tokens → p ≡ q
deep_same tokens p q d e =
    let n : d.number ≡ e.number = one_number tokens p q d e (cases_lt d.number e.number) (cases_lt e.number d.number) in
    let there : slice_get tokens e.number ≡ Some d.token = ap (slice_get tokens) (sym n) ∙ d.there in
    let same : d.token ≡ e.token = some_same d.token e.token (sym there ∙ e.there) in
    sym d.starts ∙ (ap (λ (t : Token). t.start) same ∙ e.starts)

no_tree : (tokens : List Token) (tree : Tree) (f : ParseFault) → HasTree tokens tree → NoTree tokens f → ⊥
no_tree tokens tree (parse.TooDeep place) h n = not_deep tokens place h.shallow n
no_tree tokens tree (parse.Syntax place) h n = n.1 tree h.spelled
no_tree tokens tree parse.Memory h n = n

one_parse : (tokens : List Token) (f g : ParseFault) → NoTree tokens f → NoTree tokens g → AlikeParse f g
one_parse tokens (parse.TooDeep p) (parse.TooDeep q) m n = ap (λ (x : ℕ). parse.TooDeep x) (deep_same tokens p q m n)
one_parse tokens (parse.TooDeep p) (parse.Syntax q) m n = absurd (not_deep tokens p n.0 m)
one_parse tokens (parse.Syntax p) (parse.TooDeep q) m n = absurd (not_deep tokens q m.0 n)
one_parse tokens (parse.Syntax p) (parse.Syntax q) m n = tt
one_parse tokens parse.Memory g m n = absurd m
one_parse tokens (parse.TooDeep p) parse.Memory m n = absurd n
one_parse tokens (parse.Syntax p) parse.Memory m n = absurd n

-- ---- names

rank_same : (a b : Rule) → rank a ≡ rank b → a ≡ b
rank_same rule.Unknown rule.Unknown h = refl
rank_same rule.Unknown rule.Twice h = absurd (omega (arith, h))
rank_same rule.Unknown rule.UsedBeforeDefined h = absurd (omega (arith, h))
rank_same rule.Unknown rule.LabelClash h = absurd (omega (arith, h))
rank_same rule.Unknown rule.Reserved h = absurd (omega (arith, h))
rank_same rule.Twice rule.Unknown h = absurd (omega (arith, h))
rank_same rule.Twice rule.Twice h = refl
rank_same rule.Twice rule.UsedBeforeDefined h = absurd (omega (arith, h))
rank_same rule.Twice rule.LabelClash h = absurd (omega (arith, h))
rank_same rule.Twice rule.Reserved h = absurd (omega (arith, h))
rank_same rule.UsedBeforeDefined rule.Unknown h = absurd (omega (arith, h))
rank_same rule.UsedBeforeDefined rule.Twice h = absurd (omega (arith, h))
rank_same rule.UsedBeforeDefined rule.UsedBeforeDefined h = refl
rank_same rule.UsedBeforeDefined rule.LabelClash h = absurd (omega (arith, h))
rank_same rule.UsedBeforeDefined rule.Reserved h = absurd (omega (arith, h))
rank_same rule.LabelClash rule.Unknown h = absurd (omega (arith, h))
rank_same rule.LabelClash rule.Twice h = absurd (omega (arith, h))
rank_same rule.LabelClash rule.UsedBeforeDefined h = absurd (omega (arith, h))
rank_same rule.LabelClash rule.LabelClash h = refl
rank_same rule.LabelClash rule.Reserved h = absurd (omega (arith, h))
rank_same rule.Reserved rule.Unknown h = absurd (omega (arith, h))
rank_same rule.Reserved rule.Twice h = absurd (omega (arith, h))
rank_same rule.Reserved rule.UsedBeforeDefined h = absurd (omega (arith, h))
rank_same rule.Reserved rule.LabelClash h = absurd (omega (arith, h))
rank_same rule.Reserved rule.Reserved h = refl

both_ways : (a b : Breach) → Comes a b → Comes b a → (a.place.start ≡ b.place.start) × (rank a.rule ≡ rank b.rule)
both_ways a b (inl l) (inl m) = absurd (omega (arith, l, m))
both_ways a b (inl l) (inr m) = let e = m.0 in absurd (omega (arith, l, e))
both_ways a b (inr l) (inl m) = let e = l.0 in absurd (omega (arith, m, e))
both_ways a b (inr l) (inr m) = let x = l.1 in let y = m.1 in (l.0, omega (arith, x, y))

place_at : (place : Place) (r : Rule) → name_place (fault_at place r) ≡ place.start
place_at place rule.Unknown = refl
place_at place rule.Twice = refl
place_at place rule.UsedBeforeDefined = refl
place_at place rule.LabelClash = refl
place_at place rule.Reserved = refl

named_at : (p q : Place) (r : Rule) → name_name (fault_at p r) ≡ name_name (fault_at q r)
named_at p q rule.Unknown = refl
named_at p q rule.Twice = refl
named_at p q rule.UsedBeforeDefined = refl
named_at p q rule.LabelClash = refl
named_at p q rule.Reserved = refl

one_unbound : (tree : Tree) (f g : NameFault) → IsUnbound tree f → IsUnbound tree g → (name_name f ≡ name_name g) × (name_place f ≡ name_place g)
one_unbound tree f g (b, e, h) (c, d, k) =
    let same : (b.place.start ≡ c.place.start) × (rank b.rule ≡ rank c.rule) = both_ways b c (h.1 c k.0) (k.1 b h.0) in
    let r : b.rule ≡ c.rule = rank_same b.rule c.rule same.1 in
    let named : name_name (fault_of b) ≡ name_name (fault_of c) = ap (λ (u : Rule). name_name (fault_at b.place u)) r ∙ named_at b.place c.place c.rule in
    let placed : name_place (fault_of b) ≡ name_place (fault_of c) = place_at b.place b.rule ∙ (same.0 ∙ sym (place_at c.place c.rule)) in
    (ap name_name e ∙ (named ∙ sym (ap name_name d)), ap name_place e ∙ (placed ∙ sym (ap name_place d)))

not_bound : (tree : Tree) (f : NameFault) → Bound tree → IsUnbound tree f → ⊥
not_bound tree f h u = h u.0 u.2.0

-- ---- types

one_untyped : (tokens : List Token) (tree : Tree) (c e : Condition) (p q : ℕ) → IsUntyped tokens tree c p → IsUntyped tokens tree e q → (c ≡ e) × (p ≡ q)
one_untyped tokens tree c e p q h k =
    let same : Err (false_at c h.number) ≡ Err (false_at e k.number) = program_one (abstract tree) (Err (false_at c h.number)) (Err (false_at e k.number)) h.refused k.refused in
    let faults : false_at c h.number ≡ false_at e k.number = cc in
    (ap (λ (f : Fault). f.condition) faults, h.place_is ∙ (ap (λ (f : Fault). token_start tokens f.place) faults ∙ sym k.place_is))

typed : (tree : Tree) (p : Program) (h : IsProgramOf tree p) → TypedAs tree h.judged
typed tree p h = record { met = h.met; by = h.comes }

typed_or_not : (tokens : List Token) (tree : Tree) (made : p.Program Note) (c : Condition) (q : ℕ) → TypedAs tree made → IsUntyped tokens tree c q → ⊥
typed_or_not tokens tree made c q h k =
    let same : Ok made ≡ Err (false_at c k.number) = program_one (abstract tree) (Ok made) (Err (false_at c k.number)) h k.refused in
    absurd (cc)

-- ---- the source

same_tree : (source : List ℕ) (a b : List Token) (x y : Tree) → HasTokens source a → HasTokens source b → HasTree a x → HasTree b y → x ≡ y
same_tree source a b x y h k m n = tree_same b x y (subst (λ (t : List Token). HasTree t x) (tokens_same source a b h k) m) n

pub one_program : (source : List ℕ) (p q : Program) (h : Accepted source p) (k : Accepted source q) → h.typed.judged ≡ k.typed.judged
one_program source p q h k =
    let t : h.tree ≡ k.tree = same_tree source h.tokens k.tokens h.tree k.tree h.lexed k.lexed h.parsed k.parsed in
    let there : TypedAs k.tree h.typed.judged = subst (λ (x : Tree). TypedAs x h.typed.judged) t (typed h.tree p h.typed) in
    let same : Ok h.typed.judged ≡ Ok k.typed.judged = program_one (abstract k.tree) (Ok h.typed.judged) (Ok k.typed.judged) there (typed k.tree q k.typed) in
    cc

pub either : (source : List ℕ) (p : Program) (f : FrontFault) → Accepted source p → RefusedBy source f → f ≡ fault.Memory
either source p (fault.Lex f) h r = absurd (no_tokens source h.tokens f h.lexed r)
either source p (fault.Parse f) h r = absurd (no_tree r.tokens h.tree f (subst (λ (t : List Token). HasTree t h.tree) (tokens_same source h.tokens r.tokens h.lexed r.lexed) h.parsed) r.none)
either source p (fault.Name f) h r = absurd (not_bound r.tree f (subst Bound (same_tree source h.tokens r.tokens h.tree r.tree h.lexed r.lexed h.parsed r.parsed) h.bound) r.unbound)
either source p (fault.Type c place) h r =
    absurd (typed_or_not r.tokens r.tree h.typed.judged c place
    (subst (λ (t : Tree). TypedAs t h.typed.judged) (same_tree source h.tokens r.tokens h.tree r.tree h.lexed r.lexed h.parsed r.parsed) (typed h.tree p h.typed)) r.untyped)
either source p fault.Memory h r = refl

module _ (source : List ℕ) where
  parse_alike : (f g : ParseFault) → Unparsed source f → Unparsed source g → AlikeParse f g
  parse_alike f g h k = one_parse k.tokens f g (subst (λ (t : List Token). NoTree t f) (tokens_same source h.tokens k.tokens h.lexed k.lexed) h.none) k.none

  parse_or_tree : (f : ParseFault) (tokens : List Token) (tree : Tree) → Unparsed source f → HasTokens source tokens → HasTree tokens tree → ⊥
  parse_or_tree f tokens tree h l t = no_tree tokens tree f t (subst (λ (u : List Token). NoTree u f) (tokens_same source h.tokens tokens h.lexed l) h.none)

  name_alike : (f g : NameFault) → Unbound source f → Unbound source g → (name_name f ≡ name_name g) × (name_place f ≡ name_place g)
  name_alike f g h k = one_unbound k.tree f g (subst (λ (t : Tree). IsUnbound t f) (same_tree source h.tokens k.tokens h.tree k.tree h.lexed k.lexed h.parsed k.parsed) h.unbound) k.unbound

  type_alike : (c e : Condition) (p q : ℕ) → Untyped source c p → Untyped source e q → (c ≡ e) × (p ≡ q)
  type_alike c e p q h k =
      one_untyped k.tokens k.tree c e p q
      (subst (λ (t : Tree). IsUntyped k.tokens t c p) (same_tree source h.tokens k.tokens h.tree k.tree h.lexed k.lexed h.parsed k.parsed)
      (subst (λ (t : List Token). IsUntyped t h.tree c p) (tokens_same source h.tokens k.tokens h.lexed k.lexed) h.untyped))
      k.untyped

  name_or_type : (f : NameFault) (c : Condition) (p : ℕ) → Unbound source f → Untyped source c p → ⊥
  name_or_type f c p h k = not_bound h.tree f (subst Bound (same_tree source k.tokens h.tokens k.tree h.tree k.lexed h.lexed k.parsed h.parsed) k.bound) h.unbound

  pub one_answer : (f g : FrontFault) → RefusedBy source f → RefusedBy source g → (f ≡ fault.Memory → ⊥) → (g ≡ fault.Memory → ⊥) → Alike f g
  one_answer (fault.Lex f) (fault.Lex g) h k m n = one_fault source f g h k
  one_answer (fault.Lex f) (fault.Parse g) h k m n = absurd (no_tokens source k.tokens f k.lexed h)
  one_answer (fault.Lex f) (fault.Name g) h k m n = absurd (no_tokens source k.tokens f k.lexed h)
  one_answer (fault.Lex f) (fault.Type c p) h k m n = absurd (no_tokens source k.tokens f k.lexed h)
  one_answer (fault.Parse f) (fault.Lex g) h k m n = absurd (no_tokens source h.tokens g h.lexed k)
  one_answer (fault.Parse f) (fault.Parse g) h k m n = parse_alike f g h k
  one_answer (fault.Parse f) (fault.Name g) h k m n = absurd (parse_or_tree f k.tokens k.tree h k.lexed k.parsed)
  one_answer (fault.Parse f) (fault.Type c p) h k m n = absurd (parse_or_tree f k.tokens k.tree h k.lexed k.parsed)
  one_answer (fault.Name f) (fault.Lex g) h k m n = absurd (no_tokens source h.tokens g h.lexed k)
  one_answer (fault.Name f) (fault.Parse g) h k m n = absurd (parse_or_tree g h.tokens h.tree k h.lexed h.parsed)
  one_answer (fault.Name f) (fault.Name g) h k m n = name_alike f g h k
  one_answer (fault.Name f) (fault.Type c p) h k m n = absurd (name_or_type f c p h k)
  one_answer (fault.Type c p) (fault.Lex g) h k m n = absurd (no_tokens source h.tokens g h.lexed k)
  one_answer (fault.Type c p) (fault.Parse g) h k m n = absurd (parse_or_tree g h.tokens h.tree k h.lexed h.parsed)
  one_answer (fault.Type c p) (fault.Name g) h k m n = absurd (name_or_type g c p k h)
  one_answer (fault.Type c p) (fault.Type e q) h k m n = type_alike c e p q h k
  one_answer fault.Memory g h k m n = absurd (m refl)
  one_answer (fault.Lex f) fault.Memory h k m n = absurd (n refl)
  one_answer (fault.Parse f) fault.Memory h k m n = absurd (n refl)
  one_answer (fault.Name f) fault.Memory h k m n = absurd (n refl)
  one_answer (fault.Type c p) fault.Memory h k m n = absurd (n refl)
