-- Types that are shareable, and those of shared functions.
use Rattle.std.proofs.Common.{◌≡◌, ℕ, Bool, true, false, List, [], ◌∷◌, Err, inl, inr, refl, sym, ap, ◌∙◌, subst, map}
use Rattle.std.proofs.Math.Path.{fun_ext}
use Rattle.std.specs.Prelude.{Result}
use Rattle.std.specs.Result.{IsErr, IsErrAnd}
use Rattle.mo_types.specs.declared.node.Node.{Node}
use Rattle.mo_types.specs.declared.node.Node.TheVariants as node
use Rattle.mo_types.specs.declared.node.Sort.{Sort}
use Rattle.mo_types.specs.declared.node.Sort.TheVariants as sort
use Rattle.mo_subtype.specs.Renamed.{on_node}
use Rattle.typed_tree.specs.Shareable as share
use Rattle.type_terms.specs.declared.form.Form.{Form}
use Rattle.type_terms.specs.declared.form.TermId.{TermId}
use Rattle.typing_rules.specs.declared.condition.Condition.TheVariants as condition
use Rattle.typing_rules.specs.AbstractSyntax.{TypeNode}
use Rattle.typing_rules.specs.AbstractTypes.{type_nodes}
use Rattle.typing_rules.specs.Terms.{Term, listed}
use Rattle.typing_rules.specs.Heads.{head}
use Rattle.typing_rules.specs.Judgements.{Judgement, Asks, Part, Tests, Needs, NeedsEach, IsShareable, Fine}
use Rattle.typing_rules.specs.Answers.{fault}
use Rattle.typing_rules.specs.TypeScopes.{TypeScope, terms}
use Rattle.typing_rules.specs.TypeScopes as rules
use Rattle.typing_rules.specs.Types.{AllShareable, is_shared_function}
use Rattle.type_definitions.specs.Meanings.{term}
use Rattle.type_definitions.specs.Tables.{Later, Makes}
use Rattle.type_definitions.specs.Heads.{MakesNode, IsHeadOf}
use Rattle.type_definitions.specs.Definitions.{Listed, rules_in}
use Rattle.type_definitions.proofs.Meanings.{later_on}
use Rattle.met_types.specs.States.{State, IsSo}
use Rattle.definition_rules.specs.Bounds.{Same}
use Rattle.definition_rules.proofs.Promoting.{same_on}
use Rattle.shareable_types.specs.declared.sharing.Sharing.{Sharing}
use Rattle.shareable_types.specs.Answers.{IsAnswer}
use Rattle.shareable_types.specs.Shared.{IsAs}
use Rattle.abstract_types.specs.declared.types.TypeNode as value
use Rattle.abstract_types.specs.TypeView.{type_node}
use Rattle.written_types.specs.Written.{Is}
use Rattle.type_judgements.specs.declared.refusal.Refusal.{Refusal}
use Rattle.proper_types.specs.Passing.{Ready, Passed, Refused, Judges}
use Rattle.proper_types.specs.Rules.{InTurn, Sent, sent, each_sent, method, done}
use Rattle.proper_types.proofs.Judging.{failed, given, handed, left_there, then_judges, first_judges}
use Rattle.proper_types.proofs.Turns.{turns}

-- ---- a question

-- whether the type that is written is shareable, in each later table
answered : (old mid : State) (s : TypeScope) (n : TypeNode) (id : TermId) (a : Bool) (is : Bool) → Makes old.forms (Is (rules.term s n) id) id mid.forms → a ≡ true → IsAnswer a mid id is
    → (later : List Form) → Later mid.forms later → IsSo is (share.IsShareable (head (rules_in later mid.listed)) (rules.term s n))
answered old mid s n id a is m e h later l =
    subst (λ (u : Term). IsSo is (share.IsShareable (head (rules_in later mid.listed)) u)) (m.is later l)
    (subst (λ (b : Bool). IsSo is (IsAs b (head (rules_in later mid.listed)) (term later id))) e (h later l))

module _ (old mid : State) (s : TypeScope) (at : ℕ) (n : TypeNode) (id : TermId) (a : Bool) (c : Sharing) (same : Same old mid) (m : Makes old.forms (Is (rules.term s n) id) id mid.forms) (e : a ≡ true) where
  pub is_sent : Ready mid c → IsAnswer a mid id true → Passed (sent s at n old.listed) old mid c (done tt)
  is_sent ready h = record {
    ready = ready;
    goes = same.goes;
    gave = record { by = λ met st later l. (met, same.stands met st, inl (answered old mid s n id a true m e h later l, refl)) };
  }

  pub is_not_sent : IsAnswer a mid id false → Refused (sent s at n old.listed) old mid (fault condition.NotShared at)
  is_not_sent h = record {
    left = left_there old mid same.goes;
    names = record { by = λ met st later l. (met, inr (answered old mid s n id a false m e h later l, refl)) };
  }

-- ---- the types of a shared function

abbrev pub one_sent : TypeScope → ℕ → Listed → List Form → value.TypeNode → Judgement (Unit {0})
one_sent s at l later n = Sent s at (type_node n)

module _ (s : TypeScope) (at : ℕ) (a : value.TypeNode) (xs : List value.TypeNode) (old mid new : State) (b c : Sharing) where
  pub first_sent : (r : Result (Unit {0}) Refusal) → Passed (sent s at (type_node a) old.listed) old mid b (done tt) → Judges (turns (one_sent s at) xs) mid new c done r → Judges (each_sent s at a xs) old new c done r
  first_sent r p q = then_judges (sent s at (type_node a)) (λ l later u. turns (one_sent s at) xs l later) old mid new b c (done tt) done r p q

pub first_not_sent : (s : TypeScope) (at : ℕ) (a : value.TypeNode) (xs : List value.TypeNode) (old new : State) (b c : Sharing) (e : Refusal) (r : Result (Unit {0}) Refusal) → IsErr r × IsErrAnd r (λ x. x ≡ e) → Judges (sent s at (type_node a)) old new b done (Err e)
    → Judges (each_sent s at a xs) old new c done r
first_not_sent s at a xs old new b c e r h q = handed (each_sent s at a xs) old new c c done done e r h (first_judges (sent s at (type_node a)) (λ l later u. turns (one_sent s at) xs l later) old new b c done done e q)

needs_alike : (s : TypeScope) (at : ℕ) (t : Term) (ts : List Term) → Part (Needs condition.NotShared at (IsShareable t) Fine) (λ b. NeedsEach condition.NotShared at (map IsShareable ts) Fine) ≡ NeedsEach condition.NotShared at (map IsShareable (t ∷ ts)) Fine
needs_alike s at t ts = ap (Asks (IsShareable t)) (fun_ext by) where
  by : (yes : Bool) → Part (Tests condition.NotShared at yes Fine) (λ b. NeedsEach condition.NotShared at (map IsShareable ts) Fine) ≡ Tests condition.NotShared at yes (NeedsEach condition.NotShared at (map IsShareable ts) Fine)
  by true = refl
  by false = refl

all_sent : (s : TypeScope) (at : ℕ) (xs : List value.TypeNode) → InTurn (λ n. Sent s at (type_node n)) xs ≡ NeedsEach condition.NotShared at (map IsShareable (map (λ n. rules.term s (type_node n)) xs)) Fine
all_sent s at [] = refl
all_sent s at (n ∷ xs) =
    ap (λ (j : Judgement (Unit {0})). Part (Sent s at (type_node n)) (λ b. j)) (all_sent s at xs) ∙ needs_alike s at (rules.term s (type_node n)) (map (λ n. rules.term s (type_node n)) xs)

terms_are : (s : TypeScope) (xs : List value.TypeNode) → map (λ n. rules.term s (type_node n)) xs ≡ listed (terms s (type_nodes (map type_node xs)))
terms_are s [] = refl
terms_are s (n ∷ xs) = ap (λ (us : List Term). rules.term s (type_node n) ∷ us) (terms_are s xs)

pub sent_are : (s : TypeScope) (at : ℕ) (a : value.TypeNode) (xs : List value.TypeNode) → InTurn (λ n. Sent s at (type_node n)) (a ∷ xs) ≡ AllShareable at (listed (terms s (type_nodes (map type_node xs)))) (rules.term s (type_node a))
sent_are s at a xs = all_sent s at (a ∷ xs) ∙ ap (λ (us : List Term). NeedsEach condition.NotShared at (map IsShareable (rules.term s (type_node a) ∷ us)) Fine) (terms_are s xs)

-- ---- the head of a shared function's type

pub not_func : (f : TermId → Term) (x : Node TermId) → ((o : Sort) (ps rs : List TermId) → x ≡ node.Func o ps rs → ⊥) → false ≡ is_shared_function (on_node f x)
not_func f (node.Func o ps rs) h = absurd (h o ps rs refl)
not_func f (node.Variable n b) h = refl
not_func f (node.Number k) h = refl
not_func f node.Bool h = refl
not_func f node.Char h = refl
not_func f node.Text h = refl
not_func f node.Blob h = refl
not_func f node.Principal h = refl
not_func f node.Error h = refl
not_func f node.Null h = refl
not_func f node.Any h = refl
not_func f node.Bottom h = refl
not_func f (node.Opt a) h = refl
not_func f (node.Array a) h = refl
not_func f (node.MutArray a) h = refl
not_func f (node.Tuple ts) h = refl
not_func f (node.Object fs) h = refl
not_func f (node.Actor fs) h = refl
not_func f (node.Variant fs) h = refl
not_func f (node.Async a) h = refl

pub func_sent : (f : TermId → Term) (o : Sort) (ps rs : List TermId) → (o ≡ sort.Local → ⊥) → true ≡ is_shared_function (on_node f (node.Func o ps rs))
func_sent f sort.Local ps rs h = absurd (h refl)
func_sent f sort.Shared ps rs h = refl
func_sent f sort.Query ps rs h = refl

module _ (old mid new : State) (s : TypeScope) (at : ℕ) (n : TypeNode) (id : TermId) (x : Node TermId) (is : Bool) (same : Same old mid) (more : Same mid new) (m : Makes old.forms (Is (rules.term s n) id) id mid.forms)
    (h : MakesNode mid.forms (IsHeadOf mid.listed id x) x new.forms) (k : (f : TermId → Term) → is ≡ is_shared_function (on_node f x)) where
  -- what is found of the head is so in each later table
  found : (later : List Form) → Later new.forms later → Tests condition.NotShared at is Fine ≡ method s at n old.listed later
  found later l =
      ap (λ (b : Bool). Tests condition.NotShared at b Fine)
      (k (term later) ∙ (ap is_shared_function (h.is later l)
      ∙ (ap (λ (d : Listed). is_shared_function (head (rules_in later d) (term later id))) same.goes.listed
      ∙ ap (λ (u : Term). is_shared_function (head (rules_in later old.listed) u)) (m.is later (later_on mid.forms new.forms later more.goes.forms l)))))

  pub is_method : (c : Sharing) → Ready new c → is ≡ true → Passed (method s at n old.listed) old new c (done tt)
  is_method c ready e = given (method s at n old.listed) old new c (done tt) (same_on old mid new same more) ready
      (λ later l. ap (λ (b : Bool). Tests condition.NotShared at b Fine) (sym e) ∙ found later l)

  pub is_no_method : is ≡ false → Refused (method s at n old.listed) old new (fault condition.NotShared at)
  is_no_method e = failed (method s at n old.listed) old new condition.NotShared at (left_there old new (same_on old mid new same more).goes)
      (λ later l. ap (λ (b : Bool). Tests condition.NotShared at b Fine) (sym e) ∙ found later l)
