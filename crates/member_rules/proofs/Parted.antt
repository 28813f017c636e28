-- The rules of parts of tuples and of elements of arrays.
use Rattle.std.proofs.Common.{◌≡◌, ℕ, List, Ok, Err, Some, None, slice_get}
use Rattle.std.specs.Prelude.{Result}
use Rattle.std.specs.Result.{IsErr, IsErrAnd}
use Rattle.mo_types.specs.Heads.{tuple_of}
use Rattle.type_terms.specs.declared.form.TermId.{TermId}
use Rattle.typing_rules.specs.declared.condition.Condition.TheVariants as condition
use Rattle.typing_rules.specs.AbstractSyntax.{Expression}
use Rattle.typing_rules.specs.AbstractSyntax as p
use Rattle.typing_rules.specs.Ends.{Has}
use Rattle.typing_rules.specs.Expressions.{element_of}
use Rattle.typing_rules.specs.Heads.{members_head}
use Rattle.typing_rules.specs.Judgements.{Judgement, Part, Given as IsGiven}
use Rattle.typing_rules.specs.Terms.{Term, nat}
use Rattle.typing_rules.specs.TypedTrees.{Typed, type_of}
use Rattle.type_definitions.specs.Definitions.{rules_in}
use Rattle.type_definitions.specs.Meanings.{term}
use Rattle.type_judgements.specs.declared.refusal.Refusal.{Refusal}
use Rattle.type_judgements.specs.declared.refusal.Refusal.TheVariants as refusal
use Rattle.value_scopes.specs.declared.scopes.Scopes.{Scopes}
use Rattle.judging.specs.declared.checker.Checker.{Checker}
use Rattle.judging.specs.declared.site.Site.{Site}
use Rattle.judging.specs.Views.{View, definitions, judge, judge_at, rule, wanted_in, typed_in, kind_reached}
use Rattle.judging.proofs.Chains.{seen_as}
use Rattle.judging.proofs.TypedParts.{Given, Comes, part_given, part_refused}
use Rattle.member_heads.specs.Members.{MembersHave, part_at}
use Rattle.member_heads.proofs.ByMembers.{by_members, member_given, no_member, two_given}

-- `a.n`
module _ (x : Site) (a : Expression ℕ) (n : ℕ) (c d : Scopes) (k l : Checker) where
  abbrev of_tuple : View → Judgement Typed
  of_tuple v = judge x.place a None v

  abbrev is_part : View → Typed → Term → Judgement Typed
  is_part v b u = Has x.at (wanted_in v x.wanted) u (p.Projection b n)

  abbrev projects : View → Typed → Judgement Typed
  projects v b = IsGiven condition.NotTuple x.at (tuple_of (members_head (definitions v) (type_of b))) (λ us. IsGiven condition.NotTuple x.at (slice_get us n) (is_part v b))

  pub no_tuple_judged : (e : Refusal) (r : Result Given Refusal) → IsErr r × IsErrAnd r (λ y. y ≡ e) → Comes of_tuple c k d l (Err e) → Comes (rule x (p.Projection a n)) c k d l r
  no_tuple_judged e r h i = part_refused of_tuple projects c d k l e r h i

  module _ (g : Given) (h : Comes of_tuple c k d l (Ok g)) where
    projected : (e : Scopes) (m : Checker) (r : Result Given Refusal) → Comes (by_members (part_at n) condition.NotTuple x.at g (λ v. is_part v (typed_in g v.later)) d l) d l e m r → Comes (rule x (p.Projection a n)) c k e m r
    projected e m r i =
        part_given of_tuple projects c d e k l m g r h
        (seen_as typed_in kind_reached (λ v. projects v (typed_in g v.later)) (by_members (part_at n) condition.NotTuple x.at g (λ v. is_part v (typed_in g v.later)) d l) d e l m r
        (λ later w. two_given condition.NotTuple x.at (λ (us : List Term). slice_get us n) (tuple_of (members_head (rules_in later l.types.listed) (type_of (typed_in g later))))
        (is_part (record { later = later; listed = l.types.listed; scopes = d }) (typed_in g later))) i)

    pub part_found : (kind : TermId) (e : Scopes) (m : Checker) (r : Result Given Refusal) → MembersHave (part_at n) l.types g.note.kind (λ later. Some (term later kind))
        → Comes (λ v. Has x.at (wanted_in v x.wanted) (term v.later kind) (p.Projection (typed_in g v.later) n)) d l e m r → Comes (rule x (p.Projection a n)) c k e m r
    part_found kind e m r f i =
        projected e m r (member_given (part_at n) condition.NotTuple x.at g (λ v. is_part v (typed_in g v.later)) d l (λ later. term later kind) f e m r i)

    pub no_part : MembersHave (part_at n) l.types g.note.kind (λ later. None) → Comes (rule x (p.Projection a n)) c k d l (Err (refusal.False x.at condition.NotTuple))
    no_part f = projected d l (Err (refusal.False x.at condition.NotTuple)) (no_member (part_at n) condition.NotTuple x.at g (λ v. is_part v (typed_in g v.later)) d l f)

-- `a[i]`
module _ (x : Site) (a i : Expression ℕ) (c d : Scopes) (k l : Checker) where
  abbrev of_array : View → Judgement Typed
  of_array v = judge x.place a None v

  abbrev at_place : View → Judgement Typed
  at_place v = judge_at x.place i (Some nat) v

  abbrev is_element : View → Typed → Term → Typed → Judgement Typed
  is_element v b u j = Has x.at (wanted_in v x.wanted) u (p.Index b j)

  abbrev indexed : View → Typed → Term → Judgement Typed
  indexed v b u = Part (at_place v) (is_element v b u)

  abbrev indexes : View → Typed → Judgement Typed
  indexes v b = IsGiven condition.NotArray x.at (element_of (members_head (definitions v) (type_of b))) (indexed v b)

  pub no_array_judged : (e : Refusal) (r : Result Given Refusal) → IsErr r × IsErrAnd r (λ y. y ≡ e) → Comes of_array c k d l (Err e) → Comes (rule x (p.Index a i)) c k d l r
  no_array_judged e r h j = part_refused of_array indexes c d k l e r h j

  module _ (g : Given) (h : Comes of_array c k d l (Ok g)) where
    pub no_elements : MembersHave element_of l.types g.note.kind (λ later. None) → Comes (rule x (p.Index a i)) c k d l (Err (refusal.False x.at condition.NotArray))
    no_elements f =
        part_given of_array indexes c d d k l l g (Err (refusal.False x.at condition.NotArray)) h (no_member element_of condition.NotArray x.at g (λ v. indexed v (typed_in g v.later)) d l f)

    module _ (kind : TermId) (f : MembersHave element_of l.types g.note.kind (λ later. Some (term later kind))) where
      with_element : (e : Scopes) (m : Checker) (r : Result Given Refusal) → Comes (λ v. indexed v (typed_in g v.later) (term v.later kind)) d l e m r → Comes (rule x (p.Index a i)) c k e m r
      with_element e m r j =
          part_given of_array indexes c d e k l m g r h
          (member_given element_of condition.NotArray x.at g (λ v. indexed v (typed_in g v.later)) d l (λ later. term later kind) f e m r j)

      pub no_place : (e : Scopes) (m : Checker) (q : Refusal) (r : Result Given Refusal) → IsErr r × IsErrAnd r (λ y. y ≡ q) → Comes at_place d l e m (Err q) → Comes (rule x (p.Index a i)) c k e m r
      no_place e m q r j o = with_element e m r (part_refused at_place (λ v. is_element v (typed_in g v.later) (term v.later kind)) d e l m q r j o)

      pub element_found : (e s : Scopes) (m n : Checker) (b : Given) (r : Result Given Refusal) → Comes at_place d l e m (Ok b)
          → Comes (λ v. Has x.at (wanted_in v x.wanted) (term v.later kind) (p.Index (typed_in g v.later) (typed_in b v.later))) e m s n r → Comes (rule x (p.Index a i)) c k s n r
      element_found e s m n b r j o = with_element s n r (part_given at_place (λ v. is_element v (typed_in g v.later) (term v.later kind)) d e s l m n b r j o)
