-- Types that go into messages mention no type parameters.
use Rattle.std.proofs.Common.{ℕ, zero, suc, List, [], ◌∷◌, refl}
use Rattle.mo_types.specs.declared.node.Field.{Field}
use Rattle.mo_types.specs.declared.node.Node.{Node}
use Rattle.mo_types.specs.declared.node.Node.TheVariants as node
use Rattle.mo_types.specs.declared.node.Sort.TheVariants as sort
use Rattle.mo_types.specs.Sub.{Each}
use Rattle.typed_tree.specs.Instances.{types_in, field_types, ParameterAmong, Mentions, MentionsOnly}
use Rattle.typed_tree.specs.Shareable.{IsSharedFunction, HasShareableForm, PartsShareable, Shares, IsShareable, Compares, IsComparable}
use Rattle.typed_tree.specs.Types.{IsLawfulNode}

module _ {A : Type 0} (head : A → Node A) (lawful : (t : A) → IsLawfulNode head (head t)) where
  each_all : (ts : List A) → ((k : ℕ) → Each (Shares head k) ts) → Each (IsShareable head) ts
  each_all [] h = tt
  each_all (t ∷ ts) h = (record { by = λ k. (h k).0 }, each_all ts (λ k. (h k).1))

  -- a shared function is shareable whatever it takes and gives
  form_shared : (x : Node A) → IsSharedFunction x → HasShareableForm x × ((R : A → Type 0) → PartsShareable R x)
  form_shared (node.Func s ps rs) h = (h, λ R. tt)
  form_shared x h = absurd h

  function_shares : (t : A) → IsSharedFunction (head t) → (n : ℕ) → Shares head n t
  unfolding Shares
  function_shares t h zero = tt
  function_shares t h (suc n) = let f = form_shared (head t) h in (f.0, f.1 (Shares head n))

  methods_share : (fs : List (Field A)) (P : Field A → Type 0) → Each (λ f. IsSharedFunction (head f.part) × P f) fs → Each (IsShareable head) (field_types fs)
  methods_share [] P h = tt
  methods_share (f ∷ fs) P h = (record { by = function_shares f.part h.0.0 }, methods_share fs P h.1)

  parts_of : (x : Node A) → IsLawfulNode head x → HasShareableForm x → ((k : ℕ) → PartsShareable (Shares head k) x) → ParameterAmong [] x × Each (IsShareable head) (types_in x)
  parts_of (node.Actor fs) l f h = (tt, methods_share fs _ l.2)
  parts_of (node.Func sort.Local ps rs) l f h = absurd (f refl)
  parts_of (node.Func sort.Shared ps rs) l f h = (tt, l)
  parts_of (node.Func sort.Query ps rs) l f h = (tt, l)
  parts_of (node.Variable v b) l f h = absurd f
  parts_of (node.Opt a) l f h = (tt, each_all (a ∷ []) h)
  parts_of (node.Array a) l f h = (tt, each_all (a ∷ []) h)
  parts_of (node.MutArray a) l f h = absurd f
  parts_of (node.Tuple ts) l f h = (tt, each_all ts h)
  parts_of (node.Object fs) l f h = (tt, each_all (field_types fs) h)
  parts_of (node.Variant fs) l f h = (tt, each_all (field_types fs) h)
  parts_of (node.Async a) l f h = absurd f
  parts_of x l f h = (tt, tt)

  pub parts_shareable : (t : A) → IsShareable head t → ParameterAmong [] (head t) × Each (IsShareable head) (types_in (head t))
  unfolding Shares
  parts_shareable t s = parts_of (head t) (lawful t) (s.by 1).0 (λ k. (s.by (suc k)).1)

  each_mention : (n : ℕ) → ((t : A) → IsShareable head t → Mentions head [] n t) → (ts : List A) → Each (IsShareable head) ts → Each (Mentions head [] n) ts
  each_mention n go [] h = tt
  each_mention n go (t ∷ ts) h = (go t h.0, each_mention n go ts h.1)

  mention : (n : ℕ) (t : A) → IsShareable head t → Mentions head [] n t
  unfolding Mentions
  mention zero t s = tt
  mention (suc n) t s = let p = parts_shareable t s in (p.0, each_mention n (mention n) (types_in (head t)) p.1)

  pub shareable_constant : (t : A) → IsShareable head t → MentionsOnly head [] t
  shareable_constant t s = record { by = λ n. mention n t s }

module _ {A : Type 0} (head : A → Node A) where
  each_shares : (n : ℕ) → ((t : A) → Compares head n t → Shares head n t) → (ts : List A) → Each (Compares head n) ts → Each (Shares head n) ts
  each_shares n go [] h = tt
  each_shares n go (t ∷ ts) h = (go t h.0, each_shares n go ts h.1)

  parts_share : (n : ℕ) → ((t : A) → Compares head n t → Shares head n t) → (x : Node A) → PartsShareable (Compares head n) x → PartsShareable (Shares head n) x
  parts_share n go (node.Actor fs) h = tt
  parts_share n go (node.Func s ps rs) h = tt
  parts_share n go (node.Opt a) h = each_shares n go (a ∷ []) h
  parts_share n go (node.Array a) h = each_shares n go (a ∷ []) h
  parts_share n go (node.MutArray a) h = each_shares n go (a ∷ []) h
  parts_share n go (node.Tuple ts) h = each_shares n go ts h
  parts_share n go (node.Object fs) h = each_shares n go (field_types fs) h
  parts_share n go (node.Variant fs) h = each_shares n go (field_types fs) h
  parts_share n go (node.Async a) h = each_shares n go (a ∷ []) h
  parts_share n go (node.Variable v b) h = each_shares n go (b ∷ []) h
  parts_share n go x h = tt

  shares : (n : ℕ) (t : A) → Compares head n t → Shares head n t
  unfolding Shares Compares
  shares zero t h = tt
  shares (suc n) t h = (h.0, parts_share n (shares n) (head t) h.2)

  pub comparable_shareable : (t : A) → IsComparable head t → IsShareable head t
  comparable_shareable t c = record { by = λ n. shares n t (c.by n) }
