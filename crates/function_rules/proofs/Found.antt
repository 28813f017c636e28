-- The parts of the heads of functions.
use Rattle.std.proofs.Common.{◌≡◌, ◌∙◌, ℕ, true, false, nat_eq, ◌<◌, List, [], ◌∷◌, ◌++◌, length, map, slice_get, Option, Some, None, option_map, refl, sym, ap, subst, arith}
use Rattle.std.specs.Prelude.{IfSome}
use Rattle.std.specs.declared.vec.Vec.{Vec}
use Rattle.mo_types.specs.declared.node.Node.{Node}
use Rattle.mo_types.specs.declared.node.Node.TheVariants as node
use Rattle.mo_types.specs.declared.node.Sort.TheVariants as sort
use Rattle.mo_types.specs.declared.node.TypeId.{TypeId}
use Rattle.mo_types.specs.Sub.{Each}
use Rattle.mo_subtype.specs.Renamed.{on_node}
use Rattle.typed_tree.specs.Instances.{types_in}
use Rattle.type_terms.specs.declared.form.Form.{Form}
use Rattle.type_terms.specs.declared.form.TermId.{TermId}
use Rattle.typing_rules.specs.Calls.{local_of}
use Rattle.typing_rules.specs.Graphs.{term_of}
use Rattle.typing_rules.specs.Heads.{result}
use Rattle.typing_rules.specs.Terms.{Term}
use Rattle.type_definitions.specs.Meanings.{term}
use Rattle.met_types.specs.Closing.{terms_in}
use Rattle.type_definitions.specs.Tables.{Within}
use Rattle.met_types.specs.States.{State, IsNodeOf, IsReached, Kept}
use Rattle.judging.specs.Heads.{HeadHas, PartsFound, part_in}
use Rattle.judging.proofs.NodeParts.{part_is, parts_are}
use Rattle.judging.proofs.Steps.{reached_within}
use Rattle.function_rules.specs.Locals.{local_at, only, shown}

pub only_one : {A : Type 0} (xs : List A) (o : Option A) → length xs ≡ 1 → o ≡ slice_get xs 0 → o ≡ only xs
only_one [] o h e = absurd (omega (arith, h))
only_one (x ∷ []) o h e = e
only_one (x ∷ y ∷ xs) o h e = absurd (omega (arith, h))

pub not_only : {A : Type 0} (xs : List A) → nat_eq (length xs) 1 ≡ false → None ≡ only xs
not_only [] e = refl
not_only (x ∷ []) e = let z : true ≡ false = e in cc
not_only (x ∷ y ∷ xs) e = refl

abbrev mapped_at : {A : Type 0} → (A → Term) → List A × List A → List Term × Term
mapped_at f q = (map f q.0, result (map f q.1))

local_mapped : {A : Type 0} (f : A → Term) (y : Node A) → local_of (on_node f y) ≡ option_map (mapped_at f) (local_at y)
local_mapped f (node.Number k) = refl
local_mapped f node.Bool = refl
local_mapped f node.Char = refl
local_mapped f node.Text = refl
local_mapped f node.Blob = refl
local_mapped f node.Principal = refl
local_mapped f node.Error = refl
local_mapped f node.Null = refl
local_mapped f node.Any = refl
local_mapped f node.Bottom = refl
local_mapped f (node.Opt a) = refl
local_mapped f (node.Array a) = refl
local_mapped f (node.MutArray a) = refl
local_mapped f (node.Tuple ts) = refl
local_mapped f (node.Object fs) = refl
local_mapped f (node.Actor fs) = refl
local_mapped f (node.Variant fs) = refl
local_mapped f (node.Func sort.Local ps rs) = refl
local_mapped f (node.Func sort.Shared ps rs) = refl
local_mapped f (node.Func sort.Query ps rs) = refl
local_mapped f (node.Async a) = refl
local_mapped f (node.Variable v b) = refl

-- the term of the one result
result_is : (s : State) (rs : List TypeId) (of : TermId) (later : List Form) → Some of ≡ part_in s (only rs) → result (map (term_of (terms_in later s.reached)) rs) ≡ term later of
result_is s [] of later e = cc
result_is s (r ∷ []) of later e = part_is s r of later (sym e)
result_is s (r ∷ q ∷ rs) of later e = cc

module _ (s : State) (id : TermId) (n : Node TypeId) (h : IsNodeOf s id n) where
  head_is : (o : Option (List TypeId × List TypeId)) → o ≡ local_at n → HeadHas local_of s id (λ later. option_map (mapped_at (term_of (terms_in later s.reached))) o)
  head_is o e later l = ap local_of (h.is later l) ∙ (local_mapped (term_of (terms_in later s.reached)) n ∙ ap (option_map (mapped_at (term_of (terms_in later s.reached)))) (sym e))

  pub local_found : {Z : Type 0} (ps rs : List TypeId) (q : Vec TermId Z × TermId) → Some (ps, rs) ≡ local_at n → PartsFound s ps q.0.items → Some q.1 ≡ part_in s (only rs) → HeadHas local_of s id (λ later. Some (shown later q))
  local_found ps rs q e g o later l =
      head_is (Some (ps, rs)) e later l
      ∙ (ap (λ (us : List Term). Some (us, result (map (term_of (terms_in later s.reached)) rs))) (parts_are s ps q.0.items later g) ∙ ap (λ (u : Term). Some (map (term later) q.0.items, u)) (result_is s rs q.1 later o))

  pub no_local : None ≡ local_at n → HeadHas local_of s id (λ later. None)
  no_local e later l = head_is None e later l

each_front : {A : Type 0} (P : A → Type 0) (xs ys : List A) → Each P (xs ++ ys) → Each P xs
each_front P [] ys h = tt
each_front P (x ∷ xs) ys h = (h.0, each_front P xs ys h.1)

pub parameters_within : (n : ℕ) (y : Node TypeId) (ps rs : List TypeId) → Some (ps, rs) ≡ local_at y → Each (λ p. p.index < n) (types_in y) → Each (λ p. p.index < n) ps
parameters_within n (node.Func sort.Local qs ss) ps rs e h =
    let y : (ps, rs) ≡ (qs, ss) = cc in let z : ps ≡ qs = ap (λ (q : List TypeId × List TypeId). q.0) y in subst (λ (ts : List TypeId). Each (λ p. p.index < n) ts) (sym z) (each_front (λ p. p.index < n) qs ss h)
parameters_within n (node.Func sort.Shared qs ss) ps rs e h = cc
parameters_within n (node.Func sort.Query qs ss) ps rs e h = cc
parameters_within n _ ps rs e h = cc

-- the result of the type that is wanted is a term of the table
pub of_within : {Z : Type 0} (s : State) (o : Option (TermId × (Vec TermId Z × TermId))) (w : TermId) (q : Vec TermId Z × TermId) → o ≡ Some (w, q) → Kept s → IfSome o (λ r. IsReached s r.1.1) → Within s.forms q.1
of_within {Z} s o w q e k h = reached_within s q.1 k (subst (λ (z : Option (TermId × (Vec TermId Z × TermId))). IfSome z (λ r. IsReached s r.1.1)) e h)
