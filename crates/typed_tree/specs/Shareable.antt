-- Which types values that go to other actors may have (Motoko language manual, section "Shareability"), and which may be compared by `==`.
-- A stable type is a shareable one.
use Rattle.std.specs.Prelude.{◌≡◌, ◌≢◌, ℕ, zero, suc, false}
use Rattle.mo_types.specs.declared.node.Node.{Node}
use Rattle.mo_types.specs.declared.node.Node.TheVariants as node
use Rattle.mo_types.specs.declared.node.Sort.TheVariants as sort
use Rattle.mo_types.specs.Heads.{is_any, func_of}
use Rattle.mo_types.specs.Sub.{AtSome, Each}
use Rattle.typed_tree.specs.Instances.{types_in}

abbrev pub IsSharedFunction : {A : Type 0} → Node A → Type 0
IsSharedFunction x = AtSome (func_of x) (λ q. q.0 ≢ sort.Local)

-- numbers, Bool, Char, Text, Blob, Principal, Null, Any, None, actors, shared functions, and options, arrays, tuples, variants and objects without `var`
abbrev pub HasShareableForm : {A : Type 0} → Node A → Type 0
HasShareableForm node.Error = ⊥
HasShareableForm (node.MutArray a) = ⊥
HasShareableForm (node.Object fs) = Each (λ f. f.mutable ≡ false) fs
HasShareableForm (node.Func s ps rs) = s ≢ sort.Local
HasShareableForm (node.Async a) = ⊥
HasShareableForm (node.Variable v b) = ⊥
HasShareableForm _ = Unit {0}

-- of an actor or a shared function the types are those of messages, which are shareable in any case
abbrev pub PartsShareable : {A : Type 0} → (A → Type 0) → Node A → Type 0
PartsShareable R (node.Actor fs) = Unit {0}
PartsShareable R (node.Func s ps rs) = Unit {0}
PartsShareable R x = Each R (types_in x)

-- to a depth
unfoldable pub Shares : {A : Type 0} → (A → Node A) → ℕ → A → Type 0
Shares head zero t = Unit {0}
Shares head (suc n) t = HasShareableForm (head t) × PartsShareable (Shares head n) (head t)

pub record IsShareable {A : Type 0} (head : A → Node A) (t : A) : Type 0 where
  pub by : (n : ℕ) → Shares head n t

-- ---- equality: shareable types without Any

unfoldable pub Compares : {A : Type 0} → (A → Node A) → ℕ → A → Type 0
Compares head zero t = Unit {0}
Compares head (suc n) t = HasShareableForm (head t) × (is_any (head t) ≡ false) × PartsShareable (Compares head n) (head t)

pub record IsComparable {A : Type 0} (head : A → Node A) (t : A) : Type 0 where
  pub by : (n : ℕ) → Compares head n t
