-- Whether two types are written alike, and the number of a type among several.
use Rattle.std.specs.Prelude.{ℕ, zero, suc, Bool, true, false, not, ◌&&◌, List, [], ◌∷◌, cond, nat_eq}
use Rattle.std.specs.Str.{bytes_eq}
use Rattle.mo_types.specs.declared.node.TypeId.{TypeId}
use Rattle.mo_types.specs.Layout.{kind_number, sort_number}
use Rattle.typing_rules.specs.Terms.{Term, Terms, Fields}
use Rattle.typing_rules.specs.Terms as t

abbrev pub same_flag : Bool → Bool → Bool
same_flag true b = b
same_flag false b = not b

abbrev mutual
  pub same : Term → Term → Bool
  same (t.Number k) (t.Number j) = nat_eq (kind_number k) (kind_number j)
  same t.Boolean t.Boolean = true
  same t.Character t.Character = true
  same t.Text t.Text = true
  same t.Blob t.Blob = true
  same t.Principal t.Principal = true
  same t.Error t.Error = true
  same t.Null t.Null = true
  same t.Any t.Any = true
  same t.Bottom t.Bottom = true
  same (t.Optional a) (t.Optional b) = same a b
  same (t.Array a) (t.Array b) = same a b
  same (t.MutableArray a) (t.MutableArray b) = same a b
  same (t.Tuple ts) (t.Tuple us) = each_same ts us
  same (t.Object fs) (t.Object gs) = fields_same fs gs
  same (t.Actor fs) (t.Actor gs) = fields_same fs gs
  same (t.Variant fs) (t.Variant gs) = fields_same fs gs
  same (t.Function ps r) (t.Function qs s) = each_same ps qs && same r s
  same (t.Shared o ps r) (t.Shared c qs s) = nat_eq (sort_number o) (sort_number c) && (each_same ps qs && same r s)
  same (t.Async a) (t.Async b) = same a b
  same (t.Parameter n) (t.Parameter m) = nat_eq n m
  same (t.Use n ts) (t.Use m us) = nat_eq n m && each_same ts us
  same _ _ = false

  pub each_same : Terms → Terms → Bool
  each_same t.Nil t.Nil = true
  each_same (t.Cons a ts) (t.Cons b us) = same a b && each_same ts us
  each_same _ _ = false

  pub fields_same : Fields → Fields → Bool
  fields_same t.NoFields t.NoFields = true
  fields_same (t.WithField l m a fs) (t.WithField k n b gs) = bytes_eq l k && (same_flag m n && (same a b && fields_same fs gs))
  fields_same _ _ = false

abbrev pub place_from : ℕ → List Term → Term → ℕ
place_from n [] u = n
place_from n (v ∷ vs) u = cond (same v u) n (place_from (suc n) vs u)

-- the type of a graph that has these, each under the number of its place
abbrev pub number_in : List Term → Term → TypeId
number_in terms u = record { index = place_from zero terms u }
