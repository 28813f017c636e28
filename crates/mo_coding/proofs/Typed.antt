-- Which values are of some types is decided.
use Rattle.std.proofs.Common.{◌≡◌, ℕ, ◌<◌, ◌≤◌, inl, inr, Bool, true, false, ◌&&◌, List, [], ◌∷◌, length, Decides, refl, sym, ◌∙◌, arith}
use Rattle.std.specs.Prelude.{nat_lt, nat_le, ◌≢◌}
use Rattle.std.specs.Str.{is_utf8}
use Rattle.std.specs.Cmp.{unsigned_Decides}
use Rattle.std.proofs.lemmas.Bool.Decides.{Decides-ltb, leb_tells}
use Rattle.mo_num.specs.Kinds.{least, greatest}
use Rattle.mo_types.specs.declared.datum.Datum.{Datum}
use Rattle.mo_types.specs.declared.datum.Datum.TheVariants as part
use Rattle.mo_types.specs.declared.node.Node.{Node}
use Rattle.mo_types.specs.declared.node.Node.TheVariants as node
use Rattle.mo_types.specs.declared.node.Sort.{Sort}
use Rattle.mo_types.specs.declared.node.Sort.TheVariants as sort
use Rattle.mo_types.specs.Values.{Values, Nil, Value, inside, IsPartOf, IsScalar, HaveTypes, is_method_name}
use Rattle.mo_values.specs.Parts.{is_scalar, is_principal, is_shared}
use Rattle.mo_coding.specs.Keeping.{is_part_of, have_types}
use Rattle.mo_coding.proofs.Truths.{both_true, true_both, or_either, or_left, or_right}
use Rattle.mo_coding.proofs.Pieces.{between_decides}

le_decides : (a b : ℕ) → Decides (nat_le a b) (a ≤ b)
le_decides a b = elim (leb_tells a b) [ inl h ↦ (λ e. h.1, λ l. h.0) | inr h ↦ ((λ e. absurd (let f : true ≡ false = sym e ∙ h.0 in cc)), λ l. absurd (let m = h.1 in omega (arith, l, m))) ]

both_decide : {b c : Bool} {P Q : Type 0} → Decides b P → Decides c Q → Decides (b && c) (P × Q)
both_decide {b} {c} d e = (λ h. let t = both_true b c h in (d.0 t.0, e.0 t.1), λ h. true_both b c (d.1 h.0) (e.1 h.1))

scalar_decides : (c : ℕ) → Decides (is_scalar c) (IsScalar c)
scalar_decides c = (to, from) where
  upper : Decides (nat_le 57344 c && nat_lt c 1114112) ((57344 ≤ c) × (c < 1114112))
  upper = both_decide (le_decides 57344 c) (Decides-ltb c 1114112)

  to : is_scalar c ≡ true → IsScalar c
  to e = elim (or_either (nat_lt c 55296) (nat_le 57344 c && nat_lt c 1114112) e) [ inl h ↦ inl ((Decides-ltb c 55296).0 h) | inr h ↦ inr (upper.0 h) ]

  from : IsScalar c → is_scalar c ≡ true
  from (inl h) = or_left (nat_lt c 55296) (nat_le 57344 c && nat_lt c 1114112) ((Decides-ltb c 55296).1 h)
  from (inr h) = or_right (nat_lt c 55296) (nat_le 57344 c && nat_lt c 1114112) (upper.1 h)

shared_decides : (s : Sort) → Decides (is_shared s) (s ≢ sort.Local)
shared_decides sort.Local = (λ e. cc, λ h. absurd (h refl))
shared_decides sort.Shared = (λ e h. cc, λ h. refl)
shared_decides sort.Query = (λ e h. cc, λ h. refl)

yes : Decides true (Unit {0})
yes = (λ e. tt, λ h. refl)

true_decides : (b : Bool) → Decides b (b ≡ true)
true_decides b = (λ e. e, λ e. e)

method_decides : (s : Sort) (p name : List ℕ) → Decides (is_shared s && is_principal p && is_method_name name) ((s ≢ sort.Local) × (length p ≤ 29) × (is_method_name name ≡ true))
method_decides s p name = (to, from) where
  first : Decides (is_shared s && is_principal p) ((s ≢ sort.Local) × (length p ≤ 29))
  first = both_decide (shared_decides s) (le_decides (length p) 29)

  to : (is_shared s && is_principal p && is_method_name name) ≡ true → (s ≢ sort.Local) × (length p ≤ 29) × (is_method_name name ≡ true)
  to e = let t = both_true (is_shared s && is_principal p) (is_method_name name) e in let u = first.0 t.0 in (u.0, u.1, t.1)

  from : (s ≢ sort.Local) × (length p ≤ 29) × (is_method_name name ≡ true) → (is_shared s && is_principal p && is_method_name name) ≡ true
  from h = true_both (is_shared s && is_principal p) (is_method_name name) (first.1 (h.0, h.1)) h.2

part_decides : {A : Type 0} (n : Node A) (p : Datum) → Decides (is_part_of n p) (IsPartOf n p)
part_decides (node.Number k) (part.Number n) = between_decides (least k) (greatest k) n
part_decides node.Bool (part.Flag b) = yes
part_decides node.Char (part.Char c) = scalar_decides c
part_decides node.Text (part.Text t) = true_decides (is_utf8 t)
part_decides node.Blob (part.Blob t) = yes
part_decides node.Principal (part.Principal p) = le_decides (length p) 29
part_decides node.Null part.Null = yes
part_decides node.Any (part.Record n) = unsigned_Decides n 0
part_decides (node.Opt a) part.Null = yes
part_decides (node.Opt a) part.Present = yes
part_decides (node.Array a) (part.Many n) = yes
part_decides (node.Tuple ts) (part.Record n) = unsigned_Decides n (length ts)
part_decides (node.Object fs) (part.Record n) = unsigned_Decides n (length fs)
part_decides (node.Actor fs) (part.Actor p) = le_decides (length p) 29
part_decides (node.Variant fs) (part.Tag i) = Decides-ltb i (length fs)
part_decides (node.Func s ps rs) (part.Method p name) = method_decides s p name
part_decides n p = (λ e. cc, λ h. absurd h)

pub types_decide : {A : Type 0} (head : A → Node A) (w : Values) (ts : List A) → Decides (have_types head ts w) (HaveTypes head ts w)
types_decide head Nil [] = (λ e. tt, λ h. refl)
types_decide head Nil (t ∷ ts) = (λ e. cc, λ h. absurd h)
types_decide head (Value p i o) [] = (λ e. cc, λ h. absurd h)
types_decide head (Value p i o) (t ∷ ts) = let d = both_decide (part_decides (head t) p) (both_decide (types_decide head i (inside (head t) p)) (types_decide head o ts)) in
    (λ e. let h = d.0 e in (h.0, h.1.0, h.1.1), λ h. d.1 (h.0, (h.1, h.2)))
