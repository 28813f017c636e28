-- What is computed is whether the rules hold.
use Rattle.std.proofs.Common.{◌≡◌, inl, inr, ◌⊎◌, ℕ, zero, suc, Bool, true, false, ◌&&◌, ◌||◌, List, [], ◌∷◌, Option, Some, None, refl, ap, nat_eq}
use Rattle.std.specs.Bool.{Decides}
use Rattle.std.specs.Cmp.{unsigned_Decides}
use Rattle.mo_num.specs.declared.kind.Kind.{Kind}
use Rattle.mo_num.specs.declared.kind.Kind.TheVariants as kind
use Rattle.mo_types.specs.declared.node.Node.{Node}
use Rattle.mo_types.specs.declared.node.Node.TheVariants as node
use Rattle.mo_types.specs.declared.node.Field.{Field}
use Rattle.mo_types.specs.declared.node.Sort.{Sort}
use Rattle.mo_types.specs.Layout.{kind_number, sort_number}
use Rattle.mo_types.specs.Same.{kind_same, sort_same}
use Rattle.mo_types.specs.Heads.{number_of, is_bool, is_char, is_text, is_blob, is_principal, is_error, is_null, is_any, opt_of, array_of, mut_array_of, tuple_of, object_of, actor_of, variant_of, func_of, async_of, variable_of}
use Rattle.mo_types.specs.Sub.{AtSome, IsSomething, Unless, Each, Pairwise, find, NumberBelow, Sub, NodeBelow, HeadBelow, FieldsBelow, TagsBelow, Fitting, VariableBelow}
use Rattle.subtype_laws.specs.Decided.{some_holds, all_hold, same_kind, kind_below, parts_below, field_fits, fields_below, tags_below, function_below, variable_below, head_below, node_below, is_below}

both : {P Q : Type 0} (b c : Bool) → Decides b P → Decides c Q → Decides (b && c) (P × Q)
both true c d e = (λ h. (d.0 refl, e.0 h), λ h. e.1 h.1)
both false c d e = (λ h. cc, λ h. d.1 h.0)

either : {P Q : Type 0} (b c : Bool) → Decides b P → Decides c Q → Decides (b || c) (P ⊎ Q)
either true c d e = (λ h. inl (d.0 refl), λ h. refl)
either {P} {Q} false c d e = (λ h. inr (e.0 h), back) where
  back : P ⊎ Q → c ≡ true
  back (inl p) = let f : false ≡ true = d.1 p in cc
  back (inr q) = e.1 q

three : {P Q R : Type 0} (a b c : Bool) → Decides a P → Decides b Q → Decides c R → Decides (a && (b && c)) (P × Q × R)
three {P} {Q} {R} a b c d e f = (λ h. let k = w.0 h in (k.0, k.1.0, k.1.1), λ h. w.1 (h.0, (h.1, h.2))) where
  w : Decides (a && (b && c)) (P × (Q × R))
  w = both a (b && c) d (both b c e f)

always : {P : Type 0} → P → Decides true P
always p = (λ h. p, λ h. refl)

never : Decides false ⊥
never = (λ h. cc, λ h. absurd h)

itself : (b : Bool) → Decides b (b ≡ true)
itself b = (λ h. h, λ h. h)

some_decides : {X : Type 0} (o : Option X) (p : X → Bool) (P : X → Type 0) → ((x : X) → Decides (p x) (P x)) → Decides (some_holds o p) (AtSome o P)
some_decides None p P d = never
some_decides (Some x) p P d = d x

something : {X : Type 0} (o : Option X) → Decides (some_holds o (λ x. true)) (IsSomething o)
something None = never
something (Some x) = always tt

each_decides : {X : Type 0} (xs : List X) (p : X → Bool) (P : X → Type 0) → ((x : X) → Decides (p x) (P x)) → Decides (all_hold p xs) (Each P xs)
each_decides [] p P d = always tt
each_decides (x ∷ xs) p P d = both (p x) (all_hold p xs) (d x) (each_decides xs p P d)

kinds : (k j : Kind) → Decides (same_kind k j) (k ≡ j)
kinds k j = (λ h. kind_same k j ((unsigned_Decides (kind_number k) (kind_number j)).0 h), λ e. (unsigned_Decides (kind_number k) (kind_number j)).1 (ap kind_number e))

numbers : (k j : Kind) → Decides (kind_below k j) (NumberBelow k j)
numbers k j = either (same_kind k j) (nat_eq (kind_number k) 0 && nat_eq (kind_number j) 1) (kinds k j) (both (nat_eq (kind_number k) 0) (nat_eq (kind_number j) 1) (kinds k kind.Nat) (kinds j kind.Int))

sorts : (s r : Sort) → Decides (nat_eq (sort_number s) (sort_number r)) (s ≡ r)
sorts s r = (λ h. sort_same s r ((unsigned_Decides (sort_number s) (sort_number r)).0 h), λ e. (unsigned_Decides (sort_number s) (sort_number r)).1 (ap sort_number e))

module _ {A : Type 0} (below : A → A → Bool) (R : A → A → Type 0) (d : (t u : A) → Decides (below t u) (R t u)) where
  parts : (ts us : List A) → Decides (parts_below below ts us) (Pairwise R ts us)
  parts [] [] = always tt
  parts [] (u ∷ us) = never
  parts (t ∷ ts) [] = never
  parts (t ∷ ts) (u ∷ us) = both (below t u) (parts_below below ts us) (d t u) (parts ts us)

  fits : (f g : Field A) (m n : Bool) → Decides (field_fits below f g m n) (Fitting R f g m n)
  fits f g true true = both (below f.part g.part) (below g.part f.part) (d f.part g.part) (d g.part f.part)
  fits f g false false = d f.part g.part
  fits f g true false = never
  fits f g false true = never

  fields : (fs gs : List (Field A)) → Decides (fields_below below fs gs) (FieldsBelow R fs gs)
  fields fs gs = each_decides gs _ _ (λ g. some_decides (find g.label fs) _ _ (λ f. fits f g f.mutable g.mutable))

  tags : (fs gs : List (Field A)) → Decides (tags_below below fs gs) (TagsBelow R fs gs)
  tags fs gs = each_decides fs _ _ (λ f. some_decides (find f.label gs) _ _ (λ g. d f.part g.part))

  functions : (s : Sort) (ps rs : List A) (q : Sort × List A × List A) → Decides (function_below below s ps rs q) ((s ≡ q.0) × Pairwise R q.1 ps × Pairwise R rs q.2)
  functions s ps rs q = three (nat_eq (sort_number s) (sort_number q.0)) (parts_below below q.1 ps) (parts_below below rs q.2) (sorts s q.0) (parts q.1 ps) (parts rs q.2)

  unless : (b : Bool) (t u : A) → Decides (b || below t u) (Unless b (R t u))
  unless true t u = always tt
  unless false t u = d t u

  variables : (b u : A) (o : Option ℕ) (v : ℕ) → Decides (variable_below below b u o v) (VariableBelow R b u o v)
  variables b u None v = d b u
  variables b u (Some w) v = unless (nat_eq v w) b u

  heads : (u : A) (x y : Node A) → Decides (head_below below u x y) (HeadBelow R u x y)
  heads u (node.Number k) y = some_decides (number_of y) (kind_below k) (NumberBelow k) (numbers k)
  heads u node.Bool y = itself (is_bool y)
  heads u node.Char y = itself (is_char y)
  heads u node.Text y = itself (is_text y)
  heads u node.Blob y = itself (is_blob y)
  heads u node.Principal y = itself (is_principal y)
  heads u node.Error y = itself (is_error y)
  heads u node.Null y = either (is_null y) (some_holds (opt_of y) (λ b. true)) (itself (is_null y)) (something (opt_of y))
  heads u node.Any y = never
  heads u node.Bottom y = always tt
  heads u (node.Opt a) y = some_decides (opt_of y) (λ b. below a b) (λ b. R a b) (λ b. d a b)
  heads u (node.Array a) y = some_decides (array_of y) (λ b. below a b) (λ b. R a b) (λ b. d a b)
  heads u (node.MutArray a) y = some_decides (mut_array_of y) (λ b. below a b && below b a) (λ b. R a b × R b a) (λ b. both (below a b) (below b a) (d a b) (d b a))
  heads u (node.Tuple ts) y = some_decides (tuple_of y) (parts_below below ts) (Pairwise R ts) (parts ts)
  heads u (node.Object fs) y = some_decides (object_of y) (fields_below below fs) (FieldsBelow R fs) (fields fs)
  heads u (node.Actor fs) y = some_decides (actor_of y) (fields_below below fs) (FieldsBelow R fs) (fields fs)
  heads u (node.Variant fs) y = some_decides (variant_of y) (tags_below below fs) (TagsBelow R fs) (tags fs)
  heads u (node.Func s ps rs) y = some_decides (func_of y) (function_below below s ps rs) (λ q. (s ≡ q.0) × Pairwise R q.1 ps × Pairwise R rs q.2) (functions s ps rs)
  heads u (node.Async a) y = some_decides (async_of y) (λ b. below a b) (λ b. R a b) (λ b. d a b)
  heads u (node.Variable v b) y = variables b u (variable_of y) v

  nodes : (u : A) (x y : Node A) → Decides (node_below below u x y) (NodeBelow R u x y)
  nodes u x y = either (is_any y) (head_below below u x y) (itself (is_any y)) (heads u x y)

pub decides : {A : Type 0} (head : A → Node A) (n : ℕ) (t u : A) → Decides (is_below head n t u) (Sub head n t u)
unfolding Sub
decides head zero t u = always tt
decides head (suc n) t u = nodes (is_below head n) (Sub head n) (decides head n) u (head t) (head u)
