-- The bytes of an outermost part tell it, with the bytes behind it.
use Rattle.std.proofs.Common.{◌≡◌, ℕ, ◌<◌, List, [], ◌++◌, Result, Ok, sym, ap, ◌∙◌, subst}
use Rattle.std.specs.Prelude.{pos}
use Rattle.std.proofs.lemmas.List.{length-map}
use Rattle.mo_types.specs.declared.datum.Datum.{Datum}
use Rattle.mo_types.specs.declared.datum.Datum.TheVariants as part
use Rattle.mo_types.specs.declared.node.Node.{Node}
use Rattle.mo_types.specs.declared.node.Node.TheVariants as node
use Rattle.mo_types.specs.declared.wire.Plain.TheVariants as plain
use Rattle.mo_types.specs.declared.wire.Wire.{Wire}
use Rattle.mo_types.specs.declared.wire.Wire.TheVariants.{Simple, Opt, Vec, Record, Variant, Func, Service}
use Rattle.mo_types.specs.declared.wire.Ref.{Ref}
use Rattle.mo_types.specs.declared.wire.Ref.TheVariants.{Of, Just}
use Rattle.mo_types.specs.Wire.{map_entry, map_wire, wire_of_node}
use Rattle.mo_types.specs.Values.{IsPartOf}
use Rattle.mo_types.specs.Spelling.{padded, IsString, IsWirePart}
use Rattle.candid_header.specs.declared.fault.Fault.{Fault}
use Rattle.candid_header.specs.declared.fault.Fault.TheVariants.{BadValue}
use Rattle.candid_header.specs.Reading.{string_at}
use Rattle.exact_reading.proofs.Exact.{ok_is}
use Rattle.candid_header.proofs.Lists.{string_exact}
use Rattle.candid_read.specs.Parts.{part_by}
use Rattle.candid_read.specs.Whole.{IsAllowed}
use Rattle.candid_read.proofs.Heads.{shape_exact}
use Rattle.candid_forms.specs.Forms.{IsSpelledBy, IsPartAt}

pub front_first : {X : Type 0} (p q : X) (x y : List ℕ) (r : Result (X × List ℕ) Fault) → r ≡ Ok (p, x) → r ≡ Ok (q, y) → (p ≡ q) × (x ≡ y)
front_first {X} p q x y r e f =
    let g = ok_is (p, x) (q, y) (sym e ∙ f) in
    (ap (λ (z : X × List ℕ). z.0) g, ap (λ (z : X × List ℕ). z.1) g)

module _ {B : Type 0} (Allowed : ℕ → B → Type 0) where
  abbrev zeros : B → ℕ
  zeros b = 0

  abbrev shape : Wire B → Wire ℕ
  shape w = map_wire zeros w

  -- where the parts' types do not matter
  alone : (w : Wire B) (p : Datum) (bytes : List ℕ) → IsWirePart padded Allowed w p bytes → IsWirePart padded (IsAllowed []) (shape w) p bytes
  alone (Simple s) p bytes h = h
  alone (Opt b) part.Null bytes h = h
  alone (Opt b) part.Present bytes h = h
  alone (Opt b) p bytes h = absurd h
  alone (Vec b) (part.Many n) bytes h = (λ e. absurd (let f = e in cc), h.1)
  alone (Vec b) p bytes h = absurd h
  alone (Record es) (part.Record n) bytes h = (h.0 ∙ sym (length-map es (map_entry zeros)), h.1)
  alone (Record es) p bytes h = absurd h
  alone (Variant es) (part.Tag i) bytes h = (subst (λ (k : ℕ). i < k) (sym (length-map es (map_entry zeros))) h.0, h.1)
  alone (Variant es) p bytes h = absurd h
  alone (Func ps rs m) (part.Method p name) bytes h = h
  alone (Func ps rs m) p bytes h = absurd h
  alone (Service ms) (part.Actor p) bytes h = h
  alone (Service ms) p bytes h = absurd h

  pub one_part : (w : Wire B) (p q : Datum) (a b x y : List ℕ) → IsWirePart padded Allowed w p a → IsWirePart padded Allowed w q b → a ++ x ≡ b ++ y → (p ≡ q) × (x ≡ y)
  one_part w p q a b x y h k e =
      let exact = shape_exact [] (shape w) in
      front_first p q x y (part_by [] (shape w) (b ++ y)) (ap (part_by [] (shape w)) (sym e) ∙ exact.complete p a x (alone w p a h)) (exact.complete q b y (alone w q b k))

one_string : (s t a b x y : List ℕ) → IsString padded s a → IsString padded t b → a ++ x ≡ b ++ y → (s ≡ t) × (x ≡ y)
one_string s t a b x y h k e =
    let exact = string_exact BadValue in
    front_first s t x y (string_at BadValue (b ++ y)) (ap (string_at BadValue) (sym e) ∙ exact.complete s a x h) (exact.complete t b y k)

module _ {A : Type 0} (Allowed : ℕ → Ref A → Type 0) (head : A → Node A) where
  abbrev Spelled : Node A → Datum → List ℕ → Type 0
  Spelled n p bytes = IsSpelledBy padded Allowed head n p bytes

  one_node : (n : Node A) (p q : Datum) (a b x y : List ℕ) → IsPartOf n p → Spelled n p a → IsPartOf n q → Spelled n q b → a ++ x ≡ b ++ y → (p ≡ q) × (x ≡ y)
  one_node node.Blob (part.Blob s) (part.Blob t) a b x y hp h kp k e = let r = one_string s t a b x y h.1 k.1 e in (ap (λ (z : List ℕ). part.Blob z) r.0, r.1)
  one_node node.Blob (part.Blob s) q a b x y hp h kp k e = absurd kp
  one_node node.Blob p q a b x y hp h kp k e = absurd hp
  one_node node.Char (part.Char c) (part.Char d) a b x y hp h kp k e =
      let r = one_part Allowed (wire_of_node head node.Char) (part.Number (pos c)) (part.Number (pos d)) a b x y h k e in
      let f : part.Number (pos c) ≡ part.Number (pos d) = r.0 in
      let g : c ≡ d = cc in
      (ap (λ (z : ℕ). part.Char z) g, r.1)
  one_node node.Char (part.Char c) q a b x y hp h kp k e = absurd kp
  one_node node.Char p q a b x y hp h kp k e = absurd hp
  one_node node.Any (part.Record m) (part.Record n) a b x y hp h kp k e = (ap (λ (z : ℕ). part.Record z) (hp ∙ sym kp), ap (λ (l : List ℕ). l ++ x) (sym h) ∙ e ∙ ap (λ (l : List ℕ). l ++ y) k)
  one_node node.Any (part.Record m) q a b x y hp h kp k e = absurd kp
  one_node node.Any p q a b x y hp h kp k e = absurd hp
  one_node n p q a b x y hp h kp k e = one_part Allowed (wire_of_node head n) p q a b x y h k e

  abbrev PartAt : Ref A → Datum → List ℕ → Type 0
  PartAt r p bytes = IsPartAt padded Allowed head r p bytes

  pub one_at : (r : Ref A) (p q : Datum) (a b x y : List ℕ) → PartAt r p a → PartAt r q b → a ++ x ≡ b ++ y → (p ≡ q) × (x ≡ y)
  one_at (Of t) p q a b x y h k e = one_node (head t) p q a b x y h.0 h.1 k.0 k.1 e
  one_at (Just plain.Null) p q a b x y h k e = (h.0 ∙ sym k.0, ap (λ (l : List ℕ). l ++ x) (sym h.1) ∙ e ∙ ap (λ (l : List ℕ). l ++ y) k.1)
  one_at (Just s) p q a b x y h k e = absurd h
